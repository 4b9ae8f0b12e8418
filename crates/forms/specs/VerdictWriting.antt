-- Verdicts written one behind the other: what a buffer holds after each, told by the verdicts and not by their places; and the laws that put steps together.
use Rattle.std.specs.Prelude.{ℕ, ◌≤◌, ◌≡◌, List, [], ◌∷◌, ◌++◌, length}
use Rattle.std.proofs.Common.{◌∙◌, arith}
use Rattle.words.specs.Words.{Bytes, stored}
use Rattle.words.specs.WordLaws.{nothing_stored, stored_front}
use Rattle.rules.specs.declared.answer.Verdict.{Verdict}
use Rattle.rules.specs.Lists.{flat}
use Rattle.rules.specs.Refused.{verdict_bytes}
use Rattle.rules.specs.Promises.{over}
use Rattle.laws.specs.VerdictLength.{verdicts_length_lem}
use Rattle.forms.specs.VerdictForm.{verdicts_length}

-- a buffer that held `before` has these verdicts at its start
pub record VerdictsPut (vs : List Verdict) (before after : Bytes) : Type 0 where
  pub bytes : after ≡ stored before 0 (flat verdict_bytes vs)

-- from one buffer to the next a verdict is put behind whatever i verdicts stood
pub record VerdictAdded (i : ℕ) (v : Verdict) (entry exit : Bytes) : Type 0 where
  pub long : length exit ≡ length entry
  pub behind : (vs : List Verdict) (before : Bytes) → length vs ≡ i → VerdictsPut vs before entry → VerdictsPut (vs ++ v ∷ []) before exit

pub none_put : {l : Bytes} → VerdictsPut [] l l
unfolding flat
none_put {l} = record { bytes = nothing_stored l 0 }

-- they stand over what the buffer held
pub verdicts_stand : (vs : List Verdict) {before after : Bytes} → verdicts_length (length vs) ≤ length before → VerdictsPut vs before after
    → after ≡ over before (flat verdict_bytes vs)
unfolding over
verdicts_stand vs {before} room p = p.bytes ∙ stored_front before (flat verdict_bytes vs) (omega (arith, verdicts_length_lem vs, room))
