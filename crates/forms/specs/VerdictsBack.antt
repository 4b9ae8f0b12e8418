-- VERDICTS COME BACK FROM THEIR BYTES: as many as are asked for, and if their keys are of 32 bits, those that were written.
use Rattle.std.specs.Prelude.{ℕ, zero, suc, ◌+◌, ◌<◌, ◌^◌, ◌≡◌, refl, length, get_or, drop}
use Rattle.std.proofs.Common.{sym, ◌∙◌, ap, ap₂, add-zero, get_or-drop, drop-drop}
use mathlib.Core.List.{List, [], ◌∷◌, ◌++◌, append_assoc, Memᴰ}
use Rattle.words.specs.Words.{Bytes, le, word}
use Rattle.words.specs.WordLaws.{word_le, word_drop}
use Rattle.rules.specs.declared.answer.Verdict.{Verdict}
use Rattle.rules.specs.declared.answer.Verdict.TheVariants.{Commit, Lost, Unfit}
use Rattle.rules.specs.Answers.{verdict_key}
use Rattle.rules.specs.Lists.{flat}
use Rattle.rules.specs.Refused.{verdict_bytes}
use Rattle.forms.specs.VerdictForm.{verdict_of, verdict_in, verdicts_in}

pub verdicts_count : (n : ℕ) (b : Bytes) (at : ℕ) → length (verdicts_in n b at) ≡ n
unfolding verdicts_in
verdicts_count zero b at = refl
verdicts_count (suc n) b at = ap suc (verdicts_count n b (at + 5))

-- a key of 32 bits
abbrev pub Small : Verdict → Type 0
Small v = verdict_key v < 256 ^ 4

verdict_decoded : (v : Verdict) (rest : Bytes) → Small v → verdict_in (verdict_bytes v ++ rest) 0 ≡ v
unfolding verdict_in verdict_of verdict_bytes word le
verdict_decoded Commit rest h = refl
verdict_decoded (Lost k) rest h = ap Lost (word_le 4 k h)
verdict_decoded (Unfit k) rest h = ap Unfit (word_le 4 k h)

verdict_tail : (v : Verdict) (rest : Bytes) → drop 5 (verdict_bytes v ++ rest) ≡ rest
unfolding verdict_bytes le
verdict_tail v rest = refl

verdict_at_lem : (at : ℕ) (b : Bytes) {l : Bytes} → drop at b ≡ l → verdict_in b at ≡ verdict_in l 0
unfolding verdict_in
verdict_at_lem at b e =
    ap₂ verdict_of
    (ap (λ (k : ℕ). get_or b k 0) (sym (add-zero at)) ∙ sym (get_or-drop at b 0 0) ∙ ap (λ (x : Bytes). get_or x 0 0) e)
    (sym (word_drop 4 at b 1) ∙ ap (λ (x : Bytes). word 4 x 1) e)

-- the verdicts that stand at a place are read there
pub verdicts_at : (vs : List Verdict) (b : Bytes) (at : ℕ) (rest : Bytes) → ((v : Verdict) → Memᴰ v vs → Small v) → drop at b ≡ flat verdict_bytes vs ++ rest
    → verdicts_in (length vs) b at ≡ vs
unfolding verdicts_in flat
verdicts_at [] b at rest h d = refl
verdicts_at (v ∷ vs) b at rest h d =
    let more = flat verdict_bytes vs ++ rest in
    let d₁ : drop at b ≡ verdict_bytes v ++ more = d ∙ append_assoc (verdict_bytes v) (flat verdict_bytes vs) rest in
    let d₂ : drop (at + 5) b ≡ more = sym (drop-drop 5 at b) ∙ ap (drop 5) d₁ ∙ verdict_tail v more in
    ap₂ ◌∷◌
    (verdict_at_lem at b d₁ ∙ verdict_decoded v more (h v (Memᴰ.head refl)))
    (verdicts_at vs b (at + 5) rest (λ u m. h u (Memᴰ.tail m)) d₂)
