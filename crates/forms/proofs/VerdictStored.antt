-- A verdict stored behind those that stand is put.
use Prim.Native.Nat.{ℕ, ◌+◌}
use mathlib.Core.Path.{◌≡◌, sym, ◌∙◌, ap}
use mathlib.Core.List.{List, [], ◌∷◌, ◌++◌}
use native.Mathlib.Omega.{arith}
use lib.ListN.{length}
use Rattle.words.specs.Words.{Bytes, stored}
use Rattle.words.specs.WordLaws.{length_stored, then_stored}
use Rattle.rules.specs.declared.answer.Verdict.{Verdict}
use Rattle.rules.specs.Lists.{flat}
use Rattle.rules.specs.Refused.{verdict_bytes}
use Rattle.laws.specs.ListLaws.{flat_snoc}
use Rattle.laws.specs.VerdictLength.{verdicts_length_lem}
use Rattle.forms.specs.VerdictForm.{verdict_place}
use Rattle.forms.specs.VerdictWriting.{VerdictsPut, VerdictAdded}

pub verdict_added : (i : ℕ) (v : Verdict) (l : Bytes) {m : Bytes} → m ≡ stored l (verdict_place i) (verdict_bytes v) → VerdictAdded i v l m
verdict_added i v l {m} q = record { long = ap length q ∙ length_stored l (verdict_place i) (verdict_bytes v); behind = behind }
  where
    behind : (vs : List Verdict) (before : Bytes) → length vs ≡ i → VerdictsPut vs before l → VerdictsPut (vs ++ v ∷ []) before m
    behind vs before n p =
        let there : verdict_place i ≡ 0 + length (flat verdict_bytes vs) = omega (arith, verdicts_length_lem vs, n) in
        record {
          bytes = then_stored before 0 (verdict_place i) (flat verdict_bytes vs) (verdict_bytes v) p.bytes q there ∙ ap (stored before 0) (sym (flat_snoc verdict_bytes vs v));
        }
