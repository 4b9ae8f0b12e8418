-- Where verdict i of many stands.
use Prim.Native.Nat.{ℕ, zero, suc, ◌+◌, ◌*◌, ◌<◌}
use mathlib.Core.Path.{◌≡◌, sym, ◌∙◌, ap}
use native.Mathlib.Nat.{add-zero}
use native.Mathlib.Omega.{arith}
use Rattle.words.specs.Words.{Bytes}
use Rattle.forms.specs.VerdictForm.{verdict_place, verdict_in, verdicts_in, verdict_at}

pub verdict_place_lem : (n : ℕ) (b : Bytes) (at i : ℕ) → i < n → verdict_at (verdicts_in n b at) i ≡ verdict_in b (at + verdict_place i)
unfolding verdicts_in verdict_at
verdict_place_lem zero b at i h = absurd (omega arith)
verdict_place_lem (suc n) b at zero h = ap (verdict_in b) (sym (add-zero at))
verdict_place_lem (suc n) b at (suc i) h =
    let e : at + 5 + 5 * i ≡ at + 5 * suc i = omega arith in
    verdict_place_lem n b (at + 5) i (omega arith) ∙ ap (verdict_in b) e
