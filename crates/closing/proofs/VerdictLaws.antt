-- The verdict that the two tables make is the paper's, and the verdicts of the first sets are put one behind the other.
use Prim.Native.Nat.{ℕ, zero, suc, ◌+◌, ◌≤◌, ◌<◌}
use mathlib.Core.Path.{◌≡◌, refl, sym, ap}
use mathlib.Core.List.{List, [], ◌∷◌, ◌++◌, map}
use Rattle.std.specs.Prelude.{Option, None, Some}
use native.Mathlib.Numerals.{add-one}
use native.Mathlib.Omega.{arith}
use lib.ListN.{length, get_or, take, length-map}
use lib.Seq.{take_all, length-take-le}
use Rattle.words.specs.Words.{Bytes}
use Rattle.rules.specs.declared.row.Record.{Record}
use Rattle.rules.specs.declared.answer.Verdict.{Verdict}
use Rattle.rules.specs.Lists.{flat}
use Rattle.rules.specs.Register.{Register}
use Rattle.rules.specs.Sheet.{WriteSet, Sheet, max_sets}
use Rattle.rules.specs.Closing.{first_wrong, first_lost, judged, verdict, verdicts}
use Rattle.rules.specs.Refused.{verdict_room, verdict_bytes}
use Rattle.rules.specs.Promises.{over}
use Rattle.sheets.specs.SheetReadings.{set_at, no_set}
use Rattle.forms.specs.VerdictWriting.{VerdictsPut, VerdictAdded, none_put, verdicts_stand}
use Rattle.judging.specs.Tables.{first_key, wrong_key, lost_key}
use Rattle.closing.specs.Outcome.{verdict_by}

pub verdict_by_lem : (g : Register) (s : Sheet) (w : WriteSet) → verdict_by (wrong_key g w) (lost_key g s w) ≡ verdict g s w
unfolding verdict wrong_key lost_key
verdict_by_lem g s w = go (first_wrong g w) (first_lost g s w)
  where
    go : (a b : Option Record) → verdict_by (first_key a) (first_key b) ≡ judged a b
    go (Some r) b = unfold judged in refl
    go None (Some r) = unfold judged in refl
    go None None = unfold judged in refl

take_map_more : {A B : Type 0} (f : A → B) (d : A) (xs : List A) (i : ℕ) → i < length xs → take (suc i) (map f xs) ≡ take i (map f xs) ++ (f (get_or xs i d) ∷ [])
take_map_more f d [] i h = absurd (omega arith)
take_map_more f d (x ∷ xs) zero h = refl
take_map_more f d (x ∷ xs) (suc i) h = ap (λ (l : List _). f x ∷ l) (take_map_more f d xs i (omega arith))

-- the verdicts of the first i sets
unfoldable pub first_verdicts : Register → Sheet → ℕ → List Verdict
first_verdicts g s i = take i (verdicts g s)

module _ (g : Register) (s : Sheet) (l₀ : Bytes) where
  pub verdicts_start : VerdictsPut (first_verdicts g s 0) l₀ l₀
  unfolding first_verdicts
  verdicts_start = none_put

  pub verdicts_step : (i : ℕ) {l₁ l₂ : Bytes} (v : Verdict) → i < length s.sets → v ≡ verdict g s (set_at s i) → VerdictsPut (first_verdicts g s i) l₀ l₁ → VerdictAdded i v l₁ l₂
      → VerdictsPut (first_verdicts g s (i + 1)) l₀ l₂
  unfolding first_verdicts verdicts set_at
  verdicts_step i v h e p q =
      let n : length (take i (map (verdict g s) s.sets)) ≡ i = length-take-le i (map (verdict g s) s.sets) (omega (arith, length-map s.sets (verdict g s))) in
      rw (add-one i, take_map_more (verdict g s) no_set s.sets i h, sym e) (q.behind (take i (map (verdict g s) s.sets)) l₀ n p)

  pub verdicts_end : (i : ℕ) {l : Bytes} → length s.sets ≤ i → length s.sets ≤ max_sets → verdict_room ≤ length l₀ → VerdictsPut (first_verdicts g s i) l₀ l
      → l ≡ over l₀ (flat verdict_bytes (verdicts g s))
  unfolding first_verdicts verdicts
  verdicts_end i h few room p =
      let all = take_all i (map (verdict g s) s.sets) (omega (arith, length-map s.sets (verdict g s))) in
      verdicts_stand (map (verdict g s) s.sets) (omega (arith, length-map s.sets (verdict g s))) (rw all at p)
