-- Counting the sets of each master while sets are walked: those that are counted and those that are left are all.
use Rattle.std.specs.Prelude.{ℕ, ◌+◌, ◌*◌, ◌<◌, ◌≤◌, ◌≡◌, List, [], ◌∷◌, length, get_or, set}
use Rattle.std.proofs.Common.{sym, ◌∙◌, ap, arith, eq-eqb, ne_eqb, length-set, get_or-set_same, get_or-set_other}
use Rattle.std.proofs.Math.Decide.{ℕ_discrete}
use Rattle.rules.specs.Lists.{keep, count}
use Rattle.rules.specs.Numbers.{master_of}
use Rattle.rules.specs.Sheet.{WriteSet, max_sets, sets_of}
use Rattle.sheets.specs.SheetReadings.{master_count}

-- ---- the sets of one master

sets_yes : (m : ℕ) (w : WriteSet) (ws : List WriteSet) → master_of w.csn ≡ m → sets_of m (w ∷ ws) ≡ 1 + sets_of m ws
unfolding sets_of count keep
sets_yes m w ws e = rw (eq-eqb (master_of w.csn) m e) (omega arith)

sets_no : (m : ℕ) (w : WriteSet) (ws : List WriteSet) → (master_of w.csn ≡ m → ⊥) → sets_of m (w ∷ ws) ≡ sets_of m ws
unfolding sets_of count keep
sets_no m w ws h = rw (ne_eqb (master_of w.csn) m h)

sets_le : (m : ℕ) (ws : List WriteSet) → sets_of m ws ≤ length ws
unfolding sets_of count keep
sets_le m [] = omega arith
sets_le m (w ∷ ws) =
    elim (ℕ_discrete (master_of w.csn) m) [
      | yes e ↦ rw (sets_yes m w ws e) (omega (arith, sets_le m ws))
      | no h ↦ rw (sets_no m w ws h) (omega (arith, sets_le m ws))
    ]

-- ---- sixteen counters

-- each master's counter has those of all sets that are not left
pub record Counting (all left : List WriteSet) (by : List ℕ) : Type 0 where
  pub long : length by ≡ master_count
  pub each : (m : ℕ) → m < master_count → sets_of m all ≡ get_or by m 0 + sets_of m left

-- no counter overflows
pub count_room : {all left : List WriteSet} {by : List ℕ} → Counting all left by → length all ≤ 2 * max_sets → (m : ℕ) → m < master_count → get_or by m 0 < 255
count_room {all} k h m small = omega (arith, k.each m small, sets_le m all)

pub count_more : {all left : List WriteSet} {by after : List ℕ} {w : WriteSet} (x : ℕ) → Counting all (w ∷ left) by → x ≡ w.csn
    → after ≡ set by (master_of x) (get_or by (master_of x) 0 + 1) → Counting all left after
count_more {all} {left} {by} {after} {w} x k e s = record {
  long = ap length s ∙ omega (arith, k.long, length-set {A = ℕ});
  each = λ m small.
      elim (ℕ_discrete (master_of x) m) [
        | yes h ↦
            let new : get_or after m 0 ≡ get_or by m 0 + 1 = rw (s, h) (get_or-set_same by m (get_or by m 0 + 1) 0 (omega (arith, k.long))) in
            omega (arith, k.each m small, sets_yes m w left (ap master_of (sym e) ∙ h))
        | no h ↦
            let old : get_or after m 0 ≡ get_or by m 0 = rw s (get_or-set_other by (master_of x) m (get_or by (master_of x) 0 + 1) 0 (λ r. h (sym r))) in
            omega (arith, k.each m small, sets_no m w left (λ r. h (ap master_of e ∙ r)))
      ];
}

-- where none is left each counter has all
pub count_all : {all left : List WriteSet} {by : List ℕ} → Counting all left by → left ≡ [] → (m : ℕ) → m < master_count → get_or by m 0 ≡ sets_of m all
unfolding sets_of count keep
count_all k e m small = omega (arith, rw e at (k.each m small))
