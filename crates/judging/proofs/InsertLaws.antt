-- The first key above another that a set inserts, and that any committed set does.
use Rattle.std.specs.Prelude.{if◌then◌else◌, Option, None, Some}
use Prim.Native.Nat.{ℕ, ◌+◌, ◌≤◌, ◌<◌}
use mathlib.Core.Path.{◌≡◌, refl, sym, ◌∙◌, ap}
use mathlib.Core.Logic.{◌⊎◌, inl, inr, ⊎_elim}
use mathlib.Core.Bool.{Bool, true, false}
use mathlib.Core.List.{List}
use native.Mathlib.Omega.{arith}
use borrow.Author.Tests.{ltb-true, ltb-false}
use lib.ListN.{length}
use lib.Dec.{ltb}
use Rattle.rules.specs.Sheet.{WriteSet, Sheet, insert, sound_records}
use Rattle.laws.specs.Distinct.{tri, less, more, equal}
use Rattle.laws.specs.Says.{clash}
use Rattle.sheets.specs.SheetReadings.{set_at, record_at}
use Rattle.judging.specs.Tables.{none_at}
use Rattle.judging.specs.Judged.{Inserts, InsertsIn, IsLeast, LeastAbove, smaller}
use Rattle.judging.proofs.InOrder.{larger_record}

-- ---- in one set

-- no record before record j inserts a key above `after`
abbrev pub NoneBefore : WriteSet → ℕ → ℕ → Type 0
NoneBefore w after j = (k : ℕ) → k < j → (record_at w k).kind ≡ insert → (record_at w k).key ≤ after

module _ (w : WriteSet) (after j : ℕ) (f : NoneBefore w after j) where
  pub insert_here : sound_records w.records ≡ true → j < length w.records → (record_at w j).kind ≡ insert → after < (record_at w j).key
      → LeastAbove (Inserts w) after (Some (record_at w j).key)
  insert_here s h e a =
      record { above = a; holds = record { number = j; within = h; is_insert_lem = e; keyed = refl }; least = go }
    where
      go : (k : ℕ) → after < k → Inserts w k → (record_at w j).key ≤ k
      go k b p =
          let q = p.keyed in
          let in_set = p.within in
          elim (tri p.number j) [
            | less l ↦ let c = f p.number l p.is_insert_lem in absurd (omega arith)
            | equal l ↦ let c = ap (λ (n : ℕ). (record_at w n).key) l in omega arith
            | more l ↦ let c = larger_record w s j p.number l in_set in omega arith
          ]

  pub insert_none : length w.records ≤ j → LeastAbove (Inserts w) after None
  insert_none h k b p =
      let q = p.keyed in let in_set = p.within in let c = f p.number (omega arith) p.is_insert_lem in omega arith

-- ---- the smaller of two

module _ {P Q R : ℕ → Type 0} (after : ℕ) (of : (k : ℕ) → R k → P k ⊎ Q k) (left : (k : ℕ) → P k → R k) where
  -- P's least is R's, where Q has none
  least_alone : (a : Option ℕ) → LeastAbove P after a → LeastAbove Q after None → LeastAbove R after a
  least_alone None p q = λ k h r. ⊎_elim (λ x. p k h x) (λ x. q k h x) (of k r)
  least_alone (Some a) p q =
      record { above = p.above; holds = left a p.holds; least = λ k h r. ⊎_elim (λ x. p.least k h x) (λ x. absurd (q k h x)) (of k r) }

  -- or a larger one
  least_first : (a b : ℕ) → a ≤ b → IsLeast P after a → IsLeast Q after b → IsLeast R after a
  least_first a b l p q =
      record {
        above = p.above;
        holds = left a p.holds;
        least = λ k h r. ⊎_elim (λ x. p.least k h x) (λ x. let m = q.least k h x in omega arith) (of k r);
      }

swapped : {P Q R : ℕ → Type 0} → ((k : ℕ) → R k → P k ⊎ Q k) → (k : ℕ) → R k → Q k ⊎ P k
swapped of k r = ⊎_elim inr inl (of k r)

module _ {P Q R : ℕ → Type 0} (after : ℕ) (of : (k : ℕ) → R k → P k ⊎ Q k) (left : (k : ℕ) → P k → R k) (right : (k : ℕ) → Q k → R k) where
  smaller-least : (a b : Option ℕ) → LeastAbove P after a → LeastAbove Q after b → LeastAbove R after (smaller a b)
  smaller-least None b p q = least_alone after (swapped of) right b q p
  smaller-least (Some j) None p q = least_alone after of left (Some j) p q
  smaller-least (Some j) (Some k) p q = go (ltb k j) refl
    where
      go : (t : Bool) → ltb k j ≡ t → LeastAbove R after (if t then Some k else Some j)
      go true e = let l = ltb-true k j e in least_first after (swapped of) right k j (omega arith) q p
      go false e = least_first after of left j k (ltb-false k j e) p q

-- ---- in the sets before set i

module _ (s : Sheet) (lost : List (Option ℕ)) (i : ℕ) where
  wider : (k : ℕ) → InsertsIn s lost i k → InsertsIn s lost (i + 1) k
  wider k p = let h = p.within in record { number = p.number; within = omega arith; committed = p.committed; inserts = p.inserts }

  here : none_at lost i ≡ true → (k : ℕ) → Inserts (set_at s i) k → InsertsIn s lost (i + 1) k
  here z k p = record { number = i; within = omega arith; committed = z; inserts = p }

  split : (k : ℕ) → InsertsIn s lost (i + 1) k → InsertsIn s lost i k ⊎ ((none_at lost i ≡ true) × Inserts (set_at s i) k)
  split k p =
      let h = p.within in
      elim (tri p.number i) [
        | less l ↦ inl (record { number = p.number; within = l; committed = p.committed; inserts = p.inserts })
        | equal l ↦ inr (ap (none_at lost) (sym l) ∙ p.committed, rw l at p.inserts)
        | more l ↦ absurd (omega arith)
      ]

  module _ (after : ℕ) where
    pub inserts_more : (a b : Option ℕ) → none_at lost i ≡ true → LeastAbove (InsertsIn s lost i) after a → LeastAbove (Inserts (set_at s i)) after b
        → LeastAbove (InsertsIn s lost (i + 1)) after (smaller a b)
    inserts_more a b z p q = smaller-least after (λ k r. ⊎_elim inl (λ x. inr x.1) (split k r)) wider (here z) a b p q

    pub inserts_same : (a : Option ℕ) → none_at lost i ≡ false → LeastAbove (InsertsIn s lost i) after a → LeastAbove (InsertsIn s lost (i + 1)) after a
    inserts_same a z p = least_alone after split wider a p (λ k h x. clash x.0 z)

pub inserts_none : (s : Sheet) (lost : List (Option ℕ)) (after : ℕ) → LeastAbove (InsertsIn s lost 0) after None
inserts_none s lost after k h r = let l = r.within in omega arith
