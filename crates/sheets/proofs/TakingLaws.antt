-- What a decision names, case by case.
use Prim.Native.Nat.{ℕ, ◌<◌}
use mathlib.Core.Path.{◌≡◌, refl, sym, ap}
use mathlib.Core.Logic.{◌⊎◌, inl, inr}
use borrow.Author.Tests.{lt-ltb, le-ltb}
use native.Mathlib.Omega.{arith}
use lib.ListN.{length}
use Rattle.rules.specs.Sheet.{WriteSet, Sheet}
use Rattle.sheets.specs.declared.next.Next.{Next}
use Rattle.sheets.specs.declared.next.Next.TheVariants.{First, Second, Both}
use Rattle.sheets.specs.SheetReadings.{set_at}
use Rattle.sheets.specs.Taking.{taken, next_of, Within, Smaller, Chosen}

module _ (a b : Sheet) (i j : ℕ) (n : Next) (k : Chosen n a i b j) where
  pub first_within : n ≡ First → i < length a.sets
  first_within e = let l : Within First a i b j = rw e at k.within in l

  pub second_within : (n ≡ Second) ⊎ (n ≡ Both) → j < length b.sets
  second_within (inl e) = let l : Within Second a i b j = rw e at k.within in l
  second_within (inr e) = let l : Within Both a i b j = rw e at k.within in l.1

module _ (v w : WriteSet) (n : Next) where
  pub first_taken : n ≡ First → v ≡ taken n v w
  unfolding taken
  first_taken e = sym (ap (λ (m : Next). taken m v w) e)

  pub second_taken : (n ≡ Second) ⊎ (n ≡ Both) → w ≡ taken n v w
  unfolding taken
  second_taken (inl e) = sym (ap (λ (m : Next). taken m v w) e)
  second_taken (inr e) = sym (ap (λ (m : Next). taken m v w) e)

-- where both sets are there, the one that is taken is the one with the smaller csn; of a set of both the second's is read
smaller_taken : (n : Next) (v w : WriteSet) → Smaller n v.csn w.csn → taken n v w ≡ next_of v w
unfolding taken next_of
smaller_taken First v w h = simp (lt-ltb v.csn w.csn h) refl
smaller_taken Second v w h = simp (le-ltb v.csn w.csn (omega arith)) refl
smaller_taken Both v w h = simp (le-ltb v.csn w.csn (omega arith)) refl

pub taken_next : (a b : Sheet) (i j : ℕ) (n : Next) → Chosen n a i b j → i < length a.sets → j < length b.sets → taken n (set_at a i) (set_at b j) ≡ next_of (set_at a i) (set_at b j)
taken_next a b i j n k h l = smaller_taken n (set_at a i) (set_at b j) (k.smaller h l)
