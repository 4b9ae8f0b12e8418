-- Where the row of a key stands in a register: the keys ascend, so one row at most has it.
use Rattle.std.specs.Prelude.{None, Some}
use Prim.Native.Nat.{ℕ, zero, suc, ◌<◌}
use mathlib.Core.Path.{◌≡◌, refl, sym, ◌∙◌, ap}
use mathlib.Core.Logic.{⊎_elim}
use mathlib.Core.Bool.{Bool, true, false}
use mathlib.Core.List.{List, [], ◌∷◌}
use native.Mathlib.Nat.{eq-or-lt_of_le}
use native.Mathlib.Omega.{arith}
use borrow.Author.Tests.{leb-true, leb-false, eq-eqb, ne_eqb}
use lib.ListN.{length, get_or}
use lib.Dec.{leb, eqb}
use Rattle.words.specs.Words.{Bytes}
use Rattle.rules.specs.declared.row.Row.{Row}
use Rattle.rules.specs.Lists.{first}
use Rattle.rules.specs.Register.{Register, sound_register, register_in, is_register}
use Rattle.laws.specs.RegisterLaws.{register_sound}
use Rattle.registers.specs.RegisterReadings.{no_row, row_at}
use Rattle.registers.specs.RowsRise.{larger}
use Rattle.reads.specs.Entries.{row_with}

module _ {A : Type 0} (p : A → Bool) (d : A) where
  first_at : (xs : List A) (i : ℕ) → i < length xs → p (get_or xs i d) ≡ true → ((k : ℕ) → k < i → p (get_or xs k d) ≡ false) → first p xs ≡ Some (get_or xs i d)
  unfolding first
  first_at [] i l e h = absurd (omega arith)
  first_at (x ∷ xs) zero l e h = rw e
  first_at (x ∷ xs) (suc i) l e h = rw (h 0 (omega arith)) (first_at xs i (omega arith) e (λ k m. h (suc k) (omega arith)))

  first_absent : (xs : List A) → ((k : ℕ) → k < length xs → p (get_or xs k d) ≡ false) → first p xs ≡ None
  unfolding first
  first_absent [] h = refl
  first_absent (x ∷ xs) h = rw (h 0 (omega arith)) (first_absent xs (λ k m. h (suc k) (omega arith)))

-- a row of a larger key stands further on
pub beyond : (g : Register) → sound_register g ≡ true → (i j : ℕ) → i < length g.rows → (row_at g i).key < (row_at g j).key → i < j
beyond g s i j h l = go (leb j i) refl
  where
    go : (t : Bool) → leb j i ≡ t → i < j
    go false e = leb-false j i e
    go true e =
        ⊎_elim (λ (q : j ≡ i). absurd (omega (arith, ap (λ (k : ℕ). (row_at g k).key) q)))
        (λ (m : j < i). absurd (omega (arith, larger g s j i m h)))
        (eq-or-lt_of_le (leb-true j i e))

-- the row that was met with the key is the one, and where no row has it there is none
pub there : (b : Bytes) → is_register b ≡ true → (i key : ℕ) {r : Row} → i < length (register_in b).rows → (row_at (register_in b) i).key ≡ key → r ≡ row_at (register_in b) i → Some r ≡ row_with (register_in b) key
there b e i key h k q =
    let g = register_in b in
    ap Some q ∙ sym (at g i key h k (λ j l. larger g (register_sound b e) j i l h))
  where
    at : (g : Register) (i key : ℕ) → i < length g.rows → (row_at g i).key ≡ key → ((j : ℕ) → j < i → (row_at g j).key < (row_at g i).key) → row_with g key ≡ Some (row_at g i)
    at g i key h k f =
        unfold row_at in first_at (λ r. eqb r.key key) no_row g.rows i h (eq-eqb _ _ k) (λ j l. ne_eqb _ _ (λ (q : (get_or g.rows j no_row).key ≡ key). omega (arith, f j l)))

pub absent : (g : Register) (key : ℕ) → ((k : ℕ) → k < length g.rows → (row_at g k).key ≡ key → ⊥) → None ≡ row_with g key
unfolding row_at
absent g key h = sym (first_absent (λ r. eqb r.key key) no_row g.rows (λ k l. ne_eqb _ _ (h k l)))
