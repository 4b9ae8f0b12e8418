-- A set's records held against a register's rows: what a walk over both tells of the first record found wrong.
use Prim.Native.Nat.{ℕ, ◌<◌}
use mathlib.Core.Path.{◌≡◌, ◌∙◌, ap}
use mathlib.Core.Bool.{true, false, not}
use native.Mathlib.Omega.{arith}
use borrow.Author.Tests.{eqb-true, eq-eqb, ne_eqb}
use lib.ListN.{length}
use lib.Dec.{eqb}
use Rattle.rules.specs.declared.row.Record.{Record}
use Rattle.rules.specs.Register.{Register, key_of, sound_register}
use Rattle.rules.specs.Sheet.{insert}
use Rattle.rules.specs.Closing.{present, fit_record}
use Rattle.laws.specs.Tests.{not_true_false}
use Rattle.laws.specs.ListLaws.{any→, →any}
use Rattle.laws.specs.Distinct.{tri, less, more, equal}
use Rattle.registers.specs.RegisterReadings.{row_at, no_row}
use Rattle.registers.specs.RowsRise.{larger}
use Rattle.laws.specs.Places.{at_mem, mem_at}

-- ---- a key among the rows

present_at : (g : Register) (i k : ℕ) → i < length g.rows → (row_at g i).key ≡ k → present g k ≡ true
unfolding present row_at
present_at g i k h e = →any (λ r. eqb r.key k) (at_mem no_row g.rows i h) (eq-eqb _ _ e)

-- every row before place `at` has a smaller key, and the row there, if there is one, a larger
pub record Nowhere (g : Register) (k at : ℕ) : Type 0 where
  pub before : (i : ℕ) → i < at → (row_at g i).key < k
  pub there : at < length g.rows → k < (row_at g at).key

nowhere_not : (g : Register) (k at : ℕ) → sound_register g ≡ true → Nowhere g k at → (i : ℕ) → i < length g.rows → (row_at g i).key ≡ k → ⊥
nowhere_not g k at s n i h e =
    elim (tri i at) [
      | less l ↦ let a = n.before i l in absurd (omega arith)
      | equal q ↦ let a : k < (row_at g at).key = n.there (omega arith) in let b = ap (λ (j : ℕ). (row_at g j).key) q in absurd (omega arith)
      | more l ↦ let a : k < (row_at g at).key = n.there (omega arith) in let b = larger g s at i l h in absurd (omega arith)
    ]

absent_at : (g : Register) (k at : ℕ) → sound_register g ≡ true → Nowhere g k at → present g k ≡ false
unfolding present row_at
absent_at g k at s n =
    not_true_false (λ e.
    let p = any→ (λ r. eqb r.key k) g.rows e in
    let q = mem_at no_row p.1 in
    nowhere_not g k at s n q.0 q.1 (ap key_of q.2 ∙ eqb-true _ _ p.2))

-- ---- a record

module _ (g : Register) (r : Record) where
  fit_other : (r.kind ≡ insert → ⊥) → fit_record g r ≡ present g r.key
  unfolding fit_record
  fit_other n = rw (ne_eqb r.kind insert n)

  fit_insert : r.kind ≡ insert → fit_record g r ≡ not (present g r.key)
  unfolding fit_record
  fit_insert e = rw (eq-eqb r.kind insert e)

  module _ (at : ℕ) (h : at < length g.rows) (e : (row_at g at).key ≡ r.key) where
    pub fits_there : (r.kind ≡ insert → ⊥) → fit_record g r ≡ true
    fits_there n = fit_other n ∙ present_at g at r.key h e

    pub wrong_there : r.kind ≡ insert → fit_record g r ≡ false
    wrong_there n = fit_insert n ∙ ap not (present_at g at r.key h e)

  module _ (at : ℕ) (s : sound_register g ≡ true) (h : Nowhere g r.key at) where
    pub fits_nowhere : r.kind ≡ insert → fit_record g r ≡ true
    fits_nowhere n = fit_insert n ∙ ap not (absent_at g r.key at s h)

    pub wrong_nowhere : (r.kind ≡ insert → ⊥) → fit_record g r ≡ false
    wrong_nowhere n = fit_other n ∙ absent_at g r.key at s h
