-- WHOLE OR NOT AT ALL, whatever chose the committed sets: after a commit every record of the set stands in the next rows, and each of
-- them bears the set's mark; a row that no committed set names stands as it stood, mark included, and an absent key stays absent.
use Rattle.std.specs.Prelude.{ℕ, ◌≡◌, Option, None, Some}
use Rattle.std.proofs.Math.Path.{refl, sym, ap}
use Rattle.std.proofs.Common.{◌∙◌, arith}
use Rattle.std.proofs.Math.Logic.{⊎_elim}
use Rattle.std.proofs.Math.Bool.{true, false, false≢true}
use mathlib.Core.List.{List, [], ◌∷◌, Memᴰ}
use borrow.Author.Tests.{eqb-true, eq-eqb, ne_eqb}
use Rattle.std.proofs.Math.Dec.{eqb}
use Rattle.rules.specs.declared.mark.Mark.{Mark}
use Rattle.rules.specs.declared.row.Row.{Row}
use Rattle.rules.specs.declared.row.Record.{Record}
use Rattle.rules.specs.Numbers.{fresh}
use Rattle.rules.specs.Register.{Register, key_of}
use Rattle.rules.specs.Sheet.{WriteSet, Sheet, change, insert, delete, sound_sheet}
use Rattle.rules.specs.Closing.{present, fit_record, names, mark_in}
use Rattle.rules.specs.Becoming.{applied, applied_to, value_by, is_deleted, mark_by, mark_after, row_after, inserted_row, rows_after}
use Rattle.laws.specs.ListLaws.{any→, →any}
use Rattle.laws.specs.Commits.{names_own}
use Rattle.laws.specs.Choice.{Choice, Unnamed, →committed_on_none, committed_on_is}
use Rattle.laws.specs.Applied.{applied→, →applied, applied_each, applied_fits, applied_to_is, applied_to_none}
use Rattle.laws.specs.NextRows.{remains, row_after→, →row_after, key_stays, next→, →next_old, →next_insert, insert_absent}

-- one of the rows has this key and value
abbrev pub Stands : List Row → ℕ → ℕ → Type 0
Stands rows k v = (x : Row) × Memᴰ x rows × (x.key ≡ k) × (x.value ≡ v)

-- none of the rows has this key
abbrev pub Absent : List Row → ℕ → Type 0
Absent rows k = (x : Row) → Memᴰ x rows → x.key ≡ k → ⊥

-- what a record asks of the next rows, by its kind
pub record Done (rows : List Row) (r : Record) : Type 0 where
  pub changed : r.kind ≡ change → Stands rows r.key r.value
  pub inserted : r.kind ≡ insert → Stands rows r.key r.value
  pub deleted : r.kind ≡ delete → Absent rows r.key

-- the old register's row of a key
pub present→ : (g : Register) (k : ℕ) → present g k ≡ true → (row : Row) × Memᴰ row g.rows × (row.key ≡ k)
unfolding present
present→ g k e = let p = any→ (λ r. eqb r.key k) g.rows e in (p.0, p.1, eqb-true _ _ p.2)

module _ (g : Register) (s : Sheet) (c : List WriteSet) where
  -- ---- a key that a committed set names

  module _ (h : Choice g s c) where
    -- a record that is no insert names a row of the old register
    pub names_old : (r : Record) → Memᴰ r (applied c) → (r.kind ≡ insert → ⊥) → (row : Row) × Memᴰ row g.rows × (row.key ≡ r.key)
    unfolding fit_record
    names_old r m n =
        let f : fit_record g r ≡ true = applied_fits g s c h r m in
        present→ g r.key (simp (ne_eqb r.kind insert n) at f)

    -- A ROW OF THE NEXT REGISTER THAT A COMMITTED SET NAMES BEARS ITS MARK
    pub marked : (x : Row) (w : WriteSet) → Memᴰ x (rows_after s c g.rows) → Memᴰ w c → names w x.key ≡ true → x.mark ≡ mark_in s w
    unfolding mark_after mark_by inserted_row
    marked x w m i n =
        ⊎_elim
        (λ p. by p.0.mark (row_after→ s c p.0 x p.2).1)
        (λ p. by fresh p.3)
        (next→ g s c x m)
      where
        by : (old : Mark) {k v : ℕ} → x ≡ record { key = k; value = v; mark = mark_after s c k old } → x.mark ≡ mark_in s w
        by old e =
            ap (λ (r : Row). r.mark) e ∙ ap (λ (j : ℕ). mark_after s c j old) (sym (ap key_of e))
            ∙ ap (mark_by s old) (committed_on_is g s c h x.key w i n)

    module _ (sound : sound_sheet s ≡ true) where
      applied_is : (r : Record) → Memᴰ r (applied c) → applied_to (applied c) r.key ≡ Some r
      applied_is r m = applied_to_is (applied c) r (applied_each g s c h sound) m

      pub is_deleted_lem : (r : Record) → Memᴰ r (applied c) → is_deleted (applied_to (applied c) r.key) ≡ eqb r.kind delete
      unfolding is_deleted
      is_deleted_lem r m = ap is_deleted (applied_is r m)

      stands_changed : (r : Record) → Memᴰ r (applied c) → r.kind ≡ change → Stands (rows_after s c g.rows) r.key r.value
      unfolding value_by
      stands_changed r m e =
          let o = names_old r m (λ i. absurd (omega arith)) in
          let d : is_deleted (applied_to (applied c) o.0.key) ≡ false =
          ap (λ (k : ℕ). is_deleted (applied_to (applied c) k)) o.2 ∙ is_deleted_lem r m ∙ ne_eqb r.kind delete (λ i. absurd (omega arith)) in (
            _,
            →next_old g s c o.0 _ o.1 (→row_after s c o.0 d),
            o.2,
            ap (λ (k : ℕ). value_by (applied_to (applied c) k) o.0.value) o.2 ∙ ap (λ (a : Option Record). value_by a o.0.value) (applied_is r m),
          )

      stands_inserted : (r : Record) → Memᴰ r (applied c) → r.kind ≡ insert → Stands (rows_after s c g.rows) r.key r.value
      unfolding inserted_row
      stands_inserted r m e = (inserted_row s c r, →next_insert g s c r m e, refl, refl)

      absent_deleted : (r : Record) → Memᴰ r (applied c) → r.kind ≡ delete → Absent (rows_after s c g.rows) r.key
      unfolding inserted_row
      absent_deleted r m e x k q =
          ⊎_elim
          (λ p.
          let a = row_after→ s c p.0 x p.2 in
          let i : p.0.key ≡ r.key = sym (key_stays s c p.0 x p.2) ∙ q in
          false≢true (sym a.0 ∙ ap (λ (k : ℕ). is_deleted (applied_to (applied c) k)) i ∙ is_deleted_lem r m ∙ eq-eqb r.kind delete e))
          (λ p.
          let o = names_old r m (λ i. absurd (omega arith)) in
          insert_absent g s c h p.0 p.1 p.2 o.0 o.1 (o.2 ∙ sym q ∙ ap key_of p.3))
          (next→ g s c x k)

      -- AFTER A COMMIT EVERY RECORD OF THE SET STANDS IN THE NEXT REGISTER
      pub whole : (w : WriteSet) → Memᴰ w c → (r : Record) → Memᴰ r w.records → Done (rows_after s c g.rows) r
      whole w m r k =
          let a = →applied c r (record { set = w; committed = m; in_set = k }) in
          record { changed = stands_changed r a; inserted = stands_inserted r a; deleted = absent_deleted r a }

  -- ---- a key that no committed set names

  unnamed_none : (k : ℕ) → Unnamed c k → applied_to (applied c) k ≡ None
  unnamed_none k u =
      applied_to_none (applied c) k
      (λ r m e. let a = applied→ c r m in u a.set a.committed (ap (names a.set) (sym e) ∙ names_own a.set r a.in_set))

  -- A ROW THAT NO COMMITTED SET NAMES BECOMES ITSELF, MARK INCLUDED
  pub not_at_all : (row : Row) → Unnamed c row.key → row_after s c row ≡ row ∷ []
  unfolding is_deleted value_by mark_after mark_by
  not_at_all row u =
      let n = unnamed_none row.key u in
      remains s c row (ap is_deleted n)
      ∙ (λ i. record { key = row.key; value = value_by (n i) row.value; mark = mark_by s row.mark (→committed_on_none c row.key u i) } ∷ [])

  -- SO IT STANDS IN THE NEXT REGISTER AS IT STOOD
  pub stays : (row : Row) → Memᴰ row g.rows → Unnamed c row.key → Memᴰ row (rows_after s c g.rows)
  stays row m u = →next_old g s c row row m (rw (not_at_all row u) (Memᴰ.head refl))

  -- AND AN ABSENT KEY STAYS ABSENT
  pub stays_absent : (k : ℕ) → present g k ≡ false → Unnamed c k → Absent (rows_after s c g.rows) k
  unfolding present inserted_row
  stays_absent k e u x m q =
      ⊎_elim
      (λ p. false≢true (sym e ∙ →any (λ r. eqb r.key k) p.1 (eq-eqb _ _ (sym (key_stays s c p.0 x p.2) ∙ q))))
      (λ p.
      let a = applied→ c p.0 p.1 in
      u a.set a.committed (ap (names a.set) (sym q ∙ ap key_of p.3) ∙ names_own a.set p.0 a.in_set))
      (next→ g s c x m)
