-- The next rows, whatever chose the committed sets: their keys strictly ascend, and they are exactly the old rows that remain and the
-- rows of the inserts. A list of rows that ascends and has just these is the list of the next rows.
use Rattle.std.specs.Prelude.{◌<◌, ◌≡◌, ◌⊎◌, Bool, ltb, if◌then◌else◌}
use Rattle.std.proofs.Math.Path.{refl, sym, ap}
use Rattle.std.proofs.Common.{◌∙◌}
use Rattle.std.proofs.Math.Logic.{inl, inr, ⊎_elim}
use Rattle.std.proofs.Math.Bool.{true, false, not, false≢true}
use mathlib.Core.List.Memᴰ
use mathlib.Core.List.{List, [], ◌∷◌, map, Memᴰ}
use native.Mathlib.Omega.{arith}
use borrow.Author.Tests.{ltb-true, ltb-false, eqb-true, eq-eqb, not-true}
use Rattle.std.proofs.Math.Dec.{eqb}
use Rattle.rules.specs.declared.row.Row.{Row}
use Rattle.rules.specs.declared.row.Record.{Record}
use Rattle.rules.specs.Lists.{keep, flat, ascend_from}
use Rattle.rules.specs.Register.{Register, key_of, sound_register}
use Rattle.rules.specs.Sheet.{WriteSet, Sheet, insert, sound_sheet}
use Rattle.rules.specs.Closing.{present, fit_record}
use Rattle.rules.specs.Becoming.{mark_after, applied, applied_to, value_by, is_deleted, row_after, inserted_row, put_row, put_rows, rows_after}
use Rattle.laws.specs.ListLaws.{Sub, →any, keep→, →keep, flat→, →flat}
use Rattle.laws.specs.RegisterLaws.{sound_register→}
use Rattle.laws.specs.Rising.{Rising, nil, cons, Above, rising→, →rising, rising_unique}
use Rattle.laws.specs.Choice.{Choice}
use Rattle.laws.specs.Applied.{OneEach, one_more, each_keep, applied_each, applied_fits, applied_above}

-- ---- a row goes in among rows

module _ (r : Row) where
  pub put→ : (qs : List Row) {x : Row} → Memᴰ x (put_row r qs) → (x ≡ r) ⊎ Memᴰ x qs
  unfolding put_row
  put→ [] m = Memᴰ.cases_cons m
  put→ (q ∷ qs) {x} m = go (ltb r.key q.key) m (put→ qs)
    where
      go : (t : Bool) → Memᴰ x (if t then r ∷ q ∷ qs else q ∷ put_row r qs) → (Memᴰ x (put_row r qs) → (x ≡ r) ⊎ Memᴰ x qs) → (x ≡ r) ⊎ Memᴰ x (q ∷ qs)
      go true m below = Memᴰ.cases_cons m
      go false m below = ⊎_elim (λ e. inr (Memᴰ.head e)) (λ k. ⊎_elim inl (λ l. inr (Memᴰ.tail l)) (below k)) (Memᴰ.cases_cons m)

  →put : (qs : List Row) {x : Row} → (x ≡ r) ⊎ Memᴰ x qs → Memᴰ x (put_row r qs)
  unfolding put_row
  →put [] d = ⊎_elim (λ e. Memᴰ.head e) (λ m. absurd (Memᴰ.not-nil m)) d
  →put (q ∷ qs) {x} d = go (ltb r.key q.key) (→put qs)
    where
      go : (t : Bool) → ((x ≡ r) ⊎ Memᴰ x qs → Memᴰ x (put_row r qs)) → Memᴰ x (if t then r ∷ q ∷ qs else q ∷ put_row r qs)
      go true below = ⊎_elim (λ e. Memᴰ.head e) (λ m. Memᴰ.tail m) d
      go false below =
          ⊎_elim (λ e. Memᴰ.tail (below (inl e))) (λ m. ⊎_elim (λ e. Memᴰ.head e) (λ k. Memᴰ.tail (below (inr k))) (Memᴰ.cases_cons m)) d

  -- among rows of other keys it leaves them in order
  put_rising : {qs : List Row} → ((q : Row) → Memᴰ q qs → q.key ≡ r.key → ⊥) → Rising key_of qs → Rising key_of (put_row r qs)
  unfolding put_row
  put_rising d nil = cons (λ y m. absurd (Memᴰ.not-nil m)) nil
  put_rising d (cons {x = q} {xs = qs} f s) = go (ltb r.key q.key) refl (put_rising (λ p m. d p (Memᴰ.tail m)) s)
    where
      low : r.key < q.key → (y : Row) → (y ≡ q) ⊎ Memᴰ y qs → r.key < y.key
      low h y i = ⊎_elim (λ e. let c = ap key_of e in omega arith) (λ k. let c = f y k in omega arith) i

      high : q.key < r.key → (y : Row) → (y ≡ r) ⊎ Memᴰ y qs → q.key < y.key
      high h y i = ⊎_elim (λ e. let c = ap key_of e in omega arith) (λ k. f y k) i

      go : (t : Bool) → ltb r.key q.key ≡ t → Rising key_of (put_row r qs) → Rising key_of (if t then r ∷ q ∷ qs else q ∷ put_row r qs)
      go true p below = cons (λ y m. low (ltb-true _ _ p) y (Memᴰ.cases_cons m)) (cons f s)
      go false p below =
          let c = ltb-false r.key q.key p in
          let o = d q (Memᴰ.head refl) in
          let h : q.key < r.key = omega arith in
          cons (λ y m. high h y (put→ qs m)) below

put_rows→ : (rs qs : List Row) {x : Row} → Memᴰ x (put_rows rs qs) → Memᴰ x rs ⊎ Memᴰ x qs
unfolding put_rows
put_rows→ [] qs m = inr m
put_rows→ (r ∷ rs) qs m = ⊎_elim (λ e. inl (Memᴰ.head e)) (λ k. ⊎_elim (λ l. inl (Memᴰ.tail l)) inr (put_rows→ rs qs k)) (put→ r (put_rows rs qs) m)

→put_rows : (rs qs : List Row) {x : Row} → Memᴰ x rs ⊎ Memᴰ x qs → Memᴰ x (put_rows rs qs)
unfolding put_rows
→put_rows [] qs d = ⊎_elim (λ m. absurd (Memᴰ.not-nil m)) (λ m. m) d
→put_rows (r ∷ rs) qs d =
    →put r (put_rows rs qs)
    (⊎_elim (λ m. ⊎_elim inl (λ k. inr (→put_rows rs qs (inl k))) (Memᴰ.cases_cons m)) (λ m. inr (→put_rows rs qs (inr m))) d)

-- ---- an old row after closing: none, or one of its key

module _ (s : Sheet) (c : List WriteSet) where
  -- the row that remains
  abbrev pub remaining_row : Row → Row
  remaining_row row = record { key = row.key; value = value_by (applied_to (applied c) row.key) row.value; mark = mark_after s c row.key row.mark }

  pub gone : (row : Row) → is_deleted (applied_to (applied c) row.key) ≡ true → row_after s c row ≡ []
  unfolding row_after
  gone row e = rw e

  pub remains : (row : Row) → is_deleted (applied_to (applied c) row.key) ≡ false → row_after s c row ≡ remaining_row row ∷ []
  unfolding row_after
  remains row e = rw e

  pub row_after→ : (row x : Row) → Memᴰ x (row_after s c row) → (is_deleted (applied_to (applied c) row.key) ≡ false) × (x ≡ remaining_row row)
  row_after→ row x m = go (is_deleted (applied_to (applied c) row.key)) refl
    where
      go : (t : Bool) → is_deleted (applied_to (applied c) row.key) ≡ t → (is_deleted (applied_to (applied c) row.key) ≡ false) × (x ≡ remaining_row row)
      go true e = absurd (Memᴰ.not-nil (rw (gone row e) at m))
      go false e = (e, Memᴰ.eq_of_singleton (rw (remains row e) at m))

  pub →row_after : (row : Row) → is_deleted (applied_to (applied c) row.key) ≡ false → Memᴰ (remaining_row row) (row_after s c row)
  →row_after row e = rw (remains row e) (Memᴰ.head refl)

  pub key_stays : (row x : Row) → Memᴰ x (row_after s c row) → x.key ≡ row.key
  key_stays row x m = ap key_of (row_after→ row x m).1

  -- the old rows that remain are in order
  old_rising : {rows : List Row} → Rising key_of rows → Rising key_of (flat (row_after s c) rows)
  unfolding flat
  old_rising nil = nil
  old_rising (cons {x} {xs} f r) = go (is_deleted (applied_to (applied c) x.key)) refl (old_rising r)
    where
      below : (y : Row) → Memᴰ y (flat (row_after s c) xs) → x.key < y.key
      below y m = let p = flat→ (row_after s c) xs m in let e = key_stays p.0 y p.2 in let h = f p.0 p.1 in omega arith

      go : (t : Bool) → is_deleted (applied_to (applied c) x.key) ≡ t → Rising key_of (flat (row_after s c) xs) → Rising key_of (flat (row_after s c) (x ∷ xs))
      go true e h = rw (gone x e) h
      go false e h = rw (remains x e) (cons below h)

-- ---- the rows of the next register

module _ (g : Register) (s : Sheet) (c : List WriteSet) where
  -- what an old row became
  abbrev pub Remains : Row → Type 0
  Remains x = (row : Row) × Memᴰ row g.rows × Memᴰ x (row_after s c row)

  -- the row of an insert of a committed set
  abbrev pub Inserted : Row → Type 0
  Inserted x = (r : Record) × Memᴰ r (applied c) × (r.kind ≡ insert) × (x ≡ inserted_row s c r)

  inserts : List Record
  inserts = keep (λ r. eqb r.kind insert) (applied c)

  olds : List Row
  olds = flat (row_after s c) g.rows

  pub next→ : (x : Row) → Memᴰ x (rows_after s c g.rows) → Remains x ⊎ Inserted x
  unfolding rows_after inserts olds
  next→ x m =
      ⊎_elim
      (λ k.
      let p = Memᴰ.of_map (inserted_row s c) inserts k in
      let q = keep→ (λ r. eqb r.kind insert) (applied c) p.1 in
      inr (p.0, q.0, eqb-true _ _ q.1, sym p.2))
      (λ k. inl (flat→ (row_after s c) g.rows k))
      (put_rows→ (map (inserted_row s c) inserts) olds m)

  pub →next_old : (row x : Row) → Memᴰ row g.rows → Memᴰ x (row_after s c row) → Memᴰ x (rows_after s c g.rows)
  unfolding rows_after inserts olds
  →next_old row x m k = →put_rows (map (inserted_row s c) inserts) olds (inr (→flat (row_after s c) m k))

  pub →next_insert : (r : Record) → Memᴰ r (applied c) → r.kind ≡ insert → Memᴰ (inserted_row s c r) (rows_after s c g.rows)
  unfolding rows_after inserts olds
  →next_insert r m e =
      →put_rows (map (inserted_row s c) inserts) olds
      (inl (Memᴰ.map (inserted_row s c) (→keep (λ r. eqb r.kind insert) m (eq-eqb r.kind insert e))))

  -- an inserted key is no old row's
  pub insert_absent : Choice g s c → (r : Record) → Memᴰ r (applied c) → r.kind ≡ insert → (row : Row) → Memᴰ row g.rows → row.key ≡ r.key → ⊥
  unfolding fit_record present
  insert_absent h r m e row k q =
      let f : fit_record g r ≡ true = applied_fits g s c h r m in
      let n : not (present g r.key) ≡ true = simp (eq-eqb r.kind insert e) at f in
      false≢true (sym (not-true (present g r.key) n) ∙ →any (λ q. eqb q.key r.key) k (eq-eqb row.key r.key q))

  module _ (h : Choice g s c) (sound_g : sound_register g ≡ true) (sound_s : sound_sheet s ≡ true) where
    rows_rising : Rising key_of g.rows × Above key_of 0 g.rows
    rows_rising = rising→ key_of 0 g.rows (sound_register→ g sound_g).keys

    inserts_rising : (rs : List Record) → OneEach rs → ((r : Record) → Memᴰ r rs → Memᴰ r inserts) → Rising key_of (put_rows (map (inserted_row s c) rs) olds)
    unfolding put_rows inserted_row olds inserts
    inserts_rising [] d i = old_rising s c rows_rising.0
    inserts_rising (r ∷ rs) (one_more f d) i =
        let k = keep→ (λ r. eqb r.kind insert) (applied c) (i r (Memᴰ.head refl)) in
        put_rising (inserted_row s c r)
        (λ q m e.
        ⊎_elim
        (λ j. let p = Memᴰ.of_map (inserted_row s c) rs j in f p.0 p.1 (ap key_of p.2 ∙ e))
        (λ j.
        let p = flat→ (row_after s c) g.rows j in
        insert_absent h r k.0 (eqb-true _ _ k.1) p.0 p.1 (sym (key_stays s c p.0 q p.2) ∙ e))
        (put_rows→ (map (inserted_row s c) rs) olds m))
        (inserts_rising rs d (λ q m. i q (Memᴰ.tail m)))

    -- THE KEYS OF THE NEXT ROWS STRICTLY ASCEND, FROM 1 ON
    pub next_rising : Rising key_of (rows_after s c g.rows)
    unfolding rows_after inserts olds
    next_rising = inserts_rising inserts (each_keep _ (applied_each g s c h sound_s)) (λ r m. m)

    pub next_above : Above key_of 0 (rows_after s c g.rows)
    unfolding inserted_row
    next_above x m =
        ⊎_elim
        (λ p. let e = key_stays s c p.0 x p.2 in let l = rows_rising.1 p.0 p.1 in omega arith)
        (λ p. let e = ap key_of p.3 in let l = applied_above g s c h sound_s p.0 p.1 in omega arith)
        (next→ x m)

    pub next_ascends : ascend_from 0 (map key_of (rows_after s c g.rows)) ≡ true
    next_ascends = →rising key_of 0 next_rising next_above

    -- ROWS THAT ASCEND, OF WHICH EACH REMAINS OR IS INSERTED AND AMONG WHICH ALL SUCH ARE, ARE THE NEXT ROWS
    pub next_unique : (xs : List Row) → Rising key_of xs → Sub xs (rows_after s c g.rows) → Sub (rows_after s c g.rows) xs → xs ≡ rows_after s c g.rows
    next_unique xs r a b = rising_unique key_of r next_rising a b
