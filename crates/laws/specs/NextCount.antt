-- How many rows the next register has, whatever chose the committed sets: the old ones and the committed inserts, less the committed
-- deletes. So room freed by deletes in an epoch serves that epoch's inserts.
use Prim.Native.Nat.{ℕ, suc, ◌+◌, ◌≤◌, ◌<◌}
use Rattle.std.specs.Prelude.{◌≡◌, Bool, ltb, eqb, if◌then◌else◌, Option, None, Some}
use Rattle.std.proofs.Math.Path.{refl, sym, ap}
use Rattle.std.proofs.Common.{◌∙◌, ⊎_elim}
use Rattle.std.proofs.Math.Bool.{true, false}
use Rattle.std.proofs.lemmas.Bool.{false≢true}
use mathlib.Core.List.Memᴰ
use mathlib.Core.List.{List, [], ◌∷◌, map, Memᴰ}
use native.Mathlib.Omega.{arith}
use borrow.Author.Tests.{eqb-true}
use Rattle.std.proofs.Math.ListN.{length, length-map}
use Rattle.rules.specs.declared.row.Row.{Row}
use Rattle.rules.specs.declared.row.Record.{Record}
use Rattle.rules.specs.Lists.{keep, flat, count}
use Rattle.rules.specs.Register.{Register, key_of, sound_register}
use Rattle.rules.specs.Sheet.{WriteSet, Sheet, record_key, insert, delete, sound_sheet}
use Rattle.rules.specs.Becoming.{applied, applied_to, is_deleted, row_after, inserted_row, put_row, put_rows, rows_after}
use Rattle.laws.specs.ListLaws.{Sub, keep→, →keep}
use Rattle.laws.specs.RegisterLaws.{sound_register→}
use Rattle.laws.specs.Rising.{Rising, nil, cons, rising→, rising_keep}
use Rattle.laws.specs.Choice.{Choice}
use Rattle.laws.specs.Applied.{OneEach, none_left, one_more, each_keep, applied_each, applied_to→}
use Rattle.laws.specs.NextRows.{gone, remains}
use Rattle.laws.specs.Whole.{names_old, is_deleted_lem}

-- ---- lists of different numbers: fewer of them make no longer list

data Different : List ℕ → Type 0 where
  nothing : Different []
  another : {x : ℕ} {xs : List ℕ} → (Memᴰ x xs → ⊥) → Different xs → Different (x ∷ xs)

-- the list without one of its elements
without : {x : ℕ} {xs : List ℕ} → Memᴰ x xs → List ℕ
without (Memᴰ.head {xs} e) = xs
without (Memᴰ.tail {x} m) = x ∷ without m

without_length : {x : ℕ} {xs : List ℕ} (m : Memᴰ x xs) → length xs ≡ suc (length (without m))
unfolding without
without_length (Memᴰ.head e) = refl
without_length (Memᴰ.tail m) = ap suc (without_length m)

without_other : {x y : ℕ} {xs : List ℕ} (m : Memᴰ x xs) → Memᴰ y xs → (y ≡ x → ⊥) → Memᴰ y (without m)
unfolding without
without_other (Memᴰ.head e) k d = ⊎_elim (λ q. absurd (d (q ∙ sym e))) (λ l. l) (Memᴰ.cases_cons k)
without_other (Memᴰ.tail m) k d = ⊎_elim (λ q. Memᴰ.head q) (λ l. Memᴰ.tail (without_other m l d)) (Memᴰ.cases_cons k)

no_longer : {xs : List ℕ} → Different xs → (ys : List ℕ) → Sub xs ys → length xs ≤ length ys
no_longer nothing ys s = omega arith
no_longer (another {x} {xs} f d) ys s =
    let m = s x (Memᴰ.head refl) in
    let h = no_longer d (without m) (λ y k. without_other m (s y (Memᴰ.tail k)) (λ e. f (rw e at k))) in
    let l = without_length m in
    omega arith

-- the keys of rows in order, and of records of which no two have one key
later_key : (x y : Row) → x.key < y.key → y.key ≡ x.key → ⊥
later_key x y h e = omega arith

rows_different : {rows : List Row} → Rising key_of rows → Different (map key_of rows)
rows_different nil = nothing
rows_different (cons {x} {xs} f r) =
    another (λ m. let p = Memᴰ.of_map key_of xs m in later_key x p.0 (f p.0 p.1) p.2) (rows_different r)

records_different : {rs : List Record} → OneEach rs → Different (map record_key rs)
records_different none_left = nothing
records_different (one_more {r} {rs} f d) = another (λ m. let p = Memᴰ.of_map record_key rs m in f p.0 p.1 p.2) (records_different d)

-- ---- lengths

put_length : (r : Row) (qs : List Row) → length (put_row r qs) ≡ suc (length qs)
unfolding put_row
put_length r [] = refl
put_length r (q ∷ qs) = go (ltb r.key q.key) (put_length r qs)
  where
    go : (t : Bool) → length (put_row r qs) ≡ suc (length qs) → length (if t then r ∷ q ∷ qs else q ∷ put_row r qs) ≡ suc (suc (length qs))
    go true h = refl
    go false h = ap suc h

puts_length : (rs qs : List Row) → length (put_rows rs qs) ≡ length rs + length qs
unfolding put_rows
puts_length [] qs = omega arith
puts_length (r ∷ rs) qs = put_length r (put_rows rs qs) ∙ ap suc (puts_length rs qs) ∙ omega arith

module _ (g : Register) (s : Sheet) (c : List WriteSet) where
  -- the row's key is deleted
  is_gone : Row → Bool
  is_gone row = is_deleted (applied_to (applied c) row.key)

  -- each old row is gone, or remains
  split_length : (rows : List Row) → length (flat (row_after s c) rows) + length (keep is_gone rows) ≡ length rows
  unfolding flat keep is_gone
  split_length [] = refl
  split_length (x ∷ xs) = go (is_deleted (applied_to (applied c) x.key)) refl (split_length xs)
    where
      go : (t : Bool) → is_deleted (applied_to (applied c) x.key) ≡ t
          → length (flat (row_after s c) xs) + length (keep is_gone xs) ≡ length xs
          → length (flat (row_after s c) (x ∷ xs)) + length (if t then x ∷ keep is_gone xs else keep is_gone xs) ≡ suc (length xs)
      go true e h = rw (gone s c x e) (omega arith)
      go false e h = rw (remains s c x e) (omega arith)

  is_delete : Record → Bool
  is_delete r = eqb r.kind delete

  is_insert : Record → Bool
  is_insert r = eqb r.kind insert

  module _ (h : Choice g s c) (sound_g : sound_register g ≡ true) (sound_s : sound_sheet s ≡ true) where
    -- a row is gone for a delete of its key, and for each delete a row
    gone_deletes : Sub (map key_of (keep is_gone g.rows)) (map record_key (keep is_delete (applied c)))
    unfolding is_gone is_delete is_deleted
    gone_deletes k m =
        let p = Memᴰ.of_map key_of (keep is_gone g.rows) m in
        let q = keep→ is_gone g.rows p.1 in
        go p.0.key (applied_to (applied c) p.0.key) refl q.1 p.2
      where
        go : (x : ℕ) (o : Option Record) → applied_to (applied c) x ≡ o → is_deleted o ≡ true → x ≡ k → Memᴰ k (map record_key (keep is_delete (applied c)))
        go x None e d q = absurd (false≢true d)
        go x (Some r) e d q =
            let f = applied_to→ (applied c) x r e in Memᴰ.cast (sym q ∙ sym f.1) (Memᴰ.map record_key (→keep is_delete f.0 d))

    deletes_gone : Sub (map record_key (keep is_delete (applied c))) (map key_of (keep is_gone g.rows))
    unfolding is_gone is_delete
    deletes_gone k m =
        let p = Memᴰ.of_map record_key (keep is_delete (applied c)) m in
        let q = keep→ is_delete (applied c) p.1 in
        let e : p.0.kind ≡ delete = eqb-true p.0.kind delete q.1 in
        let o = names_old g s c h p.0 q.0 (λ i. absurd (omega arith)) in
        let d : is_gone o.0 ≡ true = ap (λ (x : ℕ). is_deleted (applied_to (applied c) x)) o.2 ∙ is_deleted_lem g s c h sound_s p.0 q.0 ∙ q.1 in
        Memᴰ.cast (sym p.2 ∙ sym o.2) (Memᴰ.map key_of (→keep is_gone o.1 d))

    as_many : length (keep is_gone g.rows) ≡ length (keep is_delete (applied c))
    as_many =
        let rising = (rising→ key_of 0 g.rows (sound_register→ g sound_g).keys).0 in
        let a = no_longer (rows_different (rising_keep key_of is_gone rising)) _ gone_deletes in
        let b = no_longer (records_different (each_keep is_delete (applied_each g s c h sound_s))) _ deletes_gone in
        let i = length-map (keep is_gone g.rows) key_of in
        let j = length-map (keep is_delete (applied c)) record_key in
        omega arith

    -- THE NEXT ROWS AND THE DELETES ARE AS MANY AS THE OLD ROWS AND THE INSERTS
    pub next_count : length (rows_after s c g.rows) + count (λ r. eqb r.kind delete) (applied c) ≡ length g.rows + count (λ r. eqb r.kind insert) (applied c)
    unfolding rows_after count is_delete is_insert
    next_count =
        let a = puts_length (map (inserted_row s c) (keep is_insert (applied c))) (flat (row_after s c) g.rows) in
        let b = length-map (keep is_insert (applied c)) (inserted_row s c) in
        let i = split_length g.rows in
        let j = as_many in
        omega arith
