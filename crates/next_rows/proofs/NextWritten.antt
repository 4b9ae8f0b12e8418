-- The next rows written in the order of their keys: `At` says where a walk over old rows and inserts stands, and what one step writes.
use Rattle.std.specs.Prelude.{if◌then◌else◌, Option, None, Some}
use Prim.Native.Nat.{ℕ, suc, ◌+◌, ◌≤◌, ◌<◌}
use mathlib.Core.Path.{◌≡◌, refl, sym, ◌∙◌, ap}
use mathlib.Core.Logic.{⊎_elim}
use mathlib.Core.Bool.{Bool, true, false}
use mathlib.Core.List.Memᴰ
use mathlib.Core.List.{List, [], ◌∷◌, ◌++◌, Memᴰ}
use Rattle.std.proofs.lemmas.Option.{same_Some, none-some}
use native.Mathlib.Omega.{arith}
use borrow.Author.Count.{below_more}
use borrow.Author.Tests.{leb-true, leb-false, le-leb}
use lib.ListN.{length}
use lib.Dec.{leb}
use Rattle.rules.specs.declared.row.Row.{Row}
use Rattle.rules.specs.declared.row.Record.{Record}
use Rattle.rules.specs.Lists.{keep}
use Rattle.rules.specs.Register.{Register, key_of, sound_register}
use Rattle.rules.specs.Sheet.{WriteSet, Sheet, insert, record_key, sound_sheet}
use Rattle.rules.specs.Becoming.{applied, applied_to, is_deleted, row_after, inserted_row, rows_after}
use Rattle.laws.specs.ListLaws.{keep→, →keep}
use Rattle.laws.specs.RegisterLaws.{sound_register→}
use Rattle.laws.specs.Distinct.{tri, less, more, equal}
use Rattle.laws.specs.Rising.{Rising, nil, cons, rising→, rising_unique, rising_keep, rising_append}
use Rattle.laws.specs.Choice.{Choice}
use Rattle.laws.specs.Applied.{applied→, applied_each, applied_to_is}
use Rattle.laws.specs.NextRows.{gone, remains, key_stays, next→, →next_old, →next_insert, insert_absent, next_rising, next_above}
use Rattle.registers.specs.RegisterReadings.{row_at, no_row}
use Rattle.registers.specs.RowsRise.{larger}
use Rattle.sheets.specs.SheetReadings.{set_at, record_at}
use Rattle.judging.specs.Tables.{committed_in}
use Rattle.judging.specs.Judged.{Inserts, InsertsIn, LeastAbove}
use Rattle.next_rows.specs.NextRow.{Later}
use Rattle.laws.specs.Places.{mem_at, at_mem}
use Rattle.sheets.specs.SheetMembers.{record_number}
use Rattle.judging.specs.TableLaws.{CommitsAt, committed_in→, applied_at}

-- the rows whose keys are at most a
unfoldable pub up_to : ℕ → List Row → List Row
up_to a xs = keep (λ r. leb r.key a) xs

up_to→ : (a : ℕ) (xs : List Row) (x : Row) → Memᴰ x (up_to a xs) → Memᴰ x xs × (x.key ≤ a)
unfolding up_to
up_to→ a xs x m = let r = keep→ (λ r. leb r.key a) xs m in (r.0, leb-true x.key a r.1)

→up_to : (a : ℕ) (xs : List Row) (x : Row) → Memᴰ x xs → x.key ≤ a → Memᴰ x (up_to a xs)
unfolding up_to
→up_to a xs x m h = →keep (λ r. leb r.key a) m (le-leb x.key a h)

-- a row of xs between a and b
record Between (xs : List Row) (a b : ℕ) (x : Row) : Type 0 where
  in_list : Memᴰ x xs
  above : a < x.key
  within : x.key ≤ b

-- if ys are the rows between a and b, those up to b are those up to a, and ys
up_to_more : {xs : List Row} (a b : ℕ) (ys : List Row) → Rising key_of xs → a ≤ b → Rising key_of ys
    → ((x : Row) → Memᴰ x ys → Between xs a b x) → ((x : Row) → Between xs a b x → Memᴰ x ys) → up_to b xs ≡ up_to a xs ++ ys
unfolding up_to
up_to_more {xs} a b ys r h ry f t =
    rising_unique key_of (rising_keep key_of _ r) (rising_append key_of (rising_keep key_of _ r) ry (λ x y m k. apart x y (up_to→ a xs x m).1 (f y k).above))
    (λ x m. let p = up_to→ b xs x m in go x p.0 p.1 (leb x.key a) refl)
    (λ x m. ⊎_elim (λ k. let p = up_to→ a xs x k in →up_to b xs x p.0 (far x p.1)) (λ k. let p = f x k in →up_to b xs x p.in_list p.within) (Memᴰ.append_cases (up_to a xs) m))
  where
    apart : (x y : Row) → x.key ≤ a → a < y.key → x.key < y.key
    apart x y p q = omega arith

    far : (x : Row) → x.key ≤ a → x.key ≤ b
    far x p = omega arith

    go : (x : Row) → Memᴰ x xs → x.key ≤ b → (u : Bool) → leb x.key a ≡ u → Memᴰ x (up_to a xs ++ ys)
    go x m k true e = Memᴰ.append_left ys (→up_to a xs x m (leb-true x.key a e))
    go x m k false e = Memᴰ.append_right (up_to a xs) (t x (record { in_list = m; above = leb-false x.key a e; within = k }))

-- all rows are up to a, where none is above it
up_to_all : {xs : List Row} (a : ℕ) → Rising key_of xs → ((x : Row) → Memᴰ x xs → a < x.key → ⊥) → up_to a xs ≡ xs
unfolding up_to
up_to_all {xs} a r f =
    rising_unique key_of (rising_keep key_of _ r) r (λ x m. (up_to→ a xs x m).0) (λ x m. →up_to a xs x m (not_above x (f x m)))
  where
    not_above : (x : Row) → (a < x.key → ⊥) → x.key ≤ a
    not_above x n = omega arith

-- none is up to 0
up_to_none : {xs : List Row} → Rising key_of xs → ((x : Row) → Memᴰ x xs → 0 < x.key) → up_to 0 xs ≡ []
unfolding up_to
up_to_none {xs} r f =
    rising_unique key_of (rising_keep key_of _ r) nil (λ x m. let p = up_to→ 0 xs x m in absurd (never x (f x p.0) p.1)) (λ x m. absurd (Memᴰ.not-nil m))
  where
    never : (x : Row) → 0 < x.key → x.key ≤ 0 → ⊥
    never x p q = omega arith

keep_length : {A : Type 0} (p : A → Bool) (xs : List A) → length (keep p xs) ≤ length xs
unfolding keep
keep_length p [] = omega arith
keep_length p (x ∷ xs) = go (p x) (keep_length p xs)
  where
    go : (t : Bool) → length (keep p xs) ≤ length xs → length (if t then x ∷ keep p xs else keep p xs) ≤ suc (length xs)
    go true h = omega arith
    go false h = omega arith

pub up_to_length : (a : ℕ) (xs : List Row) → length (up_to a xs) ≤ length xs
unfolding up_to
up_to_length a xs = keep_length _ xs

-- ---- where the walk stands

-- the keys that committed sets insert
abbrev pub New : Sheet → List (Option ℕ) → ℕ → Type 0
New s lost = InsertsIn s lost (length s.sets)

-- the rows before row i have keys up to `after`, the others above it; `next` is the first insert above it
pub record At (g : Register) (s : Sheet) (lost : List (Option ℕ)) (i after : ℕ) (next : Option ℕ) : Type 0 where
  pub passed : (u : ℕ) → u < i → (row_at g u).key ≤ after
  pub to_come : (u : ℕ) → i ≤ u → u < length g.rows → after < (row_at g u).key
  pub coming : LeastAbove (New s lost) after next

-- no insert before the first one
at_most : (P : ℕ → Type 0) (after : ℕ) (next : Option ℕ) → LeastAbove P after next → (j : ℕ) → after < j → P j → (k : ℕ) × (next ≡ Some k) × (k ≤ j)
at_most P after None c j a p = absurd (c j a p)
at_most P after (Some k) c j a p = (k, refl, c.least j a p)

-- what is the first above one number is the first above a later one that it is above
still_coming : (P : ℕ → Type 0) (after key : ℕ) (next : Option ℕ) → after ≤ key → Later key next → LeastAbove P after next → LeastAbove P key next
still_coming P after key None h l c = λ j a p. c j (omega arith) p
still_coming P after key (Some k) h l c = record { above = l; holds = c.holds; least = λ j a p. c.least j (omega arith) p }

-- the sets that commit by the table, rightly chosen
module _ (g : Register) (s : Sheet) (lost : List (Option ℕ)) (sound_g : sound_register g ≡ true) (sound_s : sound_sheet s ≡ true) (chosen : Choice g s (committed_in s lost)) where
  -- them, and the next rows by them
  abbrev C : List WriteSet
  C = committed_in s lost

  abbrev rows : List Row
  rows = rows_after s C g.rows

  -- an applied insert is a new key, and the other way
  new_key : (r : Record) → Memᴰ r (applied C) → r.kind ≡ insert → New s lost r.key
  new_key r m e =
      let a = applied→ C r m in
      let u = committed_in→ s lost a.set a.committed in
      let j = record_number a.set a.in_set in
      rw_set a.set u (record { number = j.0; within = j.1; is_insert_lem = ap (λ (x : Record). x.kind) j.2 ∙ e; keyed = ap record_key j.2 })
    where
      rw_set : (w : WriteSet) → CommitsAt s lost w → Inserts w r.key → New s lost r.key
      rw_set w u p = record { number = u.number; within = u.within; committed = u.no_key; inserts = rw (sym u.is_set) at p }

  new_record : (k : ℕ) → New s lost k → (r : Record) × Memᴰ r (applied C) × (r.kind ≡ insert) × (r.key ≡ k)
  new_record k p =
      let q = p.inserts in
      (record_at (set_at s p.number) q.number, applied_at s lost p.number q.number p.within p.committed q.within, q.is_insert_lem, q.keyed)

  -- the old row that a row of the next register remains of, by its number
  old_number : (row : Row) → Memᴰ row g.rows → (u : ℕ) × (u < length g.rows) × (row_at g u ≡ row)
  unfolding row_at
  old_number row m = mem_at no_row m

  old_in : (u : ℕ) → u < length g.rows → Memᴰ (row_at g u) g.rows
  unfolding row_at
  old_in u h = at_mem no_row g.rows u h

  after_rising : (row : Row) → Rising key_of (row_after s C row)
  after_rising row = go (is_deleted (applied_to (applied C) row.key)) refl
    where
      go : (b : Bool) → is_deleted (applied_to (applied C) row.key) ≡ b → Rising key_of (row_after s C row)
      go true e = rw (gone s C row e) nil
      go false e = rw (remains s C row e) (cons (λ y m. absurd (Memᴰ.not-nil m)) nil)

  -- where a row of the next register that is above `after` comes from: an old row to come, or an insert to come
  module _ (i after : ℕ) (next : Option ℕ) (at : At g s lost i after next) (x : Row) (m : Memᴰ x (rows)) (above : after < x.key) where
    pub data From : Type 0 where
      a_row : (u : ℕ) → i ≤ u → u < length g.rows → x.key ≡ (row_at g u).key → Memᴰ x (row_after s C (row_at g u)) → From
      an_insert : (r : Record) → Memᴰ r (applied C) → r.kind ≡ insert → x ≡ inserted_row s C r → x.key ≡ r.key → (k : ℕ) → next ≡ Some k → k ≤ r.key → From

    from : From
    unfolding inserted_row
    from =
        ⊎_elim
        (λ q. let u = old_number q.0 q.1 in row_from u.0 u.1 (rw (sym u.2) at q.2))
        (λ q. insert_from q.0 q.1 q.2 q.3 (ap key_of q.3))
        (next→ g s C x m)
      where
        row_from : (u : ℕ) → u < length g.rows → Memᴰ x (row_after s C (row_at g u)) → From
        row_from u h k =
            let c = key_stays s C (row_at g u) x k in
            elim (tri u i) [
              | less l ↦ let b = at.passed u l in absurd (omega arith)
              | equal l ↦ a_row u (omega arith) h c k
              | more l ↦ a_row u (omega arith) h c k
            ]

        insert_from : (r : Record) → Memᴰ r (applied C) → r.kind ≡ insert → x ≡ inserted_row s C r → x.key ≡ r.key → From
        insert_from r k e p c = let l = at_most (New s lost) after next at.coming r.key (omega arith) (new_key r k e) in an_insert r k e p c l.0 l.1 l.2

  -- a row comes next
  module _ (i after : ℕ) (next : Option ℕ) (at : At g s lost i after next) (h : i < length g.rows) (before : Later (row_at g i).key next) where
    above_after : after < (row_at g i).key
    above_after = at.to_come i (omega arith) h

    pub old_next : At g s lost (i + 1) (row_at g i).key next
    old_next =
        let a = above_after in
        record {
          passed = below_more _ i (λ u l. let b = at.passed u l in omega arith) (omega arith);
          to_come = λ u l k. larger g sound_g i u (omega arith) k;
          coming = still_coming (New s lost) after (row_at g i).key next (omega arith) before at.coming;
        }

    old_from : (x : Row) (m : Memᴰ x (rows)) (a : after < x.key) → x.key ≤ (row_at g i).key → From i after next at x m a
        → Memᴰ x (row_after s C (row_at g i))
    old_from x m a b (a_row u l k c q) =
        elim (tri i u) [
          | less j ↦ let d = larger g sound_g i u j k in absurd (omega arith)
          | equal j ↦ rw (sym j) at q
          | more j ↦ absurd (omega arith)
        ]
    old_from x m a b (an_insert r k e p c j q l) = let d : (row_at g i).key < j = rw q at before in absurd (omega arith)

    pub old_written : up_to (row_at g i).key (rows) ≡ up_to after (rows) ++ row_after s C (row_at g i)
    old_written =
        let a = above_after in
        up_to_more after (row_at g i).key (row_after s C (row_at g i)) (next_rising g s C chosen sound_g sound_s) (omega arith) (after_rising (row_at g i))
        (λ x m.
        let c = key_stays s C (row_at g i) x m in
        record { in_list = →next_old g s C (row_at g i) x (old_in i h) m; above = omega arith; within = omega arith })
        (λ x p. old_from x p.in_list p.above p.within (from i after next at x p.in_list p.above))

  -- an insert comes next
  module _ (i after key : ℕ) (at : At g s lost i after (Some key)) (before : i < length g.rows → key ≤ (row_at g i).key) where
    -- no old row has the key
    no_row_lem : (u : ℕ) → u < length g.rows → (row_at g u).key ≡ key → ⊥
    no_row_lem u h e =
        let r = new_record key at.coming.holds in
        insert_absent g s C chosen r.0 r.1 r.2 (row_at g u) (old_in u h) (e ∙ sym r.3)

    above_key : (u : ℕ) → i ≤ u → u < length g.rows → key < (row_at g u).key
    above_key u l h =
        let d = no_row_lem u h in
        let b = before (omega arith) in
        elim (tri i u) [
          | less j ↦ let c = larger g sound_g i u j h in omega arith
          | equal j ↦ let c = ap (λ (v : ℕ). (row_at g v).key) j in omega arith
          | more j ↦ absurd (omega arith)
        ]

    pub insert_next : (next : Option ℕ) → LeastAbove (New s lost) key next → At g s lost i key next
    insert_next next c =
        let a = at.coming.above in
        record { passed = λ u l. let b = at.passed u l in omega arith; to_come = above_key; coming = c }

    pub insert_record : (r : Record) × (applied_to (applied C) key ≡ Some r)
        × (up_to key (rows) ≡ up_to after (rows) ++ inserted_row s C r ∷ [])
    unfolding inserted_row
    insert_record =
        let r = new_record key at.coming.holds in
        let a = at.coming.above in
        let c = r.3 in
        let is : applied_to (applied C) key ≡ Some r.0 = ap (applied_to (applied C)) (sym c) ∙ applied_to_is (applied C) r.0 (applied_each g s C chosen sound_s) r.1 in (
          r.0,
          is,
          up_to_more after key (inserted_row s C r.0 ∷ []) (next_rising g s C chosen sound_g sound_s) (omega arith) (cons (λ y m. absurd (Memᴰ.not-nil m)) nil)
              (λ x m.
              let e = Memᴰ.eq_of_singleton m in
              let k = ap key_of e in
              record { in_list = Memᴰ.cast e (→next_insert g s C r.0 r.1 r.2); above = omega arith; within = omega arith })
              (λ x p. Memᴰ.head (insert_from r.0 is x p.in_list p.above p.within (from i after (Some key) at x p.in_list p.above))),
        )
      where
        insert_from : (r : Record) → applied_to (applied C) key ≡ Some r → (x : Row) (m : Memᴰ x (rows)) (a : after < x.key) → x.key ≤ key → From i after (Some key) at x m a
            → x ≡ inserted_row s C r
        insert_from r is x m a b (a_row u l k c q) = let d = above_key u l k in absurd (omega arith)
        insert_from r is x m a b (an_insert q k e p c j z l) =
            let d : key ≡ j = same_Some key j z in
            let same : q.key ≡ key = omega arith in
            p ∙ ap (inserted_row s C)
            (same_Some q r (sym (applied_to_is (applied C) q (applied_each g s C chosen sound_s) k) ∙ ap (applied_to (applied C)) same ∙ is))

  pub at_start : (next : Option ℕ) → LeastAbove (New s lost) 0 next → At g s lost 0 0 next
  at_start next c =
      record {
        passed = λ u l. absurd (omega arith);
        to_come = λ u l k. (rising→ key_of 0 g.rows (sound_register→ g sound_g).keys).1 (row_at g u) (old_in u k);
        coming = c;
      }

  pub none_written : up_to 0 (rows) ≡ []
  none_written = up_to_none (next_rising g s C chosen sound_g sound_s) (next_above g s C chosen sound_g sound_s)

  pub all_written : (i after : ℕ) → At g s lost i after None → length g.rows ≤ i → up_to after (rows) ≡ rows
  all_written i after at h = up_to_all after (next_rising g s C chosen sound_g sound_s) (λ x m a. go x m a (from i after None at x m a))
    where
      go : (x : Row) (m : Memᴰ x (rows)) (a : after < x.key) → From i after None at x m a → ⊥
      go x m a (a_row u l k c q) = omega arith
      go x m a (an_insert r k e p c j z l) = none-some j z
