-- Document 01, 'Closing', and document 02, L1: what a row becomes, and the next rows, from any list of committed sets, whatever chose
-- them; then the next register, from those that closing commits.
use Rattle.std.specs.Prelude.{ℕ, ◌+◌, Bool, false, List, [], ◌∷◌, map, ltb, eqb, if◌then◌else◌, Option, None, Some}
use Rattle.rules.specs.declared.mark.Mark.{Mark}
use Rattle.rules.specs.declared.row.Row.{Row}
use Rattle.rules.specs.declared.row.Record.{Record}
use Rattle.rules.specs.Lists.{keep, first, flat}
use Rattle.rules.specs.Numbers.{fresh}
use Rattle.rules.specs.Register.{Register}
use Rattle.rules.specs.Sheet.{WriteSet, Sheet, insert, delete}
use Rattle.rules.specs.Closing.{run_closing, names, mark_in, committed}

-- all records of the committed sets
unfoldable pub applied : List WriteSet → List Record
applied c = flat (λ w. w.records) c

-- the applied record of a key
unfoldable pub applied_to : List Record → ℕ → Option Record
applied_to rs k = first (λ r. eqb r.key k) rs

-- the value that a row takes: that of the applied record, if there is one
unfoldable pub value_by : Option Record → ℕ → ℕ
value_by None old = old
value_by (Some r) old = r.value

-- the applied record, if there is one, is a delete
unfoldable pub is_deleted : Option Record → Bool
is_deleted None = false
is_deleted (Some r) = eqb r.kind delete

-- the committed set that names a key
unfoldable pub committed_on : List WriteSet → ℕ → Option WriteSet
committed_on c k = first (λ w. names w k) c

-- the mark that a row takes: that of the set, if there is one
unfoldable pub mark_by : Sheet → Mark → Option WriteSet → Mark
mark_by s old None = old
mark_by s old (Some w) = mark_in s w

-- a row among rows in the order of their keys
unfoldable pub put_row : Row → List Row → List Row
put_row r [] = r ∷ []
put_row r (q ∷ qs) = if ltb r.key q.key then r ∷ q ∷ qs else q ∷ put_row r qs

-- rows, one after the other, among rows in the order of their keys
unfoldable pub put_rows : List Row → List Row → List Row
put_rows [] qs = qs
put_rows (r ∷ rs) qs = put_row r (put_rows rs qs)

-- a sheet, and those of its sets that commit
module _ (s : Sheet) (c : List WriteSet) where
  -- WHICH MARK A REMAINING ROW TAKES: that of the committed set that names it, which is its winner (`laws` `Marks`); else it keeps its own
  unfoldable pub mark_after : ℕ → Mark → Mark
  mark_after k old = mark_by s old (committed_on c k)

  -- an old row: gone if deleted, else with the applied value and its mark
  unfoldable pub row_after : Row → List Row
  row_after row =
      if is_deleted (applied_to (applied c) row.key) then [] else
      record { key = row.key; value = value_by (applied_to (applied c) row.key) row.value; mark = mark_after row.key row.mark } ∷ []

  -- the row of an insert
  unfoldable pub inserted_row : Record → Row
  inserted_row r = record { key = r.key; value = r.value; mark = mark_after r.key fresh }

  -- THE ROWS AFTER: the old ones that remain, with the inserted ones in their places
  unfoldable pub rows_after : List Row → List Row
  rows_after rows = put_rows (map inserted_row (keep (λ r. eqb r.kind insert) (applied c))) (flat row_after rows)

-- THE NEXT ROWS
abbrev pub next_rows : Register → Sheet → List Row
next_rows g s = rows_after s (committed g s) g.rows

-- THE NEXT REGISTER
unfoldable pub next : Register → Sheet → Register
next g s = record { snapshot = g.snapshot + 1; rows = next_rows g s }

-- opens all of these, for a proof by computation
unfoldable pub run_becoming : Unit {0}
unfolding run_closing applied applied_to value_by is_deleted committed_on mark_by put_row put_rows mark_after row_after inserted_row rows_after next
run_becoming = tt
