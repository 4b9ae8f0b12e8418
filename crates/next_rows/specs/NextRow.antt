-- What closing makes of a row, and which row is put next.
use Rattle.std.specs.Prelude.{ℕ, ◌<◌, ◌≤◌, ◌≡◌, List, [], ◌∷◌, length, Option, None, Some, option_to_list}
use Rattle.rules.specs.declared.mark.Mark.{Mark}
use Rattle.rules.specs.declared.row.Row.{Row}
use Rattle.rules.specs.declared.row.Record.{Record}
use Rattle.rules.specs.Register.{Register}
use Rattle.rules.specs.Sheet.{WriteSet, Sheet}
use Rattle.rules.specs.Becoming.{applied, applied_to, inserted_row}
use Rattle.registers.specs.RegisterReadings.{row_at}
use Rattle.next_rows.specs.declared.rows.Turn.{Turn}
use Rattle.next_rows.specs.declared.rows.Turn.TheVariants.{Old, Insert, End}

-- the row that a record makes, with a mark
abbrev pub written : Record → Mark → Row
written r m = record { key = r.key; value = r.value; mark = m }

-- the rows that are left of a row: one, or none
abbrev pub rows_of : Option Row → List Row
rows_of r = option_to_list r

-- the row of an insert, if there is one
abbrev pub inserted_by : Sheet → List WriteSet → Option Record → List Row
inserted_by s c None = []
inserted_by s c (Some r) = inserted_row s c r ∷ []

-- the row of the insert that committed sets have for a key, if there is one
abbrev pub inserted_rows : Sheet → List WriteSet → ℕ → List Row
inserted_rows s c k = inserted_by s c (applied_to (applied c) k)

-- the insert to come, if there is one, has a larger key
abbrev pub Later : ℕ → Option ℕ → Type 0
Later key None = Unit {0}
Later key (Some k) = key < k

-- of the old rows from i on and the inserts to come, what is put next
abbrev pub IsNext : Register → ℕ → Option ℕ → Turn → Type 0
IsNext g i next Old = (i < length g.rows) × Later (row_at g i).key next
IsNext g i next (Insert k) = (next ≡ Some k) × (i < length g.rows → k ≤ (row_at g i).key)
IsNext g i next End = (next ≡ None) × (length g.rows ≤ i)
