-- The next rows, by the sets that commit, as code has them: what a contract says of the code's view.
use Rattle.std.specs.Prelude.{ℕ, List}
use Rattle.rules.specs.declared.row.Row.{Row}
use Rattle.rules.specs.Becoming.{row_after, rows_after}
use Rattle.laws.specs.Choice.{Choice}
use Rattle.registers.specs.RegisterReadings.{row_at}
use Rattle.registers.specs.Views.{register_of}
use Rattle.sheets.specs.Views.{sheet_of}
use Rattle.judging.specs.Views.{sets_of}
use Rattle.next_rows.specs.declared.rows.Committing.{Committing}

-- the sets that commit are rightly chosen, by whatever rule
abbrev pub IsChosen : Committing → Type 0
IsChosen c = Choice (register_of c.register) (sheet_of c.committed.sheet) (sets_of c.committed)

-- the next rows, by the sets that commit
abbrev pub rows_next : Committing → List Row
rows_next c = rows_after (sheet_of c.committed.sheet) (sets_of c.committed) (register_of c.register).rows

-- what row i of the old register becomes: one row, or none
abbrev pub becomes : Committing → ℕ → List Row
becomes c i = row_after (sheet_of c.committed.sheet) (sets_of c.committed) (row_at (register_of c.register) i)
