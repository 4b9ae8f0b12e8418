-- A register as code reads it: its rows by number.
use Rattle.std.specs.Prelude.{ℕ, get_or}
use Rattle.rules.specs.declared.row.Row.{Row}
use Rattle.rules.specs.Numbers.{fresh}
use Rattle.rules.specs.Register.{Register}

-- what a place past the last row is taken to hold
abbrev pub no_row : Row
no_row = record { key = 0; value = 0; mark = fresh }

-- row i of a register
unfoldable pub row_at : Register → ℕ → Row
row_at g i = get_or g.rows i no_row
