-- The first record of a set that passes a test, looked for from record j on: what a walk over the records tells of it.
use Prim.Native.Nat.{ℕ, ◌+◌, ◌≤◌, ◌<◌}
use mathlib.Core.Path.{◌≡◌, ◌∙◌}
use mathlib.Core.Bool.{Bool, true, false}
use Rattle.std.specs.Prelude.{Option, None, Some}
use lib.ListN.{length, drop}
use Rattle.rules.specs.declared.row.Record.{Record}
use Rattle.rules.specs.Lists.{first}
use Rattle.rules.specs.Sheet.{WriteSet}
use Rattle.laws.specs.Places.{first_skip, first_stop, first_end}
use Rattle.sheets.specs.SheetReadings.{record_at, no_record}

-- no record before record j passes the test, so o is the first from there on
pub record From (p : Record → Bool) (w : WriteSet) (o : Option Record) (j : ℕ) : Type 0 where
  pub rest : o ≡ first p (drop j w.records)

module _ {p : Record → Bool} {w : WriteSet} {o : Option Record} {j : ℕ} (f : From p w o j) where
  pub skips : j < length w.records → p (record_at w j) ≡ false → From p w o (j + 1)
  unfolding record_at
  skips h e = record { rest = f.rest ∙ first_skip p no_record w.records j h e }

  pub stops : j < length w.records → p (record_at w j) ≡ true → o ≡ Some (record_at w j)
  unfolding record_at
  stops h e = f.rest ∙ first_stop p no_record w.records j h e

  pub ends : length w.records ≤ j → o ≡ None
  ends h = f.rest ∙ first_end p no_record w.records j h
