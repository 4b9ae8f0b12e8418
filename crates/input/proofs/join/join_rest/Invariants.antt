-- What is joined so far is a sheet.
use Rattle.std.proofs.Common.{◌≡◌, length}
use Rattle.rules.specs.Sheet.{is_sheet}
use Rattle.rules.specs.Refused.{sheet_room}
use Rattle.input.specs.Reading.{Holds}
use Rattle.input.proofs.join.join_rest.Given as goal

abbrev pub invariant-loop : goal.invariant-loop
invariant-loop l = (length l.sheet ≡ sheet_room) × Holds is_sheet l.sheet l.n
