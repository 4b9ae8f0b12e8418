-- The record counts are added up; what is known of the head goes with the loop.
use Rattle.std.proofs.Common.{◌*◌, ◌≤◌, ◌≡◌}
use Rattle.sheets.specs.SheetLength.{counts_to}
use Rattle.sheets.proofs.stream.sheet_length.Given as goal

abbrev pub invariant-loop-i : goal.invariant-loop-i
invariant-loop-i l = (l.records ≡ counts_to l.i l.b) × (l.records ≤ 65535 * l.i)
