-- The records of the kind that the sets before set i apply are counted, and those of the sets from there on are to come.
use Rattle.std.proofs.Common.{◌*◌, ◌≤◌}
use Rattle.rules.specs.Sheet.{max_records, kind_number}
use Rattle.sheets.specs.Views.{sheet_of}
use Rattle.judging.specs.Tables.{keys_of}
use Rattle.judging.proofs.AppliedLaws.{Counted}
use Rattle.judging.proofs.committed.Committed.applied_count.Given as goal

abbrev pub invariant-loop-i : goal.invariant-loop-i
invariant-loop-i l = (l.count ≤ max_records * l.i) × Counted (sheet_of l.self.sheet) (keys_of l.self.lost.now) (kind_number l.kind) l.i l.count
