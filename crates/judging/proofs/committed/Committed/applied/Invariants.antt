-- No committed set before set i has a record for the key, so it is looked for from set i on.
use Rattle.sheets.specs.Views.{sheet_of}
use Rattle.judging.specs.Tables.{keys_of}
use Rattle.judging.proofs.AppliedLaws.{Sought}
use Rattle.judging.proofs.committed.Committed.applied.Given as goal

abbrev pub invariant-loop-i : goal.invariant-loop-i
invariant-loop-i l = Sought (sheet_of l.self.sheet) (keys_of l.self.lost.now) l.key l.i
