-- The least of the keys that the committed sets before set i insert.
use Rattle.sheets.specs.Views.{sheet_of}
use Rattle.judging.specs.Judged.{InsertsIn, LeastAbove}
use Rattle.judging.specs.Tables.{keys_of}
use Rattle.judging.proofs.committed.Committed.next_insert.Given as goal

abbrev pub invariant-loop-i : goal.invariant-loop-i
invariant-loop-i l = LeastAbove (InsertsIn (sheet_of l.self.sheet) (keys_of l.self.lost.now) l.i) l.after l.least
