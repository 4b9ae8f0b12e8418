-- The rows up to a key are put; what comes next is row i, or the insert of the next key.
use Rattle.std.proofs.Common.{◌+◌, ◌-◌, length}
use Rattle.registers.specs.Views.{register_of}
use Rattle.sheets.specs.Views.{sheet_of}
use Rattle.judging.specs.Tables.{keys_of}
use Rattle.next_rows.proofs.RowsWritten.{Standing, keys_left}
use Rattle.next_rows.proofs.rows.Committing.put_rows.Given as goal

abbrev pub invariant-loop-next : goal.invariant-loop-next
invariant-loop-next l =
    Standing (register_of l.self.register) (sheet_of l.self.committed.sheet) (keys_of l.self.committed.lost.now) l.initial.next l.i l.insert l.next

abbrev pub decreases-loop-next : goal.decreases-loop-next
decreases-loop-next l = (length (register_of l.self.register).rows - l.i) + keys_left l.insert
