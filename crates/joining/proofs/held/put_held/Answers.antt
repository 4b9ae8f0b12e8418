-- Start, notices, contents and bodies, one behind the other, are the sheet.
use Rattle.std.proofs.Common.{arith}
use Rattle.joining.proofs.Writing.{together_total, held_written}
use Rattle.joining.proofs.held.put_held.Goals as goal

pub length_with-requires : goal.length_with-requires
length_with-requires c = (omega arith, omega (arith, together_total c.args.a.now c.args.b.now))

pub returns : goal.returns
returns c = rw c.length_with.ensures
    (held_written c.args.a.now c.args.b.now c.args.out.now _ _ _ _ c.requires.room c.requires.count c.epoch.ensures c.roster.ensures c.put_contents-records.ensures.records c.put_sheet_start.ensures c.put_notices.ensures c.put_contents-records.ensures.contents c.put_bodies.ensures)
