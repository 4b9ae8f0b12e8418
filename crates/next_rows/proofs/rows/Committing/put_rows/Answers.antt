-- The rows up to a key are put; what comes next is row i, or the insert of the next key.
use Rattle.std.proofs.Common.{arith}
use Rattle.laws.specs.RegisterLaws.{register_sound, sound_register→}
use Rattle.laws.specs.SheetLaws.{sheet_sound}
use Rattle.next_rows.proofs.RowsWritten.{standing_start, old_room, standing_old, insert_room, standing_insert, standing_end}
use Rattle.next_rows.proofs.rows.Committing.put_rows.Goals as goal

pub loop-next-init : goal.loop-next-init
loop-next-init c =
    let self = c.args.self.now in
    let p = c.requires in
    standing_start _ _ _ (register_sound _ self.register.examined) (sheet_sound _ self.committed.sheet.examined) p.chosen _ p.room _ c.next_insert-insert.ensures

pub put_old-requires-clause-room : goal.put_old-requires-clause-room
put_old-requires-clause-room c =
    let self = c.args.self.now in
    let p = c.requires in
    let is = c.in-Old.ensures in
    old_room _ _ _ (register_sound _ self.register.examined) (sheet_sound _ self.committed.sheet.examined) p.chosen _ p.room c.loop-next.invariant is.0 is.1

pub overflow_add-i : goal.overflow_add-i
overflow_add-i c = record { fits = omega (arith, c.in-Old.ensures.0, (sound_register→ _ (register_sound _ c.args.self.now.register.examined)).few) }

pub loop-next-preserved-in-Old : goal.loop-next-preserved-in-Old
loop-next-preserved-in-Old c =
    let self = c.args.self.now in
    let p = c.requires in
    let is = c.in-Old.ensures in
    standing_old _ _ _ (register_sound _ self.register.examined) (sheet_sound _ self.committed.sheet.examined) p.chosen _ p.room c.loop-next.invariant is.0 is.1 c.put_old.ensures

pub put_insert-requires : goal.put_insert-requires
put_insert-requires c =
    let self = c.args.self.now in
    let p = c.requires in
    insert_room _ _ _ (register_sound _ self.register.examined) (sheet_sound _ self.committed.sheet.examined) p.chosen _ p.room c.loop-next.invariant c.in-Insert.ensures

pub loop-next-preserved : goal.loop-next-preserved
loop-next-preserved c =
    let self = c.args.self.now in
    let p = c.requires in
    standing_insert _ _ _ (register_sound _ self.register.examined) (sheet_sound _ self.committed.sheet.examined) p.chosen _ p.room c.loop-next.invariant c.in-Insert.ensures
    c.next_insert-insert-in-Insert.result c.put_insert.ensures c.next_insert-insert-in-Insert.ensures

pub returns-in-End : goal.returns-in-End
returns-in-End c =
    let self = c.args.self.now in
    let p = c.requires in
    standing_end _ _ _ (register_sound _ self.register.examined) (sheet_sound _ self.committed.sheet.examined) p.chosen _ p.room c.loop-next.invariant c.in-End.ensures
