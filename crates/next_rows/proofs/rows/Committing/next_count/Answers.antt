-- The next rows and the deletes are as many as the old rows and the inserts.
use Rattle.std.proofs.Common.{arith}
use Rattle.laws.specs.RegisterLaws.{register_sound, sound_register→}
use Rattle.laws.specs.SheetLaws.{sheet_sound}
use Rattle.next_rows.proofs.RowLaws.{counted}
use Rattle.next_rows.proofs.rows.Committing.next_count.Goals as goal

pub overflow_add-result : goal.overflow_add-result
overflow_add-result c = record { fits = omega (arith, (sound_register→ _ (register_sound _ c.args.self.now.register.examined)).few, c.applied_count.ensures.few) }

pub overflow_sub-result : goal.overflow_sub-result
overflow_sub-result c =
    let self = c.args.self.now in
    omega (arith, counted _ _ _ c.requires (register_sound _ self.register.examined) (sheet_sound _ self.committed.sheet.examined), c.applied_count.ensures.counted, c.applied_count-2.ensures.counted, c.row_count.ensures)

pub returns : goal.returns
returns c =
    let self = c.args.self.now in
    omega (arith, counted _ _ _ c.requires (register_sound _ self.register.examined) (sheet_sound _ self.committed.sheet.examined), c.applied_count.ensures.counted, c.applied_count-2.ensures.counted, c.row_count.ensures)
