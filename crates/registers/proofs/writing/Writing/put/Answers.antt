-- The row is stored behind those that stand.
use Rattle.std.proofs.Common.{refl}
use Rattle.registers.proofs.RowsStored.{row_added}
use Rattle.registers.proofs.writing.Writing.put.Goals as goal

pub returns : goal.returns
returns c =
    let w = c.args.self.now in
    record { lent = refl; added = row_added w.draft _ w.out.now c.args.row refl refl (rw c.place_of.ensures at c.store_row.ensures) }
