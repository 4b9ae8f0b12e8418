-- Two words, the second where the first ends.
use Rattle.std.proofs.Common.{refl}
use Rattle.registers.proofs.RowsStored.{started}
use Rattle.registers.proofs.writing.Writing.start.Goals as goal

pub returns-clause-begun : goal.returns-clause-begun
returns-clause-begun c = (refl, started _ c.args.snapshot _ refl c.put.ensures c.put-2.ensures)
