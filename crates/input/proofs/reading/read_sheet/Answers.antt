-- The head is the first bytes of the buffer.
use Rattle.std.proofs.Common.{arith, length-take}
use Rattle.input.proofs.reading.read_sheet.Goals as goal

pub slice_bounds-read_full-end-2 : goal.slice_bounds-read_full-end-2
slice_bounds-read_full-end-2 c = simp length-take (omega arith)
