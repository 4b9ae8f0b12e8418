-- The label is the first bytes of the head.
use Rattle.std.proofs.Common.{arith, length-take}
use Rattle.trials.proofs.case.run_case.Goals as goal

pub slice_bounds-write_all-end : goal.slice_bounds-write_all-end
slice_bounds-write_all-end g c = simp length-take (omega arith)
