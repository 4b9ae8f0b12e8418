-- The sum stays below the prime, so that 256 times it and a byte fit 64 bits.
use Rattle.std.proofs.Common.{◌<◌}
use Rattle.printing.proofs.shown.sum.Given as goal

abbrev pub invariant-loop-b : goal.invariant-loop-b
invariant-loop-b l = l.s < 36028797018963913
