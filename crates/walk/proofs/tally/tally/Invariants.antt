-- What is counted and what is left are all sets of both, of each master and together.
use Rattle.std.proofs.Common.{◌+◌, ◌≡◌, length}
use Rattle.laws.specs.Joining.{together}
use Rattle.sheets.specs.Views.{sheet_of}
use Rattle.walk.specs.Views.{left_of}
use Rattle.walk.proofs.Counters.{Counting}
use Rattle.walk.proofs.tally.tally.Given as goal

abbrev pub invariant-loop-set : goal.invariant-loop-set
invariant-loop-set l = (l.n + length (left_of l.set-iterator) ≡ length (together (sheet_of l.a) (sheet_of l.b))) × Counting (together (sheet_of l.a) (sheet_of l.b)) (left_of l.set-iterator) l.by
