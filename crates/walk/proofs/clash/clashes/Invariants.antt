-- No clash is passed.
use Rattle.std.proofs.Common.{◌≡◌, ◌++◌, length}
use Rattle.rules.specs.Gathering.{clash, some_two}
use Rattle.sheets.specs.Views.{sheet_of}
use Rattle.walk.specs.Walk.{unpassed}
use Rattle.walk.specs.Views.{walk_place, left_of}
use Rattle.walk.proofs.clash.clashes.Given as goal

abbrev pub invariant-loop-walk : goal.invariant-loop-walk
invariant-loop-walk l = some_two clash ((sheet_of l.a).sets ++ (sheet_of l.b).sets) ≡ some_two clash (unpassed (sheet_of l.walk.a) (sheet_of l.walk.b) (walk_place l.walk))

abbrev pub decreases-loop-walk : goal.decreases-loop-walk
decreases-loop-walk l = length (left_of l.walk)
