-- A notice that is there, and more sets than it says.
use Rattle.std.proofs.Common.{arith}
use Rattle.std.proofs.lemmas.Bool.Decides.{nat_tests}
use Rattle.rules.specs.Lists.{◌or◌}
use Rattle.rules.specs.Sheet.{allows}
use Rattle.laws.specs.Joining.{over_at}
use Rattle.walk.proofs.notices.over_at.Goals as goal

pub returns-then-x : goal.returns-then-x
unfolding over_at allows ◌or◌
returns-then-x c = grind (arith, nat_tests)

pub returns-else-x : goal.returns-else-x
unfolding over_at allows ◌or◌
returns-else-x c = grind (arith, nat_tests)
