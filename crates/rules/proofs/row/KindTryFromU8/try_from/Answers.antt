-- A byte other than 1, 2 and 3 is no kind's.
use Rattle.std.proofs.Common.{arith}
use Rattle.std.proofs.lemmas.Bool.Decides.{nat_tests}
use Rattle.rules.specs.Sheet.{is_kind}
use Rattle.rules.specs.Lists.{◌and◌}
use Rattle.rules.proofs.row.KindTryFromU8.try_from.Goals as goal

pub returns-in_default : goal.returns-in_default
unfolding is_kind ◌and◌
returns-in_default c = grind (arith, nat_tests)
