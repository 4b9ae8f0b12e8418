-- Two notices that are there and differ.
use Rattle.std.proofs.Common.{arith}
use Rattle.std.proofs.lemmas.Bool.Decides.{nat_tests}
use Rattle.rules.specs.Lists.{◌and◌}
use Rattle.laws.specs.Joining.{notices_differ}
use Rattle.sheets.specs.SheetReadings.{notice_at}
use Rattle.walk.proofs.notices.differ_at.Goals as goal

pub returns-then-y : goal.returns-then-y
unfolding notices_differ notice_at ◌and◌
returns-then-y c = grind (arith, nat_tests)

pub returns-else-y : goal.returns-else-y
unfolding notices_differ notice_at ◌and◌
returns-else-y c = grind (arith, nat_tests)
