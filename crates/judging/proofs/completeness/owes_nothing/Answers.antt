-- A master outside the roster owes nothing; one in it owes a notice, and the sets that it says.
use Rattle.std.proofs.Common.{arith}
use Rattle.std.proofs.lemmas.Bool.Decides.{nat_tests}
use Rattle.rules.specs.Lists.{◌and◌, ◌or◌}
use Rattle.rules.specs.Closing.{sent}
use Rattle.sheets.specs.SheetReadings.{notice_at}
use Rattle.judging.specs.Judged.{nothing_owed}
use Rattle.judging.proofs.completeness.owes_nothing.Goals as goal

pub returns-then-not-in_roster : goal.returns-then-not-in_roster
unfolding nothing_owed ◌and◌ ◌or◌
returns-then-not-in_roster c = grind (arith, nat_tests)

pub returns-then-said : goal.returns-then-said
unfolding nothing_owed sent notice_at ◌and◌ ◌or◌
returns-then-said c = grind (arith, nat_tests)

pub returns-else-said : goal.returns-else-said
unfolding nothing_owed sent notice_at ◌and◌ ◌or◌
returns-else-said c = grind (arith, nat_tests)
