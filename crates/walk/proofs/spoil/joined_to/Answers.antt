-- Each test is one of the definition's.
use Rattle.std.proofs.Common.{arith}
use Rattle.std.proofs.lemmas.Bool.Decides.{nat_tests}
use Rattle.rules.specs.Lists.{◌or◌}
use Rattle.walk.proofs.Spoiling.{joins_by}
use Rattle.walk.proofs.spoil.joined_to.Goals as goal

pub returns-then-is_spoiled : goal.returns-then-is_spoiled
unfolding ◌or◌
returns-then-is_spoiled c = let e = joins_by c.args.a.now c.args.b.now in grind (arith, nat_tests)

pub returns-then-n-gt-MAX_SETS : goal.returns-then-n-gt-MAX_SETS
unfolding ◌or◌
returns-then-n-gt-MAX_SETS c = let e = joins_by c.args.a.now c.args.b.now in grind (arith, nat_tests)

pub returns : goal.returns
unfolding ◌or◌
returns c = let e = joins_by c.args.a.now c.args.b.now in grind (arith, nat_tests)
