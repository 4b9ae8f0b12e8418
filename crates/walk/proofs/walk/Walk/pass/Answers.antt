-- One set further in each sheet that has the next one.
use Rattle.std.proofs.Common.{refl}
use Rattle.walk.specs.Walks.{near}
use Rattle.walk.proofs.Steps.{walk_at, left_passed}
use Rattle.walk.proofs.walk.Walk.pass.Goals as goal

pub advance-self-requires : goal.advance-self-requires
advance-self-requires c = near _ _ _ (walk_at c.args.self.now)

pub returns-clause-stands : goal.returns-clause-stands
returns-clause-stands c = record { one = refl; two = refl; place = c.advance-self.ensures }

pub returns-clause-leaves : goal.returns-clause-leaves
returns-clause-leaves c = left_passed c.requires c.advance-self.ensures
