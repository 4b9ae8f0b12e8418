-- The sheet that has a set left, or the one whose set has the smaller csn.
use Rattle.std.proofs.Common.{arith, ap}
use Rattle.rules.specs.Sheet.{csn_of}
use Rattle.walk.proofs.Steps.{at, left_on, left_decided, right_decided, first_decided, second_decided, both_decided}
use Rattle.walk.proofs.walk.Walk.next_from.Goals as goal

pub returns-then-self-set_count : goal.returns-then-self-set_count
returns-then-self-set_count c = let k = at c.args.self.now in left_decided _ _ _ k (left_on _ _ _ k c.requires (omega arith)) (omega arith)

pub returns-then-self-set_count-2 : goal.returns-then-self-set_count-2
returns-then-self-set_count-2 c = right_decided _ _ _ (at c.args.self.now) (omega arith) (omega arith)

pub returns-then-x-y : goal.returns-then-x-y
returns-then-x-y c = first_decided _ _ _ (at c.args.self.now) (omega arith) (omega arith) (omega (arith, ap csn_of c.set.ensures, ap csn_of c.set-2.ensures))

pub returns-then-y-x : goal.returns-then-y-x
returns-then-y-x c = second_decided _ _ _ (at c.args.self.now) (omega arith) (omega arith) (omega (arith, ap csn_of c.set.ensures, ap csn_of c.set-2.ensures))

pub returns-else-y-x : goal.returns-else-y-x
returns-else-y-x c = both_decided _ _ _ (at c.args.self.now) (omega arith) (omega arith) (omega (arith, ap csn_of c.set.ensures, ap csn_of c.set-2.ensures))
