-- One of the sheets has a set left.
use Rattle.std.proofs.Common.{sym, arith, lt-ltb, ◌∙◌}
use Rattle.walk.proofs.Steps.{at, some_left, more_by}
use Rattle.walk.proofs.walk.Walk.has_more.Goals as goal

pub returns-then-self-set_count : goal.returns-then-self-set_count
returns-then-self-set_count c = lt-ltb _ _ (omega arith) ∙ sym (lt-ltb 0 _ (some_left _ _ _ (at c.args.self.now) (omega arith)))

pub returns-else-self-set_count : goal.returns-else-self-set_count
returns-else-self-set_count c = rw c.set_count-else-self-set_count.ensures (more_by _ _ _ (at c.args.self.now) (omega arith))
