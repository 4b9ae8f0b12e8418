-- What is counted and what is left are all sets of both, of each master and together.
use Rattle.std.proofs.Common.{arith, ap, length}
use Rattle.rules.specs.Numbers.{master_of}
use Rattle.walk.proofs.Counters.{count_room, count_more, count_all}
use Rattle.walk.proofs.Steps.{together_few}
use Rattle.walk.proofs.tally.tally.Goals as goal

pub count_set-requires : goal.count_set-requires
count_set-requires c = count_room c.loop-set.invariant.1 (together_few c.args.a.now c.args.b.now) (master_of c.csn.result) (omega arith)

pub overflow_add-n : goal.overflow_add-n
overflow_add-n c = omega (arith, c.loop-set.invariant.0, together_few c.args.a.now c.args.b.now)

pub loop-set-preserved : goal.loop-set-preserved
loop-set-preserved c =
    let e = c.in-Some.ensures.steps in
    (omega (arith, c.loop-set.invariant.0, ap length e), count_more c.csn.result (rw e at c.loop-set.invariant.1) c.csn.ensures c.count_set.ensures)

pub returns-clause-each : goal.returns-clause-each
returns-clause-each c = count_all c.loop-set.invariant.1 c.in-None.ensures.steps.0
