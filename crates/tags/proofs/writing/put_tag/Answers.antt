-- It writes the tag: what is written and what is still to come are always that tag.
use Rattle.std.proofs.Common.{arith}
use Rattle.tags.proofs.WritingLaws.{write_start, some_weight, write_more, write_last}
use Rattle.tags.proofs.writing.put_tag.Goals as goal

pub loop-i-init : goal.loop-i-init
loop-i-init c = write_start c.args.key c.args.out.now

pub nonzero_div-digit : goal.nonzero_div-digit
nonzero_div-digit c = let a = c.args in
    let l = c.loop-i in
    omega (arith, some_weight a.key a.out.now l.out l.weight l.interim l.i l.invariant c.loop-i-test.true)

pub loop-i-preserved : goal.loop-i-preserved
loop-i-preserved c = let a = c.args in
    let l = c.loop-i in
    rw (c.next_digit-interim.ensures, c.from.ensures) (write_more a.key a.out.now l.out l.weight l.interim l.i l.invariant c.loop-i-test.true)

pub returns : goal.returns
returns c = let a = c.args in
    let l = c.loop-i in
    write_last a.key a.out.now l.out l.weight l.interim l.i l.invariant (omega arith)
