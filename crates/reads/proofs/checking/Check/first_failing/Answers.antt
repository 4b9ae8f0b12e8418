-- Of the first i entries no key is 0, and the first that fails is known.
use Rattle.std.proofs.Common.{arith}
use Rattle.reads.proofs.CheckLaws.{too_many, none_seen, key_0, seen_more, all_seen}
use Rattle.reads.proofs.checking.Check.first_failing.Goals as goal

pub returns-then-n-gt-MAX_READS : goal.returns-then-n-gt-MAX_READS
returns-then-n-gt-MAX_READS g c = λ es h. too_many c.args.self.now es (omega (arith, h.0))

pub loop-i-init : goal.loop-i-init
loop-i-init g c = λ es h. none_seen c.args.self.now es

pub returns-then-entry-eq0 : goal.returns-then-entry-eq0
returns-then-entry-eq0 g c = λ es h. let l = c.loop-i in
    key_0 c.args.self.now es l.i c.read-entry.result (omega (arith, h.0)) (h.1 l.i c.read-entry.result c.loop-i-test.true c.read-entry.ensures) c.if-entry-eq0.true

pub loop-i-preserved : goal.loop-i-preserved
loop-i-preserved g c = λ es h. let l = c.loop-i in
    rw c.or-first.ensures (seen_more c.args.self.now es l.i c.read-entry.result (omega (arith, h.0)) (h.1 l.i c.read-entry.result c.loop-i-test.true c.read-entry.ensures) l.first _ (l.invariant es h) c.if-entry-eq0.false c.failure.ensures)

pub returns : goal.returns
returns g c = λ es h. let l = c.loop-i in
    all_seen c.args.self.now es l.i l.first (l.invariant es h) (omega (arith, h.0)) (omega (arith, h.0))
