-- One entry more is written, and its set is no more left.
use Rattle.std.proofs.Common.{ap, arith, length}
use Rattle.rules.specs.Sheet.{contents_from}
use Rattle.sheets.specs.SheetReadings.{total}
use Rattle.joining.proofs.Writing.{filled, entry_more, total_more, together_total}
use Rattle.joining.proofs.held.put_contents.Goals as goal

pub put_entry-requires : goal.put_entry-requires
put_entry-requires c =
    let t = c.in-Some.ensures.steps in
    (omega (arith, t, ap length t.0), omega (arith, total_more t.0, together_total c.args.a.now c.args.b.now))

pub overflow_add-first : goal.overflow_add-first
overflow_add-first c = omega (arith, total_more c.in-Some.ensures.steps.0, together_total c.args.a.now c.args.b.now)

pub loop-k-preserved : goal.loop-k-preserved
loop-k-preserved c =
    let t = c.in-Some.ensures.steps in
    let s = rw t.1 at c.put_entry.ensures in (
      omega (arith, t, ap length t.0),
      omega (arith, total_more t.0),
      entry_more _ _ c.loop-k.first _ _ _ c.loop-k.invariant.2 t.0 t.2 c.csn.ensures c.sen.ensures c.record_count-count.ensures s,
    )

pub returns-clause-records : goal.returns-clause-records
unfolding total
returns-clause-records c = omega (arith, ap total c.in-None.ensures.steps.0.0)

pub returns-clause-contents : goal.returns-clause-contents
unfolding contents_from
returns-clause-contents c = filled c.loop-k.invariant.2 (ap (contents_from c.loop-k.first) c.in-None.ensures.steps.0.0)
