-- One body more is written, and its set is no more left.
use Rattle.std.proofs.Common.{ap, arith, length}
use Rattle.rules.specs.Lists.{flat}
use Rattle.rules.specs.Sheet.{WriteSet, bodies}
use Rattle.laws.specs.SheetLaws.{records_length}
use Rattle.joining.proofs.Writing.{filled, body_more, body_count, none_left, total_more, together_total}
use Rattle.joining.proofs.held.put_bodies.Goals as goal

pub put_body-requires : goal.put_body-requires
put_body-requires c =
    let d = c.next_from-next.ensures in
    let counted = ap (λ (w : WriteSet). length w.records) d.next in
    omega (arith, total_more d.passes.leaves, counted, together_total c.args.a.now c.args.b.now, ap length c.next_body-body.ensures.named, records_length)

pub overflow_add-first : goal.overflow_add-first
overflow_add-first c =
    let d = c.next_from-next.ensures in
    let counted = ap (λ (w : WriteSet). length w.records) d.next in
    omega (arith, total_more d.passes.leaves, counted, together_total c.args.a.now c.args.b.now, body_count _ c.next_body-body.ensures.named c.offered_count-first.ensures)

pub loop-k-preserved : goal.loop-k-preserved
loop-k-preserved c =
    let t = c.pass.ensures.leaves in
    let body = c.next_body-body in
    let n = body_count _ body.ensures.named c.offered_count-first.ensures in (
      omega (arith, ap length t),
      omega (arith, total_more t, n),
      body_more c.args.n c.loop-k.first _ _ c.loop-k.invariant.2 t body.ensures.named n c.put_body.ensures,
    )

pub returns : goal.returns
unfolding bodies flat
returns c = filled c.loop-k.invariant.2 (ap bodies (none_left _ (omega arith)))
