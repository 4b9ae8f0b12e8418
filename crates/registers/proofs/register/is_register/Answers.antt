-- The bytes are as long as their head tells, and each row is in order.
use Rattle.std.proofs.Common.{refl, sym, ◌∙◌, arith, add-one, below_more}
use Rattle.laws.specs.BytesHere.{octets}
use Rattle.laws.specs.Says.{yes_of}
use Rattle.registers.proofs.RegisterBy.{register_says, row_passes, row_fails, is_sized, not_sized}
use Rattle.registers.proofs.register.is_register.Goals as goal

pub returns-then-ne : goal.returns-then-ne
returns-then-ne c = not_sized _ c.register_length.ensures c.ne.ensures (octets _ c.type_inv.b) c.if-ne.true

pub get-snapshot-requires : goal.get-snapshot-requires
get-snapshot-requires c = omega (arith, (is_sized _ c.register_length.ensures c.ne.ensures c.if-ne.false).head)

pub get-i-end-requires : goal.get-i-end-requires
get-i-end-requires c = omega (arith, (is_sized _ c.register_length.ensures c.ne.ensures c.if-ne.false).head)

pub loop-i-init : goal.loop-i-init
loop-i-init c = (is_sized _ c.register_length.ensures c.ne.ensures c.if-ne.false, refl, λ k h. absurd (omega arith))

pub returns-then-not-in_order : goal.returns-then-not-in_order
returns-then-not-in_order c =
    row_fails c.args.b.now (octets _ c.type_inv.b) c.loop-i.i (omega arith) c.loop-i.invariant.1 (omega arith) (sym c.in_order.ensures ∙ c.if-not-in_order.true)

pub loop-i-preserved : goal.loop-i-preserved
loop-i-preserved c =
    let l = c.loop-i in
    let passed = row_passes _ l.i l.invariant.1 (omega arith) (sym c.in_order.ensures ∙ c.if-not-in_order.false) in
    (l.invariant.0, rw (add-one l.i) (rw c.place_of.ensures at c.get-prev.ensures), below_more _ l.i l.invariant.2 passed)

pub returns : goal.returns
returns c =
    yes_of (register_says c.args.b.now (octets _ c.type_inv.b))
    record { sized = c.loop-i.invariant.0; rows = λ i h. c.loop-i.invariant.2 i (omega arith) }
