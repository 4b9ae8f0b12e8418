-- All bytes are zero just if those from byte i on are.
use Rattle.std.proofs.Common.{sym, arith, eq-eqb, ne_eqb}
use Rattle.open_sets.proofs.Zeros.{not_zero, zero_here, none_left}
use Rattle.open_sets.proofs.examining.are_zero.Goals as goal

pub returns-then-b-i-ne0 : goal.returns-then-b-i-ne0
returns-then-b-i-ne0 c = let l = c.loop-i in sym (not_zero _ l.i (omega arith) l.invariant (ne_eqb _ _ c.if-b-i-ne0.true))

pub loop-i-preserved : goal.loop-i-preserved
loop-i-preserved c = let l = c.loop-i in zero_here _ l.i (omega arith) l.invariant (eq-eqb _ _ c.if-b-i-ne0.false)

pub returns : goal.returns
returns c = let l = c.loop-i in sym (none_left _ l.i (omega arith) l.invariant)
