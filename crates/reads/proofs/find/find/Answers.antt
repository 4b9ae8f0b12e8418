-- Halving: every row with the key lies from lo on and before hi.
use Rattle.std.proofs.Common.{◌-◌, ◌+◌, ◌/◌, arith}
use Rattle.laws.specs.RegisterLaws.{register_sound}
use Rattle.registers.specs.Views.{register_of}
use Rattle.reads.proofs.RowLaws.{beyond, there, absent}
use Rattle.reads.proofs.find.find.Goals as goal

pub returns-then-k-key : goal.returns-then-k-key
returns-then-k-key c = let l = c.loop-lo in
    let r = c.args.register.now in
    there r.bytes.now r.examined (l.lo + (l.hi - l.lo) / 2) c.args.key (omega arith) (omega arith) c.row.ensures

pub loop-lo-preserved-then-k-key-2 : goal.loop-lo-preserved-then-k-key-2
loop-lo-preserved-then-k-key-2 c = let l = c.loop-lo in
    let r = c.args.register.now in
    let m = l.lo + (l.hi - l.lo) / 2 in
    let past = beyond (register_of r) (register_sound r.bytes.now r.examined) in
    (omega arith, omega arith, λ k h e. (omega (arith, past m k (omega arith) (omega arith)), (l.invariant.2 k h e).1))

pub loop-lo-preserved : goal.loop-lo-preserved
loop-lo-preserved c = let l = c.loop-lo in
    let r = c.args.register.now in
    let m = l.lo + (l.hi - l.lo) / 2 in
    let past = beyond (register_of r) (register_sound r.bytes.now r.examined) in
    (omega arith, omega arith, λ k h e. ((l.invariant.2 k h e).0, past k m h (omega arith)))

pub returns : goal.returns
returns c = absent (register_of c.args.register.now) c.args.key (λ k h e. omega (arith, c.loop-lo.invariant.2 k h e))
