-- No clash is passed.
use Rattle.std.proofs.Common.{sym, ◌∙◌, ap₂, arith, refl}
use Rattle.rules.specs.Gathering.{clash}
use Rattle.walk.specs.Walk.{unpassed}
use Rattle.walk.proofs.Steps.{at, some_left, found_clash, first_spent, second_spent}
use Rattle.walk.proofs.clash.clashes.Goals as goal

pub loop-walk-init : goal.loop-walk-init
loop-walk-init c = let s = c.new-walk.ensures.start in rw (s.one, s.two, s.place) (unfold unpassed in refl)

pub returns-then-clash : goal.returns-then-clash
returns-then-clash c =
    let same = ap₂ clash c.set.ensures c.set-in-loop-walk.ensures in
    sym (c.loop-walk.invariant ∙ found_clash _ _ _ (at c.loop-walk.walk) (omega arith, omega arith) (sym (c.if-clash.ensures ∙ same)))

pub next_from-next-requires : goal.next_from-next-requires
next_from-next-requires c = some_left _ _ _ (at c.loop-walk.walk) (omega arith)

pub returns-else-walk-set_count : goal.returns-else-walk-set_count
returns-else-walk-set_count c = sym (c.loop-walk.invariant ∙ second_spent _ _ _ (at c.loop-walk.walk) (omega arith))

pub returns-after-loop-walk : goal.returns-after-loop-walk
returns-after-loop-walk c = sym (c.loop-walk.invariant ∙ first_spent _ _ _ (at c.loop-walk.walk) (omega arith))
