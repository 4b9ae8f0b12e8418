-- No committed set before set i has a record for the key, so it is looked for from set i on.
use Rattle.std.proofs.Common.{◌≡◌, ◌∙◌, sym, ap, arith, None}
use Rattle.rules.specs.Sheet.{WriteSet}
use Rattle.rules.specs.Closing.{mark_in}
use Rattle.rules.specs.Becoming.{applied_to}
use Rattle.sheets.specs.Views.{sheet_of, set_of}
use Rattle.judging.proofs.AppliedLaws.{sought_start, sought_found, sought_later, sought_other, sought_end}
use Rattle.judging.proofs.committed.Committed.applied.Goals as goal
use Rattle.judging.proofs.committed.Committed.applied.Goals.{else-commits-via-else-commits, else-commits-via-then-commits+in-None-1}

pub loop-i-init : goal.loop-i-init
loop-i-init c = sought_start _ _ _

pub returns-in-loop-i : goal.returns-in-loop-i
returns-in-loop-i c = let l = c.loop-i in
    let s = sheet_of c.args.self.now.sheet in
    let e = c.set-set.ensures in
    sought_found _ _ _ l.i (omega arith) l.invariant (sym c.commits.ensures ∙ c.if-commits.true)
    (sym (ap (λ (w : WriteSet). applied_to w.records c.args.key) e) ∙ sym c.in-Some.ensures) (c.mark_of.ensures ∙ ap (mark_in s) e)

pub loop-i-preserved : goal.loop-i-preserved
loop-i-preserved c = let l = c.loop-i in
    elim c.else-commits.branch [
      | else-commits-via-else-commits w ↦ sought_other _ _ _ l.i (omega arith) l.invariant (sym c.commits.ensures ∙ w.if-commits.false)
      | else-commits-via-then-commits+in-None-1 w ↦
          let none : applied_to (set_of c.set-set.result).records c.args.key ≡ None = cc in
          sought_later _ _ _ l.i (omega arith) l.invariant (sym c.commits.ensures ∙ w.if-commits.true) (rw c.set-set.ensures at none)
    ]

pub returns : goal.returns
returns c = sought_end _ _ _ c.loop-i.i (omega arith) c.loop-i.invariant
