-- The records of the kind that the sets before set i apply are counted, and those of the sets from there on are to come.
use Rattle.std.proofs.Common.{ℕ, ◌+◌, sym, ◌∙◌, ap, arith}
use Rattle.rules.specs.Sheet.{WriteSet, kind_number}
use Rattle.sheets.specs.SheetSizes.{few_sets}
use Rattle.sheets.specs.Views.{sheet_of}
use Rattle.judging.specs.Judged.{of_kind}
use Rattle.judging.specs.Tables.{keys_of}
use Rattle.judging.proofs.AppliedLaws.{counted_none, counted_more, counted_same, counted_all, kinds_few}
use Rattle.judging.proofs.committed.Committed.applied_count.Goals as goal
use Rattle.judging.proofs.committed.Committed.applied_count.Goals.{then-commits, else-commits}

pub loop-i-init : goal.loop-i-init
loop-i-init c = (omega arith, counted_none _ _ _)

pub overflow_add-count : goal.overflow_add-count
overflow_add-count c =
    record { fits = omega (arith, kinds_few c.set.result (kind_number c.args.kind), c.count_in-count.ensures, few_sets _ c.args.self.now.sheet.examined) }

pub loop-i-preserved : goal.loop-i-preserved
loop-i-preserved c = let l = c.loop-i in
    let lost = keys_of c.args.self.now.lost.now in
    let s = sheet_of c.args.self.now.sheet in
    let k = kind_number c.args.kind in
    elim c.if-commits.branch [
      | then-commits w ↦
          let counted = w.count_in-count.ensures ∙ ap (λ (v : WriteSet). of_kind k v.records) w.set.ensures in
          let few = kinds_few w.set.result k in
          (omega (arith, w.count_in-count.ensures), rw (w.count-is ∙ ap (λ (n : ℕ). l.count + n) counted) (counted_more s lost k l.i l.count (omega arith) l.invariant.1 (sym c.commits.ensures ∙ w.if-commits.true)))
      | else-commits w ↦ (omega arith, rw w.count-is (counted_same s lost k l.i l.count (omega arith) l.invariant.1 (sym c.commits.ensures ∙ w.if-commits.false)))
    ]

pub returns-clause-counted : goal.returns-clause-counted
returns-clause-counted c = let l = c.loop-i in counted_all (sheet_of c.args.self.now.sheet) _ _ l.i l.count (omega arith) l.invariant.1
