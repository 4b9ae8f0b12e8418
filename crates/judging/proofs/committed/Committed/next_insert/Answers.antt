-- The least of the keys that the committed sets before set i insert.
use Rattle.std.proofs.Common.{◌≡◌, sym, ◌∙◌, arith, length}
use Rattle.sheets.specs.Views.{sheet_of}
use Rattle.judging.specs.Tables.{keys_of}
use Rattle.judging.proofs.InsertLaws.{inserts_more, inserts_same}
use Rattle.judging.proofs.committed.Committed.next_insert.Goals as goal
use Rattle.judging.proofs.committed.Committed.next_insert.Goals.{then-commits, else-commits}

pub loop-i-preserved : goal.loop-i-preserved
loop-i-preserved c = let l = c.loop-i in
    let lost = keys_of c.args.self.now.lost.now in
    let s = sheet_of c.args.self.now.sheet in
    elim c.if-commits.branch [
      | then-commits w ↦ rw (w.least-is ∙ w.smaller-least.ensures)
          (inserts_more s lost l.i c.args.after l.least w.insert_in.result (sym c.commits.ensures ∙ w.if-commits.true) l.invariant
          (rw w.set.ensures at w.insert_in.ensures))
      | else-commits w ↦ rw w.least-is (inserts_same s lost l.i c.args.after l.least (sym c.commits.ensures ∙ w.if-commits.false) l.invariant)
    ]

pub returns : goal.returns
returns c = let l = c.loop-i in
    let e : l.i ≡ length (sheet_of c.args.self.now.sheet).sets = omega arith in
    rw e at l.invariant
