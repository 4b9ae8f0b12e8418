-- The first record that inserts a key above `after` has the least such key.
use Rattle.std.proofs.Common.{arith, eqb-true, sym, ◌∙◌, ap}
use Rattle.rules.specs.Sheet.{record_key}
use Rattle.rules.specs.declared.row.Record.{Record}
use Rattle.sheets.specs.SheetMembers.{records_sound}
use Rattle.sheets.specs.Views.{set_of}
use Rattle.judging.proofs.InsertLaws.{insert_here}
use Rattle.judging.proofs.committed.insert_in.Goals as goal

pub returns-then-after-record : goal.returns-then-after-record
returns-then-after-record c =
    let w = c.args.set.now in
    let e = c.record-record.ensures in
    rw (ap record_key e)
    (insert_here (set_of w) c.args.after c.loop-j.j c.loop-j.invariant (records_sound _ _ w.sheet.examined w.within) (omega arith)
    (ap (λ (r : Record). r.kind) (sym e) ∙ eqb-true _ _ (sym c.is.ensures ∙ c.if-is.true)) (omega (arith, ap record_key e)))
