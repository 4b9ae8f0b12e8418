-- Rows that were passed have smaller keys than every record to come; the first record found wrong is looked for from record j on.
use Rattle.std.proofs.Common.{ℕ, ◌≡◌, refl, sym, ◌∙◌, ap, Bool, true, false, not, arith, eqb, eqb-true, Some}
use Rattle.std.proofs.lemmas.Bool.{eqb-false}
use Rattle.rules.specs.Sheet.{record_key}
use Rattle.rules.specs.Closing.{fit_record, first_wrong}
use Rattle.laws.specs.RegisterLaws.{register_sound}
use Rattle.registers.specs.Views.{register_of}
use Rattle.sheets.specs.SheetMembers.{records_sound}
use Rattle.sheets.specs.Views.{set_of}
use Rattle.judging.specs.Tables.{first_key, wrong_key}
use Rattle.judging.proofs.InOrder.{larger_record}
use Rattle.judging.proofs.Firsts.{skips, stops, ends}
use Rattle.judging.proofs.FitLaws.{fits_there, wrong_there, fits_nowhere, wrong_nowhere}
use Rattle.judging.proofs.fit.wrong_key.Goals as goal
use Rattle.judging.proofs.fit.wrong_key.Goals.{else-rows-test, then-rows-test+then-record-row}

not-insert : {a b : ℕ} {r : Bool} → r ≡ eqb a b → r ≡ false → a ≡ b → ⊥
not-insert {a} {b} e f = eqb-false a b (sym e ∙ f)

pub records-init : goal.records-init
unfolding first_wrong
records-init c = (refl, record { rest = refl }, λ k m h. absurd (omega arith))

pub records-preserved-then-record-row-2 : goal.records-preserved-then-record-row-2
records-preserved-then-record-row-2 c =
    let g = register_of c.args.register.now in
    let w = set_of c.args.set.now in
    let e = c.record-record.ensures in
    let o = c.records in
    let l = c.rows in
    let fits : fit_record g c.record-record.result ≡ true =
    fits_there g _ l.at (omega arith) (sym c.row_key-row.ensures ∙ sym c.if-record-row-2.true) (λ q. not-insert c.is.ensures c.if-is.false q) in
    let sound = records_sound _ _ c.args.set.now.sheet.examined c.args.set.now.within in (
      l.invariant.0 ∙ o.invariant.0,
      skips o.invariant.1 (omega arith) (ap not (ap (fit_record g) (sym e) ∙ fits)),
      λ k m p q n. omega (arith, l.invariant.1 k p, ap record_key e, larger_record w sound o.j m (omega arith) n),
    )

pub records-preserved : goal.records-preserved
records-preserved c =
    let g = register_of c.args.register.now in
    let w = set_of c.args.set.now in
    let e = c.record-record.ensures in
    let o = c.records in
    let l = c.rows in
    let fits : fit_record g c.record-record.result ≡ true =
    fits_nowhere g _ l.at (register_sound _ c.args.register.now.examined) (record {
      before = l.invariant.1;
      there = λ h. elim c.rows-test.branch [ else-rows-test v ↦ absurd (omega arith) | then-rows-test+then-record-row v ↦ omega arith ];
    }) (eqb-true _ _ (sym c.is-in-records.ensures ∙ c.if-not-is.false)) in
    let sound = records_sound _ _ c.args.set.now.sheet.examined c.args.set.now.within in (
      l.invariant.0 ∙ o.invariant.0,
      skips o.invariant.1 (omega arith) (ap not (ap (fit_record g) (sym e) ∙ fits)),
      λ k m p q n. omega (arith, l.invariant.1 k p, ap record_key e, larger_record w sound o.j m (omega arith) n),
    )

pub returns-after-records : goal.returns-after-records
unfolding wrong_key
returns-after-records c = let o = c.records in
    o.invariant.0 ∙ sym (ap first_key (ends o.invariant.1 (omega arith)))

pub returns-then-is : goal.returns-then-is
unfolding wrong_key
returns-then-is c =
    let g = register_of c.args.register.now in
    let e = c.record-record.ensures in
    let o = c.records in
    let wrong : fit_record g c.record-record.result ≡ false =
    wrong_there g _ c.rows.at (omega arith) (sym c.row_key-row.ensures ∙ sym c.if-record-row-2.true) (eqb-true _ _ (sym c.is.ensures ∙ c.if-is.true)) in
    ap Some (ap record_key e)
    ∙ sym (ap first_key (stops o.invariant.1 (omega arith) (ap not (ap (fit_record g) (sym e) ∙ wrong))))

pub returns-then-not-is : goal.returns-then-not-is
unfolding wrong_key
returns-then-not-is c =
    let g = register_of c.args.register.now in
    let e = c.record-record.ensures in
    let o = c.records in
    let l = c.rows in
    let wrong : fit_record g c.record-record.result ≡ false =
    wrong_nowhere g _ l.at (register_sound _ c.args.register.now.examined) (record {
      before = l.invariant.1;
      there = λ h. elim c.rows-test.branch [ else-rows-test v ↦ absurd (omega arith) | then-rows-test+then-record-row v ↦ omega arith ];
    }) (λ q. not-insert c.is-in-records.ensures c.if-not-is.true q) in
    ap Some (ap record_key e) ∙ sym (ap first_key (stops o.invariant.1 (omega arith) (ap not (ap (fit_record g) (sym e) ∙ wrong))))
