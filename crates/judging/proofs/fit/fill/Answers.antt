-- The place of set i is written, and those before it stay.
use Rattle.std.proofs.Common.{ℕ, ◌≡◌, refl, arith, Option}
use Rattle.std.specs.Fn.{FnReturnsAt}
use Rattle.sheets.specs.SheetReadings.{set_at}
use Rattle.sheets.specs.SheetSizes.{few_sets}
use Rattle.sheets.specs.Views.{sheet_of, set_of}
use Rattle.judging.specs.Tables.{keys_of}
use Rattle.judging.proofs.Keys.{all_places}
use Rattle.judging.proofs.Told.{told_more}
use Rattle.judging.proofs.fit.fill.Goals as goal

pub put-requires-clause-key : goal.put-requires-clause-key
put-requires-clause-key g c = c.requires.keys _ _ (record { shown = _; shows = refl; says = record { met = c.key_of.ensures } })

pub loop-i-preserved : goal.loop-i-preserved
loop-i-preserved g c = let l = c.loop-i in
    rw c.put.ensures
    (told_more (λ (k : ℕ) (o : Option ℕ). (w : _) × (set_of w ≡ set_at (sheet_of c.args.sheet.now) k) × FnReturnsAt g.F.Fn c.args.key_of w o) (keys_of l.table) l.i _ _
    (omega (arith, few_sets _ c.args.sheet.now.examined, all_places l.table)) l.invariant (c.set.result, c.set.ensures, record { shown = _; shows = refl; says = record { met = c.key_of.ensures } }))

pub returns : goal.returns
returns g c = λ k h. c.loop-i.invariant k (omega arith)
