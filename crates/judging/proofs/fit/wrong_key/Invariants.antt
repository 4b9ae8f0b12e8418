-- Rows that were passed have smaller keys than every record to come; the first record found wrong is looked for from record j on.
use Rattle.std.proofs.Common.{ℕ, ◌-◌, ◌≤◌, ◌<◌, ◌≡◌, length, not, None}
use Rattle.rules.specs.Closing.{fit_record, first_wrong}
use Rattle.registers.specs.RegisterReadings.{row_at}
use Rattle.registers.specs.Views.{register_of}
use Rattle.sheets.specs.SheetReadings.{record_at}
use Rattle.sheets.specs.Views.{set_of}
use Rattle.judging.proofs.Firsts.{From}
use Rattle.judging.proofs.fit.wrong_key.Given as goal

abbrev pub invariant-rows : goal.invariant-rows
invariant-rows l = (l.wrong ≡ l.initial.wrong) × ((k : ℕ) → k < l.at → (row_at (register_of l.register) k).key < l.record.key)

abbrev pub decreases-rows : goal.decreases-rows
decreases-rows l = l.rows - l.at

abbrev pub invariant-records : goal.invariant-records
invariant-records l = (l.wrong ≡ None)
    × From (λ r. not (fit_record (register_of l.register) r)) (set_of l.set) (first_wrong (register_of l.register) (set_of l.set)) l.j
    × ((k m : ℕ) → k < l.at → l.j ≤ m → m < length (set_of l.set).records → (row_at (register_of l.register) k).key < (record_at (set_of l.set) m).key)
