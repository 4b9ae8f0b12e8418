-- The places before set i have a key that the function gives for their sets.
use Rattle.std.proofs.Common.{ℕ, ◌<◌, ◌≡◌, get_or, None}
use Rattle.std.specs.Fn.{FnReturnsAt}
use Rattle.sheets.specs.SheetReadings.{set_at}
use Rattle.sheets.specs.Views.{sheet_of, set_of}
use Rattle.judging.specs.Tables.{keys_of}
use Rattle.judging.proofs.fit.fill.Given as goal

abbrev pub invariant-loop-i : goal.invariant-loop-i
invariant-loop-i g l = (k : ℕ) → k < l.i → (w : _) × (set_of w ≡ set_at (sheet_of l.sheet) k) × FnReturnsAt g.F.Fn l.key_of w (get_or (keys_of l.table) k None)
