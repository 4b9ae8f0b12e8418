-- Halving: every row with the key lies from lo on and before hi.
use Rattle.std.proofs.Common.{◌≡◌, ℕ, ◌<◌, ◌≤◌, ◌-◌, length}
use Rattle.registers.specs.RegisterReadings.{row_at}
use Rattle.registers.specs.Views.{register_of}
use Rattle.reads.proofs.find.find.Given as goal

abbrev pub invariant-loop-lo : goal.invariant-loop-lo
invariant-loop-lo l = let g = register_of l.register in (l.lo ≤ l.hi) × (l.hi ≤ length g.rows) × ((k : ℕ) → k < length g.rows → (row_at g k).key ≡ l.key → (l.lo ≤ k) × (k < l.hi))

abbrev pub decreases-loop-lo : goal.decreases-loop-lo
decreases-loop-lo l = l.hi - l.lo
