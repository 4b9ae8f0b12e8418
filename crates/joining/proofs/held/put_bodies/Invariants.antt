-- The bodies of the sets that are left are left.
use Rattle.std.proofs.Common.{◌+◌, ◌≡◌, length}
use Rattle.rules.specs.Sheet.{bodies}
use Rattle.laws.specs.Joining.{together}
use Rattle.sheets.specs.SheetReadings.{total, bodies_place, record_place}
use Rattle.sheets.specs.Views.{sheet_of}
use Rattle.walk.specs.Views.{left_of}
use Rattle.joining.proofs.Writing.{Filling}
use Rattle.joining.proofs.held.put_bodies.Given as goal

abbrev pub invariant-loop-k : goal.invariant-loop-k
invariant-loop-k l =
    let all = together (sheet_of l.a) (sheet_of l.b) in
    let left = left_of l.walk in
    (l.k + length left ≡ length all) × (l.first + total left ≡ total all) × Filling l.initial.out l.out (bodies_place l.n) (record_place l.n l.first) (bodies all) (bodies left)
