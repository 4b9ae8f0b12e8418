-- The entries of the sets that are left are left.
use Rattle.std.proofs.Common.{◌+◌, ◌≡◌, length}
use Rattle.std.specs.Iterator.Adapters.{enumerate_source, enumerate_count}
use Rattle.rules.specs.Sheet.{contents_from}
use Rattle.laws.specs.Joining.{together}
use Rattle.sheets.specs.SheetReadings.{total, contents_place, entry_place}
use Rattle.sheets.specs.Views.{sheet_of}
use Rattle.walk.specs.Views.{left_of}
use Rattle.joining.proofs.Writing.{Filling}
use Rattle.joining.proofs.held.put_contents.Given as goal

abbrev pub invariant-loop-k : goal.invariant-loop-k
invariant-loop-k l =
    let all = together (sheet_of l.a) (sheet_of l.b) in
    let left = left_of (enumerate_source l.k-iterator) in
    let k = enumerate_count l.k-iterator in
    (k + length left ≡ length all) × (l.first + total left ≡ total all) × Filling l.initial.out l.out contents_place (entry_place k) (contents_from 0 all) (contents_from l.first left)
