-- `body_ok` tests one record after another. The invariant: what is left to test decides the whole body.
use Rattle.std.proofs.Common.{◌+◌, ◌-◌, ◌*◌, ◌≡◌}
use Rattle.examine.specs.SheetForm.{body_ok}
use Rattle.examine.proofs.records.body_ok.Given as goal

abbrev pub invariant-loop-i : goal.invariant-loop-i
invariant-loop-i l = body_ok l.n 0 l.b l.at ≡ body_ok (l.n - l.i) l.prev l.b (l.at + 16 * l.i)
