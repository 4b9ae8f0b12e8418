-- Of the first i entries no key is 0, and the first that fails is known.
use Rattle.std.proofs.Common.{List}
use Rattle.rules.specs.declared.row.Read.{Read}
use Rattle.reads.specs.Checks.{Gives}
use Rattle.reads.proofs.CheckLaws.{Seen}
use Rattle.reads.proofs.checking.Check.first_failing.Given as goal

abbrev pub invariant-loop-i : goal.invariant-loop-i
invariant-loop-i g l = (es : List Read) → Gives l.n (goal.F-post g l.read) es → Seen l.self es l.i l.first
