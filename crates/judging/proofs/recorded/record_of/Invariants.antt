-- No record before record j has the key.
use Rattle.std.proofs.Common.{eqb}
use Rattle.rules.specs.Becoming.{applied_to}
use Rattle.sheets.specs.Views.{set_of}
use Rattle.judging.proofs.Firsts.{From}
use Rattle.judging.proofs.recorded.record_of.Given as goal

abbrev pub invariant-loop-j : goal.invariant-loop-j
invariant-loop-j l = From (λ r. eqb r.key l.key) (set_of l.set) (applied_to (set_of l.set).records l.key) l.j
