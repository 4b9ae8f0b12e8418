-- All bytes are zero just if those from byte i on are.
use Rattle.std.proofs.Common.{◌≡◌, eqb, drop}
use Rattle.rules.specs.Lists.{all}
use Rattle.open_sets.proofs.examining.are_zero.Given as goal

abbrev pub invariant-loop-i : goal.invariant-loop-i
invariant-loop-i l = all (λ x. eqb x 0) l.b ≡ all (λ x. eqb x 0) (drop l.i l.b)
