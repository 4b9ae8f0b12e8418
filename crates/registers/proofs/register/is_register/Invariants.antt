-- The invariant: the bytes are as long as their head tells, the rows before i are in order, and prev is the key of the last of them.
use Rattle.std.proofs.Common.{ℕ, ◌<◌, ◌≡◌}
use Rattle.words.specs.Words.{word}
use Rattle.registers.specs.RegisterForm.{key_before}
use Rattle.registers.proofs.RegisterBy.{Sized, InOrder}
use Rattle.registers.proofs.register.is_register.Given as goal

abbrev pub invariant-loop-i : goal.invariant-loop-i
invariant-loop-i l = Sized l.b × (l.prev ≡ key_before l.b l.i) × ((k : ℕ) → k < l.i → InOrder l.b k (key_before l.b k) (word 4 l.b 0))
