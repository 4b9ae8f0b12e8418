-- The size that the promises name.
use Rattle.std.specs.Prelude.{ℕ}

-- how long a case's head is
abbrev pub case_head : ℕ
case_head = 64
