-- The row that an entry of the read check is held against, and what an answer finds.
use Rattle.std.specs.Prelude.{ℕ, eqb, Option, None, Some}
use Rattle.rules.specs.declared.row.Row.{Row}
use Rattle.rules.specs.declared.answer.Failure.{Failure}
use Rattle.rules.specs.ReadCheck.{Finding, passes, fails}
use Rattle.rules.specs.Lists.{first}
use Rattle.rules.specs.Register.{Register}

-- the row of a register that bears a key, as `failing` looks for it
abbrev pub row_with : Register → ℕ → Option Row
row_with g k = first (λ r. eqb r.key k) g.rows

-- what an answer that is no refusal finds
abbrev pub finding_of : Option Failure → Finding
finding_of None = passes
finding_of (Some f) = fails f.index f.key f.reason
