-- What is left of the closing's outcome where the sheet is complete, the verdict that the tables tell of a set, and what writing the next register leaves.
use Rattle.std.specs.Prelude.{ℕ, ◌≡◌, length, ltb, if◌then◌else◌, Option, None, Some}
use Rattle.words.specs.Words.{Bytes}
use Rattle.rules.specs.declared.answer.Verdict.{Verdict}
use Rattle.rules.specs.declared.answer.Verdict.TheVariants.{Commit, Lost, Unfit}
use Rattle.rules.specs.Lists.{◌or◌}
use Rattle.rules.specs.Register.{Register, max_rows, register_bytes}
use Rattle.rules.specs.Sheet.{Sheet}
use Rattle.rules.specs.Becoming.{next_rows}
use Rattle.rules.specs.Refused.{Outcome, refused, done, Closing, closing, register_room, verdict_room}
use Rattle.rules.specs.Promises.{over}

-- the verdict on a set whose first key found wrong and first key lost are these
abbrev pub verdict_by : Option ℕ → Option ℕ → Verdict
verdict_by (Some k) lost = Unfit k
verdict_by None (Some k) = Lost k
verdict_by None None = Commit

-- the closing of a complete sheet of the right epoch: what is left of the chain of refusals
unfoldable pub close_complete : Register → Sheet → ℕ → ℕ → Outcome Closing
close_complete g s next_room room =
    if ltb max_rows (length (next_rows g s)) then refused 8 else
    if ltb next_room register_room or ltb room verdict_room then refused 9 else
    done (closing g s)

-- a buffer that held `before` has a register over it, and n is its length
pub record NextStands (next : Register) (before : Bytes) (n : ℕ) (after : Bytes) : Type 0 where
  pub bytes : after ≡ over before (register_bytes next)
  pub long : n ≡ length (register_bytes next)
