-- What reading and joining promise: a form that came is examined and stands at the start of its buffer.
use Rattle.std.specs.Prelude.{ℕ, ◌≤◌, ◌≡◌, Bool, true, length, take, Option, None, Some, Result, Ok, Err}
use Rattle.words.specs.Words.{Bytes}
use Rattle.rules.specs.declared.answer.Refusal.{Refusal}
use Rattle.rules.specs.Answers.{Answer, refusal_number}
use Rattle.rules.specs.Register.{is_register}
use Rattle.rules.specs.Sheet.{is_sheet}

-- the first n bytes of a buffer are of a form
pub record Holds (form : Bytes → Bool) (buffer : Bytes) (n : ℕ) : Type 0 where
  pub within : n ≤ length buffer
  pub examined : form (take n buffer) ≡ true

-- the numbers that reading and joining refuse with: ill-formed, and sheets that cannot be joined
pub data Early : ℕ → Type 0 where
  register : Early 1
  sheet : Early 2
  epochs : Early 4
  rosters : Early 5

-- what came of a register, into a buffer
abbrev pub RegisterIn : Option ℕ → Bytes → Type 0
RegisterIn (Some n) b = Holds is_register b n
RegisterIn None b = Unit {0}

-- what came of a sheet, into a buffer: a sheet, none where the input had ended, or a refusal
abbrev pub CameIn : Result (Option ℕ) Refusal → Bytes → Type 0
CameIn (Ok (Some n)) b = Holds is_sheet b n
CameIn (Ok None) b = Unit {0}
CameIn (Err x) b = Early (refusal_number x)

-- what came of all sheets, joined in a buffer
abbrev pub SheetsIn : Answer → Bytes → Type 0
SheetsIn (Ok n) b = Holds is_sheet b n
SheetsIn (Err x) b = Early (refusal_number x)
