-- What the program prints of a register and the sheet that all sheets joined.
use Rattle.std.specs.Prelude.{ℕ, ◌≡◌, true, map}
use Rattle.words.specs.Words.{Bytes}
use Rattle.rules.specs.Register.{Register, register_in, is_register}
use Rattle.rules.specs.Sheet.{Sheet, csn_of, sheet_in, is_sheet}
use Rattle.rules.specs.Closing.{verdicts}
use Rattle.rules.specs.Becoming.{next}
use Rattle.rules.specs.Refused.{Outcome, refused, done, Closing, register_room, verdict_room, close_outcome}
use Rattle.report.specs.Report.{Put, report, refused_text}
use Rattle.input.specs.Reading.{Early}

-- the report of the next register and the verdicts, or the refusal's number
unfoldable pub text_of : Register → Sheet → Outcome Closing → Bytes
text_of g s (refused n) = refused_text n
text_of g s (done c) = report (next g s) (map csn_of s.sets) (verdicts g s)

-- what is printed of a register and a sheet that are closed
unfoldable pub closed_text : Bytes → Bytes → Bytes
closed_text register sheet = text_of (register_in register) (sheet_in sheet) (close_outcome register sheet register_room verdict_room)

-- what a run writes at the start of a buffer: a refusal that it met before closing, or what is printed of a register and a sheet that it examined
pub data Ran (before after : Bytes) (r : ℕ) : Type 0 where
  refuses : (n : ℕ) → Early n → Put (refused_text n) before 0 after r → Ran before after r
  closes : (register sheet : Bytes) → is_register register ≡ true → is_sheet sheet ≡ true → Put (closed_text register sheet) before 0 after r → Ran before after r
