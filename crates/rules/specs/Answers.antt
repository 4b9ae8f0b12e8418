-- The documents' number and values for every case of every answer.
use Rattle.std.specs.Prelude.{ℕ, Option, None, Some, Result, Ok, Err}
use Rattle.rules.specs.declared.answer.Refusal.{Refusal}
use Rattle.rules.specs.declared.answer.Refusal.TheVariants.{RegisterIllFormed, SheetIllFormed, OfferIllFormed, WrongEpoch, WrongRoster, Spoiled, Incomplete, TooManyRows, BufferShort, CheckIllFormed, BadTag, KeyEntered, NinthRecord}
use Rattle.rules.specs.declared.answer.Reason.{Reason}
use Rattle.rules.specs.declared.answer.Reason.TheVariants.{Gone, OtherCsn, TooNew}
use Rattle.rules.specs.declared.answer.Verdict.{Verdict}
use Rattle.rules.specs.declared.answer.Verdict.TheVariants.{Commit, Lost, Unfit}
use Rattle.rules.specs.declared.answer.Closed.{Closed}
use Rattle.rules.specs.declared.answer.Failure.{Failure}

-- of an operation with one buffer: the length written at its start, or a refusal
abbrev pub Answer : Type 0
Answer = Result ℕ Refusal

-- of closing: the lengths of the next register and of the verdicts, or a refusal
abbrev pub ClosedAnswer : Type 0
ClosedAnswer = Result Closed Refusal

-- such an answer, by its two lengths
abbrev pub lengths : ℕ → ℕ → ClosedAnswer
lengths register verdicts = Ok (record { register = register; verdicts = verdicts })

-- of the read check: the first failing entry, none where it passes, or a refusal
abbrev pub Checked : Type 0
Checked = Result (Option Failure) Refusal

-- such an answer, by the entry that fails
abbrev pub fails_with : ℕ → ℕ → Reason → Checked
fails_with index key reason = Ok (Some (record { index = index; key = key; reason = reason }))

-- of entering: the record is in the open set, or a refusal
abbrev pub Entered : Type 0
Entered = Result (Unit {0}) Refusal

-- the table of 'What is refused', and document 02's refusals
abbrev pub refusal_number : Refusal → ℕ
refusal_number RegisterIllFormed = 1
refusal_number SheetIllFormed = 2
refusal_number OfferIllFormed = 3
refusal_number WrongEpoch = 4
refusal_number WrongRoster = 5
refusal_number Spoiled = 6
refusal_number Incomplete = 7
refusal_number TooManyRows = 8
refusal_number BufferShort = 9
refusal_number CheckIllFormed = 10
refusal_number BadTag = 11
refusal_number KeyEntered = 12
refusal_number NinthRecord = 13

-- the read check's reasons
abbrev pub reason_number : Reason → ℕ
reason_number Gone = 1
reason_number OtherCsn = 2
reason_number TooNew = 3

-- a verdict's code
abbrev pub verdict_code : Verdict → ℕ
verdict_code Commit = 1
verdict_code (Lost k) = 2
verdict_code (Unfit k) = 3

-- 0 at commit, else the smallest key lost or found wrong
abbrev pub verdict_key : Verdict → ℕ
verdict_key Commit = 0
verdict_key (Lost k) = k
verdict_key (Unfit k) = k

-- the number 0 and the length written, or the refusal's number and length 0
abbrev pub answer_numbers : Answer → ℕ × ℕ
answer_numbers (Ok n) = (0, n)
answer_numbers (Err x) = (refusal_number x, 0)

-- the same with the register's and the verdicts' length
abbrev pub closed_numbers : ClosedAnswer → ℕ × ℕ × ℕ
closed_numbers (Ok c) = (0, c.register, c.verdicts)
closed_numbers (Err x) = (refusal_number x, 0, 0)

-- the refusal's number or 0, then index, key and reason, all three 0 at a pass or a refusal
abbrev pub checked_numbers : Checked → ℕ × ℕ × ℕ × ℕ
checked_numbers (Ok None) = (0, 0, 0, 0)
checked_numbers (Ok (Some f)) = (0, f.index, f.key, reason_number f.reason)
checked_numbers (Err x) = (refusal_number x, 0, 0, 0)

-- of entering: 0, or the refusal's number
abbrev pub entered_number : Entered → ℕ
entered_number (Ok done) = 0
entered_number (Err x) = refusal_number x
