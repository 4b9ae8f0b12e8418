-- What an operation promises: its answer is the outcome's, and every lent byte is told.
use Rattle.std.specs.Prelude.{ℕ, ◌≡◌, ◌++◌, length, drop}
use Rattle.words.specs.Words.{Bytes}
use Rattle.rules.specs.declared.desk.OpenSet.{OpenSet}
use Rattle.rules.specs.Answers.{Answer, ClosedAnswer, Checked, Entered, answer_numbers, closed_numbers, checked_numbers, entered_number, reason_number}
use Rattle.rules.specs.OpenSet.{empty_set}
use Rattle.rules.specs.ReadCheck.{Finding, passes, fails}
use Rattle.rules.specs.Refused.{Outcome, refused, done, Closing}

-- the new bytes at the start of a buffer; those after them stay
unfoldable pub over : Bytes → Bytes → Bytes
over old new = new ++ drop (length new) old

-- the number and the length that an outcome is answered with
unfoldable pub told : Outcome Bytes → ℕ × ℕ
told (refused n) = (n, 0)
told (done b) = (0, length b)

-- what an outcome leaves in a buffer: after a refusal, what it held
unfoldable pub left : Outcome Bytes → Bytes → Bytes
left (refused n) old = old
left (done b) old = over old b

-- of an operation with one buffer, which held `before` and then holds `after`
pub record Promise (o : Outcome Bytes) (before : Bytes) (answer : Answer) (after : Bytes) : Type 0 where
  pub answered : answer_numbers answer ≡ told o
  pub buffer : after ≡ left o before

-- the number and the two lengths that an outcome of closing is answered with
unfoldable pub told_closing : Outcome Closing → ℕ × ℕ × ℕ
told_closing (refused n) = (n, 0, 0)
told_closing (done c) = (0, length c.register, length c.verdicts)

-- what an outcome of closing leaves in the buffer for the next register
unfoldable pub left_register : Outcome Closing → Bytes → Bytes
left_register (refused n) old = old
left_register (done c) old = over old c.register

-- and in the buffer for the verdicts
unfoldable pub left_verdicts : Outcome Closing → Bytes → Bytes
left_verdicts (refused n) old = old
left_verdicts (done c) old = over old c.verdicts

-- of closing, with a buffer for the next register and one for the verdicts
pub record ClosePromise (o : Outcome Closing) (before-next before-verdicts : Bytes) (answer : ClosedAnswer) (after_next after-verdicts : Bytes) : Type 0 where
  pub answered : closed_numbers answer ≡ told_closing o
  pub next : after_next ≡ left_register o before-next
  pub verdicts : after-verdicts ≡ left_verdicts o before-verdicts

-- the refusal's number or 0, then index, key and reason, all three 0 at a pass or a refusal
unfoldable pub told_finding : Outcome Finding → ℕ × ℕ × ℕ × ℕ
told_finding (refused n) = (n, 0, 0, 0)
told_finding (done passes) = (0, 0, 0, 0)
told_finding (done (fails i k r)) = (0, i, k, reason_number r)

-- of the read check, which is lent no buffer to write
pub record CheckPromise (o : Outcome Finding) (answer : Checked) : Type 0 where
  pub answered : checked_numbers answer ≡ told_finding o

-- what an outcome of entering is answered with: 0, or the refusal's number
unfoldable pub told_entering : Outcome OpenSet → ℕ
told_entering (refused n) = n
told_entering (done o) = 0

-- the open set after it: after a refusal, what it was
unfoldable pub left_entering : Outcome OpenSet → OpenSet → OpenSet
left_entering (refused n) old = old
left_entering (done o) old = o

-- of entering, where the open set was `before` and then is `after`
pub record EnterPromise (o : Outcome OpenSet) (before : OpenSet) (answer : Entered) (after : OpenSet) : Type 0 where
  pub answered : entered_number answer ≡ told_entering o
  pub open_set : after ≡ left_entering o before

-- the open set after an offer: empty, unless it was refused
unfoldable pub left_offering : Outcome Bytes → OpenSet → OpenSet
left_offering (refused n) old = old
left_offering (done b) old = empty_set

-- of offering, with a buffer for the sheet: what an operation with one buffer promises, and the open set
pub record OfferPromise (o : Outcome Bytes) (before : OpenSet) (before-out : Bytes) (answer : Answer) (after : OpenSet) (after-out : Bytes) : Type 0 where
  pub sheet : Promise o before-out answer after-out
  pub open_set : after ≡ left_offering o before

-- opens all of these, for a proof by computation
unfoldable pub run_promises : Unit {0}
unfolding over told left told_closing left_register left_verdicts told_finding told_entering left_entering left_offering
run_promises = tt
