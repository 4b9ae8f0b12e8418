-- The promises of the exported operations: those of `rules`, with the answer as numbers in a C struct.
use Rattle.std.specs.Prelude.{ℕ, ◌≤◌, ◌≡◌, Ok, Err}
use Rattle.words.specs.Words.{Bytes}
use Rattle.rules.specs.declared.desk.OpenSet.{OpenSet}
use Rattle.rules.specs.ReadCheck.{Finding}
use Rattle.rules.specs.Answers.{Answer, ClosedAnswer, Checked, answer_numbers, closed_numbers, checked_numbers}
use Rattle.rules.specs.Refused.{Outcome, Closing, register_room, verdict_room}
use Rattle.rules.specs.Promises.{told, left, told_closing, left_register, left_verdicts, told_finding, told_entering, left_entering, left_offering}
use Rattle.castorpedal.specs.declared.answer.CAnswer.{CAnswer}
use Rattle.castorpedal.specs.declared.answer.CClosed.{CClosed}
use Rattle.castorpedal.specs.declared.answer.CChecked.{CChecked}

-- the length of an answer is at most n
abbrev pub Within : ℕ → Answer → Type 0
Within n (Ok k) = k ≤ n
Within n (Err x) = Unit {0}

-- the lengths of closing's answer are at most those of a register and of 64 verdicts
abbrev pub WithinClosed : ClosedAnswer → Type 0
WithinClosed (Ok c) = (c.register ≤ register_room) × (c.verdicts ≤ verdict_room)
WithinClosed (Err x) = Unit {0}

-- an answer's numbers
pub record Told (a : Answer) (r : CAnswer) : Type 0 where
  pub numbers : (r.code, r.len) ≡ answer_numbers a

-- the same of closing's answer
pub record ToldClosed (a : ClosedAnswer) (r : CClosed) : Type 0 where
  pub numbers : (r.code, r.register_len, r.verdicts_len) ≡ closed_numbers a

-- and of the read check's
pub record ToldChecked (a : Checked) (r : CChecked) : Type 0 where
  pub numbers : (r.code, r.index, r.key, r.reason) ≡ checked_numbers a

-- the promise of an operation with one buffer
pub record Kept (o : Outcome Bytes) (before : Bytes) (r : CAnswer) (after : Bytes) : Type 0 where
  pub answered : (r.code, r.len) ≡ told o
  pub buffer : after ≡ left o before

-- of closing, with a buffer for the next register and one for the verdicts
pub record KeptClose (o : Outcome Closing) (before-next before-verdicts : Bytes) (r : CClosed) (after_next after-verdicts : Bytes) : Type 0 where
  pub answered : (r.code, r.register_len, r.verdicts_len) ≡ told_closing o
  pub next : after_next ≡ left_register o before-next
  pub verdicts : after-verdicts ≡ left_verdicts o before-verdicts

-- of the read check, which is lent no buffer to write
pub record KeptCheck (o : Outcome Finding) (r : CChecked) : Type 0 where
  pub answered : (r.code, r.index, r.key, r.reason) ≡ told_finding o

-- of entering, which is lent the open set: 0, or the refusal's number
pub record KeptEnter (o : Outcome OpenSet) (before : OpenSet) (r : ℕ) (after : OpenSet) : Type 0 where
  pub answered : r ≡ told_entering o
  pub open_set : after ≡ left_entering o before

-- of offering, which is lent the open set and a buffer for the sheet
pub record KeptOffer (o : Outcome Bytes) (before : OpenSet) (before-out : Bytes) (r : CAnswer) (after : OpenSet) (after-out : Bytes) : Type 0 where
  pub sheet : Kept o before-out r after-out
  pub open_set : after ≡ left_offering o before
