-- A CALLER'S CALLS of open, put, notice and join, each on bytes that an earlier call wrote or that were given, and one of close: what they
-- answered and left in their buffers, where the operations keep their promises. The operations' contracts are these very promises.
use Rattle.std.specs.Prelude.{ℕ, ◌≡◌, true, [], length, take, Ok, Err}
use Rattle.words.specs.Words.{Bytes}
use Rattle.rules.specs.Answers.{Answer, ClosedAnswer, refusal_number}
use Rattle.rules.specs.Sheet.{is_sheet}
use Rattle.rules.specs.Refused.{Outcome, refused, done, open_outcome, put_outcome, notice_outcome, join_outcome, close_outcome}
use Rattle.rules.specs.Promises.{Promise, ClosePromise}
use Rattle.laws.specs.Trees.{Number, Tree, opened, put, notice, join, given}
use Rattle.laws.specs.SameClosing.{LongEnough}

-- the calls of a tree were made: the last of them answered this and left this in its buffer, and those before it answered success
pub data Called : Tree → Answer → Bytes → Type 0 where
  opens : (e : Number 4) (r : Number 2) (before : Bytes) {a : Answer} {after : Bytes}
      → Promise (open_outcome e.value r.value (length before)) before a after → Called (opened e r (length before)) a after
  puts : {t : Tree} {n : ℕ} {held : Bytes} → Called t (Ok n) held → (e sen : ℕ) (csn : Number 8) (b before : Bytes) {a : Answer} {after : Bytes}
      → Promise (put_outcome (take n held) e sen csn.value b (length before)) before a after → Called (put t e sen csn b (length before)) a after
  notices : {t : Tree} {n : ℕ} {held : Bytes} → Called t (Ok n) held → (e m k : ℕ) (before : Bytes) {a : Answer} {after : Bytes}
      → Promise (notice_outcome (take n held) e m k (length before)) before a after → Called (notice t e m k (length before)) a after
  joins : {t u : Tree} {n m : ℕ} {held other : Bytes} → Called t (Ok n) held → Called u (Ok m) other → (before : Bytes) {a : Answer} {after : Bytes}
      → Promise (join_outcome (take n held) (take m other) (length before)) before a after → Called (join t u (length before)) a after
  -- no call: a sheet that was given
  begins : (b : Bytes) (p : is_sheet b ≡ true) → Called (given b p) (Ok (length b)) b

-- an outcome is told by an answer and the buffer after it
abbrev pub AnsweredBy : Outcome Bytes → Answer → Bytes → Type 0
AnsweredBy o (Ok n) after = o ≡ done (take n after)
AnsweredBy o (Err x) after = o ≡ refused (refusal_number x)

-- ---- a call of close

-- a call of close on a register and a sheet: what it answered, and what it left in the buffers that it was lent
pub record CloseCall (register sheet : Bytes) (a : ClosedAnswer) (next verdicts : Bytes) : Type 0 where
  pub lent_next : Bytes
  pub lent_verdicts : Bytes
  pub kept : ClosePromise (close_outcome register sheet (length lent_next) (length lent_verdicts)) lent_next lent_verdicts a next verdicts

-- its buffers were long enough
abbrev pub Roomy : {register sheet : Bytes} {a : ClosedAnswer} {next verdicts : Bytes} → CloseCall register sheet a next verdicts → Type 0
Roomy c = LongEnough (length c.lent_next) (length c.lent_verdicts)

-- what is written of the next register
abbrev pub written_next : ClosedAnswer → Bytes → Bytes
written_next (Ok c) next = take c.register next
written_next (Err x) next = []

-- and of the verdicts
abbrev pub written_verdicts : ClosedAnswer → Bytes → Bytes
written_verdicts (Ok c) verdicts = take c.verdicts verdicts
written_verdicts (Err x) verdicts = []
