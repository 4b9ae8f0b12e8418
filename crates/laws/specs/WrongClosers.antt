-- WRONG VERSIONS OF CLOSING, each a class of closings, and each rejected by demand 2 on an example: those that document 01 names, and
-- two ways to mark rows that L1 rules out.
use Rattle.std.specs.Prelude.{ℕ, ◌+◌, ◌≤◌, ◌<◌, ◌≡◌, refl, true, length, get_or, take, replicate, eqb, Some, Ok, Err}
use Rattle.std.proofs.Common.{sym, ◌∙◌, ap, arith}
use mathlib.Core.List.{List, [], ◌∷◌, Memᴰ}
use Rattle.std.proofs.lemmas.List.{length-replicate, get_or-replicate}
use Rattle.words.specs.Words.{Bytes}
use Rattle.rules.specs.declared.mark.Mark.{Mark}
use Rattle.rules.specs.declared.row.Row.{Row}
use Rattle.rules.specs.declared.row.Record.{Record}
use Rattle.rules.specs.declared.answer.Refusal.{Refusal}
use Rattle.rules.specs.Lists.{any}
use Rattle.rules.specs.Register.{Register, register_bytes, read_register}
use Rattle.rules.specs.Sheet.{WriteSet, Sheet, read_sheet}
use Rattle.rules.specs.Closing.{mark_in, winner, committed}
use Rattle.rules.specs.Answers.{ClosedAnswer, lengths}
use Rattle.rules.specs.Refused.{Outcome, refused, done, Closing, register_room, verdict_room, close_outcome, run_refused}
use Rattle.rules.specs.Promises.{over}
use Rattle.laws.specs.Examples.{Step, notice, sheet_after, R, A, C, three_rows}
use Rattle.laws.specs.Kept.{written}
use Rattle.laws.specs.Closers.{Left, Closer, writes, Demand2, closes→}

-- REFUSING ALWAYS, with whatever refusal, whatever is left in the buffers
abbrev pub RefusesAlways : Closer → Type 0
RefusesAlways c = (r t next verdicts : Bytes) → (x : Refusal) × ((c r t next verdicts).answer ≡ Err x)

-- ANSWERING ALWAYS ALIKE: one answer for everything, whatever is left in the buffers
abbrev pub AnswersAlike : Closer → Type 0
AnswersAlike c = (a : ClosedAnswer) × ((r t next verdicts : Bytes) → (c r t next verdicts).answer ≡ a)

-- DOING NOTHING: both buffers are left as they were, and success is answered, or whatever else
abbrev pub DoesNothing : Closer → Type 0
DoesNothing c = (r t next verdicts : Bytes) → ((c r t next verdicts).next ≡ next) × ((c r t next verdicts).verdicts ≡ verdicts)

-- a row of the register that a closing writes of r and t into these buffers
pub record WritesRow (c : Closer) (r t next verdicts : Bytes) (x : Row) : Type 0 where
  pub register_long : ℕ
  pub verdicts_long : ℕ
  pub answers : (c r t next verdicts).answer ≡ lengths register_long verdicts_long
  pub register : Register
  pub reads : read_register (take register_long (c r t next verdicts).next) ≡ Some register
  pub in_it : Memᴰ x register.rows

-- STAMPING BY LOSERS, the rule before L1: a row that has a winner bears its mark, even if that set lost elsewhere
abbrev pub LosersStamp : Closer → Type 0
LosersStamp c =
    (r t next verdicts : Bytes) (g : Register) (s : Sheet) → read_register r ≡ Some g → read_sheet t ≡ Some s
    → (x : Row) (w : WriteSet) → WritesRow c r t next verdicts x → winner g s x.key ≡ Some w → x.mark ≡ mark_in s w

-- STAMPING ONE ROW A SET: an old row that a committed set names behind its first keeps its mark
abbrev pub FirstRowStamped : Closer → Type 0
FirstRowStamped c =
    (r t next verdicts : Bytes) (g : Register) (s : Sheet) → read_register r ≡ Some g → read_sheet t ≡ Some s
    → (row x : Row) (w : WriteSet) (first : Record) (rest : List Record) → Memᴰ row g.rows → WritesRow c r t next verdicts x → x.key ≡ row.key
    → Memᴰ w (committed g s) → w.records ≡ first ∷ rest → any (λ r. eqb r.key x.key) rest ≡ true → x.mark ≡ row.mark

-- N: no sets, notices 0
abbrev pub N : List Step
N = notice 3 0 ∷ notice 5 0 ∷ []

-- an example's sheet
abbrev pub sheet_of : List Step → Bytes
sheet_of xs = bytes_of (sheet_after 1 xs)
  where
    bytes_of : Outcome Bytes → Bytes
    bytes_of (refused x) = []
    bytes_of (done b) = b

-- demand 2 on an example that closes: what the closing of R and the example's sheet gives is written into any two buffers that are long enough
abbrev pub AsksOn : Closer → List Step → Type 0
AsksOn c xs =
    (k : Closing) → close_outcome (register_bytes R) (sheet_of xs) register_room verdict_room ≡ done k
    → (next verdicts : Bytes) → register_room ≤ length next → verdict_room ≤ length verdicts
    → c (register_bytes R) (sheet_of xs) next verdicts ≡ writes k next verdicts

-- it rejects a closing on an example: the closing does not do there what it asks
abbrev pub Rejects : Closer → List Step → Type 0
Rejects c xs = AsksOn c xs → ⊥

asks : (c : Closer) → Demand2 c → (xs : List Step) → AsksOn c xs
asks c d xs k e next verdicts n m =
    let w = closes→ (register_bytes R) (sheet_of xs) register_room verdict_room k e in
    let h = w.2 in
    d.closes (register_bytes R) (sheet_of xs) next verdicts w.0 w.1
    (record {
      reads_register = h.reads_register;
      reads_sheet = h.reads_sheet;
      follows = h.follows;
      unspoiled = h.unspoiled;
      all_sent = h.all_sent;
      few = h.few;
      next_room_lem = n;
      verdict_room_lem = m;
    })
    ∙ ap (λ (c : Closing). writes c next verdicts) (sym w.3)

pub rejected : (c : Closer) (xs : List Step) → Rejects c xs → Demand2 c → ⊥
rejected c xs h d = h (asks c d xs)

-- a buffer of zeros, long enough
zeros : ℕ → Bytes
zeros n = replicate n 0

zeros_long : (n : ℕ) → n ≤ length (zeros n)
unfolding zeros
zeros_long n = omega (arith, length-replicate {A = ℕ} n 0)

zeros_first : (n : ℕ) → 0 < n → get_or (zeros n) 0 0 ≡ 0
unfolding zeros
zeros_first n h = get_or-replicate n 0 0 0 h

-- what a closing does with R and an example's sheet in buffers of zeros
abbrev on : Closer → List Step → Left
on c xs = c (register_bytes R) (sheet_of xs) (zeros register_room) (zeros verdict_room)

asked : (c : Closer) (xs : List Step) (k : Closing) → close_outcome (register_bytes R) (sheet_of xs) register_room verdict_room ≡ done k → AsksOn c xs
    → on c xs ≡ writes k (zeros register_room) (zeros verdict_room)
asked c xs k e h = h k e (zeros register_room) (zeros verdict_room) (zeros_long register_room) (zeros_long verdict_room)

-- 0 for a refusal, else one more than the length of the verdicts
abbrev answered : ClosedAnswer → ℕ
answered (Ok c) = c.verdicts + 1
answered (Err x) = 0

-- A closes with two verdicts of 5 bytes
asked_A : (c : Closer) → AsksOn c A → answered (on c A).answer ≡ 11
unfolding run_refused
asked_A c h = ap (λ (l : Left). answered l.answer) (asked c A _ refl h)

-- N with none
asked_N : (c : Closer) → AsksOn c N → answered (on c N).answer ≡ 1
unfolding run_refused
asked_N c h = ap (λ (l : Left). answered l.answer) (asked c N _ refl h)

pub refusing_on_A : (c : Closer) → RefusesAlways c → Rejects c A
refusing_on_A c w h = let z : ◌≡◌ {A = ℕ} 0 11 = sym (ap answered (w _ _ _ _).1) ∙ asked_A c h in omega arith

pub refusing_on_N : (c : Closer) → RefusesAlways c → Rejects c N
refusing_on_N c w h = let z : ◌≡◌ {A = ℕ} 0 1 = sym (ap answered (w _ _ _ _).1) ∙ asked_N c h in omega arith

pub refusing_always_fails : (c : Closer) → RefusesAlways c → Demand2 c → ⊥
refusing_always_fails c w d = rejected c A (refusing_on_A c w) d

-- one answer cannot be both A's and N's
pub alike_on_A_and_N : (c : Closer) → AnswersAlike c → AsksOn c A → AsksOn c N → ⊥
alike_on_A_and_N c w h k =
    let z : ◌≡◌ {A = ℕ} 11 1 = sym (asked_A c h) ∙ ap answered (w.1 _ _ _ _ ∙ sym (w.1 _ _ _ _)) ∙ asked_N c k in omega arith

pub answering_alike_fails : (c : Closer) → AnswersAlike c → Demand2 c → ⊥
answering_alike_fails c w d = alike_on_A_and_N c w (asks c d A) (asks c d N)

-- the next register of A begins with its snapshot, 1
pub nothing_on_A : (c : Closer) → DoesNothing c → Rejects c A
unfolding run_refused over
nothing_on_A c w h =
    let z : get_or (zeros register_room) 0 0 ≡ 1 = ap (λ (l : Bytes). get_or l 0 0) (sym (w _ _ _ _).0 ∙ ap (λ (l : Left). l.next) (asked c A _ refl h)) in
    let first = zeros_first register_room (omega arith) in
    omega arith

pub doing_nothing_fails : (c : Closer) → DoesNothing c → Demand2 c → ⊥
doing_nothing_fails c w d = rejected c A (nothing_on_A c w) d

-- ---- marks

-- what an example's closing writes, as a row of what a closing that does as asked writes into buffers of zeros
row_written : (c : Closer) (xs : List Step) (k : Closing) (g : Register) → close_outcome (register_bytes R) (sheet_of xs) register_room verdict_room ≡ done k
    → read_register k.register ≡ Some g → AsksOn c xs → (x : Row) → Memᴰ x g.rows
    → WritesRow c (register_bytes R) (sheet_of xs) (zeros register_room) (zeros verdict_room) x
row_written c xs k g e q h x m =
    let l = asked c xs k e h in
    record {
      register_long = length k.register;
      verdicts_long = length k.verdicts;
      answers = ap (λ (y : Left). y.answer) l;
      register = g;
      reads = ap read_register (sym (written (zeros register_room) k.register (length k.register) refl (ap (λ (y : Left). y.next) l))) ∙ q;
      in_it = m;
    }

-- C's row 20 is won by csn 5, which is lost
pub losers_on_C : (c : Closer) → LosersStamp c → Rejects c C
unfolding run_refused
losers_on_C c w h =
    let x = row_written c C _ _ refl refl h _ (Memᴰ.tail (Memᴰ.head refl)) in
    let z : ◌≡◌ {A = ℕ} 0 1 = ap (λ (m : Mark). m.cen) (w _ _ _ _ _ _ refl refl _ _ x refl) in
    omega arith

pub losers_stamp_fails : (c : Closer) → LosersStamp c → Demand2 c → ⊥
losers_stamp_fails c w d = rejected c C (losers_on_C c w) d

-- the second of three rows that a set changes
pub first_on_three : (c : Closer) → FirstRowStamped c → Rejects c three_rows
unfolding run_refused
first_on_three c w h =
    let x = row_written c three_rows _ _ refl refl h _ (Memᴰ.tail (Memᴰ.head refl)) in
    let z : ◌≡◌ {A = ℕ} 1 0 =
    ap (λ (m : Mark). m.cen) (w _ _ _ _ _ _ refl refl _ _ _ _ _ (Memᴰ.tail (Memᴰ.head refl)) x refl (Memᴰ.head refl) refl refl) in
    omega arith

pub first_row_stamped_fails : (c : Closer) → FirstRowStamped c → Demand2 c → ⊥
first_row_stamped_fails c w d = rejected c three_rows (first_on_three c w) d
