-- Each refusal of closing, and what is promised where nothing refuses.
use Prim.Native.Nat.{ℕ, ◌+◌, ◌≤◌, ◌<◌}
use mathlib.Core.Path.{◌≡◌, sym, ◌∙◌, ap}
use mathlib.Core.Bool.{true, false}
use mathlib.Core.List.{List, []}
use Rattle.std.specs.Prelude.{Some}
use native.Mathlib.Omega.{arith}
use borrow.Author.Tests.{lt-ltb, le-ltb}
use lib.ListN.{length}
use lib.Dec.{eqb}
use Rattle.words.specs.Words.{Bytes}
use Rattle.rules.specs.declared.row.Row.{Row}
use Rattle.rules.specs.Answers.{ClosedAnswer, lengths}
use Rattle.rules.specs.Lists.{◌or◌, flat}
use Rattle.rules.specs.Register.{Register, max_rows, is_register, register_in}
use Rattle.rules.specs.Sheet.{Sheet, is_sheet, sheet_in}
use Rattle.rules.specs.Closing.{complete, verdicts}
use Rattle.rules.specs.Becoming.{next_rows, next}
use Rattle.rules.specs.Refused.{Outcome, refused, done, Closing, closing, register_room, verdict_room, verdict_bytes, close_sheet, close_outcome}
use Rattle.rules.specs.Promises.{over, told_closing, left_register, left_verdicts, ClosePromise}
use Rattle.laws.specs.RegisterLaws.{register_read, register_unread}
use Rattle.laws.specs.SheetLaws.{sheet_read, sheet_unread}
use Rattle.laws.specs.VerdictLength.{verdicts_long}
use Rattle.forms.specs.VerdictForm.{verdicts_length}
use Rattle.registers.specs.declared.writing.Draft.{Draft}
use Rattle.registers.specs.declared.writing.Writing.{Writing}
use Rattle.registers.specs.RegisterWriting.{register_length, RowsPut, RowsWritten}
use Rattle.registers.specs.RegisterWritten.{length_fits, register_long, finished}
use Rattle.closing.specs.Outcome.{close_complete, NextStands}

-- the same of an equal outcome
pub alike : {o p : Outcome Closing} {a b : Bytes} {r : ClosedAnswer} {a' b' : Bytes} → o ≡ p → ClosePromise p a b r a' b' → ClosePromise o a b r a' b'
alike e h = rw e h

-- ---- bad form comes first

module _ (r t : Bytes) (n m : ℕ) where
  pub close_1 : is_register r ≡ false → close_outcome r t n m ≡ refused 1
  unfolding close_outcome close_sheet
  close_1 h = simp (register_unread r h)

  pub close_2 : is_register r ≡ true → is_sheet t ≡ false → close_outcome r t n m ≡ refused 2
  unfolding close_outcome close_sheet
  close_2 h k = simp (register_read r h, sheet_unread t k)

  pub close_on : is_register r ≡ true → is_sheet t ≡ true → close_outcome r t n m ≡ close_sheet (Some (register_in r)) (Some (sheet_in t)) n m
  unfolding close_outcome
  close_on h k = simp (register_read r h, sheet_read t k)

-- ---- then epoch, state and completeness

module _ (g : Register) (s : Sheet) (n m : ℕ) where
  pub sheet_4 : eqb s.epoch (g.snapshot + 1) ≡ false → close_sheet (Some g) (Some s) n m ≡ refused 4
  unfolding close_sheet
  sheet_4 e = simp e

  pub sheet_6 : eqb s.epoch (g.snapshot + 1) ≡ true → s.spoiled ≡ true → close_sheet (Some g) (Some s) n m ≡ refused 6
  unfolding close_sheet
  sheet_6 e p = simp (e, p)

  pub sheet_7 : eqb s.epoch (g.snapshot + 1) ≡ true → s.spoiled ≡ false → complete s ≡ false → close_sheet (Some g) (Some s) n m ≡ refused 7
  unfolding close_sheet
  sheet_7 e p c = simp (e, p, c)

  pub sheet_on : eqb s.epoch (g.snapshot + 1) ≡ true → s.spoiled ≡ false → complete s ≡ true → close_sheet (Some g) (Some s) n m ≡ close_complete g s n m
  unfolding close_sheet close_complete
  sheet_on e p c = simp (e, p, c)

  -- ---- then rows and room

  pub complete_8 : max_rows < length (next_rows g s) → close_complete g s n m ≡ refused 8
  unfolding close_complete
  complete_8 h = simp (lt-ltb max_rows (length (next_rows g s)) h)

  module _ (few : length (next_rows g s) ≤ max_rows) where
    pub complete_9_next : n < register_room → close_complete g s n m ≡ refused 9
    unfolding close_complete ◌or◌
    complete_9_next h = simp (le-ltb max_rows (length (next_rows g s)) few, lt-ltb n register_room h)

    pub complete_9_verdicts : register_room ≤ n → m < verdict_room → close_complete g s n m ≡ refused 9
    unfolding close_complete ◌or◌
    complete_9_verdicts h k = simp (le-ltb max_rows (length (next_rows g s)) few, le-ltb n register_room h, lt-ltb m verdict_room k)

    complete_done : register_room ≤ n → verdict_room ≤ m → close_complete g s n m ≡ done (closing g s)
    unfolding close_complete ◌or◌
    complete_done h k = simp (le-ltb max_rows (length (next_rows g s)) few, le-ltb n register_room h, le-ltb m verdict_room k)

-- ---- what is written

-- the draft that was begun has the next rows left to put
pub next_fits : (rows : List Row) {before after : Bytes} {d : Draft} {snap : ℕ} → d.rows ≡ length rows → RowsPut snap [] before d after → d.put + length rows ≤ d.rows
next_fits rows n p = omega (arith, n, p.put)

-- once its rows are put the next register stands, and it is as long as its draft says
pub next_stands : (snapshot : ℕ) (rows : List Row) → length rows ≤ max_rows → {before after : Bytes} {v w : Writing} {snap : ℕ} → snap ≡ snapshot
    → register_room ≤ length before → v.draft.rows ≡ length rows → RowsPut snap [] before v.draft v.out.now → RowsWritten rows v w
    → after ≡ w.out.now → {r : ℕ} → r ≡ register_length w.draft.rows
    → NextStands (record { snapshot = snapshot; rows = rows }) before r after
next_stands snapshot rows few {before} {w = w} epoch room n p q left long =
    let g : Register = record { snapshot = snapshot; rows = rows } in
    let many : w.draft.rows ≡ length rows = q.added.same ∙ n in
    let wide : register_length w.draft.rows ≤ length before = rw many (omega (arith, length_fits (length rows) few)) in
    record {
      bytes = left ∙ finished g many wide (rw epoch at (q.added.behind _ [] before p));
      long = long ∙ ap register_length many ∙ sym (register_long g);
    }

-- the rows that are written are the next rows
pub closes : (g : Register) (s : Sheet) {rows : List Row} → rows ≡ next_rows g s → length rows ≤ max_rows → (a b : Bytes) {a' b' : Bytes} (n m : ℕ)
    → register_room ≤ length a → verdict_room ≤ length b → NextStands (record { snapshot = g.snapshot + 1; rows = rows }) a n a' → m ≡ verdicts_length (length s.sets)
    → b' ≡ over b (flat verdict_bytes (verdicts g s)) → ClosePromise (close_complete g s (length a) (length b)) a b (lengths n m) a' b'
unfolding told_closing left_register left_verdicts closing next
closes g s e few a b {a'} n m h k stands f q =
    let p : NextStands (next g s) a n a' = rw e at stands in
    alike (complete_done g s (length a) (length b) (rw e at few) h k)
    (record {
      answered = λ i. (0, p.long i, (f ∙ sym (verdicts_long g s)) i);
      next = p.bytes;
      verdicts = q;
    })
