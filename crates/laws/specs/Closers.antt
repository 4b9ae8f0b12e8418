-- DEMAND 2 asked of any closing, over what it answers and leaves in its buffers: the verdicts and the next register of document 01's rule,
-- with L1's marks, where nothing refuses, else the foremost refusal that applies. It asks just what `close` promises, and the paper's closing
-- meets it.
use Rattle.std.specs.Prelude.{ℕ, ◌+◌, ◌≤◌, ◌≡◌, refl, true, false, not, length, ltb, eqb, Option, None, Some, Err}
use Rattle.std.proofs.Common.{sym, subst, ◌∙◌, ap, arith, eqb-true, eq-eqb, ne_eqb, ltb-false, le-ltb}
use Rattle.std.proofs.lemmas.Bool.{not-false}
use Rattle.words.specs.Words.{Bytes}
use Rattle.rules.specs.declared.answer.Refusal.{Refusal}
use Rattle.rules.specs.Lists.{◌or◌}
use Rattle.rules.specs.Register.{Register, max_rows, register_in, read_register}
use Rattle.rules.specs.Sheet.{Sheet, sheet_in, read_sheet}
use Rattle.rules.specs.Closing.{complete}
use Rattle.rules.specs.Becoming.{next_rows, next}
use Rattle.rules.specs.Answers.{ClosedAnswer, lengths}
use Rattle.rules.specs.Refused.{Outcome, refused, done, Closing, closing, register_room, verdict_room, close_sheet, close_outcome}
use Rattle.rules.specs.Promises.{over, ClosePromise}
use Rattle.rules.specs.Applies.{to_close, Foremost}
use Rattle.laws.specs.Tests.{or_false}
use Rattle.laws.specs.RegisterLaws as register
use Rattle.laws.specs.SheetLaws as sheet
use Rattle.laws.specs.NextSound.{next_read}
use Rattle.laws.specs.NotRefused.{refused_not, done_same, passed}
use Rattle.laws.specs.Exactly.{first_for, foremost, none_applies, close_exactly}
use Rattle.laws.specs.Meets.{refuses_closing, writes_closing}
use Rattle.laws.specs.Kept.{kept_wrote_closing, kept_refuses_closing}

-- what a closing answers, and what it leaves in its two buffers
pub record Left : Type 0 where
  pub answer : ClosedAnswer
  pub next : Bytes
  pub verdicts : Bytes

-- a closing, told by what it does with a register, a sheet, and the two buffers as they were lent
abbrev pub Closer : Type 0
Closer = Bytes → Bytes → Bytes → Bytes → Left

-- it answers the two lengths, and writes at the start of the buffers
abbrev pub writes : Closing → Bytes → Bytes → Left
writes c next verdicts = record { answer = lengths (length c.register) (length c.verdicts); next = over next c.register; verdicts = over verdicts c.verdicts }

-- it answers the refusal, and leaves the buffers as they were
abbrev pub refuses_with : Refusal → Bytes → Bytes → Left
refuses_with x next verdicts = record { answer = Err x; next = next; verdicts = verdicts }

-- nothing refuses the closing of this register and this sheet
pub record Closes (r t : Bytes) (next_room room : ℕ) (g : Register) (s : Sheet) : Type 0 where
  pub reads_register : read_register r ≡ Some g
  pub reads_sheet : read_sheet t ≡ Some s
  pub follows : s.epoch ≡ g.snapshot + 1
  pub unspoiled : s.spoiled ≡ false
  pub all_sent : complete s ≡ true
  pub few : length (next_rows g s) ≤ max_rows
  pub next_room_lem : register_room ≤ next_room
  pub verdict_room_lem : verdict_room ≤ room

-- DEMAND 2
pub record Demand2 (c : Closer) : Type 0 where
  pub closes : (r t next verdicts : Bytes) (g : Register) (s : Sheet) → Closes r t (length next) (length verdicts) g s
      → c r t next verdicts ≡ writes (closing g s) next verdicts
  pub refuses : (r t next verdicts : Bytes) (x : Refusal) → Foremost (to_close r t (length next) (length verdicts)) x
      → c r t next verdicts ≡ refuses_with x next verdicts

-- what is left is what closing promises of this outcome, in buffers that held this
abbrev pub Promised : Outcome Closing → Bytes → Bytes → Left → Type 0
Promised o next verdicts l = ClosePromise o next verdicts l.answer l.next l.verdicts

-- the closing keeps the promise that `close` ensures
abbrev pub Keeps : Closer → Type 0
Keeps c = (r t next verdicts : Bytes) → Promised (close_outcome r t (length next) (length verdicts)) next verdicts (c r t next verdicts)

-- a closing that is not refused
pub closes→ : (r t : Bytes) (n m : ℕ) (c : Closing) → close_outcome r t n m ≡ done c → (g : Register) × (s : Sheet) × Closes r t n m g s × (c ≡ closing g s)
unfolding close_outcome close_sheet
closes→ r t n m c p = go (read_register r) refl (read_sheet t) refl p
  where
    go : (a : Option Register) → read_register r ≡ a → (b : Option Sheet) → read_sheet t ≡ b → close_sheet a b n m ≡ done c
        → (g : Register) × (s : Sheet) × Closes r t n m g s × (c ≡ closing g s)
    go None e b f p = absurd (refused_not p)
    go (Some g) e None f p = absurd (refused_not p)
    go (Some g) e (Some s) f p =
        let p₁ = passed (not (eqb s.epoch (g.snapshot + 1))) 4 _ c p in
        let p₂ = passed s.spoiled 6 _ c p₁.1 in
        let p₃ = passed (not (complete s)) 7 _ c p₂.1 in
        let p₄ = passed (ltb max_rows (length (next_rows g s))) 8 _ c p₃.1 in
        let p₅ = passed (ltb n register_room or ltb m verdict_room) 9 _ c p₄.1 in
        let rooms = or_false _ _ p₅.0 in (
          g,
          s,
          record {
            reads_register = e;
            reads_sheet = f;
            follows = eqb-true _ _ (not-false _ p₁.0);
            unspoiled = p₂.0;
            all_sent = not-false _ p₃.0;
            few = ltb-false max_rows (length (next_rows g s)) p₄.0;
            next_room_lem = ltb-false n register_room rooms.0;
            verdict_room_lem = ltb-false m verdict_room rooms.1;
          },
          sym (done_same p₅.1),
        )

pub →closes : (r t : Bytes) (n m : ℕ) (g : Register) (s : Sheet) → Closes r t n m g s → close_outcome r t n m ≡ done (closing g s)
unfolding close_outcome close_sheet ◌or◌
→closes r t n m g s h =
    simp (
      h.reads_register,
      h.reads_sheet,
      eq-eqb _ _ h.follows,
      h.unspoiled,
      h.all_sent,
      le-ltb max_rows (length (next_rows g s)) h.few,
      le-ltb n register_room h.next_room_lem,
      le-ltb m verdict_room h.verdict_room_lem,
    )

-- ---- what demand 2 asks is what `close` promises

module _ (r t next verdicts : Bytes) (l : Left) (p : Promised (close_outcome r t (length next) (length verdicts)) next verdicts l) where
  -- A CALL THAT KEEPS THE PROMISE OF CLOSE DOES WHAT IS ASKED, where nothing refuses
  pub promised_closes : (g : Register) (s : Sheet) → Closes r t (length next) (length verdicts) g s → l ≡ writes (closing g s) next verdicts
  promised_closes g s h =
      let w = kept_wrote_closing (close_outcome r t (length next) (length verdicts)) (→closes r t (length next) (length verdicts) g s h) p in
      λ i. record { answer = w.0 i; next = w.1 i; verdicts = w.2 i }

  -- and where a refusal is the foremost that applies
  pub promised_refuses : (x : Refusal) → Foremost (to_close r t (length next) (length verdicts)) x → l ≡ refuses_with x next verdicts
  promised_refuses x h =
      let w = kept_refuses_closing (close_outcome r t (length next) (length verdicts)) ((close_exactly r t (length next) (length verdicts)).refused_when x h) p in
      λ i. record { answer = w.0 i; next = w.1 i; verdicts = w.2 i }

-- SO WHOEVER KEEPS THE PROMISE OF CLOSE MEETS DEMAND 2
pub keeps_meets : (c : Closer) → Keeps c → Demand2 c
keeps_meets c k = record {
  closes = λ r t next verdicts. promised_closes r t next verdicts (c r t next verdicts) (k r t next verdicts);
  refuses = λ r t next verdicts. promised_refuses r t next verdicts (c r t next verdicts) (k r t next verdicts);
}

-- AND IT SETTLES THE OUTCOME: whoever meets it does what the paper does
pub settles : (c : Closer) → Demand2 c → Keeps c
settles c d r t next verdicts = go (close_outcome r t (length next) (length verdicts)) refl
  where
    go : (o : Outcome Closing) → close_outcome r t (length next) (length verdicts) ≡ o → Promised o next verdicts (c r t next verdicts)
    go (refused n) e =
        let w = (close_exactly r t (length next) (length verdicts)).only_when n e in
        subst (Promised (refused n) next verdicts) (sym (d.refuses r t next verdicts w.0 w.2)) (refuses_closing (refused n) w.0 next verdicts (ap refused w.1))
    go (done k) e =
        let w = closes→ r t (length next) (length verdicts) k e in
        subst (Promised (done k) next verdicts) (sym (d.closes r t next verdicts w.0 w.1 w.2))
        (writes_closing (done k) (closing w.0 w.1) next verdicts (ap done w.3))

-- what is left where this refusal is the foremost that applies, or none does
unfoldable pub leaves : Option Refusal → Closing → Bytes → Bytes → Left
leaves None c next verdicts = writes c next verdicts
leaves (Some x) c next verdicts = refuses_with x next verdicts

-- the paper's own closing
unfoldable pub paper_closer : Closer
paper_closer r t next verdicts = leaves (first_for (to_close r t (length next) (length verdicts))) (closing (register_in r) (sheet_in t)) next verdicts

paper_keeps : Keeps paper_closer
unfolding leaves paper_closer
paper_keeps r t next verdicts = go (first_for (to_close r t (length next) (length verdicts))) refl
  where
    go : (f : Option Refusal) → first_for (to_close r t (length next) (length verdicts)) ≡ f
        → Promised (close_outcome r t (length next) (length verdicts)) next verdicts (leaves f (closing (register_in r) (sheet_in t)) next verdicts)
    go None e = writes_closing _ _ next verdicts ((close_exactly r t (length next) (length verdicts)).else_done (none_applies _ e))
    go (Some x) e = refuses_closing _ x next verdicts ((close_exactly r t (length next) (length verdicts)).refused_when x (foremost _ x e))

-- THE PAPER'S CLOSING MEETS IT
pub paper_closes : Demand2 paper_closer
paper_closes = keeps_meets paper_closer paper_keeps

-- CLOSED AGAIN ON ITS RESULT, THE SAME SHEET IS REFUSED WITH 4
pub closed_again : (r t : Bytes) (n m : ℕ) (c : Closing) → close_outcome r t n m ≡ done c
    → (n' m' : ℕ) → close_outcome c.register t n' m' ≡ refused 4
unfolding close_outcome close_sheet closing next
closed_again r t n m c p n' m' =
    let q = closes→ r t n m c p in
    let g = q.0 in
    let s = q.1 in
    let h = q.2 in
    let sound_g = (register.written_read r g h.reads_register).1 in
    let sound_s = (sheet.written_read t s h.reads_sheet).1 in
    let again : read_register c.register ≡ Some (next g s) =
    ap (λ (k : Closing). read_register k.register) q.3 ∙ next_read g s sound_g sound_s h.follows h.few in
    let epoch = h.follows in
    simp (again, h.reads_sheet, ne_eqb s.epoch (g.snapshot + 1 + 1) (λ e. absurd (omega arith)))

-- NO EPOCH FOLLOWS SNAPSHOT 4,294,967,295: every sheet is refused with 4
pub none_follows : (r t : Bytes) (n m : ℕ) (g : Register) (s : Sheet) → read_register r ≡ Some g → read_sheet t ≡ Some s → g.snapshot ≡ 4294967295
    → close_outcome r t n m ≡ refused 4
unfolding close_outcome close_sheet
none_follows r t n m g s p q e =
    let k = sheet.sound_sheet→ s (sheet.written_read t s q).1 in
    simp (p, q, ne_eqb s.epoch (g.snapshot + 1) (λ c. absurd (omega (arith, k.epoch))))
