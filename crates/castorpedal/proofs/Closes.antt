-- Closing writes no more than a register and 64 verdicts may have, so its lengths fit the C struct; and how its export keeps its promise.
use Rattle.std.proofs.Common.{Ok, Err}
use Prim.Native.Nat.{ℕ, ◌≤◌}
use mathlib.Core.Path.{◌≡◌, refl, sym, ◌∙◌, ap, subst}
use native.Mathlib.Omega.{arith}
use lib.ListN.{length}
use Rattle.words.specs.Words.{Bytes}
use Rattle.rules.specs.Answers.{ClosedAnswer, closed_numbers}
use Rattle.rules.specs.Register.{Register, max_rows}
use Rattle.rules.specs.Sheet.{Sheet, max_sets}
use Rattle.rules.specs.Becoming.{next_rows, next}
use Rattle.rules.specs.Refused.{Outcome, refused, done, Closing, register_room, verdict_room, closing, close_outcome}
use Rattle.rules.specs.Promises.{told_closing, ClosePromise}
use Rattle.laws.specs.SheetLaws.{sound_sheet→, written_read}
use Rattle.laws.specs.Closers.{closes→}
use Rattle.laws.specs.VerdictLength.{verdicts_long}
use Rattle.registers.specs.RegisterWritten.{length_fits, register_long}
use Rattle.castorpedal.specs.declared.answer.CClosed.{CClosed}
use Rattle.castorpedal.specs.Exported.{WithinClosed, ToldClosed, KeptClose}

-- ---- what closing writes

-- a closing whose lengths are at most those of a register and of 64 verdicts
abbrev pub Small : Closing → Type 0
Small c = (length c.register ≤ register_room) × (length c.verdicts ≤ verdict_room)

small : (g : Register) (s : Sheet) → length (next_rows g s) ≤ max_rows → length s.sets ≤ max_sets → Small (closing g s)
unfolding closing next
small g s h k = (omega (arith, register_long (next g s), length_fits (length (next_rows g s)) h), omega (arith, verdicts_long g s))

pub close_fits : (register sheet : Bytes) (next_room room : ℕ) (c : Closing) → close_outcome register sheet next_room room ≡ done c → Small c
close_fits register sheet next_room room c p =
    let q = closes→ register sheet next_room room c p in
    let h = q.2 in
    let few = (sound_sheet→ q.1 (written_read sheet q.1 h.reads_sheet).1).few in
    subst Small (sym q.3) (small q.0 q.1 h.few few)

-- ---- how the export keeps its promise

pub within_closed : (o : Outcome Closing) (a : ClosedAnswer) → closed_numbers a ≡ told_closing o → ((c : Closing) → o ≡ done c → Small c) → WithinClosed a
unfolding told_closing
within_closed (refused n) (Ok k) p f = let q = ap (λ (x : ℕ × ℕ × ℕ). x.1) p in let r = ap (λ (x : ℕ × ℕ × ℕ). x.2) p in omega arith
within_closed (done c) (Ok k) p f = let q = ap (λ (x : ℕ × ℕ × ℕ). x.1) p in let r = ap (λ (x : ℕ × ℕ × ℕ). x.2) p in omega (arith, f c refl)
within_closed o (Err x) p f = tt

pub kept_close : (o : Outcome Closing) (before-next before-verdicts : Bytes) {a : ClosedAnswer} {r : CClosed} {after_next after-verdicts : Bytes}
    → ClosePromise o before-next before-verdicts a after_next after-verdicts → ToldClosed a r → KeptClose o before-next before-verdicts r after_next after-verdicts
kept_close o before-next before-verdicts p t = record { answered = t.numbers ∙ p.answered; next = p.next; verdicts = p.verdicts }
