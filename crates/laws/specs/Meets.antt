-- How a program meets the one-buffer promise, closing's, and the desk's.
use Rattle.std.specs.Prelude.{ℕ, ◌≡◌, refl, length, Ok, Err}
use Rattle.std.proofs.Common.{sym, ◌∙◌, ap}
use Rattle.words.specs.Words.{Bytes}
use Rattle.rules.specs.declared.desk.OpenSet.{OpenSet}
use Rattle.rules.specs.declared.answer.Refusal.{Refusal}
use Rattle.rules.specs.Answers.{Answer, lengths, refusal_number, answer_numbers}
use Rattle.rules.specs.Refused.{Outcome, refused, done, Closing}
use Rattle.rules.specs.Promises.{over, told, left, Promise, told_closing, left_register, left_verdicts, ClosePromise, told_entering, left_entering, EnterPromise, left_offering, OfferPromise}
use Rattle.rules.specs.OpenSet.{empty_set}
use Rattle.rules.specs.Settled.{refusal_some}

pub refuses : (o : Outcome Bytes) (x : Refusal) (l : Bytes) → o ≡ refused (refusal_number x) → Promise o l (Err x) l
unfolding told left
refuses o x l e = rw e (record { answered = refl; buffer = refl })

pub writes : (o : Outcome Bytes) (b l l' : Bytes) (n : ℕ) → o ≡ done b → n ≡ length b → l' ≡ over l b → Promise o l (Ok n) l'
unfolding told left
writes o b l l' n e p q = rw e (record { answered = ap (λ (k : ℕ). (0, k)) p; buffer = q })

pub refuses_closing : (o : Outcome Closing) (x : Refusal) (n v : Bytes) → o ≡ refused (refusal_number x) → ClosePromise o n v (Err x) n v
unfolding told_closing left_register left_verdicts
refuses_closing o x n v e = rw e (record { answered = refl; next = refl; verdicts = refl })

pub writes_closing : (o : Outcome Closing) (c : Closing) (n v : Bytes) → o ≡ done c
    → ClosePromise o n v (lengths (length c.register) (length c.verdicts)) (over n c.register) (over v c.verdicts)
unfolding told_closing left_register left_verdicts
writes_closing o c n v e = rw e (record { answered = refl; next = refl; verdicts = refl })

pub refuses_entering : (o : Outcome OpenSet) (x : Refusal) (before : OpenSet) → o ≡ refused (refusal_number x) → EnterPromise o before (Err x) before
unfolding told_entering left_entering
refuses_entering o x before e = rw e (record { answered = refl; open_set = refl })

pub adds : (o : Outcome OpenSet) (before after : OpenSet) → o ≡ done after → EnterPromise o before (Ok tt) after
unfolding told_entering left_entering
adds o before after e = rw e (record { answered = refl; open_set = refl })

-- the open set that an answer leaves: empty, unless it is a refusal
abbrev pub emptied : Answer → OpenSet → OpenSet
emptied (Ok n) before = empty_set
emptied (Err x) before = before

-- where the sheet's promise is kept, offering's is by what its answer leaves of the open set
pub offers : (o : Outcome Bytes) (before : OpenSet) {l l' : Bytes} (a : Answer) → (o ≡ refused 0 → ⊥) → Promise o l a l' → OfferPromise o before l a (emptied a before) l'
unfolding told left_offering
offers o before {l} {l'} a h p = record { sheet = p; open_set = go o a refl p.answered }
  where
    go : (r : Outcome Bytes) (a : Answer) → o ≡ r → answer_numbers a ≡ told r → emptied a before ≡ left_offering r before
    go (refused n) (Ok k) e q = absurd (h (e ∙ ap refused (sym (ap (λ (x : ℕ × ℕ). x.0) q))))
    go (refused n) (Err x) e q = refl
    go (done b) (Ok k) e q = refl
    go (done b) (Err x) e q = absurd (refusal_some x (sym (ap (λ (x : ℕ × ℕ). x.0) q)))
