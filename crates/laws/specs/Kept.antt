-- A PROMISE KEPT TELLS THE OUTCOME: from what an operation answers and leaves in its buffers one reads what it did, and from what it did
-- one reads the answer and every lent byte.
use Prim.Native.Nat.{ℕ}
use Rattle.std.specs.Prelude.{◌≡◌, length, None, Ok, Err}
use Rattle.std.proofs.Math.Path.{refl, sym, ap}
use Rattle.std.proofs.Common.{subst, ◌∙◌, take_at, drop_at}
use Rattle.std.proofs.Math.ListN.{take, drop}
use Rattle.words.specs.Words.{Bytes}
use Rattle.rules.specs.declared.desk.OpenSet.{OpenSet}
use Rattle.rules.specs.declared.answer.Refusal.{Refusal}
use Rattle.rules.specs.declared.answer.Reason.{Reason}
use Rattle.rules.specs.Answers.{Answer, ClosedAnswer, lengths, fails_with, refusal_number}
use Rattle.rules.specs.ReadCheck.{Finding, passes, fails}
use Rattle.rules.specs.Refused.{Outcome, refused, done, Closing}
use Rattle.rules.specs.Promises.{over, told, left, Promise, told_closing, left_register, left_verdicts, ClosePromise, told_finding, CheckPromise, told_entering, left_entering, EnterPromise, left_offering, OfferPromise}
use Rattle.rules.specs.OpenSet.{empty_set}
use Rattle.rules.specs.Applies.{Asked, Foremost, RefusedExactly}
use Rattle.rules.specs.Settled.{Four, same_refusal, refusal_some, reason_some, same_reason, settled, settled_closing}
use Rattle.laws.specs.Meets.{writes, refuses_closing, writes_closing}

-- never refused with 0, which is the number of a success
abbrev pub Numbered : {A : Type 0} → Outcome A → Type 0
Numbered o = o ≡ refused 0 → ⊥

-- what is refused exactly when the table says is never refused with 0
pub numbered : {A : Type 0} {q : Asked} {o : Outcome A} {a : A} → RefusedExactly q o a → Numbered o
numbered h e = let w = h.only_when 0 e in refusal_some w.0 w.1

-- the refusal that it answers is the foremost that applies
pub refused_foremost : {A : Type 0} {q : Asked} {o : Outcome A} {a : A} {x : Refusal} → RefusedExactly q o a → o ≡ refused (refusal_number x) → Foremost q x
refused_foremost {q} {x} h e = let w = h.only_when (refusal_number x) e in subst (Foremost q) (same_refusal w.0 x (sym w.1)) w.2

-- what is written stands at the start of the buffer
pub written : (old new : Bytes) (n : ℕ) {after : Bytes} → n ≡ length new → after ≡ over old new → new ≡ take n after
unfolding over
written old new n e p = sym (ap (take n) p ∙ take_at new (drop (length new) old) n (sym e))

-- and the bytes after it stay
pub unwritten : (old new : Bytes) (n : ℕ) {after : Bytes} → n ≡ length new → after ≡ over old new → drop n after ≡ drop n old
unfolding over
unwritten old new n e p = ap (drop n) p ∙ drop_at new (drop (length new) old) n (sym e) ∙ ap (λ (k : ℕ). drop k old) (sym e)

-- ---- one buffer

module _ (o : Outcome Bytes) {before after : Bytes} where
  -- WHERE IT ANSWERS A LENGTH IT IS DONE, and that many bytes of the buffer are the result
  pub kept_done : {n : ℕ} → Numbered o → Promise o before (Ok n) after → o ≡ done (take n after)
  unfolding told left
  kept_done {n} h p = go o refl p
    where
      go : (r : Outcome Bytes) → o ≡ r → Promise r before (Ok n) after → o ≡ done (take n after)
      go (refused k) e p = absurd (h (e ∙ ap refused (sym (ap (λ (x : ℕ × ℕ). x.0) p.answered))))
      go (done b) e p = e ∙ ap done (written before b n (ap (λ (x : ℕ × ℕ). x.1) p.answered) p.buffer)

  -- the bytes after that length stay
  pub kept_after : {n : ℕ} → Promise o before (Ok n) after → drop n after ≡ drop n before
  unfolding told left
  kept_after {n} p = go o p
    where
      go : (r : Outcome Bytes) → Promise r before (Ok n) after → drop n after ≡ drop n before
      go (refused k) p = ap (drop n) p.buffer
      go (done b) p = unwritten before b n (ap (λ (x : ℕ × ℕ). x.1) p.answered) p.buffer

  -- WHERE IT ANSWERS A REFUSAL IT IS REFUSED WITH THAT NUMBER, and the buffer is as it was
  pub kept_refused : {x : Refusal} → Promise o before (Err x) after → (o ≡ refused (refusal_number x)) × (after ≡ before)
  unfolding told left
  kept_refused {x} p = go o refl p
    where
      go : (r : Outcome Bytes) → o ≡ r → Promise r before (Err x) after → (o ≡ refused (refusal_number x)) × (after ≡ before)
      go (refused k) e p = (e ∙ ap refused (sym (ap (λ (y : ℕ × ℕ). y.0) p.answered)), p.buffer)
      go (done b) e p = absurd (refusal_some x (sym (ap (λ (y : ℕ × ℕ). y.0) p.answered)))

  -- AND BACK: done, it answers the length, and writes the result at the start of the buffer
  pub kept_wrote : {b : Bytes} {a : Answer} → o ≡ done b → Promise o before a after → (a ≡ Ok (length b)) × (after ≡ over before b)
  kept_wrote {b} e p = settled o before p (writes o b before (over before b) (length b) e refl refl)

-- the length of an answer
abbrev length_in : Answer → ℕ
length_in (Ok n) = n
length_in (Err x) = 0

-- the two lengths of closing's
abbrev lengths_in : ClosedAnswer → ℕ × ℕ
lengths_in (Ok c) = (c.register, c.verdicts)
lengths_in (Err x) = (0, 0)

-- THE LENGTH THAT IT ANSWERS IS THAT OF THE RESULT
pub kept_length : (o : Outcome Bytes) {before after : Bytes} {n : ℕ} → Numbered o → Promise o before (Ok n) after → n ≡ length (take n after)
kept_length o h p = ap length_in (kept_wrote o (kept_done o h p) p).0

-- ---- closing

module _ (o : Outcome Closing) {next next' verdicts verdicts' : Bytes} where
  -- THE SAME OF CLOSING
  pub kept_done_closing : {i j : ℕ} → Numbered o → ClosePromise o next verdicts (lengths i j) next' verdicts'
      → o ≡ done (record { register = take i next'; verdicts = take j verdicts' })
  unfolding told_closing left_register left_verdicts
  kept_done_closing {i} {j} h p = go o refl p
    where
      go : (r : Outcome Closing) → o ≡ r → ClosePromise r next verdicts (lengths i j) next' verdicts'
          → o ≡ done (record { register = take i next'; verdicts = take j verdicts' })
      go (refused k) e p = absurd (h (e ∙ ap refused (sym (ap (λ (x : ℕ × ℕ × ℕ). x.0) p.answered))))
      go (done c) e p =
          let f = written next c.register i (ap (λ (x : ℕ × ℕ × ℕ). x.1) p.answered) p.next in
          let g = written verdicts c.verdicts j (ap (λ (x : ℕ × ℕ × ℕ). x.2) p.answered) p.verdicts in
          e ∙ (λ t. done (record { register = f t; verdicts = g t }))

  pub kept_after_closing : {i j : ℕ} → ClosePromise o next verdicts (lengths i j) next' verdicts' → (drop i next' ≡ drop i next) × (drop j verdicts' ≡ drop j verdicts)
  unfolding told_closing left_register left_verdicts
  kept_after_closing {i} {j} p = go o p
    where
      go : (r : Outcome Closing) → ClosePromise r next verdicts (lengths i j) next' verdicts' → (drop i next' ≡ drop i next) × (drop j verdicts' ≡ drop j verdicts)
      go (refused k) p = (ap (drop i) p.next, ap (drop j) p.verdicts)
      go (done c) p = (
        unwritten next c.register i (ap (λ (x : ℕ × ℕ × ℕ). x.1) p.answered) p.next,
        unwritten verdicts c.verdicts j (ap (λ (x : ℕ × ℕ × ℕ). x.2) p.answered) p.verdicts,
      )

  pub kept_refused_closing : {x : Refusal} → ClosePromise o next verdicts (Err x) next' verdicts'
      → (o ≡ refused (refusal_number x)) × (next' ≡ next) × (verdicts' ≡ verdicts)
  unfolding told_closing left_register left_verdicts
  kept_refused_closing {x} p = go o refl p
    where
      go : (r : Outcome Closing) → o ≡ r → ClosePromise r next verdicts (Err x) next' verdicts'
          → (o ≡ refused (refusal_number x)) × (next' ≡ next) × (verdicts' ≡ verdicts)
      go (refused k) e p = (e ∙ ap refused (sym (ap (λ (y : ℕ × ℕ × ℕ). y.0) p.answered)), p.next, p.verdicts)
      go (done c) e p = absurd (refusal_some x (sym (ap (λ (y : ℕ × ℕ × ℕ). y.0) p.answered)))

  pub kept_wrote_closing : {c : Closing} {a : ClosedAnswer} → o ≡ done c → ClosePromise o next verdicts a next' verdicts'
      → (a ≡ lengths (length c.register) (length c.verdicts)) × (next' ≡ over next c.register) × (verdicts' ≡ over verdicts c.verdicts)
  kept_wrote_closing {c} e p = settled_closing o next verdicts p (writes_closing o c next verdicts e)

  pub kept_refuses_closing : {x : Refusal} {a : ClosedAnswer} → o ≡ refused (refusal_number x) → ClosePromise o next verdicts a next' verdicts'
      → (a ≡ Err x) × (next' ≡ next) × (verdicts' ≡ verdicts)
  kept_refuses_closing {x} e p = settled_closing o next verdicts p (refuses_closing o x next verdicts e)

pub kept_lengths : (o : Outcome Closing) {next next' verdicts verdicts' : Bytes} {i j : ℕ} → Numbered o → ClosePromise o next verdicts (lengths i j) next' verdicts'
    → (i ≡ length (take i next')) × (j ≡ length (take j verdicts'))
kept_lengths o h p = let e = (kept_wrote_closing o (kept_done_closing o h p) p).0 in (ap (λ (a : ClosedAnswer). (lengths_in a).0) e, ap (λ (a : ClosedAnswer). (lengths_in a).1) e)

-- ---- read check

module _ (o : Outcome Finding) where
  -- WHERE THE READ CHECK ANSWERS PASS, it found none that fails
  pub kept_pass : Numbered o → CheckPromise o (Ok None) → o ≡ done passes
  unfolding told_finding
  kept_pass h p = go o refl p
    where
      go : (r : Outcome Finding) → o ≡ r → CheckPromise r (Ok None) → o ≡ done passes
      go (refused k) e p = absurd (h (e ∙ ap refused (sym (ap (λ (x : Four). x.0) p.answered))))
      go (done passes) e p = e
      go (done (fails i k r)) e p = absurd (reason_some r (ap (λ (x : Four). x.3) p.answered))

  -- WHERE IT ANSWERS AN ENTRY, that is the first that fails
  pub kept_fails : {i k : ℕ} {r : Reason} → CheckPromise o (fails_with i k r) → o ≡ done (fails i k r)
  unfolding told_finding
  kept_fails {i} {k} {r} p = go o refl p
    where
      go : (q : Outcome Finding) → o ≡ q → CheckPromise q (fails_with i k r) → o ≡ done (fails i k r)
      go (refused n) e p = absurd (reason_some r (sym (ap (λ (x : Four). x.3) p.answered)))
      go (done passes) e p = absurd (reason_some r (sym (ap (λ (x : Four). x.3) p.answered)))
      go (done (fails j l q)) e p =
          let f = sym (ap (λ (x : Four). x.1) p.answered) in
          let g = sym (ap (λ (x : Four). x.2) p.answered) in
          let h = same_reason q r (sym (ap (λ (x : Four). x.3) p.answered)) in
          e ∙ (λ t. done (fails (f t) (g t) (h t)))

  -- WHERE IT ANSWERS A REFUSAL, it is refused with that number
  pub kept_refused_check : {x : Refusal} → CheckPromise o (Err x) → o ≡ refused (refusal_number x)
  unfolding told_finding
  kept_refused_check {x} p = go o refl p
    where
      go : (r : Outcome Finding) → o ≡ r → CheckPromise r (Err x) → o ≡ refused (refusal_number x)
      go (refused k) e p = e ∙ ap refused (sym (ap (λ (y : Four). y.0) p.answered))
      go (done passes) e p = absurd (refusal_some x (sym (ap (λ (y : Four). y.0) p.answered)))
      go (done (fails i k r)) e p = absurd (refusal_some x (sym (ap (λ (y : Four). y.0) p.answered)))

-- ---- the desk

module _ (o : Outcome OpenSet) {before after : OpenSet} where
  -- WHERE ENTERING ANSWERS THAT THE RECORD IS ADDED IT IS DONE, and the open set is the result
  pub kept_added : Numbered o → EnterPromise o before (Ok tt) after → o ≡ done after
  unfolding told_entering left_entering
  kept_added h p = go o refl p
    where
      go : (r : Outcome OpenSet) → o ≡ r → EnterPromise r before (Ok tt) after → o ≡ done after
      go (refused n) e p = absurd (h (e ∙ ap refused (sym p.answered)))
      go (done b) e p = e ∙ ap done (sym p.open_set)

  -- WHERE IT ANSWERS A REFUSAL IT IS REFUSED WITH THAT NUMBER, and the open set is as it was
  pub kept_refused_entering : {x : Refusal} → EnterPromise o before (Err x) after → (o ≡ refused (refusal_number x)) × (after ≡ before)
  unfolding told_entering left_entering
  kept_refused_entering {x} p = go o refl p
    where
      go : (r : Outcome OpenSet) → o ≡ r → EnterPromise r before (Err x) after → (o ≡ refused (refusal_number x)) × (after ≡ before)
      go (refused n) e p = (e ∙ ap refused (sym p.answered), p.open_set)
      go (done b) e p = absurd (refusal_some x (sym p.answered))

module _ (o : Outcome Bytes) {before after : OpenSet} {l l' : Bytes} where
  -- AN OFFER THAT IS NOT REFUSED LEAVES THE OPEN SET EMPTY
  pub kept_offered : {n : ℕ} → Numbered o → OfferPromise o before l (Ok n) after l' → after ≡ empty_set
  unfolding left_offering
  kept_offered h p = p.open_set ∙ ap (λ (r : Outcome Bytes). left_offering r before) (kept_done o h p.sheet)

  -- AND ONE THAT IS REFUSED LEAVES IT, and the buffer, as they were
  pub kept_refused_offering : {x : Refusal} → OfferPromise o before l (Err x) after l' → (o ≡ refused (refusal_number x)) × (after ≡ before) × (l' ≡ l)
  unfolding left_offering
  kept_refused_offering p =
      let k = kept_refused o p.sheet in
      (k.0, p.open_set ∙ ap (λ (r : Outcome Bytes). left_offering r before) k.0, k.1)
