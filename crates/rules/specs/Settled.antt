-- A promise settles answer and every lent byte: two outcomes that it allows are equal.
use Rattle.std.specs.Prelude.{ℕ, ◌≡◌, refl, [], ◌∷◌, get_or, None, Some, Ok, Err}
use Rattle.std.proofs.Common.{sym, ◌∙◌, ap, arith}
use Rattle.words.specs.Words.{Bytes}
use Rattle.rules.specs.declared.answer.Refusal.{Refusal}
use Rattle.rules.specs.declared.answer.Refusal.TheVariants.{RegisterIllFormed, SheetIllFormed, OfferIllFormed, WrongEpoch, WrongRoster, Spoiled, Incomplete, TooManyRows, BufferShort, CheckIllFormed, BadTag, KeyEntered, NinthRecord}
use Rattle.rules.specs.declared.answer.Reason.{Reason}
use Rattle.rules.specs.declared.answer.Reason.TheVariants.{Gone, OtherCsn, TooNew}
use Rattle.rules.specs.declared.desk.OpenSet.{OpenSet}
use Rattle.rules.specs.Answers.{Answer, ClosedAnswer, Checked, Entered, refusal_number, reason_number, answer_numbers, closed_numbers, checked_numbers, entered_number}
use Rattle.rules.specs.Refused.{Outcome, Closing}
use Rattle.rules.specs.ReadCheck.{Finding}
use Rattle.rules.specs.Promises.{Promise, ClosePromise, CheckPromise, EnterPromise, OfferPromise}

-- ---- an answer is told by its numbers

-- the refusal of a number, counted from 1
abbrev refusal_of : ℕ → Refusal
refusal_of n =
    get_or
    (RegisterIllFormed ∷ RegisterIllFormed ∷ SheetIllFormed ∷ OfferIllFormed ∷ WrongEpoch ∷ WrongRoster ∷ Spoiled ∷ Incomplete ∷ TooManyRows ∷ BufferShort ∷ CheckIllFormed ∷ BadTag ∷ KeyEntered ∷ [])
    n NinthRecord

refusal_back : (x : Refusal) → refusal_of (refusal_number x) ≡ x
refusal_back RegisterIllFormed = refl
refusal_back SheetIllFormed = refl
refusal_back OfferIllFormed = refl
refusal_back WrongEpoch = refl
refusal_back WrongRoster = refl
refusal_back Spoiled = refl
refusal_back Incomplete = refl
refusal_back TooManyRows = refl
refusal_back BufferShort = refl
refusal_back CheckIllFormed = refl
refusal_back BadTag = refl
refusal_back KeyEntered = refl
refusal_back NinthRecord = refl

pub same_refusal : (x y : Refusal) → refusal_number x ≡ refusal_number y → x ≡ y
same_refusal x y e = sym (refusal_back x) ∙ ap refusal_of e ∙ refusal_back y

-- no refusal has the number of a success
pub refusal_some : (x : Refusal) → 0 ≡ refusal_number x → ⊥
refusal_some RegisterIllFormed e = omega arith
refusal_some SheetIllFormed e = omega arith
refusal_some OfferIllFormed e = omega arith
refusal_some WrongEpoch e = omega arith
refusal_some WrongRoster e = omega arith
refusal_some Spoiled e = omega arith
refusal_some Incomplete e = omega arith
refusal_some TooManyRows e = omega arith
refusal_some BufferShort e = omega arith
refusal_some CheckIllFormed e = omega arith
refusal_some BadTag e = omega arith
refusal_some KeyEntered e = omega arith
refusal_some NinthRecord e = omega arith

abbrev reason_of : ℕ → Reason
reason_of n = get_or (Gone ∷ Gone ∷ OtherCsn ∷ []) n TooNew

reason_back : (x : Reason) → reason_of (reason_number x) ≡ x
reason_back Gone = refl
reason_back OtherCsn = refl
reason_back TooNew = refl

pub same_reason : (x y : Reason) → reason_number x ≡ reason_number y → x ≡ y
same_reason x y e = sym (reason_back x) ∙ ap reason_of e ∙ reason_back y

-- and no reason the 0 of a pass
pub reason_some : (x : Reason) → 0 ≡ reason_number x → ⊥
reason_some Gone e = omega arith
reason_some OtherCsn e = omega arith
reason_some TooNew e = omega arith

same_answer : (a b : Answer) → answer_numbers a ≡ answer_numbers b → a ≡ b
same_answer (Ok n) (Ok m) e = ap Ok (ap (λ (x : ℕ × ℕ). x.1) e)
same_answer (Ok n) (Err y) e = absurd (refusal_some y (ap (λ (x : ℕ × ℕ). x.0) e))
same_answer (Err x) (Ok m) e = absurd (refusal_some x (sym (ap (λ (x : ℕ × ℕ). x.0) e)))
same_answer (Err x) (Err y) e = ap Err (same_refusal x y (ap (λ (x : ℕ × ℕ). x.0) e))

same_closed : (a b : ClosedAnswer) → closed_numbers a ≡ closed_numbers b → a ≡ b
same_closed (Ok c) (Ok d) e = λ t. Ok (record { register = ap (λ (x : ℕ × ℕ × ℕ). x.1) e t; verdicts = ap (λ (x : ℕ × ℕ × ℕ). x.2) e t })
same_closed (Ok c) (Err y) e = absurd (refusal_some y (ap (λ (x : ℕ × ℕ × ℕ). x.0) e))
same_closed (Err x) (Ok d) e = absurd (refusal_some x (sym (ap (λ (x : ℕ × ℕ × ℕ). x.0) e)))
same_closed (Err x) (Err y) e = ap Err (same_refusal x y (ap (λ (x : ℕ × ℕ × ℕ). x.0) e))

-- the numbers of the read check's answer
abbrev pub Four : Type 0
Four = ℕ × ℕ × ℕ × ℕ

same_checked : (a b : Checked) → checked_numbers a ≡ checked_numbers b → a ≡ b
same_checked (Ok None) (Ok None) e = refl
same_checked (Ok None) (Ok (Some f)) e = absurd (reason_some f.reason (ap (λ (x : Four). x.3) e))
same_checked (Ok None) (Err y) e = absurd (refusal_some y (ap (λ (x : Four). x.0) e))
same_checked (Ok (Some f)) (Ok None) e = absurd (reason_some f.reason (sym (ap (λ (x : Four). x.3) e)))
same_checked (Ok (Some f)) (Ok (Some g)) e =
    let p = same_reason f.reason g.reason (ap (λ (x : Four). x.3) e) in
    λ t. Ok (Some (record { index = ap (λ (x : Four). x.1) e t; key = ap (λ (x : Four). x.2) e t; reason = p t }))
same_checked (Ok (Some f)) (Err y) e = absurd (refusal_some y (ap (λ (x : Four). x.0) e))
same_checked (Err x) (Ok None) e = absurd (refusal_some x (sym (ap (λ (x : Four). x.0) e)))
same_checked (Err x) (Ok (Some g)) e = absurd (refusal_some x (sym (ap (λ (x : Four). x.0) e)))
same_checked (Err x) (Err y) e = ap Err (same_refusal x y (ap (λ (x : Four). x.0) e))

same_entered : (a b : Entered) → entered_number a ≡ entered_number b → a ≡ b
same_entered (Ok u) (Ok v) e = refl
same_entered (Ok u) (Err y) e = absurd (refusal_some y e)
same_entered (Err x) (Ok v) e = absurd (refusal_some x (sym e))
same_entered (Err x) (Err y) e = ap Err (same_refusal x y e)

-- ---- settled

-- TWO OUTCOMES THAT THE ONE-BUFFER PROMISE ALLOWS ARE EQUAL
pub settled : (o : Outcome Bytes) (before : Bytes) {a b : Answer} {after after' : Bytes} → Promise o before a after → Promise o before b after' → (a ≡ b) × (after ≡ after')
settled o before {a} {b} p q = (same_answer a b (p.answered ∙ sym q.answered), p.buffer ∙ sym q.buffer)

-- THE SAME OF CLOSING
pub settled_closing : (o : Outcome Closing) (next verdicts : Bytes) {a b : ClosedAnswer} {n n' v v' : Bytes}
    → ClosePromise o next verdicts a n v → ClosePromise o next verdicts b n' v' → (a ≡ b) × (n ≡ n') × (v ≡ v')
settled_closing o next verdicts {a} {b} p q =
    (same_closed a b (p.answered ∙ sym q.answered), p.next ∙ sym q.next, p.verdicts ∙ sym q.verdicts)

-- AND OF THE READ CHECK
pub settled_check : (o : Outcome Finding) {a b : Checked} → CheckPromise o a → CheckPromise o b → a ≡ b
settled_check o {a} {b} p q = same_checked a b (p.answered ∙ sym q.answered)

-- OF ENTERING
pub settled_entering : (o : Outcome OpenSet) (before : OpenSet) {a b : Entered} {after after' : OpenSet}
    → EnterPromise o before a after → EnterPromise o before b after' → (a ≡ b) × (after ≡ after')
settled_entering o before {a} {b} p q = (same_entered a b (p.answered ∙ sym q.answered), p.open_set ∙ sym q.open_set)

-- AND OF OFFERING
pub settled_offering : (o : Outcome Bytes) (before : OpenSet) (out : Bytes) {a b : Answer} {after after' : OpenSet} {out₁ out₂ : Bytes}
    → OfferPromise o before out a after out₁ → OfferPromise o before out b after' out₂ → (a ≡ b) × (after ≡ after') × (out₁ ≡ out₂)
settled_offering o before out {a} {b} p q =
    (same_answer a b (p.sheet.answered ∙ sym q.sheet.answered), p.open_set ∙ sym q.open_set, p.sheet.buffer ∙ sym q.sheet.buffer)
