-- An exported promise is the operation's own, its answer told in numbers: so what `merge` `Demands` says of calls holds of exported ones.
use Rattle.std.specs.Prelude.{ℕ, ◌≡◌, refl, length, None, Ok, Err}
use Rattle.std.proofs.Common.{sym, subst, ◌∙◌, ap}
use Rattle.words.specs.Words.{Bytes}
use Rattle.rules.specs.declared.desk.OpenSet.{OpenSet}
use Rattle.rules.specs.Answers.{Answer, ClosedAnswer, Checked, Entered, lengths, fails_with, entered_number}
use Rattle.rules.specs.ReadCheck.{Finding, passes, fails}
use Rattle.rules.specs.Refused.{Outcome, refused, done, Closing}
use Rattle.rules.specs.Promises.{told, left, Promise, told_closing, left_register, left_verdicts, ClosePromise, told_finding, CheckPromise, told_entering, left_entering, EnterPromise, OfferPromise}
use Rattle.rules.specs.Applies.{Asked, RefusedExactly}
use Rattle.castorpedal.specs.declared.answer.CAnswer.{CAnswer}
use Rattle.castorpedal.specs.declared.answer.CClosed.{CClosed}
use Rattle.castorpedal.specs.declared.answer.CChecked.{CChecked}
use Rattle.castorpedal.specs.Exported.{Told, ToldClosed, ToldChecked, Kept, KeptClose, KeptCheck, KeptEnter, KeptOffer}

-- OF AN OPERATION WITH ONE BUFFER
pub as_promised : (q : Asked) (o : Outcome Bytes) (result : Bytes) → RefusedExactly q o result → (before after : Bytes) (r : CAnswer) → Kept o before r after
    → (a : Answer) × Promise o before a after × Told a r
unfolding told left
as_promised q o result h before after r k = go o refl k
  where
    go : (p : Outcome Bytes) → o ≡ p → Kept p before r after → (a : Answer) × Promise o before a after × Told a r
    go (refused n) e k =
        let w = h.only_when n e in
        let c = ap {B = ℕ × ℕ} (λ (m : ℕ). (m, 0)) w.1 in (
          Err w.0,
          subst (λ (p : Outcome Bytes). Promise p before (Err w.0) after) (sym e) (record { answered = sym c; buffer = k.buffer }),
          record { numbers = k.answered ∙ c },
        )
    go (done b) e k = (
      Ok (length b),
      subst (λ (p : Outcome Bytes). Promise p before (Ok (length b)) after) (sym e) (record { answered = refl; buffer = k.buffer }),
      record { numbers = k.answered },
    )

-- OF CLOSING
pub as_promised_closing : (q : Asked) (o : Outcome Closing) (result : Closing) → RefusedExactly q o result
    → (next verdicts next' verdicts' : Bytes) (r : CClosed) → KeptClose o next verdicts r next' verdicts'
    → (a : ClosedAnswer) × ClosePromise o next verdicts a next' verdicts' × ToldClosed a r
unfolding told_closing left_register left_verdicts
as_promised_closing q o result h next verdicts next' verdicts' r k = go o refl k
  where
    go : (p : Outcome Closing) → o ≡ p → KeptClose p next verdicts r next' verdicts' → (a : ClosedAnswer) × ClosePromise o next verdicts a next' verdicts' × ToldClosed a r
    go (refused n) e k =
        let w = h.only_when n e in
        let c = ap {B = ℕ × ℕ × ℕ} (λ (m : ℕ). (m, 0, 0)) w.1 in (
          Err w.0,
          subst (λ (p : Outcome Closing). ClosePromise p next verdicts (Err w.0) next' verdicts') (sym e)
              (record { answered = sym c; next = k.next; verdicts = k.verdicts }),
          record { numbers = k.answered ∙ c },
        )
    go (done b) e k = (
      lengths (length b.register) (length b.verdicts),
      subst (λ (p : Outcome Closing). ClosePromise p next verdicts (lengths (length b.register) (length b.verdicts)) next' verdicts') (sym e)
          (record { answered = refl; next = k.next; verdicts = k.verdicts }),
      record { numbers = k.answered },
    )

-- OF THE READ CHECK
pub as_promised_check : (q : Asked) (o : Outcome Finding) (result : Finding) → RefusedExactly q o result → (r : CChecked) → KeptCheck o r
    → (a : Checked) × CheckPromise o a × ToldChecked a r
unfolding told_finding
as_promised_check q o result h r k = go o refl k
  where
    go : (p : Outcome Finding) → o ≡ p → KeptCheck p r → (a : Checked) × CheckPromise o a × ToldChecked a r
    go (refused n) e k =
        let w = h.only_when n e in
        let c = ap {B = ℕ × ℕ × ℕ × ℕ} (λ (m : ℕ). (m, 0, 0, 0)) w.1 in (
          Err w.0,
          subst (λ (p : Outcome Finding). CheckPromise p (Err w.0)) (sym e) (record { answered = sym c }),
          record { numbers = k.answered ∙ c },
        )
    go (done passes) e k = (Ok None, subst (λ (p : Outcome Finding). CheckPromise p (Ok None)) (sym e) (record { answered = refl }), record { numbers = k.answered })
    go (done (fails i j x)) e k = (
      fails_with i j x,
      subst (λ (p : Outcome Finding). CheckPromise p (fails_with i j x)) (sym e) (record { answered = refl }),
      record { numbers = k.answered },
    )

-- OF ENTERING
pub as_promised_entering : (q : Asked) (o : Outcome OpenSet) (result : OpenSet) → RefusedExactly q o result → (before after : OpenSet) (r : ℕ) → KeptEnter o before r after
    → (a : Entered) × EnterPromise o before a after × (r ≡ entered_number a)
unfolding told_entering left_entering
as_promised_entering q o result h before after r k = go o refl k
  where
    go : (p : Outcome OpenSet) → o ≡ p → KeptEnter p before r after → (a : Entered) × EnterPromise o before a after × (r ≡ entered_number a)
    go (refused n) e k =
        let w = h.only_when n e in (
          Err w.0,
          subst (λ (p : Outcome OpenSet). EnterPromise p before (Err w.0) after) (sym e) (record { answered = sym w.1; open_set = k.open_set }),
          k.answered ∙ w.1,
        )
    go (done b) e k = (
      Ok tt,
      subst (λ (p : Outcome OpenSet). EnterPromise p before (Ok tt) after) (sym e) (record { answered = refl; open_set = k.open_set }),
      k.answered,
    )

-- OF OFFERING
pub as_promised_offering : (q : Asked) (o : Outcome Bytes) (result : Bytes) → RefusedExactly q o result → (before after : OpenSet) (out out' : Bytes) (r : CAnswer)
    → KeptOffer o before out r after out' → (a : Answer) × OfferPromise o before out a after out' × Told a r
as_promised_offering q o result h before after out out' r k =
    let w = as_promised q o result h out out' r k.sheet in
    (w.0, record { sheet = w.1; open_set = k.open_set }, w.2)
