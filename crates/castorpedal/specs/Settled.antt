-- An exported promise settles the struct of numbers and every lent byte: two outcomes that it allows are equal.
use Rattle.std.specs.Prelude.{ℕ, ◌≡◌}
use Rattle.std.proofs.Common.{sym, ◌∙◌, ap}
use Rattle.words.specs.Words.{Bytes}
use Rattle.rules.specs.declared.desk.OpenSet.{OpenSet}
use Rattle.rules.specs.ReadCheck.{Finding}
use Rattle.rules.specs.Refused.{Outcome, Closing}
use Rattle.castorpedal.specs.declared.answer.CAnswer.{CAnswer}
use Rattle.castorpedal.specs.declared.answer.CClosed.{CClosed}
use Rattle.castorpedal.specs.declared.answer.CChecked.{CChecked}
use Rattle.castorpedal.specs.Exported.{Kept, KeptClose, KeptCheck, KeptEnter, KeptOffer}

-- the struct of an answer's numbers
abbrev answer_of : ℕ × ℕ → CAnswer
answer_of x = record { code = x.0; len = x.1 }

-- the struct of a closing's numbers
abbrev closed_of : ℕ × ℕ × ℕ → CClosed
closed_of x = record { code = x.0; register_len = x.1; verdicts_len = x.2 }

-- the struct of a read check's numbers
abbrev checked_of : ℕ × ℕ × ℕ × ℕ → CChecked
checked_of x = record { code = x.0; index = x.1; key = x.2; reason = x.3 }

-- OF AN OPERATION WITH ONE BUFFER
pub settled : (o : Outcome Bytes) (before : Bytes) {a b : CAnswer} {after after' : Bytes} → Kept o before a after → Kept o before b after' → (a ≡ b) × (after ≡ after')
settled o before p q = (ap answer_of (p.answered ∙ sym q.answered), p.buffer ∙ sym q.buffer)

-- OF CLOSING
pub settled_closing : (o : Outcome Closing) (next verdicts : Bytes) {a b : CClosed} {n n' v v' : Bytes}
    → KeptClose o next verdicts a n v → KeptClose o next verdicts b n' v' → (a ≡ b) × (n ≡ n') × (v ≡ v')
settled_closing o next verdicts p q = (ap closed_of (p.answered ∙ sym q.answered), p.next ∙ sym q.next, p.verdicts ∙ sym q.verdicts)

-- OF THE READ CHECK
pub settled_check : (o : Outcome Finding) {a b : CChecked} → KeptCheck o a → KeptCheck o b → a ≡ b
settled_check o p q = ap checked_of (p.answered ∙ sym q.answered)

-- OF ENTERING
pub settled_entering : (o : Outcome OpenSet) (before : OpenSet) {r r' : ℕ} {after after' : OpenSet} → KeptEnter o before r after → KeptEnter o before r' after' → (r ≡ r') × (after ≡ after')
settled_entering o before p q = (p.answered ∙ sym q.answered, p.open_set ∙ sym q.open_set)

-- OF OFFERING
pub settled_offering : (o : Outcome Bytes) (before : OpenSet) (out : Bytes) {a b : CAnswer} {after after' : OpenSet} {out₁ out₂ : Bytes}
    → KeptOffer o before out a after out₁ → KeptOffer o before out b after' out₂ → (a ≡ b) × (after ≡ after') × (out₁ ≡ out₂)
settled_offering o before out p q = let s = settled o out p.sheet q.sheet in (s.0, p.open_set ∙ sym q.open_set, s.1)
