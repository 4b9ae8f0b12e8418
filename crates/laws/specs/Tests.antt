-- Laws of tests: what `and`, `or` and `if` say, and two tests that say the same.
use Rattle.std.specs.Prelude.{◌≡◌, refl, ◌⊎◌, Bool, true, false}
use Rattle.std.proofs.Common.{sym, inl, inr}
use Rattle.std.proofs.lemmas.Bool.{false≢true}
use Rattle.rules.specs.Lists.{◌and◌, ◌or◌}

-- both tests pass
pub left : (a b : Bool) → a and b ≡ true → a ≡ true
unfolding ◌and◌
left true b e = refl
left false b e = e

pub right : (a b : Bool) → a and b ≡ true → b ≡ true
unfolding ◌and◌
right true b e = e
right false b e = absurd (false≢true e)

pub both : {a b : Bool} → a ≡ true → b ≡ true → a and b ≡ true
unfolding ◌and◌
both p q = rw (p, q)

pub or→ : (a b : Bool) → a or b ≡ true → (a ≡ true) ⊎ (b ≡ true)
unfolding ◌or◌
or→ true b e = inl refl
or→ false b e = inr e

pub or_left : (a b : Bool) → a ≡ true → a or b ≡ true
unfolding ◌or◌
or_left true b e = refl
or_left false b e = absurd (false≢true e)

pub or_right : (a b : Bool) → b ≡ true → a or b ≡ true
unfolding ◌or◌
or_right true b e = refl
or_right false b e = e

pub or_false : (a b : Bool) → a or b ≡ false → (a ≡ false) × (b ≡ false)
unfolding ◌or◌
or_false true b e = absurd (false≢true (sym e))
or_false false b e = (refl, e)

pub same_tests : (a b : Bool) → (a ≡ true → b ≡ true) → (b ≡ true → a ≡ true) → a ≡ b
same_tests true b f g = sym (f refl)
same_tests false true f g = g refl
same_tests false false f g = refl

pub not_true_false : {t : Bool} → (t ≡ true → ⊥) → t ≡ false
not_true_false {t = true} h = absurd (h refl)
not_true_false {t = false} h = refl
