-- What a chain of iterators tests: std's words for it are the rules'.
use Rattle.std.specs.Prelude.{◌≡◌, refl, Bool, true, false, ◌&&◌, ◌||◌, List, [], ◌∷◌}
use Rattle.std.proofs.Common.{◌∙◌, ap}
use Rattle.std.specs.List.{list_all, list_any}
use Rattle.rules.specs.Lists.{◌and◌, ◌or◌, all, any}

pub and-is : (a b : Bool) → (a && b) ≡ a and b
unfolding ◌and◌
and-is true b = refl
and-is false b = refl

pub or-is : (a b : Bool) → (a || b) ≡ a or b
unfolding ◌or◌
or-is true b = refl
or-is false b = refl

module _ {A : Type 0} (p : A → Bool) where
  pub list_all-is : (xs : List A) → list_all p xs ≡ all p xs
  unfolding all
  list_all-is [] = refl
  list_all-is (x ∷ xs) = ap (λ b. p x && b) (list_all-is xs) ∙ and-is (p x) (all p xs)

  pub list_any-is : (xs : List A) → list_any p xs ≡ any p xs
  unfolding any
  list_any-is [] = refl
  list_any-is (x ∷ xs) = ap (λ b. p x || b) (list_any-is xs) ∙ or-is (p x) (any p xs)
