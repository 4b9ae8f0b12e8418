-- The words that the rules use of tests and lists: and, or; all, any, those that pass, the first that passes.
use Rattle.std.specs.Prelude.{ℕ, zero, suc, Bool, true, false, List, [], ◌∷◌, ◌++◌, length, ltb, eqb, if◌then◌else◌, Option, None, Some}

-- both
infixr 35 ◌and◌
unfoldable pub ◌and◌ : Bool → Bool → Bool
true and b = b
false and b = false

-- one or the other
infixr 30 ◌or◌
unfoldable pub ◌or◌ : Bool → Bool → Bool
true or b = true
false or b = b

module _ {A : Type 0} where
  -- each passes
  unfoldable pub all : (A → Bool) → List A → Bool
  all p [] = true
  all p (x ∷ xs) = p x and all p xs

  -- one passes
  unfoldable pub any : (A → Bool) → List A → Bool
  any p [] = false
  any p (x ∷ xs) = p x or any p xs

  -- those that pass
  unfoldable pub keep : (A → Bool) → List A → List A
  keep p [] = []
  keep p (x ∷ xs) = if p x then x ∷ keep p xs else keep p xs

  -- the first that passes
  unfoldable pub first : (A → Bool) → List A → Option A
  first p [] = None
  first p (x ∷ xs) = if p x then Some x else first p xs

  -- how many pass
  unfoldable pub count : (A → Bool) → List A → ℕ
  count p xs = length (keep p xs)

module _ {A B : Type 0} where
  -- what `f` gives for each, end to end
  unfoldable pub flat : (A → List B) → List A → List B
  flat f [] = []
  flat f (x ∷ xs) = f x ++ flat f xs

-- the numbers strictly ascend, and the first is above n
unfoldable pub ascend_from : ℕ → List ℕ → Bool
ascend_from n [] = true
ascend_from n (x ∷ xs) = ltb n x and ascend_from x xs

-- strictly ascending numbers, of which the first may be 0
unfoldable pub ascend : List ℕ → Bool
ascend [] = true
ascend (x ∷ xs) = ascend_from x xs

-- two lists of numbers are equal
unfoldable pub same : List ℕ → List ℕ → Bool
same [] [] = true
same [] (y ∷ ys) = false
same (x ∷ xs) [] = false
same (x ∷ xs) (y ∷ ys) = eqb x y and same xs ys

-- k, k + 1, .., n numbers in all
unfoldable pub up_from : ℕ → ℕ → List ℕ
up_from k zero = []
up_from k (suc n) = k ∷ up_from (suc k) n

-- opens all of these, for a proof by computation
unfoldable pub run_lists : Unit {0}
unfolding ◌and◌ ◌or◌ all any keep first count flat ascend_from ascend same up_from
run_lists = tt
