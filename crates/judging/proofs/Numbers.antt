-- Chains over the places of a list, in the rules' words: each place tested, the places that pass counted, the first that passes found.
use Prim.Native.Nat.{ℕ, zero, suc, ◌≤◌}
use mathlib.Core.Path.{◌≡◌, refl, sym, ◌∙◌, ap}
use mathlib.Core.Bool.{Bool, true, false}
use mathlib.Core.List.{List, [], ◌∷◌, map}
use native.Mathlib.Numerals.{add-one}
use native.Mathlib.Omega.{arith}
use lib.ListN.{length, get_or, length-map}
use Rattle.std.specs.Prelude.{◌&&◌, cond, filter, if◌then◌else◌, Option, Some, option_map}
use Rattle.std.specs.List.{list_all, range_with_len, find}
use Rattle.rules.specs.Lists.{◌and◌, all, keep, first, count, up_from}
use Rattle.laws.specs.Places.{kept_places}

pub each_number : (p : ℕ → Bool) (a n : ℕ) → list_all p (range_with_len a n) ≡ all p (up_from a n)
unfolding all up_from ◌and◌
each_number p a zero = refl
each_number p a (suc n) = go (p a) (rw (add-one a) (each_number p (suc a) n))
  where
    go : (t : Bool) {x y : Bool} → x ≡ y → (t && x) ≡ (t and y)
    go true e = e
    go false e = refl

kept_numbers : (p : ℕ → Bool) (a n : ℕ) → filter p (range_with_len a n) ≡ keep p (up_from a n)
unfolding keep up_from
kept_numbers p a zero = refl
kept_numbers p a (suc n) = go (p a) (rw (add-one a) (kept_numbers p (suc a) n))
  where
    go : (t : Bool) {xs ys : List ℕ} → xs ≡ ys → cond t (a ∷ xs) xs ≡ (if t then a ∷ ys else ys)
    go true e = ap (λ (l : List ℕ). a ∷ l) e
    go false e = e

-- as many places pass as elements do
pub counted_places : {A : Type 0} (d : A) (p : A → Bool) (xs : List A) → length (filter (λ i. p (get_or xs i d)) (range_with_len 0 (length xs))) ≡ count p xs
unfolding count
counted_places d p xs =
    let q : ℕ → Bool = λ i. p (get_or xs i d) in
    ap length (kept_numbers q 0 (length xs))
    ∙ sym (length-map (keep q (up_from 0 (length xs))) (λ k. get_or xs k d))
    ∙ ap length (kept_places d p q xs (λ i h. refl))

pub count_fits : {A : Type 0} (p : A → Bool) (xs : List A) → count p xs ≤ length xs
unfolding count keep
count_fits p [] = omega arith
count_fits p (x ∷ xs) = go (p x) (count_fits p xs)
  where
    go : (t : Bool) → length (keep p xs) ≤ length xs → length (if t then x ∷ keep p xs else keep p xs) ≤ suc (length xs)
    go true h = omega arith
    go false h = omega arith

-- what a function gives of the elements, at their places
module _ {A B : Type 0} (d : A) (f : A → B) where
  behind_one : (x : A) (xs : List A) (a n : ℕ) → map (λ i. f (get_or (x ∷ xs) i d)) (range_with_len (suc a) n) ≡ map (λ i. f (get_or xs i d)) (range_with_len a n)
  behind_one x xs a zero = refl
  behind_one x xs a (suc n) = rw (add-one a, add-one (suc a)) (ap (λ (l : List B). f (get_or xs a d) ∷ l) (behind_one x xs (suc a) n))

  at_places : (xs : List A) → map (λ i. f (get_or xs i d)) (range_with_len 0 (length xs)) ≡ map f xs
  at_places [] = refl
  at_places (x ∷ xs) = ap (λ (l : List B). f x ∷ l) (behind_one x xs 0 (length xs) ∙ at_places xs)

  find_first : (q : B → Bool) (xs : List A) → find q (map f xs) ≡ option_map f (first (λ x. q (f x)) xs)
  unfolding first
  find_first q [] = refl
  find_first q (x ∷ xs) = go (q (f x)) (first (λ y. q (f y)) xs) (find_first q xs)
    where
      go : (t : Bool) {o : Option B} (p : Option A) → o ≡ option_map f p → cond t (Some (f x)) o ≡ option_map f (if t then Some x else p)
      go true p e = refl
      go false p e = e

  pub found_places : (q : B → Bool) (xs : List A) → find q (map (λ i. f (get_or xs i d)) (range_with_len 0 (length xs))) ≡ option_map f (first (λ x. q (f x)) xs)
  found_places q xs = ap (find q) (at_places xs) ∙ find_first q xs
