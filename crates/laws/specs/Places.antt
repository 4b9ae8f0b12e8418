-- Lists by their places: members, the first that passes a test from a place on, those that pass, and numbers that rise.
use Prim.Native.Nat.{ℕ, zero, suc, ◌+◌, ◌≤◌, ◌<◌}
use Rattle.std.specs.Prelude.{◌≡◌, Bool, get_or, take, drop, set, if◌then◌else◌, None, Some}
use Rattle.std.proofs.Math.Path.{refl, sym, ap}
use Rattle.std.proofs.Common.{◌∙◌, add-zero, add_comm, add_assoc, below_more, take_all, drop-cons, get_or-set_same, get_or-set_other}
use Rattle.std.proofs.Math.Bool.{true, false}
use mathlib.Core.List.{List, [], ◌∷◌, map, Memᴰ}
use Rattle.std.proofs.Math.Numerals.{add-one}
use native.Mathlib.Omega.{arith}
use Rattle.std.proofs.Math.ListN.{length}
use Rattle.rules.specs.Lists.{keep, first, count, up_from}
use Rattle.laws.specs.Rising.{Rising, nil, cons}

module _ {A : Type 0} (d : A) where
  pub at_mem : (xs : List A) (i : ℕ) → i < length xs → Memᴰ (get_or xs i d) xs
  at_mem [] i h = absurd (omega arith)
  at_mem (x ∷ xs) zero h = Memᴰ.head refl
  at_mem (x ∷ xs) (suc i) h = Memᴰ.tail (at_mem xs i (omega arith))

  pub mem_at : {x : A} {xs : List A} → Memᴰ x xs → (i : ℕ) × (i < length xs) × (get_or xs i d ≡ x)
  mem_at (Memᴰ.head e) = (0, omega arith, sym e)
  mem_at (Memᴰ.tail m) = let r = mem_at m in let h = r.1 in (suc r.0, omega arith, r.2)

  drop_none : (xs : List A) (j : ℕ) → length xs ≤ j → drop j xs ≡ []
  drop_none [] zero h = refl
  drop_none [] (suc j) h = refl
  drop_none (x ∷ xs) zero h = absurd (omega arith)
  drop_none (x ∷ xs) (suc j) h = drop_none xs j (omega arith)

-- the first that passes, from place j on
module _ {A : Type 0} (p : A → Bool) (d : A) (xs : List A) (j : ℕ) where
  pub first_skip : j < length xs → p (get_or xs j d) ≡ false → first p (drop j xs) ≡ first p (drop (j + 1) xs)
  unfolding first
  first_skip h e = ap (first p) (drop-cons xs j d h) ∙ rw (e, add-one j)

  pub first_stop : j < length xs → p (get_or xs j d) ≡ true → first p (drop j xs) ≡ Some (get_or xs j d)
  unfolding first
  first_stop h e = ap (first p) (drop-cons xs j d h) ∙ rw e

  pub first_end : length xs ≤ j → first p (drop j xs) ≡ None
  unfolding first
  first_end h = ap (first p) (drop_none d xs j h)

-- the elements whose places pass are those that pass, where place and element pass alike
module _ {A : Type 0} (d : A) (p : A → Bool) (q : ℕ → Bool) (xs : List A) (alike : (i : ℕ) → i < length xs → q i ≡ p (get_or xs i d)) where
  kept_from : (n i : ℕ) → i + n ≡ length xs → map (λ k. get_or xs k d) (keep q (up_from i n)) ≡ keep p (drop i xs)
  unfolding keep up_from
  kept_from zero i e = sym (ap (keep p) (drop_none d xs i (omega arith)))
  kept_from (suc n) i e = go (p (get_or xs i d)) refl (kept_from n (suc i) (omega arith))
    where
      h : i < length xs
      h = omega arith

      go : (t : Bool) → p (get_or xs i d) ≡ t → map (λ k. get_or xs k d) (keep q (up_from (suc i) n)) ≡ keep p (drop (suc i) xs)
          → map (λ k. get_or xs k d) (keep q (i ∷ up_from (suc i) n)) ≡ keep p (drop i xs)
      go true f r = rw (alike i h ∙ f) (ap (λ (l : List A). get_or xs i d ∷ l) r ∙ sym (ap (keep p) (drop-cons xs i d h) ∙ rw f))
      go false f r = rw (alike i h ∙ f) (r ∙ sym (ap (keep p) (drop-cons xs i d h) ∙ rw f))

  pub kept_places : map (λ k. get_or xs k d) (keep q (up_from 0 (length xs))) ≡ keep p xs
  kept_places = kept_from (length xs) 0 (omega arith)

-- of rising numbers the later is the larger
pub rising_at : {A : Type 0} (f : A → ℕ) (d : A) {xs : List A} → Rising f xs → (i j : ℕ) → i < j → j < length xs → f (get_or xs i d) < f (get_or xs j d)
rising_at f d nil i j h l = absurd (omega arith)
rising_at f d (cons {x} {xs} g r) zero zero h l = absurd (omega arith)
rising_at f d (cons {x} {xs} g r) zero (suc j) h l = g (get_or xs j d) (at_mem d xs j (omega arith))
rising_at f d (cons {x} {xs} g r) (suc i) zero h l = absurd (omega arith)
rising_at f d (cons {x} {xs} g r) (suc i) (suc j) h l = rising_at f d r i j (omega arith) (omega arith)

-- a table told below place i is told below the next, once that place is written
pub told_more : (f : ℕ → ℕ) (xs : List ℕ) (i x : ℕ) → i < length xs → ((k : ℕ) → k < i → get_or xs k 0 ≡ f k) → x ≡ f i
    → (k : ℕ) → k < i + 1 → get_or (set xs i x) k 0 ≡ f k
told_more f xs i x h t e =
    below_more (λ k. get_or (set xs i x) k 0 ≡ f k) i (λ k (l : k < i). get_or-set_other xs i k x 0 (λ p. absurd (omega arith)) ∙ t k l) (get_or-set_same xs i x 0 h ∙ e)

-- how many of the first i pass
module _ {A : Type 0} (p : A → Bool) (d : A) where
  count_cons : (x : A) (xs : List A) → count p (x ∷ xs) ≡ (if p x then 1 else 0) + count p xs
  unfolding count keep
  count_cons x xs = go (p x)
    where
      go : (t : Bool) → length (if t then x ∷ keep p xs else keep p xs) ≡ (if t then 1 else 0) + length (keep p xs)
      go true = omega arith
      go false = omega arith

  count_more : (xs : List A) (i : ℕ) → i < length xs → count p (take (suc i) xs) ≡ count p (take i xs) + (if p (get_or xs i d) then 1 else 0)
  count_more [] i h = absurd (omega arith)
  count_more (x ∷ xs) zero h = count_cons x [] ∙ add_comm _ _
  count_more (x ∷ xs) (suc i) h =
      count_cons x (take (suc i) xs)
      ∙ ap (λ (n : ℕ). (if p x then 1 else 0) + n) (count_more xs i (omega arith))
      ∙ sym (add_assoc (if p x then 1 else 0) (count p (take i xs)) (if p (get_or xs i d) then 1 else 0))
      ∙ ap (λ (n : ℕ). n + (if p (get_or xs i d) then 1 else 0)) (sym (count_cons x (take i xs)))

  pub count_yes : (xs : List A) (i : ℕ) → i < length xs → p (get_or xs i d) ≡ true → count p (take (i + 1) xs) ≡ count p (take i xs) + 1
  count_yes xs i h e = rw (add-one i) (count_more xs i h ∙ rw e)

  pub count_no : (xs : List A) (i : ℕ) → i < length xs → p (get_or xs i d) ≡ false → count p (take (i + 1) xs) ≡ count p (take i xs)
  count_no xs i h e = rw (add-one i) (count_more xs i h ∙ rw e (add-zero _))

  pub count_none : (xs : List A) → count p (take 0 xs) ≡ 0
  unfolding count keep
  count_none xs = refl

  pub count_all : (xs : List A) (i : ℕ) → length xs ≤ i → count p (take i xs) ≡ count p xs
  count_all xs i h = ap (count p) (take_all i xs h)
