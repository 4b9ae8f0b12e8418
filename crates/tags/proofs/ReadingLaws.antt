-- How a tag is read, digit after digit: what is known after i of its first ten, and after all eleven.
use Rattle.std.proofs.Common.{ℕ, ◌+◌, ◌-◌, ◌*◌, ◌^◌, ◌≤◌, ◌<◌, ◌≡◌, refl, sym, ap, ◌∙◌, true, [], ◌∷◌, ◌++◌, length, get_or, take, arith, add-one, take-suc, take_all, length-take, get_or-take}
use Rattle.std.proofs.Math.Nat.{pow-suc}
use Rattle.words.specs.Words.{Bytes}
use Rattle.rules.specs.Lists.{all}
use Rattle.rules.specs.Tag.{step, is_digit, digit_of, steps, number, key_in}
use Rattle.laws.specs.Says.{each}
use Rattle.laws.specs.TagRule.{step_below}
use Rattle.laws.specs.TagDetects.{digit_is}
use Rattle.laws.specs.Tags.{steps_append}

-- the first i digits led from 0 to an interim digit, and are a number
abbrev pub Reading : Bytes → ℕ → ℕ → ℕ → Type 0
Reading t interim key i = (interim ≡ steps 0 (take i t)) × (key ≡ number 0 (take i t)) × (interim < 10) × (key < 10 ^ i)

pub start : (t : Bytes) → Reading t 0 0 0
unfolding steps number
start t = (refl, refl, omega arith, omega arith)

number_append : (n : ℕ) (xs ys : Bytes) → number n (xs ++ ys) ≡ number (number n xs) ys
unfolding number
number_append n [] ys = refl
number_append n (x ∷ xs) ys = number_append (n * 10 + digit_of x) xs ys

module _ (t : Bytes) (long : length t ≡ 11) (digits : all is_digit t ≡ true) where
  pub digit : (i : ℕ) → i < 11 → (48 ≤ get_or t i 0) × (get_or t i 0 ≤ 57)
  digit i h = (digit_is (get_or t i 0)).told ((each is_digit 0 t).told digits i (omega arith))

  one_more : (interim key i : ℕ) → Reading t interim key i → i < 11 → Reading t (step interim (get_or t i 0 - 48)) (key * 10 + (get_or t i 0 - 48)) (i + 1)
  unfolding steps number
  one_more interim key i r h =
      let e : take (i + 1) t ≡ take i t ++ (get_or t i 0 ∷ []) = rw (add-one i) (take-suc t i 0 (omega arith)) in
      let d = digit i h in (
        sym (ap (steps 0) e ∙ steps_append 0 (take i t) (get_or t i 0 ∷ []) ∙ ap (λ (n : ℕ). step n (get_or t i 0 - 48)) (sym r.0)),
        sym (ap (number 0) e ∙ number_append 0 (take i t) (get_or t i 0 ∷ []) ∙ ap (λ (n : ℕ). n * 10 + (get_or t i 0 - 48)) (sym r.1)),
        step_below interim (get_or t i 0 - 48) r.2 (omega arith),
        rw (add-one i, pow-suc 10 i) (omega (arith, r.3)),
      )

  -- a digit of the first ten
  module _ (i : ℕ) (h : i < length (take 10 t)) where
    within : i < 10
    within = omega (arith, length-take 10 t)

    pub digit_of_ten : (48 ≤ get_or (take 10 t) i 0) × (get_or (take 10 t) i 0 ≤ 57)
    digit_of_ten = let w = within in rw get_or-take (digit i (omega arith))

    pub more : (interim key : ℕ) → Reading t interim key i → Reading t (step interim (get_or (take 10 t) i 0 - 48)) (key * 10 + (get_or (take 10 t) i 0 - 48)) (i + 1)
    more interim key r = let w = within in rw get_or-take (one_more interim key i r (omega arith))

  -- all ten were read: they are the key, and with the eleventh they lead to what the tag leads to
  pub all_read : (interim key i : ℕ) → Reading t interim key i → i ≡ length (take 10 t) → (key ≡ key_in t) × (step interim (get_or t 10 0 - 48) ≡ steps 0 t)
  unfolding key_in
  all_read interim key i r e =
      let ten : i ≡ 10 = omega (arith, length-take 10 t) in
      let s : Reading t interim key 10 = rw ten at r in
      (s.1, (one_more interim key 10 s (omega arith)).0 ∙ ap (steps 0) (take_all 11 t (omega arith)))
