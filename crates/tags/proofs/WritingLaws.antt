-- How a tag is written, digit after digit: what is written and what is still to come are always that tag.
use Prim.Native.Nat.{ℕ, suc, ◌+◌, ◌-◌, ◌*◌, ◌/◌, ◌%◌, ◌^◌, ◌<◌}
use mathlib.Core.Path.{◌≡◌, refl, ap, ◌∙◌}
use mathlib.Core.List.{[], ◌∷◌, ◌++◌}
use native.Mathlib.Nat.{pow-suc, one-le-pow}
use native.Mathlib.Numerals.{add-one}
use native.Mathlib.Omega.{arith}
use lib.Dec.{lit<}
use lib.ListN.{length, set, length-set}
use Rattle.words.specs.Words.{Bytes, stored}
use Rattle.rules.specs.Tag.{step, digit_of, steps, digits, check_digit, tag_of}
use Rattle.laws.specs.TagRule.{step_below}

-- n digits of k behind others that led to an interim digit, and the check digit
unfoldable pub checked : ℕ → ℕ → ℕ → Bytes
checked interim n k = digits n k ++ (48 + steps interim (digits n k)) ∷ []

-- ---- writing: i digits were written, and the rest is still to come

abbrev pub Writing : ℕ → Bytes → Bytes → ℕ → ℕ → ℕ → Type 0
Writing key out₀ out weight interim i =
    (interim < 10)
    × (weight ≡ 10 ^ (10 - i))
    × (length out ≡ length out₀)
    × (stored out i (checked interim (10 - i) key) ≡ stored out₀ 0 (tag_of key))

pub write_start : (key : ℕ) (out₀ : Bytes) → Writing key out₀ out₀ 10000000000 0 0
unfolding tag_of checked check_digit
write_start key out₀ = (omega arith, refl, refl, refl)

checked_more : (interim n k : ℕ) → checked interim (suc n) k ≡ (48 + k / 10 ^ n % 10) ∷ checked (step interim (k / 10 ^ n % 10)) n k
unfolding checked digits steps
checked_more interim n k =
    let q : digit_of (48 + k / 10 ^ n % 10) ≡ k / 10 ^ n % 10 = omega arith in
    ap (λ (d : ℕ). (48 + k / 10 ^ n % 10) ∷ (digits n k ++ (48 + steps (step interim d) (digits n k)) ∷ [])) q

module _ (key : ℕ) (out₀ out : Bytes) (weight interim i : ℕ) (w : Writing key out₀ out weight interim i) where
  weigh : i < 10 → weight / 10 ≡ 10 ^ (10 - (i + 1))
  weigh h =
      let n : 10 - i ≡ suc (10 - (i + 1)) = omega arith in
      let e : weight ≡ 10 ^ (10 - (i + 1)) * 10 = w.1 ∙ ap (λ (m : ℕ). 10 ^ m) n ∙ pow-suc 10 (10 - (i + 1)) in
      omega arith

  pub some_weight : i < 10 → 0 < weight / 10
  some_weight h = rw (weigh h) (one-le-pow (10 - (i + 1)) 10 (lit< tt))

  pub write_more : i < 10 → Writing key out₀ (set out i (48 + key / (weight / 10) % 10)) (weight / 10) (step interim (key / (weight / 10) % 10)) (i + 1)
  unfolding stored
  write_more h =
      let n : 10 - i ≡ suc (10 - (i + 1)) = omega arith in
      let e = weigh h in
      let s : checked interim (10 - i) key ≡ (48 + key / 10 ^ (10 - (i + 1)) % 10) ∷ checked (step interim (key / 10 ^ (10 - (i + 1)) % 10)) (10 - (i + 1)) key =
      ap (λ (m : ℕ). checked interim m key) n ∙ checked_more interim (10 - (i + 1)) key in
      rw e (
        step_below interim (key / 10 ^ (10 - (i + 1)) % 10) w.0 (omega arith),
        refl,
        simp length-set w.2,
        ap (λ (m : ℕ). stored (set out i (48 + key / 10 ^ (10 - (i + 1)) % 10)) m (checked (step interim (key / 10 ^ (10 - (i + 1)) % 10)) (10 - (i + 1)) key)) (add-one i)
            ∙ (rw s at w.3),
      )

  pub write_last : i ≡ 10 → set out 10 (48 + interim) ≡ stored out₀ 0 (tag_of key)
  unfolding stored checked digits steps
  write_last h = rw h at w.3
