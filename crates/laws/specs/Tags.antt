-- Tags and keys: the tag of a key is right and has that key; a right tag is the tag of its key, so two keys have two tags and no station has two.
use Rattle.std.specs.Prelude.{ℕ, zero, suc, ◌+◌, ◌*◌, ◌/◌, ◌%◌, ◌^◌, ◌≤◌, ◌<◌, ◌≡◌, refl, Bool, true, false, [], ◌∷◌, ◌++◌, length, get_or, take, if◌then◌else◌, None, Some}
use Rattle.std.proofs.Math.Path.{sym, ap}
use Rattle.std.proofs.Common.{◌∙◌, add-mul, mul_assoc, mul-le-mul_right, lit<, length-take, length-append, take-suc, take_all, take_at}
use Rattle.std.proofs.lemmas.Option.{same_Some, none-some}
use Rattle.std.proofs.Math.Nat.{pow-succ', one-le-pow, mul-add-div_right, div-eq_of_lt}
use native.Mathlib.Omega.{arith}
use Rattle.std.proofs.Math.Arith.{mod-mul}
use Rattle.words.specs.Words.{Bytes}
use Rattle.rules.specs.Lists.{◌and◌, all}
use Rattle.rules.specs.Numbers.{fits}
use Rattle.rules.specs.Tag.{step, is_digit, digit_of, steps, right_tag, number, key_in, is_key, is_tag, key_of_tag, digits, check_digit, tag_of, run_tag}
use Rattle.laws.specs.Tests.{left, right, both}
use Rattle.laws.specs.Says.{Says, is_le, is_lt, ◌also◌, each}
use Rattle.laws.specs.TagRule.{rule}
use Rattle.laws.specs.TagDetects.{digit_is, digit_below, right_is, steps_below}

-- a station's key
pub key_is : (k : ℕ) → Says (is_key k) ((1 ≤ k) × (k < 4294967296))
unfolding is_key fits
key_is k = is_le 1 k also is_lt k (256 ^ 4)

pub steps_append : (i : ℕ) (xs ys : Bytes) → steps i (xs ++ ys) ≡ steps (steps i xs) ys
unfolding steps
steps_append i [] ys = refl
steps_append i (x ∷ xs) ys = steps_append (step i (digit_of x)) xs ys

-- ---- the tag of a key

pub digits_length : (n k : ℕ) → length (digits n k) ≡ n
unfolding digits
digits_length zero k = refl
digits_length (suc n) k = ap suc (digits_length n k)

pub digits_all : (n k : ℕ) → all is_digit (digits n k) ≡ true
unfolding digits all
digits_all zero k = refl
digits_all (suc n) k = both ((digit_is (48 + k / 10 ^ n % 10)).test (omega arith, omega arith)) (digits_all n k)

all_append : (xs ys : Bytes) → all is_digit xs ≡ true → all is_digit ys ≡ true → all is_digit (xs ++ ys) ≡ true
unfolding all
all_append [] ys a b = b
all_append (x ∷ xs) ys a b = both (left _ _ a) (all_append xs ys (right _ _ a) b)

digits_number : (n a k : ℕ) → number a (digits n k) ≡ a * 10 ^ n + k % 10 ^ n
unfolding digits number
digits_number zero a k = omega arith
digits_number (suc n) a k =
    let q : digit_of (48 + k / 10 ^ n % 10) ≡ k / 10 ^ n % 10 = omega arith in
    let m : k % (10 * 10 ^ n) ≡ (k / 10 ^ n % 10) * 10 ^ n + k % 10 ^ n = mod-mul k (lit< tt) (one-le-pow n 10 (lit< tt)) in
    let last : (a * 10 + k / 10 ^ n % 10) * 10 ^ n + k % 10 ^ n ≡ a * 10 ^ suc n + k % 10 ^ suc n =
    rw (pow-succ' 10 n, m, add-mul (a * 10) (k / 10 ^ n % 10) (10 ^ n), mul_assoc a 10 (10 ^ n)) (omega arith) in
    ap (λ (d : ℕ). number (a * 10 + d) (digits n k)) q ∙ digits_number n (a * 10 + k / 10 ^ n % 10) k ∙ last

-- a check digit is a digit
pub check_below : (n k : ℕ) → check_digit (digits n k) < 10
unfolding check_digit
check_below n k = steps_below 0 (digits n k) (omega arith) (digits_all n k)

pub tag_length : (k : ℕ) → length (tag_of k) ≡ 11
unfolding tag_of
tag_length k = length-append (digits 10 k) ((48 + check_digit (digits 10 k)) ∷ []) ∙ ap (λ (n : ℕ). n + 1) (digits_length 10 k)

tag_digits : (k : ℕ) → all is_digit (tag_of k) ≡ true
unfolding tag_of all
tag_digits k =
    let b = check_below 10 k in
    all_append (digits 10 k) ((48 + check_digit (digits 10 k)) ∷ []) (digits_all 10 k)
    (both ((digit_is (48 + check_digit (digits 10 k))).test (omega arith, omega arith)) refl)

-- the check digit leads to 0
tag_ends : (k : ℕ) → steps 0 (tag_of k) ≡ 0
unfolding tag_of check_digit steps
tag_ends k =
    let c = steps 0 (digits 10 k) in
    let b = steps_below 0 (digits 10 k) (omega arith) (digits_all 10 k) in
    let d : digit_of (48 + steps 0 (digits 10 k)) ≡ steps 0 (digits 10 k) = omega arith in
    steps_append 0 (digits 10 k) ((48 + steps 0 (digits 10 k)) ∷ [])
    ∙ ap (step (steps 0 (digits 10 k))) d
    ∙ (rule (steps 0 (digits 10 k)) 0 0 b (omega arith) (omega arith)).diagonal

tag_key : (k : ℕ) → k < 4294967296 → key_in (tag_of k) ≡ k
unfolding tag_of key_in
tag_key k h =
    ap (number 0) (take_at (digits 10 k) ((48 + check_digit (digits 10 k)) ∷ []) 10 (digits_length 10 k))
    ∙ digits_number 10 0 k
    ∙ omega arith

-- THE TAG OF A KEY IS RIGHT
pub tag_right : (k : ℕ) → right_tag (tag_of k) ≡ true
tag_right k = (right_is (tag_of k)).test (tag_length k, (tag_digits k, tag_ends k))

-- a station's tag has its key, which is in range
pub tag_is : (t : Bytes) → is_tag t ≡ true → (key_of_tag t ≡ Some (key_in t)) × (is_key (key_in t) ≡ true)
unfolding key_of_tag is_tag
tag_is t h = (simp h, right _ _ h)

-- the tag of a station's key is a station's tag, with that key
pub tag_of_is : (k : ℕ) → is_key k ≡ true → (is_tag (tag_of k) ≡ true) × (key_in (tag_of k) ≡ k)
unfolding is_tag
tag_of_is k h = let e = tag_key k ((key_is k).told h).1 in (both (tag_right k) (ap is_key e ∙ h), e)

-- AND HAS THAT KEY
pub key_of_tag_lem : (k : ℕ) → is_key k ≡ true → key_of_tag (tag_of k) ≡ Some k
key_of_tag_lem k h = let w = tag_of_is k h in (tag_is (tag_of k) w.0).0 ∙ ap Some w.1

-- ---- the key of a tag

number_split : (a : ℕ) (t : Bytes) → number a t ≡ a * 10 ^ length t + number 0 t
unfolding number
number_split a [] = omega arith
number_split a (b ∷ bs) =
    let p = number_split (a * 10 + digit_of b) bs in
    let q = number_split (0 * 10 + digit_of b) bs in
    let e = add-mul (a * 10) (digit_of b) (10 ^ length bs) in
    let f = add-mul (0 * 10) (digit_of b) (10 ^ length bs) in
    let g = mul_assoc a 10 (10 ^ length bs) in
    let z : 0 * 10 * 10 ^ length bs ≡ 0 = omega arith in
    rw (p, q, pow-succ' 10 (length bs), e, f, g, z) (omega arith)

number_below : (t : Bytes) → all is_digit t ≡ true → number 0 t < 10 ^ length t
unfolding number all
number_below [] h = omega arith
number_below (b ∷ bs) h =
    let d = digit_below b (left _ _ h) in
    let q = number_split (0 * 10 + digit_of b) bs in
    let l : 0 * 10 + digit_of b ≤ 9 = omega arith in
    let m = mul-le-mul_right (10 ^ length bs) l in
    let v = number_below bs (right _ _ h) in
    rw (q, pow-succ' 10 (length bs)) (omega arith)

-- the digits of a number are those that it was read from
digits_only : (a : ℕ) (t : Bytes) → all is_digit t ≡ true → digits (length t) (number a t) ≡ t
unfolding number all digits
digits_only a [] h = refl
digits_only a (b ∷ bs) h =
    let d = (digit_is b).told (left _ _ h) in
    let n = number (a * 10 + digit_of b) bs in
    let s : number (a * 10 + digit_of b) bs / 10 ^ length bs ≡ a * 10 + digit_of b + number 0 bs / 10 ^ length bs =
    rw (number_split (a * 10 + digit_of b) bs) (mul-add-div_right (one-le-pow (length bs) 10 (lit< tt)) (a * 10 + digit_of b) (number 0 bs)) in
    let z : number 0 bs / 10 ^ length bs ≡ 0 = div-eq_of_lt (number_below bs (right _ _ h)) in
    let e : 48 + number (a * 10 + digit_of b) bs / 10 ^ length bs % 10 ≡ b = rw (s, z) (omega arith) in
    rw (e, digits_only (a * 10 + digit_of b) bs (right _ _ h))

all_take : (n : ℕ) (t : Bytes) → all is_digit t ≡ true → all is_digit (take n t) ≡ true
unfolding all
all_take zero t h = refl
all_take (suc n) [] h = refl
all_take (suc n) (b ∷ bs) h = both (left _ _ h) (all_take n bs (right _ _ h))

whole : (t : Bytes) → length t ≡ 11 → take 10 t ++ (get_or t 10 0 ∷ []) ≡ t
whole t n = sym (take-suc t 10 0 (omega arith)) ∙ take_all 11 t (omega arith)

-- A RIGHT TAG IS THE TAG OF ITS KEY
pub tag_only : (t : Bytes) → right_tag t ≡ true → tag_of (key_in t) ≡ t
unfolding tag_of check_digit key_in
tag_only t r =
    let a = (right_is t).told r in
    let ds = all_take 10 t a.1.0 in
    let n : length (take 10 t) ≡ 10 = simp length-take (omega (arith, a.0)) in
    let e : digits 10 (number 0 (take 10 t)) ≡ take 10 t = ap (λ (m : ℕ). digits m (number 0 (take 10 t))) (sym n) ∙ digits_only 0 (take 10 t) ds in
    let c : get_or t 10 0 ≡ 48 + steps 0 (take 10 t) = last t a.0 a.1.0 a.1.1 ds in
    rw e (ap (λ (x : ℕ). take 10 t ++ (x ∷ [])) (sym c) ∙ whole t a.0)
  where
    last : (t : Bytes) → length t ≡ 11 → all is_digit t ≡ true → steps 0 t ≡ 0 → all is_digit (take 10 t) ≡ true → get_or t 10 0 ≡ 48 + steps 0 (take 10 t)
    last t n h z ds =
        let d = (each is_digit 0 t).told h 10 (omega arith) in
        let u = (digit_is (get_or t 10 0)).told d in
        let i = steps_below 0 (take 10 t) (omega arith) ds in
        let s : step (steps 0 (take 10 t)) (digit_of (get_or t 10 0)) ≡ 0 = unfold steps in sym (steps_append 0 (take 10 t) (get_or t 10 0 ∷ [])) ∙ ap (steps 0) (whole t n) ∙ z in
        let g = rule (steps 0 (take 10 t)) (digit_of (get_or t 10 0)) (steps 0 (take 10 t)) i (digit_below (get_or t 10 0) d) i in
        let q = g.row (s ∙ sym g.diagonal) in
        omega arith

-- NO STATION HAS TWO TAGS
pub one_tag : (t : Bytes) (k : ℕ) → key_of_tag t ≡ Some k → t ≡ tag_of k
unfolding key_of_tag is_tag
one_tag t k e = go (right_tag t and is_key (key_in t)) refl e
  where
    go : (u : Bool) → (right_tag t and is_key (key_in t)) ≡ u → (if u then Some (key_in t) else None) ≡ Some k → t ≡ tag_of k
    go true p q = sym (tag_only t (left _ _ p)) ∙ ap tag_of (same_Some (key_in t) k q)
    go false p q = absurd (none-some k q)

-- TWO KEYS HAVE TWO TAGS
pub two_tags : (k j : ℕ) → is_key k ≡ true → is_key j ≡ true → tag_of k ≡ tag_of j → k ≡ j
two_tags k j h i e = same_Some k j (sym (key_of_tag_lem k h) ∙ ap key_of_tag e ∙ key_of_tag_lem j i)

-- ---- station 572, by computation

-- 00000005724
abbrev pub tag572 : Bytes
tag572 = 48 ∷ 48 ∷ 48 ∷ 48 ∷ 48 ∷ 48 ∷ 48 ∷ 53 ∷ 55 ∷ 50 ∷ 52 ∷ []

-- STATION 572 IS TAGGED 00000005724
pub station_572 : (tag_of 572 ≡ tag572) × (key_of_tag tag572 ≡ Some 572)
unfolding run_tag
station_572 = (refl, refl)

-- 00000000000 is a right tag, of no station
pub no_station_0 : (right_tag (tag_of 0) ≡ true) × (key_of_tag (tag_of 0) ≡ None)
unfolding run_tag
no_station_0 = (refl, refl)

-- the last key has a tag, the number above it none
pub last_station : (key_of_tag (tag_of 4294967295) ≡ Some 4294967295) × (key_of_tag (tag_of 4294967296) ≡ None)
unfolding run_tag
last_station = (refl, refl)
