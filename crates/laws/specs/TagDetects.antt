-- What the check digit finds: a right tag with one digit altered, or with two unequal neighbouring digits exchanged, is no right tag.
use Rattle.std.specs.Prelude.{ℕ, zero, suc, ◌≤◌, ◌<◌, ◌≡◌, true, false, [], ◌∷◌, length, get_or, set}
use Rattle.std.proofs.Common.{sym, ◌∙◌, arith}
use Rattle.words.specs.Words.{Bytes}
use Rattle.rules.specs.Lists.{all}
use Rattle.rules.specs.Tag.{step, is_digit, digit_of, steps, right_tag, exchanged}
use Rattle.laws.specs.Tests.{left, right, not_true_false}
use Rattle.laws.specs.Says.{Says, is_le, is_eq, itself, ◌also◌}
use Rattle.laws.specs.TagRule.{rule, step_below}

-- ---- digits

pub digit_is : (b : ℕ) → Says (is_digit b) ((48 ≤ b) × (b ≤ 57))
unfolding is_digit
digit_is b = is_le 48 b also is_le b 57

pub digit_below : (b : ℕ) → is_digit b ≡ true → digit_of b < 10
digit_below b h = let d = (digit_is b).told h in omega arith

digit_one : (a b : ℕ) → is_digit a ≡ true → is_digit b ≡ true → digit_of a ≡ digit_of b → a ≡ b
digit_one a b h k e = let d = (digit_is a).told h in let f = (digit_is b).told k in omega arith

-- ---- interim digits

pub steps_below : (i : ℕ) (t : Bytes) → i < 10 → all is_digit t ≡ true → steps i t < 10
unfolding steps all
steps_below i [] h a = h
steps_below i (b ∷ bs) h a =
    steps_below (step i (digit_of b)) bs (step_below i (digit_of b) h (digit_below b (left _ _ a))) (right _ _ a)

-- the same digits lead from two interim digits to two
steps_start : (i j : ℕ) (t : Bytes) → i < 10 → j < 10 → all is_digit t ≡ true → steps i t ≡ steps j t → i ≡ j
unfolding steps all
steps_start i j [] h k a e = e
steps_start i j (b ∷ bs) h k a e =
    let d = digit_below b (left _ _ a) in
    (rule (digit_of b) i j d h k).column
    (steps_start (step i (digit_of b)) (step j (digit_of b)) bs (step_below i (digit_of b) h d) (step_below j (digit_of b) k d) (right _ _ a) e)

-- ---- one digit altered

set_digit : (t : Bytes) (p v : ℕ) → p < length t → all is_digit (set t p v) ≡ true → is_digit v ≡ true
unfolding all
set_digit [] p v l a = absurd (omega arith)
set_digit (x ∷ xs) zero v l a = left _ _ a
set_digit (x ∷ xs) (suc p) v l a = set_digit xs p v (omega arith) (right _ _ a)

altered : (i : ℕ) (t : Bytes) (p v : ℕ) → i < 10 → all is_digit t ≡ true → is_digit v ≡ true → p < length t → steps i (set t p v) ≡ steps i t → v ≡ get_or t p 0
unfolding steps all
altered i [] p v h a d l e = absurd (omega arith)
altered i (x ∷ xs) zero v h a d l e =
    let dx = digit_below x (left _ _ a) in
    let dv = digit_below v d in
    let same = steps_start (step i (digit_of v)) (step i (digit_of x)) xs (step_below i (digit_of v) h dv) (step_below i (digit_of x) h dx) (right _ _ a) e in
    digit_one v x d (left _ _ a) ((rule i (digit_of v) (digit_of x) h dv dx).row same)
altered i (x ∷ xs) (suc p) v h a d l e =
    altered (step i (digit_of x)) xs p v (step_below i (digit_of x) h (digit_below x (left _ _ a))) (right _ _ a) d (omega arith) e

-- ---- two neighbours exchanged

exchanges : (i : ℕ) (t : Bytes) (p : ℕ) → i < 10 → all is_digit t ≡ true → suc p < length t → steps i (exchanged t p) ≡ steps i t → get_or t p 0 ≡ get_or t (suc p) 0
unfolding steps all exchanged
exchanges i [] p h a l e = absurd (omega arith)
exchanges i (x ∷ []) p h a l e = absurd (omega arith)
exchanges i (x ∷ y ∷ ts) zero h a l e =
    let dx = digit_below x (left _ _ a) in
    let dy = digit_below y (left _ _ (right _ _ a)) in
    let xy = step_below (step i (digit_of x)) (digit_of y) (step_below i (digit_of x) h dx) dy in
    let yx = step_below (step i (digit_of y)) (digit_of x) (step_below i (digit_of y) h dy) dx in
    let f = steps_start (step (step i (digit_of y)) (digit_of x)) (step (step i (digit_of x)) (digit_of y)) ts yx xy (right _ _ (right _ _ a)) e in
    digit_one x y (left _ _ a) (left _ _ (right _ _ a)) ((rule i (digit_of x) (digit_of y) h dx dy).exchange (sym f))
exchanges i (x ∷ y ∷ ts) (suc p) h a l e =
    exchanges (step i (digit_of x)) (y ∷ ts) p (step_below i (digit_of x) h (digit_below x (left _ _ a))) (right _ _ a) (omega arith) e

-- ---- tags

-- what a right tag is
pub right_is : (t : Bytes) → Says (right_tag t) ((length t ≡ 11) × ((all is_digit t ≡ true) × (steps 0 t ≡ 0)))
unfolding right_tag
right_is t = is_eq (length t) 11 also itself (all is_digit t) also is_eq (steps 0 t) 0

-- ONE DIGIT ALTERED, at any of the eleven places and to any other byte: no right tag
pub one_altered : (t : Bytes) (p v : ℕ) → right_tag t ≡ true → p < 11 → (v ≡ get_or t p 0 → ⊥) → right_tag (set t p v) ≡ false
one_altered t p v r l n = not_true_false (λ h. found h)
  where
    found : right_tag (set t p v) ≡ true → ⊥
    found h =
        let a = (right_is t).told r in
        let b = (right_is (set t p v)).told h in
        let m : p < length t = omega (arith, a.0) in
        n (altered 0 t p v (omega arith) a.1.0 (set_digit t p v m b.1.0) m (b.1.1 ∙ sym a.1.1))

-- TWO UNEQUAL NEIGHBOURS EXCHANGED, the check digit and the one before it too: no right tag
pub neighbours_exchanged : (t : Bytes) (p : ℕ) → right_tag t ≡ true → suc p < 11 → (get_or t p 0 ≡ get_or t (suc p) 0 → ⊥) → right_tag (exchanged t p) ≡ false
neighbours_exchanged t p r l n = not_true_false (λ h. found h)
  where
    found : right_tag (exchanged t p) ≡ true → ⊥
    found h =
        let a = (right_is t).told r in
        let b = (right_is (exchanged t p)).told h in
        let m : suc p < length t = omega (arith, a.0) in
        n (exchanges 0 t p (omega arith) a.1.0 m (b.1.1 ∙ sym a.1.1))
