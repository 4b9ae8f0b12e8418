-- A test, and the fact that it tests: how a definition by tests is used as facts.
use Prim.Native.Nat.{ℕ, zero, suc, ◌+◌, ◌≤◌, ◌<◌}
use Rattle.std.specs.Prelude.{◌≡◌, ◌⊎◌, Bool, true, false, not, length, get_or, leb, ltb, eqb}
use Rattle.std.proofs.Math.Path.{refl, ap}
use Rattle.std.proofs.Common.{sym, ◌∙◌, inl, inr, true≢false, eq-or-lt_of_le, arith, lt-ltb, le-leb, eq-eqb, ltb-true, leb-true, eqb-true}
use Rattle.std.proofs.Math.Logic.{⊎_elim}
use Rattle.std.proofs.lemmas.Bool.{false≢true, not-true, not-false}
use mathlib.Core.List.{List, [], ◌∷◌}
use Rattle.rules.specs.Lists.{◌and◌, ◌or◌, all, up_from, ascend_from}
use Rattle.laws.specs.Tests.{left, right, both, or→, or_left, or_right}

pub record Says (b : Bool) (P : Type 0) : Type 0 where
  pub told : b ≡ true → P
  pub test : P → b ≡ true

pub yes_of : {b : Bool} {P : Type 0} → Says b P → P → true ≡ b
yes_of r p = sym (r.test p)

pub no_of : {b : Bool} {P : Type 0} → Says b P → (P → ⊥) → false ≡ b
no_of {b} {P} r h = go b refl
  where
    go : (t : Bool) → b ≡ t → false ≡ b
    go true e = absurd (h (r.told e))
    go false e = sym e

pub is_lt : (a b : ℕ) → Says (ltb a b) (a < b)
is_lt a b = record { told = ltb-true a b; test = lt-ltb a b }

pub is_le : (a b : ℕ) → Says (leb a b) (a ≤ b)
is_le a b = record { told = leb-true a b; test = le-leb a b }

pub is_eq : (a b : ℕ) → Says (eqb a b) (a ≡ b)
is_eq a b = record { told = eqb-true a b; test = eq-eqb a b }

-- a test that is its own fact
pub itself : (b : Bool) → Says b (b ≡ true)
itself b = record { told = λ e. e; test = λ e. e }

-- the same facts in another shape
pub shaped : {b : Bool} {P Q : Type 0} → (P → Q) → (Q → P) → Says b P → Says b Q
shaped f g r = record { told = λ e. f (r.told e); test = λ q. r.test (g q) }

-- the same facts of an equal test
pub retold : {a b : Bool} {P : Type 0} → a ≡ b → Says b P → Says a P
retold e r = record { told = λ h. r.told (sym e ∙ h); test = λ p. e ∙ r.test p }

infixr 35 ◌also◌
pub ◌also◌ : {a b : Bool} {P Q : Type 0} → Says a P → Says b Q → Says (a and b) (P × Q)
◌also◌ {a} {b} p q = record {
  told = λ e. (p.told (left a b e), q.told (right a b e));
  test = λ h. both (p.test h.0) (q.test h.1);
}

infixr 30 ◌or_else◌
pub ◌or_else◌ : {a b : Bool} {P Q : Type 0} → Says a P → Says b Q → Says (a or b) (P ⊎ Q)
◌or_else◌ {a} {b} p q = record {
  told = λ e. ⊎_elim (λ x. inl (p.told x)) (λ y. inr (q.told y)) (or→ a b e);
  test = λ h. ⊎_elim (λ x. or_left a b (p.test x)) (λ y. or_right a b (q.test y)) h;
}

-- not a, or b: where a holds b does
pub ◌so◌ : {a b : Bool} {P Q : Type 0} → Says a P → Says b Q → Says (not a or b) (P → Q)
◌so◌ {a} {b} {P} {Q} p q = record { told = λ e h. to a refl h e; test = λ f. of a refl f }
  where
    to : (t : Bool) → a ≡ t → P → (not a or b) ≡ true → Q
    to true e h u = ⊎_elim (λ v. absurd (false≢true (ap not (sym e) ∙ v))) (λ v. q.told v) (or→ (not a) b u)
    to false e h u = absurd (false≢true (sym e ∙ p.test h))

    of : (t : Bool) → a ≡ t → (P → Q) → (not a or b) ≡ true
    of true e f = or_right (not a) b (q.test (f (p.told e)))
    of false e f = or_left (not a) b (ap not e)

-- each of a list, by its places
module _ {A : Type 0} (p : A → Bool) (d : A) where
  each_told : (xs : List A) → all p xs ≡ true → (k : ℕ) → k < length xs → p (get_or xs k d) ≡ true
  unfolding all
  each_told [] e k l = absurd (omega arith)
  each_told (x ∷ xs) e zero l = left _ _ e
  each_told (x ∷ xs) e (suc k) l = each_told xs (right _ _ e) k (omega arith)

  each_test : (xs : List A) → ((k : ℕ) → k < length xs → p (get_or xs k d) ≡ true) → all p xs ≡ true
  unfolding all
  each_test [] h = refl
  each_test (x ∷ xs) h = both (h 0 (omega arith)) (each_test xs (λ k l. h (suc k) (omega arith)))

  pub each : (xs : List A) → Says (all p xs) ((k : ℕ) → k < length xs → p (get_or xs k d) ≡ true)
  each xs = record { told = each_told xs; test = each_test xs }

-- each of the n numbers from j on
module _ (f : ℕ → Bool) where
  from_told : (n j : ℕ) → all f (up_from j n) ≡ true → (k : ℕ) → j ≤ k → k < j + n → f k ≡ true
  unfolding all up_from
  from_told zero j e k a b = absurd (omega arith)
  from_told (suc n) j e k a b =
      ⊎_elim (λ q. ap f (sym q) ∙ left _ _ e) (λ (h : j < k). from_told n (suc j) (right _ _ e) k (omega arith) (omega arith)) (eq-or-lt_of_le a)

  from_test : (n j : ℕ) → ((k : ℕ) → j ≤ k → k < j + n → f k ≡ true) → all f (up_from j n) ≡ true
  unfolding all up_from
  from_test zero j h = refl
  from_test (suc n) j h = both (h j (omega arith) (omega arith)) (from_test n (suc j) (λ k a b. h k (omega arith) (omega arith)))

  pub each_below : (n : ℕ) → Says (all f (up_from 0 n)) ((k : ℕ) → k < n → f k ≡ true)
  each_below n = record {
    told = λ e k l. from_told n 0 e k (omega arith) (omega arith);
    test = λ h. from_test n 0 (λ k a b. h k (omega arith));
  }

  -- a loop over a test: it stopped at a number that fails, or passed them all
  pub fails : (n i : ℕ) → i < n → f i ≡ false → false ≡ all f (up_from 0 n)
  fails n i l e = no_of (each_below n) (λ h. true≢false (sym (h i l) ∙ e))

  pub passes : (n i : ℕ) → n ≤ i → ((k : ℕ) → k < i → f k ≡ true) → true ≡ all f (up_from 0 n)
  passes n i l h = yes_of (each_below n) (λ k m. h k (omega arith))

-- numbers ascend: each is above the one before it, the first above p
ascend_told : (p : ℕ) (xs : List ℕ) → ascend_from p xs ≡ true → (k : ℕ) → k < length xs → get_or (p ∷ xs) k 0 < get_or xs k 0
unfolding ascend_from
ascend_told p [] e k l = absurd (omega arith)
ascend_told p (x ∷ xs) e zero l = ltb-true p x (left _ _ e)
ascend_told p (x ∷ xs) e (suc k) l = ascend_told x xs (right _ _ e) k (omega arith)

ascend_test : (p : ℕ) (xs : List ℕ) → ((k : ℕ) → k < length xs → get_or (p ∷ xs) k 0 < get_or xs k 0) → ascend_from p xs ≡ true
unfolding ascend_from
ascend_test p [] h = refl
ascend_test p (x ∷ xs) h = both (lt-ltb p x (h 0 (omega arith))) (ascend_test x xs (λ k l. h (suc k) (omega arith)))

pub ascends : (p : ℕ) (xs : List ℕ) → Says (ascend_from p xs) ((k : ℕ) → k < length xs → get_or (p ∷ xs) k 0 < get_or xs k 0)
ascends p xs = record { told = ascend_told p xs; test = ascend_test p xs }

-- `if !f(..)`: what f's answer r, which its contract gives as the test b, said there
pub said_no : {r b : Bool} → r ≡ b → not r ≡ true → b ≡ false
said_no {r} e n = sym e ∙ not-true r n

pub said_yes : {r b : Bool} → r ≡ b → not r ≡ false → b ≡ true
said_yes {r} e n = sym e ∙ not-false r n

pub clash : {b : Bool} → b ≡ true → b ≡ false → ⊥
clash p q = true≢false (sym p ∙ q)
