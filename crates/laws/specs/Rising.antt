-- Lists whose numbers strictly ascend, over the number f that each element has: `Rising f xs` says that each one's number is below all
-- later ones'. Two such lists of the same elements are equal, and one of fewer elements is no longer.
use Rattle.std.specs.Prelude.{ℕ, ◌<◌, ◌≤◌, ◌≡◌, ◌⊎◌, Bool, length, if◌then◌else◌, Some}
use Rattle.std.proofs.Math.Path.{refl, ap}
use Rattle.std.proofs.Common.{sym, ◌∙◌, ap₂, arith}
use Rattle.std.proofs.Math.Logic.{⊎_elim}
use Rattle.std.proofs.Math.Bool.{true, false}
use Rattle.std.proofs.lemmas.Bool.{false≢true}
use mathlib.Core.List.Memᴰ
use mathlib.Core.List.{List, [], ◌∷◌, ◌++◌, map, Memᴰ}
use Rattle.std.proofs.lemmas.Option.{same_Some}
use borrow.Author.Tests.{ltb-true, lt-ltb}
use Rattle.rules.specs.Lists.{keep, first, ascend_from, ascend}
use Rattle.laws.specs.Tests.{left, right, both}
use Rattle.laws.specs.ListLaws.{Sub, keep→}

module _ {A : Type 0} (f : A → ℕ) where
  -- each one's number is below all later ones'
  pub data Rising : List A → Type 0 where
    nil : Rising []
    cons : {x : A} {xs : List A} → ((y : A) → Memᴰ y xs → f x < f y) → Rising xs → Rising (x ∷ xs)

  -- each one's number is above n
  abbrev pub Above : ℕ → List A → Type 0
  Above n xs = (x : A) → Memᴰ x xs → n < f x

  lower : (n : ℕ) (x y : A) → n < f x → f x < f y → n < f y
  lower n x y h k = omega arith

  equal : (n : ℕ) (x y : A) → n < f x → y ≡ x → n < f y
  equal n x y h e = let c = ap f e in omega arith

  pub rising→ : (n : ℕ) (xs : List A) → ascend_from n (map f xs) ≡ true → Rising xs × Above n xs
  unfolding ascend_from
  rising→ n [] e = (nil, λ x m. absurd (Memᴰ.not-nil m))
  rising→ n (x ∷ xs) e =
      let h : n < f x = ltb-true n (f x) (left _ _ e) in
      let r = rising→ (f x) xs (right _ _ e) in
      (cons r.1 r.0, λ y m. ⊎_elim (λ q. equal n x y h q) (λ k. lower n x y h (r.1 y k)) (Memᴰ.cases_cons m))

  pub →rising : (n : ℕ) {xs : List A} → Rising xs → Above n xs → ascend_from n (map f xs) ≡ true
  unfolding ascend_from
  →rising n nil h = refl
  →rising n (cons {x} g r) h = both (lt-ltb n (f x) (h x (Memᴰ.head refl))) (→rising (f x) r g)

  -- the same where the first number may be 0
  pub ascend→ : (xs : List A) → ascend (map f xs) ≡ true → Rising xs
  unfolding ascend
  ascend→ [] e = nil
  ascend→ (x ∷ xs) e = let r = rising→ (f x) xs e in cons r.1 r.0

  pub →ascend : {xs : List A} → Rising xs → ascend (map f xs) ≡ true
  unfolding ascend
  →ascend nil = refl
  →ascend (cons {x} g r) = →rising (f x) r g

  no_loop : (x y : A) → f x < f y → f y < f x → ⊥
  no_loop x y h k = omega arith

  not_below : {x y : A} → x ≡ y → f x < f y → ⊥
  not_below e h = let c = ap f e in omega arith

  not_equal : (x y : A) → f x < f y → f x ≡ f y → ⊥
  not_equal x y h c = omega arith

  -- no two have one number
  pub rising_one : {xs : List A} {x y : A} → Rising xs → Memᴰ x xs → Memᴰ y xs → f x ≡ f y → x ≡ y
  rising_one nil m k c = absurd (Memᴰ.not-nil m)
  rising_one {x} {y} (cons {x = z} g r) m k c =
      ⊎_elim
      (λ p. ⊎_elim (λ q. p ∙ sym q) (λ b. absurd (not_equal z y (g y b) (ap f (sym p) ∙ c))) (Memᴰ.cases_cons k))
      (λ a. ⊎_elim (λ q. absurd (not_equal z x (g x a) (ap f (sym q) ∙ sym c))) (λ b. rising_one r a b c) (Memᴰ.cases_cons k))
      (Memᴰ.cases_cons m)

  -- the first that passes has the smallest number of those that pass
  pub rising_first : (p : A → Bool) {xs : List A} {x y : A} → Rising xs → first p xs ≡ Some x → Memᴰ y xs → p y ≡ true → f x ≤ f y
  unfolding first
  rising_first p nil e m t = absurd (Memᴰ.not-nil m)
  rising_first p {x} {y} (cons {x = z} {xs = zs} g r) e m t = go (p z) refl e (λ d k. rising_first p r d k t)
    where
      at_head : z ≡ x → (y ≡ z) ⊎ Memᴰ y zs → f x ≤ f y
      at_head c d = let a = ap f c in ⊎_elim (λ i. let b = ap f i in omega arith) (λ i. let b = g y i in omega arith) d

      go : (u : Bool) → p z ≡ u → (if u then Some z else first p zs) ≡ Some x → (first p zs ≡ Some x → Memᴰ y zs → f x ≤ f y) → f x ≤ f y
      go true q e below = at_head (same_Some z x e) (Memᴰ.cases_cons m)
      go false q e below = ⊎_elim (λ c. absurd (false≢true (sym q ∙ ap p (sym c) ∙ t))) (λ k. below e k) (Memᴰ.cases_cons m)

  -- what is above the head of one list, and in the other, is in the other's tail
  tails : {x y : A} {xs ys : List A} → x ≡ y → Above (f x) xs → Sub (x ∷ xs) (y ∷ ys) → Sub xs ys
  tails e g s z m = ⊎_elim (λ q. absurd (not_below (e ∙ sym q) (g z m))) (λ k. k) (Memᴰ.cases_cons (s z (Memᴰ.tail m)))

  -- RISING LISTS OF THE SAME ELEMENTS ARE EQUAL
  pub rising_unique : {xs ys : List A} → Rising xs → Rising ys → Sub xs ys → Sub ys xs → xs ≡ ys
  rising_unique nil nil s t = refl
  rising_unique nil (cons {x = y} g q) s t = absurd (Memᴰ.not-nil (t y (Memᴰ.head refl)))
  rising_unique (cons {x} g p) nil s t = absurd (Memᴰ.not-nil (s x (Memᴰ.head refl)))
  rising_unique (cons {x} g p) (cons {x = y} h q) s t =
      let e : x ≡ y =
      ⊎_elim (λ e. e)
      (λ k. ⊎_elim (λ e. sym e) (λ l. absurd (no_loop x y (g y l) (h x k))) (Memᴰ.cases_cons (t y (Memᴰ.head refl))))
      (Memᴰ.cases_cons (s x (Memᴰ.head refl))) in
      ap₂ ◌∷◌ e (rising_unique p q (tails e g s) (tails (sym e) h t))

  -- AND FEWER ELEMENTS MAKE NO LONGER LIST
  pub rising_le : {xs ys : List A} → Rising xs → Rising ys → Sub xs ys → length xs ≤ length ys
  rising_le nil q s = omega arith
  rising_le (cons {x} g p) nil s = absurd (Memᴰ.not-nil (s x (Memᴰ.head refl)))
  rising_le (cons {x} {xs} g p) (cons {x = y} {xs = ys} h q) s =
      ⊎_elim
      (λ e. let k = rising_le p q (tails e g s) in omega arith)
      (λ k.
      let t : Sub (x ∷ xs) ys =
      λ z m. ⊎_elim (λ e. Memᴰ.cast e k)
      (λ l. ⊎_elim (λ e. absurd (not_below (sym e) (lower (f y) x z (h x k) (g z l)))) (λ o. o) (Memᴰ.cases_cons (s z m)))
      (Memᴰ.cases_cons m) in
      let r = rising_le (cons g p) q t in omega arith)
      (Memᴰ.cases_cons (s x (Memᴰ.head refl)))

  pub rising_keep : (p : A → Bool) {xs : List A} → Rising xs → Rising (keep p xs)
  unfolding keep
  rising_keep p nil = nil
  rising_keep p (cons {x} {xs} g r) = go (p x) (rising_keep p r)
    where
      go : (t : Bool) → Rising (keep p xs) → Rising (if t then x ∷ keep p xs else keep p xs)
      go true k = cons (λ y m. g y (keep→ p xs m).0) k
      go false k = k

  pub rising_append : {xs ys : List A} → Rising xs → Rising ys → ((x y : A) → Memᴰ x xs → Memᴰ y ys → f x < f y) → Rising (xs ++ ys)
  rising_append nil q h = q
  rising_append (cons {x} {xs} g r) q h =
      cons (λ y m. ⊎_elim (λ k. g y k) (λ k. h x y (Memᴰ.head refl) k) (Memᴰ.append_cases xs m))
      (rising_append r q (λ a b m k. h a b (Memᴰ.tail m) k))
