-- Laws of lists by their elements: `Sub xs ys` says that each element of xs is one of ys.
use Rattle.std.specs.Prelude.{ℕ, zero, suc, ◌+◌, ◌<◌, ◌≤◌, ◌≡◌, Bool, get_or, if◌then◌else◌, None, Some}
use Rattle.std.proofs.Math.Path.{refl, sym, ap}
use Rattle.std.proofs.Common.{◌∙◌, arith}
use Rattle.std.proofs.Math.Logic.{⊎_elim}
use Rattle.std.proofs.Math.Bool.{true, false}
use Rattle.std.proofs.lemmas.Bool.{false≢true}
use mathlib.Core.List.Memᴰ
use mathlib.Core.List.{List, [], ◌∷◌, ◌++◌, map, Memᴰ, append_assoc, append-nil}
use Rattle.std.proofs.lemmas.Option.{same_Some, none-some}
use Rattle.std.proofs.Math.Decide.{ℕ_discrete}
use Rattle.laws.specs.Tests.{left, right, both, or→, or_left, or_right}
use Rattle.rules.specs.Lists.{all, any, keep, first, flat, up_from}

module _ {A : Type 0} where
  -- each element of the first list is one of the second
  abbrev pub Sub : List A → List A → Type 0
  Sub xs ys = (x : A) → Memᴰ x xs → Memᴰ x ys

  pub any→ : (p : A → Bool) (xs : List A) → any p xs ≡ true → (x : A) × Memᴰ x xs × (p x ≡ true)
  unfolding any
  any→ p [] e = absurd (false≢true e)
  any→ p (x ∷ xs) e =
      ⊎_elim (λ q. (x, Memᴰ.head refl, q))
      (λ q. let r = any→ p xs q in (r.0, Memᴰ.tail r.1, r.2))
      (or→ (p x) (any p xs) e)

  pub →any : (p : A → Bool) {x : A} {xs : List A} → Memᴰ x xs → p x ≡ true → any p xs ≡ true
  unfolding any
  →any p (Memᴰ.head {x = y} {xs = ys} e) q = or_left (p y) (any p ys) (ap p (sym e) ∙ q)
  →any p (Memᴰ.tail {x = y} {xs = ys} m) q = or_right (p y) (any p ys) (→any p m q)

  pub →all : (p : A → Bool) (xs : List A) → ((x : A) → Memᴰ x xs → p x ≡ true) → all p xs ≡ true
  unfolding all
  →all p [] h = refl
  →all p (x ∷ xs) h = both (h x (Memᴰ.head refl)) (→all p xs (λ y m. h y (Memᴰ.tail m)))

  pub all→ : (p : A → Bool) {x : A} {xs : List A} → all p xs ≡ true → Memᴰ x xs → p x ≡ true
  unfolding all
  all→ p e (Memᴰ.head q) = ap p q ∙ left _ _ e
  all→ p e (Memᴰ.tail m) = all→ p (right _ _ e) m

  pub sub_append : {xs ys : List A} (zs : List A) → Sub xs ys → Sub (xs ++ zs) (ys ++ zs)
  sub_append {xs} {ys} zs s x m = ⊎_elim (λ k. Memᴰ.append_left zs (s x k)) (λ k. Memᴰ.append_right ys k) (Memᴰ.append_cases xs m)

  pub sub_append_right : {ys zs : List A} (xs : List A) → Sub ys zs → Sub (xs ++ ys) (xs ++ zs)
  sub_append_right {ys} {zs} xs s x m = ⊎_elim (λ k. Memᴰ.append_left zs k) (λ k. Memᴰ.append_right xs (s x k)) (Memᴰ.append_cases xs m)

  pub keep→ : (p : A → Bool) (xs : List A) {x : A} → Memᴰ x (keep p xs) → Memᴰ x xs × (p x ≡ true)
  unfolding keep
  keep→ p [] m = absurd (Memᴰ.not-nil m)
  keep→ p (y ∷ ys) {x} m = go (p y) refl m (keep→ p ys)
    where
      go : (t : Bool) → p y ≡ t → Memᴰ x (if t then y ∷ keep p ys else keep p ys) → (Memᴰ x (keep p ys) → Memᴰ x ys × (p x ≡ true))
          → Memᴰ x (y ∷ ys) × (p x ≡ true)
      go true q m below =
          ⊎_elim (λ e. (Memᴰ.head e, ap p e ∙ q)) (λ k. let r = below k in (Memᴰ.tail r.0, r.1)) (Memᴰ.cases_cons m)
      go false q m below = let r = below m in (Memᴰ.tail r.0, r.1)

  pub →keep : (p : A → Bool) {x : A} {xs : List A} → Memᴰ x xs → p x ≡ true → Memᴰ x (keep p xs)
  unfolding keep
  →keep p {x} (Memᴰ.head {x = y} {xs = ys} e) q = rw (ap p (sym e) ∙ q) (Memᴰ.head e)
  →keep p {x} (Memᴰ.tail {x = y} {xs = ys} m) q = go (p y) (→keep p m q)
    where
      go : (t : Bool) → Memᴰ x (keep p ys) → Memᴰ x (if t then y ∷ keep p ys else keep p ys)
      go true k = Memᴰ.tail k
      go false k = k

  -- the first that passes
  pub first→ : (p : A → Bool) (xs : List A) {x : A} → first p xs ≡ Some x → Memᴰ x xs × (p x ≡ true)
  unfolding first
  first→ p [] {x} e = absurd (none-some x e)
  first→ p (y ∷ ys) {x} e = go (p y) refl e (first→ p ys)
    where
      go : (t : Bool) → p y ≡ t → (if t then Some y else first p ys) ≡ Some x → (first p ys ≡ Some x → Memᴰ x ys × (p x ≡ true))
          → Memᴰ x (y ∷ ys) × (p x ≡ true)
      go true q e below = let w : y ≡ x = same_Some y x e in (Memᴰ.head (sym w), ap p (sym w) ∙ q)
      go false q e below = let r = below e in (Memᴰ.tail r.0, r.1)

  pub first_none : (p : A → Bool) (xs : List A) → first p xs ≡ None → (x : A) → Memᴰ x xs → p x ≡ false
  unfolding first
  first_none p [] e x m = absurd (Memᴰ.not-nil m)
  first_none p (y ∷ ys) e x m = go (p y) refl e (first_none p ys)
    where
      go : (t : Bool) → p y ≡ t → (if t then Some y else first p ys) ≡ None → (first p ys ≡ None → (z : A) → Memᴰ z ys → p z ≡ false) → p x ≡ false
      go true q e below = absurd (none-some y (sym e))
      go false q e below = ⊎_elim (λ c. ap p c ∙ q) (λ k. below e x k) (Memᴰ.cases_cons m)

module _ {A B : Type 0} (f : A → List B) where
  pub flat→ : (xs : List A) {y : B} → Memᴰ y (flat f xs) → (x : A) × Memᴰ x xs × Memᴰ y (f x)
  unfolding flat
  flat→ [] m = absurd (Memᴰ.not-nil m)
  flat→ (x ∷ xs) m =
      ⊎_elim (λ k. (x, Memᴰ.head refl, k))
      (λ k. let r = flat→ xs k in (r.0, Memᴰ.tail r.1, r.2))
      (Memᴰ.append_cases (f x) m)

  pub →flat : {x : A} {xs : List A} {y : B} → Memᴰ x xs → Memᴰ y (f x) → Memᴰ y (flat f xs)
  unfolding flat
  →flat {y} (Memᴰ.head {x = z} {xs = zs} e) k = Memᴰ.append_left (flat f zs) (rw e at k)
  →flat (Memᴰ.tail {x = z} {xs = zs} m) k = Memᴰ.append_right (f z) (→flat m k)

-- what is made of two lists stands one after the other, and what is made of one element more stands last
module _ {A B : Type 0} where
  pub flat_append : (f : A → List B) (xs ys : List A) → flat f (xs ++ ys) ≡ flat f xs ++ flat f ys
  unfolding flat
  flat_append f [] ys = refl
  flat_append f (x ∷ xs) ys = ap (λ (l : List B). f x ++ l) (flat_append f xs ys) ∙ sym (append_assoc (f x) (flat f xs) (flat f ys))

  pub flat_snoc : (f : A → List B) (xs : List A) (x : A) → flat f (xs ++ x ∷ []) ≡ flat f xs ++ f x
  unfolding flat
  flat_snoc f xs x = flat_append f xs (x ∷ []) ∙ ap (λ (l : List B). flat f xs ++ l) (append-nil (f x))

-- the numbers from k on
pub up_from→ : (k n : ℕ) {x : ℕ} → Memᴰ x (up_from k n) → (k ≤ x) × (x < k + n)
unfolding up_from
up_from→ k zero m = absurd (Memᴰ.not-nil m)
up_from→ k (suc n) m =
    ⊎_elim (λ e. (omega arith, omega arith)) (λ q. let r = up_from→ (suc k) n q in (omega arith, omega arith)) (Memᴰ.cases_cons m)

pub →up_from : (k n : ℕ) {x : ℕ} → k ≤ x → x < k + n → Memᴰ x (up_from k n)
unfolding up_from
→up_from k zero l u = absurd (omega arith)
→up_from k (suc n) {x} l u =
    elim (ℕ_discrete x k) [
      | yes e ↦ Memᴰ.head e
      | no h ↦ Memᴰ.tail (→up_from (suc k) n (omega arith) (omega arith))
    ]

pub get_d_up_from : (f : ℕ → ℕ) (d k n i : ℕ) → i < n → get_or (map f (up_from k n)) i d ≡ f (k + i)
unfolding up_from
get_d_up_from f d k zero i h = absurd (omega arith)
get_d_up_from f d k (suc n) zero h = ap f (omega arith)
get_d_up_from f d k (suc n) (suc i) h = get_d_up_from f d (suc k) n i (omega arith) ∙ ap f (omega arith)
