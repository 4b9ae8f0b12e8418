-- What a master noticed: the smallest number of its notices. It depends only on which notices there are.
use Rattle.std.specs.Prelude.{ℕ, ◌≤◌, min, ◌≡◌, refl, ◌⊎◌, false, not}
use Rattle.std.proofs.Common.{sym, ◌∙◌, ap, le_antisymm, inl, inr, ⊎_elim, arith, eq-eqb, ne_eqb}
use Rattle.std.proofs.lemmas.Bool.{false≢true}
use mathlib.Core.List.Memᴰ
use mathlib.Core.List.{List, [], ◌∷◌, Memᴰ}
use Rattle.std.proofs.Math.Decide.{ℕ_discrete}
use Rattle.rules.specs.Sheet.{no_notice}
use Rattle.rules.specs.Gathering.{Notice, some_two, differ, notice_of}
use Rattle.laws.specs.Tests.{both}
use Rattle.laws.specs.ListLaws.{Sub}
use Rattle.laws.specs.Distinct.{less, more, equal, tri, some_two_in}

-- a notice by its two numbers
abbrev pub notice_by : ℕ → ℕ → Notice
notice_by m n = record { master = m; number = n }

pub notice_if : (m : ℕ) (x : Notice) (xs : List Notice) → x.master ≡ m → notice_of m (x ∷ xs) ≡ min x.number (notice_of m xs)
unfolding notice_of
notice_if m x xs e = simp (eq-eqb x.master m e)

pub notice_else : (m : ℕ) (x : Notice) (xs : List Notice) → (x.master ≡ m → ⊥) → notice_of m (x ∷ xs) ≡ notice_of m xs
unfolding notice_of
notice_else m x xs h = simp (ne_eqb x.master m h)

notice_step : (m : ℕ) (x : Notice) (xs : List Notice) → notice_of m (x ∷ xs) ≤ notice_of m xs
notice_step m x xs =
    elim (ℕ_discrete x.master m) [
      | yes e ↦ rw (notice_if m x xs e) (omega arith)
      | no h ↦ rw (notice_else m x xs h) (omega arith)
    ]

pub notice_cap : (m : ℕ) (xs : List Notice) → notice_of m xs ≤ no_notice
unfolding notice_of
notice_cap m [] = omega arith
notice_cap m (x ∷ xs) = omega (arith, notice_step m x xs, notice_cap m xs)

-- it is at most each of the master's notices
pub notice_le : (m n : ℕ) {xs : List Notice} → Memᴰ (notice_by m n) xs → notice_of m xs ≤ n
notice_le m n (Memᴰ.head {x = x} {xs = xs} e) =
    let a : x.master ≡ m = ap (λ (y : Notice). y.master) (sym e) in
    let b : n ≡ x.number = ap (λ (y : Notice). y.number) e in
    rw (notice_if m x xs a) (omega arith)
notice_le m n (Memᴰ.tail {x = x} {xs = xs} k) = omega (arith, notice_step m x xs, notice_le m n k)

-- and it is one of them, or 255
pub notice_in_lem : (m : ℕ) (xs : List Notice) → (notice_of m xs ≡ no_notice) ⊎ Memᴰ (notice_by m (notice_of m xs)) xs
unfolding notice_of
notice_in_lem m [] = inl refl
notice_in_lem m (x ∷ xs) =
    elim (ℕ_discrete x.master m) [
      | yes e ↦ elim (tri x.number (notice_of m xs)) [
        | less h ↦ here e (notice_if m x xs e ∙ omega arith)
        | equal h ↦ here e (notice_if m x xs e ∙ omega arith)
        | more h ↦ lift (notice_if m x xs e ∙ omega arith) (notice_in_lem m xs)
      ]
      | no h ↦ lift (notice_else m x xs h) (notice_in_lem m xs)
    ]
  where
    here : x.master ≡ m → notice_of m (x ∷ xs) ≡ x.number → (notice_of m (x ∷ xs) ≡ no_notice) ⊎ Memᴰ (notice_by m (notice_of m (x ∷ xs))) (x ∷ xs)
    here e c = inr (Memᴰ.head (λ i. record { master = sym e i; number = c i }))

    lift : notice_of m (x ∷ xs) ≡ notice_of m xs → (notice_of m xs ≡ no_notice) ⊎ Memᴰ (notice_by m (notice_of m xs)) xs
        → (notice_of m (x ∷ xs) ≡ no_notice) ⊎ Memᴰ (notice_by m (notice_of m (x ∷ xs))) (x ∷ xs)
    lift c (inl e) = inl (c ∙ e)
    lift c (inr k) = inr (Memᴰ.tail (Memᴰ.cast (ap (notice_by m) c) k))

-- more notices make it no larger
pub notice_sub : (m : ℕ) {xs ys : List Notice} → Sub xs ys → notice_of m ys ≤ notice_of m xs
notice_sub m {xs} {ys} s = ⊎_elim (λ e. omega (arith, notice_cap m ys)) (λ k. notice_le m (notice_of m xs) (s _ k)) (notice_in_lem m xs)

pub notice_same : (m : ℕ) {xs ys : List Notice} → Sub xs ys → Sub ys xs → notice_of m xs ≡ notice_of m ys
notice_same m s t = le_antisymm (notice_sub m t) (notice_sub m s)

-- where no two notices differ, a master has one number
pub agree : (ns : List Notice) → some_two differ ns ≡ false → (m a b : ℕ) → Memᴰ (notice_by m a) ns → Memᴰ (notice_by m b) ns → a ≡ b
unfolding differ
agree ns e m a b k l =
    elim (ℕ_discrete a b) [
      | yes p ↦ p
      | no h ↦ absurd (false≢true (sym e ∙ some_two_in differ k l (both (eq-eqb m m refl) (ap not (ne_eqb a b h)))))
    ]
