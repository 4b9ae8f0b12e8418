-- Precedence is total on distinct marks, irreflexive, asymmetric and transitive; `earlier` hands back the one that precedes.
-- All that uses precedence uses it through these laws.
use Rattle.std.specs.Prelude.{ℕ, ◌<◌, ◌≤◌, ◌≡◌, refl, Bool, true, false}
use Rattle.std.proofs.Common.{sym, ◌∙◌, ap, arith, ltb-true, ltb-false, lt-ltb, le-ltb}
use Rattle.std.proofs.Math.Bool.{Bool-discrete}
use Rattle.std.proofs.lemmas.Bool.{false≢true}
use Rattle.std.proofs.Math.Decide.{ℕ_discrete}
use Rattle.rules.specs.declared.mark.Mark.{Mark}
use Rattle.rules.specs.Numbers.{precedes, earlier}
use Rattle.rules.specs.Cases.{by_cen, by_sen, by_csn}
use Rattle.laws.specs.Tests.{not_true_false}

-- the same as facts on the numbers
pub data Before (a b : Mark) : Type 0 where
  sooner : a.cen < b.cen → Before a b
  later_start : a.cen ≡ b.cen → b.sen < a.sen → Before a b
  smaller_csn : a.cen ≡ b.cen → a.sen ≡ b.sen → a.csn < b.csn → Before a b

pub precedes→ : (a b : Mark) → precedes a b ≡ true → Before a b
precedes→ a b e =
    elim (ℕ_discrete a.cen b.cen) [
      | no h ↦ sooner (ltb-true _ _ (sym (by_cen a b h) ∙ e))
      | yes p ↦ elim (ℕ_discrete a.sen b.sen) [
        | no h ↦ later_start p (ltb-true _ _ (sym (by_sen a b p h) ∙ e))
        | yes q ↦ smaller_csn p q (ltb-true _ _ (sym (by_csn a b p q) ∙ e))
      ]
    ]

pub →precedes : {a b : Mark} → Before a b → precedes a b ≡ true
→precedes {a} {b} (sooner h) = by_cen a b (omega arith) ∙ lt-ltb _ _ h
→precedes {a} {b} (later_start p h) = by_sen a b p (omega arith) ∙ lt-ltb _ _ h
→precedes {a} {b} (smaller_csn p q h) = by_csn a b p q ∙ lt-ltb _ _ h

-- No mark precedes its equal
pub irreflexive : (a : Mark) → precedes a a ≡ false
irreflexive a = by_csn a a refl refl ∙ le-ltb a.csn a.csn (omega arith)

before_trans : {a b c : Mark} → Before a b → Before b c → Before a c
before_trans (sooner h) (sooner k) = sooner (omega arith)
before_trans (sooner h) (later_start p k) = sooner (omega arith)
before_trans (sooner h) (smaller_csn p q k) = sooner (omega arith)
before_trans (later_start p h) (sooner k) = sooner (omega arith)
before_trans (later_start p h) (later_start r k) = later_start (p ∙ r) (omega arith)
before_trans (later_start p h) (smaller_csn r s k) = later_start (p ∙ r) (omega arith)
before_trans (smaller_csn p q h) (sooner k) = sooner (omega arith)
before_trans (smaller_csn p q h) (later_start r k) = later_start (p ∙ r) (omega arith)
before_trans (smaller_csn p q h) (smaller_csn r s k) = smaller_csn (p ∙ r) (q ∙ s) (omega arith)

pub transitive : (a b c : Mark) → precedes a b ≡ true → precedes b c ≡ true → precedes a c ≡ true
transitive a b c p q = →precedes (before_trans (precedes→ a b p) (precedes→ b c q))

pub asymmetric : (a b : Mark) → precedes a b ≡ true → precedes b a ≡ false
asymmetric a b p =
    elim (Bool-discrete (precedes b a) true) [
      | yes q ↦ absurd (false≢true (sym (irreflexive a) ∙ transitive a b a p q))
      | no h ↦ not_true_false h
    ]

below : {m n : ℕ} → n ≤ m → (m ≡ n → ⊥) → n < m
below h d = omega arith

above : {m n : ℕ} → m ≤ n → (m ≡ n → ⊥) → m < n
above h d = omega arith

-- Of two distinct marks one precedes the other
pub total : (a b : Mark) → (a ≡ b → ⊥) → precedes a b ≡ false → precedes b a ≡ true
total a b n e =
    elim (ℕ_discrete a.cen b.cen) [
      | no h ↦ →precedes (sooner (below (ltb-false _ _ (sym (by_cen a b h) ∙ e)) h))
      | yes p ↦ elim (ℕ_discrete a.sen b.sen) [
        | no h ↦ →precedes (later_start (sym p) (above (ltb-false _ _ (sym (by_sen a b p h) ∙ e)) h))
        | yes q ↦ elim (ℕ_discrete a.csn b.csn) [
          | no h ↦ →precedes (smaller_csn (sym p) (sym q) (below (ltb-false _ _ (sym (by_csn a b p q) ∙ e)) h))
          | yes r ↦ absurd (n (λ i. record { cen = p i; sen = q i; csn = r i }))
        ]
      ]
    ]

-- Equal marks can be told from distinct ones
pub mark_discrete : (a b : Mark) → Dec (a ≡ b)
mark_discrete a b =
    elim (ℕ_discrete a.cen b.cen) [
      | no h ↦ no (λ e. h (ap (λ (m : Mark). m.cen) e))
      | yes p ↦ elim (ℕ_discrete a.sen b.sen) [
        | no h ↦ no (λ e. h (ap (λ (m : Mark). m.sen) e))
        | yes q ↦ elim (ℕ_discrete a.csn b.csn) [
          | no h ↦ no (λ e. h (ap (λ (m : Mark). m.csn) e))
          | yes r ↦ yes (λ i. record { cen = p i; sen = q i; csn = r i })
        ]
      ]
    ]

pub earlier_second : (a b : Mark) → precedes b a ≡ true → earlier a b ≡ b
unfolding earlier
earlier_second a b p = simp p

pub earlier_first : (a b : Mark) → precedes b a ≡ false → earlier a b ≡ a
unfolding earlier
earlier_first a b p = simp p

-- The earlier of two marks is the same whichever comes first
pub earlier_either : (a b : Mark) → earlier a b ≡ earlier b a
earlier_either a b = go (precedes b a) refl
  where
    go : (t : Bool) → precedes b a ≡ t → earlier a b ≡ earlier b a
    go true p = earlier_second a b p ∙ sym (earlier_first b a (asymmetric b a p))
    go false p =
        earlier_first a b p ∙ elim (mark_discrete b a) as (λ _. a ≡ earlier b a) [
          | yes e ↦ sym e ∙ sym (earlier_first b a (ap (precedes a) e ∙ irreflexive a))
          | no h ↦ sym (earlier_second b a (total b a h p))
        ]
