-- What decides between two marks, by cases: lemmas for the proof of `Mark::precedes` and for the laws of precedence.
use Rattle.std.specs.Prelude.{◌≡◌, ltb}
use Rattle.std.proofs.Common.{eq-eqb, ne_eqb}
use Rattle.rules.specs.declared.mark.Mark.{Mark}
use Rattle.rules.specs.Numbers.{precedes}

pub by_cen : (a b : Mark) → (a.cen ≡ b.cen → ⊥) → precedes a b ≡ ltb a.cen b.cen
unfolding precedes
by_cen a b h = simp (ne_eqb a.cen b.cen h)

pub by_sen : (a b : Mark) → a.cen ≡ b.cen → (a.sen ≡ b.sen → ⊥) → precedes a b ≡ ltb b.sen a.sen
unfolding precedes
by_sen a b p h = simp (eq-eqb a.cen b.cen p, ne_eqb a.sen b.sen h)

pub by_csn : (a b : Mark) → a.cen ≡ b.cen → a.sen ≡ b.sen → precedes a b ≡ ltb a.csn b.csn
unfolding precedes
by_csn a b p q = simp (eq-eqb a.cen b.cen p, eq-eqb a.sen b.sen q)
