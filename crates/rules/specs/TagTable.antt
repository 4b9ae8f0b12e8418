-- The rule of Damm's table, tested once over all of its entries, by computation. `laws` `TagRule` turns the test into the rule at each entry.
use Rattle.std.specs.Prelude.{ℕ, ◌≡◌, refl, Bool, true, not, ltb, eqb}
use Rattle.rules.specs.Lists.{◌and◌, ◌or◌, all, up_from}
use Rattle.rules.specs.Tag.{step, run_tag}

-- at an interim digit c and digits x and y: an entry is a digit; 0 stands in the diagonal; no row and no column has a digit twice; and x and
-- then y from c on never lead where y and then x lead, unless they are equal (the table is weakly totally anti-symmetric)
unfoldable pub rules_at : ℕ → ℕ → ℕ → Bool
rules_at c x y =
    ltb (step c x) 10
    and eqb (step c c) 0
    and (not (eqb (step c x) (step c y)) or eqb x y)
    and (not (eqb (step x c) (step y c)) or eqb x y)
    and (not (eqb (step (step c x) y) (step (step c y) x)) or eqb x y)

-- a test of three digits, at all of them
abbrev pub everywhere : (ℕ → ℕ → ℕ → Bool) → Bool
everywhere f = all (λ c. all (λ x. all (λ y. f c x y) (up_from 0 10)) (up_from 0 10)) (up_from 0 10)

-- THE TABLE PASSES
pub tested : everywhere rules_at ≡ true
unfolding run_tag rules_at
tested = refl
