-- A loop that tests one thing after another: what is left to test decides the whole test.
use Rattle.std.specs.Prelude.{◌≡◌, Bool, true, false}
use Rattle.std.proofs.Math.Path.{sym, ap}
use Rattle.std.proofs.Common.{◌∙◌}
use Rattle.rules.specs.Lists.{◌and◌}

module _ {whole rest : Bool} (t u : Bool) (p : whole ≡ rest) (q : rest ≡ t and u) where
  -- the next test fails, and so the whole does
  pub stops : t ≡ false → false ≡ whole
  unfolding ◌and◌
  stops e = sym (p ∙ q ∙ ap (λ x. x and u) e)

  -- the next test passes, and what is behind it is left
  pub goes : t ≡ true → whole ≡ u
  unfolding ◌and◌
  goes e = p ∙ q ∙ ap (λ x. x and u) e
