-- What the test of Damm's table says at each of its entries.
use Rattle.std.specs.Prelude.{ℕ, ◌<◌, ◌≡◌, Bool, true}
use Rattle.rules.specs.Lists.{all, up_from}
use Rattle.rules.specs.Tag.{step}
use Rattle.rules.specs.TagTable.{rules_at, everywhere, tested}
use Rattle.laws.specs.Says.{is_lt, is_eq, ◌also◌, each_below, ◌so◌}

at_each : (f : ℕ → ℕ → ℕ → Bool) → everywhere f ≡ true → (c x y : ℕ) → c < 10 → x < 10 → y < 10 → f c x y ≡ true
at_each f e c x y hc hx hy =
    let a = (each_below (λ c. all (λ x. all (λ y. f c x y) (up_from 0 10)) (up_from 0 10)) 10).told e c hc in
    let b = (each_below (λ x. all (λ y. f c x y) (up_from 0 10)) 10).told a x hx in
    (each_below (λ y. f c x y) 10).told b y hy

-- the rule, as facts
pub record Rule (c x y : ℕ) : Type 0 where
  pub entry : step c x < 10
  pub diagonal : step c c ≡ 0
  pub row : step c x ≡ step c y → x ≡ y
  pub column : step x c ≡ step y c → x ≡ y
  pub exchange : step (step c x) y ≡ step (step c y) x → x ≡ y

-- THE RULE AT EACH ENTRY
pub rule : (c x y : ℕ) → c < 10 → x < 10 → y < 10 → Rule c x y
unfolding rules_at
rule c x y hc hx hy =
    let r =
    (is_lt (step c x) 10
    also is_eq (step c c) 0
    also ◌so◌ (is_eq (step c x) (step c y)) (is_eq x y)
    also ◌so◌ (is_eq (step x c) (step y c)) (is_eq x y)
    also ◌so◌ (is_eq (step (step c x) y) (step (step c y) x)) (is_eq x y)).told (at_each rules_at tested c x y hc hx hy) in
    record { entry = r.0; diagonal = r.1.0; row = r.1.1.0; column = r.1.1.1.0; exchange = r.1.1.1.1 }

-- a step from a digit by a digit leads to a digit
pub step_below : (c x : ℕ) → c < 10 → x < 10 → step c x < 10
step_below c x hc hx = (rule c x x hc hx hx).entry
