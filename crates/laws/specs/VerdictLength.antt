-- How long the verdicts' bytes are.
use Rattle.std.specs.Prelude.{ℕ, ◌*◌, ◌≡◌, refl, List, [], ◌∷◌, length}
use Rattle.std.proofs.Common.{◌∙◌, ap, arith, length-append}
use Rattle.std.proofs.lemmas.List.{length-map}
use Rattle.words.specs.WordLaws.{le_length}
use Rattle.rules.specs.declared.answer.Verdict.{Verdict}
use Rattle.rules.specs.Lists.{flat}
use Rattle.rules.specs.Register.{Register}
use Rattle.rules.specs.Sheet.{Sheet}
use Rattle.rules.specs.Closing.{verdict, verdicts}
use Rattle.rules.specs.Answers.{verdict_key}
use Rattle.rules.specs.Refused.{verdict_bytes}

-- 5 bytes a verdict
pub verdicts_length_lem : (vs : List Verdict) → length (flat verdict_bytes vs) ≡ 5 * length vs
unfolding flat verdict_bytes
verdicts_length_lem [] = refl
verdicts_length_lem (v ∷ vs) = length-append (verdict_bytes v) (flat verdict_bytes vs) ∙ omega (arith, le_length 4 (verdict_key v), verdicts_length_lem vs)

-- so 5 bytes a set
pub verdicts_long : (g : Register) (s : Sheet) → length (flat verdict_bytes (verdicts g s)) ≡ 5 * length s.sets
unfolding verdicts
verdicts_long g s = verdicts_length_lem (verdicts g s) ∙ ap (λ (k : ℕ). 5 * k) (length-map s.sets (verdict g s))
