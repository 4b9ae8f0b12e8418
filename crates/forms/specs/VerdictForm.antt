-- The verdicts of a closing as code reads them: 5 bytes a set, code u8 and key u32.
use Rattle.std.specs.Prelude.{ℕ, zero, suc, ◌+◌, ◌*◌, List, [], ◌∷◌, get_or, eqb, if◌then◌else◌}
use Rattle.words.specs.Words.{Bytes, word}
use Rattle.rules.specs.declared.answer.Verdict.{Verdict}
use Rattle.rules.specs.declared.answer.Verdict.TheVariants.{Commit, Lost, Unfit}

-- how long n verdicts are
abbrev pub verdicts_length : ℕ → ℕ
verdicts_length n = 5 * n

-- where the verdict of set i stands: behind those of the sets before it
abbrev pub verdict_place : ℕ → ℕ
verdict_place i = verdicts_length i

-- a verdict from its code and key
unfoldable pub verdict_of : ℕ → ℕ → Verdict
verdict_of code key = if eqb code 1 then Commit else if eqb code 2 then Lost key else Unfit key

-- the verdict whose 5 bytes start at a place
unfoldable pub verdict_in : Bytes → ℕ → Verdict
verdict_in b at = verdict_of (get_or b at 0) (word 4 b (at + 1))

-- n verdicts from a place on
unfoldable pub verdicts_in : ℕ → Bytes → ℕ → List Verdict
verdicts_in zero b at = []
verdicts_in (suc n) b at = verdict_in b at ∷ verdicts_in n b (at + 5)

-- verdict i of a list
unfoldable pub verdict_at : List Verdict → ℕ → Verdict
verdict_at vs i = get_or vs i Commit
