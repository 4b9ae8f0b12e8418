-- What the decision on a typed record says of the outcome.
use Rattle.std.specs.Prelude.{ℕ, ◌<◌, ◌≡◌, true, length, Result, Ok, Err}
use Rattle.words.specs.Words.{Bytes}
use Rattle.rules.specs.declared.desk.OpenSet.{OpenSet}
use Rattle.rules.specs.declared.answer.Refusal.{Refusal}
use Rattle.rules.specs.Answers.{refusal_number}
use Rattle.rules.specs.OpenSet.{is_open_set, open_records, open_set_of, put_record}
use Rattle.rules.specs.Refused.{refused, done, record_of, enter_outcome}

-- a refusal is the outcome's; a key is that of the record which the open set, being one with room, gets
abbrev pub Allows : OpenSet → ℕ → Bytes → ℕ → Result ℕ Refusal → Type 0
Allows o kind tag value (Err x) = enter_outcome o kind tag value ≡ refused (refusal_number x)
Allows o kind tag value (Ok k) =
    (is_open_set o ≡ true)
    × (length (open_records o) < 8)
    × (enter_outcome o kind tag value ≡ done (open_set_of (put_record (record_of kind k value) (open_records o))))
