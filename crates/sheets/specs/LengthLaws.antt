-- What a sheet's head tells of the length of its contents, and within which bounds.
use Rattle.std.specs.Prelude.{ℕ, ◌<◌, ◌≤◌, ◌≡◌, length, get_or, None, Some}
use Rattle.std.proofs.Common.{sym, ◌∙◌, arith, le-leb}
use Rattle.std.proofs.Math.Decide.{dec_lt}
use Rattle.std.proofs.lemmas.Bool.{lt-leb}
use Rattle.std.proofs.lemmas.Option.{same_Some, none-some}
use Rattle.words.specs.Words.{Bytes}
use Rattle.rules.specs.Lists.{◌and◌}
use Rattle.rules.specs.Sheet.{max_sets}
use Rattle.rules.specs.Refused.{sheet_room}
use Rattle.sheets.specs.SheetReadings.{head_length, entry_place}
use Rattle.sheets.specs.SheetLength.{contents_end}

pub no_head : (b : Bytes) → length b < head_length → None ≡ contents_end b
unfolding contents_end ◌and◌
no_head b h = simp (lt-leb head_length (length b) h)

pub no_contents : (b : Bytes) → head_length ≤ length b → max_sets < get_or b 7 0 → None ≡ contents_end b
unfolding contents_end ◌and◌
no_contents b h k = simp (le-leb head_length (length b) h, lt-leb (get_or b 7 0) max_sets k)

pub head_tells : (b : Bytes) → head_length ≤ length b → get_or b 7 0 ≤ max_sets → Some (entry_place (get_or b 7 0)) ≡ contents_end b
unfolding contents_end ◌and◌
head_tells b h k = simp (le-leb head_length (length b) h, le-leb (get_or b 7 0) max_sets k)

-- what a length says of the head
pub head_told : (b : Bytes) (n : ℕ) → contents_end b ≡ Some n → (head_length ≤ length b) × (get_or b 7 0 ≤ max_sets) × (n ≡ entry_place (get_or b 7 0))
head_told b n e =
    elim (dec_lt (length b) head_length) [
      | yes k ↦ absurd (none-some n (no_head b k ∙ e))
      | no k ↦ elim (dec_lt max_sets (get_or b 7 0)) [
        | yes m ↦ absurd (none-some n (no_contents b (omega arith) m ∙ e))
        | no m ↦ (omega arith, omega arith, sym (same_Some _ _ (head_tells b (omega arith) (omega arith) ∙ e)))
      ]
    ]

-- no less than a head, and no more than a sheet's room
abbrev pub ContentsBounds : ℕ → Type 0
ContentsBounds n = (head_length ≤ n) × (n ≤ sheet_room)

-- CONTENTS THAT ARE TOLD END WITHIN BOUNDS
pub told_within : (b : Bytes) (n : ℕ) → contents_end b ≡ Some n → ContentsBounds n
told_within b n e = let w = head_told b n e in (omega (arith, w), omega (arith, w))
