-- What a head tells of a register's length, and within which bounds.
use Rattle.std.specs.Prelude.{ℕ, ◌≤◌, ◌≡◌, refl, Bool, true, false, length, leb, if◌then◌else◌, None, Some}
use Rattle.std.proofs.Common.{sym, arith}
use Rattle.std.proofs.lemmas.Option.{same_Some, none-some}
use Rattle.words.specs.Words.{Bytes, word}
use Rattle.rules.specs.Lists.{◌and◌}
use Rattle.rules.specs.Register.{max_rows}
use Rattle.rules.specs.Refused.{register_room}
use Rattle.laws.specs.Says.{Says, no_of, is_le, ◌also◌}
use Rattle.registers.specs.RegisterForm.{register_head_length, place_of, length_from}

head_says : (b : Bytes) → Says (leb register_head_length (length b) and leb (word 4 b 4) max_rows) ((register_head_length ≤ length b) × (word 4 b 4 ≤ max_rows))
head_says b = is_le register_head_length (length b) also is_le (word 4 b 4) max_rows

pub length_none : (b : Bytes) → ((register_head_length ≤ length b) × (word 4 b 4 ≤ max_rows) → ⊥) → None ≡ length_from b
unfolding length_from
length_none b h = rw (sym (no_of (head_says b) h))

pub length_told : (b : Bytes) → register_head_length ≤ length b → word 4 b 4 ≤ max_rows → length_from b ≡ Some (place_of (word 4 b 4))
unfolding length_from
length_told b h n = rw ((head_says b).test (h, n))

-- a length that is told is by a whole head
pub head_told : (b : Bytes) (n : ℕ) → length_from b ≡ Some n → (register_head_length ≤ length b) × (word 4 b 4 ≤ max_rows) × (n ≡ place_of (word 4 b 4))
unfolding length_from
head_told b n e = go (leb register_head_length (length b) and leb (word 4 b 4) max_rows) refl e
  where
    go : (t : Bool) → (leb register_head_length (length b) and leb (word 4 b 4) max_rows) ≡ t → (if t then Some (place_of (word 4 b 4)) else None) ≡ Some n
        → (register_head_length ≤ length b) × (word 4 b 4 ≤ max_rows) × (n ≡ place_of (word 4 b 4))
    go true q p = let h = (head_says b).told q in (h.0, h.1, sym (same_Some _ _ p))
    go false q p = absurd (none-some n p)

-- no less than a head, and no more than a register's room
abbrev pub RegisterBounds : ℕ → Type 0
RegisterBounds n = (register_head_length ≤ n) × (n ≤ register_room)

-- A LENGTH THAT IS TOLD IS WITHIN BOUNDS
pub told_within : (b : Bytes) (n : ℕ) → length_from b ≡ Some n → RegisterBounds n
told_within b n e = let w = head_told b n e in (omega (arith, w), omega (arith, w))
