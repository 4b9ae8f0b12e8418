-- How a register lies in bytes: where its rows stand, what of a row is tested, the length that a head tells, and the head. Only this crate uses places.
use Rattle.std.specs.Prelude.{ℕ, zero, suc, ◌+◌, ◌*◌, Bool, ◌++◌, length, leb, ltb, if◌then◌else◌, Option, None, Some}
use Rattle.words.specs.Words.{Bytes, le, word}
use Rattle.rules.specs.Lists.{◌and◌}
use Rattle.rules.specs.Register.{max_rows}

-- how long the head is: the snapshot and the row count
abbrev pub register_head_length : ℕ
register_head_length = 8

-- where row i starts
abbrev pub place_of : ℕ → ℕ
place_of i = register_head_length + 28 * i

-- how long a register of n rows is, for whoever knows no place
unfoldable pub register_length : ℕ → ℕ
register_length n = place_of n

-- the key of the row before row i, and 0 before the first, so that every key is 1 at least
abbrev pub key_before : Bytes → ℕ → ℕ
key_before b zero = 0
key_before b (suc i) = word 4 b (place_of i)

-- what is tested of row i of a register of snapshot s, behind a row of the key prev
unfoldable pub in_order : Bytes → ℕ → ℕ → ℕ → Bool
in_order b i prev s =
    ltb prev (word 4 b (place_of i))
    and leb (word 4 b (place_of i + 12)) s
    and leb (word 4 b (place_of i + 16)) (word 4 b (place_of i + 12))

-- how long the register is that starts with these bytes, if one does
unfoldable pub length_from : Bytes → Option ℕ
length_from b = if leb register_head_length (length b) and leb (word 4 b 4) max_rows then Some (place_of (word 4 b 4)) else None

-- the head's 8 bytes
unfoldable pub register_head : ℕ → ℕ → Bytes
register_head s n = le 4 s ++ le 4 n
