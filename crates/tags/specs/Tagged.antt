-- What the answer of `read_tag` says of the bytes.
use Rattle.std.specs.Prelude.{ℕ, ◌≡◌, true, false, Option, None, Some}
use Rattle.std.proofs.Common.{arith}
use Rattle.words.specs.Words.{Bytes}
use Rattle.rules.specs.Tag.{is_tag, key_in, key_of_tag}

-- NO KEY: it is no station's tag
pub tagged_bad : (t : Bytes) (r : Option ℕ) → r ≡ key_of_tag t → r ≡ None → is_tag t ≡ false
unfolding key_of_tag
tagged_bad t r e p = grind arith

-- A KEY: it is the tag of that station
pub tagged_key : (t : Bytes) (r : Option ℕ) (k : ℕ) → r ≡ key_of_tag t → r ≡ Some k → (is_tag t ≡ true) × (key_in t ≡ k)
unfolding key_of_tag
tagged_key t r k e p = grind arith
