-- Little-endian words in lists of bytes, over the width n, counted in bytes; parts of a list, and bytes stored in one.
use Rattle.std.specs.Prelude.{ℕ, zero, suc, ◌+◌, ◌*◌, ◌/◌, ◌%◌, List, [], ◌∷◌, get_or, take, drop}
use Rattle.std.proofs.lemmas.List.Edits.{sets}

-- what a lent slice of bytes holds
abbrev pub Bytes : Type 0
Bytes = List ℕ

-- the n low bytes of x, the lowest first: widths 2, 4 and 8 are u16, u32 and u64
unfoldable pub le : ℕ → ℕ → Bytes
le zero x = []
le (suc n) x = x % 256 ∷ le n (x / 256)

-- the number that the n bytes from `at` on stand for
unfoldable pub word : ℕ → Bytes → ℕ → ℕ
word zero s at = 0
word (suc n) s at = get_or s at 0 + 256 * word n s (suc at)

-- the n bytes from `at` on
unfoldable pub part : Bytes → ℕ → ℕ → Bytes
part s at n = take n (drop at s)

-- the list with the bytes bs from `at` on, and all else as it was
unfoldable pub stored : Bytes → ℕ → Bytes → Bytes
stored l at bs = sets l at bs

-- opens all of these, for a proof by computation
unfoldable pub run_words : Unit {0}
unfolding le word part stored
run_words = tt
