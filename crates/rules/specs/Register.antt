-- Document 01, 'Register': its contents, when they are sound, and its bytes.
use Rattle.std.specs.Prelude.{ℕ, zero, suc, ◌+◌, Bool, List, [], ◌∷◌, ◌++◌, map, length, leb, Option}
use Rattle.words.specs.Words.{Bytes, le, word}
use Rattle.rules.specs.declared.row.Row.{Row}
use Rattle.rules.specs.Lists.{◌and◌, all, flat, ascend_from}
use Rattle.rules.specs.Numbers.{run_numbers, fits, mark_of}
use Rattle.rules.specs.Forms.{run_forms, well_formed, read}

-- a snapshot, and the rows in the order of their keys
pub record Register : Type 0 where
  pub snapshot : ℕ
  pub rows : List Row

-- a row's key
abbrev pub key_of : Row → ℕ
key_of r = r.key

-- the most rows of a register
abbrev pub max_rows : ℕ
max_rows = 1024

-- a row of a register of snapshot s: its numbers fit, its cen is at most s and its sen at most its cen
unfoldable pub sound_row : ℕ → Row → Bool
sound_row s r = fits 4 r.key and fits 8 r.value and leb r.mark.cen s and leb r.mark.sen r.mark.cen and fits 8 r.mark.csn

-- at most 1,024 rows, their keys strictly ascending from 1 on
unfoldable pub sound_register : Register → Bool
sound_register g = fits 4 g.snapshot and leb (length g.rows) max_rows and ascend_from 0 (map key_of g.rows) and all (sound_row g.snapshot) g.rows

-- 28 bytes a row: key u32, value u64, cen u32, sen u32, csn u64
unfoldable pub row_bytes : Row → Bytes
row_bytes r = le 4 r.key ++ le 8 r.value ++ le 4 r.mark.cen ++ le 4 r.mark.sen ++ le 8 r.mark.csn

-- the head of 8 bytes, snapshot u32 and row count u32; then the rows
unfoldable pub register_bytes : Register → Bytes
register_bytes g = le 4 g.snapshot ++ le 4 (length g.rows) ++ flat row_bytes g.rows

-- the row whose bytes start at a place
unfoldable pub row_in : Bytes → ℕ → Row
row_in b at =
    record { key = word 4 b at; value = word 8 b (at + 4); mark = mark_of (word 4 b (at + 12)) (word 4 b (at + 16)) (word 8 b (at + 20)) }

-- n rows from a place on
unfoldable pub rows_in : ℕ → Bytes → ℕ → List Row
rows_in zero b at = []
rows_in (suc n) b at = row_in b at ∷ rows_in n b (at + 28)

-- the register that the bytes stand for, if they are one
unfoldable pub register_in : Bytes → Register
register_in b = record { snapshot = word 4 b 0; rows = rows_in (word 4 b 4) b 8 }

-- the bytes are a register
unfoldable pub is_register : Bytes → Bool
is_register = well_formed register_in sound_register register_bytes

-- the register that the bytes are, or none exactly if they are ill-formed
unfoldable pub read_register : Bytes → Option Register
read_register = read register_in sound_register register_bytes

-- opens all of these, for a proof by computation
unfoldable pub run_register : Unit {0}
unfolding run_numbers run_forms sound_row sound_register row_bytes register_bytes row_in rows_in register_in is_register read_register
run_register = tt
