-- A row of a register stands in its bytes: 28 of them, at the place of a row.
use Rattle.std.specs.Prelude.{ℕ, suc, ◌+◌, ◌*◌, ◌≡◌, length, take, drop}
use Rattle.std.proofs.Common.{sym, ◌∙◌, ap, arith, drop-drop}
use mathlib.Core.List.{List, ◌++◌, Memᴰ}
use Rattle.std.proofs.Math.Seq.{take-append_seam, drop-append-add}
use Rattle.words.specs.Words.{Bytes, part}
use Rattle.rules.specs.declared.row.Row.{Row}
use Rattle.rules.specs.Lists.{flat}
use Rattle.rules.specs.Register.{Register, row_bytes, register_bytes}
use Rattle.laws.specs.RegisterLaws.{row_length, head_tail}

-- the bytes have the row, at a place behind the head of 8 bytes and some rows of 28
pub record HasRow (b : Bytes) (row : Row) : Type 0 where
  pub number : ℕ
  pub bytes : part b (8 + 28 * number) 28 ≡ row_bytes row

-- the bytes of a row, and those behind it
row_first : (x : Row) (rest : Bytes) → take 28 (row_bytes x ++ rest) ≡ row_bytes x
row_first x rest = ap (λ (n : ℕ). take n (row_bytes x ++ rest)) (sym (row_length x)) ∙ take-append_seam (row_bytes x) rest

row_passed : (x : Row) (rest : Bytes) (i : ℕ) → drop (28 * suc i) (row_bytes x ++ rest) ≡ drop (28 * i) rest
row_passed x rest i =
    let n : 28 * suc i ≡ length (row_bytes x) + 28 * i = omega (arith, row_length x) in
    ap (λ (n : ℕ). drop n (row_bytes x ++ rest)) n ∙ drop-append-add (row_bytes x) rest (28 * i)

rows_have : {row : Row} {rs : List Row} → Memᴰ row rs → (i : ℕ) × (part (flat row_bytes rs) (28 * i) 28 ≡ row_bytes row)
unfolding flat part
rows_have (Memᴰ.head {x} {xs} e) = (0, row_first x (flat row_bytes xs) ∙ ap row_bytes (sym e))
rows_have (Memᴰ.tail {x} {xs} m) = let r = rows_have m in (suc r.0, ap (take 28) (row_passed x (flat row_bytes xs) r.0) ∙ r.1)

-- A REGISTER'S BYTES HAVE EACH OF ITS ROWS
pub has_row : (g : Register) {row : Row} → Memᴰ row g.rows → HasRow (register_bytes g) row
unfolding register_bytes part
has_row g m =
    let r = rows_have m in
    record {
      number = r.0;
      bytes = ap (take 28)
          (sym (drop-drop (28 * r.0) 8 (register_bytes g)) ∙ ap (drop (28 * r.0)) (head_tail g.snapshot (length g.rows) (flat row_bytes g.rows)))
          ∙ r.1;
    }
