-- A register written row by row: what a buffer holds after each step, told by the rows that were put and not by their places.
use Rattle.std.specs.Prelude.{ℕ, ◌+◌, ◌≤◌, ◌≡◌, List, ◌++◌, length}
use Rattle.words.specs.Words.{Bytes, stored}
use Rattle.rules.specs.declared.row.Row.{Row}
use Rattle.rules.specs.Lists.{flat}
use Rattle.rules.specs.Register.{max_rows, row_bytes}
use Rattle.registers.specs.declared.writing.Draft.{Draft}
use Rattle.registers.specs.declared.writing.Writing.{Writing}
use Rattle.registers.specs.RegisterForm.{register_head}
unfoldable pub use Rattle.registers.specs.RegisterForm.{register_length}

-- a buffer that held `before` holds the start of a draft's register: its head, of snapshot s, and the rows that were put
pub record RowsPut (s : ℕ) (rows : List Row) (before : Bytes) (d : Draft) (after : Bytes) : Type 0 where
  pub put : d.put ≡ length rows
  pub long : length after ≡ length before
  pub bytes : after ≡ stored before 0 (register_head s d.rows ++ flat row_bytes rows)

-- a buffer has room for a draft's register, and the draft for k rows more
pub record RowsFit (d : Draft) (k : ℕ) (out : Bytes) : Type 0 where
  pub few : d.rows ≤ max_rows
  pub room : register_length d.rows ≤ length out
  pub left : d.put + k ≤ d.rows

-- from one draft and buffer to the next these rows are put, behind whatever rows stood
pub record RowsAdded (rows : List Row) (d : Draft) (entry : Bytes) (e : Draft) (exit : Bytes) : Type 0 where
  pub same : e.rows ≡ d.rows
  pub put : e.put ≡ d.put + length rows
  pub long : length exit ≡ length entry
  pub behind : (s : ℕ) (stood : List Row) (before : Bytes) → RowsPut s stood before d entry → RowsPut s (stood ++ rows) before e exit

-- the same of a draft with its buffer, which stays the one that was lent
pub record RowsWritten (rows : List Row) (w x : Writing) : Type 0 where
  pub lent : x.out.ghost_name ≡ w.out.ghost_name
  pub added : RowsAdded rows w.draft w.out.now x.draft x.out.now
