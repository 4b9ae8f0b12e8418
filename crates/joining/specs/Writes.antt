-- What a joined sheet needs to be written into a lent buffer, and what a written sheet leaves there.
use Rattle.std.specs.Prelude.{ℕ, ◌≤◌, ◌≡◌, length}
use Rattle.words.specs.Words.{Bytes}
use Rattle.rules.specs.Sheet.{Sheet, max_sets, sheet_bytes}
use Rattle.rules.specs.Refused.{sheet_room}
use Rattle.rules.specs.Promises.{over}
use Rattle.laws.specs.Joining.{together}

-- the distinct sets of two sheets are not too many for a sheet, and a buffer has room for any sheet
pub record Room (a b : Sheet) (out : Bytes) : Type 0 where
  pub few : length (together a b) ≤ max_sets
  pub room : sheet_room ≤ length out

-- a lent buffer has the sheet over what it held, and n is the sheet's length
pub record Written (s : Sheet) (before : Bytes) (n : ℕ) (after : Bytes) : Type 0 where
  pub bytes : after ≡ over before (sheet_bytes s)
  pub long : n ≡ length (sheet_bytes s)
