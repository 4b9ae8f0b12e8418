-- The sheet of one offer, as a small buffer holds it.
use Rattle.std.specs.Prelude.{ℕ, ◌≤◌, ◌≡◌, [], ◌∷◌, true, length, take}
use Rattle.words.specs.Words.{Bytes, stored}
use Rattle.rules.specs.Sheet.{Sheet, sheet_bytes, sheet_in, is_sheet, offered_records}
use Rattle.rules.specs.Gathering.{Offer, a_set, a_notice, holding, with_offer, joined}
use Rattle.laws.specs.Notices.{notice_by}
use Rattle.laws.specs.NotRefused.{set_by}

-- the sheet of one set
unfoldable pub of_set : ℕ → ℕ → ℕ → ℕ → Bytes → Sheet
of_set epoch roster sen csn b = holding epoch roster (a_set (set_by csn sen (offered_records b)) ∷ [])

-- the sheet of one notice
unfoldable pub of_notice : ℕ → ℕ → ℕ → ℕ → Sheet
of_notice epoch roster master n = holding epoch roster (a_notice (notice_by master n) ∷ [])

-- a small buffer that held `before` holds the sheet at its start, in which it has room, and n is the sheet's length
pub record Small (s : Sheet) (before : Bytes) (n : ℕ) (after : Bytes) : Type 0 where
  pub bytes : after ≡ stored before 0 (sheet_bytes s)
  pub long : n ≡ length (sheet_bytes s)
  pub fits : n ≤ length before

-- the first n bytes are a sheet, and joining another with it is putting the offer in
pub record Joins (s : Sheet) (o : Offer) (one : Bytes) (n : ℕ) : Type 0 where
  pub long : n ≤ length one
  pub is : is_sheet (take n one) ≡ true
  pub gives : joined s (sheet_in (take n one)) ≡ with_offer s o
