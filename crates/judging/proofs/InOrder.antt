-- The records of a sound set stand in the order of their keys.
use Prim.Native.Nat.{ℕ, ◌<◌}
use mathlib.Core.Path.{◌≡◌}
use mathlib.Core.Bool.{true}
use lib.ListN.{length}
use Rattle.rules.specs.Sheet.{WriteSet, record_key, sound_records}
use Rattle.laws.specs.Commits.{records_rising}
use Rattle.laws.specs.Places.{rising_at}
use Rattle.sheets.specs.SheetReadings.{record_at, no_record}

-- a later record has a larger key
pub larger_record : (w : WriteSet) → sound_records w.records ≡ true → (j l : ℕ) → j < l → l < length w.records → (record_at w j).key < (record_at w l).key
unfolding record_at
larger_record w s j l h k = rising_at record_key no_record (records_rising w.records s).0 j l h k
