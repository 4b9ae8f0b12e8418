-- The sets of an examined sheet, by their numbers.
use Rattle.std.specs.Prelude.{ℕ, ◌<◌, ◌≡◌, true, length}
use mathlib.Core.List.{Memᴰ}
use Rattle.words.specs.Words.{Bytes}
use Rattle.rules.specs.declared.row.Record.{Record}
use Rattle.rules.specs.Sheet.{WriteSet, Sheet, sound_records, is_sheet, sheet_in}
use Rattle.laws.specs.Commits.{set_records}
use Rattle.sheets.specs.SheetReadings.{set_at, no_set, record_at, no_record}
use Rattle.laws.specs.SheetLaws.{sheet_sound}
use Rattle.laws.specs.Places.{at_mem, mem_at}

pub set_in_lem : (s : Sheet) (i : ℕ) → i < length s.sets → Memᴰ (set_at s i) s.sets
unfolding set_at
set_in_lem s i h = at_mem no_set s.sets i h

pub set_number : (s : Sheet) {w : WriteSet} → Memᴰ w s.sets → (i : ℕ) × (i < length s.sets) × (set_at s i ≡ w)
unfolding set_at
set_number s m = mem_at no_set m

pub record_in_lem : (w : WriteSet) (j : ℕ) → j < length w.records → Memᴰ (record_at w j) w.records
unfolding record_at
record_in_lem w j h = at_mem no_record w.records j h

pub record_number : (w : WriteSet) {r : Record} → Memᴰ r w.records → (j : ℕ) × (j < length w.records) × (record_at w j ≡ r)
unfolding record_at
record_number w m = mem_at no_record m

-- the records of a set are sound
pub records_sound : (b : Bytes) (i : ℕ) → is_sheet b ≡ true → i < length (sheet_in b).sets → sound_records (set_at (sheet_in b) i).records ≡ true
records_sound b i e h = set_records (sheet_in b) (set_at (sheet_in b) i) (sheet_sound b e) (set_in_lem (sheet_in b) i h)
