-- How long sheets are, and how many sets and records an examined one has: for the crates above the forms.
use Rattle.std.specs.Prelude.{ℕ, zero, suc, ◌+◌, ◌*◌, ◌<◌, ◌≤◌, ◌≡◌, refl, true, List, [], ◌∷◌, ◌++◌, length, get_or, take}
use Rattle.std.proofs.Common.{sym, ◌∙◌, ap, arith, length-append}
use Rattle.words.specs.Words.{Bytes, le}
use Rattle.rules.specs.Lists.{all, flat}
use Rattle.rules.specs.Sheet.{WriteSet, Sheet, max_sets, max_records, sound_set, records_bytes, contents_from, bodies, head_bytes, sheet_bytes, sheet_in, is_sheet}
use Rattle.rules.specs.Gathering.{sound_of, empty_sheet}
use Rattle.laws.specs.Tests.{left, right}
use Rattle.laws.specs.Says.{each}
use Rattle.laws.specs.SheetLaws.{SetSound, sound_set→, SheetSound, sound_sheet→, sheet_sound, sheet_exact, contents_length, records_length}
use Rattle.sheets.specs.SheetReadings.{no_set, set_at, total, master_count, head_length, record_length, sheet_length, max_total}

pub bodies_length : (ws : List WriteSet) → length (bodies ws) ≡ record_length * total ws
unfolding bodies flat total
bodies_length [] = refl
bodies_length (w ∷ ws) = length-append (records_bytes w.records) (bodies ws) ∙ omega (arith, records_length w.records, bodies_length ws)

head_length_lem : (s : Sheet) → length s.notices ≡ master_count → length (head_bytes s) ≡ head_length
unfolding head_bytes le
head_length_lem s h = omega (arith, h)

-- HOW LONG A SHEET IS follows from how many sets and records it has
pub sheet_length_lem : (s : Sheet) → length s.notices ≡ master_count → length (sheet_bytes s) ≡ sheet_length (length s.sets) (total s.sets)
unfolding sheet_bytes
sheet_length_lem s h =
    length-append (head_bytes s ++ contents_from 0 s.sets) (bodies s.sets)
    ∙ omega (arith, length-append (head_bytes s) (contents_from 0 s.sets), head_length_lem s h, contents_length 0 s.sets, bodies_length s.sets)

-- a sheet with no set and no notice is its head
pub empty_length : (e r : ℕ) → length (sheet_bytes (empty_sheet e r)) ≡ head_length
empty_length e r = sheet_length_lem (empty_sheet e r) (unfold empty_sheet sound_of in refl) ∙ (unfold empty_sheet sound_of total in refl)

-- what an examined sheet's bytes are
pub record Formed (b : Bytes) : Type 0 where
  pub sound : SheetSound (sheet_in b)
  pub exact : sheet_bytes (sheet_in b) ≡ b
  pub long : length b ≡ sheet_length (length (sheet_in b).sets) (total (sheet_in b).sets)

pub formed : (b : Bytes) → is_sheet b ≡ true → Formed b
formed b e =
    let k = sound_sheet→ (sheet_in b) (sheet_sound b e) in
    record { sound = k; exact = sheet_exact b e; long = sym (ap length (sheet_exact b e)) ∙ sheet_length_lem (sheet_in b) k.sixteen }

-- the records of the first sets and of the next one are among all
pub total_mono : (ws : List WriteSet) (i : ℕ) → i < length ws → total (take i ws) + length (get_or ws i no_set).records ≤ total ws
unfolding total
total_mono [] i h = absurd (omega arith)
total_mono (w ∷ ws) zero h = omega arith
total_mono (w ∷ ws) (suc i) h = omega (arith, total_mono ws i (omega arith))

-- eight a set, at most
pub total_few : (e r : ℕ) (ws : List WriteSet) → all (sound_set e r) ws ≡ true → total ws ≤ max_records * length ws
unfolding total all
total_few e r [] s = omega arith
total_few e r (w ∷ ws) s = let k = sound_set→ e r w (left _ _ s) in omega (arith, k.few, total_few e r ws (right _ _ s))

pub few_sets : (b : Bytes) → is_sheet b ≡ true → length (sheet_in b).sets ≤ max_sets
few_sets b e = (formed b e).sound.few

set_sound : (b : Bytes) (i : ℕ) → is_sheet b ≡ true → i < length (sheet_in b).sets → SetSound (sheet_in b).epoch (set_at (sheet_in b) i)
unfolding set_at
set_sound b i e h = sound_set→ _ _ _ ((each (sound_set (sheet_in b).epoch (sheet_in b).roster) no_set (sheet_in b).sets).told (formed b e).sound.sets i h)

pub few_records : (b : Bytes) (i : ℕ) → is_sheet b ≡ true → i < length (sheet_in b).sets → (total (take i (sheet_in b).sets) ≤ max_total) × (length (set_at (sheet_in b) i).records ≤ max_records)
few_records b i e h =
    let f = formed b e in (
      omega (arith, total_mono (sheet_in b).sets i h, total_few _ _ (sheet_in b).sets f.sound.sets, few_sets b e),
      (set_sound b i e h).few,
    )
