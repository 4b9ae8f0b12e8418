-- A sheet comes back from its bytes, and the bytes from what was read: one encoding. The same of an offered set's records.
use Rattle.std.specs.Prelude.{ℕ, zero, suc, ◌+◌, ◌*◌, ◌^◌, ◌<◌, ◌≤◌, ◌≡◌, refl, Bool, true, false, List, [], ◌∷◌, ◌++◌, length, get_or, take, drop, eqb, None, Some}
use Rattle.std.proofs.Common.{sym, ◌∙◌, ap, ap₂, append_assoc, append-nil, add-zero, arith, leb-true, eqb-true, length-append, take_at, drop_at, drop-drop, get_or-drop}
use Rattle.words.specs.Words.{Bytes, le, word, part}
use Rattle.words.specs.WordLaws.{word_drop, word_le}
use Rattle.rules.specs.declared.row.Record.{Record}
use Rattle.rules.specs.Lists.{all, flat, same}
use Rattle.rules.specs.Sheet.{WriteSet, Sheet, max_sets, max_records, sound_value, sound_record, sound_records, sound_set, sound_sheet, record_bytes, records_bytes, contents_from, bodies, state_byte, head_bytes, sheet_bytes, record_in, records_in, sets_in, sheet_in, is_sheet, read_sheet, offered_records, are_records, read_records}
use Rattle.rules.specs.Forms.{well_formed, read}
use Rattle.laws.specs.Tests.{left, right, both}
use Rattle.laws.specs.FormLaws.{fits→, same→, same_refl, read_encoded, read_exact}

-- ---- records

-- a word at a place of a list that goes on there as another does
word_at : (n k at : ℕ) (b : Bytes) {l : Bytes} → drop at b ≡ l → word n b (at + k) ≡ word n l k
word_at n k at b e = sym (word_drop n at b k) ∙ ap (λ (x : Bytes). word n x k) e

record_decoded : (r : Record) (rest : Bytes) → sound_record r ≡ true → record_in (record_bytes r ++ rest) 0 ≡ r
unfolding record_in record_bytes sound_record sound_value word le
record_decoded r rest e =
    let e₁ = right _ _ e in
    λ i. record {
      kind = r.kind;
      key = word_le 4 r.key (fits→ 4 _ (left _ _ e₁)) i;
      value = word_le 8 r.value (fits→ 8 _ (left _ _ (right _ _ e₁))) i;
    }

record_at_lem : (at : ℕ) (b : Bytes) {l : Bytes} → drop at b ≡ l → record_in b at ≡ record_in l 0
unfolding record_in
record_at_lem at b e =
    λ i. record {
      kind = (ap (λ (k : ℕ). get_or b k 0) (sym (add-zero at)) ∙ sym (get_or-drop at b 0 0) ∙ ap (λ (x : Bytes). get_or x 0 0) e) i;
      key = word_at 4 4 at b e i;
      value = word_at 8 8 at b e i;
    }

record_tail : (r : Record) (rest : Bytes) → drop 16 (record_bytes r ++ rest) ≡ rest
unfolding record_bytes le
record_tail r rest = refl

pub record_length_lem : (r : Record) → length (record_bytes r) ≡ 16
unfolding record_bytes le
record_length_lem r = refl

pub records_length : (rs : List Record) → length (records_bytes rs) ≡ 16 * length rs
unfolding records_bytes flat
records_length [] = refl
records_length (r ∷ rs) = length-append (record_bytes r) (records_bytes rs) ∙ omega (arith, record_length_lem r, records_length rs)

-- as many records are read as are asked for
pub records_count : (n : ℕ) (b : Bytes) (at : ℕ) → length (records_in n b at) ≡ n
unfolding records_in
records_count zero b at = refl
records_count (suc n) b at = ap suc (records_count n b (at + 16))

-- the records that stand at a place are read there
pub records_at : (rs : List Record) (b : Bytes) (at : ℕ) (rest : Bytes) → all sound_record rs ≡ true → drop at b ≡ records_bytes rs ++ rest → records_in (length rs) b at ≡ rs
unfolding records_in records_bytes flat all
records_at [] b at rest e d = refl
records_at (r ∷ rs) b at rest e d =
    let more = records_bytes rs ++ rest in
    let d₁ : drop at b ≡ record_bytes r ++ more = d ∙ append_assoc (record_bytes r) (records_bytes rs) rest in
    let d₂ : drop (at + 16) b ≡ more = sym (drop-drop 16 at b) ∙ ap (drop 16) d₁ ∙ record_tail r more in
    ap₂ ◌∷◌
    (record_at_lem at b d₁ ∙ record_decoded r more (left _ _ e))
    (records_at rs b (at + 16) rest (right _ _ e) d₂)

-- ---- sets

-- what a sound set's numbers are
pub record SetSound (e : ℕ) (w : WriteSet) : Type 0 where
  pub csn : w.csn < 256 ^ 8
  pub sen : w.sen ≤ e
  pub some_records : 1 ≤ length w.records
  pub few : length w.records ≤ max_records
  pub records : all sound_record w.records ≡ true

pub sound_set→ : (e r : ℕ) (w : WriteSet) → sound_set e r w ≡ true → SetSound e w
unfolding sound_set sound_records
sound_set→ e r w h =
    let rs = right _ _ (right _ _ (right _ _ h)) in
    record {
      csn = fits→ 8 _ (left _ _ h);
      sen = leb-true _ _ (left _ _ (right _ _ h));
      some_records = leb-true _ _ (left _ _ rs);
      few = leb-true _ _ (left _ _ (right _ _ rs));
      records = right _ _ (right _ _ (right _ _ rs));
    }

-- as many sets are read as are asked for
pub sets_count : (n : ℕ) (b : Bytes) (c at : ℕ) → length (sets_in n b c at) ≡ n
unfolding sets_in
sets_count zero b c at = refl
sets_count (suc n) b c at = ap suc (sets_count n b (c + 16) (at + 16 * word 2 b (c + 14)))

pub contents_length : (first : ℕ) (ws : List WriteSet) → length (contents_from first ws) ≡ 16 * length ws
unfolding contents_from le
contents_length first [] = refl
contents_length first (w ∷ ws) = omega (arith, contents_length (first + length w.records) ws)

-- an entry's numbers, read from its bytes
entry_decoded : (w : WriteSet) (first : ℕ) (ws : List WriteSet) (rest : Bytes) (e : ℕ) → e < 256 ^ 4 → SetSound e w
    → let l = contents_from first (w ∷ ws) ++ rest in (word 8 l 0 ≡ w.csn) × (word 4 l 8 ≡ w.sen) × (word 2 l 14 ≡ length w.records)
unfolding contents_from word le
entry_decoded w first ws rest e h k =
    (word_le 8 w.csn k.csn, word_le 4 w.sen (omega arith), word_le 2 (length w.records) (omega arith))

entry_tail : (w : WriteSet) (first : ℕ) (ws : List WriteSet) (rest : Bytes) → drop 16 (contents_from first (w ∷ ws) ++ rest) ≡ contents_from (first + length w.records) ws ++ rest
unfolding contents_from le
entry_tail w first ws rest = refl

-- the sets whose contents and bodies stand at two places are read there
sets_at : (e r first : ℕ) (ws : List WriteSet) (b : Bytes) (c at : ℕ) (rest : Bytes) → e < 256 ^ 4 → all (sound_set e r) ws ≡ true
    → drop c b ≡ contents_from first ws ++ rest → drop at b ≡ bodies ws → sets_in (length ws) b c at ≡ ws
unfolding sets_in bodies flat all
sets_at e r first [] b c at rest h s p q = refl
sets_at e r first (w ∷ ws) b c at rest h s p q =
    let k = sound_set→ e r w (left _ _ s) in
    let d = entry_decoded w first ws rest e h k in
    let csn : word 8 b c ≡ w.csn = ap (word 8 b) (sym (add-zero c)) ∙ word_at 8 0 c b p ∙ d.0 in
    let sen : word 4 b (c + 8) ≡ w.sen = word_at 4 8 c b p ∙ d.1 in
    let n : word 2 b (c + 14) ≡ length w.records = word_at 2 14 c b p ∙ d.2 in
    let rs : records_in (word 2 b (c + 14)) b at ≡ w.records =
    ap (λ (m : ℕ). records_in m b at) n ∙ records_at w.records b at (bodies ws) k.records q in
    let p' : drop (c + 16) b ≡ contents_from (first + length w.records) ws ++ rest = sym (drop-drop 16 c b) ∙ ap (drop 16) p ∙ entry_tail w first ws rest in
    let q' : drop (at + 16 * word 2 b (c + 14)) b ≡ bodies ws =
    sym (drop-drop (16 * word 2 b (c + 14)) at b) ∙ ap (drop (16 * word 2 b (c + 14))) q
    ∙ drop_at (records_bytes w.records) (bodies ws) _ (records_length w.records ∙ ap (λ (m : ℕ). 16 * m) (sym n)) in
    ap₂ ◌∷◌
    (λ i. record { csn = csn i; sen = sen i; records = rs i })
    (sets_at e r (first + length w.records) ws b (c + 16) (at + 16 * word 2 b (c + 14)) rest h (right _ _ s) p' q')

-- ---- the sheet

-- what a sound sheet is, part by part
pub record SheetSound (s : Sheet) : Type 0 where
  pub epoch_some : 1 ≤ s.epoch
  pub epoch : s.epoch < 256 ^ 4
  pub roster_some : 1 ≤ s.roster
  pub roster : s.roster < 256 ^ 2
  pub sixteen : length s.notices ≡ 16
  pub few : length s.sets ≤ max_sets
  pub sets : all (sound_set s.epoch s.roster) s.sets ≡ true

pub sound_sheet→ : (s : Sheet) → sound_sheet s ≡ true → SheetSound s
unfolding sound_sheet
sound_sheet→ s e =
    let e₁ = right _ _ e in
    let e₂ = right _ _ e₁ in
    let e₃ = right _ _ e₂ in
    let e₄ = right _ _ e₃ in
    let e₆ = right _ _ (right _ _ e₄) in
    record {
      epoch_some = leb-true _ _ (left _ _ e);
      epoch = fits→ 4 _ (left _ _ e₁);
      roster_some = leb-true _ _ (left _ _ e₂);
      roster = fits→ 2 _ (left _ _ e₃);
      sixteen = eqb-true _ _ (left _ _ e₄);
      few = leb-true _ _ (left _ _ e₆);
      sets = left _ _ (right _ _ (right _ _ e₆));
    }

state_decoded : (t : Bool) → eqb (state_byte t) 1 ≡ t
unfolding state_byte
state_decoded true = refl
state_decoded false = refl

pub sheet_decoded : (s : Sheet) → sound_sheet s ≡ true → sheet_in (sheet_bytes s) ≡ s
unfolding sheet_in sheet_bytes head_bytes word le part
sheet_decoded s e =
    let k = sound_sheet→ s e in
    let n = length s.sets in
    let c = contents_from 0 s.sets in
    let b = bodies s.sets in
    let all_after = s.notices ++ c ++ b in
    let a : all_after ≡ s.notices ++ (c ++ b) = append_assoc s.notices c b in
    let after : drop 24 (sheet_bytes s) ≡ c ++ b = ap (drop 16) a ∙ drop_at s.notices (c ++ b) 16 k.sixteen in
    let bodies-at : drop (24 + 16 * n) (sheet_bytes s) ≡ b =
    sym (drop-drop (16 * n) 24 (sheet_bytes s)) ∙ ap (drop (16 * n)) after ∙ drop_at c b (16 * n) (contents_length 0 s.sets) in
    λ i. record {
      epoch = word_le 4 s.epoch k.epoch i;
      roster = word_le 2 s.roster k.roster i;
      spoiled = state_decoded s.spoiled i;
      notices = (ap (take 16) a ∙ take_at s.notices (c ++ b) 16 k.sixteen) i;
      sets = sets_at s.epoch s.roster 0 s.sets (sheet_bytes s) 24 (24 + 16 * n) b k.epoch k.sets after bodies-at i;
    }

-- A SOUND SHEET COMES BACK FROM ITS BYTES
pub read_written : (s : Sheet) → sound_sheet s ≡ true → read_sheet (sheet_bytes s) ≡ Some s
unfolding read_sheet
read_written s e = read_encoded sheet_in sound_sheet sheet_bytes s (sheet_decoded s e) e

-- what the test of a sheet says
pub sheet_is : (s : Sheet) → sound_sheet s ≡ true → is_sheet (sheet_bytes s) ≡ true
unfolding is_sheet well_formed
sheet_is s e =
    let d = sheet_decoded s e in
    both (ap sound_sheet d ∙ e) (ap (λ (x : Sheet). same (sheet_bytes x) (sheet_bytes s)) d ∙ same_refl (sheet_bytes s))

-- what the test says: the contents are sound, and the bytes are theirs
pub sheet_sound : (b : Bytes) → is_sheet b ≡ true → sound_sheet (sheet_in b) ≡ true
unfolding is_sheet well_formed
sheet_sound b e = left _ _ e

pub sheet_exact : (b : Bytes) → is_sheet b ≡ true → sheet_bytes (sheet_in b) ≡ b
unfolding is_sheet well_formed
sheet_exact b e = same→ _ _ (right _ _ e)

pub sheet_read : (b : Bytes) → is_sheet b ≡ true → read_sheet b ≡ Some (sheet_in b)
unfolding is_sheet read_sheet read
sheet_read b e = simp e

pub sheet_unread : (b : Bytes) → is_sheet b ≡ false → read_sheet b ≡ None
unfolding is_sheet read_sheet read
sheet_unread b e = simp e

pub records_read : (b : Bytes) → are_records b ≡ true → read_records b ≡ Some (offered_records b)
unfolding are_records read_records read
records_read b e = simp e

pub records_unread : (b : Bytes) → are_records b ≡ false → read_records b ≡ None
unfolding are_records read_records read
records_unread b e = simp e

-- WHAT IS READ IS SOUND, AND IS WRITTEN AS THE BYTES THAT WERE READ
pub written_read : (b : Bytes) (s : Sheet) → read_sheet b ≡ Some s → (b ≡ sheet_bytes s) × (sound_sheet s ≡ true)
unfolding read_sheet
written_read b s e = read_exact sheet_in sound_sheet sheet_bytes b s e

-- the same of the records that an offered set comes with
pub records_written : (rs : List Record) → sound_records rs ≡ true → read_records (records_bytes rs) ≡ Some rs
unfolding read_records sound_records offered_records
records_written rs e =
    read_encoded offered_records sound_records records_bytes rs
    (ap (λ (n : ℕ). records_in n (records_bytes rs) 0) (omega (arith, records_length rs))
    ∙ records_at rs (records_bytes rs) 0 [] (right _ _ (right _ _ (right _ _ e))) (sym (append-nil (records_bytes rs))))
    e

pub written_records : (b : Bytes) (rs : List Record) → read_records b ≡ Some rs → (b ≡ records_bytes rs) × (sound_records rs ≡ true)
unfolding read_records
written_records b rs e = read_exact offered_records sound_records records_bytes b rs e

-- so two byte lists that are the same sheet are equal
pub one_encoding : (a b : Bytes) (s : Sheet) → read_sheet a ≡ Some s → read_sheet b ≡ Some s → a ≡ b
one_encoding a b s p q = (written_read a s p).0 ∙ sym (written_read b s q).0
