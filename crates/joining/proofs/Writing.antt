-- What one turn of a writing loop leaves to be written, and what stands when all is written.
use Rattle.std.specs.Prelude.{ℕ, suc, ◌+◌, ◌-◌, ◌*◌, ◌/◌, ◌<◌, ◌≤◌, ◌≡◌, refl, true, false, List, [], ◌∷◌, ◌++◌, map, length}
use Rattle.std.proofs.Common.{sym, ◌∙◌, ap, ⊎_elim, arith, add-one, length-append}
use mathlib.Core.List.{Memᴰ}
use mathlib.Core.List.Memᴰ
use Rattle.words.specs.Words.{Bytes, stored}
use Rattle.words.specs.WordLaws.{le_length, nothing_stored, then_stored, length_stored}
use Rattle.rules.specs.declared.row.Record.{Record}
use Rattle.rules.specs.Lists.{flat, up_from}
use Rattle.rules.specs.Sheet.{WriteSet, Sheet, max_records, masters, records_bytes, offered_records, contents_from, bodies, sheet_bytes, sound_set}
use Rattle.rules.specs.Gathering.{distinct, no_notices, sound_of, spoiled_sheet}
use Rattle.laws.specs.ListLaws.{all→}
use Rattle.laws.specs.SheetLaws.{records_length, records_count, sound_set→, sound_sheet→, sheet_sound}
use Rattle.laws.specs.Distinct.{distinct→}
use Rattle.laws.specs.Joining.{notice_together, together, join_held}
use Rattle.sheets.specs.declared.sheet.Sheet as examined
use Rattle.sheets.specs.SheetReadings.{total, master_count, notices_place, head_length, contents_place, entry_place, entry_length, bodies_place, record_place, sheet_length, entry_bytes, start_bytes}
use Rattle.sheets.specs.SheetSizes.{sheet_length_lem}
use Rattle.sheets.specs.SheetWritten.{sheet_stored, sheet_over}
use Rattle.sheets.specs.Views.{sheet_of}
use Rattle.joining.specs.Writes.{Room, Written}

-- ---- a buffer that is being filled

-- what is left, stored from a place on, makes of a buffer what storing all of it would have made of it before
pub record Filling (before now : Bytes) (at place : ℕ) (all rest : Bytes) : Type 0 where
  pub long : length now ≡ length before
  pub whole : stored now place rest ≡ stored before at all

pub filling : (before : Bytes) (at : ℕ) (all : Bytes) → Filling before before at at all all
filling before at all = record { long = refl; whole = refl }

pub fill : {before now after : Bytes} {at place : ℕ} {all rest : Bytes} (next : ℕ) (xs more : Bytes) → Filling before now at place all rest → rest ≡ xs ++ more
    → after ≡ stored now place xs → next ≡ place + length xs → Filling before after at next all more
fill {before} {now} {after} {at} {place} next xs more k e s p = record {
  long = ap length s ∙ length_stored now place xs ∙ k.long;
  whole = then_stored now place next xs more s refl p ∙ ap (stored now place) (sym e) ∙ k.whole;
}

pub filled : {before now : Bytes} {at place : ℕ} {all rest : Bytes} → Filling before now at place all rest → rest ≡ [] → now ≡ stored before at all
filled {before} {now} {at} {place} k e = nothing_stored now place ∙ ap (stored now place) (sym e) ∙ k.whole

-- ---- what is left after one turn

pub notices_turn : (f : ℕ → ℕ) (m : ℕ) → m < master_count → map f (up_from m (master_count - m)) ≡ (f m ∷ []) ++ map f (up_from (m + 1) (master_count - (m + 1)))
unfolding up_from
notices_turn f m h =
    let e : master_count - m ≡ suc (master_count - (m + 1)) = omega arith in
    rw (e, add-one m)

-- an entry more: of the set that was the first of those left, by its numbers
pub entry_more : {before now after all : Bytes} {left ws : List WriteSet} {w : WriteSet} (k i first csn sen count : ℕ)
    → Filling before now contents_place (entry_place k) all (contents_from first left) → left ≡ w ∷ ws → i ≡ k + 1 → csn ≡ w.csn → sen ≡ w.sen → count ≡ length w.records
    → after ≡ stored now (entry_place k) (entry_bytes csn sen first count) → Filling before after contents_place (entry_place i) all (contents_from (first + count) ws)
entry_more {ws = ws} {w = w} k i first csn sen count f e p q r n s =
    let long : length (entry_bytes csn sen first count) ≡ entry_length = unfold entry_bytes in simp (length-append, le_length) in
    let turn : contents_from first (w ∷ ws) ≡ entry_bytes csn sen first count ++ contents_from (first + count) ws = unfold contents_from entry_bytes in rw (q, r, n) in
    fill (entry_place i) (entry_bytes csn sen first count) (contents_from (first + count) ws) f (ap (contents_from first) e ∙ turn) s (omega (arith, long))

-- a body more
pub body_more : {before now after all : Bytes} {left ws : List WriteSet} {w : WriteSet} (n first count : ℕ) (body : Bytes)
    → Filling before now (bodies_place n) (record_place n first) all (bodies left) → left ≡ w ∷ ws → body ≡ records_bytes w.records → count ≡ length w.records
    → after ≡ stored now (record_place n first) body → Filling before after (bodies_place n) (record_place n (first + count)) all (bodies ws)
body_more {ws = ws} {w = w} n first count body f e p q s =
    let turn : bodies (w ∷ ws) ≡ body ++ bodies ws = unfold bodies flat in rw p in
    fill (record_place n (first + count)) body (bodies ws) f (ap bodies e ∙ turn) s (omega (arith, ap length p, records_length w.records))

-- a body has as many records as its bytes tell
pub body_count : {body : Bytes} (rs : List Record) {n : ℕ} → body ≡ records_bytes rs → n ≡ length (offered_records body) → n ≡ length rs
unfolding offered_records
body_count {body} rs e p = omega (arith, p, records_count (length body / 16) body 0, ap length e, records_length rs)

-- a list with no set
pub none_left : (ws : List WriteSet) → length ws ≤ 0 → ws ≡ []
none_left [] h = refl
none_left (w ∷ ws) h = absurd (omega arith)

-- the records of the sets that are left are those of the first of them and of the others
pub total_more : {left ws : List WriteSet} {w : WriteSet} → left ≡ w ∷ ws → total left ≡ length w.records + total ws
unfolding total
total_more e = ap total e

-- ---- how many records

total_short : (ws : List WriteSet) → ((w : WriteSet) → Memᴰ w ws → length w.records ≤ max_records) → total ws ≤ max_records * length ws
unfolding total
total_short [] h = omega arith
total_short (w ∷ ws) h = omega (arith, h w (Memᴰ.head refl), total_short ws (λ v m. h v (Memᴰ.tail m)))

short : (s : examined.Sheet) (w : WriteSet) → Memᴰ w (sheet_of s).sets → length w.records ≤ max_records
short s w m =
    let t = sheet_of s in
    (sound_set→ t.epoch t.roster w (all→ (sound_set t.epoch t.roster) (sound_sheet→ t (sheet_sound s.bytes.now s.examined)).sets m)).few

-- eight a set, at most
pub together_total : (a b : examined.Sheet) → total (together (sheet_of a) (sheet_of b)) ≤ max_records * length (together (sheet_of a) (sheet_of b))
unfolding together
together_total a b =
    total_short (distinct ((sheet_of a).sets ++ (sheet_of b).sets))
    (λ w m. ⊎_elim (λ l. short a w l) (λ l. short b w l) (Memᴰ.append_cases (sheet_of a).sets (distinct→ ((sheet_of a).sets ++ (sheet_of b).sets) m)))

-- ---- the whole sheet

-- a sheet that fits, over what the buffer held
written : (s : Sheet) (l₀ l : Bytes) (n : ℕ) → n ≡ length (sheet_bytes s) → n ≤ length l₀ → l ≡ stored l₀ 0 (sheet_bytes s) → Written s l₀ n l
written s l₀ l n e h p = record { bytes = sheet_over l₀ s (omega arith) p; long = e }

held_notices : (a b : Sheet) → length (join_held a b).notices ≡ master_count
unfolding join_held sound_of up_from
held_notices a b = refl

held_length : (a b : Sheet) → length (sheet_bytes (join_held a b)) ≡ sheet_length (length (together a b)) (total (together a b))
unfolding join_held sound_of
held_length a b = sheet_length_lem (join_held a b) (held_notices a b)

held_stored : (a b : Sheet) (l₀ : Bytes) {l₁ l₂ l₃ l₄ : Bytes} → l₁ ≡ stored l₀ 0 (start_bytes a.epoch a.roster false (length (together a b)))
    → l₂ ≡ stored l₁ notices_place (map (notice_together a b) masters) → l₃ ≡ stored l₂ contents_place (contents_from 0 (together a b))
    → l₄ ≡ stored l₃ (bodies_place (length (together a b))) (bodies (together a b)) → l₄ ≡ stored l₀ 0 (sheet_bytes (join_held a b))
unfolding join_held sound_of
held_stored a b l₀ p q r t = sheet_stored l₀ (join_held a b) (held_notices a b) p q r t

-- written part by part, by the numbers that code has
pub held_written : (a b : examined.Sheet) (l₀ : Bytes) {l₁ l₂ l₃ l₄ : Bytes} (e r n t : ℕ) → Room (sheet_of a) (sheet_of b) l₀ → n ≡ length (together (sheet_of a) (sheet_of b)) → e ≡ (sheet_of a).epoch → r ≡ (sheet_of a).roster → t ≡ total (together (sheet_of a) (sheet_of b))
    → l₁ ≡ stored l₀ 0 (start_bytes e r false n) → l₂ ≡ stored l₁ notices_place (map (notice_together (sheet_of a) (sheet_of b)) masters)
    → l₃ ≡ stored l₂ contents_place (contents_from 0 (together (sheet_of a) (sheet_of b))) → l₄ ≡ stored l₃ (bodies_place n) (bodies (together (sheet_of a) (sheet_of b)))
    → Written (join_held (sheet_of a) (sheet_of b)) l₀ (sheet_length n t) l₄
held_written a b l₀ {l₁} {l₂} {l₃} {l₄} e r n t k m p q f g h i j =
    written (join_held (sheet_of a) (sheet_of b)) l₀ l₄ (sheet_length n t) (omega (arith, held_length (sheet_of a) (sheet_of b)))
    (omega (arith, k.few, k.room, together_total a b))
    (held_stored (sheet_of a) (sheet_of b) l₀ (rw (p, q, m) at g) h i (rw m at j))

spoiled_length : (e r : ℕ) → head_length ≡ length (sheet_bytes (spoiled_sheet e r))
unfolding spoiled_sheet total
spoiled_length e r = sym (sheet_length_lem (spoiled_sheet e r) refl)

spoiled_stored : (e r : ℕ) (l₀ : Bytes) {l₁ l₂ : Bytes} → l₁ ≡ stored l₀ 0 (start_bytes e r true 0) → l₂ ≡ stored l₁ notices_place no_notices → l₂ ≡ stored l₀ 0 (sheet_bytes (spoiled_sheet e r))
unfolding spoiled_sheet contents_from bodies flat
spoiled_stored e r l₀ {l₁} {l₂} p q = sheet_stored l₀ (spoiled_sheet e r) refl p q (nothing_stored l₂ contents_place) (nothing_stored l₂ (bodies_place 0))

pub spoiled_written : (s : Sheet) (l₀ : Bytes) {l₁ l₂ : Bytes} (e r : ℕ) → e ≡ s.epoch → r ≡ s.roster → head_length ≤ length l₀
    → l₁ ≡ stored l₀ 0 (start_bytes e r true 0) → l₂ ≡ stored l₁ notices_place no_notices → Written (spoiled_sheet s.epoch s.roster) l₀ head_length l₂
spoiled_written s l₀ {l₁} {l₂} e r p q h f g =
    written (spoiled_sheet s.epoch s.roster) l₀ l₂ head_length (spoiled_length s.epoch s.roster) h (spoiled_stored s.epoch s.roster l₀ (rw (p, q) at f) g)
