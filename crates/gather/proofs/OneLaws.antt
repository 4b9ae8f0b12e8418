-- What the sheet of one offer is when it is written part by part, over plain values.
use Rattle.std.specs.Prelude.{ℕ, ◌*◌, ◌<◌, ◌≤◌, ◌≡◌, refl, true, false, List, [], ◌∷◌, map, length, get_or, set}
use Rattle.std.proofs.Common.{sym, ◌∙◌, ap, arith, append-nil, eq-eqb, ne_eqb, leb-true, get_or-set_same, get_or-set_other, length-set}
use Rattle.std.proofs.Math.Decide.{ℕ_discrete}
use Rattle.std.proofs.Math.Seq.{ext_get_or}
use Rattle.std.proofs.lemmas.List.{get_or-replicate}
use Rattle.words.specs.Words.{Bytes, stored}
use Rattle.words.specs.WordLaws.{nothing_stored}
use Rattle.rules.specs.Lists.{flat, up_from}
use Rattle.rules.specs.Forms.{well_formed}
use Rattle.rules.specs.Sheet.{WriteSet, Sheet, no_notice, max_sets, max_records, masters, sound_records, records_bytes, contents_from, bodies, sheet_bytes, offered_records, are_records}
use Rattle.rules.specs.Gathering.{a_set, a_notice, set_in, notice_in, sets_among, notices_among, put_set, distinct, notice_of, no_notices, sound_of, holding}
use Rattle.laws.specs.Tests.{left, right}
use Rattle.laws.specs.FormLaws.{same→}
use Rattle.laws.specs.SheetLaws.{records_length}
use Rattle.laws.specs.GatherLaws.{notice_at_lem}
use Rattle.sheets.specs.SheetReadings.{master_count, notices_place, head_length, contents_place, entry_place, bodies_place, record_length, record_place, sheet_length, one_room, start_bytes, entry_bytes, total}
use Rattle.sheets.specs.SheetSizes.{sheet_length_lem}
use Rattle.sheets.specs.SheetWritten.{sheet_stored}
use Rattle.gather.specs.OneSheet.{Small, of_set, of_notice}

-- ---- one set

-- what an offered set's record bytes are
pub record Offered (b : Bytes) : Type 0 where
  pub exact : records_bytes (offered_records b) ≡ b
  pub whole : length b ≡ record_length * length (offered_records b)
  pub few : length (offered_records b) ≤ max_records

pub offered : (b : Bytes) → are_records b ≡ true → Offered b
unfolding are_records well_formed sound_records
offered b e =
    let rs = offered_records b in
    let x : records_bytes rs ≡ b = same→ _ _ (right _ _ e) in
    record { exact = x; whole = sym (ap length x) ∙ records_length rs; few = leb-true (length rs) max_records (left _ _ (right _ _ (left _ _ e))) }

-- the sheet of one set, part by part
set_sheet : (e r : ℕ) (w : WriteSet) → holding e r (a_set w ∷ []) ≡ sound_of e r no_notices (w ∷ [])
unfolding holding sets_among notices_among flat set_in notice_in distinct put_set notice_of up_from
set_sheet e r w = refl

set_length : (e r : ℕ) (w : WriteSet) → length (sheet_bytes (sound_of e r no_notices (w ∷ []))) ≡ sheet_length 1 (length w.records)
unfolding sound_of total
set_length e r w = sheet_length_lem (sound_of e r no_notices (w ∷ [])) refl ∙ omega arith

set_stored : (e r : ℕ) (w : WriteSet) (b l₀ : Bytes) {l₁ l₂ l₃ l₄ : Bytes} → records_bytes w.records ≡ b → l₁ ≡ stored l₀ 0 (start_bytes e r false 1) → l₂ ≡ stored l₁ notices_place no_notices
    → l₃ ≡ stored l₂ (entry_place 0) (entry_bytes w.csn w.sen 0 (length w.records)) → l₄ ≡ stored l₃ (record_place 1 0) b → l₄ ≡ stored l₀ 0 (sheet_bytes (sound_of e r no_notices (w ∷ [])))
unfolding sound_of contents_from bodies flat entry_bytes
set_stored e r w b l₀ {l₁} {l₂} {l₃} {l₄} x p q s t =
    sheet_stored l₀ (sound_of e r no_notices (w ∷ [])) refl p q
    (s ∙ ap (stored l₂ contents_place) (sym (append-nil _)))
    (t ∙ ap (stored l₃ (bodies_place 1)) (sym x ∙ sym (append-nil _)))

pub set_held : (e r sen csn n : ℕ) (b l₀ : Bytes) {l₁ l₂ l₃ l₄ : Bytes} → length l₀ ≡ one_room → Offered b → n ≡ length (offered_records b) → l₁ ≡ stored l₀ 0 (start_bytes e r false 1) → l₂ ≡ stored l₁ notices_place no_notices
    → l₃ ≡ stored l₂ (entry_place 0) (entry_bytes csn sen 0 n) → l₄ ≡ stored l₃ (record_place 1 0) b → Small (of_set e r sen csn b) l₀ (sheet_length 1 n) l₄
unfolding of_set
set_held e r sen csn n b l₀ {l₁} {l₂} {l₃} {l₄} room f h p q s t =
    let w : WriteSet = record { csn = csn; sen = sen; records = offered_records b } in
    let one = set_sheet e r w in
    record {
      bytes = set_stored e r w b l₀ f.exact p q (s ∙ ap (λ (k : ℕ). stored l₂ (entry_place 0) (entry_bytes csn sen 0 k)) h) t ∙ ap (λ (x : Sheet). stored l₀ 0 (sheet_bytes x)) (sym one);
      long = omega (arith, h, set_length e r w) ∙ ap (λ (x : Sheet). length (sheet_bytes x)) (sym one);
      fits = omega (arith, h, f.few);
    }

-- ---- one notice

-- master k's notice where master m alone noticed n
abbrev noticed_by : (m n k : ℕ) → ℕ
noticed_by m n k = notice_of k (record { master = m; number = n } ∷ [])

by_itself : (m n : ℕ) → n ≤ max_sets → noticed_by m n m ≡ n
unfolding notice_of
by_itself m n h = simp (eq-eqb m m refl) (omega arith)

by_another : (m n k : ℕ) → (m ≡ k → ⊥) → noticed_by m n k ≡ no_notice
unfolding notice_of
by_another m n k h = simp (ne_eqb m k h)

notices_of : (m n : ℕ) → m < master_count → n ≤ max_sets → set no_notices m n ≡ map (noticed_by m n) masters
notices_of m n h k =
    let long = length-set no_notices m n in
    ext_get_or no_notice (set no_notices m n) (map (noticed_by m n) masters) (long ∙ sixteen)
    (λ i l. at i (omega (arith, long, l)) ∙ sym (notice_at_lem (record { master = m; number = n } ∷ []) i (omega (arith, long, l))))
  where
    sixteen : master_count ≡ length (map (noticed_by m n) masters)
    sixteen = unfold up_from in refl

    at : (i : ℕ) → i < master_count → get_or (set no_notices m n) i no_notice ≡ noticed_by m n i
    at i l =
        elim (ℕ_discrete m i) [
          | yes e ↦ rw (← e) (get_or-set_same no_notices m n no_notice h ∙ sym (by_itself m n k))
          | no d ↦ get_or-set_other no_notices m i n no_notice (λ e. d (sym e)) ∙ get_or-replicate master_count i no_notice no_notice l ∙ sym (by_another m n i d)
        ]

notice_sheet : (e r m n : ℕ) → holding e r (a_notice (record { master = m; number = n }) ∷ []) ≡ sound_of e r (map (noticed_by m n) masters) []
unfolding holding sets_among notices_among flat set_in notice_in distinct
notice_sheet e r m n = refl

notice_stored : (e r : ℕ) (ns l₀ : Bytes) {l₁ l₂ : Bytes} → length ns ≡ master_count → l₁ ≡ stored l₀ 0 (start_bytes e r false 0) → l₂ ≡ stored l₁ notices_place ns
    → (l₂ ≡ stored l₀ 0 (sheet_bytes (sound_of e r ns []))) × (head_length ≡ length (sheet_bytes (sound_of e r ns [])))
unfolding sound_of contents_from bodies flat total
notice_stored e r ns l₀ {l₁} {l₂} h p q =
    (sheet_stored l₀ (sound_of e r ns []) h p q (nothing_stored l₂ contents_place) (nothing_stored l₂ (bodies_place 0)), sym (sheet_length_lem (sound_of e r ns []) h))

pub notice_held : (e r m n : ℕ) (l₀ : Bytes) {l₁ l₂ : Bytes} → length l₀ ≡ one_room → m < master_count → n ≤ max_sets → l₁ ≡ stored l₀ 0 (start_bytes e r false 0) → l₂ ≡ stored l₁ notices_place (set no_notices m n)
    → Small (of_notice e r m n) l₀ head_length l₂
unfolding of_notice
notice_held e r m n l₀ {l₁} {l₂} room h k p q =
    let one : sound_of e r (set no_notices m n) [] ≡ holding e r (a_notice (record { master = m; number = n }) ∷ []) =
    ap (λ (ns : List ℕ). sound_of e r ns []) (notices_of m n h k) ∙ sym (notice_sheet e r m n) in
    let x = notice_stored e r (set no_notices m n) l₀ (length-set no_notices m n) p q in
    record {
      bytes = x.0 ∙ ap (λ (s : Sheet). stored l₀ 0 (sheet_bytes s)) one;
      long = x.1 ∙ ap (λ (s : Sheet). length (sheet_bytes s)) one;
      fits = omega arith;
    }
