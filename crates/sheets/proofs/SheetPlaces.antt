-- Where the parts of an examined sheet stand: its entries, its records and its bodies.
use Prim.Native.Nat.{ℕ, zero, suc, ◌+◌, ◌*◌, ◌^◌, ◌<◌, ◌≤◌}
use mathlib.Core.Path.{◌≡◌, refl, sym, ◌∙◌, ap, ap₂}
use mathlib.Core.Bool.{true}
use mathlib.Core.List.{List, [], ◌∷◌, ◌++◌, append_assoc}
use native.Mathlib.Nat.{add-zero, zero-add}
use native.Mathlib.Omega.{arith}
use lib.ListN.{length, get_or, take, drop, length-drop}
use lib.Seq.{drop_at, take_at, drop-drop, get_or-drop, get_or-take, drop-cons, drop-nil, drop-append-le}
use Rattle.std.proofs.lemmas.List.{get_or_default}
use Rattle.words.specs.Words.{Bytes, le, word, part}
use Rattle.words.specs.WordLaws.{word_drop, word_le}
use Rattle.rules.specs.declared.row.Record.{Record}
use Rattle.rules.specs.Lists.{flat}
use Rattle.rules.specs.Sheet.{WriteSet, no_notice, records_bytes, contents_from, bodies, head_bytes, sheet_bytes, record_in, records_in, sets_in, sheet_in, is_sheet}
use Rattle.laws.specs.SheetLaws.{sets_count, contents_length, records_length, records_count}
use Rattle.sheets.specs.SheetReadings.{no_set, set_at, record_at, notice_at, no_record, total, master_count, head_length, entry_place, body_place, record_length}
use Rattle.sheets.specs.SheetSizes.{Formed, formed, total_mono, few_sets, few_records}

-- ---- entries

pub set_count_lem : (b : Bytes) → length (sheet_in b).sets ≡ get_or b 7 0
unfolding sheet_in
set_count_lem b = sets_count (get_or b 7 0) b 24 (24 + 16 * get_or b 7 0)

-- the numbers of set i stand in its entry, its records at its place
pub record Entry (w : WriteSet) (b : Bytes) (c : ℕ) : Type 0 where
  pub csn : w.csn ≡ word 8 b c
  pub sen : w.sen ≡ word 4 b (c + 8)
  pub count : length w.records ≡ word 2 b (c + 14)

same_entry : {w : WriteSet} (b : Bytes) (c d : ℕ) → c ≡ d → Entry w b c → Entry w b d
same_entry b c d e x = rw e at x

entry_at : (n : ℕ) (b : Bytes) (c at i : ℕ) → i < n → Entry (get_or (sets_in n b c at) i no_set) b (c + 16 * i)
unfolding sets_in
entry_at zero b c at i h = absurd (omega arith)
entry_at (suc n) b c at zero h =
    same_entry b c (c + 16 * 0) (omega arith) (record { csn = refl; sen = refl; count = records_count (word 2 b (c + 14)) b at })
entry_at (suc n) b c at (suc i) h =
    same_entry b (c + 16 + 16 * i) (c + 16 * suc i) (omega arith) (entry_at n b (c + 16) (at + 16 * word 2 b (c + 14)) i (omega arith))

pub set_entry : (b : Bytes) (i : ℕ) → i < length (sheet_in b).sets → Entry (set_at (sheet_in b) i) b (entry_place i)
unfolding set_at sheet_in
set_entry b i h = entry_at (get_or b 7 0) b 24 (24 + 16 * get_or b 7 0) i (omega (arith, sets_count (get_or b 7 0) b 24 (24 + 16 * get_or b 7 0)))

pub set_csn_lem : (b : Bytes) (i : ℕ) → i < length (sheet_in b).sets → word 8 b (entry_place i) ≡ (set_at (sheet_in b) i).csn
set_csn_lem b i h = sym (set_entry b i h).csn

pub set_sen_lem : (b : Bytes) (i : ℕ) → i < length (sheet_in b).sets → word 4 b (entry_place i + 8) ≡ (set_at (sheet_in b) i).sen
set_sen_lem b i h = sym (set_entry b i h).sen

pub record_count_lem : (b : Bytes) (i : ℕ) → i < length (sheet_in b).sets → word 2 b (entry_place i + 14) ≡ length (set_at (sheet_in b) i).records
record_count_lem b i h = sym (set_entry b i h).count

-- the records of set i, at its place
records_in_lem : (n : ℕ) (b : Bytes) (c at i : ℕ) → i < n
    → (get_or (sets_in n b c at) i no_set).records ≡ records_in (word 2 b (c + 16 * i + 14)) b (at + 16 * total (take i (sets_in n b c at)))
unfolding sets_in total
records_in_lem zero b c at i h = absurd (omega arith)
records_in_lem (suc n) b c at zero h =
    let p : c + 14 ≡ c + 16 * 0 + 14 = omega arith in
    let q : at ≡ at + 16 * 0 = omega arith in
    ap₂ (λ (x y : ℕ). records_in (word 2 b x) b y) p q
records_in_lem (suc n) b c at (suc i) h =
    let k = word 2 b (c + 14) in
    let t = total (take i (sets_in n b (c + 16) (at + 16 * k))) in
    let p : c + 16 + 16 * i + 14 ≡ c + 16 * suc i + 14 = omega arith in
    let q : at + 16 * k + 16 * t ≡ at + 16 * (length (records_in k b at) + t) = omega (arith, records_count k b at) in
    records_in_lem n b (c + 16) (at + 16 * k) i (omega arith) ∙ ap₂ (λ (x y : ℕ). records_in (word 2 b x) b y) p q

record_in_lem : (n : ℕ) (b : Bytes) (at j : ℕ) → j < n → get_or (records_in n b at) j no_record ≡ record_in b (at + 16 * j)
unfolding records_in
record_in_lem zero b at j h = absurd (omega arith)
record_in_lem (suc n) b at zero h = let p : at ≡ at + 16 * 0 = omega arith in ap (record_in b) p
record_in_lem (suc n) b at (suc j) h = let p : at + 16 + 16 * j ≡ at + 16 * suc j = omega arith in record_in_lem n b (at + 16) j (omega arith) ∙ ap (record_in b) p

-- record j of set i, at its place
pub record_place_lem : (b : Bytes) (i j : ℕ) → i < length (sheet_in b).sets → j < length (set_at (sheet_in b) i).records
    → record_at (set_at (sheet_in b) i) j ≡ record_in b (body_place (sheet_in b) i + 16 * j)
unfolding set_at record_at body_place sheet_in
record_place_lem b i j h k =
    let n = get_or b 7 0 in
    let at = 24 + 16 * n in
    let ws = sets_in n b 24 at in
    let c = sets_count n b 24 at in
    let i-in : i < n = omega arith in
    let e = records_in_lem n b 24 at i i-in in
    let m = word 2 b (24 + 16 * i + 14) in
    let place = at + 16 * total (take i ws) in
    let j-in : j < m = omega (arith, ap length e, records_count m b place) in
    let p : 24 + 16 * n + 16 * total (take i ws) + 16 * j ≡ 24 + 16 * length ws + 16 * total (take i ws) + 16 * j = omega arith in
    ap (λ (rs : List Record). get_or rs j no_record) e ∙ record_in_lem m b place j j-in ∙ ap (record_in b) p

-- ---- bodies

-- the records from set i on are behind those of the sets before it
bodies_drop : (ws : List WriteSet) (i : ℕ) → drop (16 * total (take i ws)) (bodies ws) ≡ bodies (drop i ws)
unfolding bodies flat total
bodies_drop ws zero = refl
bodies_drop [] (suc i) = refl
bodies_drop (w ∷ ws) (suc i) =
    let n = length w.records in
    let t = total (take i ws) in
    let e : 16 * (n + t) ≡ 16 * n + 16 * t = omega arith in
    ap (λ (k : ℕ). drop k (records_bytes w.records ++ bodies ws)) e
    ∙ sym (drop-drop (16 * t) (16 * n) (records_bytes w.records ++ bodies ws))
    ∙ ap (drop (16 * t)) (drop_at (records_bytes w.records) (bodies ws) (16 * n) (records_length w.records))
    ∙ bodies_drop ws i

-- the contents from entry i on
contents_drop : (first : ℕ) (ws : List WriteSet) (i : ℕ) → drop (16 * i) (contents_from first ws) ≡ contents_from (first + total (take i ws)) (drop i ws)
unfolding contents_from total le
contents_drop first ws zero = ap (λ (k : ℕ). contents_from k ws) (sym (add-zero first))
contents_drop first [] (suc i) = drop-nil (16 * suc i)
contents_drop first (w ∷ ws) (suc i) =
    let e : 16 * suc i ≡ 16 + 16 * i = omega arith in
    let f : first + length w.records + total (take i ws) ≡ first + (length w.records + total (take i ws)) = omega arith in
    ap (λ (k : ℕ). drop k (contents_from first (w ∷ ws))) e
    ∙ sym (drop-drop (16 * i) 16 (contents_from first (w ∷ ws)))
    ∙ contents_drop (first + length w.records) ws i
    ∙ ap (λ (k : ℕ). contents_from k (drop i ws)) f

-- ---- an examined sheet's bytes, from its parts on

-- what follows the head, and what follows the contents
after_head : (b : Bytes) → Formed b → drop 24 b ≡ contents_from 0 (sheet_in b).sets ++ bodies (sheet_in b).sets
unfolding sheet_bytes head_bytes le
after_head b f =
    let s = sheet_in b in
    let a : s.notices ++ contents_from 0 s.sets ++ bodies s.sets ≡ s.notices ++ (contents_from 0 s.sets ++ bodies s.sets) = append_assoc s.notices _ _ in
    ap (drop 24) (sym f.exact) ∙ ap (drop 16) a ∙ drop_at s.notices _ 16 f.sound.sixteen

after_contents : (b : Bytes) → Formed b → drop (24 + 16 * length (sheet_in b).sets) b ≡ bodies (sheet_in b).sets
after_contents b f =
    let ws = (sheet_in b).sets in
    sym (drop-drop (16 * length ws) 24 b) ∙ ap (drop (16 * length ws)) (after_head b f)
    ∙ drop_at (contents_from 0 ws) (bodies ws) (16 * length ws) (contents_length 0 ws)

-- from the body of set i on
after_body : (b : Bytes) (i : ℕ) → Formed b → drop (body_place (sheet_in b) i) b ≡ bodies (drop i (sheet_in b).sets)
unfolding body_place
after_body b i f =
    let ws = (sheet_in b).sets in
    sym (drop-drop (16 * total (take i ws)) (24 + 16 * length ws) b) ∙ ap (drop (16 * total (take i ws))) (after_contents b f) ∙ bodies_drop ws i

-- ---- what the readings use

pub room : (b : Bytes) → is_sheet b ≡ true → head_length ≤ length b
room b e = omega (arith, (formed b e).long)

-- the notice byte of master m
pub notice_place : (b : Bytes) (m : ℕ) → is_sheet b ≡ true → m < master_count → get_or b (8 + m) 0 ≡ notice_at (sheet_in b) m
unfolding notice_at sheet_in part
notice_place b m e h =
    let r = room b e in
    let l : m < length (drop 8 b) = simp length-drop (omega arith) in
    sym (get_or-drop 8 b m 0) ∙ get_or_default (drop 8 b) m 0 no_notice l ∙ sym (get_or-take 16 (drop 8 b) m no_notice h)

-- how long a sheet is by its sets
pub long : (b : Bytes) → is_sheet b ≡ true → length b ≡ entry_place (length (sheet_in b).sets) + record_length * total (sheet_in b).sets
long b e = (formed b e).long

pub body_room : (b : Bytes) (i : ℕ) → is_sheet b ≡ true → i < length (sheet_in b).sets
    → body_place (sheet_in b) i + 16 * length (set_at (sheet_in b) i).records ≤ length b
unfolding body_place set_at
body_room b i e h = omega (arith, (formed b e).long, total_mono (sheet_in b).sets i h)

-- the first record of set i is the number of records before it
pub first_record : (b : Bytes) (i : ℕ) → is_sheet b ≡ true → i < length (sheet_in b).sets → word 2 b (entry_place i + 12) ≡ total (take i (sheet_in b).sets)
first_record b i e h =
    let ws = (sheet_in b).sets in
    let f = formed b e in
    let w = get_or ws i no_set in
    let few = few_records b i e h in
    let here : drop (entry_place i) b ≡ contents_from (total (take i ws)) (w ∷ drop (suc i) ws) ++ bodies ws =
    sym (drop-drop (16 * i) 24 b)
    ∙ ap (drop (16 * i)) (after_head b f)
    ∙ drop-append-le (16 * i) (contents_from 0 ws) (bodies ws) (omega (arith, contents_length 0 ws))
    ∙ ap (λ (l : Bytes). l ++ bodies ws) (contents_drop 0 ws i ∙ ap (λ (n : ℕ). contents_from n (drop i ws)) (zero-add (total (take i ws))) ∙ ap (contents_from (total (take i ws))) (drop-cons ws i no_set h)) in
    sym (word_drop 2 (entry_place i) b 12) ∙ ap (λ (l : Bytes). word 2 l 12) here ∙ first_of w (drop (suc i) ws) (bodies ws) (total (take i ws)) (omega (arith, few))
  where
    first_of : (w : WriteSet) (ws : List WriteSet) (rest : Bytes) (n : ℕ) → n < 256 ^ 2 → word 2 (contents_from n (w ∷ ws) ++ rest) 12 ≡ n
    first_of w ws rest n h = unfold contents_from word le in word_le 2 n h

-- the body of set i is the part at its place
pub body_part : (b : Bytes) (i at k : ℕ) → is_sheet b ≡ true → i < length (sheet_in b).sets → at ≡ body_place (sheet_in b) i → k ≡ 16 * length (set_at (sheet_in b) i).records
    → take k (drop at b) ≡ records_bytes (set_at (sheet_in b) i).records
unfolding set_at bodies records_bytes flat
body_part b i at k e h p q = rw (p, q) here
  where
    front : (rs : List Record) (ws : List WriteSet) → take (16 * length rs) (records_bytes rs ++ bodies ws) ≡ records_bytes rs
    front rs ws = take_at (records_bytes rs) (bodies ws) (16 * length rs) (records_length rs)

    here : take (16 * length (set_at (sheet_in b) i).records) (drop (body_place (sheet_in b) i) b) ≡ records_bytes (set_at (sheet_in b) i).records
    here =
        let ws = (sheet_in b).sets in
        let rs = (get_or ws i no_set).records in
        ap (take (16 * length rs)) (after_body b i (formed b e) ∙ ap bodies (drop-cons ws i no_set h))
        ∙ front rs (drop (suc i) ws)

-- for the goals of a sheet's readings, and of a set's
pub ruleset head_readings = (room, notice_place, set_count_lem)

pub ruleset set_readings = (long, few_sets, set_count_lem, set_csn_lem, set_sen_lem, record_count_lem, record_place_lem, body_room, first_record, body_part)
