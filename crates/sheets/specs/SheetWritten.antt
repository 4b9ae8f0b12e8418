-- What a sheet's parts come to, one behind the other: one set more, and all parts in a row are the sheet's bytes.
use Rattle.std.specs.Prelude.{ℕ, ◌+◌, ◌≤◌, ◌≡◌, List, [], ◌∷◌, ◌++◌, length}
use Rattle.std.proofs.Common.{sym, ◌∙◌, ap, append_assoc, append-nil, add-zero, add_assoc, arith, length-append}
use Rattle.words.specs.Words.{Bytes, le, stored}
use Rattle.words.specs.WordLaws.{le_length, then_stored, stored_front}
use Rattle.rules.specs.Sheet.{WriteSet, Sheet, records_bytes, contents_from, bodies, head_bytes, sheet_bytes}
use Rattle.rules.specs.Promises.{over}
use Rattle.laws.specs.ListLaws.{flat_snoc}
use Rattle.laws.specs.SheetLaws.{contents_length}
use Rattle.sheets.specs.SheetReadings.{total, master_count, notices_place, contents_place, bodies_place, start_bytes, entry_bytes}

-- ---- one set more

pub total_more : (ws : List WriteSet) (w : WriteSet) → total (ws ++ w ∷ []) ≡ total ws + length w.records
unfolding total
total_more [] w = omega arith
total_more (v ∷ ws) w = ap (λ (n : ℕ). length v.records + n) (total_more ws w) ∙ sym (add_assoc (length v.records) (total ws) (length w.records))

contents_behind : (first : ℕ) (ws : List WriteSet) (w : WriteSet)
    → contents_from first (ws ++ w ∷ []) ≡ contents_from first ws ++ entry_bytes w.csn w.sen (first + total ws) (length w.records)
unfolding contents_from entry_bytes total
contents_behind first [] w =
    append-nil (le 8 w.csn ++ le 4 w.sen ++ le 2 first ++ le 2 (length w.records))
    ∙ ap (λ (n : ℕ). le 8 w.csn ++ le 4 w.sen ++ le 2 n ++ le 2 (length w.records)) (sym (add-zero first))
contents_behind first (v ∷ ws) w =
    let e = le 8 v.csn ++ le 4 v.sen ++ le 2 first ++ le 2 (length v.records) in
    let n = first + length v.records in
    ap (λ (l : Bytes). e ++ l) (contents_behind n ws w ∙ ap (λ (k : ℕ). contents_from n ws ++ entry_bytes w.csn w.sen k (length w.records)) (add_assoc first (length v.records) (total ws)))
    ∙ sym (append_assoc e (contents_from n ws) _)

pub contents_more : (ws : List WriteSet) (w : WriteSet) → contents_from 0 (ws ++ w ∷ []) ≡ contents_from 0 ws ++ entry_bytes w.csn w.sen (total ws) (length w.records)
contents_more ws w =
    let z : 0 + total ws ≡ total ws = omega arith in
    contents_behind 0 ws w ∙ ap (λ (n : ℕ). contents_from 0 ws ++ entry_bytes w.csn w.sen n (length w.records)) z

pub bodies_more : (ws : List WriteSet) (w : WriteSet) → bodies (ws ++ w ∷ []) ≡ bodies ws ++ records_bytes w.records
unfolding bodies
bodies_more ws w = flat_snoc (λ (v : WriteSet). records_bytes v.records) ws w

-- ---- all parts

-- WRITING ALL PARTS OF A SHEET LEAVES ITS BYTES
pub sheet_stored : (l₀ : Bytes) {l₁ l₂ l₃ l₄ : Bytes} (s : Sheet) → length s.notices ≡ master_count
    → l₁ ≡ stored l₀ 0 (start_bytes s.epoch s.roster s.spoiled (length s.sets)) → l₂ ≡ stored l₁ notices_place s.notices
    → l₃ ≡ stored l₂ contents_place (contents_from 0 s.sets) → l₄ ≡ stored l₃ (bodies_place (length s.sets)) (bodies s.sets) → l₄ ≡ stored l₀ 0 (sheet_bytes s)
unfolding sheet_bytes head_bytes start_bytes
sheet_stored l₀ s h p q r t =
    let a = start_bytes s.epoch s.roster s.spoiled (length s.sets) in
    let la : length a ≡ notices_place = simp (length-append, le_length) in
    let x = then_stored l₀ 0 notices_place a s.notices p q (omega arith) in
    let y = then_stored l₀ 0 contents_place (a ++ s.notices) (contents_from 0 s.sets) x r (omega (arith, length-append a s.notices)) in
    then_stored l₀ 0 (bodies_place (length s.sets)) (a ++ s.notices ++ contents_from 0 s.sets) (bodies s.sets) y t
    (omega (arith, length-append (a ++ s.notices) (contents_from 0 s.sets), length-append a s.notices, contents_length 0 s.sets))

-- over what the buffer held
pub sheet_over : (l₀ : Bytes) {l : Bytes} (s : Sheet) → length (sheet_bytes s) ≤ length l₀ → l ≡ stored l₀ 0 (sheet_bytes s) → l ≡ over l₀ (sheet_bytes s)
unfolding over
sheet_over l₀ s h p = p ∙ stored_front l₀ (sheet_bytes s) h
