-- A sheet's own length is what its head and contents tell to a reader who has seen no more.
use Rattle.std.specs.Prelude.{Some}
use Prim.Native.Nat.{ℕ, zero, suc, ◌+◌, ◌*◌, ◌<◌, ◌≤◌}
use mathlib.Core.Path.{◌≡◌, refl, sym, ◌∙◌, ap}
use mathlib.Core.Bool.{true}
use mathlib.Core.List.{List, [], ◌∷◌}
use native.Mathlib.Numerals.{add-one}
use native.Mathlib.Omega.{arith}
use borrow.Author.Tests.{le-leb}
use lib.ListN.{length, get_or, take, length-take}
use lib.Seq.{take_all, get_or-take}
use Rattle.words.specs.Words.{Bytes, word}
use Rattle.words.specs.WordLaws.{word_same}
use Rattle.rules.specs.Sheet.{WriteSet, is_sheet, sheet_in}
use Rattle.sheets.specs.SheetReadings.{no_set, set_at, total, head_length, entry_place, record_length}
use Rattle.sheets.specs.SheetLength.{contents_end, counts_to, end_from, sheet_end}
use Rattle.sheets.specs.LengthLaws.{head_told, head_tells}
use Rattle.sheets.specs.SheetSizes.{formed, few_sets}
use Rattle.sheets.proofs.SheetPlaces.{set_count_lem, record_count_lem}

-- ---- what the contents tell

pub contents_tell : (b : Bytes) (n : ℕ) → contents_end b ≡ Some n → n ≤ length b → Some (n + record_length * counts_to (get_or b 7 0) b) ≡ sheet_end b
unfolding sheet_end end_from
contents_tell b n e k = rw e (simp (le-leb n (length b) k))

pub counts_more : (n : ℕ) (b : Bytes) → counts_to (n + 1) b ≡ counts_to n b + word 2 b (entry_place n + 14)
unfolding counts_to
counts_more n b = rw (add-one n)

pub counts_none : (b : Bytes) → counts_to 0 b ≡ 0
unfolding counts_to
counts_none b = refl

-- for the goals of the sum
pub ruleset counts = (counts_more, counts_none, head_told)

-- ---- a well-formed sheet's own length

total_next : (ws : List WriteSet) (i : ℕ) → i < length ws → total (take (suc i) ws) ≡ total (take i ws) + length (get_or ws i no_set).records
unfolding total
total_next [] i h = absurd (omega arith)
total_next (w ∷ ws) zero h = omega arith
total_next (w ∷ ws) (suc i) h = omega (arith, total_next ws i (omega arith))

counts_total : (b : Bytes) (n : ℕ) → n ≤ length (sheet_in b).sets → counts_to n b ≡ total (take n (sheet_in b).sets)
unfolding counts_to set_at
counts_total b zero h = unfold total in refl
counts_total b (suc n) h =
    omega (arith, counts_total b n (omega arith), record_count_lem b n (omega arith), total_next (sheet_in b).sets n (omega arith))

-- the counts stand in the contents, so no more need be seen
same_counts : (k : ℕ) (b : Bytes) (n : ℕ) → entry_place k ≤ n → counts_to k (take n b) ≡ counts_to k b
unfolding counts_to
same_counts zero b n h = refl
same_counts (suc k) b n h =
    let w : word 2 (take n b) (entry_place k + 14) ≡ word 2 b (entry_place k + 14) =
    word_same 2 (take n b) b (entry_place k + 14) (λ j l m. get_or-take n b j 0 (omega arith)) in
    rw (same_counts k b n (omega arith), w)

-- WHERE A SHEET'S CONTENTS END IS WHAT ITS HEAD TELLS, however much more of it is seen
pub own_contents : (b : Bytes) → is_sheet b ≡ true → (n : ℕ) → head_length ≤ n → contents_end (take n b) ≡ Some (entry_place (length (sheet_in b).sets))
own_contents b e n h =
    let f = formed b e in
    let few = few_sets b e in
    let c : get_or (take n b) 7 0 ≡ length (sheet_in b).sets = get_or-take n b 7 0 (omega arith) ∙ sym (set_count_lem b) in
    let seen : head_length ≤ length (take n b) = simp length-take (omega (arith, f.long)) in
    sym (head_tells (take n b) seen (omega arith)) ∙ ap (λ (k : ℕ). Some (entry_place k)) c

-- A SHEET'S LENGTH IS WHAT ITS HEAD AND CONTENTS TELL, however much more of it is seen
pub own_length : (b : Bytes) → is_sheet b ≡ true → (n : ℕ) → entry_place (length (sheet_in b).sets) ≤ n → sheet_end (take n b) ≡ Some (length b)
own_length b e n h =
    let f = formed b e in
    let ws = (sheet_in b).sets in
    let c : get_or (take n b) 7 0 ≡ length ws = get_or-take n b 7 0 (omega arith) ∙ sym (set_count_lem b) in
    let seen : entry_place (length ws) ≤ length (take n b) = simp length-take (omega (arith, f.long)) in
    let all : take (length ws) ws ≡ ws = take_all (length ws) ws (omega arith) in
    let d : counts_to (get_or (take n b) 7 0) (take n b) ≡ total ws =
    ap (λ (k : ℕ). counts_to k (take n b)) c ∙ same_counts (length ws) b n h ∙ counts_total b (length ws) (omega arith) ∙ ap total all in
    sym (contents_tell (take n b) (entry_place (length ws)) (own_contents b e n (omega arith)) seen) ∙ ap Some (omega (arith, f.long, d))
