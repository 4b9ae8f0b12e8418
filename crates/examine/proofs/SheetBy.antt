-- The tests of a sheet's bytes decide whether they are a sheet.
use Prim.Native.Nat.{ℕ, zero, suc, ◌+◌, ◌*◌, ◌^◌, ◌≤◌, ◌<◌}
use mathlib.Core.Path.{◌≡◌, refl, sym, ap, ◌∙◌}
use mathlib.Core.Bool.{Bool, true, false}
use mathlib.Core.List.{[], ◌∷◌, ◌++◌, append_assoc, append-nil}
use native.Mathlib.Omega.{arith}
use borrow.Author.Tests.{le-leb, eq-eqb, leb-true, eqb-true, eqb-false}
use lib.ListN.{length, get_or, drop, length-append, length-take, length-drop, drop_of_length-le}
use lib.Seq.{get_or-take, get_or-drop}
use lib.Dec.{leb, eqb}
use Rattle.std.proofs.lemmas.List.{get_or_default}
use Rattle.words.specs.Words.{Bytes, le, word, part}
use Rattle.words.specs.WordLaws.{le_length, word_fits, part_length}
use Rattle.rules.specs.Lists.{◌and◌, all, same, up_from}
use Rattle.rules.specs.Forms.{well_formed}
use Rattle.rules.specs.Sheet.{no_notice, masters, sets_of, sound_notice, bare, sound_sheet, contents_from, bodies, state_byte, head_bytes, sheet_bytes, sets_in, sheet_in, is_sheet}
use Rattle.laws.specs.Tests.{left, right, both, same_tests}
use Rattle.laws.specs.FormLaws.{→fits, same→}
use Rattle.laws.specs.SheetLaws.{contents_length, sets_count}
use Rattle.examine.specs.SheetForm.{set_count, none_noticed, state_ok, head_ok, notice_ok, sheet_ok}
use Rattle.laws.specs.BytesHere.{Octets, and_true, part_here, byte_here, itself_here, word_here}
use Rattle.examine.proofs.SetsBy.{total_in, firsts_in, set_zeros, ordered, csns_of, sets_of_lem, bodies_length, total_few, contents_here, bodies_here, sets_says}

-- the state byte is written again if it is 0 or 1
state_here : (s : ℕ) → eqb (state_byte (eqb s 1)) s ≡ leb s 1
unfolding state_byte
state_here s = go (eqb s 1) refl
  where
    go : (t : Bool) → eqb s 1 ≡ t → eqb (state_byte t) s ≡ leb s 1
    go true e = let h : s ≡ 1 = eqb-true s 1 e in rw h
    go false e =
        let h : s ≡ 1 → ⊥ = eqb-false s 1 e in
        same_tests (eqb 0 s) (leb s 1)
        (λ z. let q : 0 ≡ s = eqb-true 0 s z in le-leb s 1 (omega arith))
        (λ z. let q : s ≤ 1 = leb-true s 1 z in eq-eqb 0 s (omega arith))

part_long : (b : Bytes) → length (part b 8 16) ≡ 16 → 24 ≤ length b
unfolding part
part_long b e = omega (arith, simp (length-take, length-drop) at e)

pub all_same : (f g : ℕ → Bool) (k n : ℕ) → ((m : ℕ) → m < k + n → f m ≡ g m) → all f (up_from k n) ≡ all g (up_from k n)
unfolding all up_from
all_same f g k zero h = refl
all_same f g k (suc n) h = rw (h k (omega arith), all_same f g (suc k) n (λ m l. h m (omega arith)))

-- the notices of the sheet that the bytes are read as
notices_by : (b : Bytes) → 24 ≤ length b
    → all (λ m. sound_notice (word 2 b 4) m (get_or (part b 8 16) m no_notice) (sets_of m (sets_in (set_count b) b 24 (24 + 16 * set_count b)))) masters ≡ all (notice_ok b) masters
unfolding notice_ok
notices_by b h =
    all_same _ (notice_ok b) 0 16
    (λ m l. rw (here m (omega arith), sets_of_lem m (set_count b) b 24 (24 + 16 * set_count b)))
  where
    here : (m : ℕ) → m < 16 → get_or (part b 8 16) m no_notice ≡ get_or b (8 + m) 0
    here m l = unfold part in get_or-take 16 (drop 8 b) m no_notice l ∙ get_or-drop 8 b m no_notice ∙ get_or_default b (8 + m) no_notice 0 (omega arith)

module _ (b : Bytes) (o : Octets b) where
  head_here : (rest : Bytes) → 24 ≤ length b → same (head_bytes (sheet_in b) ++ rest) b ≡ leb (get_or b 6 0) 1 and same rest (drop 24 b)
  unfolding head_bytes sheet_in
  head_here rest h =
      let state = state_byte (eqb (get_or b 6 0) 1) in
      let l₈ = part b 8 16 ++ rest in
      let l₆ = state ∷ get_or b 7 0 ∷ l₈ in
      let l₄ = le 2 (word 2 b 4) ++ l₆ in
      let apart : head_bytes (sheet_in b) ++ rest ≡ le 4 (word 4 b 0) ++ l₄ = simp (append_assoc, sets_count (get_or b 7 0) b 24 (24 + 16 * get_or b 7 0)) in
      rw (
        apart,
        word_here b o 4 0 4 l₄ refl (omega arith),
        word_here b o 2 4 6 l₆ refl (omega arith),
        byte_here b state 6 7 (get_or b 7 0 ∷ l₈) refl (omega arith),
        itself_here b 7 8 l₈ refl (omega arith),
        part_here b 8 16 24 rest refl,
        state_here (get_or b 6 0),
      )

  -- bytes of the right length are written again if the state, the first records and the zeros are right
  sheet_written : length b ≡ 24 + 16 * set_count b + 16 * total_in (set_count b) b 24 → total_in (set_count b) b 24 < 256 ^ 2
      → same (sheet_bytes (sheet_in b)) b
      ≡ leb (get_or b 6 0) 1 and firsts_in 0 (set_count b) b 24 and set_zeros (set_count b) b 24 (24 + 16 * set_count b)
  unfolding sheet_bytes sheet_in same
  sheet_written long few =
      let n = set_count b in
      let k = 24 + 16 * n in
      let ws = sets_in n b 24 k in
      let end = k + 16 * total_in n b 24 in
      let none : drop end b ≡ [] = drop_of_length-le b {i = end} (omega arith) in
      let head = head_bytes (sheet_in b) in
      let apart : sheet_bytes (sheet_in b) ≡ head ++ (contents_from 0 ws ++ (bodies ws ++ [])) = append_assoc head (contents_from 0 ws) (bodies ws) ∙ ap (λ (l : Bytes). head ++ (contents_from 0 ws ++ l)) (sym (append-nil (bodies ws))) in
      ap (λ (l : Bytes). same l b) apart
      ∙ head_here (contents_from 0 ws ++ (bodies ws ++ [])) (omega arith)
      ∙ rw (
        contents_here b o 0 n 24 k (bodies ws ++ []) (omega arith) (omega arith),
        bodies_here b o n 24 k [] (omega arith),
        none,
        and_true,
      )

  sheet_length_lem : 24 ≤ length b → length (sheet_bytes (sheet_in b)) ≡ 24 + 16 * set_count b + 16 * total_in (set_count b) b 24
  unfolding sheet_bytes head_bytes sheet_in
  sheet_length_lem h =
      let n = set_count b in
      let ws = sets_in n b 24 (24 + 16 * n) in
      simp length-append
      (omega (arith, le_length 4 (word 4 b 0), le_length 2 (word 2 b 4), part_length b 8 16 h, contents_length 0 ws, sets_count n b 24 (24 + 16 * n), bodies_length n b 24 (24 + 16 * n)))

  -- WHAT A PROGRAM TESTS OF A SHEET
  pub is_sheet_by : is_sheet b ≡ sheet_ok b
  unfolding is_sheet well_formed sound_sheet sheet_ok head_ok state_ok none_noticed bare sheet_in ordered
  is_sheet_by = same_tests (is_sheet b) (sheet_ok b) to from
    where
      n : ℕ
      n = set_count b

      k : ℕ
      k = 24 + 16 * set_count b

      to : is_sheet b ≡ true → sheet_ok b ≡ true
      to e =
          let s = left _ _ e in
          let s₂ = right _ _ (right _ _ s) in
          let s₄ = right _ _ (right _ _ s₂) in
          let s₅ = right _ _ s₄ in
          let s₆ = right _ _ s₅ in
          let s₇ = right _ _ s₆ in
          let s₈ = right _ _ s₇ in
          let sets = left _ _ s₈ in
          let few : length (sets_in n b 24 k) ≤ 64 = leb-true _ _ (left _ _ s₆) in
          let head : 24 ≤ length b = part_long b (eqb-true _ _ (left _ _ s₄)) in
          let long : length b ≡ 24 + 16 * n + 16 * total_in n b 24 = sym (ap length (same→ (sheet_bytes (sheet_in b)) b (right _ _ e))) ∙ sheet_length_lem head in
          let written = sym (sheet_written long (omega (arith, sets_count n b 24 k, total_few (word 4 b 0) (word 2 b 4) n b 24 k sets))) ∙ right _ _ e in
          both (le-leb 24 (length b) head)
          (both
          (both (left _ _ s)
          (both (left _ _ s₂)
          (both (both (left _ _ written) (rw (sets_count n b 24 k) at (right _ _ s₈))) (rw (sets_count n b 24 k) at (left _ _ s₆)))))
          (both (le-leb k (length b) (omega arith))
          (both ((sets_says b o 0 0 n 24 k).test (sets, left _ _ (right _ _ written), right _ _ (right _ _ written), omega arith, rw (csns_of n b 24 k) at (left _ _ s₇)))
          (sym (notices_by b head) ∙ left _ _ s₅))))

      from : sheet_ok b ≡ true → is_sheet b ≡ true
      from e =
          let head : 24 ≤ length b = leb-true _ _ (left _ _ e) in
          let e₁ = right _ _ e in
          let h = left _ _ e₁ in
          let h₂ = right _ _ (right _ _ h) in
          let state = left _ _ h₂ in
          let few : n ≤ 64 = leb-true _ _ (right _ _ h₂) in
          let e₃ = right _ _ (right _ _ e₁) in
          let sets = (sets_says b o 0 0 n 24 k).told (left _ _ e₃) in
          let long = sets.3 in
          let total = total_few (word 4 b 0) (word 2 b 4) n b 24 k sets.0 in
          both
          (both (left _ _ h)
          (both (→fits 4 _ (word_fits 4 b 0 o))
          (both (left _ _ (right _ _ h))
          (both (→fits 2 _ (word_fits 2 b 4 o))
          (both (eq-eqb _ _ (part_length b 8 16 head))
          (both (notices_by b head ∙ right _ _ e₃)
          (both (rw (sets_count n b 24 k) (right _ _ h₂))
          (both (rw (csns_of n b 24 k) sets.4)
          (both sets.0 (rw (sets_count n b 24 k) (right _ _ state)))))))))))
          (sheet_written (omega arith) (omega arith) ∙ both (left _ _ state) (both sets.1 sets.2))
