-- The tests of a body's bytes decide whether its records are sound and written as these bytes.
use Prim.Native.Nat.{ℕ, zero, suc, ◌+◌, ◌*◌, ◌/◌, ◌%◌, ◌-◌, ◌≤◌, ◌<◌}
use mathlib.Core.Path.{◌≡◌, refl, sym, ap, ◌∙◌}
use mathlib.Core.Bool.{Bool, true, false}
use mathlib.Core.List.{[], ◌∷◌, ◌++◌, map, append_assoc, append-nil}
use native.Mathlib.Omega.{arith}
use borrow.Author.Tests.{lt-ltb, eq-eqb, ltb-true, eqb-true}
use mir.Val.{Fits}
use mir.Syntax.{w8}
use lib.ListN.{length, get_or, drop, drop_of_length-le}
use lib.Dec.{leb}
use Rattle.words.specs.Words.{Bytes, le, word}
use Rattle.words.specs.WordLaws.{word_fits}
use Rattle.rules.specs.Lists.{◌and◌, all, flat, same, ascend_from}
use Rattle.rules.specs.Forms.{well_formed}
use Rattle.rules.specs.Sheet.{record_key, sound_value, sound_record, record_bytes, records_bytes, record_in, records_in, max_records, offered_records, sound_records, are_records}
use Rattle.laws.specs.Tests.{left, right, both, same_tests}
use Rattle.laws.specs.FormLaws.{→fits, same→}
use Rattle.laws.specs.SheetLaws.{records_length, records_count}
use Rattle.laws.specs.Loops.{stops, goes}
use Rattle.laws.specs.Says.{Says}
use Rattle.examine.specs.SheetForm.{zeros, record_ok, body_ok, records_ok}
use Rattle.laws.specs.BytesHere.{Octets, octets, and_assoc, and_true, byte_here, itself_here, word_here}

-- a walk that is behind the first i of n records: what is left to test decides the whole, and stops, goes on, or ends
module _ {whole : Bool} (n i prev : ℕ) (b : Bytes) (at : ℕ) (left-of : whole ≡ body_ok (n - i) prev b (at + 16 * i)) where
  body_more : i < n → body_ok (n - i) prev b (at + 16 * i) ≡ record_ok prev b (at + 16 * i) and body_ok (n - (i + 1)) (word 4 b (at + 16 * i + 4)) b (at + 16 * (i + 1))
  unfolding body_ok
  body_more h =
      let e : n - i ≡ suc (n - (i + 1)) = omega arith in
      let f : at + 16 * (i + 1) ≡ at + 16 * i + 16 = omega arith in
      rw (e, f)

  pub body_stops : i < n → record_ok prev b (at + 16 * i) ≡ false → false ≡ whole
  body_stops h = stops _ _ left-of (body_more h)

  pub body_goes : i < n → record_ok prev b (at + 16 * i) ≡ true → {key : ℕ} → key ≡ word 4 b (at + 16 * i + 4) → whole ≡ body_ok (n - (i + 1)) key b (at + 16 * (i + 1))
  body_goes h e k = goes _ _ left-of (body_more h) e ∙ rw k

  pub body_ends : n ≤ i → true ≡ whole
  unfolding body_ok
  body_ends h = let e : n - i ≡ 0 = omega arith in sym (left-of ∙ rw e)

-- three zero bytes in each of n records
pub zeros_in : ℕ → Bytes → ℕ → Bool
zeros_in zero b at = true
zeros_in (suc n) b at = zeros b at and zeros_in n b (at + 16)

module _ (b : Bytes) (o : Octets b) where
  -- a record is written as the bytes that it was read from if these have the zeros
  record_here : (at : ℕ) (rest : Bytes) → at + 16 ≤ length b
      → same (record_bytes (record_in b at) ++ rest) (drop at b) ≡ zeros b at and same rest (drop (at + 16) b)
  unfolding record_bytes record_in zeros
  record_here at rest h =
      let l₈ = le 8 (word 8 b (at + 8)) ++ rest in
      let l₄ = le 4 (word 4 b (at + 4)) ++ l₈ in
      let apart : record_bytes (record_in b at) ++ rest ≡ get_or b at 0 ∷ 0 ∷ 0 ∷ 0 ∷ l₄ = simp append_assoc in
      rw (
        apart,
        itself_here b at (at + 1) (0 ∷ 0 ∷ 0 ∷ l₄) refl (omega arith),
        byte_here b 0 (at + 1) (at + 2) (0 ∷ 0 ∷ l₄) (omega arith) (omega arith),
        byte_here b 0 (at + 2) (at + 3) (0 ∷ l₄) (omega arith) (omega arith),
        byte_here b 0 (at + 3) (at + 4) l₄ (omega arith) (omega arith),
        word_here b o 4 (at + 4) (at + 8) l₈ (omega arith) (omega arith),
        word_here b o 8 (at + 8) (at + 16) rest (omega arith) (omega arith),
        and_assoc,
        and_assoc,
      )

  pub records_here : (n at : ℕ) (rest : Bytes) → at + 16 * n ≤ length b
      → same (records_bytes (records_in n b at) ++ rest) (drop at b) ≡ zeros_in n b at and same rest (drop (at + 16 * n) b)
  unfolding records_bytes records_in flat zeros_in ◌and◌
  records_here zero at rest h = let e : at + 16 * 0 ≡ at = omega arith in rw e
  records_here (suc n) at rest h =
      let e : at + 16 * suc n ≡ at + 16 + 16 * n = omega arith in
      let r = record_bytes (record_in b at) in
      let rs = records_bytes (records_in n b (at + 16)) in
      ap (λ (l : Bytes). same l (drop at b)) (append_assoc r rs rest)
      ∙ record_here at (rs ++ rest) (omega arith)
      ∙ rw (records_here n (at + 16) rest (omega arith), e, ← and_assoc)

  record_says : (prev at : ℕ) → Says (record_ok prev b at) ((prev < word 4 b (at + 4)) × (sound_record (record_in b at) ≡ true) × (zeros b at ≡ true))
  unfolding record_ok sound_record sound_value record_in
  record_says prev at =
      let key = →fits 4 (word 4 b (at + 4)) (word_fits 4 b (at + 4) o) in
      let value = →fits 8 (word 8 b (at + 8)) (word_fits 8 b (at + 8) o) in
      record {
        told = λ e.
            (ltb-true _ _ (left _ _ (right _ _ (right _ _ e))), both (left _ _ e) (both key (both value (right _ _ (right _ _ (right _ _ e))))), left _ _ (right _ _ e));
        test = λ f. both (left _ _ f.1) (both f.2 (both (lt-ltb _ _ f.0) (right _ _ (right _ _ (right _ _ f.1)))));
      }

  -- a body's tests: its keys ascend, its records are sound, and the zeros are there
  pub body_says : (n prev at : ℕ)
      → Says (body_ok n prev b at) ((ascend_from prev (map record_key (records_in n b at)) ≡ true) × (all sound_record (records_in n b at) ≡ true) × (zeros_in n b at ≡ true))
  unfolding body_ok records_in record_in zeros_in all ascend_from
  body_says zero prev at = record { told = λ e. (refl, refl, refl); test = λ f. refl }
  body_says (suc n) prev at =
      let here = record_says prev at in
      let rest = body_says n (word 4 b (at + 4)) (at + 16) in
      record {
        told = λ e.
            let h = here.told (left _ _ e) in
            let r = rest.told (right _ _ e) in
            (both (lt-ltb _ _ h.0) r.0, both h.1 r.1, both h.2 r.2);
        test = λ f.
            both (here.test (ltb-true _ _ (left _ _ f.0), left _ _ f.1, left _ _ f.2)) (rest.test (right _ _ f.0, right _ _ f.1, right _ _ f.2));
      }

  -- the same with the number of records, as a set has them
  pub set_says : (n at : ℕ) → Says (leb 1 n and leb n max_records and body_ok n 0 b at) ((sound_records (records_in n b at) ≡ true) × (zeros_in n b at ≡ true))
  unfolding sound_records
  set_says n at =
      record {
        told = λ e.
            let r = (body_says n 0 at).told (right _ _ (right _ _ e)) in
            (rw (records_count n b at) (both (left _ _ e) (both (left _ _ (right _ _ e)) (both r.0 r.1))), r.2);
        test = λ f.
            let s = rw (records_count n b at) at f.0 in
            let t = right _ _ (right _ _ s) in
            both (left _ _ s) (both (left _ _ (right _ _ s)) ((body_says n 0 at).test (left _ _ t, right _ _ t, f.1)));
      }

  -- bytes of the right length are written again if the zeros are there
  records_written : (n : ℕ) → length b ≡ 16 * n → same (records_bytes (records_in n b 0)) b ≡ zeros_in n b 0
  unfolding same
  records_written n e =
      let rs = records_bytes (records_in n b 0) in
      let none : drop (0 + 16 * n) b ≡ [] = drop_of_length-le b {i = 0 + 16 * n} (omega arith) in
      ap (λ (l : Bytes). same l b) (sym (append-nil rs)) ∙ records_here n 0 [] (omega arith) ∙ rw none (and_true (zeros_in n b 0))

  -- WHAT A PROGRAM TESTS OF AN OFFERED SET'S RECORDS
  pub are_records_by : are_records b ≡ records_ok b
  unfolding are_records well_formed offered_records records_ok
  are_records_by = same_tests (are_records b) (records_ok b) to from
    where
      n : ℕ
      n = length b / 16

      to : are_records b ≡ true → records_ok b ≡ true
      to e =
          let rs = records_in n b 0 in
          let w : records_bytes rs ≡ b = same→ (records_bytes rs) b (right _ _ e) in
          let long : length b ≡ 16 * n = sym (ap length w) ∙ records_length rs ∙ ap (λ (k : ℕ). 16 * k) (records_count n b 0) in
          both (eq-eqb (length b % 16) 0 (omega arith)) ((set_says n 0).test (left _ _ e, sym (records_written n long) ∙ right _ _ e))

      from : records_ok b ≡ true → are_records b ≡ true
      from e =
          let whole : length b % 16 ≡ 0 = eqb-true _ _ (left _ _ e) in
          let f = (set_says n 0).told (right _ _ e) in
          both f.0 (records_written n (omega arith) ∙ f.1)

-- of bytes as a slice has them
pub are_records_lem : (b : Bytes) → ((k : ℕ) → Fits w8 (get_or b k 0)) → are_records b ≡ records_ok b
are_records_lem b h = are_records_by b (octets b h)
