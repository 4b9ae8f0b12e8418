-- The tests of the contents and the bodies decide whether the sets are sound and written as these bytes.
use Rattle.std.specs.Prelude.{if◌then◌else◌}
use Prim.Native.Nat.{ℕ, zero, suc, ◌+◌, ◌*◌, ◌^◌, ◌≤◌, ◌<◌}
use mathlib.Core.Path.{◌≡◌, refl, sym, ap, ◌∙◌}
use mathlib.Core.Bool.{Bool, true, false}
use mathlib.Core.List.{List, [], ◌∷◌, ◌++◌, map, append_assoc}
use native.Mathlib.Omega.{arith}
use borrow.Author.Tests.{le-leb, eq-eqb, ne_eqb, leb-true, eqb-true}
use lib.ListN.{length, drop, length-append}
use lib.Dec.{eqb}
use Rattle.words.specs.Words.{Bytes, le, word}
use Rattle.words.specs.WordLaws.{word_fits}
use Rattle.rules.specs.Lists.{◌and◌, ◌or◌, all, keep, count, flat, ascend_from, ascend, same}
use Rattle.rules.specs.Numbers.{master_of}
use Rattle.rules.specs.Sheet.{csn_of, sets_of, sound_records, sound_set, records_bytes, records_in, contents_from, bodies, sets_in}
use Rattle.laws.specs.Tests.{left, right, both}
use Rattle.laws.specs.FormLaws.{→fits}
use Rattle.laws.specs.SheetLaws.{records_length, records_count}
use Rattle.laws.specs.Says.{Says}
use Rattle.examine.specs.SheetForm.{count_at, entry_ok, above, set_ok, sets_ok, csns_in, sets_by}
use Rattle.laws.specs.BytesHere.{Octets, and_assoc, word_here, value_here}
use Rattle.examine.proofs.RecordsBy.{zeros_in, records_here, set_says}

-- how many records n sets have
pub total_in : ℕ → Bytes → ℕ → ℕ
total_in zero b c = 0
total_in (suc n) b c = count_at b c + total_in n b (c + 16)

-- each set's first record is the sum of the earlier counts
pub firsts_in : ℕ → ℕ → Bytes → ℕ → Bool
firsts_in first zero b c = true
firsts_in first (suc n) b c = eqb first (word 2 b (c + 12)) and firsts_in (first + count_at b c) n b (c + 16)

-- the zeros of the records of n sets
pub set_zeros : ℕ → Bytes → ℕ → ℕ → Bool
set_zeros zero b c at = true
set_zeros (suc n) b c at = zeros_in (count_at b c) b at and set_zeros n b (c + 16) (at + 16 * count_at b c)

-- csns strictly ascend, and from above `prev` if a record stands before them
unfoldable pub ordered : ℕ → ℕ → List ℕ → Bool
ordered zero prev csns = ascend csns
ordered (suc first) prev csns = ascend_from prev csns

ordered_none : (first prev : ℕ) → ordered first prev [] ≡ true
unfolding ordered ascend ascend_from
ordered_none zero prev = refl
ordered_none (suc first) prev = refl

ordered_after : (first prev : ℕ) (csns : List ℕ) → 1 ≤ first → ordered first prev csns ≡ ascend_from prev csns
unfolding ordered
ordered_after zero prev csns h = absurd (omega arith)
ordered_after (suc first) prev csns h = refl

-- a set of k records stands before the other csns
ordered_more : (first prev k x : ℕ) (csns : List ℕ) → 1 ≤ k → ordered first prev (x ∷ csns) ≡ above first prev x and ordered (first + k) x csns
unfolding ordered ascend ascend_from above ◌and◌ ◌or◌
ordered_more zero prev k x csns h = sym (ordered_after (0 + k) x csns (omega arith))
ordered_more (suc first) prev k x csns h = rw (ne_eqb (suc first) 0 (λ e. omega arith), ordered_after (suc first + k) x csns (omega arith))

pub csns_of : (n : ℕ) (b : Bytes) (c at : ℕ) → map csn_of (sets_in n b c at) ≡ csns_in n b c
unfolding sets_in csns_in
csns_of zero b c at = refl
csns_of (suc n) b c at = ap (λ (l : List ℕ). word 8 b c ∷ l) (csns_of n b (c + 16) (at + 16 * count_at b c))

module _ {A : Type 0} (f : A → ℕ) (p : ℕ → Bool) where
  count_map : (xs : List A) → count (λ x. p (f x)) xs ≡ count p (map f xs)
  unfolding count keep
  count_map [] = refl
  count_map (x ∷ xs) = one (p (f x)) (keep (λ y. p (f y)) xs) (keep p (map f xs)) (count_map xs)
    where
      one : (t : Bool) (ys : List A) (zs : List ℕ) → length ys ≡ length zs → length (if t then x ∷ ys else ys) ≡ length (if t then f x ∷ zs else zs)
      one true ys zs e = ap suc e
      one false ys zs e = e

-- a master's sets are counted by their csns
pub sets_of_lem : (m n : ℕ) (b : Bytes) (c at : ℕ) → sets_of m (sets_in n b c at) ≡ sets_by m (csns_in n b c)
unfolding sets_of sets_by
sets_of_lem m n b c at = count_map csn_of (λ x. eqb (master_of x) m) (sets_in n b c at) ∙ ap (sets_by m) (csns_of n b c at)

pub bodies_length : (n : ℕ) (b : Bytes) (c at : ℕ) → length (bodies (sets_in n b c at)) ≡ 16 * total_in n b c
unfolding bodies flat sets_in total_in
bodies_length zero b c at = refl
bodies_length (suc n) b c at =
    let rs = records_in (count_at b c) b at in
    length-append (records_bytes rs) (bodies (sets_in n b (c + 16) (at + 16 * count_at b c)))
    ∙ omega (arith, records_length rs, records_count (count_at b c) b at, bodies_length n b (c + 16) (at + 16 * count_at b c))

-- sound sets have few records
pub total_few : (e r n : ℕ) (b : Bytes) (c at : ℕ) → all (sound_set e r) (sets_in n b c at) ≡ true → total_in n b c ≤ 8 * n
unfolding all sets_in total_in sound_set sound_records
total_few e r zero b c at h = omega arith
total_few e r (suc n) b c at h =
    let k = count_at b c in
    let few : length (records_in k b at) ≤ 8 = leb-true _ _ (left _ _ (right _ _ (right _ _ (right _ _ (right _ _ (left _ _ h)))))) in
    omega (arith, records_count k b at, total_few e r n b (c + 16) (at + 16 * k) (right _ _ h))

module _ (b : Bytes) (o : Octets b) where
  -- the contents are written as they were read if the first records are right
  pub contents_here : (first n c at : ℕ) (rest : Bytes) → c + 16 * n ≤ length b → first + total_in n b c < 256 ^ 2
      → same (contents_from first (sets_in n b c at) ++ rest) (drop c b) ≡ firsts_in first n b c and same rest (drop (c + 16 * n) b)
  unfolding contents_from sets_in firsts_in total_in ◌and◌
  contents_here first zero c at rest h f = let e : c + 16 * 0 ≡ c = omega arith in rw e
  contents_here first (suc n) c at rest h f =
      let k = count_at b c in
      let more = contents_from (first + k) (sets_in n b (c + 16) (at + 16 * k)) ++ rest in
      let l₁₄ = le 2 k ++ more in
      let l₁₂ = le 2 first ++ l₁₄ in
      let l₈ = le 4 (word 4 b (c + 8)) ++ l₁₂ in
      let e : c + 16 * suc n ≡ c + 16 + 16 * n = omega arith in
      let apart : contents_from first (sets_in (suc n) b c at) ++ rest ≡ le 8 (word 8 b c) ++ l₈ = simp (append_assoc, records_count k b at) in
      rw (
        apart,
        word_here b o 8 c (c + 8) l₈ refl (omega arith),
        word_here b o 4 (c + 8) (c + 12) l₁₂ (omega arith) (omega arith),
        value_here b o 2 first (c + 12) (c + 14) l₁₄ (omega arith) (omega arith) (omega arith),
        word_here b o 2 (c + 14) (c + 16) more (omega arith) (omega arith),
        contents_here (first + k) n (c + 16) (at + 16 * k) rest (omega arith) (omega arith),
        e,
        ← and_assoc,
      )

  -- and the bodies if the zeros are there
  pub bodies_here : (n c at : ℕ) (rest : Bytes) → at + 16 * total_in n b c ≤ length b
      → same (bodies (sets_in n b c at) ++ rest) (drop at b) ≡ set_zeros n b c at and same rest (drop (at + 16 * total_in n b c) b)
  unfolding bodies flat sets_in total_in set_zeros ◌and◌
  bodies_here zero c at rest h = let e : at + 16 * 0 ≡ at = omega arith in rw e
  bodies_here (suc n) c at rest h =
      let k = count_at b c in
      let rs = records_bytes (records_in k b at) in
      let more = bodies (sets_in n b (c + 16) (at + 16 * k)) in
      let e : at + 16 * (k + total_in n b (c + 16)) ≡ at + 16 * k + 16 * total_in n b (c + 16) = omega arith in
      ap (λ (l : Bytes). same l (drop at b)) (append_assoc rs more rest)
      ∙ records_here b o k at (more ++ rest) (omega arith)
      ∙ rw (bodies_here n (c + 16) (at + 16 * k) rest (omega arith), e, ← and_assoc)

  -- what is tested of n sets: they are sound, the first records and the zeros are right, the bytes end with the last body, and the csns ascend
  pub sets_says : (first prev n c at : ℕ)
      → Says (sets_ok first prev n b c at)
      ((all (sound_set (word 4 b 0) (word 2 b 4)) (sets_in n b c at) ≡ true) × (firsts_in first n b c ≡ true) × (set_zeros n b c at ≡ true) × (at + 16 * total_in n b c ≡ length b) × (ordered first prev (csns_in n b c) ≡ true))
  unfolding sets_ok set_ok entry_ok sound_set all sets_in firsts_in set_zeros total_in csns_in
  sets_says first prev zero c at = record {
    told = λ e. (refl, refl, refl, let h = eqb-true at (length b) e in omega arith, ordered_none first prev);
    test = λ f. eq-eqb at (length b) (omega arith);
  }
  sets_says first prev (suc n) c at =
      let k = count_at b c in
      let csns = csns_in n b (c + 16) in
      let body = set_says b o k at in
      let rest = sets_says (first + k) (word 8 b c) n (c + 16) (at + 16 * k) in
      let csn = →fits 8 (word 8 b c) (word_fits 8 b c o) in
      record {
        told = λ e.
            let one = left _ _ e in
            let entry = left _ _ (right _ _ one) in
            let counts = right _ _ (right _ _ (right _ _ entry)) in
            let s = body.told (both (left _ _ counts) (both (right _ _ counts) (right _ _ (right _ _ (right _ _ one))))) in
            let r = rest.told (right _ _ e) in (
              both (both csn (both (left _ _ entry) (both (left _ _ (right _ _ entry)) s.0))) r.0,
              both (left _ _ (right _ _ (right _ _ entry))) r.1,
              both s.1 r.2,
              let h = r.3 in omega arith,
              ordered_more first prev k (word 8 b c) csns (leb-true _ _ (left _ _ counts)) ∙ both (left _ _ one) r.4,
            );
        test = λ f.
            let sound = right _ _ (left _ _ f.0) in
            let s = body.test (right _ _ (right _ _ sound), left _ _ f.2) in
            let long = f.3 in
            let csns-ascend = sym (ordered_more first prev k (word 8 b c) csns (leb-true _ _ (left _ _ s))) ∙ f.4 in
            both
            (both (left _ _ csns-ascend)
            (both
            (both (left _ _ sound) (both (left _ _ (right _ _ sound)) (both (left _ _ f.1) (both (left _ _ s) (left _ _ (right _ _ s))))))
            (both (le-leb (at + 16 * k) (length b) (omega arith)) (right _ _ (right _ _ s)))))
            (rest.test (right _ _ f.0, right _ _ f.1, right _ _ f.2, omega arith, right _ _ csns-ascend));
      }
