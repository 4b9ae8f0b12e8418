-- The laws of words, each over the width: a word of m + n bytes is its low m and its high n bytes, read or written; what was written
-- is read back; runs of stores are one store.
use Rattle.std.specs.Prelude.{◌≡◌, [], ◌∷◌, ◌++◌, ℕ, zero, suc, ◌+◌, ◌*◌, ◌/◌, ◌%◌, ◌^◌, ◌≤◌, ◌<◌, length, get_or, set, take, drop}
use Rattle.std.proofs.Math.Path.{refl}
use Rattle.std.proofs.Common.{sym, ap, ◌∙◌, append_assoc, drop-drop, zero-add, add-zero, suc-add, add-suc, add_assoc, mul-add, mul_assoc, one-mul, pow-suc, div-one, arith, lit<, length-set, length-take, length-drop, get_or-set_other, get_or-drop, drop-cons, take_all}
use Rattle.std.proofs.Math.Nat.{pow-succ', div-div-eq-div-mul, one-le-pow}
use Rattle.std.proofs.Math.Arith.{mod-mul}
use Rattle.std.proofs.lemmas.List.Edits.{sets-eq}
use Rattle.std.proofs.Math.Seq.{length-sets, get_or-set_same, paste}
use borrow.Rule.Slice.PartMut.{put_mid}
use Rattle.words.specs.Words.{Bytes, le, word, part, stored}

-- ---- reading

pub word_add : (m n : ℕ) (s : Bytes) (at : ℕ) → word (m + n) s at ≡ word m s at + 256 ^ m * word n s (at + m)
unfolding word
word_add zero n s at = simp (zero-add, add-zero, one-mul)
word_add (suc m) n s at =
    simp (suc-add, word_add m n s (suc at), add-suc, pow-succ', mul-add, mul_assoc, add_assoc)

-- a word depends on its own bytes alone
pub word_same : (n : ℕ) (s t : Bytes) (at : ℕ) → ((k : ℕ) → at ≤ k → k < at + n → get_or s k 0 ≡ get_or t k 0) → word n s at ≡ word n t at
unfolding word
word_same zero s t at h = refl
word_same (suc n) s t at h =
    rw (h at (omega arith) (omega arith), word_same n s t (suc at) (λ k a b. h k (omega arith) (omega arith)))

-- a word in a part of a list, and behind a list
pub word_drop : (n k : ℕ) (s : Bytes) (at : ℕ) → word n (drop k s) at ≡ word n s (k + at)
unfolding word
word_drop zero k s at = refl
word_drop (suc n) k s at = rw (get_or-drop, word_drop n k s (suc at), add-suc)

-- ---- writing

pub le_length : (n x : ℕ) → length (le n x) ≡ n
unfolding le
le_length zero x = refl
le_length (suc n) x = ap suc (le_length n (x / 256))

pub le_add : (m n x : ℕ) → le (m + n) x ≡ le m x ++ le n (x / 256 ^ m)
unfolding le
le_add zero n x = rw (zero-add, div-one)
le_add (suc m) n x = rw (suc-add, pow-succ', ← div-div-eq-div-mul) (ap (λ (l : Bytes). x % 256 ∷ l) (le_add m n (x / 256)))

pub le_mod : (n x : ℕ) → le n (x % 256 ^ n) ≡ le n x
unfolding le
le_mod zero x = refl
le_mod (suc n) x =
    let e : x % 256 ^ suc n ≡ (x / 256 % 256 ^ n) * 256 + x % 256 = rw pow-suc (mod-mul x (one-le-pow n 256 (lit< tt)) (lit< tt)) in
    let low : x % 256 ^ suc n % 256 ≡ x % 256 = omega arith in
    let high : x % 256 ^ suc n / 256 ≡ x / 256 % 256 ^ n = omega arith in
    rw (low, high) (ap (λ (l : Bytes). x % 256 ∷ l) (le_mod n (x / 256)))

pub length_stored : (l : Bytes) (at : ℕ) (bs : Bytes) → length (stored l at bs) ≡ length l
unfolding stored
length_stored l at bs = length-sets l at bs

-- bytes stored where the bytes before them end
-- nothing stored changes nothing
pub nothing_stored : (l : Bytes) (at : ℕ) → l ≡ stored l at []
unfolding stored
nothing_stored l at = refl

pub stored_append : (l : Bytes) (at : ℕ) (xs ys : Bytes) → stored l at (xs ++ ys) ≡ stored (stored l at xs) (at + length xs) ys
unfolding stored
stored_append l at [] ys = rw add-zero
stored_append l at (x ∷ xs) ys = rw (add-suc, ← suc-add at (length xs)) (stored_append (set l at x) (suc at) xs ys)

pub then_stored : (l₀ : Bytes) {l₁ l₂ : Bytes} (at k : ℕ) (xs ys : Bytes) → l₁ ≡ stored l₀ at xs → l₂ ≡ stored l₁ k ys → k ≡ at + length xs → l₂ ≡ stored l₀ at (xs ++ ys)
then_stored l₀ at k xs ys p q e = q ∙ rw (p, e) (sym (stored_append l₀ at xs ys))

-- bytes stored at the front, with the rest behind them
pub stored_front : (l bs : Bytes) → length bs ≤ length l → stored l 0 bs ≡ bs ++ drop (length bs) l
unfolding stored
stored_front l bs h = sets-eq bs l 0 (omega arith) ∙ rw (zero-add (length bs))

-- a word of m + m bytes, written by its halves
pub halves : (m : ℕ) (l₀ l₁ l₂ : Bytes) (at x : ℕ) → l₁ ≡ stored l₀ at (le m (x % 256 ^ m)) → l₂ ≡ stored l₁ (at + m) (le m (x / 256 ^ m)) → l₂ ≡ stored l₀ at (le (m + m) x)
halves m l₀ l₁ l₂ at x p q =
    then_stored l₀ at (at + m) (le m x) (le m (x / 256 ^ m)) (p ∙ ap (stored l₀ at) (le_mod m x)) q (ap (λ (k : ℕ). at + k) (sym (le_length m x)))
    ∙ ap (stored l₀ at) (sym (le_add m m x))

-- ---- what was written is read back, and nothing else changed

pub stored_below : (l : Bytes) (at : ℕ) (bs : Bytes) (j : ℕ) → j < at → get_or (stored l at bs) j 0 ≡ get_or l j 0
unfolding stored
stored_below l at [] j h = refl
stored_below l at (b ∷ bs) j h = stored_below (set l at b) (suc at) bs j (omega arith) ∙ get_or-set_other l at j b 0 (λ e. omega arith)

pub stored_above : (l : Bytes) (at : ℕ) (bs : Bytes) (j : ℕ) → at + length bs ≤ j → get_or (stored l at bs) j 0 ≡ get_or l j 0
unfolding stored
stored_above l at [] j h = refl
stored_above l at (b ∷ bs) j h = stored_above (set l at b) (suc at) bs j (omega arith) ∙ get_or-set_other l at j b 0 (λ e. omega arith)

-- WHAT WAS WRITTEN IS READ BACK
pub word_stored : (n : ℕ) (l : Bytes) (at x : ℕ) → at + n ≤ length l → x < 256 ^ n → word n (stored l at (le n x)) at ≡ x
unfolding word le
word_stored zero l at x h k = omega arith
word_stored (suc n) l at x h k =
    let k' : x / 256 < 256 ^ n = omega (arith, rw pow-suc at k) in
    let room : suc at + n ≤ length (set l at (x % 256)) = simp length-set (omega arith) in
    let split : stored l at (x % 256 ∷ le n (x / 256)) ≡ stored (set l at (x % 256)) (suc at) (le n (x / 256)) = unfold stored in refl in
    rw (
      split,
      stored_below (set l at (x % 256)) (suc at) (le n (x / 256)) at (omega arith),
      get_or-set_same l at (x % 256) 0 (omega arith),
      word_stored n (set l at (x % 256)) (suc at) (x / 256) room k',
    )
    (omega arith)

-- a word before or after what was stored
pub word_below : (n : ℕ) (l : Bytes) (at : ℕ) (bs : Bytes) (j : ℕ) → j + n ≤ at → word n (stored l at bs) j ≡ word n l j
word_below n l at bs j h = word_same n (stored l at bs) l j (λ k a b. stored_below l at bs k (omega arith))

pub word_above : (n : ℕ) (l : Bytes) (at : ℕ) (bs : Bytes) (j : ℕ) → at + length bs ≤ j → word n (stored l at bs) j ≡ word n l j
word_above n l at bs j h = word_same n (stored l at bs) l j (λ k a b. stored_above l at bs k (omega arith))

-- a number that fits comes back from its bytes
pub word_le : (n x : ℕ) → x < 256 ^ n → word n (le n x) 0 ≡ x
unfolding word le
word_le zero x h = omega arith
word_le (suc n) x h =
    let k : x / 256 < 256 ^ n = omega (arith, rw pow-suc at h) in
    let e : word n (x % 256 ∷ le n (x / 256)) 1 ≡ word n (le n (x / 256)) 0 = sym (word_drop n 1 (x % 256 ∷ le n (x / 256)) 0) in
    rw (e, word_le n (x / 256) k) (omega arith)

-- and the bytes from the number that they stand for
pub le_word : (n : ℕ) (s : Bytes) (at : ℕ) → at + n ≤ length s → ((k : ℕ) → get_or s k 0 < 256) → le n (word n s at) ≡ part s at n
unfolding word le part
le_word zero s at h b = refl
le_word (suc n) s at h b =
    let low : (get_or s at 0 + 256 * word n s (suc at)) % 256 ≡ get_or s at 0 = omega (arith, b at) in
    let high : (get_or s at 0 + 256 * word n s (suc at)) / 256 ≡ word n s (suc at) = omega (arith, b at) in
    rw (low, high, drop-cons s at 0 (omega arith), le_word n s (suc at) (omega arith) b)

pub word_fits : (n : ℕ) (s : Bytes) (at : ℕ) → ((k : ℕ) → get_or s k 0 < 256) → word n s at < 256 ^ n
unfolding word
word_fits zero s at b = omega arith
word_fits (suc n) s at b = rw pow-suc (omega (arith, b at, word_fits n s (suc at) b))

-- ---- copying

pub part_length : (s : Bytes) (at n : ℕ) → at + n ≤ length s → length (part s at n) ≡ n
unfolding part
part_length s at n h = simp (length-take, length-drop) (omega arith)

-- a part that is the whole
pub whole_part : (l : Bytes) → part l 0 (length l) ≡ l
unfolding part
whole_part l = take_all (length l) l (omega arith)

-- a copy of n bytes is a store of them
pub copied : (d : Bytes) (at : ℕ) (s : Bytes) (from n : ℕ) → at + n ≤ length d → from + n ≤ length s → paste d at (drop from s) n ≡ stored d at (part s from n)
unfolding stored part
copied d at s from n h k =
    let m : length (take n (drop from s)) ≡ n = simp (length-take, length-drop) (omega arith) in
    sym (sets-eq (take n (drop from s)) d at (omega arith) ∙ ap (λ (x : ℕ). take at d ++ take n (drop from s) ++ drop (at + x) d) m)

-- a part overwritten, as std's copies leave it, is a store
pub part_stored : (l : Bytes) (at k : ℕ) (ys bs : Bytes) → ys ≡ bs → k ≡ length bs → at + k ≤ length l → put_mid at k l ys ≡ stored l at bs
unfolding stored
part_stored l at k ys bs e n h =
    rw (e, n, drop-drop) (sym (append_assoc (take at l) bs (drop (at + length bs) l)) ∙ sym (sets-eq bs l at (omega arith)))
