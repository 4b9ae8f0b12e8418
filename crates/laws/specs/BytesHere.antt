-- The bytes that a value is written as, held against the bytes at a place: one law for each sort of field, which tests the field and
-- goes on behind it.
use Prim.Native.Nat.{ℕ, suc, ◌+◌, ◌^◌, ◌≤◌, ◌<◌}
use Rattle.std.specs.Prelude.{◌≡◌, Bool, false, [], ◌∷◌, ◌++◌, length, get_or}
use Rattle.std.proofs.Math.Path.{refl, sym, ap}
use Rattle.std.proofs.Common.{◌∙◌, eq-eqb, eqb-true, Fits, take-append-drop, drop-cons, drop-drop, take_at}
use Rattle.std.proofs.Math.Bool.{true}
use native.Mathlib.Omega.{arith}
use Rattle.std.proofs.lemmas.Bool.{eqb-false}
use Rattle.std.specs.Int.{w8}
use Rattle.std.proofs.Math.ListN.{take, drop}
use Rattle.std.proofs.Math.Dec.{eqb}
use Rattle.words.specs.Words.{Bytes, le, word, part}
use Rattle.words.specs.WordLaws.{le_word, le_length, word_le, word_fits}
use Rattle.rules.specs.Lists.{◌and◌, same}
use Rattle.laws.specs.Tests.{not_true_false}
use Rattle.laws.specs.FormLaws.{same→}

-- each element is a byte, as a slice of u8 has it
abbrev pub Octets : Bytes → Type 0
Octets b = (k : ℕ) → get_or b k 0 < 256

pub octets : (b : Bytes) → ((k : ℕ) → Fits w8 (get_or b k 0)) → Octets b
octets b h k = (h k).fits

pub and_assoc : (x y z : Bool) → (x and y) and z ≡ x and (y and z)
unfolding ◌and◌
and_assoc true y z = refl
and_assoc false y z = refl

pub and_true : (x : Bool) → x and true ≡ x
unfolding ◌and◌
and_true true = refl
and_true false = refl

same_front : (xs r t : Bytes) → same (xs ++ r) (xs ++ t) ≡ same r t
unfolding same ◌and◌
same_front [] r t = refl
same_front (x ∷ xs) r t = rw (eq-eqb x x refl) (same_front xs r t)

module _ (b : Bytes) where
  -- bytes that are their own, n of them
  pub part_here : (at n k : ℕ) (rest : Bytes) → k ≡ at + n → same (part b at n ++ rest) (drop at b) ≡ same rest (drop k b)
  unfolding part
  part_here at n k rest e =
      let p = take n (drop at b) in
      let s : drop at b ≡ p ++ drop k b = sym (take-append-drop n (drop at b)) ∙ ap (λ (l : Bytes). p ++ l) (drop-drop n at b ∙ ap (λ (j : ℕ). drop j b) (sym e)) in
      ap (same (p ++ rest)) s ∙ same_front p rest (drop k b)

  -- one byte
  pub byte_here : (x at k : ℕ) (rest : Bytes) → k ≡ at + 1 → k ≤ length b → same (x ∷ rest) (drop at b) ≡ eqb x (get_or b at 0) and same rest (drop k b)
  unfolding same
  byte_here x at k rest e h =
      let j : suc at ≡ k = omega arith in
      ap (same (x ∷ rest)) (drop-cons b at 0 (omega arith)) ∙ ap (λ (i : ℕ). eqb x (get_or b at 0) and same rest (drop i b)) j

  -- the byte that was read there
  pub itself_here : (at k : ℕ) (rest : Bytes) → k ≡ at + 1 → k ≤ length b → same (get_or b at 0 ∷ rest) (drop at b) ≡ same rest (drop k b)
  unfolding ◌and◌
  itself_here at k rest e h =
      byte_here (get_or b at 0) at k rest e h ∙ ap (λ (t : Bool). t and same rest (drop k b)) (eq-eqb (get_or b at 0) (get_or b at 0) refl)

  -- the word that was read there
  pub word_here : Octets b → (n at k : ℕ) (rest : Bytes) → k ≡ at + n → k ≤ length b → same (le n (word n b at) ++ rest) (drop at b) ≡ same rest (drop k b)
  word_here o n at k rest e h = rw (le_word n b at (omega arith) o) (part_here at n k rest e)

  -- another word
  pub value_here : Octets b → (n x at k : ℕ) (rest : Bytes) → x < 256 ^ n → k ≡ at + n → k ≤ length b
      → same (le n x ++ rest) (drop at b) ≡ eqb x (word n b at) and same rest (drop k b)
  unfolding ◌and◌
  value_here o n x at k rest f e h = go (eqb x (word n b at)) refl
    where
      differs : (x ≡ word n b at → ⊥) → same (le n x ++ rest) (drop at b) ≡ true → ⊥
      differs ne s =
          let w : le n x ≡ part b at n = sym (take_at (le n x) rest n (le_length n x)) ∙ ap (take n) (same→ (le n x ++ rest) (drop at b) s) ∙ (unfold part in refl) in
          let v : le n x ≡ le n (word n b at) = w ∙ sym (le_word n b at (omega arith) o) in
          ne (sym (word_le n x f) ∙ ap (λ (l : Bytes). word n l 0) v ∙ word_le n (word n b at) (word_fits n b at o))

      go : (t : Bool) → eqb x (word n b at) ≡ t → same (le n x ++ rest) (drop at b) ≡ t and same rest (drop k b)
      go true q = rw (eqb-true x (word n b at) q) (word_here o n at k rest e h)
      go false q = not_true_false (differs (eqb-false x (word n b at) q))
