-- Laws of reading a form: a sound value comes back from its bytes, and what is read is written as the bytes that were read.
use Rattle.std.specs.Prelude.{ℕ, ◌<◌, ◌^◌, ◌≡◌, Bool, List, [], ◌∷◌, eqb, if◌then◌else◌, None, Some}
use Rattle.std.proofs.Math.Path.{refl, sym, ap}
use Rattle.std.proofs.Common.{◌∙◌, ap₂, ltb-true, lt-ltb, eqb-true, eq-eqb}
use Rattle.std.proofs.Math.Bool.{true, false}
use Rattle.std.proofs.lemmas.Bool.{false≢true}
use Rattle.std.proofs.lemmas.Option.{same_Some, none-some}
use Rattle.words.specs.Words.{Bytes}
use Rattle.rules.specs.Lists.{◌and◌, same}
use Rattle.rules.specs.Numbers.{fits}
use Rattle.rules.specs.Forms.{well_formed, read}
use Rattle.laws.specs.Tests.{left, right, both}

pub fits→ : (n x : ℕ) → fits n x ≡ true → x < 256 ^ n
unfolding fits
fits→ n x e = ltb-true _ _ e

pub →fits : (n x : ℕ) → x < 256 ^ n → fits n x ≡ true
unfolding fits
→fits n x h = lt-ltb _ _ h

pub same→ : (xs ys : List ℕ) → same xs ys ≡ true → xs ≡ ys
unfolding same
same→ [] [] e = refl
same→ [] (y ∷ ys) e = absurd (false≢true e)
same→ (x ∷ xs) [] e = absurd (false≢true e)
same→ (x ∷ xs) (y ∷ ys) e = ap₂ ◌∷◌ (eqb-true x y (left (eqb x y) (same xs ys) e)) (same→ xs ys (right (eqb x y) (same xs ys) e))

pub same_refl : (xs : List ℕ) → same xs xs ≡ true
unfolding same
same_refl [] = refl
same_refl (x ∷ xs) = both (eq-eqb x x refl) (same_refl xs)

module _ {A : Type 0} (decode : Bytes → A) (sound : A → Bool) (encode : A → Bytes) where
  -- a sound value comes back from its bytes, if decoding undoes encoding
  pub read_encoded : (a : A) → decode (encode a) ≡ a → sound a ≡ true → read decode sound encode (encode a) ≡ Some a
  unfolding read well_formed
  read_encoded a d s = simp (d, both s (same_refl (encode a)))

  -- what is read is sound, and its bytes are those that were read
  pub read_exact : (b : Bytes) (a : A) → read decode sound encode b ≡ Some a → (b ≡ encode a) × (sound a ≡ true)
  unfolding read well_formed
  read_exact b a e = go (sound (decode b) and same (encode (decode b)) b) refl e
    where
      go : (t : Bool) → (sound (decode b) and same (encode (decode b)) b) ≡ t → (if t then Some (decode b) else None) ≡ Some a → (b ≡ encode a) × (sound a ≡ true)
      go true p q =
          let w : decode b ≡ a = same_Some (decode b) a q in
          (sym (same→ (encode (decode b)) b (right _ _ p)) ∙ ap encode w, sym (ap sound w) ∙ left _ _ p)
      go false p q = absurd (none-some a q)
