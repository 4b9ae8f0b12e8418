-- What std's bytes of a number, and a copy into a part of a slice, are in the words of specs/Words.
use Rattle.std.proofs.Common.{◌≡◌, ◌≤◌, ℕ, zero, suc, ◌+◌, ◌-◌, ◌/◌, ◌%◌, ◌^◌, ◌∷◌, length, drop, take, refl, ap, ap₂, ◌∙◌, div-one, pow-suc, arith}
use Rattle.std.specs.Int.{byte_at, bytes_low_first}
use Rattle.std.proofs.Math.Nat.{div-div-eq-div-mul}
use borrow.Rule.Slice.PartMut.{put_mid}
use Rattle.words.specs.Words.{Bytes, le, part, stored}
use Rattle.words.specs.WordLaws.{le_length, part_length, part_stored}

-- a part overwritten by the n bytes of another list from a place on
pub copied : (l : Bytes) (at k : ℕ) (ys s : Bytes) (from n : ℕ) → ys ≡ take (from + n - from) (drop from s) → k ≡ n → at + n ≤ length l → from + n ≤ length s
    → put_mid at k l ys ≡ stored l at (part s from n)
unfolding part
copied l at k ys s from n e m h r =
    let less : from + n - from ≡ n = omega arith in
    part_stored l at k ys (take n (drop from s)) (rw less at e) (omega (arith, part_length s from n r)) (omega arith)

-- a number's bytes, the lowest first
byte_lem : (i x : ℕ) → byte_at i x ≡ x / 256 ^ i % 256
byte_lem zero x = rw div-one
byte_lem (suc i) x = refl

low_first : (n i x : ℕ) → bytes_low_first i n x ≡ le n (x / 256 ^ i)
unfolding le
low_first zero i x = refl
low_first (suc n) i x =
    ap₂ (λ (b : ℕ) (l : Bytes). b ∷ l) (byte_lem i x) (low_first n (suc i) x ∙ ap (le n) (rw (pow-suc, div-div-eq-div-mul)))

pub put : (l : Bytes) (at k : ℕ) (ys : Bytes) (n x : ℕ) → ys ≡ bytes_low_first 0 n x → k ≡ n → at + n ≤ length l → put_mid at k l ys ≡ stored l at (le n x)
put l at k ys n x e m h =
    let bytes : bytes_low_first 0 n x ≡ le n x = low_first n 0 x ∙ ap (le n) (div-one x) in
    part_stored l at k ys (le n x) (e ∙ bytes) (omega (arith, le_length n x)) (omega arith)

-- those two, for the code's goals
pub ruleset stores = (copied, put)
