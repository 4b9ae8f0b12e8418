-- Which tests on the bytes decide whether they are a register, and what its readings mean.
use Rattle.std.specs.Prelude.{Option, None, Some, not, eqb}
use Rattle.std.specs.Option.{option_eq}
use Prim.Native.Nat.{ℕ, zero, suc, ◌+◌, ◌*◌, ◌<◌, ◌≤◌}
use mathlib.Core.Path.{◌≡◌, refl, sym, ◌∙◌, ap, ap₂}
use mathlib.Core.Bool.{Bool, true, false}
use mathlib.Core.List.{◌∷◌, ◌++◌, map}
use native.Mathlib.Omega.{arith}
use borrow.Author.Tests.{le-leb, eq-eqb, eqb-true}
use lib.ListN.{length, get_or, take, drop, length-map, length-take, get_or-map}
use lib.Seq.{take-add, drop-drop, take_all, get_or-take}
use Rattle.words.specs.Words.{Bytes, le, word, part}
use Rattle.words.specs.WordLaws.{le_word, word_fits, word_same}
use Rattle.rules.specs.Lists.{all, flat, ascend_from}
use Rattle.rules.specs.Register.{key_of, max_rows, sound_row, row_bytes, register_bytes, row_in, rows_in, register_in, is_register}
use Rattle.laws.specs.Tests.{both}
use Rattle.laws.specs.FormLaws.{→fits}
use Rattle.laws.specs.BytesHere.{Octets}
use Rattle.laws.specs.Says.{Says, no_of, is_lt, is_le, shaped, ◌also◌, clash, said_yes, said_no, each, ascends}
use Rattle.laws.specs.RegisterLaws.{sound_row→, RegisterSound, sound_register→, →sound_register, rows_in_length, rows_in_at, register_length_lem, register_sound, register_exact, register_yes}
use Rattle.registers.specs.RegisterReadings.{no_row, row_at}
use Rattle.registers.specs.RegisterForm.{place_of, key_before, in_order, length_from}
use Rattle.registers.specs.RegisterLength.{length_told, head_told}

-- ---- bytes of the right length are what their contents are written as

parts : (b : Bytes) (at m n : ℕ) → part b at m ++ part b (at + m) n ≡ part b at (m + n)
unfolding part
parts b at m n = rw (← drop-drop m at b) (sym (take-add m n (drop at b)))

row_exact : (b : Bytes) (at : ℕ) → Octets b → at + 28 ≤ length b → row_bytes (row_in b at) ≡ part b at 28
unfolding row_bytes row_in
row_exact b at o h =
    ap₂ ◌++◌
    (ap₂ ◌++◌
    (ap₂ ◌++◌
    (ap₂ ◌++◌ (le_word 4 b at (omega arith) o) (le_word 8 b (at + 4) (omega arith) o) ∙ parts b at 4 8)
    (le_word 4 b (at + 12) (omega arith) o)
    ∙ parts b at 12 4)
    (le_word 4 b (at + 16) (omega arith) o)
    ∙ parts b at 16 4)
    (le_word 8 b (at + 20) (omega arith) o)
    ∙ parts b at 20 8

rows_exact : (n : ℕ) (b : Bytes) (at : ℕ) → Octets b → at + 28 * n ≤ length b → flat row_bytes (rows_in n b at) ≡ part b at (28 * n)
unfolding flat rows_in
rows_exact zero b at o h = unfold part in refl
rows_exact (suc n) b at o h =
    ap₂ ◌++◌ (row_exact b at o (omega arith)) (rows_exact n b (at + 28) o (omega arith))
    ∙ parts b at 28 (28 * n)
    ∙ ap (part b at) (omega arith)

exact : (b : Bytes) → Octets b → length b ≡ 8 + 28 * word 4 b 4 → register_bytes (register_in b) ≡ b
unfolding register_bytes register_in
exact b o h =
    let n = word 4 b 4 in
    ap₂ ◌++◌
    (ap₂ ◌++◌ (le_word 4 b 0 (omega arith) o) (ap (le 4) (rows_in_length n b 8) ∙ le_word 4 b 4 (omega arith) o) ∙ parts b 0 4 4)
    (rows_exact n b 8 o (omega arith))
    ∙ parts b 0 8 (28 * n)
    ∙ whole b (8 + 28 * n) (omega arith)
  where
    whole : (b : Bytes) (n : ℕ) → length b ≤ n → part b 0 n ≡ b
    whole b n h = unfold part in take_all n b h

-- ---- the tests as facts

-- row i is in order behind a row of key prev, in a register of snapshot s
pub record InOrder (b : Bytes) (i prev s : ℕ) : Type 0 where
  pub key : prev < word 4 b (place_of i)
  pub cen : word 4 b (place_of i + 12) ≤ s
  pub sen : word 4 b (place_of i + 16) ≤ word 4 b (place_of i + 12)

-- WHAT CODE TESTS of one row
pub in_order_says : (b : Bytes) (i prev s : ℕ) → Says (in_order b i prev s) (InOrder b i prev s)
unfolding in_order
in_order_says b i prev s =
    shaped (λ p. record { key = p.0; cen = p.1.0; sen = p.1.1 }) (λ w. (w.key, (w.cen, w.sen)))
    (is_lt prev (word 4 b (place_of i))
    also is_le (word 4 b (place_of i + 12)) s
    also is_le (word 4 b (place_of i + 16)) (word 4 b (place_of i + 12)))

-- the bytes are as many as the head, and the number of rows that stands there, ask for
pub record Sized (b : Bytes) : Type 0 where
  pub head : 8 ≤ length b
  pub few : word 4 b 4 ≤ max_rows
  pub long : length b ≡ 8 + 28 * word 4 b 4

-- the length, and every row
pub record Formed (b : Bytes) : Type 0 where
  pub sized : Sized b
  pub rows : (i : ℕ) → i < word 4 b 4 → InOrder b i (key_before b i) (word 4 b 0)

-- what register_in reads, by places
pub snapshot_in : (b : Bytes) → (register_in b).snapshot ≡ word 4 b 0
unfolding register_in
snapshot_in b = refl

pub count_in : (b : Bytes) → length (register_in b).rows ≡ word 4 b 4
unfolding register_in
count_in b = rows_in_length (word 4 b 4) b 8

pub row_in_lem : (b : Bytes) (i : ℕ) → i < length (register_in b).rows → row_at (register_in b) i ≡ row_in b (place_of i)
unfolding register_in row_at
row_in_lem b i h = rows_in_at (word 4 b 4) b 8 i no_row (omega (arith, rows_in_length (word 4 b 4) b 8))

pub key_in_lem : (b : Bytes) (i : ℕ) → i < length (register_in b).rows → (row_at (register_in b) i).key ≡ word 4 b (place_of i)
key_in_lem b i h = ap key_of (row_in_lem b i h) ∙ unfold row_in in refl

keys_at : (n : ℕ) (b : Bytes) (i : ℕ) → i < n → get_or (map key_of (rows_in n b 8)) i 0 ≡ word 4 b (place_of i)
keys_at n b i h = get_or-map key_of (rows_in n b 8) i no_row ∙ ap key_of (rows_in_at n b 8 i no_row h) ∙ unfold row_in in refl

keys_before : (n : ℕ) (b : Bytes) (i : ℕ) → i < n → get_or (0 ∷ map key_of (rows_in n b 8)) i 0 ≡ key_before b i
keys_before n b zero h = refl
keys_before n b (suc i) h = keys_at n b i (omega arith)

-- rows are sound exactly if each is in order, since numbers read from bytes fit
row_sound : (b : Bytes) (s at : ℕ) → Octets b → word 4 b (at + 12) ≤ s → word 4 b (at + 16) ≤ word 4 b (at + 12) → sound_row s (row_in b at) ≡ true
unfolding sound_row row_in
row_sound b s at o cen sen =
    both (→fits 4 (word 4 b at) (word_fits 4 b at o))
    (both (→fits 8 (word 8 b (at + 4)) (word_fits 8 b (at + 4) o))
    (both (le-leb (word 4 b (at + 12)) s cen)
    (both (le-leb (word 4 b (at + 16)) (word 4 b (at + 12)) sen) (→fits 8 (word 8 b (at + 20)) (word_fits 8 b (at + 20) o)))))

row_told : (b : Bytes) (s at : ℕ) → sound_row s (row_in b at) ≡ true → (word 4 b (at + 12) ≤ s) × (word 4 b (at + 16) ≤ word 4 b (at + 12))
unfolding row_in
row_told b s at e = let w = sound_row→ s _ e in (w.cen, w.sen)

module _ (b : Bytes) (n s : ℕ) where
  rows_told : ascend_from 0 (map key_of (rows_in n b 8)) ≡ true → all (sound_row s) (rows_in n b 8) ≡ true → (i : ℕ) → i < n → InOrder b i (key_before b i) s
  rows_told a e i h =
      let w = row_told b s (place_of i) (ap (sound_row s) (sym (rows_in_at n b 8 i no_row h)) ∙ (each (sound_row s) no_row (rows_in n b 8)).told e i (omega (arith, rows_in_length n b 8))) in
      let k = (ascends 0 (map key_of (rows_in n b 8))).told a i (omega (arith, length-map (rows_in n b 8) key_of, rows_in_length n b 8)) in
      record { key = omega (arith, keys_at n b i h, keys_before n b i h); cen = w.0; sen = w.1 }

  rows_ascend : ((i : ℕ) → i < n → InOrder b i (key_before b i) s) → ascend_from 0 (map key_of (rows_in n b 8)) ≡ true
  rows_ascend w =
      (ascends 0 (map key_of (rows_in n b 8))).test
      (λ i h. let l : i < n = omega (arith, length-map (rows_in n b 8) key_of, rows_in_length n b 8) in
      omega (arith, (w i l).key, keys_at n b i l, keys_before n b i l))

  rows_sound : Octets b → ((i : ℕ) → i < n → InOrder b i (key_before b i) s) → all (sound_row s) (rows_in n b 8) ≡ true
  rows_sound o w =
      (each (sound_row s) no_row (rows_in n b 8)).test
      (λ i h. let l : i < n = omega (arith, rows_in_length n b 8) in
      ap (sound_row s) (rows_in_at n b 8 i no_row l) ∙ row_sound b s (place_of i) o (w i l).cen (w i l).sen)

-- a register's own length; this holds of any list of numbers
pub sized : (b : Bytes) → is_register b ≡ true → Sized b
sized b e =
    let long : length b ≡ 8 + 28 * word 4 b 4 = sym (ap length (register_exact b e)) ∙ register_length_lem (register_in b) ∙ ap (λ (k : ℕ). 8 + 28 * k) (count_in b) in
    record { head = omega arith; few = omega (arith, count_in b, (sound_register→ (register_in b) (register_sound b e)).few); long = long }

-- in the words of the readings: how long it is, and how many rows it has
pub long : (b : Bytes) → is_register b ≡ true → length b ≡ place_of (length (register_in b).rows)
long b e = omega (arith, count_in b, (sized b e).long)

pub few : (b : Bytes) → is_register b ≡ true → length (register_in b).rows ≤ max_rows
few b e = omega (arith, count_in b, (sized b e).few)

-- for the views' goals
pub ruleset readings = (long, few, snapshot_in, count_in, row_in_lem, key_in_lem)

register_told : (b : Bytes) → is_register b ≡ true → (i : ℕ) → i < word 4 b 4 → InOrder b i (key_before b i) (word 4 b 0)
unfolding register_in
register_told b e = let w = sound_register→ _ (register_sound b e) in rows_told b (word 4 b 4) (word 4 b 0) w.keys w.rows

register_test : (b : Bytes) → Octets b → Formed b → RegisterSound (register_in b)
unfolding register_in
register_test b o f =
    record {
      snapshot = word_fits 4 b 0 o;
      few = omega (arith, rows_in_length (word 4 b 4) b 8, f.sized.few);
      keys = rows_ascend b (word 4 b 4) (word 4 b 0) f.rows;
      rows = rows_sound b (word 4 b 4) (word 4 b 0) o f.rows;
    }

-- WHAT CODE TESTS: the length, the row count, and each row
pub register_says : (b : Bytes) → Octets b → Says (is_register b) (Formed b)
register_says b o =
    record {
      told = λ e. record { sized = sized b e; rows = register_told b e };
      test = λ f. register_yes b (→sound_register (register_in b) (register_test b o f)) (exact b o f.sized.long);
    }

-- a row that the code's own test passed, and one that it did not
pub row_passes : (b : Bytes) (i : ℕ) {prev s : ℕ} → prev ≡ key_before b i → s ≡ word 4 b 0 → in_order b i prev s ≡ true → InOrder b i (key_before b i) (word 4 b 0)
row_passes b i {prev} {s} p q e = rw (← p, ← q) ((in_order_says b i prev s).told e)

pub row_fails : (b : Bytes) → Octets b → (i : ℕ) {prev s : ℕ} → i < word 4 b 4 → prev ≡ key_before b i → s ≡ word 4 b 0 → in_order b i prev s ≡ false → false ≡ is_register b
row_fails b o i h p q e =
    no_of (register_says b o) (λ f. clash ((in_order_says b i (key_before b i) (word 4 b 0)).test (f.rows i h)) (rw (← p, ← q) e))

-- ---- the length that a head tells

-- A REGISTER'S OWN LENGTH IS WHAT ITS HEAD TELLS, however much of it is seen
pub own_length : (b : Bytes) → is_register b ≡ true → (n : ℕ) → 8 ≤ n → length_from (take n b) ≡ Some (length b)
own_length b e n h =
    let w = sized b e in
    let seen : 8 ≤ length (take n b) = simp length-take (omega arith) in
    let count : word 4 (take n b) 4 ≡ word 4 b 4 = word_same 4 (take n b) b 4 (λ k l m. get_or-take n b k 0 (omega arith)) in
    length_told (take n b) seen (omega arith) ∙ ap Some (omega arith)

-- `register_length(b) != Some(b.len())`: where it is false the bytes are as long as their head tells, and else they are no register
module _ (b : Bytes) {t : Option ℕ} {r : Bool} (told : t ≡ length_from b) (test : r ≡ not (option_eq eqb t (Some (length b)))) where
  sized_says : Says (option_eq eqb t (Some (length b))) (Sized b)
  sized_says = record { told = λ e. as_told t told e; test = λ f. rw (told, length_told b f.head f.few) (eq-eqb _ _ (sym f.long)) }
    where
      as_told : (t : Option ℕ) → t ≡ length_from b → option_eq eqb t (Some (length b)) ≡ true → Sized b
      as_told None p e = cc
      as_told (Some n) p e = let w = head_told b n (sym p) in record { head = w.0; few = w.1; long = omega (arith, w.2, eqb-true n (length b) e) }

  pub is_sized : r ≡ false → Sized b
  is_sized e = sized_says.told (said_yes refl (sym test ∙ e))

  pub not_sized : Octets b → r ≡ true → false ≡ is_register b
  not_sized o e = no_of (register_says b o) (λ f. clash (sized_says.test f.sized) (said_no refl (sym test ∙ e)))
