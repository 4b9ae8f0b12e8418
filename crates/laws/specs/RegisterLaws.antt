-- Registers read back as they were written, and each has one encoding.
use Rattle.std.specs.Prelude.{ℕ, zero, suc, ◌+◌, ◌*◌, ◌^◌, ◌<◌, ◌≤◌, ◌≡◌, refl, true, false, List, [], ◌∷◌, ◌++◌, map, length, get_or, drop, None, Some}
use Rattle.std.proofs.Common.{sym, ◌∙◌, ap, ap₂, add_assoc, arith, leb-true, le-leb, length-append}
use Rattle.words.specs.Words.{Bytes, le, word}
use Rattle.words.specs.WordLaws.{le_length, word_le, word_drop}
use Rattle.rules.specs.declared.row.Row.{Row}
use Rattle.rules.specs.Lists.{all, flat, ascend_from, same}
use Rattle.rules.specs.Forms.{well_formed, read}
use Rattle.rules.specs.Register.{Register, key_of, max_rows, sound_row, sound_register, row_bytes, register_bytes, row_in, rows_in, register_in, is_register, read_register}
use Rattle.laws.specs.Tests.{left, right, both}
use Rattle.laws.specs.FormLaws.{fits→, →fits, same→, same_refl, read_encoded, read_exact}

-- what a sound row's numbers are
pub record RowSound (s : ℕ) (r : Row) : Type 0 where
  pub key : r.key < 256 ^ 4
  pub value : r.value < 256 ^ 8
  pub cen : r.mark.cen ≤ s
  pub sen : r.mark.sen ≤ r.mark.cen
  pub csn : r.mark.csn < 256 ^ 8

pub sound_row→ : (s : ℕ) (r : Row) → sound_row s r ≡ true → RowSound s r
unfolding sound_row
sound_row→ s r e =
    record {
      key = fits→ 4 _ (left _ _ e);
      value = fits→ 8 _ (left _ _ (right _ _ e));
      cen = leb-true _ _ (left _ _ (right _ _ (right _ _ e)));
      sen = leb-true _ _ (left _ _ (right _ _ (right _ _ (right _ _ e))));
      csn = fits→ 8 _ (right _ _ (right _ _ (right _ _ (right _ _ e))));
    }

-- what a sound register is
pub record RegisterSound (g : Register) : Type 0 where
  pub snapshot : g.snapshot < 256 ^ 4
  pub few : length g.rows ≤ max_rows
  pub keys : ascend_from 0 (map key_of g.rows) ≡ true
  pub rows : all (sound_row g.snapshot) g.rows ≡ true

pub sound_register→ : (g : Register) → sound_register g ≡ true → RegisterSound g
unfolding sound_register
sound_register→ g e =
    record {
      snapshot = fits→ 4 _ (left _ _ e);
      few = leb-true _ _ (left _ _ (right _ _ e));
      keys = left _ _ (right _ _ (right _ _ e));
      rows = right _ _ (right _ _ (right _ _ e));
    }

pub →sound_register : (g : Register) → RegisterSound g → sound_register g ≡ true
unfolding sound_register
→sound_register g w = both (→fits 4 g.snapshot w.snapshot) (both (le-leb (length g.rows) max_rows w.few) (both w.keys w.rows))

-- a row in a part of a list, and rows
pub row_in_drop : (k : ℕ) (b : Bytes) (at : ℕ) → row_in (drop k b) at ≡ row_in b (k + at)
unfolding row_in
row_in_drop k b at = simp (word_drop, add_assoc)

pub rows_in_drop : (n k : ℕ) (b : Bytes) (at : ℕ) → rows_in n (drop k b) at ≡ rows_in n b (k + at)
unfolding rows_in
rows_in_drop zero k b at = refl
rows_in_drop (suc n) k b at = ap₂ ◌∷◌ (row_in_drop k b at) (rows_in_drop n k b (at + 28) ∙ simp add_assoc)

-- n rows from a place on are n, and row k of them stands 28 * k further
pub rows_in_length : (n : ℕ) (b : Bytes) (at : ℕ) → length (rows_in n b at) ≡ n
unfolding rows_in
rows_in_length zero b at = refl
rows_in_length (suc n) b at = ap suc (rows_in_length n b (at + 28))

pub rows_in_at : (n : ℕ) (b : Bytes) (at k : ℕ) (d : Row) → k < n → get_or (rows_in n b at) k d ≡ row_in b (at + 28 * k)
unfolding rows_in
rows_in_at zero b at k d h = absurd (omega arith)
rows_in_at (suc n) b at zero d h = ap (row_in b) (omega arith)
rows_in_at (suc n) b at (suc k) d h = rows_in_at n b (at + 28) k d (omega arith) ∙ ap (row_in b) (omega arith)

row_written : (s : ℕ) (r : Row) (rest : Bytes) → s < 256 ^ 4 → RowSound s r → row_in (row_bytes r ++ rest) 0 ≡ r
unfolding row_in row_bytes word le
row_written s r rest h w =
    λ i. record {
      key = word_le 4 r.key w.key i;
      value = word_le 8 r.value w.value i;
      mark = record {
        cen = word_le 4 r.mark.cen (omega arith) i;
        sen = word_le 4 r.mark.sen (omega arith) i;
        csn = word_le 8 r.mark.csn w.csn i;
      };
    }

row_tail : (r : Row) (rest : Bytes) → drop 28 (row_bytes r ++ rest) ≡ rest
unfolding row_bytes le
row_tail r rest = refl

rows_written : (s : ℕ) (rs : List Row) → s < 256 ^ 4 → all (sound_row s) rs ≡ true → rows_in (length rs) (flat row_bytes rs) 0 ≡ rs
unfolding rows_in flat all
rows_written s [] h e = refl
rows_written s (r ∷ rs) h e =
    let rest = flat row_bytes rs in
    ap₂ ◌∷◌
    (row_written s r rest h (sound_row→ s r (left _ _ e)))
    (sym (rows_in_drop (length rs) 28 (row_bytes r ++ rest) 0)
    ∙ ap (λ (l : Bytes). rows_in (length rs) l 0) (row_tail r rest)
    ∙ rows_written s rs h (right _ _ e))

-- lengths
pub row_length : (r : Row) → length (row_bytes r) ≡ 28
unfolding row_bytes
row_length r = simp (length-append, le_length)

pub rows_length : (rs : List Row) → length (flat row_bytes rs) ≡ 28 * length rs
unfolding flat
rows_length [] = refl
rows_length (r ∷ rs) = length-append (row_bytes r) (flat row_bytes rs) ∙ omega (arith, row_length r, rows_length rs)

pub register_length_lem : (g : Register) → length (register_bytes g) ≡ 8 + 28 * length g.rows
unfolding register_bytes
register_length_lem g = simp (length-append, le_length, rows_length)

pub head_tail : (x n : ℕ) (rest : Bytes) → drop 8 (le 4 x ++ le 4 n ++ rest) ≡ rest
unfolding le
head_tail x n rest = refl

count_written : (x n : ℕ) (rest : Bytes) → n < 256 ^ 4 → word 4 (le 4 x ++ le 4 n ++ rest) 4 ≡ n
unfolding word le
count_written x n rest h = word_le 4 n h

snapshot_written : (x : ℕ) (rest rest' : Bytes) → x < 256 ^ 4 → word 4 (le 4 x ++ rest ++ rest') 0 ≡ x
unfolding word le
snapshot_written x rest rest' h = word_le 4 x h

pub register_decoded : (g : Register) → sound_register g ≡ true → register_in (register_bytes g) ≡ g
unfolding register_in register_bytes
register_decoded g e =
    let w = sound_register→ g e in
    let b = le 4 g.snapshot ++ le 4 (length g.rows) ++ flat row_bytes g.rows in
    let n : word 4 b 4 ≡ length g.rows = count_written g.snapshot (length g.rows) (flat row_bytes g.rows) (omega arith) in
    let rs : rows_in (word 4 b 4) b 8 ≡ g.rows =
    ap (λ (k : ℕ). rows_in k b 8) n
    ∙ sym (rows_in_drop (length g.rows) 8 b 0)
    ∙ ap (λ (l : Bytes). rows_in (length g.rows) l 0) (head_tail g.snapshot (length g.rows) (flat row_bytes g.rows))
    ∙ rows_written g.snapshot g.rows w.snapshot w.rows in
    λ i. record { snapshot = snapshot_written g.snapshot (le 4 (length g.rows)) (flat row_bytes g.rows) w.snapshot i; rows = rs i }

-- A SOUND REGISTER COMES BACK FROM ITS BYTES
pub read_written : (g : Register) → sound_register g ≡ true → read_register (register_bytes g) ≡ Some g
unfolding read_register
read_written g e = read_encoded register_in sound_register register_bytes g (register_decoded g e) e

-- WHAT IS READ IS SOUND, AND WRITTEN AS THE BYTES THAT WERE READ
pub written_read : (b : Bytes) (g : Register) → read_register b ≡ Some g → (b ≡ register_bytes g) × (sound_register g ≡ true)
unfolding read_register
written_read b g e = read_exact register_in sound_register register_bytes b g e

-- what the test says: the contents are sound, and the bytes are theirs
pub register_sound : (b : Bytes) → is_register b ≡ true → sound_register (register_in b) ≡ true
unfolding is_register well_formed
register_sound b e = left _ _ e

pub register_exact : (b : Bytes) → is_register b ≡ true → register_bytes (register_in b) ≡ b
unfolding is_register well_formed
register_exact b e = same→ _ _ (right _ _ e)

pub register_yes : (b : Bytes) → sound_register (register_in b) ≡ true → register_bytes (register_in b) ≡ b → is_register b ≡ true
unfolding is_register well_formed
register_yes b s e = both s (ap (λ (l : Bytes). same l b) e ∙ same_refl b)

pub register_is : (g : Register) → sound_register g ≡ true → is_register (register_bytes g) ≡ true
register_is g e = let d = register_decoded g e in register_yes (register_bytes g) (ap sound_register d ∙ e) (ap register_bytes d)

pub register_read : (b : Bytes) → is_register b ≡ true → read_register b ≡ Some (register_in b)
unfolding is_register read_register read
register_read b e = rw e

pub register_unread : (b : Bytes) → is_register b ≡ false → read_register b ≡ None
unfolding is_register read_register read
register_unread b e = rw e

-- EQUAL CONTENTS ARE EQUAL BYTES
pub one_encoding : (b c : Bytes) (g : Register) → read_register b ≡ Some g → read_register c ≡ Some g → b ≡ c
one_encoding b c g p q = (written_read b g p).0 ∙ sym (written_read c g q).0
