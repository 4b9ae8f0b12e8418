-- What the writing of a head and of a row leaves: each is one store, and rows put one behind the other are one store too.
use Prim.Native.Nat.{ℕ, ◌+◌}
use mathlib.Core.Path.{◌≡◌, sym, ◌∙◌, ap}
use mathlib.Core.List.{List, [], ◌∷◌, ◌++◌, append_assoc, append-nil}
use native.Mathlib.Omega.{arith}
use lib.ListN.{length, length-append}
use Rattle.words.specs.Words.{Bytes, le, stored}
use Rattle.words.specs.WordLaws.{le_length, length_stored, then_stored}
use Rattle.rules.specs.declared.row.Row.{Row}
use Rattle.rules.specs.Lists.{flat}
use Rattle.rules.specs.Register.{row_bytes}
use Rattle.laws.specs.ListLaws.{flat_snoc}
use Rattle.laws.specs.RegisterLaws.{rows_length}
use Rattle.registers.specs.declared.writing.Draft.{Draft}
use Rattle.registers.specs.RegisterForm.{place_of, register_head}
use Rattle.registers.specs.RegisterWriting.{RowsPut, RowsAdded}

-- a row's five numbers, each stored where the one before it ends
pub row_stored : (l₀ : Bytes) {l₁ l₂ l₃ l₄ l₅ : Bytes} (at : ℕ) (r : Row) → l₁ ≡ stored l₀ at (le 4 r.key) → l₂ ≡ stored l₁ (at + 4) (le 8 r.value)
    → l₃ ≡ stored l₂ (at + 12) (le 4 r.mark.cen) → l₄ ≡ stored l₃ (at + 16) (le 4 r.mark.sen) → l₅ ≡ stored l₄ (at + 20) (le 8 r.mark.csn)
    → l₅ ≡ stored l₀ at (row_bytes r)
unfolding row_bytes
row_stored l₀ at r key value cen sen csn =
    let a = le 4 r.key in
    let b = a ++ le 8 r.value in
    let c = b ++ le 4 r.mark.cen in
    let d = c ++ le 4 r.mark.sen in
    let p = then_stored l₀ at (at + 4) a (le 8 r.value) key value (simp le_length) in
    let q = then_stored l₀ at (at + 12) b (le 4 r.mark.cen) p cen (simp (length-append, le_length)) in
    let s = then_stored l₀ at (at + 16) c (le 4 r.mark.sen) q sen (simp (length-append, le_length)) in
    then_stored l₀ at (at + 20) d (le 8 r.mark.csn) s csn (simp (length-append, le_length))

head_length_lem : (s n : ℕ) → length (register_head s n) ≡ 8
unfolding register_head
head_length_lem s n = simp (length-append, le_length)

-- the draft that was begun has no row yet
pub started : (l₀ : Bytes) {l₁ l₂ : Bytes} (s : ℕ) (d : Draft) → d.put ≡ 0 → l₁ ≡ stored l₀ 0 (le 4 s) → l₂ ≡ stored l₁ 4 (le 4 d.rows) → RowsPut s [] l₀ d l₂
unfolding register_head flat
started l₀ {l₁} s d z p q =
    record {
      put = z;
      long = ap length q ∙ length_stored l₁ 4 (le 4 d.rows) ∙ ap length p ∙ length_stored l₀ 0 (le 4 s);
      bytes = then_stored l₀ 0 4 (le 4 s) (le 4 d.rows) p q (simp le_length) ∙ ap (stored l₀ 0) (sym (append-nil (le 4 s ++ le 4 d.rows)));
    }

-- a row stored behind those that stand is put
pub row_added : (d e : Draft) (l : Bytes) {m : Bytes} (r : Row) → e.rows ≡ d.rows → e.put ≡ d.put + 1 → m ≡ stored l (place_of d.put) (row_bytes r)
    → RowsAdded (r ∷ []) d l e m
row_added d e l {m} r n k q = record { same = n; put = k; long = long; behind = behind }
  where
    long : length m ≡ length l
    long = ap length q ∙ length_stored l (place_of d.put) (row_bytes r)

    behind : (s : ℕ) (rs : List Row) (before : Bytes) → RowsPut s rs before d l → RowsPut s (rs ++ r ∷ []) before e m
    behind s rs before p =
        let x = register_head s d.rows ++ flat row_bytes rs in
        let there : place_of d.put ≡ 0 + length x = simp (length-append, head_length_lem, rows_length) (omega (arith, p.put)) in
        let bytes : x ++ row_bytes r ≡ register_head s e.rows ++ flat row_bytes (rs ++ r ∷ []) =
        rw (flat_snoc row_bytes rs r, n) (append_assoc (register_head s d.rows) (flat row_bytes rs) (row_bytes r)) in
        record {
          put = omega (arith, k, p.put, length-append rs (r ∷ []));
          long = long ∙ p.long;
          bytes = then_stored before 0 (place_of d.put) x (row_bytes r) p.bytes q there ∙ ap (stored before 0) bytes;
        }
