-- Each part of a sheet that is written is one store.
use Prim.Native.Nat.{ℕ, ◌+◌}
use mathlib.Core.Path.{◌≡◌, refl, ◌∙◌, ap}
use mathlib.Core.Bool.{Bool}
use mathlib.Core.List.{[], ◌∷◌, ◌++◌}
use lib.ListN.{set, length-append}
use Rattle.words.specs.Words.{Bytes, le, stored}
use Rattle.words.specs.WordLaws.{le_length, then_stored}
use Rattle.rules.specs.Sheet.{state_byte}
use Rattle.sheets.specs.SheetReadings.{start_bytes, entry_bytes}

pub start_stored : (l₀ : Bytes) {l₁ l₂ : Bytes} (epoch roster x n : ℕ) (t : Bool) → l₁ ≡ stored l₀ 0 (le 4 epoch) → l₂ ≡ stored l₁ 4 (le 2 roster) → x ≡ state_byte t
    → set (set l₂ 6 x) 7 n ≡ stored l₀ 0 (start_bytes epoch roster t n)
unfolding start_bytes
start_stored l₀ {l₁} {l₂} epoch roster x n t p q e =
    let a = le 4 epoch in
    let b = a ++ le 2 roster in
    let s = then_stored l₀ 0 4 a (le 2 roster) p q (simp le_length) in
    let last : set (set l₂ 6 x) 7 n ≡ stored l₂ 6 (x ∷ n ∷ []) = unfold stored in refl in
    then_stored l₀ 0 6 b (state_byte t ∷ n ∷ []) s (last ∙ ap (λ (y : ℕ). stored l₂ 6 (y ∷ n ∷ [])) e) (simp (length-append, le_length))

pub entry_stored : (l₀ : Bytes) {l₁ l₂ l₃ l₄ : Bytes} (at csn sen first count : ℕ) → l₁ ≡ stored l₀ at (le 8 csn) → l₂ ≡ stored l₁ (at + 8) (le 4 sen)
    → l₃ ≡ stored l₂ (at + 12) (le 2 first) → l₄ ≡ stored l₃ (at + 14) (le 2 count) → l₄ ≡ stored l₀ at (entry_bytes csn sen first count)
unfolding entry_bytes
entry_stored l₀ at csn sen first count p q r s =
    let a = le 8 csn in
    let b = a ++ le 4 sen in
    let c = b ++ le 2 first in
    let x = then_stored l₀ at (at + 8) a (le 4 sen) p q (simp le_length) in
    let y = then_stored l₀ at (at + 12) b (le 2 first) x r (simp (length-append, le_length)) in
    then_stored l₀ at (at + 14) c (le 2 count) y s (simp (length-append, le_length))
