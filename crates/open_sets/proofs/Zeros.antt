-- Whether the bytes from a place on are zero, byte by byte.
use Rattle.std.proofs.Common.{ℕ, ◌+◌, ◌<◌, ◌≤◌, ◌≡◌, sym, ◌∙◌, ap, Bool, true, false, eqb, ◌∷◌, length, get_or, drop, drop-cons, add-one}
use Rattle.std.proofs.lemmas.List.{drop_all}
use Rattle.words.specs.Words.{Bytes}
use Rattle.rules.specs.Lists.{◌and◌, all}

-- byte i, and those behind it
zeros_from : (b : Bytes) (i : ℕ) → i < length b → all (λ x. eqb x 0) (drop i b) ≡ (eqb (get_or b i 0) 0 and all (λ x. eqb x 0) (drop (i + 1) b))
unfolding all
zeros_from b i h = ap (all (λ x. eqb x 0)) (drop-cons b i 0 h ∙ ap (λ (k : ℕ). get_or b i 0 ∷ drop k b) (sym (add-one i)))

module _ (b : Bytes) (i : ℕ) (h : i < length b) (so_far : all (λ x. eqb x 0) b ≡ all (λ x. eqb x 0) (drop i b)) where
  pub not_zero : eqb (get_or b i 0) 0 ≡ false → all (λ x. eqb x 0) b ≡ false
  unfolding ◌and◌
  not_zero e = so_far ∙ zeros_from b i h ∙ ap (λ (t : Bool). t and all (λ x. eqb x 0) (drop (i + 1) b)) e

  pub zero_here : eqb (get_or b i 0) 0 ≡ true → all (λ x. eqb x 0) b ≡ all (λ x. eqb x 0) (drop (i + 1) b)
  unfolding ◌and◌
  zero_here e = so_far ∙ zeros_from b i h ∙ ap (λ (t : Bool). t and all (λ x. eqb x 0) (drop (i + 1) b)) e

pub none_left : (b : Bytes) (i : ℕ) → length b ≤ i → all (λ x. eqb x 0) b ≡ all (λ x. eqb x 0) (drop i b) → all (λ x. eqb x 0) b ≡ true
unfolding all
none_left b i h e = e ∙ ap (all (λ x. eqb x 0)) (drop_all i b h)
