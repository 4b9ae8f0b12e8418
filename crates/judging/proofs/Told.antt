-- A table written place by place: what holds of each place below one holds below the next, once that place is written.
use Rattle.std.proofs.Common.{ℕ, ◌+◌, ◌<◌, List, length, get_or, set, below_more, get_or-set_same, get_or-set_other, arith}

pub told_more : {A : Type 0} (P : ℕ → A → Type 0) (xs : List A) (i : ℕ) (x d : A) → i < length xs → ((k : ℕ) → k < i → P k (get_or xs k d)) → P i x
    → (k : ℕ) → k < i + 1 → P k (get_or (set xs i x) k d)
told_more P xs i x d h t p =
    below_more (λ k. P k (get_or (set xs i x) k d)) i
    (λ k (l : k < i). rw (get_or-set_other xs i k x d (λ q. absurd (omega arith))) (t k l))
    (rw (get_or-set_same xs i x d h) p)
