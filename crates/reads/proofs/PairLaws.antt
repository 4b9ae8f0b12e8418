-- Two lists of numbers as one of entries.
use Rattle.std.proofs.Common.{ℕ, zero, suc, ◌<◌, ◌≡◌, refl, ap, List, [], ◌∷◌, length, get_or, arith, None, Some}
use Rattle.rules.specs.declared.row.Read.{Read}
use Rattle.rules.specs.ReadCheck.{with_read, reads_of}
use Rattle.reads.specs.Checks.{no_read}

-- of lists of equal length: the entries that they give, place by place
pub record Paired (ks cs : List ℕ) : Type 0 where
  pub reads : List Read
  pub given : reads_of ks cs ≡ Some reads
  pub long : length reads ≡ length ks
  pub each : (i : ℕ) → i < length ks → record { key = get_or ks i 0; csn = get_or cs i 0 } ≡ get_or reads i no_read

pub paired : (ks cs : List ℕ) → length ks ≡ length cs → Paired ks cs
unfolding reads_of with_read
paired [] [] h = record { reads = []; given = refl; long = refl; each = λ i l. absurd (omega arith) }
paired [] (c ∷ cs) h = absurd (omega arith)
paired (k ∷ ks) [] h = absurd (omega arith)
paired (k ∷ ks) (c ∷ cs) h =
    let p = paired ks cs (omega arith) in
    record { reads = record { key = k; csn = c } ∷ p.reads; given = rw p.given; long = ap suc p.long; each = at p }
  where
    at : (p : Paired ks cs) (i : ℕ) → i < suc (length ks) → record { key = get_or (k ∷ ks) i 0; csn = get_or (c ∷ cs) i 0 } ≡ get_or (record { key = k; csn = c } ∷ p.reads) i no_read
    at p zero l = refl
    at p (suc i) l = p.each i (omega arith)

pub unpaired : (ks cs : List ℕ) → (length ks ≡ length cs → ⊥) → reads_of ks cs ≡ None
unfolding reads_of with_read
unpaired [] [] h = absurd (h refl)
unpaired [] (c ∷ cs) h = refl
unpaired (k ∷ ks) [] h = refl
unpaired (k ∷ ks) (c ∷ cs) h = rw (unpaired ks cs (λ e. h (ap suc e)))
