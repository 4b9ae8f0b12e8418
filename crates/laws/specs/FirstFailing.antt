-- THE READ CHECK tells the first failing entry: where it fails, the entry at its index has its key and fails for its reason, and each entry
-- before it stands; where it passes, every entry stands.
use Rattle.std.specs.Prelude.{ℕ, suc, ◌+◌, ◌≡◌, length, Option, None, Some}
use Rattle.std.proofs.Math.Path.{refl}
use Rattle.std.proofs.Common.{◌∙◌, ap, ⊎_elim, arith}
use mathlib.Core.List.Memᴰ
use mathlib.Core.List.{List, [], ◌∷◌, ◌++◌, Memᴰ}
use Rattle.rules.specs.declared.row.Read.{Read}
use Rattle.rules.specs.declared.answer.Reason.{Reason}
use Rattle.rules.specs.Register.{Register}
use Rattle.rules.specs.ReadCheck.{Finding, passes, fails, failing, finding_or, check_from}

-- an entry that does not fail
abbrev pub Stands : Register → ℕ → ℕ → Read → Type 0
Stands g mode lsn e = failing g mode lsn e ≡ None

-- the first failing entry of a list, the entries counted from i
pub record First (g : Register) (mode lsn i : ℕ) (es : List Read) (index key : ℕ) (reason : Reason) : Type 0 where
  pub before : List Read
  pub entry : Read
  pub behind : List Read
  pub split : es ≡ before ++ entry ∷ behind
  pub place : index ≡ i + length before
  pub its_key : key ≡ entry.key
  pub its_reason : failing g mode lsn entry ≡ Some reason
  pub earlier : (e : Read) → Memᴰ e before → Stands g mode lsn e

-- what a finding says of the entries
abbrev pub Tells : Register → ℕ → ℕ → ℕ → List Read → Finding → Type 0
Tells g mode lsn i es passes = (e : Read) → Memᴰ e es → Stands g mode lsn e
Tells g mode lsn i es (fails index key reason) = First g mode lsn i es index key reason

module _ (g : Register) (mode lsn : ℕ) where
  -- an entry that stands, in front
  stands_too : (e : Read) {es : List Read} → Stands g mode lsn e → ((x : Read) → Memᴰ x es → Stands g mode lsn x)
      → (x : Read) → Memᴰ x (e ∷ es) → Stands g mode lsn x
  stands_too e h f x m = ⊎_elim (λ q. ap (failing g mode lsn) q ∙ h) (λ k. f x k) (Memᴰ.cases_cons m)

  one_more : (i : ℕ) (e : Read) (es : List Read) (f : Finding) → Stands g mode lsn e → Tells g mode lsn (suc i) es f → Tells g mode lsn i (e ∷ es) f
  one_more i e es passes h t = stands_too e h t
  one_more i e es (fails index key reason) h t =
      let n = t.place in
      record {
        before = e ∷ t.before;
        entry = t.entry;
        behind = t.behind;
        split = ap (e ∷◌) t.split;
        place = omega arith;
        its_key = t.its_key;
        its_reason = t.its_reason;
        earlier = stands_too e h t.earlier;
      }

  -- THE FINDING TELLS THE FIRST FAILING ENTRY
  pub check_tells : (i : ℕ) (es : List Read) → Tells g mode lsn i es (check_from g mode lsn i es)
  unfolding check_from finding_or
  check_tells i [] = λ e m. absurd (Memᴰ.not-nil m)
  check_tells i (e ∷ es) = go (failing g mode lsn e) refl (check_tells (suc i) es)
    where
      go : (o : Option Reason) → failing g mode lsn e ≡ o → Tells g mode lsn (suc i) es (check_from g mode lsn (suc i) es)
          → Tells g mode lsn i (e ∷ es) (finding_or o i e.key (check_from g mode lsn (suc i) es))
      go None p t = one_more i e es (check_from g mode lsn (suc i) es) p t
      go (Some r) p t =
          record {
            before = [];
            entry = e;
            behind = es;
            split = refl;
            place = omega arith;
            its_key = refl;
            its_reason = p;
            earlier = λ x m. absurd (Memᴰ.not-nil m);
          }
