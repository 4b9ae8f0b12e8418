-- WHAT IS KNOWN OF THE COMMITTED SETS, WHATEVER CHOSE THEM: they are sets of the sheet in csn order, fit, and no two of them name one
-- key. What rows become is proved from this alone; that the sets which closing commits are so chosen is proved here.
use Rattle.std.specs.Prelude.{ℕ, ◌≡◌, refl, true, Option, None, Some}
use Rattle.std.proofs.Common.{sym, ◌∙◌, ap}
use Rattle.std.proofs.lemmas.Bool.{false≢true}
use mathlib.Core.List.{List, Memᴰ}
use Rattle.rules.specs.Lists.{first}
use Rattle.rules.specs.Register.{Register}
use Rattle.rules.specs.Sheet.{WriteSet, csn_of, Sheet, sound_sheet}
use Rattle.rules.specs.Closing.{fit, names, commits, committed}
use Rattle.rules.specs.Becoming.{committed_on}
use Rattle.laws.specs.ListLaws.{Sub, keep→, →keep, first→, first_none}
use Rattle.laws.specs.Rising.{rising_keep}
use Rattle.laws.specs.Distinct.{Sorted, sheet_sorted}
use Rattle.laws.specs.Commits.{names→, commits_iff, commits_apart}

pub record Choice (g : Register) (s : Sheet) (c : List WriteSet) : Type 0 where
  pub in_sheet : Sub c s.sets
  pub in_order : Sorted c
  pub are_fit : (w : WriteSet) → Memᴰ w c → fit g w ≡ true
  pub one_on_a_key : (v w : WriteSet) (k : ℕ) → Memᴰ v c → Memᴰ w c → names v k ≡ true → names w k ≡ true → v ≡ w

-- ---- the committed set on a key

-- no committed set names the key
abbrev pub Unnamed : List WriteSet → ℕ → Type 0
Unnamed c k = (w : WriteSet) → Memᴰ w c → names w k ≡ true → ⊥

pub committed_on→ : (c : List WriteSet) (k : ℕ) (w : WriteSet) → committed_on c k ≡ Some w → Memᴰ w c × (names w k ≡ true)
unfolding committed_on
committed_on→ c k w e = first→ (λ v. names v k) c e

pub committed_on_none→ : (c : List WriteSet) (k : ℕ) → committed_on c k ≡ None → Unnamed c k
unfolding committed_on
committed_on_none→ c k e w m n = false≢true (sym (first_none (λ v. names v k) c e w m) ∙ n)

pub →committed_on_none : (c : List WriteSet) (k : ℕ) → Unnamed c k → committed_on c k ≡ None
→committed_on_none c k u = go (committed_on c k) refl
  where
    go : (o : Option WriteSet) → committed_on c k ≡ o → o ≡ None
    go None e = refl
    go (Some w) e = let f = committed_on→ c k w e in absurd (u w f.0 f.1)

pub committed_on_is : (g : Register) (s : Sheet) (c : List WriteSet) → Choice g s c → (k : ℕ) (w : WriteSet) → Memᴰ w c → names w k ≡ true → committed_on c k ≡ Some w
unfolding committed_on
committed_on_is g s c h k w m n = go (first (λ v. names v k) c) refl
  where
    go : (o : Option WriteSet) → first (λ v. names v k) c ≡ o → o ≡ Some w
    go None e = absurd (false≢true (sym (first_none (λ v. names v k) c e w m) ∙ n))
    go (Some v) e = let f = first→ (λ v. names v k) c e in ap Some (h.one_on_a_key v w k f.0 m f.1 n)

-- ---- the sets that closing commits

pub committed→ : (g : Register) (s : Sheet) {w : WriteSet} → Memᴰ w (committed g s) → Memᴰ w s.sets × (commits g s w ≡ true)
unfolding committed
committed→ g s m = keep→ (commits g s) s.sets m

pub →committed : (g : Register) (s : Sheet) {w : WriteSet} → Memᴰ w s.sets → commits g s w ≡ true → Memᴰ w (committed g s)
unfolding committed
→committed g s m e = →keep (commits g s) m e

-- THE SETS THAT CLOSING COMMITS ARE SO CHOSEN
pub chosen : (g : Register) (s : Sheet) → sound_sheet s ≡ true → Choice g s (committed g s)
unfolding committed
chosen g s e =
    record {
      in_sheet = λ w m. (committed→ g s m).0;
      in_order = rising_keep csn_of (commits g s) (sheet_sorted s e);
      are_fit = λ w m. let k = committed→ g s m in ((commits_iff g s w e k.0).told k.1).is_fit;
      one_on_a_key = λ v w k m n p q.
          let a = committed→ g s m in
          let b = committed→ g s n in
          let i = names→ v k p in
          let j = names→ w k q in
          commits_apart g s v w i.0 j.0 e a.0 b.0 a.1 b.1 i.1 j.1 (i.2 ∙ sym j.2);
    }
