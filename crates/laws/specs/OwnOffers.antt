-- A sound sheet and its own offers: they spoil nothing, and the sheet is the one that Gathering defines from them.
use Rattle.std.specs.Prelude.{ℕ, ◌<◌, ◌≡◌, Bool, true, false, length, get_or, eqb}
use Rattle.std.proofs.Math.Path.{refl, sym, ap}
use Rattle.std.proofs.Common.{◌∙◌, ap₂, arith}
use Rattle.std.proofs.Math.Logic.{⊎_elim}
use Rattle.std.proofs.Math.Bool.{not, true≢false}
use mathlib.Core.List.{List, [], ◌∷◌, map, Memᴰ}
use borrow.Author.Tests.{le-ltb, eqb-true, not-true}
use Rattle.std.proofs.lemmas.List.{get_or-replicate}
use Rattle.std.proofs.Math.Seq.{ext_get_or}
use Rattle.std.proofs.Math.Dec.{ltb}
use Rattle.rules.specs.Lists.{◌or◌, any, all, up_from}
use Rattle.rules.specs.Sheet.{WriteSet, Sheet, no_notice, max_sets, masters, sets_of, allows, sound_notice, bare, sound_sheet}
use Rattle.rules.specs.Gathering.{sets_among, notices_among, clash, differ, some_two, distinct, notice_of, shared_csn, two_notices, too_many, over_notice, spoils, no_notices, sound_of, spoiled_sheet, holding, gathered, offers_of}
use Rattle.laws.specs.Tests.{left, right, or→, or_left, or_right, not_true_false}
use Rattle.laws.specs.Says.{each}
use Rattle.laws.specs.ListLaws.{any→, all→, up_from→}
use Rattle.laws.specs.SheetLaws.{sound_sheet→}
use Rattle.laws.specs.Distinct.{sheet_sorted}
use Rattle.laws.specs.Merging.{distinct_sorted, sorted_clash}
use Rattle.laws.specs.GatherLaws.{notice_at_lem, gathered_holds}
use Rattle.laws.specs.Joining.{noted, sets_of_lem, noted_of, noted_cap, differ→, one_noted}

or_none : (a b : Bool) → a ≡ false → b ≡ false → a or b ≡ false
unfolding ◌or◌
or_none a b p q = simp (p, q)

-- ---- no reason spoils

module _ (s : Sheet) (e : sound_sheet s ≡ true) where
  own_sets : distinct (sets_among (offers_of s)) ≡ s.sets
  own_sets = ap distinct (sets_of_lem s) ∙ distinct_sorted (sheet_sorted s e)

  own_notice : (m : ℕ) → m < 16 → notice_of m (notices_among (offers_of s)) ≡ noted s m
  own_notice m h = noted_of s m h (noted_cap s e m h)

  own_shared : shared_csn (offers_of s) ≡ false
  unfolding shared_csn
  own_shared = ap (some_two clash) (sets_of_lem s) ∙ sorted_clash (sheet_sorted s e)

  own_two : two_notices (offers_of s) ≡ false
  unfolding two_notices some_two
  own_two =
      not_true_false
      (λ t.
      let ns = notices_among (offers_of s) in
      let p = any→ (λ x. any (differ x) ns) ns t in
      let q = any→ (differ p.0) ns p.2 in
      let d = differ→ p.0 q.0 q.2 in
      d.1 (one_noted s p.1 q.1 d.0))

  own_many : too_many (offers_of s) ≡ false
  unfolding too_many
  own_many = ap (λ (ws : List WriteSet). ltb max_sets (length ws)) own_sets ∙ le-ltb max_sets (length s.sets) (sound_sheet→ s e).few

  own_allows : (m : ℕ) → Memᴰ m masters → allows (noted s m) (sets_of m s.sets) ≡ true
  unfolding sound_sheet sound_notice allows
  own_allows m k =
      ⊎_elim (λ p. or_left _ _ p) (λ p. or_right _ _ (right _ _ (right _ _ p)))
      (or→ _ _ (all→ (λ k. sound_notice s.roster k (noted s k) (sets_of k s.sets)) (left _ _ (right _ _ (right _ _ (right _ _ (right _ _ (right _ _ e)))))) k))

  own_over : over_notice (offers_of s) ≡ false
  unfolding over_notice
  own_over =
      not_true_false
      (λ t.
      let os = offers_of s in
      let p = any→ (λ m. not (allows (notice_of m (notices_among os)) (sets_of m (distinct (sets_among os))))) masters t in
      let m = p.0 in
      true≢false
      (sym (own_allows m p.1)
      ∙ sym (ap₂ (λ (n : ℕ) (ws : List WriteSet). allows n (sets_of m ws)) (own_notice m (up_from→ 0 16 p.1).1) own_sets)
      ∙ not-true _ p.2))

  -- THE OFFERS OF A SOUND SHEET DO NOT SPOIL
  pub own_holds : spoils (offers_of s) ≡ false
  unfolding spoils
  own_holds = or_none _ _ (or_none _ _ own_shared own_two) (or_none _ _ own_many own_over)

  own_notices : map (λ m. notice_of m (notices_among (offers_of s))) masters ≡ s.notices
  own_notices =
      let ns = notices_among (offers_of s) in
      let l : length (map (λ m. notice_of m ns) masters) ≡ 16 = unfold up_from in refl in
      ext_get_or no_notice (map (λ m. notice_of m ns) masters) s.notices (l ∙ sym (sound_sheet→ s e).sixteen)
      (λ i b. let h : i < 16 = omega (arith, l, b) in notice_at_lem ns i h ∙ own_notice i h)

  own_holding : s.spoiled ≡ false → holding s.epoch s.roster (offers_of s) ≡ s
  unfolding holding sound_of
  own_holding p = λ i. record { epoch = s.epoch; roster = s.roster; spoiled = sym p i; notices = own_notices i; sets = own_sets i }

  -- A SOUND SHEET THAT IS NOT SPOILED IS THE SHEET OF ITS OWN OFFERS
  pub own_offers : s.spoiled ≡ false → gathered s.epoch s.roster (offers_of s) ≡ s
  own_offers p = gathered_holds s.epoch s.roster (offers_of s) own_holds ∙ own_holding p

-- ---- a spoiled one

none_left : (ws : List WriteSet) → length ws ≡ 0 → ws ≡ []
none_left [] h = refl
none_left (w ∷ ws) h = absurd (omega arith)

all_none : (ns : List ℕ) → length ns ≡ 16 → all (λ n. eqb n no_notice) ns ≡ true → ns ≡ no_notices
all_none ns l a =
    ext_get_or no_notice ns no_notices l
    (λ i b. let h : i < 16 = omega (arith, l, b) in eqb-true (get_or ns i no_notice) no_notice ((each (λ n. eqb n no_notice) no_notice ns).told a i b) ∙ sym (get_or-replicate 16 i no_notice no_notice h))

own_bare : (s : Sheet) → sound_sheet s ≡ true → s.spoiled ≡ true → bare s ≡ true
unfolding sound_sheet
own_bare s e p =
    let b = right _ _ (right _ _ (right _ _ (right _ _ (right _ _ (right _ _ (right _ _ (right _ _ (right _ _ e)))))))) in
    ⊎_elim (λ q. absurd (true≢false (sym p ∙ not-true _ q))) (λ q. q) (or→ _ _ b)

-- A SPOILED SOUND SHEET IS THE SPOILED SHEET
pub own_spoiled : (s : Sheet) → sound_sheet s ≡ true → s.spoiled ≡ true → s ≡ spoiled_sheet s.epoch s.roster
unfolding spoiled_sheet bare
own_spoiled s e p =
    let b = own_bare s e p in
    λ i. record {
      epoch = s.epoch;
      roster = s.roster;
      spoiled = p i;
      notices = all_none s.notices (sound_sheet→ s e).sixteen (right _ _ b) i;
      sets = none_left s.sets (eqb-true (length s.sets) 0 (left _ _ b)) i;
    }
