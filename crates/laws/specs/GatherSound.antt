-- What is gathered from fair offers is a sound sheet, so it comes back from its bytes.
use Rattle.std.specs.Prelude.{ℕ, ◌<◌, ◌≤◌, ◌≡◌, refl, Bool, true, false, not, length, get_or, leb, Some}
use Rattle.std.proofs.Common.{sym, ◌∙◌, ap, subst, ⊎_elim, arith, ltb-false, le-leb, eq-eqb}
use Rattle.std.proofs.lemmas.Bool.{false≢true}
use mathlib.Core.List.Memᴰ
use mathlib.Core.List.{List, [], ◌∷◌, map, Memᴰ}
use Rattle.rules.specs.Lists.{◌and◌, ◌or◌, all, any, keep, count, flat, ascend, up_from}
use Rattle.rules.specs.Numbers.{fits}
use Rattle.rules.specs.Sheet.{Sheet, no_notice, max_sets, masters, csn_of, sets_of, allows, in_roster, sound_set, sound_notice, sound_sheet, bare, sheet_bytes, read_sheet}
use Rattle.rules.specs.Gathering.{Offer, a_set, a_notice, sets_among, notices_among, some_two, distinct, notice_of, shared_csn, two_notices, too_many, over_notice, spoils, sound_of, empty_sheet, spoiled_sheet, holding, gathered}
use Rattle.laws.specs.Tests.{left, right, both, or→, or_left, or_right}
use Rattle.laws.specs.ListLaws.{→any, →all, up_from→}
use Rattle.laws.specs.SheetLaws.{read_written}
use Rattle.laws.specs.Rising.{→ascend}
use Rattle.laws.specs.Distinct.{sorted, distinct→}
use Rattle.laws.specs.Notices.{notice_in_lem}
use Rattle.laws.specs.GatherLaws.{Proper, set→, notice→, notice_at_lem, many_not, over_not, gathered_spoiled, gathered_holds}

-- an offer that no refusal hits, in a sheet of an epoch and a roster
abbrev pub FairOffer : ℕ → ℕ → Offer → Type 0
FairOffer e r (a_set w) = sound_set e r w ≡ true
FairOffer e r (a_notice x) = (x.master < 16) × (x.number ≤ max_sets) × (in_roster r x.master ≡ true)

-- offers that are all so
abbrev pub Fair : ℕ → ℕ → List Offer → Type 0
Fair e r os = (o : Offer) → Memᴰ o os → FairOffer e r o

-- an epoch and a roster that a sheet can have
pub record Head (e r : ℕ) : Type 0 where
  pub epoch : leb 1 e ≡ true
  pub epoch_fits : fits 4 e ≡ true
  pub roster : leb 1 r ≡ true
  pub roster_fits : fits 2 r ≡ true

-- that of a sound sheet
pub head_of : (s : Sheet) → sound_sheet s ≡ true → Head s.epoch s.roster
unfolding sound_sheet
head_of s e = record {
  epoch = left _ _ e;
  epoch_fits = left _ _ (right _ _ e);
  roster = left _ _ (right _ _ (right _ _ e));
  roster_fits = left _ _ (right _ _ (right _ _ (right _ _ e)));
}

-- one fair offer
pub one_fair : (e r : ℕ) (o : Offer) → FairOffer e r o → Fair e r (o ∷ [])
one_fair e r o f x m = subst (FairOffer e r) (sym (Memᴰ.eq_of_singleton m)) f

pub proper : (e r : ℕ) (os : List Offer) → Fair e r os → Proper os
proper e r os f x k = let b = f (a_notice x) k in (b.0, omega arith)

pub spoiled_sound : (e r : ℕ) → Head e r → sound_sheet (spoiled_sheet e r) ≡ true
unfolding sound_sheet spoiled_sheet bare all ◌or◌ sound_notice up_from ascend
spoiled_sound e r o = both o.epoch (both o.epoch_fits (both o.roster (both o.roster_fits (both refl (unfold ◌and◌ in refl)))))

-- what is held of a master allows its sets
held_allows : (os : List Offer) → over_notice os ≡ false → (m : ℕ) → Memᴰ m masters → allows (notice_of m (notices_among os)) (sets_of m (distinct (sets_among os))) ≡ true
unfolding over_notice
held_allows os p m k = go (allows (notice_of m (notices_among os)) (sets_of m (distinct (sets_among os)))) refl
  where
    over : ℕ → Bool
    over n = not (allows (notice_of n (notices_among os)) (sets_of n (distinct (sets_among os))))

    go : (t : Bool) → allows (notice_of m (notices_among os)) (sets_of m (distinct (sets_among os))) ≡ t → allows (notice_of m (notices_among os)) (sets_of m (distinct (sets_among os))) ≡ true
    go true q = q
    go false q = absurd (false≢true (sym p ∙ →any over k (ap not q)))

-- the notice of a master in what is held
held_notice : (e r : ℕ) (os : List Offer) → Fair e r os → over_notice os ≡ false → (m : ℕ) → Memᴰ m masters
    → sound_notice r m (notice_of m (notices_among os)) (sets_of m (distinct (sets_among os))) ≡ true
unfolding sound_notice allows
held_notice e r os f p m k =
    ⊎_elim (λ q. or_left _ _ (eq-eqb _ _ q))
    (λ i.
    let b = f _ (notice→ os i) in
    ⊎_elim (λ q. or_left _ _ q) (λ q. or_right _ _ (both b.2 (both (le-leb (notice_of m (notices_among os)) max_sets b.1) q)))
    (or→ _ _ (held_allows os p m k)))
    (notice_in_lem m (notices_among os))

held_notices : (e r : ℕ) (os : List Offer) → Fair e r os → over_notice os ≡ false → (m : ℕ) → Memᴰ m masters
    → sound_notice r m (get_or (map (λ k. notice_of k (notices_among os)) masters) m no_notice) (sets_of m (distinct (sets_among os))) ≡ true
held_notices e r os f p m k = rw (notice_at_lem (notices_among os) m (up_from→ 0 16 k).1) (held_notice e r os f p m k)

held_few : (os : List Offer) → too_many os ≡ false → leb (length (distinct (sets_among os))) max_sets ≡ true
unfolding too_many
held_few os p = le-leb (length (distinct (sets_among os))) max_sets (ltb-false max_sets (length (distinct (sets_among os))) p)

held_sound : (e r : ℕ) (os : List Offer) → Head e r → Fair e r os → spoils os ≡ false → sound_sheet (holding e r os) ≡ true
unfolding sound_sheet holding sound_of
held_sound e r os o f p =
    both o.epoch (both o.epoch_fits (both o.roster (both o.roster_fits
    (both (unfold up_from in refl)
    (both (→all _ masters (held_notices e r os f (over_not os p)))
    (both (held_few os (many_not os p))
    (both (→ascend csn_of (sorted (sets_among os)))
    (both (→all (sound_set e r) _ (λ w m. f (a_set w) (set→ os (distinct→ (sets_among os) m))))
    (or_left _ _ refl)))))))))

-- A SHEET GATHERED FROM FAIR OFFERS IS SOUND
pub gathered_sound : (e r : ℕ) (os : List Offer) → Head e r → Fair e r os → sound_sheet (gathered e r os) ≡ true
gathered_sound e r os o f = go (spoils os) refl
  where
    go : (t : Bool) → spoils os ≡ t → sound_sheet (gathered e r os) ≡ true
    go true p = ap sound_sheet (gathered_spoiled e r os p) ∙ spoiled_sound e r o
    go false p = ap sound_sheet (gathered_holds e r os p) ∙ held_sound e r os o f p

-- so it comes back from its bytes
pub gathered_read : (e r : ℕ) (os : List Offer) → Head e r → Fair e r os → read_sheet (sheet_bytes (gathered e r os)) ≡ Some (gathered e r os)
gathered_read e r os o f = read_written (gathered e r os) (gathered_sound e r os o f)

-- the sheet of no offers is the one that is opened
pub gathered_none : (e r : ℕ) → gathered e r [] ≡ empty_sheet e r
unfolding gathered spoils shared_csn two_notices too_many over_notice holding sets_among notices_among flat some_two any ◌or◌ up_from notice_of allows sets_of count keep distinct empty_sheet sound_of
gathered_none e r = refl
