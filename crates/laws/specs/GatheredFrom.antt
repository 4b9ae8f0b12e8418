-- Gathering that began at given sheets: the spoiled sheet if one of them was spoiled, else the sheet of all the offers. The laws of what
-- is gathered hold of it too.
use Rattle.std.specs.Prelude.{ℕ, ◌≡◌, Bool, true, false, List, [], ◌∷◌, ◌++◌, if◌then◌else◌}
use Rattle.std.proofs.Math.Path.{refl}
use Rattle.std.proofs.Common.{sym, ◌∙◌, ap₂, ⊎_elim, true≢false}
use Rattle.rules.specs.Lists.{◌or◌}
use Rattle.rules.specs.Sheet.{Sheet, sound_sheet}
use Rattle.rules.specs.Gathering.{Offer, spoils, spoiled_sheet, gathered, offers_of, with_offer, joined}
use Rattle.laws.specs.Tests.{or→}
use Rattle.laws.specs.ListLaws.{Sub}
use Rattle.laws.specs.GatherLaws.{Proper, spoils_more, same_offers, gathered_spoiled, gathered_put, gathered_join, epoch_of_lem, roster_of_lem, spoiled_of}
use Rattle.laws.specs.GatherSound.{Fair, Head, gathered_sound, spoiled_sound}
use Rattle.laws.specs.OwnOffers.{own_offers, own_spoiled}

-- the sheet of these offers, where the test says if a sheet that was begun at was spoiled
abbrev pub gathered_from : Bool → ℕ → ℕ → List Offer → Sheet
gathered_from t e r os = if t then spoiled_sheet e r else gathered e r os

-- its epoch, its roster, and when it is spoiled
pub from_epoch : (t : Bool) (e r : ℕ) (os : List Offer) → (gathered_from t e r os).epoch ≡ e
from_epoch true e r os = unfold spoiled_sheet in refl
from_epoch false e r os = epoch_of_lem e r os

pub from_roster : (t : Bool) (e r : ℕ) (os : List Offer) → (gathered_from t e r os).roster ≡ r
from_roster true e r os = unfold spoiled_sheet in refl
from_roster false e r os = roster_of_lem e r os

pub from_spoiled : (t : Bool) (e r : ℕ) (os : List Offer) → (gathered_from t e r os).spoiled ≡ t or spoils os
unfolding ◌or◌
from_spoiled true e r os = unfold spoiled_sheet in refl
from_spoiled false e r os = spoiled_of e r os

-- of fair offers it is sound
pub from_sound : (t : Bool) (e r : ℕ) (os : List Offer) → Head e r → Fair e r os → sound_sheet (gathered_from t e r os) ≡ true
from_sound true e r os h f = spoiled_sound e r h
from_sound false e r os h f = gathered_sound e r os h f

-- one offer more
pub from_put : (t : Bool) (e r : ℕ) (xs : List Offer) (o : Offer) → Proper xs → with_offer (gathered_from t e r xs) o ≡ gathered_from t e r (xs ++ (o ∷ []))
from_put true e r xs o g = unfold with_offer spoiled_sheet in refl
from_put false e r xs o g = gathered_put e r xs o g

-- joined with a spoiled one
join_second : (a : Sheet) (e r : ℕ) → joined a (spoiled_sheet e r) ≡ spoiled_sheet a.epoch a.roster
unfolding joined spoiled_sheet ◌or◌
join_second a e r = go a.spoiled
  where
    go : (t : Bool) → (if t or true then spoiled_sheet a.epoch a.roster else gathered a.epoch a.roster (offers_of a ++ offers_of (spoiled_sheet e r))) ≡ spoiled_sheet a.epoch a.roster
    go true = refl
    go false = refl

-- two joined
pub from_join : (s t : Bool) (e r : ℕ) (xs ys : List Offer) → Proper xs → Proper ys
    → joined (gathered_from s e r xs) (gathered_from t e r ys) ≡ gathered_from (s or t) e r (xs ++ ys)
unfolding ◌or◌
from_join true t e r xs ys g h = unfold joined spoiled_sheet in refl
from_join false true e r xs ys g h = join_second (gathered e r xs) e r ∙ ap₂ spoiled_sheet (epoch_of_lem e r xs) (roster_of_lem e r xs)
from_join false false e r xs ys g h = gathered_join e r xs ys g h

-- a sound sheet, from its own offers
pub from_own : (s : Sheet) → sound_sheet s ≡ true → gathered_from s.spoiled s.epoch s.roster (offers_of s) ≡ s
from_own s e = go s.spoiled refl
  where
    go : (t : Bool) → s.spoiled ≡ t → gathered_from t s.epoch s.roster (offers_of s) ≡ s
    go true p = sym (own_spoiled s e p)
    go false p = own_offers s e p

-- which offers there are settles it
pub from_same : (t : Bool) (e r : ℕ) (xs ys : List Offer) → Sub xs ys → Sub ys xs → gathered_from t e r xs ≡ gathered_from t e r ys
from_same true e r xs ys s v = refl
from_same false e r xs ys s v = same_offers e r xs ys s v

-- SPOILED IS FINAL: once spoiled, with more offers and more sheets begun at it stays so
pub from_more : (s t : Bool) (e r : ℕ) (xs ys : List Offer) → (s ≡ true → t ≡ true) → Sub xs ys → s or spoils xs ≡ true → gathered_from t e r ys ≡ spoiled_sheet e r
from_more s true e r xs ys f v p = refl
from_more s false e r xs ys f v p =
    gathered_spoiled e r ys (⊎_elim (λ q. absurd (true≢false (sym (f q)))) (λ q. spoils_more xs ys v q) (or→ s (spoils xs) p))
