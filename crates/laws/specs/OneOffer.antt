-- The sheet of one offer: it is sound, and putting an offer in is joining with it.
use Rattle.std.specs.Prelude.{ℕ, ◌≡◌, Bool, true, [], ◌∷◌, ◌++◌, leb, if◌then◌else◌}
use Rattle.std.proofs.Math.Path.{refl}
use Rattle.std.proofs.Common.{sym, ◌∙◌, ap, arith, eq-eqb, le-leb}
use Rattle.std.proofs.Math.Bool.{false}
use Rattle.rules.specs.Lists.{◌and◌, ◌or◌, any, flat, keep, count, up_from}
use Rattle.rules.specs.Sheet.{Sheet, sets_of, allows, sound_sheet}
use Rattle.rules.specs.Gathering.{Offer, a_set, a_notice, set_in, notice_in, sets_among, notices_among, clash, differ, some_two, put_set, distinct, notice_of, shared_csn, two_notices, too_many, over_notice, spoils, sound_of, spoiled_sheet, holding, gathered, offers_of, with_offer, joined}
use Rattle.laws.specs.ListLaws.{sub_append_right}
use Rattle.laws.specs.Merging.{same_set_refl}
use Rattle.laws.specs.GatherLaws.{gathered_holds, held→, →held, same_offers}
use Rattle.laws.specs.GatherSound.{FairOffer, Head, one_fair, proper, gathered_sound}

or_true : (t : Bool) → t or true ≡ true
unfolding ◌or◌
or_true true = refl
or_true false = refl

-- ONE OFFER DOES NOT SPOIL
pub one_holds : (o : Offer) → spoils (o ∷ []) ≡ false
unfolding spoils shared_csn two_notices too_many over_notice sets_among notices_among flat set_in notice_in some_two any clash differ distinct put_set notice_of allows sets_of count keep up_from ◌and◌ ◌or◌
one_holds (a_set w) = simp (same_set_refl w, eq-eqb w.csn w.csn refl)
one_holds (a_notice x) = simp (eq-eqb x.master x.master refl, eq-eqb x.number x.number refl, fits_none, or_true)
  where
    fits_none : (k : ℕ) → leb 0 k ≡ true
    fits_none k = le-leb 0 k (omega arith)

-- so its sheet holds it, and is sound
pub one_gathered : (e r : ℕ) (o : Offer) → gathered e r (o ∷ []) ≡ holding e r (o ∷ [])
one_gathered e r o = gathered_holds e r (o ∷ []) (one_holds o)

pub one_sound : (e r : ℕ) (o : Offer) → Head e r → FairOffer e r o → sound_sheet (holding e r (o ∷ [])) ≡ true
one_sound e r o h f = sym (ap sound_sheet (one_gathered e r o)) ∙ gathered_sound e r (o ∷ []) h (one_fair e r o f)

-- PUTTING AN OFFER IN IS JOINING WITH THE SHEET OF THAT ONE OFFER
pub put_joins : (a : Sheet) (r : ℕ) (o : Offer) → FairOffer a.epoch r o → joined a (holding a.epoch a.roster (o ∷ [])) ≡ with_offer a o
unfolding joined with_offer
put_joins a r o f = go a.spoiled refl
  where
    more : gathered a.epoch a.roster (offers_of a ++ offers_of (holding a.epoch a.roster (o ∷ []))) ≡ gathered a.epoch a.roster (offers_of a ++ (o ∷ []))
    more =
        same_offers a.epoch a.roster _ _
        (sub_append_right (offers_of a) (held→ a.epoch a.roster (o ∷ [])))
        (sub_append_right (offers_of a) (→held a.epoch a.roster (o ∷ []) (one_holds o) (proper a.epoch r (o ∷ []) (one_fair a.epoch r o f))))

    sound : (holding a.epoch a.roster (o ∷ [])).spoiled ≡ false
    sound = unfold holding sound_of in refl

    go : (t : Bool) → a.spoiled ≡ t
        → (if a.spoiled or (holding a.epoch a.roster (o ∷ [])).spoiled then spoiled_sheet a.epoch a.roster else gathered a.epoch a.roster (offers_of a ++ offers_of (holding a.epoch a.roster (o ∷ []))))
        ≡ (if a.spoiled then spoiled_sheet a.epoch a.roster else gathered a.epoch a.roster (offers_of a ++ (o ∷ [])))
    go true p = unfold ◌or◌ in simp p
    go false p = unfold ◌or◌ in simp (p, sound) more
