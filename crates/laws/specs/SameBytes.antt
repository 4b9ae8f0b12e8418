-- Trees of one epoch, one roster and the same distinct offers end in the same bytes, however the offers were dealt, ordered, repeated
-- and joined. A spoiled sheet holds no offers, so both began at one, or neither did.
use Rattle.std.specs.Prelude.{◌≡◌}
use Rattle.std.proofs.Common.{sym, ◌∙◌, ap}
use Rattle.words.specs.Words.{Bytes}
use Rattle.rules.specs.Sheet.{sheet_bytes}
use Rattle.rules.specs.Refused.{done}
use Rattle.laws.specs.ListLaws.{Sub}
use Rattle.laws.specs.GatheredFrom.{gathered_from, from_same}
use Rattle.laws.specs.Trees.{Tree, paper, ends, offers_in, epoch_of, roster_of, spoiled_in, gathered_in}
use Rattle.laws.specs.Demand3.{demand_3}

-- the same distinct offers: each of either tree is in the other, and both began at a spoiled sheet or neither did
pub record SameOffers (t u : Tree) : Type 0 where
  pub there : Sub (offers_in t) (offers_in u)
  pub back : Sub (offers_in u) (offers_in t)
  pub spoiled_alike : spoiled_in t ≡ spoiled_in u

-- the same sheet is gathered
pub same_gathered : (t u : Tree) → epoch_of t ≡ epoch_of u → roster_of t ≡ roster_of u → SameOffers t u → gathered_in t ≡ gathered_in u
unfolding gathered_in
same_gathered t u c d h =
    from_same (spoiled_in t) (epoch_of t) (roster_of t) (offers_in t) (offers_in u) h.there h.back
    ∙ λ i. gathered_from (h.spoiled_alike i) (c i) (d i) (offers_in u)

-- the same of trees that are not refused
pub same_ended : (t u : Tree) (a b : Bytes) → ends paper t ≡ done a → ends paper u ≡ done b
    → epoch_of t ≡ epoch_of u → roster_of t ≡ roster_of u → SameOffers t u → a ≡ b
same_ended t u a b p q c d h = demand_3 t a p ∙ ap sheet_bytes (same_gathered t u c d h) ∙ sym (demand_3 u b q)
