-- Trees that nothing in the table of refusals hits: one epoch and one roster throughout, offers that are well-formed and of masters in
-- the roster, buffers that are long enough.
use Rattle.std.specs.Prelude.{ℕ, ◌≤◌, ◌≡◌, true, Some}
use Rattle.words.specs.Words.{Bytes}
use Rattle.rules.specs.Numbers.{master_of}
use Rattle.rules.specs.Sheet.{in_roster, sheet_in}
use Rattle.rules.specs.Gathering.{Offer}
use Rattle.rules.specs.Refused.{sheet_room, offered_set, offered_notice}
use Rattle.laws.specs.Trees.{Tree, opened, put, notice, join, given, epoch_of, roster_of}

-- an offered set that is well-formed, and of a master in the roster
pub record GoodSet (e r sen csn : ℕ) (b : Bytes) : Type 0 where
  pub well_formed_lem : (o : Offer) × (offered_set e sen csn b ≡ Some o)
  pub in_roster_lem : in_roster r (master_of csn) ≡ true

-- an offered notice that is well-formed, and of a master in the roster
pub record GoodNotice (e r m n : ℕ) : Type 0 where
  pub well_formed_lem : (o : Offer) × (offered_notice e m n ≡ Some o)
  pub in_roster_lem : in_roster r m ≡ true

-- a tree over one epoch and one roster whose offers are so, and whose buffers are each at least 9,240 long
unfoldable pub FairTree : ℕ → ℕ → Tree → Type 0
FairTree e r (opened f q room) = (f.value ≡ e) × (q.value ≡ r) × (sheet_room ≤ room)
FairTree e r (put t f sen csn b room) = FairTree e r t × (f ≡ e) × GoodSet e r sen csn.value b × (sheet_room ≤ room)
FairTree e r (notice t f m n room) = FairTree e r t × (f ≡ e) × GoodNotice e r m n × (sheet_room ≤ room)
FairTree e r (join t u room) = FairTree e r t × FairTree e r u × (sheet_room ≤ room)
FairTree e r (given b p) = ((sheet_in b).epoch ≡ e) × ((sheet_in b).roster ≡ r)

-- its epoch and its roster are those
pub fair_head : (e r : ℕ) (t : Tree) → FairTree e r t → (epoch_of t ≡ e) × (roster_of t ≡ r)
unfolding FairTree epoch_of roster_of
fair_head e r (opened f q room) h = (h.0, h.1)
fair_head e r (put t f sen csn b room) h = fair_head e r t h.0
fair_head e r (notice t f m n room) h = fair_head e r t h.0
fair_head e r (join t u room) h = fair_head e r t h.0
fair_head e r (given b p) h = h
