-- Two sheets walked together, set by set in csn order, and master by master.
use Rattle.std.specs.Prelude.{ℕ, ◌+◌, ◌≤◌, ◌<◌, ◌≡◌, Bool, true, false, List, ◌∷◌, ◌++◌, length, get_or, drop, Option, None, Some}
use Rattle.words.specs.Words.{Bytes}
use Rattle.rules.specs.Lists.{◌or◌}
use Rattle.rules.specs.Sheet.{WriteSet, Sheet, max_sets, sets_of, is_sheet, sheet_in}
use Rattle.rules.specs.Gathering.{distinct, clash, some_two, spoiled_sheet, joined}
use Rattle.laws.specs.Joining.{notices_differ, together, over_at, join_held}
use Rattle.sheets.specs.declared.next.Next.{Next}
use Rattle.sheets.specs.declared.next.Next.TheVariants as next
use Rattle.sheets.specs.SheetReadings.{master_count, no_set, set_at}
use Rattle.sheets.specs.Taking.{taken, Chosen}
use Rattle.walk.specs.declared.place.Place.{Place}

-- before all sets of both
abbrev pub start : Place
start = record { i = 0; j = 0 }

-- the sets of both sheets behind a place, as they stand
unfoldable pub unpassed : Sheet → Sheet → Place → List WriteSet
unpassed a b p = drop p.i a.sets ++ drop p.j b.sets

-- the distinct ones, in csn order
unfoldable pub behind : Sheet → Sheet → Place → List WriteSet
behind a b p = distinct (unpassed a b p)

-- the next of them
unfoldable pub next_at : Sheet → Sheet → Place → WriteSet
next_at a b p = get_or (behind a b p) 0 no_set

-- master m has two different notices, or more sets than its notice
unfoldable pub notice_spoils : Sheet → Sheet → ℕ → Bool
notice_spoils a b m = notices_differ a b m or over_at a b m

-- sixteen counters say how many distinct sets of both sheets each master has
abbrev pub Tallied : Sheet → Sheet → List ℕ → Type 0
Tallied a b by = (m : ℕ) → m < master_count → get_or by m 0 ≡ sets_of m (together a b)

-- what two sheets are joined to: the one that holds what both do, of so many sets, or the spoiled sheet
abbrev pub JoinsTo : Sheet → Sheet → Option ℕ → Type 0
JoinsTo a b None = joined a b ≡ spoiled_sheet a.epoch a.roster
JoinsTo a b (Some n) = (joined a b ≡ join_held a b) × (n ≡ length (together a b)) × (n ≤ max_sets)

-- two examined sheets
pub record TwoSheets (a b : Bytes) : Type 0 where
  pub one : is_sheet a ≡ true
  pub two : is_sheet b ≡ true

-- a place in two examined sheets
pub record At (a b : Bytes) (p : Place) : Type 0 where
  pub one : is_sheet a ≡ true
  pub two : is_sheet b ≡ true
  pub first : p.i ≤ length (sheet_in a).sets
  pub second : p.j ≤ length (sheet_in b).sets

-- both sheets have a set behind it
abbrev pub BothLeft : Sheet → Sheet → Place → Type 0
BothLeft a b p = (p.i < length a.sets) × (p.j < length b.sets)

-- from one place to another the next set is passed, in each sheet that has it; unless the two sheets' sets clash here, no clash is passed
pub record Advanced (a b : Sheet) (p q : Place) : Type 0 where
  pub first : q.i ≤ length a.sets
  pub second : q.j ≤ length b.sets
  pub leaves : behind a b p ≡ next_at a b p ∷ behind a b q
  pub apart : BothLeft a b p → clash (set_at a p.i) (set_at b p.j) ≡ false
      → some_two clash (unpassed a b p) ≡ some_two clash (unpassed a b q)

-- the place behind the next set, by the sheet that it is taken from
unfoldable pub passed : Place → Next → Place
passed p next.First = record { i = p.i + 1; j = p.j }
passed p next.Second = record { i = p.i; j = p.j + 1 }
passed p next.Both = record { i = p.i + 1; j = p.j + 1 }

-- from which sheet the next set is taken: that sheet has it, and where both have one its csn is the smaller; it is the next, and passing it leaves the others
pub record Decided (a b : Sheet) (p : Place) (n : Next) : Type 0 where
  pub chosen : Chosen n a p.i b p.j
  pub next : next_at a b p ≡ taken n (set_at a p.i) (set_at b p.j)
  pub passes : Advanced a b p (passed p n)
