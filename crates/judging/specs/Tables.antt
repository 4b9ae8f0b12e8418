-- The tables of closing: for each set of a sheet the first key found wrong, and the first key lost.
use Rattle.std.specs.Prelude.{ℕ, ◌<◌, ◌≡◌, Bool, List, map, length, get_or, eqb, if◌then◌else◌, Option, None, Some, is_none, option_map}
use Rattle.std.specs.Option.{unwrap_or}
use Rattle.std.specs.Fn.{Shared, FnReturnsAt}
use denote.Ref.{Bor}
use Rattle.rules.specs.declared.row.Record.{Record}
use Rattle.rules.specs.Lists.{◌and◌, keep, up_from}
use Rattle.rules.specs.Register.{Register}
use Rattle.rules.specs.Sheet.{WriteSet, Sheet, record_key}
use Rattle.rules.specs.Closing.{names, first_wrong, first_lost}
use Rattle.sheets.specs.declared.set.WriteSet as view
use Rattle.sheets.specs.SheetReadings.{set_at}
use Rattle.sheets.specs.Views.{set_of}
use Rattle.judging.specs.declared.table.Table.{Table}

-- the number that stands for a key in a table: a key is at least 1, so 0 is none
abbrev pub in_table : Option ℕ → ℕ
in_table key = unwrap_or key 0

-- the key that a number stands for
unfoldable pub from_table : ℕ → Option ℕ
from_table n = if eqb n 0 then None else Some n

-- the keys of a table, by their places
unfoldable pub keys_of : Table → List (Option ℕ)
keys_of t = map from_table t.keys

-- what a table can hold: none, or a key, which is at least 1
abbrev pub IsKey : Option ℕ → Type 0
IsKey None = Unit {0}
IsKey (Some k) = 0 < k

-- the key of a record, if there is one
abbrev pub first_key : Option Record → Option ℕ
first_key r = option_map record_key r

-- a table has no key at place i
unfoldable pub none_at : List (Option ℕ) → ℕ → Bool
none_at xs i = is_none (get_or xs i None)

-- the sets of a sheet for which a table has no key; by the table of lost keys they are those that commit
unfoldable pub committed_in : Sheet → List (Option ℕ) → List WriteSet
committed_in s lost = map (set_at s) (keep (none_at lost) (up_from 0 (length s.sets)))

-- the first key of a set found wrong
unfoldable pub wrong_key : Register → WriteSet → Option ℕ
wrong_key g w = first_key (first_wrong g w)

-- the first key of a set that it does not win
unfoldable pub lost_key : Register → Sheet → WriteSet → Option ℕ
lost_key g s w = first_key (first_lost g s w)

-- a table has f's key for each set of the sheet
abbrev pub Tells : (WriteSet → Option ℕ) → Sheet → List (Option ℕ) → Type 0
Tells f s xs = (k : ℕ) → k < length s.sets → get_or xs k None ≡ f (set_at s k)

-- a table has for each set of the sheet a key that the code's function f may give for it
abbrev pub HasKeyOf : {F : Type 0} → Shared F (Bor view.WriteSet × Unit {0}) (Option ℕ) → F → Sheet → List (Option ℕ) → Type 0
HasKeyOf g f s xs = (k : ℕ) → k < length s.sets → (w : view.WriteSet) × (set_of w ≡ set_at s k) × FnReturnsAt g f w (get_or xs k None)

-- all that the code's function f may give for a set can stand in a table
abbrev pub GivesKeys : {F : Type 0} → Shared F (Bor view.WriteSet × Unit {0}) (Option ℕ) → F → Type 0
GivesKeys g f = (w : view.WriteSet) (key : Option ℕ) → FnReturnsAt g f w key → IsKey key

-- by the table of wrong keys set i is fit, and it names the key
unfoldable pub claims_by : Sheet → List (Option ℕ) → ℕ → ℕ → Bool
claims_by s wrong i key = none_at wrong i and names (set_at s i) key
