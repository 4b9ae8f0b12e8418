-- How closing goes by the tables: who owes sets, and what the committed sets insert.
use Rattle.std.specs.Prelude.{ℕ, ◌≤◌, ◌<◌, ◌≡◌, Bool, true, not, List, length, ltb, eqb, if◌then◌else◌, Option, None, Some}
use Rattle.rules.specs.declared.row.Record.{Record}
use Rattle.rules.specs.Lists.{◌or◌, count}
use Rattle.rules.specs.Sheet.{WriteSet, Sheet, insert, in_roster}
use Rattle.rules.specs.Closing.{sent}
use Rattle.sheets.specs.SheetReadings.{set_at, record_at}
use Rattle.judging.specs.Tables.{none_at}

-- master m is outside the roster, or has sent all its sets
unfoldable pub nothing_owed : Sheet → ℕ → Bool
nothing_owed s m = not (in_roster s.roster m) or sent s m

-- how many records there are of a kind
unfoldable pub of_kind : ℕ → List Record → ℕ
of_kind kind rs = count (λ r. eqb r.kind kind) rs

-- a set inserts a key
pub record Inserts (w : WriteSet) (k : ℕ) : Type 0 where
  pub number : ℕ
  pub within : number < length w.records
  pub is_insert_lem : (record_at w number).kind ≡ insert
  pub keyed : (record_at w number).key ≡ k

-- one of the first n sets of a sheet inserts it, and by the table of lost keys that set commits
pub record InsertsIn (s : Sheet) (lost : List (Option ℕ)) (n k : ℕ) : Type 0 where
  pub number : ℕ
  pub within : number < n
  pub committed : none_at lost number ≡ true
  pub inserts : Inserts (set_at s number) k

-- k is the least of the numbers above `after` of which P holds
pub record IsLeast (P : ℕ → Type 0) (after k : ℕ) : Type 0 where
  pub above : after < k
  pub holds : P k
  pub least : (j : ℕ) → after < j → P j → k ≤ j

-- the first key above `after` of which P holds is r
abbrev pub LeastAbove : (ℕ → Type 0) → ℕ → Option ℕ → Type 0
LeastAbove P after None = (j : ℕ) → after < j → P j → ⊥
LeastAbove P after (Some k) = IsLeast P after k

-- the smaller of two keys, if there are two
abbrev pub smaller : Option ℕ → Option ℕ → Option ℕ
smaller None b = b
smaller (Some j) None = Some j
smaller (Some j) (Some k) = if ltb k j then Some k else Some j
