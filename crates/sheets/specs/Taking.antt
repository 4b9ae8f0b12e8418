-- From which of two sheets the next set is taken: what a decision of that names.
use Rattle.std.specs.Prelude.{ℕ, ◌<◌, ◌≡◌, ltb, length, if◌then◌else◌}
use Rattle.rules.specs.Sheet.{WriteSet, Sheet}
use Rattle.sheets.specs.declared.next.Next.{Next}
use Rattle.sheets.specs.declared.next.Next.TheVariants.{First, Second, Both}
use Rattle.sheets.specs.SheetReadings.{set_at}

-- of two sets the one with the smaller csn
unfoldable pub next_of : WriteSet → WriteSet → WriteSet
next_of v w = if ltb v.csn w.csn then v else w

-- the set that is next, of one of each sheet: a set of both is read from the second
unfoldable pub taken : Next → WriteSet → WriteSet → WriteSet
taken First v w = v
taken Second v w = w
taken Both v w = w

-- set i of the first sheet and set j of the second are there, where they are taken
abbrev pub Within : Next → Sheet → ℕ → Sheet → ℕ → Type 0
Within First a i b j = i < length a.sets
Within Second a i b j = j < length b.sets
Within Both a i b j = (i < length a.sets) × (j < length b.sets)

-- the csn of the set that is taken is the smaller one; of a set of both it is the same
abbrev pub Smaller : Next → ℕ → ℕ → Type 0
Smaller First x y = x < y
Smaller Second x y = y < x
Smaller Both x y = x ≡ y

-- of set i of the first sheet and set j of the second the named one is next: it is there, and where both are, its csn is the smaller
pub record Chosen (n : Next) (a : Sheet) (i : ℕ) (b : Sheet) (j : ℕ) : Type 0 where
  pub within : Within n a i b j
  pub smaller : i < length a.sets → j < length b.sets → Smaller n (set_at a i).csn (set_at b j).csn
