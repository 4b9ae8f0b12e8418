-- What the answers 'this or nothing' mean: what is applied to a key, and who wins it.
use Rattle.std.specs.Prelude.{ℕ, ◌≡◌, Bool, false, List, eqb, Option, None, Some, option_map}
use Rattle.rules.specs.declared.mark.Mark.{Mark}
use Rattle.rules.specs.Numbers.{earlier}
use Rattle.rules.specs.Sheet.{WriteSet, Sheet}
use Rattle.rules.specs.Closing.{mark_in}
use Rattle.rules.specs.Becoming.{applied, applied_to, committed_on}
use Rattle.judging.specs.declared.committed.Write.{Write}

-- what committed sets of the sheet apply to a key: the record of the one that names it, with that set's mark, or nothing
abbrev pub AppliesTo : Sheet → List WriteSet → ℕ → Option Write → Type 0
AppliesTo s c k (Some e) = (applied_to (applied c) k ≡ Some e.record) × ((w : WriteSet) × (committed_on c k ≡ Some w) × (e.mark ≡ mark_in s w))
AppliesTo s c k None = (applied_to (applied c) k ≡ None) × (committed_on c k ≡ None)

-- the mark of a set of the sheet, if there is one
abbrev pub winner_of : Sheet → Option WriteSet → Option Mark
winner_of s w = option_map (mark_in s) w

-- who leads once the set of a mark claims the key too
abbrev pub earlier_of : Option Mark → Mark → Option Mark
earlier_of None m = Some m
earlier_of (Some l) m = Some (earlier l m)

-- the winner is the set of this csn
abbrev pub won_by : Option Mark → ℕ → Bool
won_by None csn = false
won_by (Some m) csn = eqb m.csn csn
