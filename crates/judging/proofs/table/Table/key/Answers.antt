-- By the same test as the definition's.
use Rattle.std.proofs.Common.{ℕ, ◌≡◌, refl, sym, ◌∙◌, Bool, true, false, not, eqb, if◌then◌else◌, None, Some}
use Rattle.std.specs.Bool.{then_some}
use Rattle.judging.specs.Tables.{from_table, keys_of}
use Rattle.judging.proofs.Keys.{key_there}
use Rattle.judging.proofs.table.Table.key.Goals as goal

by_number : (n : ℕ) → then_some (not (eqb n 0)) n ≡ from_table n
unfolding from_table
by_number n = go (eqb n 0)
  where
    go : (none : Bool) → then_some (not none) n ≡ (if none then None else Some n)
    go true = refl
    go false = refl

pub returns : goal.returns
unfolding keys_of
returns c = let keys = c.args.self.now.keys in
    c.then_some.ensures ∙ by_number _ ∙ sym (key_there keys c.args.i)
