-- Document 01, 'Numbers': what fits where, masters, marks, and which of two marks precedes.
use Rattle.std.specs.Prelude.{ℕ, ◌%◌, ◌^◌, Bool, ltb, eqb, if◌then◌else◌}
use Rattle.rules.specs.declared.mark.Mark.{Mark}
use Rattle.rules.specs.declared.row.Row.{Row}
use Rattle.rules.specs.Lists.{run_lists}

-- x can be written in n bytes: 4 for keys and epochs, 8 for values and commit numbers
unfoldable pub fits : ℕ → ℕ → Bool
fits n x = ltb x (256 ^ n)

-- a commit number is time × 16 + master
abbrev pub master_of : ℕ → ℕ
master_of csn = csn % 16

-- a mark is cen, sen, csn
abbrev pub mark_of : ℕ → ℕ → ℕ → Mark
mark_of cen sen csn = record { cen = cen; sen = sen; csn = csn }

-- the mark of a row that no epoch has touched
abbrev pub fresh : Mark
fresh = mark_of 0 0 0

-- a row of a register that is first drawn up
abbrev pub untouched : ℕ → ℕ → Row
untouched key value = record { key = key; value = value; mark = fresh }

-- the smaller epoch; in one epoch the larger start epoch; at equal start epochs the smaller commit number
unfoldable pub precedes : Mark → Mark → Bool
precedes a b =
    if eqb a.cen b.cen
    then if eqb a.sen b.sen then ltb a.csn b.csn else ltb b.sen a.sen
    else ltb a.cen b.cen

-- the earlier of two marks
unfoldable pub earlier : Mark → Mark → Mark
earlier a b = if precedes b a then b else a

-- opens all of these, for a proof by computation
unfoldable pub run_numbers : Unit {0}
unfolding run_lists fits precedes earlier
run_numbers = tt
