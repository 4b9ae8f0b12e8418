-- What every walk over two sheets uses: where it starts, what a turn leaves behind, and that places stay small.
use Rattle.std.specs.Prelude.{ℕ, ◌+◌, ◌<◌, ◌≤◌, ◌≡◌, refl, List, ◌∷◌, length, get_or, drop}
use Rattle.std.proofs.Common.{sym, ◌∙◌, ap, add-one, arith, drop-cons}
use Rattle.words.specs.Words.{Bytes}
use Rattle.rules.specs.Sheet.{WriteSet, Sheet, max_sets, sheet_in}
use Rattle.laws.specs.Joining.{together}
use Rattle.sheets.specs.declared.next.Next.{Next}
use Rattle.sheets.specs.SheetReadings.{no_set}
use Rattle.sheets.specs.SheetSizes.{few_sets}
use Rattle.walk.specs.declared.place.Place.{Place}
use Rattle.walk.specs.Walk.{start, unpassed, behind, passed, TwoSheets, At, Advanced, Decided}

-- a list from set i on
pub from : (xs : List WriteSet) (i : ℕ) → i < length xs → drop i xs ≡ get_or xs i no_set ∷ drop (i + 1) xs
from xs i h = drop-cons xs i no_set h ∙ ap (λ (k : ℕ). get_or xs i no_set ∷ drop k xs) (sym (add-one i))

-- before all sets of both
pub start_at : (a b : Bytes) → TwoSheets a b → At a b start
start_at a b k = record { one = k.one; two = k.two; first = omega arith; second = omega arith }

pub start_behind : (a b : Sheet) → behind a b start ≡ together a b
unfolding behind unpassed together
start_behind a b = refl

-- so that advancing does not overflow
pub near : (a b : Bytes) (p : Place) → At a b p → (p.i ≤ max_sets) × (p.j ≤ max_sets)
near a b p k = (omega (arith, k.first, few_sets a k.one), omega (arith, k.second, few_sets b k.two))

-- what advancing by a decision passes
pub moved : (a b : Sheet) {p q : Place} {n : Next} → Decided a b p n → q ≡ passed p n → Advanced a b p q
moved a b d e = rw e d.passes

pub on : {a b : Bytes} {p q : Place} → Advanced (sheet_in a) (sheet_in b) p q → At a b p → At a b q
on n k = record { one = k.one; two = k.two; first = n.first; second = n.second }
