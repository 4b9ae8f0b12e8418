-- What two examined sheets are joined to, by the tests that code makes, in its order.
use Rattle.std.specs.Prelude.{ℕ, ◌≡◌, refl, if◌then◌else◌, Bool, List, [], ◌∷◌, ◌++◌, ltb, length}
use Rattle.std.proofs.Common.{sym, ◌∙◌, ap, arith}
use Rattle.rules.specs.Lists.{◌or◌, any}
use Rattle.rules.specs.Sheet.{Sheet, max_sets, masters}
use Rattle.rules.specs.Gathering.{clash, some_two, spoiled_sheet, joined}
use Rattle.laws.specs.SheetLaws.{sheet_sound}
use Rattle.laws.specs.Joining.{notices_differ, together, over_at, join_spoils, join_held, joined_by}
use Rattle.sheets.specs.declared.sheet.Sheet as examined
use Rattle.sheets.specs.Views.{sheet_of}
use Rattle.walk.specs.Walk.{notice_spoils}

-- ---- both reasons of notices in one walk over the masters

exchange : (p q r s : Bool) → (p or q) or (r or s) ≡ p or r or q or s
unfolding ◌or◌
exchange p q r s = grind arith

regroup : (p q r s : Bool) → (p or q) or (r or s) ≡ (p or r) or (q or s)
unfolding ◌or◌
regroup p q r s = grind arith

any_or : (f g : ℕ → Bool) (xs : List ℕ) → any (λ m. f m or g m) xs ≡ any f xs or any g xs
unfolding any ◌or◌
any_or f g [] = refl
any_or f g (x ∷ xs) = ap (λ (t : Bool). (f x or g x) or t) (any_or f g xs) ∙ regroup (f x) (g x) (any f xs) (any g xs)

spoils_by : (a b : Sheet) → join_spoils a b ≡ some_two clash (a.sets ++ b.sets) or ltb max_sets (length (together a b)) or any (notice_spoils a b) masters
unfolding join_spoils notice_spoils
spoils_by a b =
    exchange _ _ _ _
    ∙ ap (λ (t : Bool). some_two clash (a.sets ++ b.sets) or ltb max_sets (length (together a b)) or t) (sym (any_or (notices_differ a b) (over_at a b) masters))

-- ---- the whole

pub joins_by : (a b : examined.Sheet)
    → joined (sheet_of a) (sheet_of b) ≡ (if (sheet_of a).spoiled or (sheet_of b).spoiled or some_two clash ((sheet_of a).sets ++ (sheet_of b).sets)
    or ltb max_sets (length (together (sheet_of a) (sheet_of b))) or any (notice_spoils (sheet_of a) (sheet_of b)) masters
    then spoiled_sheet (sheet_of a).epoch (sheet_of a).roster else join_held (sheet_of a) (sheet_of b))
joins_by a b = rw (← spoils_by (sheet_of a) (sheet_of b)) (joined_by (sheet_of a) (sheet_of b) (sheet_sound a.bytes.now a.examined) (sheet_sound b.bytes.now b.examined))
