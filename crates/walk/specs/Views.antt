-- What a contract says of a walk over two examined sheets: where it stands, and the sets that are left.
use Rattle.std.specs.Prelude.{◌≡◌, List}
use Rattle.rules.specs.Sheet.{WriteSet}
use Rattle.sheets.specs.declared.sheet.Sheet as examined
use Rattle.sheets.specs.Views.{sheet_of}
use Rattle.walk.specs.declared.place.Place.{Place}
use Rattle.walk.specs.declared.walk.Walk as code
use Rattle.walk.specs.Walk.{behind}

-- how many sets of each sheet are passed
abbrev pub walk_place : code.Walk → Place
walk_place w = w.at

-- the distinct sets of both that are left, in csn order
abbrev pub left_of : code.Walk → List WriteSet
left_of w = behind (sheet_of w.a) (sheet_of w.b) (walk_place w)

-- the walk is over these two sheets, and stands at a place in them
pub record StandsAt (a b : examined.Sheet) (p : Place) (w : code.Walk) : Type 0 where
  pub one : w.a ≡ a
  pub two : w.b ≡ b
  pub place : walk_place w ≡ p
