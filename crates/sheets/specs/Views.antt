-- The sheet that examined bytes are, and a set of one: what a contract says of the code's views.
use Rattle.std.specs.Prelude.{◌≡◌, false, Result, Ok, Err}
use Rattle.words.specs.Words.{Bytes}
use Rattle.rules.specs.declared.answer.Refusal.{Refusal}
use Rattle.rules.specs.declared.answer.Refusal.TheVariants.{SheetIllFormed}
use Rattle.rules.specs.Sheet.{WriteSet, Sheet, is_sheet, sheet_in}
use Rattle.sheets.specs.declared.sheet.Sheet as examined
use Rattle.sheets.specs.declared.set.WriteSet as view
use Rattle.sheets.specs.SheetReadings.{set_at}

-- the sheet that the bytes are
abbrev pub sheet_of : examined.Sheet → Sheet
sheet_of s = sheet_in s.bytes.now

-- the set that is looked at
abbrev pub set_of : view.WriteSet → WriteSet
set_of w = set_at (sheet_of w.sheet) w.i

-- of bytes that are examined: they are a sheet, or they are refused, and are none
abbrev pub Examined : Bytes → Result examined.Sheet Refusal → Type 0
Examined b (Ok s) = s.bytes.now ≡ b
Examined b (Err x) = (x ≡ SheetIllFormed) × (is_sheet b ≡ false)
