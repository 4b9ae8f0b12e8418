-- What joining comes to, by what examining tells of the two sheets' bytes.
use Rattle.std.specs.Prelude.{ℕ, ◌≡◌, false, Option, Some}
use Rattle.std.proofs.Common.{ap, ap₂}
use Rattle.words.specs.Words.{Bytes}
use Rattle.rules.specs.Sheet.{Sheet, is_sheet, read_sheet}
use Rattle.rules.specs.Refused.{refused, join_sheets, join_outcome}
use Rattle.laws.specs.SheetLaws.{sheet_read, sheet_unread}
use Rattle.sheets.specs.declared.sheet.Sheet as examined
use Rattle.sheets.specs.Views.{sheet_of}

-- an examined sheet is read
read : {a : Bytes} (s : examined.Sheet) → s.bytes.now ≡ a → read_sheet a ≡ Some (sheet_of s)
read s e = rw (← e) (sheet_read s.bytes.now s.examined)

pub first_ill : (a b : Bytes) (room : ℕ) → is_sheet a ≡ false → join_outcome a b room ≡ refused 2
unfolding join_outcome join_sheets
first_ill a b room e = ap (λ (x : Option Sheet). join_sheets x (read_sheet b) room) (sheet_unread a e)

pub second_ill : {a : Bytes} (b : Bytes) (room : ℕ) (s : examined.Sheet) → s.bytes.now ≡ a → is_sheet b ≡ false → join_outcome a b room ≡ refused 2
unfolding join_outcome join_sheets
second_ill b room s p e = ap₂ (λ (x y : Option Sheet). join_sheets x y room) (read s p) (sheet_unread b e)

pub both_read : {a b : Bytes} (room : ℕ) (s t : examined.Sheet) → s.bytes.now ≡ a → t.bytes.now ≡ b → join_outcome a b room ≡ join_sheets (Some (sheet_of s)) (Some (sheet_of t)) room
unfolding join_outcome
both_read room s t p q = ap₂ (λ (x y : Option Sheet). join_sheets x y room) (read s p) (read t q)
