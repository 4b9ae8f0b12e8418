-- Offering examines the open set itself: what is none is refused with 3, after the sheet.
use Rattle.std.specs.Prelude.{ℕ, ◌≡◌, false, None, Some}
use Rattle.std.proofs.Common.{◌∙◌}
use Rattle.words.specs.Words.{Bytes}
use Rattle.rules.specs.declared.desk.OpenSet.{OpenSet}
use Rattle.rules.specs.Lists.{◌and◌}
use Rattle.rules.specs.Sheet.{Sheet, read_sheet, are_records}
use Rattle.rules.specs.OpenSet.{is_open_set, offered_bytes}
use Rattle.rules.specs.Refused.{refused, set_with, offered_set, offer_to, put_outcome, offer_outcome}
use Rattle.laws.specs.SheetLaws.{records_unread}
use Rattle.laws.specs.OpenSets.{offers_records}

-- what an ill-formed open set offers is no set
no_set_lem : (e sen csn : ℕ) (o : OpenSet) → is_open_set o ≡ false → offered_set e sen csn (offered_bytes o) ≡ None
unfolding offered_set set_with ◌and◌
no_set_lem e sen csn o h = let r : are_records (offered_bytes o) ≡ false = offers_records o ∙ simp h in simp (records_unread (offered_bytes o) r)

pub offer_examines : (o : OpenSet) (sheet : Bytes) (e sen csn room : ℕ) (s : Sheet) → read_sheet sheet ≡ Some s → is_open_set o ≡ false → offer_outcome o sheet e sen csn room ≡ refused 3
unfolding offer_outcome put_outcome offer_to
offer_examines o sheet e sen csn room s p h = simp (p, no_set_lem e sen csn o h)
