-- How long a sheet is, as a reader of a stream learns it: first from its head, then from its contents.
use Rattle.std.specs.Prelude.{ℕ, zero, suc, ◌+◌, ◌*◌, length, get_or, leb, if◌then◌else◌, Option, None, Some}
use Rattle.words.specs.Words.{Bytes, word}
use Rattle.rules.specs.Lists.{◌and◌}
use Rattle.rules.specs.Sheet.{max_sets}
use Rattle.sheets.specs.SheetReadings.{head_length, entry_place, record_length}

-- how long head and contents are of the sheet that starts with these bytes, if one does
unfoldable pub contents_end : Bytes → Option ℕ
contents_end b = if leb head_length (length b) and leb (get_or b 7 0) max_sets then Some (entry_place (get_or b 7 0)) else None

-- the record counts of the first n entries, together
unfoldable pub counts_to : ℕ → Bytes → ℕ
counts_to zero b = 0
counts_to (suc n) b = counts_to n b + word 2 b (entry_place n + 14)

-- the sheet's length, from what head and contents have
unfoldable pub end_from : Bytes → Option ℕ → Option ℕ
end_from b (Some n) = if leb n (length b) then Some (n + record_length * counts_to (get_or b 7 0) b) else None
end_from b None = None

-- how long the sheet is that starts with these bytes, if they hold its whole head and contents
unfoldable pub sheet_end : Bytes → Option ℕ
sheet_end b = end_from b (contents_end b)
