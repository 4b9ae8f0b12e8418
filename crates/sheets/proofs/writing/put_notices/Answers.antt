-- The sixteen bytes between the first eight and the contents.
use Rattle.std.proofs.Common.{sym, arith}
use Rattle.words.specs.WordLaws.{part_stored}
use Rattle.sheets.proofs.writing.put_notices.Goals as goal

pub returns : goal.returns
returns c = part_stored _ 8 16 _ _ c.copy_from_slice.ensures.after (sym c.requires.1) (omega arith)
