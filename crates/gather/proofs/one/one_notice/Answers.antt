-- The head alone, with one notice.
use Rattle.gather.proofs.OneLaws.{notice_held}
use Rattle.gather.proofs.one.one_notice.Goals as goal

pub returns : goal.returns
returns c = rw c.length_with.ensures (notice_held _ _ _ _ _ c.requires.0 c.requires.1 c.requires.2 c.put_sheet_start.ensures c.put_notices.ensures)
