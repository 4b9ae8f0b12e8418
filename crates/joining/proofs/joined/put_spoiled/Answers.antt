-- The start of a spoiled sheet and no notices are all of it.
use Rattle.joining.proofs.Writing.{spoiled_written}
use Rattle.sheets.specs.Views.{sheet_of}
use Rattle.joining.proofs.joined.put_spoiled.Goals as goal

pub returns : goal.returns
returns c = rw c.length_with.ensures
    (spoiled_written (sheet_of c.args.a.now) c.args.out.now _ _ c.epoch.ensures c.roster.ensures c.requires c.put_sheet_start.ensures c.put_no_notices.ensures)
