-- Head, entry and body, each where the one before it ends.
use Rattle.std.proofs.Common.{arith}
use Rattle.gather.proofs.OneLaws.{offered, set_held}
use Rattle.gather.proofs.one.one_set.Goals as goal

pub put_entry-requires : goal.put_entry-requires
put_entry-requires c = (omega arith, omega (arith, c.offered_count-n.ensures, (offered _ c.requires.1).few))

pub put_body-requires : goal.put_body-requires
put_body-requires c = let f = (offered _ c.requires.1) in (omega arith, omega arith, omega (arith, f.few, f.whole))

pub length_with-requires : goal.length_with-requires
length_with-requires c = (omega arith, omega (arith, c.offered_count-n.ensures, (offered _ c.requires.1).few))

pub returns : goal.returns
returns c = rw c.length_with.ensures
    (set_held _ _ _ _ _ _ _ c.requires.0 (offered _ c.requires.1) c.offered_count-n.ensures c.put_sheet_start.ensures c.put_no_notices.ensures c.put_entry.ensures c.put_body.ensures)
