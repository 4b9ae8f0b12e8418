-- What comes before it is copied, it is put, and the rest is copied behind it.
use Rattle.open_sets.proofs.AmongLaws.{among}
use Rattle.open_sets.proofs.writing.put_among.Goals as goal

pub returns : goal.returns
returns c = among _ _ c.requires.1 _ _ _ _ _ (rw c.place-at.ensures at c.copy.ensures) (rw c.place-at.ensures at c.put_record.ensures) (rw c.place-at.ensures at c.copy-2.ensures)
