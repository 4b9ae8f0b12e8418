-- What is applied to the key is there, and its row is put.
use Rattle.next_rows.proofs.RowLaws.{insert_added}
use Rattle.next_rows.proofs.rows.Committing.put_insert.Goals as goal

pub returns-in-Some : goal.returns-in-Some
returns-in-Some c = insert_added _ _ _ _ c.in-Some.ensures c.inserted.ensures c.put.ensures
