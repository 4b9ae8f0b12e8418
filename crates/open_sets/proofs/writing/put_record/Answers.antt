-- Three words are a record.
use Rattle.std.proofs.Common.{arith}
use Rattle.open_sets.proofs.AmongLaws.{record_words}
use Rattle.open_sets.proofs.writing.put_record.Goals as goal

pub returns : goal.returns
returns c = record_words _ _ _ _ _ _ (omega arith) (rw c.from.ensures at c.put.ensures) c.put-2.ensures c.put-3.ensures
