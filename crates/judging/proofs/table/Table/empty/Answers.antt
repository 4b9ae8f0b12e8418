-- Each number is 0.
use Rattle.std.proofs.Common.{refl}
use Rattle.judging.specs.Tables.{from_table, keys_of}
use Rattle.judging.proofs.table.Table.empty.Goals as goal

pub returns : goal.returns
unfolding keys_of from_table
returns c = refl
