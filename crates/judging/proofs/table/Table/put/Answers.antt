-- The number that stands for the key is written.
use Rattle.std.proofs.Common.{◌∙◌, ap, set}
use Rattle.std.proofs.lemmas.List.{map-set}
use Rattle.judging.specs.Tables.{from_table, keys_of}
use Rattle.judging.proofs.Keys.{key_back}
use Rattle.judging.proofs.table.Table.put.Goals as goal

pub returns : goal.returns
unfolding keys_of
returns c =
    map-set from_table c.args.self.now.keys c.args.i c.unwrap_or.result
    ∙ ap (set (keys_of c.args.self.now) c.args.i) (ap from_table c.unwrap_or.ensures ∙ key_back c.args.key c.requires.key)
