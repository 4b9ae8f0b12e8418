-- The records are those that the struct stands for.
use Rattle.std.proofs.Common.{ap, ◌∙◌}
use Rattle.rules.specs.OpenSet.{has_key}
use Rattle.open_sets.proofs.OpenLaws.{front_records}
use Rattle.open_sets.proofs.reading.has_key.Goals as goal

pub returns : goal.returns
returns c = c.has.ensures ∙ ap (has_key c.args.key) (front_records c.args.set c.requires)
