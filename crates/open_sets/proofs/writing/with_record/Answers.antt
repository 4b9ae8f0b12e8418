-- The records with one more among them, and zeros behind them.
use Rattle.std.proofs.Common.{sym, arith}
use Rattle.rules.specs.OpenSet.{open_records}
use Rattle.laws.specs.OpenSets.{parts, open_count}
use Rattle.open_sets.proofs.OpenLaws.{front_records}
use Rattle.open_sets.proofs.AmongLaws.{opened_with}
use Rattle.open_sets.proofs.writing.with_record.Goals as goal

pub put_among-requires : goal.put_among-requires
put_among-requires c = rw (front_records c.args.set c.requires.0) (omega (arith, c.requires.1, open_count c.args.set), (parts c.args.set c.requires.0).bytes)

pub returns : goal.returns
returns c = let a = c.args in
    opened_with (open_records a.set) _ _ _ (sym (open_count a.set)) c.requires.1 (rw (front_records a.set c.requires.0) at c.put_among.ensures)
