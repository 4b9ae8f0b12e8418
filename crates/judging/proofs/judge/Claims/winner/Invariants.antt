-- The set that leads among those before set i.
use Rattle.sheets.specs.Views.{sheet_of}
use Rattle.judging.specs.Tables.{keys_of}
use Rattle.judging.proofs.WinnerLaws.{Lead}
use Rattle.judging.proofs.judge.Claims.winner.Given as goal

abbrev pub invariant-loop-i : goal.invariant-loop-i
invariant-loop-i l = Lead (sheet_of l.self.sheet) (keys_of l.self.wrong.now) l.key l.i l.lead
