-- No record before record j inserts a key above `after`.
use Rattle.sheets.specs.Views.{set_of}
use Rattle.judging.proofs.InsertLaws.{NoneBefore}
use Rattle.judging.proofs.committed.insert_in.Given as goal

abbrev pub invariant-loop-j : goal.invariant-loop-j
invariant-loop-j l = NoneBefore (set_of l.set) l.after l.j
