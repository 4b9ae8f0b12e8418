-- The sets that commit, as code has them: what a contract says of the code's view.
use Rattle.std.specs.Prelude.{List}
use Rattle.rules.specs.Sheet.{WriteSet}
use Rattle.sheets.specs.Views.{sheet_of}
use Rattle.judging.specs.declared.committed.Committed.{Committed}
use Rattle.judging.specs.Tables.{keys_of, committed_in}

-- the sets for which the table of lost keys has none
abbrev pub sets_of : Committed → List WriteSet
sets_of c = committed_in (sheet_of c.sheet) (keys_of c.lost.now)
