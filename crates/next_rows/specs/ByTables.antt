-- Where both tables tell what document 01's rule decides, the sets that commit by the table of lost keys are closing's, rightly chosen,
-- and so the next rows by them are closing's.
use Rattle.std.specs.Prelude.{◌≡◌, true, List}
use Rattle.std.proofs.Common.{ap}
use Rattle.rules.specs.Register.{Register}
use Rattle.rules.specs.Sheet.{WriteSet, Sheet, sound_sheet}
use Rattle.rules.specs.Closing.{committed}
use Rattle.rules.specs.Becoming.{rows_after, next_rows}
use Rattle.laws.specs.SheetLaws.{sheet_sound}
use Rattle.laws.specs.Choice.{Choice, chosen}
use Rattle.registers.specs.Views.{register_of}
use Rattle.sheets.specs.Views.{sheet_of}
use Rattle.judging.specs.declared.judge.Judged.{Judged}
use Rattle.judging.specs.Tables.{keys_of, committed_in}
use Rattle.judging.specs.TableLaws.{table_commits}

-- judged a register and a sheet, g and s
module _ (j : Judged) {g : Register} {s : Sheet} (p : register_of j.register ≡ g) (q : sheet_of j.sheet ≡ s) where
  sound_s : sound_sheet s ≡ true
  sound_s = rw q at (sheet_sound _ j.sheet.examined)

  closing_commits : committed_in s (keys_of j.lost.now) ≡ committed g s
  closing_commits = table_commits g s (keys_of j.lost.now) sound_s (rw (p, q) at j.tells_lost)

  pub committing : Choice g s (committed_in s (keys_of j.lost.now))
  committing = rw closing_commits (chosen g s sound_s)

  pub closing_rows : rows_after s (committed_in s (keys_of j.lost.now)) g.rows ≡ next_rows g s
  closing_rows = ap (λ (c : List WriteSet). rows_after s c g.rows) closing_commits
