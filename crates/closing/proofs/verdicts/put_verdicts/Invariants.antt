-- The verdicts of the sets before set i are put.
use Rattle.std.proofs.Common.{◌≡◌, length}
use Rattle.registers.specs.Views.{register_of}
use Rattle.sheets.specs.Views.{sheet_of}
use Rattle.forms.specs.VerdictWriting.{VerdictsPut}
use Rattle.closing.proofs.VerdictLaws.{first_verdicts}
use Rattle.closing.proofs.verdicts.put_verdicts.Given as goal

abbrev pub invariant-loop-i : goal.invariant-loop-i
invariant-loop-i l =
    (length l.out ≡ length l.initial.out)
    × VerdictsPut (first_verdicts (register_of l.judged.register) (sheet_of l.judged.sheet) l.i) l.initial.out l.out
