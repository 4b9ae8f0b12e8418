-- The notices of the masters from m on are left.
use Rattle.std.proofs.Common.{◌+◌, ◌-◌, map}
use Rattle.rules.specs.Lists.{up_from}
use Rattle.rules.specs.Sheet.{masters}
use Rattle.laws.specs.Joining.{notice_together}
use Rattle.sheets.specs.SheetReadings.{master_count, notices_place}
use Rattle.sheets.specs.Views.{sheet_of}
use Rattle.joining.proofs.Writing.{Filling}
use Rattle.joining.proofs.held.put_notices.Given as goal

abbrev pub invariant-loop-m : goal.invariant-loop-m
invariant-loop-m l =
    let f = notice_together (sheet_of l.a) (sheet_of l.b) in
    Filling l.initial.out l.out notices_place (notices_place + l.m) (map f masters) (map f (up_from l.m (master_count - l.m)))
