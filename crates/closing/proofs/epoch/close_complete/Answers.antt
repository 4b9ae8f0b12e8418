-- Rows are counted before room is looked at, and nothing is written before both.
use Rattle.std.proofs.Common.{◌∙◌, ap, arith, rules, length}
use Rattle.laws.specs.Meets.{refuses_closing}
use Rattle.registers.specs.RegisterWritten.{length_fits}
use Rattle.next_rows.specs.ByTables.{committing, closing_rows}
use Rattle.closing.proofs.CloseLaws.{complete_8, complete_9_next, complete_9_verdicts, next_fits, next_stands, closes}
use Rattle.closing.proofs.epoch.close_complete.Goals as goal
use Rattle.closing.proofs.epoch.close_complete.Goals.{then-next-lt-REGISTER_ROOM-via-then-next-lt-REGISTER_ROOM, then-next-lt-REGISTER_ROOM-via-else-next-lt-REGISTER_ROOM+then-verdicts-lt-VERDICT_ROOM}

pub next_count-n-requires : goal.next_count-n-requires
next_count-n-requires c = let j = c.new-judged in committing j.result j.ensures.register j.ensures.sheet

pub returns-then-n-gt-MAX_ROWS : goal.returns-then-n-gt-MAX_ROWS
returns-then-n-gt-MAX_ROWS c =
    let j = c.new-judged in
    let rows = closing_rows j.result j.ensures.register j.ensures.sheet in
    refuses_closing _ _ _ _ (complete_8 _ _ _ _ (omega (arith, c.next_count-n.ensures ∙ ap length rows)))

pub returns-then-next-lt-REGISTER_ROOM : goal.returns-then-next-lt-REGISTER_ROOM
returns-then-next-lt-REGISTER_ROOM c =
    let j = c.new-judged in
    let rows = closing_rows j.result j.ensures.register j.ensures.sheet in
    let counted = c.next_count-n.ensures ∙ ap length rows in
    elim c.then-next-lt-REGISTER_ROOM.branch [
      | then-next-lt-REGISTER_ROOM-via-then-next-lt-REGISTER_ROOM w ↦ refuses_closing _ _ _ _ (complete_9_next _ _ _ _ (omega (arith, counted)) (omega arith))
      | then-next-lt-REGISTER_ROOM-via-else-next-lt-REGISTER_ROOM+then-verdicts-lt-VERDICT_ROOM w ↦
          refuses_closing _ _ _ _ (complete_9_verdicts _ _ _ _ (omega (arith, counted)) (omega arith) (omega arith))
    ]

pub start-writing-requires : goal.start-writing-requires
start-writing-requires c = let few = c.if-n-gt-MAX_ROWS.false in (few, omega (arith, length_fits _ few))

pub put_rows-requires-clause-chosen : goal.put_rows-requires-clause-chosen
put_rows-requires-clause-chosen c = let j = c.new-judged in committing j.result j.ensures.register j.ensures.sheet

pub put_rows-requires-clause-room : goal.put_rows-requires-clause-room
put_rows-requires-clause-room c = let e = c.start-writing.ensures.begun in next_fits _ (e.0 ∙ c.next_count-n.ensures) e.1

pub returns : goal.returns
returns c =
    let j = c.new-judged in
    let e = c.start-writing.ensures.begun in
    let few = rw c.next_count-n.ensures at c.if-n-gt-MAX_ROWS.false in
    closes _ _ (closing_rows j.result j.ensures.register j.ensures.sheet) few c.args.next.now c.args.verdicts.now _ _ c.if-next-lt-REGISTER_ROOM.false c.if-verdicts-lt-VERDICT_ROOM.false
    (next_stands _ _ few (c.epoch.ensures ∙ c.requires) c.if-next-lt-REGISTER_ROOM.false (e.0 ∙ c.next_count-n.ensures) e.1 c.put_rows.ensures (search rules) c.finish-length.ensures.long)
    (omega (arith, c.verdicts_length.ensures, c.set_count.ensures))
    (rw (j.ensures.register, j.ensures.sheet) at c.put_verdicts.ensures)
