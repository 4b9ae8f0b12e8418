-- `sets_by` tests and counts one set after another. The invariant: what is left to test decides the whole, and what is left to count is missing.
use Rattle.examine.proofs.SheetTests.{Standing}
use Rattle.examine.proofs.contents.sets_by.Given as goal

abbrev pub invariant-loop-i : goal.invariant-loop-i
invariant-loop-i l = Standing l.n l.sheet.bytes.now l.i l.first l.prev l.body l.by
