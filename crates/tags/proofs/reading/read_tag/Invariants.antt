-- It reads the key: after i digits the interim digit and the number that they give.
use Rattle.tags.proofs.ReadingLaws.{Reading}
use Rattle.tags.proofs.reading.read_tag.Given as goal

abbrev pub invariant-loop-b : goal.invariant-loop-b
invariant-loop-b l = Reading l.fn.tag l.interim l.key l.b-index
