-- It writes the tag: what is written and what is still to come are always that tag.
use Rattle.tags.proofs.WritingLaws.{Writing}
use Rattle.tags.proofs.writing.put_tag.Given as goal

abbrev pub invariant-loop-i : goal.invariant-loop-i
invariant-loop-i l = Writing l.key l.initial.out l.out l.weight l.interim l.i
