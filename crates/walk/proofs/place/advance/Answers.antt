-- One set further in each sheet that has the next one.
use Rattle.std.proofs.Common.{sym, ap}
use Rattle.walk.specs.Walk.{passed}
use Rattle.walk.proofs.place.advance.Goals as goal

pub returns-in-First : goal.returns-in-First
unfolding passed
returns-in-First c = sym (ap (passed _) c.in-First.is)

pub returns-in-Second : goal.returns-in-Second
unfolding passed
returns-in-Second c = sym (ap (passed _) c.in-Second.is)

pub returns-in-Both : goal.returns-in-Both
unfolding passed
returns-in-Both c = sym (ap (passed _) c.in-Both.is)
