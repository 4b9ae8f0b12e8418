-- Nothing is passed.
use Rattle.std.proofs.Common.{refl}
use Rattle.walk.specs.Walks.{start_behind}
use Rattle.walk.proofs.walk.Walk.new.Goals as goal

pub returns : goal.returns
returns c = record { start = record { one = refl; two = refl; place = refl }; all = start_behind _ _ }
