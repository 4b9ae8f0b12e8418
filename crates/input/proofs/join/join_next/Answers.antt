-- What is joined is a sheet.
use Rattle.std.proofs.lemmas.Result.{err_from_is_err_and}
use Rattle.input.proofs.JoinLaws.{joined_holds, join_refusal}
use Rattle.input.proofs.join.join_next.Goals as goal

pub returns-in_err-len : goal.returns-in_err-len
returns-in_err-len c = let p = err_from_is_err_and c.from_residual-in_err-len.result c.from_residual-in_err-len.ensures.1 in
    rw (p.1, p.2) (join_refusal _ _ c.join_to.ensures _ c.in_err-len.was, λ e. cc)

pub returns : goal.returns
returns c = (joined_holds _ _ _ c.join_to.ensures _ c.in_ok-len.was, λ e. cc)
