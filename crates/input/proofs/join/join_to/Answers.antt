-- Joined into a buffer of its own, and copied from there.
use Rattle.std.proofs.Common.{arith, length-take, ap, rules}
use Rattle.std.proofs.lemmas.Result.{err_from_is_err_and}
use Rattle.rules.specs.Sheet.{is_sheet}
use Rattle.rules.specs.Refused.{join_outcome}
use Rattle.input.specs.Reading.{Holds}
use Rattle.input.proofs.JoinLaws.{joined_holds, joined_in, not_joined, promise_as}
use Rattle.input.proofs.join.join_to.Goals as goal
use Rattle.input.proofs.join.join_to.Goals.{In_ok-len}

held : (c : In_ok-len) → Holds is_sheet c.join.new.out c.in_ok-len.len
held c = joined_holds _ _ _ c.join.ensures _ c.in_ok-len.was

pub returns-in_err-len : goal.returns-in_err-len
returns-in_err-len c = let p = err_from_is_err_and c.from_residual.result c.from_residual.ensures.1 in
    rw (p.1, p.2) (promise_as (ap (join_outcome _ _) (search rules)) (not_joined _ _ _ c.join.ensures _ c.in_err-len.was))

pub slice_bounds-copy_from_slice-end : goal.slice_bounds-copy_from_slice-end
slice_bounds-copy_from_slice-end c = omega (arith, (held c).within)

pub slice_bounds-copy_from_slice-end-2 : goal.slice_bounds-copy_from_slice-end-2
slice_bounds-copy_from_slice-end-2 c = simp length-take (omega (arith, (held (goal.at.slice_bounds-copy_from_slice-end-2 c).In_ok-len).within))

pub slice_bounds-both-end : goal.slice_bounds-both-end
slice_bounds-both-end c = omega (arith, (held (goal.at.slice_bounds-both-end c).In_ok-len).within)

pub slice_bounds-copy_from_slice-end-3 : goal.slice_bounds-copy_from_slice-end-3
slice_bounds-copy_from_slice-end-3 c = simp length-take (omega (arith, (held (goal.at.slice_bounds-copy_from_slice-end-3 c).In_ok-len).within))

pub returns : goal.returns
returns c = promise_as (ap (join_outcome _ _) (search rules)) (joined_in _ _ _ c.join.ensures _ c.in_ok-len.was c.copy_from_slice.ensures.after)
