-- The entries are those of the list.
use Rattle.std.proofs.Common.{refl, rules, Some}
use Rattle.std.proofs.lemmas.Result.{err_from_is_err_and}
use Rattle.rules.specs.Refused.{reads_outcome}
use Rattle.reads.proofs.CheckLaws.{refused_whole, told_of_bytes}
use Rattle.reads.proofs.lists.check_reads.Goals as goal

pub returns-in_err-check : goal.returns-in_err-check
unfolding reads_outcome
returns-in_err-check c = let p = err_from_is_err_and c.from_residual.result c.from_residual.ensures.1 in
    rw (p.1, p.2) (refused_whole _ _ _ _ c.in_err-check.ensures (Some c.args.reads.now))

pub returns : goal.returns
unfolding reads_outcome
returns c = let reads = c.args.reads.now in
    told_of_bytes _ _ _ c.in_ok-check.check c.in_ok-check.ensures reads (c.first_failing.ensures reads (refl, λ i e h p. search rules))
