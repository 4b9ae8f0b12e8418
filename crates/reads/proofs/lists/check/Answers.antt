-- The entries are those that the two lists give.
use Rattle.std.proofs.Common.{◌≡◌, ◌∙◌, rules, get_or}
use Rattle.std.proofs.lemmas.Result.{err_from_is_err_and}
use Rattle.rules.specs.ReadCheck.{reads_of}
use Rattle.rules.specs.Refused.{check_outcome}
use Rattle.reads.proofs.CheckLaws.{refused_whole, told_of_bytes, no_entries}
use Rattle.reads.proofs.PairLaws.{paired, unpaired}
use Rattle.reads.proofs.lists.check.Goals as goal

pub returns-in_err-check : goal.returns-in_err-check
unfolding check_outcome
returns-in_err-check c = let p = err_from_is_err_and c.from_residual.result c.from_residual.ensures.1 in
    rw (p.1, p.2) (refused_whole _ _ _ _ c.in_err-check.ensures (reads_of c.args.keys.now c.args.csns.now))

pub returns-then-keys-csns : goal.returns-then-keys-csns
unfolding check_outcome
returns-then-keys-csns c = rw (unpaired c.args.keys.now c.args.csns.now c.if-keys-csns.true) (no_entries _ _ _ c.in_ok-check.check c.in_ok-check.ensures)

pub returns : goal.returns
unfolding check_outcome
returns c = let p = paired c.args.keys.now c.args.csns.now c.if-keys-csns.false in
    rw p.given (told_of_bytes _ _ _ c.in_ok-check.check c.in_ok-check.ensures p.reads
    (c.first_failing.ensures p.reads (p.long, λ i e h q. let here : e ≡ record { key = get_or c.args.keys.now i 0; csn = get_or c.args.csns.now i 0 } = search rules in here ∙ p.each i h)))
