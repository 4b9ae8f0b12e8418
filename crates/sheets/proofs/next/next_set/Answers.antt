-- The set is the one that the decision names, which has the smaller csn.
use Rattle.std.proofs.Common.{◌∙◌}
use Rattle.sheets.proofs.TakingLaws.{first_within, second_within, first_taken, second_taken, taken_next}
use Rattle.sheets.proofs.next.next_set.Goals as goal

pub set-requires : goal.set-requires
set-requires c = first_within _ _ _ _ _ c.requires c.in-First.is

pub set-requires-in-Second : goal.set-requires-in-Second
set-requires-in-Second c = second_within _ _ _ _ _ c.requires c.in-Second.is

pub returns-in-First : goal.returns-in-First
returns-in-First c =
    let e = c.set.ensures ∙ first_taken _ _ _ c.in-First.is in
    record { named = e; smaller = λ h l. e ∙ taken_next _ _ _ _ _ c.requires h l }

pub returns-in-Second : goal.returns-in-Second
returns-in-Second c =
    let e = c.set-in-Second.ensures ∙ second_taken _ _ _ c.in-Second.is in
    record { named = e; smaller = λ h l. e ∙ taken_next _ _ _ _ _ c.requires h l }
