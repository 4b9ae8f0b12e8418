-- The records' keys are looked at in their order.
use Rattle.std.proofs.Common.{ℕ, ◌∙◌, sym, not, arith, rules, tests, length}
use Rattle.std.proofs.lemmas.Iterator.{YieldsList-from_range, YieldsList-from_map}
use Rattle.std.proofs.lemmas.Iterator.Adapters.{option_map_id}
use Rattle.std.proofs.lemmas.Iterator.Search.{find_from_yields_List}
use Rattle.rules.specs.Sheet.{record_key}
use Rattle.rules.specs.Closing.{wins, first_lost}
use Rattle.registers.specs.Views.{register_of}
use Rattle.sheets.specs.SheetReadings.{record_at, no_record}
use Rattle.sheets.specs.Views.{sheet_of, set_of}
use Rattle.judging.specs.Tables.{lost_key}
use Rattle.judging.proofs.Numbers.{found_places}
use Rattle.judging.proofs.WinnerLaws.{not_won}
use Rattle.judging.proofs.judge.Claims.lost_key.Goals as goal

pub returns : goal.returns
unfolding lost_key first_lost record_at
returns c =
    let g = register_of c.args.self.now.register in
    let s = sheet_of c.args.self.now.sheet in
    let w = set_of c.args.set.now in
    sym (option_map_id c.find.result)
    ∙ find_from_yields_List (λ (k : ℕ). not (wins g s w k)) _ _ c.find.result c.find.ensures.ran
    (YieldsList-from_map _ (λ j. (record_at w j).key) (YieldsList-from_range 0 c.record_count.result (length w.records) c.map.ensures.source (omega arith)) c.map.ensures.closure (λ x r q p. search (rules, tests)))
    (λ x b q p. search (rules, tests, not_won))
    ∙ found_places no_record record_key (λ k. not (wins g s w k)) w.records
