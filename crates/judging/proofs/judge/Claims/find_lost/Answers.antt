-- What the closure gives for a set is the first key that it loses.
use Rattle.std.proofs.Common.{◌≡◌, ◌∙◌, ap, get_or, rules, None}
use Rattle.registers.specs.Views.{register_of}
use Rattle.sheets.specs.Views.{sheet_of, set_of}
use Rattle.judging.specs.Tables.{keys_of, lost_key}
use Rattle.judging.proofs.Keys.{lost_is_key}
use Rattle.judging.proofs.judge.Claims.find_lost.Goals as goal

pub fill-requires-clause-keys : goal.fill-requires-clause-keys
fill-requires-clause-keys c = λ w key f.
    let self = c.args.self.now in
    let e : key ≡ lost_key (register_of self.register) (sheet_of self.sheet) (set_of w) = search rules in
    rw e (lost_is_key _ w _)

pub returns : goal.returns
returns c = λ k h.
    let t = c.fill.ensures k h in
    let self = c.args.self.now in
    let e : get_or (keys_of c.fill.new.table) k None ≡ lost_key (register_of self.register) (sheet_of self.sheet) (set_of t.0) = search rules in
    e ∙ ap (lost_key _ _) t.1
