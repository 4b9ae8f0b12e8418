-- What the closure gives for a set is its first wrong key.
use Rattle.std.proofs.Common.{◌≡◌, ◌∙◌, ap, get_or, rules, None}
use Rattle.registers.specs.Views.{register_of}
use Rattle.sheets.specs.Views.{set_of}
use Rattle.judging.specs.Tables.{keys_of, wrong_key}
use Rattle.judging.proofs.Keys.{wrong_is_key}
use Rattle.judging.proofs.fit.find_wrong.Goals as goal

pub fill-requires-clause-keys : goal.fill-requires-clause-keys
fill-requires-clause-keys c = λ w key f.
    let e : key ≡ wrong_key (register_of c.args.register.now) (set_of w) = search rules in
    rw e (wrong_is_key _ w)

pub returns : goal.returns
returns c = λ k h.
    let t = c.fill.ensures k h in
    let e : get_or (keys_of c.fill.new.table) k None ≡ wrong_key (register_of c.args.register.now) (set_of t.0) = search rules in
    e ∙ ap (wrong_key _) t.1
