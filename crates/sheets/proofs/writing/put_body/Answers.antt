-- `put_body` stores the body: after i turns the first i bytes of it.
use Rattle.std.proofs.Common.{◌≡◌, ◌∙◌, sym, ap, length, length-set, add-one, arith, rules}
use Rattle.std.proofs.Math.Seq.{paste, paste-suc}
use Rattle.words.specs.Words.{stored}
use Rattle.words.specs.WordLaws.{copied, whole_part}
use Rattle.sheets.proofs.writing.put_body.Goals as goal

pub loop-i-preserved : goal.loop-i-preserved
loop-i-preserved c =
    let a = c.args in
    let l = c.loop-i in (
      simp length-set l.invariant.0,
      cc (paste-suc a.out.now c.length_with-at.result a.body.now l.i 0 (omega arith) (omega arith), l.invariant.1, add-one l.i),
    )

pub returns : goal.returns
returns c =
    let a = c.args in
    let at = c.length_with-at.result in
    let n = length a.body.now in
    let e : c.loop-i.i ≡ n = omega arith in
    c.loop-i.invariant.1
    ∙ ap (paste a.out.now at a.body.now) e
    ∙ copied a.out.now at a.body.now 0 n (omega arith) (omega arith)
    ∙ ap (stored a.out.now at) (whole_part a.body.now)
    ∙ ap (λ (k : _). stored a.out.now k a.body.now) c.length_with-at.ensures
