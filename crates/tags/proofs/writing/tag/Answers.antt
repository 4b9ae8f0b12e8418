-- It refuses in the documents' order, and writes the tag.
use Rattle.std.proofs.Common.{sym, ◌∙◌, arith}
use Rattle.std.proofs.lemmas.Bool.Decides.{nat_tests}
use Rattle.words.specs.WordLaws.{stored_front}
use Rattle.rules.specs.declared.answer.Refusal.TheVariants.{BadTag, BufferShort}
use Rattle.rules.specs.Lists.{◌and◌}
use Rattle.rules.specs.Numbers.{fits}
use Rattle.rules.specs.Tag.{is_key, tag_of}
use Rattle.rules.specs.Refused.{tag_outcome}
use Rattle.rules.specs.Promises.{over}
use Rattle.laws.specs.Meets.{refuses, writes}
use Rattle.laws.specs.Tags.{tag_length}
use Rattle.tags.proofs.writing.tag.Goals as goal

pub returns-then-key-eq0 : goal.returns-then-key-eq0
unfolding tag_outcome is_key fits ◌and◌
returns-then-key-eq0 c = refuses _ BadTag _ (grind (arith, nat_tests))

pub returns-then-out-lt-TAG_ROOM : goal.returns-then-out-lt-TAG_ROOM
unfolding tag_outcome is_key fits ◌and◌
returns-then-out-lt-TAG_ROOM c = refuses _ BufferShort _ (grind (arith, nat_tests))

pub returns : goal.returns
unfolding tag_outcome over is_key fits ◌and◌
returns c = let n = tag_length c.args.key in
    writes _ (tag_of c.args.key) _ _ _ (grind (arith, nat_tests)) (sym n) (c.put_tag.ensures ∙ stored_front _ (tag_of c.args.key) (omega arith))
