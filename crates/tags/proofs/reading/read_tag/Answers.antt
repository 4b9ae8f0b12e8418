-- It reads the key: after i digits the interim digit and the number that they give.
use Rattle.std.proofs.Common.{arith}
use Rattle.std.proofs.lemmas.Bool.Decides.{nat_tests}
use Rattle.rules.specs.Lists.{◌and◌}
use Rattle.rules.specs.Numbers.{fits}
use Rattle.rules.specs.Tag.{right_tag, is_key, is_tag, key_of_tag}
use Rattle.tags.proofs.ReadingLaws.{start, digit, digit_of_ten, more, all_read}
use Rattle.tags.proofs.reading.read_tag.Goals as goal

pub returns-then-tag-ne-TAG_ROOM : goal.returns-then-tag-ne-TAG_ROOM
unfolding key_of_tag is_tag right_tag is_key fits ◌and◌
returns-then-tag-ne-TAG_ROOM c = grind (arith, nat_tests)

pub loop-b-init : goal.loop-b-init
loop-b-init c = start c.args.tag.now

pub overflow_sub-digit : goal.overflow_sub-digit
overflow_sub-digit c = (digit_of_ten c.args.tag.now (cc) (cc) c.loop-b.b-index c.loop-b-test.true).0

pub next_digit-interim-requires : goal.next_digit-interim-requires
next_digit-interim-requires c = (c.loop-b.invariant.2, omega (arith, digit_of_ten c.args.tag.now (cc) (cc) c.loop-b.b-index c.loop-b-test.true))

pub loop-b-preserved : goal.loop-b-preserved
loop-b-preserved c = let l = c.loop-b in
    rw (c.next_digit-interim.ensures, c.from.ensures) (more c.args.tag.now (cc) (cc) l.b-index c.loop-b-test.true l.interim l.key l.invariant)

pub overflow_sub-check : goal.overflow_sub-check
overflow_sub-check c = (digit c.args.tag.now (cc) (cc) 10 (omega arith)).0

pub next_digit-requires : goal.next_digit-requires
next_digit-requires c = (c.loop-b.invariant.2, omega (arith, digit c.args.tag.now (cc) (cc) 10 (omega arith)))

pub returns-then-next_digit-ne0 : goal.returns-then-next_digit-ne0
unfolding key_of_tag is_tag right_tag is_key fits ◌and◌
returns-then-next_digit-ne0 c = let l = c.loop-b in
    let read = all_read c.args.tag.now (cc) (cc) l.interim l.key l.b-index l.invariant (omega arith) in
    grind (arith, nat_tests)

pub returns : goal.returns
unfolding key_of_tag is_tag right_tag is_key fits ◌and◌
returns c = let l = c.loop-b in
    let read = all_read c.args.tag.now (cc) (cc) l.interim l.key l.b-index l.invariant (omega arith) in
    grind (arith, nat_tests)
