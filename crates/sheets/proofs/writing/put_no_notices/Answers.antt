-- Sixteen bytes of 255.
use Rattle.std.proofs.Common.{◌≡◌, refl, arith, rules}
use Rattle.words.specs.WordLaws.{part_stored}
use Rattle.rules.specs.Gathering.{no_notices}
use Rattle.sheets.proofs.writing.put_no_notices.Goals as goal

pub returns : goal.returns
returns c = let e : c.fill.new.self ≡ no_notices = search rules in part_stored _ 8 16 _ _ e refl (omega arith)
