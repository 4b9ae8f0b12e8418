-- Offering is put of the records that the open set begins with.
use Rattle.std.proofs.Common.{ℕ, ◌≤◌, ◌≡◌, ap, length, take, length-take, arith}
use Rattle.words.specs.Words.{Bytes}
use Rattle.rules.specs.declared.desk.OpenSet.{OpenSet}
use Rattle.rules.specs.Answers.{Answer}
use Rattle.rules.specs.OpenSet.{offered_bytes}
use Rattle.rules.specs.Refused.{put_outcome, offer_outcome}
use Rattle.rules.specs.Promises.{Promise, OfferPromise}
use Rattle.laws.specs.Exactly.{offer_exactly}
use Rattle.laws.specs.Kept.{numbered}
use Rattle.laws.specs.Meets.{emptied, offers}
use Rattle.laws.specs.OpenSets.{offered_part}

-- they are no more than its bytes
pub offered_within : (o : OpenSet) → length (offered_bytes o) ≤ length o.records
offered_within o = omega (arith, ap length (offered_part o), length-take (length (offered_bytes o)) o.records)

-- a promise of put on that many of its bytes is one of offering, which leaves it as the answer says
pub put_offers : (o : OpenSet) (sheet : Bytes) (epoch sen csn room n : ℕ) {before after : Bytes} (a : Answer) {left : OpenSet} → n ≡ length (offered_bytes o)
    → Promise (put_outcome sheet epoch sen csn (take n o.records) room) before a after → left ≡ emptied a o → OfferPromise (offer_outcome o sheet epoch sen csn room) o before a left after
put_offers o sheet epoch sen csn room n {before} {after} a e p l = rw l (offers _ o a (numbered (offer_exactly o sheet epoch sen csn room)) put)
  where
    put : Promise (offer_outcome o sheet epoch sen csn room) before a after
    put = unfold offer_outcome in rw (offered_part o, ← e) p
