-- An offer as code has it: whether it is well-formed, whose it is, the paper's offer that it is, and what putting it into a sheet comes to.
use Rattle.std.specs.Prelude.{ℕ, Bool, leb, if◌then◌else◌, Some, None}
use Rattle.words.specs.Words.{Bytes}
use Rattle.rules.specs.Lists.{◌and◌}
use Rattle.rules.specs.Numbers.{master_of}
use Rattle.rules.specs.Sheet.{max_sets, read_sheet, offered_records, are_records}
use Rattle.rules.specs.Gathering.{Offer, a_set, a_notice}
use Rattle.rules.specs.Refused.{Outcome, offer_to}
use Rattle.laws.specs.Notices.{notice_by}
use Rattle.laws.specs.NotRefused.{set_by}
use Rattle.gather.specs.declared.offer.Offer as code
use Rattle.gather.specs.declared.offer.Offer.TheVariants as offer

-- an offered set is well-formed
unfoldable pub good_set : ℕ → ℕ → Bytes → Bool
good_set epoch sen b = leb 1 epoch and leb sen epoch and are_records b

-- an offered notice is well-formed
unfoldable pub good_notice : ℕ → ℕ → ℕ → Bool
good_notice epoch master n = leb 1 epoch and leb master 15 and leb n max_sets

-- either is
abbrev pub good : ℕ → code.Offer → Bool
good epoch (offer.Set sen csn b) = good_set epoch sen b.now
good epoch (offer.Notice master n) = good_notice epoch master n

-- the master that makes it
abbrev pub master_in : code.Offer → ℕ
master_in (offer.Set sen csn b) = master_of csn
master_in (offer.Notice master n) = master

-- the offer that it is
abbrev pub offer_of : code.Offer → Offer
offer_of (offer.Set sen csn b) = a_set (set_by csn sen (offered_records b.now))
offer_of (offer.Notice master n) = a_notice (notice_by master n)

-- PUT AND NOTICE
unfoldable pub add_outcome : Bytes → ℕ → code.Offer → ℕ → Outcome Bytes
add_outcome sheet epoch o room = offer_to (read_sheet sheet) (if good epoch o then Some (offer_of o) else None) epoch (master_in o) room
