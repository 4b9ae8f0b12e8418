-- What a well-formed offer says, and what the sheet is that holds it alone.
use Rattle.std.specs.Prelude.{ℕ, ◌^◌, ◌<◌, ◌≤◌, ◌≡◌, true, false, [], ◌∷◌, length, take, drop, if◌then◌else◌, Some, None}
use Rattle.std.specs.Borrow.{Bor}
use Rattle.std.proofs.Common.{sym, ◌∙◌, ap, arith, le-leb}
use Rattle.std.proofs.lemmas.Bool.Decides.{nat_tests}
use Rattle.std.proofs.Math.Seq.{take_at}
use Rattle.words.specs.Words.{Bytes}
use Rattle.words.specs.WordLaws.{stored_front, length_stored}
use Rattle.rules.specs.Lists.{◌and◌}
use Rattle.rules.specs.Numbers.{master_of}
use Rattle.rules.specs.Forms.{read}
use Rattle.rules.specs.Sheet.{Sheet, max_sets, in_roster, sound_set, sound_sheet, sheet_bytes, sheet_in, is_sheet, offered_records, are_records, read_records}
use Rattle.rules.specs.Gathering.{Offer, a_set, a_notice, holding, joined}
use Rattle.rules.specs.Refused.{refused, set_with, offered_set, offered_notice, offer_to, put_outcome, notice_outcome}
use Rattle.laws.specs.Tests.{both}
use Rattle.laws.specs.FormLaws.{→fits}
use Rattle.laws.specs.Says.{Says, is_le, itself, ◌also◌}
use Rattle.laws.specs.SheetLaws.{sheet_decoded, sheet_is, sheet_read, sheet_unread, records_read, written_records, sheet_sound}
use Rattle.laws.specs.GatherSound.{FairOffer, head_of}
use Rattle.laws.specs.Notices.{notice_by}
use Rattle.laws.specs.NotRefused.{set_by}
use Rattle.laws.specs.OneOffer.{one_sound, put_joins}
use Rattle.sheets.specs.SheetReadings.{master_count}
use Rattle.sheets.specs.declared.sheet.Sheet as examined
use Rattle.sheets.specs.Views.{sheet_of}
use Rattle.gather.specs.OneSheet.{Small, Joins}
use Rattle.gather.specs.declared.offer.Offer as code
use Rattle.gather.specs.declared.offer.Offer.TheVariants as offer
use Rattle.gather.specs.Offers.{good_set, good_notice, good, master_in, offer_of, add_outcome}

-- ---- the tests

pub set_says : (e sen : ℕ) (b : Bytes) → Says (good_set e sen b) ((1 ≤ e) × ((sen ≤ e) × (are_records b ≡ true)))
unfolding good_set
set_says e sen b = is_le 1 e also is_le sen e also itself (are_records b)

pub notice_says : (e m n : ℕ) → Says (good_notice e m n) ((1 ≤ e) × ((m ≤ 15) × (n ≤ max_sets)))
unfolding good_notice
notice_says e m n = is_le 1 e also is_le m 15 also is_le n max_sets

-- ---- the sheet that holds an offer alone

-- a well-formed set of a master in the roster is fair
pub fair_set : (s : Sheet) (sen csn : ℕ) (b : Bytes) → good_set s.epoch sen b ≡ true → in_roster s.roster (master_of csn) ≡ true → csn < 256 ^ 8
    → FairOffer s.epoch s.roster (a_set (set_by csn sen (offered_records b)))
unfolding sound_set
fair_set s sen csn b h g k =
    let f = (set_says s.epoch sen b).told h in
    both (→fits 8 csn k) (both (le-leb sen s.epoch f.1.0) (both g (written_records b (offered_records b) (records_read b f.1.1)).1))

-- so is a notice
pub fair_notice : (s : Sheet) (m n : ℕ) → good_notice s.epoch m n ≡ true → in_roster s.roster m ≡ true → FairOffer s.epoch s.roster (a_notice (notice_by m n))
fair_notice s m n h g = let f = (notice_says s.epoch m n).told h in (omega (arith, f.1.0), f.1.1, g)

-- what is written of a fair offer is a sheet, which joins as the offer
pub joins : (s : examined.Sheet) (o : Offer) {before after : Bytes} {n : ℕ} → FairOffer (sheet_of s).epoch (sheet_of s).roster o
    → Small (holding (sheet_of s).epoch (sheet_of s).roster (o ∷ [])) before n after → Joins (sheet_of s) o after n
joins s o {before} {after} {n} f w =
    let t = sheet_of s in
    let one = holding t.epoch t.roster (o ∷ []) in
    let sound : sound_sheet one ≡ true = one_sound t.epoch t.roster o (head_of t (sheet_sound s.bytes.now s.examined)) f in
    let fill : take n after ≡ sheet_bytes one =
    ap (take n) (w.bytes ∙ stored_front before (sheet_bytes one) (omega (arith, w.long, w.fits))) ∙ take_at (sheet_bytes one) (drop (length (sheet_bytes one)) before) n (sym w.long) in
    record {
      long = omega (arith, w.fits, ap length w.bytes ∙ length_stored before 0 _);
      is = ap is_sheet fill ∙ sheet_is one sound;
      gives = ap (joined t) (ap sheet_in fill ∙ sheet_decoded one sound) ∙ put_joins t t.roster o f;
    }

-- ---- what putting an offer in comes to

pub master_small : (e : ℕ) (o : code.Offer) → good e o ≡ true → master_in o < master_count
master_small e (offer.Set sen csn b) h = omega arith
master_small e (offer.Notice m n) h = omega (arith, ((notice_says e m n).told h).1.0)

module _ (e : ℕ) (o : code.Offer) (room : ℕ) where
  pub ill_sheet : (b : Bytes) → is_sheet b ≡ false → add_outcome b e o room ≡ refused 2
  unfolding add_outcome offer_to
  ill_sheet b h = rw (sheet_unread b h)

  -- to an examined sheet
  pub to_sheet : {b : Bytes} (s : examined.Sheet) → s.bytes.now ≡ b
      → add_outcome b e o room ≡ offer_to (Some (sheet_of s)) (if good e o then Some (offer_of o) else None) e (master_in o) room
  unfolding add_outcome
  to_sheet s p = rw (← p, sheet_read s.bytes.now s.examined)

-- a set is put in as an offer
pub put_is : (sheet : Bytes) (e sen csn : ℕ) (b : Bor Bytes) (room : ℕ) → put_outcome sheet e sen csn b.now room ≡ add_outcome sheet e (offer.Set sen csn b) room
unfolding put_outcome add_outcome offered_set set_with read_records read good_set are_records ◌and◌
put_is sheet e sen csn b room = grind (arith, nat_tests)

-- and a notice
pub notice_is : (sheet : Bytes) (e m n room : ℕ) → notice_outcome sheet e m n room ≡ add_outcome sheet e (offer.Notice m n) room
unfolding notice_outcome add_outcome offered_notice good_notice
notice_is sheet e m n room = λ i. notice_outcome sheet e m n room
