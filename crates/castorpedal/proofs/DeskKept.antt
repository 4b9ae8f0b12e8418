-- An offer's outcome is no longer than a sheet may be, a tag's is eleven bytes; and how the exports of the desk keep their promises.
use Rattle.std.specs.Prelude.{if◌then◌else◌}
use Prim.Native.Nat.{ℕ, ◌^◌, ◌<◌}
use mathlib.Core.Path.{◌≡◌, ◌∙◌, ap}
use mathlib.Core.Bool.{not}
use native.Mathlib.Omega.{arith}
use lib.ListN.{length}
use lib.Dec.{ltb}
use Rattle.words.specs.Words.{Bytes}
use Rattle.rules.specs.declared.desk.OpenSet.{OpenSet}
use Rattle.rules.specs.Answers.{Answer, Entered, entered_number}
use Rattle.rules.specs.Tag.{tag_room, is_key, tag_of}
use Rattle.rules.specs.OpenSet.{offered_bytes}
use Rattle.rules.specs.Refused.{Outcome, refused, done, sheet_room, offer_outcome, tag_outcome}
use Rattle.rules.specs.Promises.{EnterPromise, OfferPromise}
use Rattle.laws.specs.NotRefused.{passed, done_same}
use Rattle.laws.specs.Tags.{tag_length}
use Rattle.castorpedal.specs.declared.answer.CAnswer.{CAnswer}
use Rattle.castorpedal.specs.Exported.{Within, Told, KeptEnter, KeptOffer}
use Rattle.castorpedal.proofs.Rooms.{Fits, within, kept, put_fits}

pub kept_enter : (o : Outcome OpenSet) (before after : OpenSet) (a : Entered) (r : ℕ) → EnterPromise o before a after → r ≡ entered_number a → KeptEnter o before r after
kept_enter o before after a r p t = record { answered = t ∙ p.answered; open_set = p.open_set }

-- an offer is put
offer_fits : (o : OpenSet) (sheet : Bytes) (epoch sen csn room : ℕ) → csn < 256 ^ 8 → Fits (offer_outcome o sheet epoch sen csn room)
unfolding offer_outcome
offer_fits o sheet epoch sen csn room h = put_fits sheet epoch sen csn (offered_bytes o) room h

pub offer_within : (o : OpenSet) (sheet : Bytes) (epoch sen csn room : ℕ) {before after : OpenSet} {old new : Bytes} (a : Answer) → csn < 256 ^ 8
    → OfferPromise (offer_outcome o sheet epoch sen csn room) before old a after new → Within sheet_room a
offer_within o sheet epoch sen csn room a h p = within _ a p.sheet.answered (offer_fits o sheet epoch sen csn room h)

pub kept_offer : (o : Outcome Bytes) (before : OpenSet) (old : Bytes) {a : Answer} {r : CAnswer} {after : OpenSet} {new : Bytes} → OfferPromise o before old a after new → Told a r → KeptOffer o before old r after new
kept_offer o before old p t = record { sheet = kept o old p.sheet t; open_set = p.open_set }

pub tag_fits : (key room : ℕ) → Fits (tag_outcome key room)
unfolding tag_outcome
tag_fits key room b p =
    let p₁ = passed (not (is_key key)) 11 (if ltb room tag_room then refused 9 else done (tag_of key)) b p in
    let p₂ = passed (ltb room tag_room) 9 (done (tag_of key)) b p₁.1 in
    let e : tag_of key ≡ b = done_same p₂.1 in
    omega (arith, ap length e, tag_length key)
