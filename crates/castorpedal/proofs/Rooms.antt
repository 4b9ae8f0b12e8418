-- No outcome of gathering is longer than a sheet may be, so every length fits the C struct; and how an export keeps its promise.
use Rattle.std.proofs.Common.{Option, None, Some, Ok, Err}
use Prim.Native.Nat.{ℕ, ◌^◌, ◌<◌, ◌≤◌}
use mathlib.Core.Path.{◌≡◌, refl, sym, ◌∙◌, ap}
use mathlib.Core.Bool.{true}
use mathlib.Core.List.{[], ◌∷◌}
use native.Mathlib.Omega.{arith}
use lib.ListN.{length}
use lib.Dec.{leb}
use Rattle.words.specs.Words.{Bytes}
use Rattle.rules.specs.Answers.{Answer, answer_numbers}
use Rattle.rules.specs.Numbers.{master_of}
use Rattle.rules.specs.Sheet.{Sheet, in_roster, sound_set, sound_sheet, sheet_bytes, read_sheet}
use Rattle.rules.specs.Gathering.{Offer, holding, with_offer, sound_of}
use Rattle.rules.specs.Refused.{Outcome, refused, done, sheet_room, offer_to, offered_set, offered_notice, open_outcome, put_outcome, notice_outcome, join_outcome}
use Rattle.rules.specs.Promises.{told, Promise}
use Rattle.laws.specs.Tests.{both}
use Rattle.laws.specs.FormLaws.{→fits}
use Rattle.laws.specs.SheetLaws.{sound_sheet→, written_read}
use Rattle.laws.specs.GatherSound.{FairOffer, head_of}
use Rattle.laws.specs.Joining.{joined_sound}
use Rattle.laws.specs.OneOffer.{one_sound, put_joins}
use Rattle.laws.specs.NotRefused.{refused_not, open→, offer→, set→, notice→, join_sound}
use Rattle.sheets.specs.SheetSizes.{sheet_length_lem, total_few, empty_length}
use Rattle.castorpedal.specs.declared.answer.CAnswer.{CAnswer}
use Rattle.castorpedal.specs.Exported.{Within, Told, Kept}

-- ---- a sound sheet has no more bytes than its room

pub sheet_room_lem : (s : Sheet) → sound_sheet s ≡ true → length (sheet_bytes s) ≤ sheet_room
sheet_room_lem s e =
    let k = sound_sheet→ s e in
    omega (arith, sheet_length_lem s k.sixteen, total_few s.epoch s.roster s.sets k.sets, k.few)

-- a sound sheet with a fair offer more is sound
with_sound : (s : Sheet) (o : Offer) → sound_sheet s ≡ true → FairOffer s.epoch s.roster o → sound_sheet (with_offer s o) ≡ true
with_sound s o h f =
    let one = one_sound s.epoch s.roster o (head_of s h) f in
    sym (ap sound_sheet (put_joins s s.roster o f)) ∙ joined_sound s (holding s.epoch s.roster (o ∷ [])) h one (unfold holding sound_of in refl) (unfold holding sound_of in refl)

-- ---- so has every outcome of gathering

fair_as : (e r : ℕ) {x y : Offer} → x ≡ y → FairOffer e r x → FairOffer e r y
fair_as e r p f = rw p at f

-- an outcome that writes no more than a sheet may have
abbrev pub Fits : Outcome Bytes → Type 0
Fits o = (b : Bytes) → o ≡ done b → length b ≤ sheet_room

pub open_fits : (e r room : ℕ) → e < 256 ^ 4 → r < 256 ^ 2 → Fits (open_outcome e r room)
open_fits e r room h k b p =
    let q = open→ e r room b p in
    omega (arith, ap length q.2, empty_length e r)

-- an offer to a sheet, fair if it is taken
offer_fits : (sheet : Bytes) (o : Option Offer) (e m room : ℕ) → ((s : Sheet) (x : Offer) → o ≡ Some x → e ≡ s.epoch → in_roster s.roster m ≡ true → FairOffer s.epoch s.roster x)
    → Fits (offer_to (read_sheet sheet) o e m room)
offer_fits sheet o e m room f b p = go (read_sheet sheet) refl p
  where
    go : (r : Option Sheet) → read_sheet sheet ≡ r → offer_to r o e m room ≡ done b → length b ≤ sheet_room
    go None q h = absurd (unfold offer_to in refused_not h)
    go (Some s) q h =
        let x = offer→ s o e m room b h in
        let w = with_sound s x.0 (written_read sheet s q).1 (f s x.0 x.1 x.2 x.3) in
        omega (arith, ap length x.4, sheet_room_lem (with_offer s x.0) w)

pub put_fits : (sheet : Bytes) (e sen csn : ℕ) (b : Bytes) (room : ℕ) → csn < 256 ^ 8 → Fits (put_outcome sheet e sen csn b room)
unfolding put_outcome
put_fits sheet e sen csn b room h =
    offer_fits sheet (offered_set e sen csn b) e (master_of csn) room
    (λ s x p q i.
    let w = set→ e sen csn b x p in
    fair_as _ _ (sym w.0) (unfold sound_set in both (→fits 8 csn h) (both (ap (leb sen) (sym q) ∙ w.1) (both i w.2))))

pub notice_fits : (sheet : Bytes) (e m n room : ℕ) → Fits (notice_outcome sheet e m n room)
unfolding notice_outcome
notice_fits sheet e m n room =
    offer_fits sheet (offered_notice e m n) e m room
    (λ s x p q i. let w = notice→ e m n x p in fair_as _ _ (sym w.0) (omega (arith, w.1), w.2, i))

pub join_fits : (a b : Bytes) (room : ℕ) → Fits (join_outcome a b room)
join_fits a b room c p =
    let w = join_sound a b room c p in
    omega (arith, ap length w.2, sheet_room_lem w.0 w.1)

-- ---- how an export keeps its promise

pub within : (o : Outcome Bytes) (a : Answer) → answer_numbers a ≡ told o → Fits o → Within sheet_room a
unfolding told
within (refused n) (Ok k) p f = let q = ap (λ (x : ℕ × ℕ). x.1) p in omega arith
within (done b) (Ok k) p f = let q = ap (λ (x : ℕ × ℕ). x.1) p in omega (arith, f b refl)
within o (Err x) p f = tt

pub kept : (o : Outcome Bytes) (before : Bytes) {a : Answer} {r : CAnswer} {after : Bytes} → Promise o before a after → Told a r → Kept o before r after
kept o before p t = record { answered = t.numbers ∙ p.answered; buffer = p.buffer }
