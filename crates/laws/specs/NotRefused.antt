-- What follows from an operation not being refused: what it was given is fair, the buffer is long enough, and what it wrote is the
-- sheet's bytes. And that this is all that it takes (`→open`, `→offer`, `→join`).
use Rattle.std.specs.Prelude.{ℕ, ◌≤◌, ◌≡◌, refl, Bool, true, false, List, ltb, leb, eqb, if◌then◌else◌, Option, None, Some}
use Rattle.std.proofs.Common.{sym, ◌∙◌, ap, arith, ltb-false, leb-true, le-leb, le-ltb, eqb-true, eq-eqb, ne_eqb}
use Rattle.std.proofs.lemmas.Option.{same_Some, none-some}
use Rattle.std.proofs.lemmas.Bool.{eqb-false, not-false}
use Rattle.words.specs.Words.{Bytes}
use Rattle.rules.specs.declared.row.Record.{Record}
use Rattle.rules.specs.Lists.{◌and◌}
use Rattle.rules.specs.Forms.{well_formed, read}
use Rattle.rules.specs.Sheet.{WriteSet, Sheet, max_sets, in_roster, sound_records, sound_sheet, records_bytes, sheet_bytes, read_sheet, read_records, offered_records}
use Rattle.rules.specs.Gathering.{Offer, a_set, a_notice, empty_sheet, with_offer, joined}
use Rattle.rules.specs.Refused.{Outcome, refused, done, sheet_room, open_outcome, set_with, offered_set, offered_notice, offer_to, join_sheets, join_outcome}
use Rattle.laws.specs.Tests.{left, right}
use Rattle.laws.specs.SheetLaws.{written_read, written_records}
use Rattle.laws.specs.Joining.{joined_sound}
use Rattle.laws.specs.Trees.{and_then}

-- ---- of any outcome

module _ {A : Type 0} where
  pub refused_not : {n : ℕ} {a : A} → refused n ≡ done a → ⊥
  refused_not p = let z : ◌≡◌ {A = ℕ} 0 1 = cc in omega arith

  pub done_same : {a b : A} → done a ≡ done b → a ≡ b
  done_same p = cc

  pub refused_same : {m n : ℕ} → ◌≡◌ {A = Outcome A} (refused m) (refused n) → m ≡ n
  refused_same p = cc

  -- one refusal passed
  pub passed : (t : Bool) (n : ℕ) (o : Outcome A) (a : A) → (if t then refused n else o) ≡ done a → (t ≡ false) × (o ≡ done a)
  passed true n o a p = absurd (refused_not p)
  passed false n o a p = (refl, p)

pub then→ : (o : Outcome Bytes) (f : Bytes → Outcome Bytes) (b : Bytes) → and_then o f ≡ done b → (a : Bytes) × (o ≡ done a) × (f a ≡ done b)
unfolding and_then
then→ (refused n) f b p = absurd (refused_not p)
then→ (done a) f b p = (a, refl, p)

not_zero : (n : ℕ) → eqb n 0 ≡ false → leb 1 n ≡ true
not_zero n p = let h = eqb-false n 0 p in le-leb 1 n (omega arith)

is_some : (n : ℕ) → leb 1 n ≡ true → eqb n 0 ≡ false
is_some n p = let h = leb-true 1 n p in ne_eqb n 0 (λ e. omega arith)

-- what is opened

pub open→ : (e r room : ℕ) (b : Bytes) → open_outcome e r room ≡ done b
    → (leb 1 e ≡ true) × (leb 1 r ≡ true) × (b ≡ sheet_bytes (empty_sheet e r)) × (sheet_room ≤ room)
unfolding open_outcome
open→ e r room b p =
    let p₁ = passed _ _ _ _ p in
    let p₂ = passed _ _ _ _ p₁.1 in
    let p₃ = passed (ltb room sheet_room) 9 _ b p₂.1 in
    (not_zero e p₁.0, not_zero r p₂.0, sym (done_same p₃.1), ltb-false room sheet_room p₃.0)

pub →open : (e r room : ℕ) → leb 1 e ≡ true → leb 1 r ≡ true → sheet_room ≤ room → open_outcome e r room ≡ done (sheet_bytes (empty_sheet e r))
unfolding open_outcome
→open e r room p q h = simp (is_some e p, is_some r q, le-ltb room sheet_room h)

-- what is offered

pub offer→ : (s : Sheet) (o : Option Offer) (e m room : ℕ) (b : Bytes) → offer_to (Some s) o e m room ≡ done b
    → (x : Offer) × (o ≡ Some x) × (e ≡ s.epoch) × (in_roster s.roster m ≡ true) × (b ≡ sheet_bytes (with_offer s x)) × (sheet_room ≤ room)
unfolding offer_to
offer→ s None e m room b p = absurd (refused_not p)
offer→ s (Some x) e m room b p =
    let p₁ = passed _ _ _ _ p in
    let p₂ = passed _ _ _ _ p₁.1 in
    let p₃ = passed (ltb room sheet_room) 9 _ b p₂.1 in
    (x, refl, eqb-true _ _ (not-false _ p₁.0), not-false _ p₂.0, sym (done_same p₃.1), ltb-false room sheet_room p₃.0)

pub →offer : (s : Sheet) (x : Offer) (e m room : ℕ) → e ≡ s.epoch → in_roster s.roster m ≡ true → sheet_room ≤ room
    → offer_to (Some s) (Some x) e m room ≡ done (sheet_bytes (with_offer s x))
unfolding offer_to
→offer s x e m room p q h = simp (eq-eqb e s.epoch p, q, le-ltb room sheet_room h)

-- what is read of record bytes is what they decode to, and sound
records→ : (b : Bytes) (rs : List Record) → read_records b ≡ Some rs → (rs ≡ offered_records b) × (sound_records rs ≡ true)
unfolding read_records read
records→ b rs p = (go (well_formed offered_records sound_records records_bytes b) p, (written_records b rs p).1)
  where
    go : (t : Bool) → (if t then Some (offered_records b) else None) ≡ Some rs → rs ≡ offered_records b
    go true q = sym (same_Some _ _ q)
    go false q = absurd (none-some rs q)

-- a set by its numbers and records
abbrev pub set_by : ℕ → ℕ → List Record → WriteSet
set_by csn sen rs = record { csn = csn; sen = sen; records = rs }

set_with→ : (e sen csn : ℕ) (rs : Option (List Record)) (o : Offer) → set_with e sen csn rs ≡ Some o
    → (w : List Record) × (rs ≡ Some w) × (o ≡ a_set (set_by csn sen w)) × (leb sen e ≡ true)
unfolding set_with
set_with→ e sen csn None o p = absurd (none-some o p)
set_with→ e sen csn (Some w) o p = go (leb 1 e and leb sen e) refl p
  where
    go : (t : Bool) → leb 1 e and leb sen e ≡ t → (if t then Some (a_set (set_by csn sen w)) else None) ≡ Some o
        → (v : List Record) × (Some w ≡ Some v) × (o ≡ a_set (set_by csn sen v)) × (leb sen e ≡ true)
    go true q p = (w, refl, sym (same_Some _ _ p), right _ _ q)
    go false q p = absurd (none-some o p)

pub set→ : (e sen csn : ℕ) (b : Bytes) (o : Offer) → offered_set e sen csn b ≡ Some o
    → (o ≡ a_set (set_by csn sen (offered_records b))) × (leb sen e ≡ true) × (sound_records (offered_records b) ≡ true)
unfolding offered_set
set→ e sen csn b o p =
    let q = set_with→ e sen csn (read_records b) o p in
    let r = records→ b q.0 q.1 in
    (q.2 ∙ ap (λ (rs : List Record). a_set (set_by csn sen rs)) r.0, q.3, sym (ap sound_records r.0) ∙ r.1)

pub notice→ : (e m n : ℕ) (o : Offer) → offered_notice e m n ≡ Some o → (o ≡ a_notice (record { master = m; number = n })) × (m ≤ 15) × (n ≤ max_sets)
unfolding offered_notice
notice→ e m n o p = go (leb 1 e and leb m 15 and leb n max_sets) refl p
  where
    go : (t : Bool) → leb 1 e and leb m 15 and leb n max_sets ≡ t → (if t then Some (a_notice (record { master = m; number = n })) else None) ≡ Some o
        → (o ≡ a_notice (record { master = m; number = n })) × (m ≤ 15) × (n ≤ max_sets)
    go true q p =
        (sym (same_Some _ _ p), leb-true m 15 (left (leb m 15) (leb n max_sets) (right (leb 1 e) _ q)), leb-true n max_sets (right (leb m 15) (leb n max_sets) (right (leb 1 e) _ q)))
    go false q p = absurd (none-some o p)

-- what is joined

pub join→ : (s t : Sheet) (room : ℕ) (b : Bytes) → join_sheets (Some s) (Some t) room ≡ done b
    → (s.epoch ≡ t.epoch) × (s.roster ≡ t.roster) × (b ≡ sheet_bytes (joined s t)) × (sheet_room ≤ room)
unfolding join_sheets
join→ s t room b p =
    let p₁ = passed _ _ _ _ p in
    let p₂ = passed _ _ _ _ p₁.1 in
    let p₃ = passed (ltb room sheet_room) 9 _ b p₂.1 in
    (eqb-true _ _ (not-false _ p₁.0), eqb-true _ _ (not-false _ p₂.0), sym (done_same p₃.1), ltb-false room sheet_room p₃.0)

pub →join : (s t : Sheet) (room : ℕ) → s.epoch ≡ t.epoch → s.roster ≡ t.roster → sheet_room ≤ room → join_sheets (Some s) (Some t) room ≡ done (sheet_bytes (joined s t))
unfolding join_sheets
→join s t room p q h = simp (eq-eqb s.epoch t.epoch p, eq-eqb s.roster t.roster q, le-ltb room sheet_room h)

-- what it writes is a sound sheet
pub join_sound : (a b : Bytes) (room : ℕ) (c : Bytes) → join_outcome a b room ≡ done c → (s : Sheet) × (sound_sheet s ≡ true) × (c ≡ sheet_bytes s)
unfolding join_outcome join_sheets
join_sound a b room c p = go (read_sheet a) refl (read_sheet b) refl p
  where
    go : (x : Option Sheet) → read_sheet a ≡ x → (y : Option Sheet) → read_sheet b ≡ y → join_sheets x y room ≡ done c → (s : Sheet) × (sound_sheet s ≡ true) × (c ≡ sheet_bytes s)
    go None q y k h = absurd (refused_not h)
    go (Some s) q None k h = absurd (refused_not h)
    go (Some s) q (Some t) k h =
        let w = join→ s t room c h in
        (joined s t, joined_sound s t (written_read a s q).1 (written_read b t k).1 w.0 w.1, w.2)
