-- DEMAND 3: however offers are dealt over sheets, opened or given, repeated, ordered and joined, if no operation refuses, the bytes are
-- those of the sheet that Gathering defines from the offers. That the offers are fair, and epochs and rosters agree, follows from not being
-- refused.
use Rattle.std.specs.Prelude.{ℕ, ◌<◌, ◌≤◌, ◌≡◌, true, false, List, [], ◌∷◌, ◌++◌, leb, Option, Some}
use Rattle.std.proofs.Math.Path.{refl}
use Rattle.std.proofs.Common.{sym, ◌∙◌, ap, ap₂, subst, ⊎_elim, arith}
use Rattle.std.proofs.lemmas.Bool.{false≢true}
use mathlib.Core.List.Memᴰ
use Rattle.std.proofs.lemmas.Option.{same_Some}
use Rattle.words.specs.Words.{Bytes}
use Rattle.rules.specs.Numbers.{master_of}
use Rattle.rules.specs.Lists.{◌or◌}
use Rattle.rules.specs.Sheet.{Sheet, in_roster, sound_set, sheet_bytes, sheet_in, is_sheet, read_sheet, offered_records}
use Rattle.rules.specs.Gathering.{Offer, a_set, a_notice, spoils, spoiled_sheet, gathered, with_offer, joined}
use Rattle.rules.specs.Refused.{done, sheet_room, open_outcome, offered_set, offered_notice, offer_to, put_outcome, notice_outcome, join_sheets, join_outcome}
use Rattle.laws.specs.Tests.{left, right, both, or_left, or_right}
use Rattle.laws.specs.ListLaws.{Sub}
use Rattle.laws.specs.SheetLaws.{read_written, written_read, sheet_read}
use Rattle.laws.specs.GatherSound.{FairOffer, Fair, Head, head_of, one_fair, proper, gathered_none, spoiled_sound}
use Rattle.laws.specs.Joining.{offers_fair}
use Rattle.laws.specs.GatheredFrom.{gathered_from, from_epoch, from_roster, from_spoiled, from_sound, from_put, from_join, from_own, from_more}
use Rattle.laws.specs.Trees.{Number, Tree, opened, put, notice, join, given, paper, and_then, ends, offers_in, epoch_of, roster_of, spoiled_in, all_opened, gathered_in, Within, itself, under_put, under_notice, under_left, under_right}
use Rattle.laws.specs.NotRefused.{done_same, then→, open→, offer→, set_by, set→, notice→, join→}

-- what is known of a tree that ended in bytes
pub record Ended (t : Tree) (b : Bytes) : Type 0 where
  pub head : Head (epoch_of t) (roster_of t)
  pub fair : Fair (epoch_of t) (roster_of t) (offers_in t)
  pub bytes : b ≡ sheet_bytes (gathered_in t)

-- a gathered sheet's epoch and roster
pub in_epoch : (t : Tree) → (gathered_in t).epoch ≡ epoch_of t
unfolding gathered_in
in_epoch t = from_epoch (spoiled_in t) (epoch_of t) (roster_of t) (offers_in t)

pub in_roster_lem : (t : Tree) → (gathered_in t).roster ≡ roster_of t
unfolding gathered_in
in_roster_lem t = from_roster (spoiled_in t) (epoch_of t) (roster_of t) (offers_in t)

-- its bytes, read
pub ended_read : (t : Tree) (b : Bytes) → Ended t b → read_sheet b ≡ Some (gathered_in t)
unfolding gathered_in
ended_read t b k = ap read_sheet k.bytes ∙ read_written (gathered_in t) (from_sound (spoiled_in t) (epoch_of t) (roster_of t) (offers_in t) k.head k.fair)

fair_append : (e r : ℕ) (xs ys : List Offer) → Fair e r xs → Fair e r ys → Fair e r (xs ++ ys)
fair_append e r xs ys f g o m = ⊎_elim (f o) (g o) (Memᴰ.append_cases xs m)

-- the sheet of a tree's offers and one more
abbrev with_one : Tree → Offer → Sheet
with_one t o = gathered_from (spoiled_in t) (epoch_of t) (roster_of t) (offers_in t ++ (o ∷ []))

with_one_lem : (t : Tree) (o : Offer) → Fair (epoch_of t) (roster_of t) (offers_in t) → with_offer (gathered_in t) o ≡ with_one t o
unfolding gathered_in
with_one_lem t o f = from_put (spoiled_in t) (epoch_of t) (roster_of t) (offers_in t) o (proper (epoch_of t) (roster_of t) (offers_in t) f)

-- an offer that went in
pub taken : (t : Tree) (s : Bytes) (o : Option Offer) (e m room : ℕ) (b : Bytes) → Ended t s → offer_to (read_sheet s) o e m room ≡ done b
    → (x : Offer) × (o ≡ Some x) × (e ≡ epoch_of t) × (in_roster (roster_of t) m ≡ true) × (b ≡ sheet_bytes (with_one t x)) × (sheet_room ≤ room)
taken t s o e m room b k p =
    let q = offer→ (gathered_in t) o e m room b (sym (ap (λ (g : Option Sheet). offer_to g o e m room) (ended_read t s k)) ∙ p) in
    (q.0, q.1, q.2 ∙ in_epoch t, sym (ap (λ (n : ℕ). in_roster n m) (in_roster_lem t)) ∙ q.3, q.4 ∙ ap sheet_bytes (with_one_lem t q.0 k.fair), q.5)

ended_put : (t : Tree) (e sen : ℕ) (csn : Number 8) (rs : Bytes) (room : ℕ) (s b : Bytes) → Ended t s → put_outcome s e sen csn.value rs room ≡ done b → Ended (put t e sen csn rs room) b
unfolding put_outcome epoch_of roster_of offers_in spoiled_in gathered_in sound_set
ended_put t e sen csn rs room s b k p =
    let q = taken t s (offered_set e sen csn.value rs) e (master_of csn.value) room b k p in
    let w = set→ e sen csn.value rs q.0 q.1 in
    let a : leb sen (epoch_of t) ≡ true = ap (leb sen) (sym q.2) ∙ w.1 in
    let o = a_set (set_by csn.value sen (offered_records rs)) in
    record {
      head = k.head;
      fair = fair_append _ _ (offers_in t) (o ∷ []) k.fair (one_fair _ _ o (both csn.fit (both a (both q.3 w.2))));
      bytes = q.4 ∙ ap (λ (x : Offer). sheet_bytes (with_one t x)) w.0;
    }

below_16 : {m : ℕ} → m ≤ 15 → m < 16
below_16 h = omega arith

ended_notice : (t : Tree) (e m n room : ℕ) (s b : Bytes) → Ended t s → notice_outcome s e m n room ≡ done b → Ended (notice t e m n room) b
unfolding notice_outcome epoch_of roster_of offers_in spoiled_in gathered_in
ended_notice t e m n room s b k p =
    let q = taken t s (offered_notice e m n) e m room b k p in
    let w = notice→ e m n q.0 q.1 in
    let o = a_notice (record { master = m; number = n }) in
    record {
      head = k.head;
      fair = fair_append _ _ (offers_in t) (o ∷ []) k.fair (one_fair _ _ o (below_16 w.1, w.2, q.3));
      bytes = q.4 ∙ ap (λ (x : Offer). sheet_bytes (with_one t x)) w.0;
    }

-- what is joined has one epoch and one roster
pub agree : (t u : Tree) (room : ℕ) (x y b : Bytes) → Ended t x → Ended u y → join_outcome x y room ≡ done b
    → (epoch_of t ≡ epoch_of u) × (roster_of t ≡ roster_of u) × (b ≡ sheet_bytes (joined (gathered_in t) (gathered_in u))) × (sheet_room ≤ room)
unfolding join_outcome
agree t u room x y b k l p =
    let w = join→ (gathered_in t) (gathered_in u) room b (sym (ap₂ (λ (a c : Option Sheet). join_sheets a c room) (ended_read t x k) (ended_read u y l)) ∙ p) in
    (sym (in_epoch t) ∙ w.0 ∙ in_epoch u, sym (in_roster_lem t) ∙ w.1 ∙ in_roster_lem u, w.2, w.3)

-- and its offers are fair for these
fair_for : (e r f q : ℕ) (os : List Offer) → e ≡ f → r ≡ q → Fair f q os → Fair e r os
fair_for e r f q os c d h o m = subst (λ (n : ℕ). FairOffer n r o) (sym c) (subst (λ (n : ℕ). FairOffer f n o) (sym d) (h o m))

ended_join : (t u : Tree) (room : ℕ) (x y b : Bytes) → Ended t x → Ended u y → join_outcome x y room ≡ done b → Ended (join t u room) b
unfolding epoch_of roster_of offers_in spoiled_in gathered_in
ended_join t u room x y b k l p =
    let e = epoch_of t in
    let r = roster_of t in
    let w = agree t u room x y b k l p in
    let f = fair_for e r (epoch_of u) (roster_of u) (offers_in u) w.0 w.1 l.fair in
    record {
      head = k.head;
      fair = fair_append e r (offers_in t) (offers_in u) k.fair f;
      bytes =
          w.2
          ∙ ap sheet_bytes
          (ap₂ (λ (m n : ℕ). joined (gathered_in t) (gathered_from (spoiled_in u) m n (offers_in u))) (sym w.0) (sym w.1)
          ∙ from_join (spoiled_in t) (spoiled_in u) e r (offers_in t) (offers_in u) (proper e r (offers_in t) k.fair) (proper e r (offers_in u) f));
    }

ended_open : (e : Number 4) (r : Number 2) (room : ℕ) (b : Bytes) → open_outcome e.value r.value room ≡ done b → Ended (opened e r room) b
unfolding epoch_of roster_of offers_in spoiled_in gathered_in
ended_open e r room b p =
    let q = open→ e.value r.value room b p in
    record {
      head = record { epoch = q.0; epoch_fits = e.fit; roster = q.1; roster_fits = r.fit };
      fair = λ o m. absurd (Memᴰ.not-nil m);
      bytes = q.2 ∙ ap sheet_bytes (sym (gathered_none e.value r.value));
    }

ended_given : (b : Bytes) (p : is_sheet b ≡ true) → Ended (given b p) b
unfolding epoch_of roster_of offers_in spoiled_in gathered_in
ended_given b p =
    let w = written_read b (sheet_in b) (sheet_read b p) in
    record { head = head_of (sheet_in b) w.1; fair = offers_fair (sheet_in b) w.1; bytes = w.0 ∙ ap sheet_bytes (sym (from_own (sheet_in b) w.1)) }

-- A TREE THAT IS NOT REFUSED has a head that a sheet can have and fair offers, and ends in the bytes of the gathered sheet
pub ended : (t : Tree) (b : Bytes) → ends paper t ≡ done b → Ended t b
unfolding ends
ended (opened e r room) b p = ended_open e r room b p
ended (put t e sen csn rs room) b p = let q = then→ (ends paper t) (λ s. put_outcome s e sen csn.value rs room) b p in ended_put t e sen csn rs room q.0 b (ended t q.0 q.1) q.2
ended (notice t e m n room) b p = let q = then→ (ends paper t) (λ s. notice_outcome s e m n room) b p in ended_notice t e m n room q.0 b (ended t q.0 q.1) q.2
ended (join t u room) b p =
    let q = then→ (ends paper t) (λ x. and_then (ends paper u) (λ y. join_outcome x y room)) b p in
    let r = then→ (ends paper u) (λ y. join_outcome q.0 y room) b q.2 in
    ended_join t u room q.0 r.0 b (ended t q.0 q.1) (ended u r.0 r.1) r.2
ended (given s g) b p = subst (Ended (given s g)) (done_same p) (ended_given s g)

-- DEMAND 3
pub demand_3 : (t : Tree) (b : Bytes) → ends paper t ≡ done b → b ≡ sheet_bytes (gathered_in t)
demand_3 t b p = (ended t b p).bytes

-- where no sheet that it began at was spoiled, that is the sheet of its offers
pub unspoiled : (t : Tree) → spoiled_in t ≡ false → gathered_in t ≡ gathered (epoch_of t) (roster_of t) (offers_in t)
unfolding gathered_in
unspoiled t p = simp p

-- so it is where all were opened
pub opened_unspoiled : (t : Tree) → all_opened t ≡ true → spoiled_in t ≡ false
unfolding spoiled_in all_opened
opened_unspoiled (opened e r room) p = refl
opened_unspoiled (put t e sen csn b room) p = opened_unspoiled t p
opened_unspoiled (notice t e m n room) p = opened_unspoiled t p
opened_unspoiled (join t u room) p = ap₂ ◌or◌ (opened_unspoiled t (left _ _ p)) (opened_unspoiled u (right _ _ p)) ∙ unfold ◌or◌ in refl
opened_unspoiled (given b g) p = absurd (false≢true p)

-- all sheets in a tree that is not refused have one epoch and one roster
pub one_head : {u t : Tree} → Within u t → (b : Bytes) → ends paper t ≡ done b → (epoch_of u ≡ epoch_of t) × (roster_of u ≡ roster_of t)
unfolding ends epoch_of roster_of
one_head itself b p = (refl, refl)
one_head (under_put {t} {e} {sen} {csn} {b = rs} {room} w) b p = let q = then→ (ends paper t) (λ s. put_outcome s e sen csn.value rs room) b p in one_head w q.0 q.1
one_head (under_notice {t} {e} {m} {n} {room} w) b p = let q = then→ (ends paper t) (λ s. notice_outcome s e m n room) b p in one_head w q.0 q.1
one_head (under_left {t} {v} {room} w) b p =
    let q = then→ (ends paper t) (λ x. and_then (ends paper v) (λ y. join_outcome x y room)) b p in one_head w q.0 q.1
one_head (under_right {t} {v} {room} w) b p =
    let q = then→ (ends paper t) (λ x. and_then (ends paper v) (λ y. join_outcome x y room)) b p in
    let r = then→ (ends paper v) (λ y. join_outcome q.0 y room) b q.2 in
    let a = agree t v room q.0 r.0 b (ended t q.0 q.1) (ended v r.0 r.1) r.2 in
    let h = one_head w r.0 r.1 in
    (h.0 ∙ sym a.0, h.1 ∙ sym a.1)

-- a tree has the offers of each tree in it
within_offers : {u t : Tree} → Within u t → Sub (offers_in u) (offers_in t)
unfolding offers_in
within_offers itself o m = m
within_offers (under_put w) o m = Memᴰ.append_left _ (within_offers w o m)
within_offers (under_notice w) o m = Memᴰ.append_left _ (within_offers w o m)
within_offers (under_left w) o m = Memᴰ.append_left _ (within_offers w o m)
within_offers (under_right {t} w) o m = Memᴰ.append_right (offers_in t) (within_offers w o m)

-- and begins at the sheets of each
within_spoiled : {u t : Tree} → Within u t → spoiled_in u ≡ true → spoiled_in t ≡ true
unfolding spoiled_in
within_spoiled itself p = p
within_spoiled (under_put w) p = within_spoiled w p
within_spoiled (under_notice w) p = within_spoiled w p
within_spoiled (under_left w) p = or_left _ _ (within_spoiled w p)
within_spoiled (under_right w) p = or_right _ _ (within_spoiled w p)

spoiled_is : (e r : ℕ) → (spoiled_sheet e r).spoiled ≡ true
unfolding spoiled_sheet
spoiled_is e r = refl

-- bytes of the spoiled sheet come only from a spoiled one or from offers that spoil
ended_spoiled : (t : Tree) → Ended t (sheet_bytes (spoiled_sheet (epoch_of t) (roster_of t))) → spoiled_in t or spoils (offers_in t) ≡ true
unfolding gathered_in
ended_spoiled t k =
    let e = epoch_of t in
    let r = roster_of t in
    let w : spoiled_sheet e r ≡ gathered_in t = same_Some _ _ (sym (read_written (spoiled_sheet e r) (spoiled_sound e r k.head)) ∙ ended_read t _ k) in
    sym (from_spoiled (spoiled_in t) e r (offers_in t)) ∙ sym (ap (λ (s : Sheet). s.spoiled) w) ∙ spoiled_is e r

-- SPOILED IS FINAL: a tree with a spoiled one in it, if not refused, ends in the same spoiled sheet
pub stays_spoiled : (u t : Tree) (b : Bytes) → Within u t → ends paper u ≡ done (sheet_bytes (spoiled_sheet (epoch_of u) (roster_of u))) → ends paper t ≡ done b
    → b ≡ sheet_bytes (spoiled_sheet (epoch_of u) (roster_of u))
unfolding gathered_in
stays_spoiled u t b w p q =
    let h = one_head w b q in
    demand_3 t b q
    ∙ ap sheet_bytes (from_more (spoiled_in u) (spoiled_in t) (epoch_of t) (roster_of t) (offers_in u) (offers_in t) (within_spoiled w) (within_offers w) (ended_spoiled u (ended u _ p)))
    ∙ ap₂ (λ (e r : ℕ). sheet_bytes (spoiled_sheet e r)) (sym h.0) (sym h.1)
