-- EVERY TREE THAT IS NOT REFUSED IS FAIR: over one epoch and one roster, of well-formed offers of masters in the roster, with buffers that
-- are long enough. That such a tree is not refused, gathering never gets stuck, is proofs/NeverStuck.antt.
use Rattle.std.specs.Prelude.{ℕ, ◌≤◌, ◌≡◌, true, [], Option, Some}
use Rattle.std.proofs.Math.Path.{refl}
use Rattle.std.proofs.Common.{sym, ◌∙◌, ap, ap₂, subst, arith}
use mathlib.Core.List.Memᴰ
use Rattle.words.specs.Words.{Bytes}
use Rattle.rules.specs.Numbers.{master_of}
use Rattle.rules.specs.Sheet.{Sheet, in_roster, sound_sheet, sheet_bytes, read_sheet}
use Rattle.rules.specs.Gathering.{Offer, sound_of, empty_sheet, with_offer, joined}
use Rattle.rules.specs.Refused.{done, sheet_room, open_outcome, offered_set, offered_notice, offer_to, put_outcome, notice_outcome, join_sheets, join_outcome}
use Rattle.laws.specs.SheetLaws.{read_written}
use Rattle.laws.specs.GatherSound.{Head, gathered_sound, gathered_none}
use Rattle.laws.specs.Trees.{Number, Tree, opened, put, notice, join, given, paper, and_then, ends, epoch_of, roster_of, gathered_in}
use Rattle.laws.specs.NotRefused.{then→, open→, →open, offer→, →offer, →join}
use Rattle.laws.specs.Demand3.{in_epoch, in_roster_lem, ended_read, taken, agree, ended}
use Rattle.laws.specs.FairTrees.{GoodSet, GoodNotice, FairTree, fair_head}

-- ---- one operation on a sheet that is there

offer_goes : (s : Bytes) (x : Sheet) (o : Option Offer) (y : Offer) (f m room : ℕ) → read_sheet s ≡ Some x → o ≡ Some y → f ≡ x.epoch → in_roster x.roster m ≡ true → sheet_room ≤ room
    → offer_to (read_sheet s) o f m room ≡ done (sheet_bytes (with_offer x y))
offer_goes s x o y f m room p q e i h = ap₂ (λ (a : Option Sheet) (b : Option Offer). offer_to a b f m room) p q ∙ →offer x y f m room e i h

pub join_goes : (s v : Bytes) (x y : Sheet) (room : ℕ) → read_sheet s ≡ Some x → read_sheet v ≡ Some y → x.epoch ≡ y.epoch → x.roster ≡ y.roster → sheet_room ≤ room
    → join_outcome s v room ≡ done (sheet_bytes (joined x y))
unfolding join_outcome
join_goes s v x y room p q e r h = ap₂ (λ (a b : Option Sheet). join_sheets a b room) p q ∙ →join x y room e r h

-- ---- a tree that ended, and one operation more

module _ (e r : ℕ) (t : Tree) (s : Bytes) (p : ends paper t ≡ done s) (f : FairTree e r t) where
  pub tree_read : read_sheet s ≡ Some (gathered_in t)
  tree_read = ended_read t s (ended t s p)

  pub tree_epoch : e ≡ (gathered_in t).epoch
  tree_epoch = sym (fair_head e r t f).0 ∙ sym (in_epoch t)

  pub tree_roster : r ≡ (gathered_in t).roster
  tree_roster = sym (fair_head e r t f).1 ∙ sym (in_roster_lem t)

  pub one_more : (o : Option Offer) (y : Offer) (g m room : ℕ) → o ≡ Some y → g ≡ e → in_roster r m ≡ true → sheet_room ≤ room
      → offer_to (read_sheet s) o g m room ≡ done (sheet_bytes (with_offer (gathered_in t) y))
  one_more o y g m room q c i h =
      offer_goes s (gathered_in t) o y g m room tree_read q (c ∙ tree_epoch) (sym (ap (λ (n : ℕ). in_roster n m) tree_roster) ∙ i) h

-- EVERY TREE THAT IS NOT REFUSED IS FAIR (and its head is one that a sheet can have: `ended`)
pub fair_ended : (t : Tree) (b : Bytes) → ends paper t ≡ done b → FairTree (epoch_of t) (roster_of t) t
unfolding FairTree ends epoch_of roster_of put_outcome notice_outcome
fair_ended (opened e r room) b p = (refl, refl, (open→ e.value r.value room b p).3)
fair_ended (put t f sen csn rs room) b p =
    let q = then→ (ends paper t) (λ s. put_outcome s f sen csn.value rs room) b p in
    let w = taken t q.0 (offered_set f sen csn.value rs) f (master_of csn.value) room b (ended t q.0 q.1) q.2 in
    let c : offered_set (epoch_of t) sen csn.value rs ≡ Some w.0 = ap (λ (g : ℕ). offered_set g sen csn.value rs) (sym w.2) ∙ w.1 in
    (fair_ended t q.0 q.1, w.2, record { well_formed_lem = (w.0, c); in_roster_lem = w.3 }, w.5)
fair_ended (notice t f m n room) b p =
    let q = then→ (ends paper t) (λ s. notice_outcome s f m n room) b p in
    let w = taken t q.0 (offered_notice f m n) f m room b (ended t q.0 q.1) q.2 in
    let c : offered_notice (epoch_of t) m n ≡ Some w.0 = ap (λ (g : ℕ). offered_notice g m n) (sym w.2) ∙ w.1 in
    (fair_ended t q.0 q.1, w.2, record { well_formed_lem = (w.0, c); in_roster_lem = w.3 }, w.5)
fair_ended (join t u room) b p =
    let q = then→ (ends paper t) (λ x. and_then (ends paper u) (λ y. join_outcome x y room)) b p in
    let v = then→ (ends paper u) (λ y. join_outcome q.0 y room) b q.2 in
    let w = agree t u room q.0 v.0 b (ended t q.0 q.1) (ended u v.0 v.1) v.2 in
    (fair_ended t q.0 q.1, subst (λ (n : ℕ). FairTree n (roster_of t) u) (sym w.0) (subst (λ (n : ℕ). FairTree (epoch_of u) n u) (sym w.1) (fair_ended u v.0 v.1)), w.3)
fair_ended (given s g) b p = (refl, refl)

-- ---- offers, by the freshly opened sheet

-- the one holds just when the other does
pub record JustWhen (P Q : Type 0) : Type 0 where
  pub there : P → Q
  pub back : Q → P

module _ (e r : ℕ) (k : Head e r) where
  -- a sheet of such an epoch and roster is opened
  pub opens_fresh : open_outcome e r sheet_room ≡ done (sheet_bytes (empty_sheet e r))
  opens_fresh = →open e r sheet_room k.epoch k.roster (omega arith)

  -- and comes back from its bytes
  empty_read : read_sheet (sheet_bytes (empty_sheet e r)) ≡ Some (empty_sheet e r)
  empty_read =
      read_written (empty_sheet e r) (sym (ap sound_sheet (gathered_none e r)) ∙ gathered_sound e r [] k (λ o m. absurd (Memᴰ.not-nil m)))

  fresh_takes : (o : Option Offer) (y : Offer) (m : ℕ) → o ≡ Some y → in_roster r m ≡ true
      → offer_to (read_sheet (sheet_bytes (empty_sheet e r))) o e m sheet_room ≡ done (sheet_bytes (with_offer (empty_sheet e r) y))
  unfolding empty_sheet sound_of
  fresh_takes o y m q i = offer_goes (sheet_bytes (empty_sheet e r)) (empty_sheet e r) o y e m sheet_room empty_read q refl i (omega arith)

  fresh_took : (o : Option Offer) (m : ℕ) (c : Bytes) → offer_to (read_sheet (sheet_bytes (empty_sheet e r))) o e m sheet_room ≡ done c
      → (y : Offer) × (o ≡ Some y) × (in_roster r m ≡ true)
  unfolding empty_sheet sound_of
  fresh_took o m c p =
      let q = offer→ (empty_sheet e r) o e m sheet_room c (sym (ap (λ (g : Option Sheet). offer_to g o e m sheet_room) empty_read) ∙ p) in
      (q.0, q.1, q.3)

  -- A SET IS GOOD JUST WHEN PUTTING IT INTO THE FRESHLY OPENED SHEET IS NOT REFUSED
  pub good_set_put : (sen : ℕ) (csn : Number 8) (b : Bytes)
      → JustWhen (GoodSet e r sen csn.value b) ((c : Bytes) × (put_outcome (sheet_bytes (empty_sheet e r)) e sen csn.value b sheet_room ≡ done c))
  unfolding put_outcome
  good_set_put sen csn b = record {
    there = λ g. (_, fresh_takes (offered_set e sen csn.value b) g.well_formed_lem.0 (master_of csn.value) g.well_formed_lem.1 g.in_roster_lem);
    back = λ p. let q = fresh_took (offered_set e sen csn.value b) (master_of csn.value) p.0 p.1 in record { well_formed_lem = (q.0, q.1); in_roster_lem = q.2 };
  }

  -- AND A NOTICE JUST WHEN ITS NOTICE IS NOT
  pub good_notice_put : (m n : ℕ)
      → JustWhen (GoodNotice e r m n) ((c : Bytes) × (notice_outcome (sheet_bytes (empty_sheet e r)) e m n sheet_room ≡ done c))
  unfolding notice_outcome
  good_notice_put m n = record {
    there = λ g. (_, fresh_takes (offered_notice e m n) g.well_formed_lem.0 m g.well_formed_lem.1 g.in_roster_lem);
    back = λ p. let q = fresh_took (offered_notice e m n) m p.0 p.1 in record { well_formed_lem = (q.0, q.1); in_roster_lem = q.2 };
  }
