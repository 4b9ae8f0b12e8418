-- GATHERING NEVER GETS STUCK: a tree over one epoch and one roster, of well-formed offers of masters in the roster, with buffers that are
-- long enough, is not refused.
use Rattle.std.specs.Prelude.{ℕ, ◌≡◌, leb}
use Rattle.std.proofs.Math.Path.{refl}
use Rattle.std.proofs.Common.{sym, ◌∙◌, ap, ap₂, Some}
use Rattle.words.specs.Words.{Bytes}
use Rattle.rules.specs.Numbers.{master_of}
use Rattle.rules.specs.Sheet.{sheet_bytes}
use Rattle.rules.specs.Refused.{Outcome, done, offered_set, offered_notice, put_outcome, notice_outcome, join_outcome}
use Rattle.laws.specs.GatherSound.{Head}
use Rattle.laws.specs.Trees.{Tree, opened, put, notice, join, given, paper, and_then, ends, gathered_in}
use Rattle.laws.specs.NotRefused.{→open}
use Rattle.laws.specs.Demand3.{demand_3}
use Rattle.laws.specs.FairTrees.{FairTree}
use Rattle.laws.specs.NeverStuck.{join_goes, tree_read, tree_epoch, tree_roster, one_more}

-- a fair tree ends
goes : (e r : ℕ) → Head e r → (t : Tree) → FairTree e r t → (b : Bytes) × (ends paper t ≡ done b)
unfolding FairTree ends and_then put_outcome notice_outcome
goes e r k (opened f q room) h =
    (_, →open f.value q.value room (ap (leb 1) h.0 ∙ k.epoch) (ap (leb 1) h.1 ∙ k.roster) h.2)
goes e r k (put t f sen csn b room) h =
    let w = goes e r k t h.0 in
    let o = h.2.well_formed_lem in
    let c : offered_set f sen csn.value b ≡ Some o.0 = ap (λ (g : ℕ). offered_set g sen csn.value b) h.1 ∙ o.1 in (
      _,
      ap (λ (z : Outcome Bytes). and_then z (λ s. put_outcome s f sen csn.value b room)) w.1
          ∙ one_more e r t w.0 w.1 h.0 (offered_set f sen csn.value b) o.0 f (master_of csn.value) room c h.1 h.2.in_roster_lem h.3,
    )
goes e r k (notice t f m n room) h =
    let w = goes e r k t h.0 in
    let o = h.2.well_formed_lem in
    let c : offered_notice f m n ≡ Some o.0 = ap (λ (g : ℕ). offered_notice g m n) h.1 ∙ o.1 in (
      _,
      ap (λ (z : Outcome Bytes). and_then z (λ s. notice_outcome s f m n room)) w.1
          ∙ one_more e r t w.0 w.1 h.0 (offered_notice f m n) o.0 f m room c h.1 h.2.in_roster_lem h.3,
    )
goes e r k (join t u room) h =
    let w = goes e r k t h.0 in
    let v = goes e r k u h.1 in (
      _,
      ap₂ (λ (y z : Outcome Bytes). and_then y (λ a. and_then z (λ b. join_outcome a b room))) w.1 v.1
          ∙ join_goes w.0 v.0 (gathered_in t) (gathered_in u) room
          (tree_read e r t w.0 w.1 h.0) (tree_read e r u v.0 v.1 h.1)
          (sym (tree_epoch e r t w.0 w.1 h.0) ∙ tree_epoch e r u v.0 v.1 h.1)
          (sym (tree_roster e r t w.0 w.1 h.0) ∙ tree_roster e r u v.0 v.1 h.1) h.2,
    )
goes e r k (given b p) h = (b, refl)

-- GATHERING NEVER GETS STUCK
pub never_stuck : (e r : ℕ) → Head e r → (t : Tree) → FairTree e r t → ends paper t ≡ done (sheet_bytes (gathered_in t))
never_stuck e r k t f = let w = goes e r k t f in w.1 ∙ ap done (demand_3 t w.0 w.1)
