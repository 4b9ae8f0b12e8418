-- Fair trees of the same distinct offers end, and in the same bytes.
use Rattle.std.specs.Prelude.{ℕ, ◌≡◌}
use Rattle.std.proofs.Common.{sym, ◌∙◌, ap}
use Rattle.words.specs.Words.{Bytes}
use Rattle.rules.specs.Sheet.{sheet_bytes}
use Rattle.rules.specs.Refused.{done}
use Rattle.laws.specs.GatherSound.{Head}
use Rattle.laws.specs.Trees.{Tree, paper, ends, gathered_in}
use Rattle.laws.specs.FairTrees.{FairTree, fair_head}
use Rattle.laws.specs.SameBytes.{SameOffers, same_gathered}
use Rattle.laws.proofs.NeverStuck.{never_stuck}

-- TREES OF ONE EPOCH, ONE ROSTER AND THE SAME DISTINCT OFFERS END IN THE SAME BYTES
pub same_bytes : (e r : ℕ) → Head e r → (t u : Tree) → FairTree e r t → FairTree e r u → SameOffers t u
    → (b : Bytes) × (ends paper t ≡ done b) × (ends paper u ≡ done b)
same_bytes e r k t u f g h =
    let a = fair_head e r t f in
    let b = fair_head e r u g in
    let w = same_gathered t u (a.0 ∙ sym b.0) (a.1 ∙ sym b.1) h in
    (sheet_bytes (gathered_in t), never_stuck e r k t f, never_stuck e r k u g ∙ ap (λ x. done (sheet_bytes x)) (sym w))
