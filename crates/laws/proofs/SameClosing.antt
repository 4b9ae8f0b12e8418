-- Fair trees of the same distinct offers end, and close alike.
use Rattle.std.specs.Prelude.{ℕ, ◌≡◌}
use Rattle.words.specs.Words.{Bytes}
use Rattle.rules.specs.Refused.{done, close_outcome}
use Rattle.laws.specs.GatherSound.{Head}
use Rattle.laws.specs.Trees.{Tree, paper, ends}
use Rattle.laws.specs.FairTrees.{FairTree}
use Rattle.laws.specs.SameBytes.{SameOffers}
use Rattle.laws.specs.SameClosing.{LongEnough, rooms_alike}
use Rattle.laws.proofs.SameBytes.{same_bytes}

-- SO TREES OF THE SAME DISTINCT OFFERS CLOSE ALIKE FROM ONE REGISTER, TO THE SAME VERDICTS AND REGISTER OR THE SAME REFUSAL
pub same_closing : (e r : ℕ) → Head e r → (t u : Tree) → FairTree e r t → FairTree e r u → SameOffers t u
    → (g : Bytes) (n m n' m' : ℕ) → LongEnough n m → LongEnough n' m'
    → (a : Bytes) × (b : Bytes) × (ends paper t ≡ done a) × (ends paper u ≡ done b) × (close_outcome g a n m ≡ close_outcome g b n' m')
same_closing e r h t u f k s g n m n' m' l o =
    let w = same_bytes e r h t u f k s in
    (w.0, w.0, w.1, w.2, rooms_alike g w.0 n m n' m' l o)
