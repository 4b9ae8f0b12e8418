-- Depots that gathered the same offers close alike, each with buffers of its own: how long they are makes no difference, if they are long
-- enough.
use Rattle.std.specs.Prelude.{ℕ, ◌≤◌, ◌≡◌, refl, Option, None, Some}
use Rattle.std.proofs.Common.{sym, ◌∙◌, ap, le-ltb}
use Rattle.words.specs.Words.{Bytes}
use Rattle.rules.specs.Lists.{◌or◌}
use Rattle.rules.specs.Register.{Register, read_register}
use Rattle.rules.specs.Sheet.{Sheet, read_sheet}
use Rattle.rules.specs.Refused.{done, register_room, verdict_room, close_sheet, close_outcome}
use Rattle.laws.specs.Trees.{Tree, paper, ends, epoch_of, roster_of}
use Rattle.laws.specs.SameBytes.{SameOffers, same_ended}

-- buffers that are long enough for closing: 28,680 for the next register, 320 for the verdicts
pub record LongEnough (next_room room : ℕ) : Type 0 where
  pub for_register : register_room ≤ next_room
  pub for_verdicts : verdict_room ≤ room

-- such buffers do what the shortest such ones do
shortest : (g : Option Register) (s : Option Sheet) (n m : ℕ) → LongEnough n m → close_sheet g s n m ≡ close_sheet g s register_room verdict_room
unfolding close_sheet ◌or◌
shortest None s n m l = refl
shortest (Some g) None n m l = refl
shortest (Some g) (Some s) n m l = simp (le-ltb n register_room l.for_register, le-ltb m verdict_room l.for_verdicts)

-- CLOSING DOES NOT DEPEND ON HOW LONG THE BUFFERS ARE, IF THEY ARE LONG ENOUGH
pub rooms_alike : (g a : Bytes) (n m n' m' : ℕ) → LongEnough n m → LongEnough n' m' → close_outcome g a n m ≡ close_outcome g a n' m'
unfolding close_outcome
rooms_alike g a n m n' m' l k = shortest (read_register g) (read_sheet a) n m l ∙ sym (shortest (read_register g) (read_sheet a) n' m' k)

-- the same of trees that are not refused
pub same_ended_closing : (t u : Tree) (a b : Bytes) → ends paper t ≡ done a → ends paper u ≡ done b
    → epoch_of t ≡ epoch_of u → roster_of t ≡ roster_of u → SameOffers t u
    → (g : Bytes) (n m n' m' : ℕ) → LongEnough n m → LongEnough n' m' → close_outcome g a n m ≡ close_outcome g b n' m'
same_ended_closing t u a b p q c d h g n m n' m' l o =
    ap (λ (x : Bytes). close_outcome g x n m) (same_ended t u a b p q c d h) ∙ rooms_alike g b n m n' m' l o
