-- What was joined into a buffer of its own, and copied from there, is joined in place; what is joined is a sheet, and joining refuses with 2, 4 or 5.
use Rattle.std.specs.Prelude.{if◌then◌else◌, Option, None, Some, Ok, Err}
use Prim.Native.Nat.{ℕ}
use mathlib.Core.Path.{◌≡◌, sym, subst, ◌∙◌, ap}
use mathlib.Core.List.{◌++◌}
use mathlib.Core.Bool.{Bool, true, false, not}
use native.Mathlib.Omega.{arith}
use lib.ListN.{length, take, drop, length-take}
use lib.Dec.{eqb}
use Rattle.words.specs.Words.{Bytes}
use Rattle.rules.specs.declared.answer.Refusal.{Refusal}
use Rattle.rules.specs.Answers.{Answer, refusal_number, answer_numbers}
use Rattle.rules.specs.Sheet.{Sheet, is_sheet, read_sheet}
use Rattle.rules.specs.Refused.{Outcome, refused, done, sheet_room, join_sheets, join_outcome}
use Rattle.rules.specs.Promises.{over, Promise}
use Rattle.laws.specs.SheetLaws.{sheet_is}
use Rattle.laws.specs.NotRefused.{refused_not, refused_same, join_sound}
use Rattle.laws.specs.Exactly.{join_exactly}
use Rattle.laws.specs.Meets.{refuses, writes}
use Rattle.laws.specs.Kept.{numbered, kept_done, kept_refused, kept_wrote}
use Rattle.input.specs.Reading.{Holds, Early, sheet, epochs, rosters}

module _ (a b : Bytes) (room : ℕ) {x : Answer} {before after : Bytes} (p : Promise (join_outcome a b room) before x after) where
  -- the bytes that are answered are what was joined
  wrote : (n : ℕ) → x ≡ Ok n → (join_outcome a b room ≡ done (take n after)) × (n ≡ length (take n after))
  wrote n e =
      let k : Promise (join_outcome a b room) before (Ok n) after = rw e at p in
      let d = kept_done (join_outcome a b room) (numbered (join_exactly a b room)) k in
      (d, ap (λ (y : Answer). (answer_numbers y).1) (kept_wrote (join_outcome a b room) d k).0)

  -- a sheet at the start of the buffer
  pub joined_holds : (n : ℕ) → x ≡ Ok n → Holds is_sheet after n
  joined_holds n e =
      let w = wrote n e in
      let s = join_sound a b room (take n after) w.0 in
      record { within = omega (arith, w.1, length-take n after); examined = ap is_sheet s.2 ∙ sheet_is s.0 s.1 }

  -- and copied from there, it is joined in place
  pub joined_in : {l front : Bytes} (n : ℕ) → x ≡ Ok n → front ≡ take n after → Promise (join_outcome a b room) l (Ok n) (front ++ drop n l)
  unfolding over
  joined_in {l} n e q =
      let w = wrote n e in
      writes (join_outcome a b room) (take n after) l _ n w.0 w.1 (rw q (ap (λ (k : ℕ). take n after ++ drop k l) w.1))

  pub not_joined : {l : Bytes} (y : Refusal) → x ≡ Err y → Promise (join_outcome a b room) l (Err y) l
  not_joined {l} y e = refuses (join_outcome a b room) y l (kept_refused (join_outcome a b room) (rw e at p)).0

-- the same of an equal outcome
pub promise_as : {o p : Outcome Bytes} {before after : Bytes} {x : Answer} → o ≡ p → Promise o before x after → Promise p before x after
promise_as e h = rw e at h

-- ---- what joining refuses with

-- a refusal, or what comes after it
tested : {k : ℕ} (t : Bool) (n : ℕ) (x : Outcome Bytes) → Early n → (x ≡ refused k → Early k) → (if t then refused n else x) ≡ refused k → Early k
tested true n x e f p = subst Early (refused_same p) e
tested false n x e f p = f p

join_early : (a b : Bytes) (k : ℕ) → join_outcome a b sheet_room ≡ refused k → Early k
unfolding join_outcome join_sheets
join_early a b k p = go (read_sheet a) (read_sheet b) p
  where
    go : (x y : Option Sheet) → join_sheets x y sheet_room ≡ refused k → Early k
    go None y p = subst Early (refused_same p) sheet
    go (Some s) None p = subst Early (refused_same p) sheet
    go (Some s) (Some t) p =
        tested (not (eqb s.epoch t.epoch)) 4 _ epochs (λ q. tested (not (eqb s.roster t.roster)) 5 _ rosters (λ r. absurd (refused_not (sym r))) q) p

pub join_refusal : (a b : Bytes) {x : Answer} {before after : Bytes} → Promise (join_outcome a b sheet_room) before x after → (y : Refusal) → x ≡ Err y → Early (refusal_number y)
join_refusal a b p y e = join_early a b _ (kept_refused (join_outcome a b sheet_room) (rw e at p)).0
