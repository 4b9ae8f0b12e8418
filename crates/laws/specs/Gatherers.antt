-- Demand 3 asked of any four operations: those of document 01 meet it, and three wrong versions do not, each on the example that
-- document 01 names. The wrong ones refuse just what the paper refuses, and write another sheet.
use Rattle.std.specs.Prelude.{ℕ, ◌≡◌, refl, Bool, not, List, [], ◌∷◌, ◌++◌, length, get_or, eqb, if◌then◌else◌}
use Rattle.std.proofs.Common.{◌∙◌, ap, arith}
use Rattle.words.specs.Words.{Bytes}
use Rattle.rules.specs.Lists.{any}
use Rattle.rules.specs.Sheet.{Sheet, change, masters, sets_of, allows, records_bytes, offered_records, sheet_bytes, sheet_in}
use Rattle.rules.specs.Gathering.{Offer, a_set, a_notice, sets_among, notices_among, notice_of, spoiled_sheet, offers_of}
use Rattle.rules.specs.Refused.{Outcome, refused, done, sheet_room, open_outcome, put_outcome, notice_outcome, join_outcome, run_refused}
use Rattle.laws.specs.FormLaws.{→fits}
use Rattle.laws.specs.Trees.{Tree, opened, put, notice, Gatherer, paper, ends, gathered_in, run_trees}
use Rattle.laws.specs.Demand3.{demand_3}

-- demand 3 on one tree: if the paper does not refuse it, it ends in the sheet of its offers
abbrev pub AsksOn : Gatherer → Tree → Type 0
AsksOn c t = (b : Bytes) → ends paper t ≡ done b → ends c t ≡ done (sheet_bytes (gathered_in t))

-- DEMAND 3: so on every tree
abbrev pub Demand3 : Gatherer → Type 0
Demand3 c = (t : Tree) → AsksOn c t

-- THE OPERATIONS OF DOCUMENT 01 MEET IT
pub paper_meets : Demand3 paper
paper_meets t b p = p ∙ ap done (demand_3 t b p)

-- refused where the paper refuses, else this sheet
unfoldable pub writing : Outcome Bytes → Sheet → Outcome Bytes
writing (refused n) s = refused n
writing (done b) s = done (sheet_bytes s)

-- the spoiled sheet of the epoch and the roster that these bytes have
unfoldable pub spoiled_for : Bytes → Sheet
spoiled_for b = spoiled_sheet (sheet_in b).epoch (sheet_in b).roster

-- ALWAYS SPOILED
abbrev pub always_spoiled : Gatherer
always_spoiled = record {
  opens = λ e r room. writing (open_outcome e r room) (spoiled_sheet e r);
  puts = λ s e sen csn b room. writing (put_outcome s e sen csn b room) (spoiled_for s);
  notices = λ s e m n room. writing (notice_outcome s e m n room) (spoiled_for s);
  joins = λ a b room. writing (join_outcome a b room) (spoiled_for a);
}

-- a sheet with no offer in it
unfoldable pub is_blank : Bytes → Bool
is_blank b = eqb (length (offers_of (sheet_in b))) 0

-- the outcome where the sheet has no offer yet, else that sheet again
unfoldable pub repeated : Bytes → Outcome Bytes → Outcome Bytes
repeated s o = if is_blank s then o else writing o (sheet_in s)

-- GATHERING THE FIRST OFFER AND THEN ONLY REPEATING THAT SHEET
abbrev pub first_offer : Gatherer
first_offer = record {
  opens = open_outcome;
  puts = λ s e sen csn b room. repeated s (put_outcome s e sen csn b room);
  notices = λ s e m n room. repeated s (notice_outcome s e m n room);
  joins = λ a b room. repeated a (join_outcome a b room);
}

-- a master has more deliveries than its notice
unfoldable pub over_delivered : List Offer → Bool
over_delivered os = any (λ m. not (allows (notice_of m (notices_among os)) (sets_of m (sets_among os)))) masters

-- spoiled where the sheet and these offers are over a notice in deliveries, else the outcome
unfoldable pub delivered : Bytes → List Offer → Outcome Bytes → Outcome Bytes
delivered s os o = if over_delivered (offers_of (sheet_in s) ++ os) then writing o (spoiled_for s) else o

-- COUNTING DELIVERIES AS SETS: a repeat of a set counts again against its master's notice
abbrev pub counts_deliveries : Gatherer
counts_deliveries = record {
  opens = open_outcome;
  puts = λ s e sen csn b room. delivered s (a_set (record { csn = csn; sen = sen; records = offered_records b }) ∷ []) (put_outcome s e sen csn b room);
  notices = λ s e m n room. delivered s (a_notice (record { master = m; number = n }) ∷ []) (notice_outcome s e m n room);
  joins = λ a b room. delivered a (offers_of (sheet_in b)) (join_outcome a b room);
}

-- the examples' sheet: epoch 1, roster 40 (masters 3 and 5)
abbrev start : Tree
start = opened (record { value = 1; fit = →fits 4 1 (omega arith) }) (record { value = 40; fit = →fits 2 40 (omega arith) }) sheet_room

-- csn 3 changes 10 to 6
abbrev put_three : Tree → Tree
put_three t = put t 1 1 (record { value = 3; fit = →fits 8 3 (omega arith) }) (records_bytes (record { kind = change; key = 10; value = 6 } ∷ [])) sheet_room

-- csn 5 changes 10 to 2
abbrev put_five : Tree → Tree
put_five t = put t 1 1 (record { value = 5; fit = →fits 8 5 (omega arith) }) (records_bytes (record { kind = change; key = 10; value = 2 } ∷ [])) sheet_room

-- A: both, and the notices that say so
abbrev pub example_a : Tree
example_a = notice (notice (put_five (put_three start)) 1 3 1 sheet_room) 1 5 1 sheet_room

-- G: one set put twice
abbrev pub example_g : Tree
example_g = put_three (put_three start)

-- G with notice 1
abbrev pub example_g1 : Tree
example_g1 = put_three (put_three (notice start 1 3 1 sheet_room))

-- a byte of what is written
abbrev byte_of : ℕ → Outcome Bytes → ℕ
byte_of i (refused n) = 0
byte_of i (done b) = get_or b i 0

-- the state byte 1 is not 0
pub spoiled_on_G : AsksOn always_spoiled example_g → ⊥
unfolding run_refused run_trees writing spoiled_for
spoiled_on_G d = let z : ◌≡◌ {A = ℕ} 1 0 = ap (byte_of 6) (d _ refl) in omega arith

pub always_spoiled_fails : Demand3 always_spoiled → ⊥
always_spoiled_fails d = spoiled_on_G (d example_g)

-- one set is not two
pub first_offer_on_A : AsksOn first_offer example_a → ⊥
unfolding run_refused run_trees writing is_blank repeated
first_offer_on_A d = let z : ◌≡◌ {A = ℕ} 1 2 = ap (byte_of 7) (d _ refl) in omega arith

pub first_offer_fails : Demand3 first_offer → ⊥
first_offer_fails d = first_offer_on_A (d example_a)

-- the state byte 1 is not 0
pub deliveries_on_G1 : AsksOn counts_deliveries example_g1 → ⊥
unfolding run_refused run_trees writing spoiled_for over_delivered delivered
deliveries_on_G1 d = let z : ◌≡◌ {A = ℕ} 1 0 = ap (byte_of 6) (d _ refl) in omega arith

pub deliveries_fail : Demand3 counts_deliveries → ⊥
deliveries_fail d = deliveries_on_G1 (d example_g1)
