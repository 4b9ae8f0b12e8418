-- How a sheet may come about: opened or given, handed sets and notices, joined, in any order and grouping. A tree says what is asked of
-- the operations, in the very numbers and bytes that a caller gives; a refusal anywhere ends it with that refusal.
use Rattle.std.specs.Prelude.{ℕ, ◌≡◌, Bool, true, false, List, [], ◌∷◌, ◌++◌, if◌then◌else◌}
use Rattle.words.specs.Words.{Bytes}
use Rattle.rules.specs.Lists.{◌and◌, ◌or◌}
use Rattle.rules.specs.Numbers.{fits}
use Rattle.rules.specs.Sheet.{Sheet, offered_records, sheet_in, is_sheet}
use Rattle.rules.specs.Gathering.{Offer, a_set, a_notice, spoiled_sheet, gathered, offers_of}
use Rattle.rules.specs.Refused.{Outcome, refused, done, open_outcome, put_outcome, notice_outcome, join_outcome}

-- a number of n bytes: a caller's u16, u32 or u64
pub record Number (n : ℕ) : Type 0 where
  pub value : ℕ
  pub fit : fits n value ≡ true

-- the operations with what a caller gives, the length of the lent buffer last; a width stands where no test of the operation bounds the number
pub data Tree : Type 0 where
  -- epoch, roster
  opened : Number 4 → Number 2 → ℕ → Tree
  -- a sheet; epoch, sen, csn, record bytes
  put : Tree → ℕ → ℕ → Number 8 → Bytes → ℕ → Tree
  -- a sheet; epoch, master, count
  notice : Tree → ℕ → ℕ → ℕ → ℕ → Tree
  -- two sheets
  join : Tree → Tree → ℕ → Tree
  -- a sheet that came from elsewhere, its bytes examined
  given : (b : Bytes) → is_sheet b ≡ true → Tree

-- four operations that gather: from what they are given and the buffer's length to what they write
pub record Gatherer : Type 0 where
  pub opens : ℕ → ℕ → ℕ → Outcome Bytes
  pub puts : Bytes → ℕ → ℕ → ℕ → Bytes → ℕ → Outcome Bytes
  pub notices : Bytes → ℕ → ℕ → ℕ → ℕ → Outcome Bytes
  pub joins : Bytes → Bytes → ℕ → Outcome Bytes

-- those of document 01
abbrev pub paper : Gatherer
paper = record { opens = open_outcome; puts = put_outcome; notices = notice_outcome; joins = join_outcome }

-- what follows on an outcome's bytes; a refusal stays
unfoldable pub and_then : Outcome Bytes → (Bytes → Outcome Bytes) → Outcome Bytes
and_then (refused n) f = refused n
and_then (done b) f = f b

-- what a gatherer ends in, each operation on the bytes that its subtrees ended in
unfoldable pub ends : Gatherer → Tree → Outcome Bytes
ends c (opened e r room) = c.opens e.value r.value room
ends c (put t e sen csn b room) = and_then (ends c t) (λ s. c.puts s e sen csn.value b room)
ends c (notice t e m n room) = and_then (ends c t) (λ s. c.notices s e m n room)
ends c (join t u room) = and_then (ends c t) (λ a. and_then (ends c u) (λ b. c.joins a b room))
ends c (given b p) = done b

-- every offer that went in, those of the given sheets among them
unfoldable pub offers_in : Tree → List Offer
offers_in (opened e r room) = []
offers_in (put t e sen csn b room) = offers_in t ++ (a_set (record { csn = csn.value; sen = sen; records = offered_records b }) ∷ [])
offers_in (notice t e m n room) = offers_in t ++ (a_notice (record { master = m; number = n }) ∷ [])
offers_in (join t u room) = offers_in t ++ offers_in u
offers_in (given b p) = offers_of (sheet_in b)

-- the epoch of the first sheet that it began at
unfoldable pub epoch_of : Tree → ℕ
epoch_of (opened e r room) = e.value
epoch_of (put t e sen csn b room) = epoch_of t
epoch_of (notice t e m n room) = epoch_of t
epoch_of (join t u room) = epoch_of t
epoch_of (given b p) = (sheet_in b).epoch

-- the roster of the first sheet that it began at
unfoldable pub roster_of : Tree → ℕ
roster_of (opened e r room) = r.value
roster_of (put t e sen csn b room) = roster_of t
roster_of (notice t e m n room) = roster_of t
roster_of (join t u room) = roster_of t
roster_of (given b p) = (sheet_in b).roster

-- a sheet that it began at was spoiled
unfoldable pub spoiled_in : Tree → Bool
spoiled_in (opened e r room) = false
spoiled_in (put t e sen csn b room) = spoiled_in t
spoiled_in (notice t e m n room) = spoiled_in t
spoiled_in (join t u room) = spoiled_in t or spoiled_in u
spoiled_in (given b p) = (sheet_in b).spoiled

-- every sheet that it began at was opened
unfoldable pub all_opened : Tree → Bool
all_opened (opened e r room) = true
all_opened (put t e sen csn b room) = all_opened t
all_opened (notice t e m n room) = all_opened t
all_opened (join t u room) = all_opened t and all_opened u
all_opened (given b p) = false

-- THE SHEET THAT GATHERING DEFINES FROM A TREE'S OFFERS: spoiled if one that it began at was, else the sheet of all its offers
unfoldable pub gathered_in : Tree → Sheet
gathered_in t = if spoiled_in t then spoiled_sheet (epoch_of t) (roster_of t) else gathered (epoch_of t) (roster_of t) (offers_in t)

-- a tree stands in a tree
pub data Within : Tree → Tree → Type 0 where
  itself : {t : Tree} → Within t t
  under_put : {u t : Tree} {e sen : ℕ} {csn : Number 8} {b : Bytes} {room : ℕ} → Within u t → Within u (put t e sen csn b room)
  under_notice : {u t : Tree} {e m n room : ℕ} → Within u t → Within u (notice t e m n room)
  under_left : {u t v : Tree} {room : ℕ} → Within u t → Within u (join t v room)
  under_right : {u t v : Tree} {room : ℕ} → Within u v → Within u (join t v room)

-- opens all of these, for a proof by computation
unfoldable pub run_trees : Unit {0}
unfolding and_then ends offers_in epoch_of roster_of spoiled_in all_opened gathered_in
run_trees = tt
