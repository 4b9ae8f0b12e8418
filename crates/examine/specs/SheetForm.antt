-- What a program tests of the bytes of a sheet and of an offered set, by places, in the order in which `sets_in` and `records_in` walk.
-- proofs/RecordsBy and proofs/SheetBy say that these tests decide the paper's `are_records` and `is_sheet`.
use Rattle.std.specs.Prelude.{ℕ, zero, suc, ◌+◌, ◌*◌, ◌/◌, ◌%◌, ◌<◌, ◌≡◌, Bool, true, not, List, [], ◌∷◌, length, get_or, leb, ltb, eqb}
use Rattle.words.specs.Words.{Bytes, word, part}
use Rattle.rules.specs.Lists.{◌and◌, ◌or◌, all, count}
use Rattle.rules.specs.Numbers.{master_of}
use Rattle.rules.specs.Sheet.{no_notice, max_sets, max_records, delete, masters, in_roster, is_kind, sound_notice}

-- ---- records

-- three zero bytes follow a record's kind
unfoldable pub zeros : Bytes → ℕ → Bool
zeros b at = eqb 0 (get_or b (at + 1) 0) and eqb 0 (get_or b (at + 2) 0) and eqb 0 (get_or b (at + 3) 0)

-- the record at a place, its key above `prev`
unfoldable pub record_ok : ℕ → Bytes → ℕ → Bool
record_ok prev b at =
    is_kind (get_or b at 0) and zeros b at and ltb prev (word 4 b (at + 4)) and (not (eqb (get_or b at 0) delete) or eqb (word 8 b (at + 8)) 0)

-- n records from a place on, their keys strictly ascending from above `prev`
unfoldable pub body_ok : ℕ → ℕ → Bytes → ℕ → Bool
body_ok zero prev b at = true
body_ok (suc n) prev b at = record_ok prev b at and body_ok n (word 4 b (at + 4)) b (at + 16)

-- one to eight whole records
unfoldable pub records_ok : Bytes → Bool
records_ok b =
    eqb (length b % 16) 0 and leb 1 (length b / 16) and leb (length b / 16) max_records and body_ok (length b / 16) 0 b 0

-- ---- sets

-- how many records the set has whose contents entry is at c
abbrev pub count_at : Bytes → ℕ → ℕ
count_at b c = word 2 b (c + 14)

-- that entry, where `first` records stand before the set's: sen at most the epoch, its master in the roster, one to eight records
unfoldable pub entry_ok : ℕ → Bytes → ℕ → Bool
entry_ok first b c =
    leb (word 4 b (c + 8)) (word 4 b 0) and in_roster (word 2 b 4) (master_of (word 8 b c))
    and eqb first (word 2 b (c + 12)) and leb 1 (count_at b c) and leb (count_at b c) max_records

-- a csn is above that of the set before, `prev`; before the first set stands no record
unfoldable pub above : ℕ → ℕ → ℕ → Bool
above first prev csn = eqb first 0 or ltb prev csn

-- the set whose entry is at c and whose body is at a place
unfoldable pub set_ok : ℕ → ℕ → Bytes → ℕ → ℕ → Bool
set_ok first prev b c at =
    above first prev (word 8 b c) and entry_ok first b c and leb (at + 16 * count_at b c) (length b) and body_ok (count_at b c) 0 b at

-- n sets, whose contents start at c and whose bodies start at a place; the bytes end where the last body does
unfoldable pub sets_ok : ℕ → ℕ → ℕ → Bytes → ℕ → ℕ → Bool
sets_ok first prev zero b c at = eqb at (length b)
sets_ok first prev (suc n) b c at =
    set_ok first prev b c at and sets_ok (first + count_at b c) (word 8 b c) n b (c + 16) (at + 16 * count_at b c)

-- the csns of n sets whose contents start at c
unfoldable pub csns_in : ℕ → Bytes → ℕ → List ℕ
csns_in zero b c = []
csns_in (suc n) b c = word 8 b c ∷ csns_in n b (c + 16)

-- how many of the csns are a master's
unfoldable pub sets_by : ℕ → List ℕ → ℕ
sets_by m csns = count (λ x. eqb (master_of x) m) csns

-- sixteen counters say how many of the first n sets each master has
abbrev pub Counted : ℕ → Bytes → List ℕ → Type 0
Counted n b by = (m : ℕ) → m < 16 → get_or by m 0 ≡ sets_by m (csns_in n b 24)

-- ---- the head

-- how many sets
abbrev pub set_count : Bytes → ℕ
set_count b = get_or b 7 0

-- no master has a notice
unfoldable pub none_noticed : Bytes → Bool
none_noticed b = all (λ n. eqb n no_notice) (part b 8 16)

-- state 0 or 1, and at 1 no set and no notice
unfoldable pub state_ok : Bytes → Bool
state_ok b = leb (get_or b 6 0) 1 and (not (eqb (get_or b 6 0) 1) or eqb (set_count b) 0 and none_noticed b)

-- an epoch, a roster, the state, and at most 64 sets; the notices are held against the sets
unfoldable pub head_ok : Bytes → Bool
head_ok b = leb 1 (word 4 b 0) and leb 1 (word 2 b 4) and state_ok b and leb (set_count b) max_sets

-- master m's notice
unfoldable pub notice_ok : Bytes → ℕ → Bool
notice_ok b m = sound_notice (word 2 b 4) m (get_or b (8 + m) 0) (sets_by m (csns_in (set_count b) b 24))

-- the whole sheet
unfoldable pub sheet_ok : Bytes → Bool
sheet_ok b =
    leb 24 (length b) and head_ok b and leb (24 + 16 * set_count b) (length b)
    and sets_ok 0 0 (set_count b) b 24 (24 + 16 * set_count b)
    and all (notice_ok b) masters
