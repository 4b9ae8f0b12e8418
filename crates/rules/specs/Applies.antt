-- Document 01, the table of 'What is refused', and document 02's refusals, row by row: when each refusal applies to what an operation is
-- asked, whatever else applies. What a row says of a sheet, a register or an open set is meant of the one that the bytes stand for, and of a
-- key of the one that the tag has; where they are none, 2, 1, 3 or 11 applies.
use Rattle.std.specs.Prelude.{ℕ, ◌+◌, ◌<◌, ◌≡◌, Bool, true, false, not, List, length, get_or, leb, ltb, eqb, Option, None, Some}
use Rattle.words.specs.Words.{Bytes}
use Rattle.rules.specs.declared.row.Read.{Read}
use Rattle.rules.specs.declared.desk.OpenSet.{OpenSet}
use Rattle.rules.specs.declared.answer.Refusal.{Refusal}
use Rattle.rules.specs.declared.answer.Refusal.TheVariants.{RegisterIllFormed, SheetIllFormed, OfferIllFormed, WrongEpoch, WrongRoster, Spoiled, Incomplete, TooManyRows, BufferShort, CheckIllFormed, BadTag, KeyEntered, NinthRecord}
use Rattle.rules.specs.Lists.{◌and◌, ◌or◌, any}
use Rattle.rules.specs.Numbers.{master_of}
use Rattle.rules.specs.Register.{max_rows, register_in, is_register}
use Rattle.rules.specs.Sheet.{Sheet, no_notice, max_sets, max_records, masters, in_roster, is_kind, sound_value, sets_of, sheet_in, is_sheet, are_records}
use Rattle.rules.specs.Tag.{tag_room, is_key, is_tag, key_in}
use Rattle.rules.specs.OpenSet.{is_open_set, open_records, has_key}
use Rattle.rules.specs.Becoming.{next}
use Rattle.rules.specs.ReadCheck.{read_committed, repeatable_read, snapshot_isolation}
use Rattle.rules.specs.Answers.{refusal_number}
use Rattle.rules.specs.Refused.{Outcome, refused, done, sheet_room, register_room, verdict_room, max_reads, run_refused}

-- what an operation is asked, the lengths of the lent buffers last
pub data Asked : Type 0 where
  -- epoch, roster
  to_open : ℕ → ℕ → ℕ → Asked
  -- a sheet; epoch, sen, csn, record bytes
  to_put : Bytes → ℕ → ℕ → ℕ → Bytes → ℕ → Asked
  -- a sheet; epoch, master, count
  to_notice : Bytes → ℕ → ℕ → ℕ → ℕ → Asked
  -- two sheets
  to_join : Bytes → Bytes → ℕ → Asked
  -- a register, a sheet; the length for the next register, and for the verdicts
  to_close : Bytes → Bytes → ℕ → ℕ → Asked
  -- a register; mode, lsn, and the entries, none for two lists of unequal length
  to_check : Bytes → ℕ → ℕ → Option (List Read) → Asked
  -- an open set; kind, tag, value
  to_enter : OpenSet → ℕ → Bytes → ℕ → Asked
  -- an open set, a sheet; epoch, sen, csn
  to_offer : OpenSet → Bytes → ℕ → ℕ → ℕ → ℕ → Asked
  -- a key
  to_tag : ℕ → ℕ → Asked

-- 1: register ill-formed
unfoldable pub bad_register : Asked → Bool
bad_register (to_open epoch roster room) = false
bad_register (to_put sheet epoch sen csn b room) = false
bad_register (to_notice sheet epoch master n room) = false
bad_register (to_join a b room) = false
bad_register (to_close register sheet next_room room) = not (is_register register)
bad_register (to_check register mode lsn es) = not (is_register register)
bad_register (to_enter o kind tag value) = false
bad_register (to_offer o sheet epoch sen csn room) = false
bad_register (to_tag key room) = false

-- 2: sheet ill-formed
unfoldable pub bad_sheet : Asked → Bool
bad_sheet (to_open epoch roster room) = false
bad_sheet (to_put sheet epoch sen csn b room) = not (is_sheet sheet)
bad_sheet (to_notice sheet epoch master n room) = not (is_sheet sheet)
bad_sheet (to_join a b room) = not (is_sheet a) or not (is_sheet b)
bad_sheet (to_close register sheet next_room room) = not (is_sheet sheet)
bad_sheet (to_check register mode lsn es) = false
bad_sheet (to_enter o kind tag value) = false
bad_sheet (to_offer o sheet epoch sen csn room) = not (is_sheet sheet)
bad_sheet (to_tag key room) = false

-- 3: offered set or notice ill-formed. A set: epoch 0, sen above epoch, or not 1 to 8 whole records; a notice: epoch 0, master above 15, count above 64.
-- Enter: open set, kind or value ill-formed; offer: its set is the open one, ill-formed or empty it is no set
unfoldable pub bad_offer : Asked → Bool
bad_offer (to_open epoch roster room) = false
bad_offer (to_put sheet epoch sen csn b room) = eqb epoch 0 or ltb epoch sen or not (are_records b)
bad_offer (to_notice sheet epoch master n room) = eqb epoch 0 or ltb 15 master or ltb max_sets n
bad_offer (to_join a b room) = false
bad_offer (to_close register sheet next_room room) = false
bad_offer (to_check register mode lsn es) = false
bad_offer (to_enter o kind tag value) = not (is_open_set o) or not (is_kind kind) or not (sound_value kind value)
bad_offer (to_offer o sheet epoch sen csn room) = eqb epoch 0 or ltb epoch sen or not (is_open_set o and leb 1 o.count)
bad_offer (to_tag key room) = false

-- 4: open: epoch 0; put, notice, join, offer: epochs differ; close: epoch is not s + 1
unfoldable pub wrong_epoch : Asked → Bool
wrong_epoch (to_open epoch roster room) = eqb epoch 0
wrong_epoch (to_put sheet epoch sen csn b room) = not (eqb epoch (sheet_in sheet).epoch)
wrong_epoch (to_notice sheet epoch master n room) = not (eqb epoch (sheet_in sheet).epoch)
wrong_epoch (to_join a b room) = not (eqb (sheet_in a).epoch (sheet_in b).epoch)
wrong_epoch (to_close register sheet next_room room) = not (eqb (sheet_in sheet).epoch ((register_in register).snapshot + 1))
wrong_epoch (to_check register mode lsn es) = false
wrong_epoch (to_enter o kind tag value) = false
wrong_epoch (to_offer o sheet epoch sen csn room) = not (eqb epoch (sheet_in sheet).epoch)
wrong_epoch (to_tag key room) = false

-- 5: open: roster 0; put, notice, offer: master not in roster; join: rosters differ
unfoldable pub wrong_roster : Asked → Bool
wrong_roster (to_open epoch roster room) = eqb roster 0
wrong_roster (to_put sheet epoch sen csn b room) = not (in_roster (sheet_in sheet).roster (master_of csn))
wrong_roster (to_notice sheet epoch master n room) = not (in_roster (sheet_in sheet).roster master)
wrong_roster (to_join a b room) = not (eqb (sheet_in a).roster (sheet_in b).roster)
wrong_roster (to_close register sheet next_room room) = false
wrong_roster (to_check register mode lsn es) = false
wrong_roster (to_enter o kind tag value) = false
wrong_roster (to_offer o sheet epoch sen csn room) = not (in_roster (sheet_in sheet).roster (master_of csn))
wrong_roster (to_tag key room) = false

-- 6: close: sheet spoiled
unfoldable pub spoiled_there : Asked → Bool
spoiled_there (to_open epoch roster room) = false
spoiled_there (to_put sheet epoch sen csn b room) = false
spoiled_there (to_notice sheet epoch master n room) = false
spoiled_there (to_join a b room) = false
spoiled_there (to_close register sheet next_room room) = (sheet_in sheet).spoiled
spoiled_there (to_check register mode lsn es) = false
spoiled_there (to_enter o kind tag value) = false
spoiled_there (to_offer o sheet epoch sen csn room) = false
spoiled_there (to_tag key room) = false

-- master m has no notice, or fewer sets than it says
unfoldable pub owes : Sheet → ℕ → Bool
owes s m = eqb (get_or s.notices m no_notice) no_notice or ltb (sets_of m s.sets) (get_or s.notices m no_notice)

-- 7: close: a roster master has no notice, or fewer sets than it says
unfoldable pub incomplete : Asked → Bool
incomplete (to_open epoch roster room) = false
incomplete (to_put sheet epoch sen csn b room) = false
incomplete (to_notice sheet epoch master n room) = false
incomplete (to_join a b room) = false
incomplete (to_close register sheet next_room room) = any (λ m. in_roster (sheet_in sheet).roster m and owes (sheet_in sheet) m) masters
incomplete (to_check register mode lsn es) = false
incomplete (to_enter o kind tag value) = false
incomplete (to_offer o sheet epoch sen csn room) = false
incomplete (to_tag key room) = false

-- 8: close: next register would have over 1,024 rows
unfoldable pub too_many_rows : Asked → Bool
too_many_rows (to_open epoch roster room) = false
too_many_rows (to_put sheet epoch sen csn b room) = false
too_many_rows (to_notice sheet epoch master n room) = false
too_many_rows (to_join a b room) = false
too_many_rows (to_close register sheet next_room room) = ltb max_rows (length (next (register_in register) (sheet_in sheet)).rows)
too_many_rows (to_check register mode lsn es) = false
too_many_rows (to_enter o kind tag value) = false
too_many_rows (to_offer o sheet epoch sen csn room) = false
too_many_rows (to_tag key room) = false

-- 9: an output buffer shorter than 9,240 (sheet), 28,680 (register), 320 (verdicts), 11 (tag)
unfoldable pub buffer_short : Asked → Bool
buffer_short (to_open epoch roster room) = ltb room sheet_room
buffer_short (to_put sheet epoch sen csn b room) = ltb room sheet_room
buffer_short (to_notice sheet epoch master n room) = ltb room sheet_room
buffer_short (to_join a b room) = ltb room sheet_room
buffer_short (to_close register sheet next_room room) = ltb next_room register_room or ltb room verdict_room
buffer_short (to_check register mode lsn es) = false
buffer_short (to_enter o kind tag value) = false
buffer_short (to_offer o sheet epoch sen csn room) = ltb room sheet_room
buffer_short (to_tag key room) = ltb room tag_room

-- of the entries: a key 0, or over 32; two lists of unequal length give none
unfoldable pub bad_entries : Option (List Read) → Bool
bad_entries None = true
bad_entries (Some es) = any (λ e. eqb e.key 0) es or ltb max_reads (length es)

-- 10: read check: mode not 1 to 3, a key 0, over 32 entries, or (in every mode) lsn above the snapshot
unfoldable pub bad_read_check : Asked → Bool
bad_read_check (to_open epoch roster room) = false
bad_read_check (to_put sheet epoch sen csn b room) = false
bad_read_check (to_notice sheet epoch master n room) = false
bad_read_check (to_join a b room) = false
bad_read_check (to_close register sheet next_room room) = false
bad_read_check (to_check register mode lsn es) =
    not (eqb mode read_committed or eqb mode repeatable_read or eqb mode snapshot_isolation)
    or bad_entries es
    or ltb (register_in register).snapshot lsn
bad_read_check (to_enter o kind tag value) = false
bad_read_check (to_offer o sheet epoch sen csn room) = false
bad_read_check (to_tag key room) = false

-- 11: enter: bad tag or key out of range; tag: key out of range
unfoldable pub bad_tag : Asked → Bool
bad_tag (to_open epoch roster room) = false
bad_tag (to_put sheet epoch sen csn b room) = false
bad_tag (to_notice sheet epoch master n room) = false
bad_tag (to_join a b room) = false
bad_tag (to_close register sheet next_room room) = false
bad_tag (to_check register mode lsn es) = false
bad_tag (to_enter o kind tag value) = not (is_tag tag)
bad_tag (to_offer o sheet epoch sen csn room) = false
bad_tag (to_tag key room) = not (is_key key)

-- 12: enter: key already in the open set
unfoldable pub key_entered : Asked → Bool
key_entered (to_open epoch roster room) = false
key_entered (to_put sheet epoch sen csn b room) = false
key_entered (to_notice sheet epoch master n room) = false
key_entered (to_join a b room) = false
key_entered (to_close register sheet next_room room) = false
key_entered (to_check register mode lsn es) = false
key_entered (to_enter o kind tag value) = has_key (key_in tag) (open_records o)
key_entered (to_offer o sheet epoch sen csn room) = false
key_entered (to_tag key room) = false

-- 13: enter: a ninth record
unfoldable pub ninth_record : Asked → Bool
ninth_record (to_open epoch roster room) = false
ninth_record (to_put sheet epoch sen csn b room) = false
ninth_record (to_notice sheet epoch master n room) = false
ninth_record (to_join a b room) = false
ninth_record (to_close register sheet next_room room) = false
ninth_record (to_check register mode lsn es) = false
ninth_record (to_enter o kind tag value) = leb max_records (length (open_records o))
ninth_record (to_offer o sheet epoch sen csn room) = false
ninth_record (to_tag key room) = false

-- THE REFUSAL APPLIES TO WHAT IS ASKED
unfoldable pub applies : Refusal → Asked → Bool
applies RegisterIllFormed = bad_register
applies SheetIllFormed = bad_sheet
applies OfferIllFormed = bad_offer
applies WrongEpoch = wrong_epoch
applies WrongRoster = wrong_roster
applies Spoiled = spoiled_there
applies Incomplete = incomplete
applies TooManyRows = too_many_rows
applies BufferShort = buffer_short
applies CheckIllFormed = bad_read_check
applies BadTag = bad_tag
applies KeyEntered = key_entered
applies NinthRecord = ninth_record

-- the order in which refusals are given: document 01's by their numbers, counted in tens, and the desk's 11, 12 and 13 behind 3
abbrev pub turn_of : Refusal → ℕ
turn_of RegisterIllFormed = 10
turn_of SheetIllFormed = 20
turn_of OfferIllFormed = 30
turn_of BadTag = 31
turn_of KeyEntered = 32
turn_of NinthRecord = 33
turn_of WrongEpoch = 40
turn_of WrongRoster = 50
turn_of Spoiled = 60
turn_of Incomplete = 70
turn_of TooManyRows = 80
turn_of BufferShort = 90
turn_of CheckIllFormed = 100

-- it applies, and none that comes before it does
pub record Foremost (q : Asked) (x : Refusal) : Type 0 where
  pub it_applies : applies x q ≡ true
  pub none_before : (y : Refusal) → turn_of y < turn_of x → applies y q ≡ false

-- no refusal applies
abbrev pub NoneApplies : Asked → Type 0
NoneApplies q = (x : Refusal) → applies x q ≡ false

-- what is asked is refused with a number just when that is the foremost that applies; else it is done, with this result
pub record RefusedExactly {A : Type 0} (q : Asked) (o : Outcome A) (result : A) : Type 0 where
  pub refused_when : (x : Refusal) → Foremost q x → o ≡ refused (refusal_number x)
  pub only_when : (n : ℕ) → o ≡ refused n → (x : Refusal) × (n ≡ refusal_number x) × Foremost q x
  pub else_done : NoneApplies q → o ≡ done result
  pub only_else : (a : A) → o ≡ done a → NoneApplies q × (a ≡ result)

-- opens all of these, for a proof by computation
unfoldable pub run_applies : Unit {0}
unfolding run_refused bad_register bad_sheet bad_offer wrong_epoch wrong_roster spoiled_there owes incomplete too_many_rows buffer_short bad_entries bad_read_check bad_tag key_entered ninth_record applies
run_applies = tt
