-- Document 01, 'What is refused', and document 02's refusals: what each operation does with the bytes and numbers it is given and the
-- lengths of the buffers it is lent. The refusals of each are one chain, in the documents' order.
use Rattle.std.specs.Prelude.{ℕ, ◌+◌, Bool, not, List, ◌∷◌, length, ltb, leb, eqb, if◌then◌else◌, Option, None, Some}
use Rattle.words.specs.Words.{Bytes, le}
use Rattle.rules.specs.declared.row.Record.{Record}
use Rattle.rules.specs.declared.row.Read.{Read}
use Rattle.rules.specs.declared.desk.OpenSet.{OpenSet}
use Rattle.rules.specs.declared.answer.Verdict.{Verdict}
use Rattle.rules.specs.Lists.{◌and◌, ◌or◌, any, flat}
use Rattle.rules.specs.Numbers.{master_of}
use Rattle.rules.specs.Register.{Register, max_rows, register_bytes, read_register}
use Rattle.rules.specs.Sheet.{Sheet, max_sets, max_records, in_roster, is_kind, sound_value, sheet_bytes, read_sheet, read_records}
use Rattle.rules.specs.Tag.{run_tag, tag_room, is_key, is_tag, key_in, tag_of}
use Rattle.rules.specs.OpenSet.{run_open_set, open_set_of, is_open_set, open_records, has_key, put_record, offered_bytes}
use Rattle.rules.specs.Gathering.{run_gathering, Offer, a_set, a_notice, empty_sheet, with_offer, joined}
use Rattle.rules.specs.Closing.{complete, verdicts}
use Rattle.rules.specs.Becoming.{run_becoming, next_rows, next}
use Rattle.rules.specs.ReadCheck.{run_read_check, Finding, snapshot_isolation, check_from, reads_of}
use Rattle.rules.specs.Answers.{verdict_code, verdict_key}

-- refused with a number, or done with a result: what is written at the start of the lent buffers, or what the read check finds
pub data Outcome (A : Type 0) : Type 0 where
  refused : ℕ → Outcome A
  done : A → Outcome A

-- the least length of an output buffer for a sheet
abbrev pub sheet_room : ℕ
sheet_room = 9240

-- for a register
abbrev pub register_room : ℕ
register_room = 28680

-- for the verdicts
abbrev pub verdict_room : ℕ
verdict_room = 320

-- the most entries of a read check
abbrev pub max_reads : ℕ
max_reads = 32

-- OPEN
unfoldable pub open_outcome : ℕ → ℕ → ℕ → Outcome Bytes
open_outcome epoch roster room =
    if eqb epoch 0 then refused 4 else
    if eqb roster 0 then refused 5 else
    if ltb room sheet_room then refused 9 else
    done (sheet_bytes (empty_sheet epoch roster))

-- the offered set, or none if it is ill-formed
unfoldable pub set_with : ℕ → ℕ → ℕ → Option (List Record) → Option Offer
set_with epoch sen csn None = None
set_with epoch sen csn (Some rs) =
    if leb 1 epoch and leb sen epoch then Some (a_set (record { csn = csn; sen = sen; records = rs })) else None

-- the same from its record bytes
unfoldable pub offered_set : ℕ → ℕ → ℕ → Bytes → Option Offer
offered_set epoch sen csn b = set_with epoch sen csn (read_records b)

-- the offered notice, or none if it is ill-formed
unfoldable pub offered_notice : ℕ → ℕ → ℕ → Option Offer
offered_notice epoch master n =
    if leb 1 epoch and leb master 15 and leb n max_sets then Some (a_notice (record { master = master; number = n })) else None

-- an offer that a master makes to a sheet in an epoch
unfoldable pub offer_to : Option Sheet → Option Offer → ℕ → ℕ → ℕ → Outcome Bytes
offer_to None o epoch master room = refused 2
offer_to (Some s) None epoch master room = refused 3
offer_to (Some s) (Some o) epoch master room =
    if not (eqb epoch s.epoch) then refused 4 else
    if not (in_roster s.roster master) then refused 5 else
    if ltb room sheet_room then refused 9 else
    done (sheet_bytes (with_offer s o))

-- PUT
unfoldable pub put_outcome : Bytes → ℕ → ℕ → ℕ → Bytes → ℕ → Outcome Bytes
put_outcome sheet epoch sen csn b room = offer_to (read_sheet sheet) (offered_set epoch sen csn b) epoch (master_of csn) room

-- NOTICE
unfoldable pub notice_outcome : Bytes → ℕ → ℕ → ℕ → ℕ → Outcome Bytes
notice_outcome sheet epoch master n room = offer_to (read_sheet sheet) (offered_notice epoch master n) epoch master room

-- joining of two sheets, each of them none if ill-formed
unfoldable pub join_sheets : Option Sheet → Option Sheet → ℕ → Outcome Bytes
join_sheets None b room = refused 2
join_sheets (Some a) None room = refused 2
join_sheets (Some a) (Some b) room =
    if not (eqb a.epoch b.epoch) then refused 4 else
    if not (eqb a.roster b.roster) then refused 5 else
    if ltb room sheet_room then refused 9 else
    done (sheet_bytes (joined a b))

-- JOIN
unfoldable pub join_outcome : Bytes → Bytes → ℕ → Outcome Bytes
join_outcome a b room = join_sheets (read_sheet a) (read_sheet b) room

-- 5 bytes a verdict: code u8, key u32
unfoldable pub verdict_bytes : Verdict → Bytes
verdict_bytes v = verdict_code v ∷ le 4 (verdict_key v)

-- what closing writes into its two buffers
pub record Closing : Type 0 where
  pub register : Bytes
  pub verdicts : Bytes

-- what closing writes of a register and a sheet that nothing refuses
unfoldable pub closing : Register → Sheet → Closing
closing g s = record { register = register_bytes (next g s); verdicts = flat verdict_bytes (verdicts g s) }

-- closing of a register and a sheet, each of them none if ill-formed
unfoldable pub close_sheet : Option Register → Option Sheet → ℕ → ℕ → Outcome Closing
close_sheet None s next_room room = refused 1
close_sheet (Some g) None next_room room = refused 2
close_sheet (Some g) (Some s) next_room room =
    if not (eqb s.epoch (g.snapshot + 1)) then refused 4 else
    if s.spoiled then refused 6 else
    if not (complete s) then refused 7 else
    if ltb max_rows (length (next_rows g s)) then refused 8 else
    if ltb next_room register_room or ltb room verdict_room then refused 9 else
    done (closing g s)

-- CLOSE
unfoldable pub close_outcome : Bytes → Bytes → ℕ → ℕ → Outcome Closing
close_outcome register sheet next_room room = close_sheet (read_register register) (read_sheet sheet) next_room room

-- a mode, lsn and entries that the read check refuses: an unknown mode, a key 0, over 32 entries, lsn above the snapshot
unfoldable pub bad_check : Register → ℕ → ℕ → List Read → Bool
bad_check g mode lsn es =
    not (leb 1 mode and leb mode snapshot_isolation) or any (λ e. eqb e.key 0) es or ltb max_reads (length es) or ltb g.snapshot lsn

-- the read check of a register and entries, each of them none if ill-formed
unfoldable pub check_reads : Option Register → ℕ → ℕ → Option (List Read) → Outcome Finding
check_reads None mode lsn es = refused 1
check_reads (Some g) mode lsn None = refused 10
check_reads (Some g) mode lsn (Some es) = if bad_check g mode lsn es then refused 10 else done (check_from g mode lsn 0 es)

-- READ CHECK, over a list of entries
unfoldable pub reads_outcome : Bytes → ℕ → ℕ → List Read → Outcome Finding
reads_outcome register mode lsn es = check_reads (read_register register) mode lsn (Some es)

-- READ CHECK, over a list of keys and a list of csns; of unequal length they are refused
unfoldable pub check_outcome : Bytes → ℕ → ℕ → List ℕ → List ℕ → Outcome Finding
check_outcome register mode lsn keys csns = check_reads (read_register register) mode lsn (reads_of keys csns)

-- what a clerk types, as a record
abbrev pub record_of : ℕ → ℕ → ℕ → Record
record_of kind key value = record { kind = kind; key = key; value = value }

-- ENTER: 3 open set, kind or value ill-formed, 11 bad tag or key out of range, 12 key already in the open set, 13 a ninth record
unfoldable pub enter_outcome : OpenSet → ℕ → Bytes → ℕ → Outcome OpenSet
enter_outcome o kind tag value =
    if not (is_open_set o) or not (is_kind kind) or not (sound_value kind value) then refused 3 else
    if not (is_tag tag) then refused 11 else
    if has_key (key_in tag) (open_records o) then refused 12 else
    if leb max_records (length (open_records o)) then refused 13 else
    done (open_set_of (put_record (record_of kind (key_in tag) value) (open_records o)))

-- OFFER: put of the open set's records
unfoldable pub offer_outcome : OpenSet → Bytes → ℕ → ℕ → ℕ → ℕ → Outcome Bytes
offer_outcome o sheet epoch sen csn room = put_outcome sheet epoch sen csn (offered_bytes o) room

-- TAG: 11 for a key out of range, then 9 for a buffer under eleven bytes
unfoldable pub tag_outcome : ℕ → ℕ → Outcome Bytes
tag_outcome key room =
    if not (is_key key) then refused 11 else
    if ltb room tag_room then refused 9 else
    done (tag_of key)

-- opens all of these, for a proof by computation
unfoldable pub run_refused : Unit {0}
unfolding run_gathering run_becoming run_read_check run_tag run_open_set open_outcome set_with offered_set offered_notice offer_to put_outcome notice_outcome join_sheets join_outcome verdict_bytes closing close_sheet close_outcome bad_check check_reads reads_outcome check_outcome enter_outcome offer_outcome tag_outcome
run_refused = tt
