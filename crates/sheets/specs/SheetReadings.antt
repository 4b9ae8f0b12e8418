-- A sheet as code reads and writes it: its sets, records and notices by number, and where they stand.
use Rattle.std.specs.Prelude.{ℕ, ◌+◌, ◌*◌, Bool, List, [], ◌∷◌, ◌++◌, length, get_or, take}
use Rattle.words.specs.Words.{Bytes, le}
use Rattle.rules.specs.declared.row.Record.{Record}
use Rattle.rules.specs.Sheet.{WriteSet, Sheet, no_notice, max_sets, max_records, state_byte}

-- what a place past the last set is taken to hold
abbrev pub no_set : WriteSet
no_set = record { csn = 0; sen = 0; records = [] }

-- what a place past the last record is taken to hold
abbrev pub no_record : Record
no_record = record { kind = 0; key = 0; value = 0 }

-- set i of a sheet
unfoldable pub set_at : Sheet → ℕ → WriteSet
set_at s i = get_or s.sets i no_set

-- record j of a set
unfoldable pub record_at : WriteSet → ℕ → Record
record_at w j = get_or w.records j no_record

-- what master m noticed
unfoldable pub notice_at : Sheet → ℕ → ℕ
notice_at s m = get_or s.notices m no_notice

-- how many records sets have together
unfoldable pub total : List WriteSet → ℕ
total [] = 0
total (w ∷ ws) = length w.records + total ws

-- how many masters there are
abbrev pub master_count : ℕ
master_count = 16

-- the most records of a sheet
abbrev pub max_total : ℕ
max_total = max_sets * max_records

-- where the notices start
abbrev pub notices_place : ℕ
notices_place = 8

-- how long the head is
abbrev pub head_length : ℕ
head_length = 24

-- where the contents start
abbrev pub contents_place : ℕ
contents_place = head_length

-- how long an entry of the contents is
abbrev pub entry_length : ℕ
entry_length = 16

-- where entry i of the contents starts
abbrev pub entry_place : ℕ → ℕ
entry_place i = contents_place + entry_length * i

-- where the bodies of n sets start
abbrev pub bodies_place : ℕ → ℕ
bodies_place n = entry_place n

-- how long a record is
abbrev pub record_length : ℕ
record_length = 16

-- where a record starts that has k before it, in a sheet of n sets
abbrev pub record_place : ℕ → ℕ → ℕ
record_place n k = bodies_place n + record_length * k

-- where the body of set i starts
unfoldable pub body_place : Sheet → ℕ → ℕ
body_place s i = record_place (length s.sets) (total (take i s.sets))

-- how long a sheet of n sets is that have k records together
abbrev pub sheet_length : ℕ → ℕ → ℕ
sheet_length n k = record_place n k

-- the room of the sheet of one offer: a set of the most records is the longest
abbrev pub one_room : ℕ
one_room = sheet_length 1 max_records

-- the first eight bytes of a sheet: epoch, roster, state and set count
unfoldable pub start_bytes : ℕ → ℕ → Bool → ℕ → Bytes
start_bytes epoch roster spoiled n = le 4 epoch ++ le 2 roster ++ (state_byte spoiled ∷ n ∷ [])

-- an entry of the contents: csn, sen, first record, record count
unfoldable pub entry_bytes : ℕ → ℕ → ℕ → ℕ → Bytes
entry_bytes csn sen first count = le 8 csn ++ le 4 sen ++ le 2 first ++ le 2 count
