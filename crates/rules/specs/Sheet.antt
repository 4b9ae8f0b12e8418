-- Document 01, 'Sheet': its contents, when they are sound, and its bytes.
use Rattle.std.specs.Prelude.{ℕ, zero, suc, ◌+◌, ◌*◌, ◌/◌, ◌%◌, ◌^◌, Bool, not, List, [], ◌∷◌, ◌++◌, map, length, get_or, leb, eqb, if◌then◌else◌, Option, Result, Ok, Err, ◌≡◌, false}
use Rattle.words.specs.Words.{Bytes, le, word, part}
use Rattle.rules.specs.declared.row.Record.{Record}
use Rattle.rules.specs.declared.row.UnknownKind.{UnknownKind}
use Rattle.rules.specs.declared.row.Kind.{Kind}
use Rattle.rules.specs.declared.row.Kind.TheVariants.{Change, Insert, Delete}
use Rattle.rules.specs.Lists.{up_from, ◌and◌, ◌or◌, all, flat, count, ascend_from, ascend}
use Rattle.rules.specs.Numbers.{run_numbers, fits, master_of}
use Rattle.rules.specs.Forms.{run_forms, well_formed, read}

-- one master's writes of an epoch, its records in the order of their keys
pub record WriteSet : Type 0 where
  pub csn : ℕ
  pub sen : ℕ
  pub records : List Record

-- one epoch's sets in csn order, and for each of the sixteen masters what it noticed
pub record Sheet : Type 0 where
  pub epoch : ℕ
  pub roster : ℕ
  pub spoiled : Bool
  pub notices : List ℕ
  pub sets : List WriteSet

-- the notice byte of a master that sent none
abbrev pub no_notice : ℕ
no_notice = 255

-- the most sets of a sheet
abbrev pub max_sets : ℕ
max_sets = 64

-- the most records of a set
abbrev pub max_records : ℕ
max_records = 8

-- kind 1: the key is present
abbrev pub change : ℕ
change = 1

-- kind 2: the key is absent
abbrev pub insert : ℕ
insert = 2

-- kind 3: the key is present, the value 0
abbrev pub delete : ℕ
delete = 3

-- the byte of a kind
abbrev pub kind_number : Kind → ℕ
kind_number Change = change
kind_number Insert = insert
kind_number Delete = delete

-- masters 0 to 15
abbrev pub masters : List ℕ
masters = up_from 0 16

-- a record's key
abbrev pub record_key : Record → ℕ
record_key r = r.key

-- a set's csn
abbrev pub csn_of : WriteSet → ℕ
csn_of w = w.csn

-- bit m of the roster is master m
unfoldable pub in_roster : ℕ → ℕ → Bool
in_roster roster m = eqb (roster / 2 ^ m % 2) 1

-- how many of the sets are a master's
unfoldable pub sets_of : ℕ → List WriteSet → ℕ
sets_of m sets = count (λ w. eqb (master_of w.csn) m) sets

-- a master that noticed this may have n sets
unfoldable pub allows : ℕ → ℕ → Bool
allows notice n = eqb notice no_notice or leb n notice

-- which kinds there are
unfoldable pub is_kind : ℕ → Bool
is_kind k = leb change k and leb k delete

-- of a byte: the kind that it stands for, or that it is none's
abbrev pub IsKindOf : ℕ → Result Kind UnknownKind → Type 0
IsKindOf b (Ok kind) = kind_number kind ≡ b
IsKindOf b (Err e) = is_kind b ≡ false

-- a kind's values: 64 bits, and 0 at a delete
unfoldable pub sound_value : ℕ → ℕ → Bool
sound_value kind v = fits 8 v and (not (eqb kind delete) or eqb v 0)

-- a record: a kind, a key and a value that the kind may have
unfoldable pub sound_record : Record → Bool
sound_record r = is_kind r.kind and fits 4 r.key and sound_value r.kind r.value

-- one to eight records, their keys strictly ascending from 1 on
unfoldable pub sound_records : List Record → Bool
sound_records rs = leb 1 (length rs) and leb (length rs) max_records and ascend_from 0 (map record_key rs) and all sound_record rs

-- a set in a sheet of an epoch and a roster
unfoldable pub sound_set : ℕ → ℕ → WriteSet → Bool
sound_set epoch roster w = fits 8 w.csn and leb w.sen epoch and in_roster roster (master_of w.csn) and sound_records w.records

-- what master m noticed, where its sets are n: 255, or 0 to 64 from a master in the roster with no more sets than that
unfoldable pub sound_notice : ℕ → ℕ → ℕ → ℕ → Bool
sound_notice roster m notice n = eqb notice no_notice or in_roster roster m and leb notice max_sets and leb n notice

-- a spoiled sheet has no set and no notice
unfoldable pub bare : Sheet → Bool
bare s = eqb (length s.sets) 0 and all (λ n. eqb n no_notice) s.notices

-- every rule of a sheet: the head, the notices, the sets in csn order, and a spoiled one is bare
unfoldable pub sound_sheet : Sheet → Bool
sound_sheet s =
    leb 1 s.epoch and fits 4 s.epoch and leb 1 s.roster and fits 2 s.roster
    and eqb (length s.notices) 16
    and all (λ m. sound_notice s.roster m (get_or s.notices m no_notice) (sets_of m s.sets)) masters
    and leb (length s.sets) max_sets
    and ascend (map csn_of s.sets)
    and all (sound_set s.epoch s.roster) s.sets
    and (not s.spoiled or bare s)

-- 16 bytes a record: kind u8, three zero bytes, key u32, value u64
unfoldable pub record_bytes : Record → Bytes
record_bytes r = (r.kind ∷ 0 ∷ 0 ∷ 0 ∷ []) ++ le 4 r.key ++ le 8 r.value

-- records, end to end
unfoldable pub records_bytes : List Record → Bytes
records_bytes = flat record_bytes

-- 16 bytes a set: csn u64, sen u32, first record u16, record count u16; `first` records stand before these sets'
unfoldable pub contents_from : ℕ → List WriteSet → Bytes
contents_from first [] = []
contents_from first (w ∷ ws) =
    le 8 w.csn ++ le 4 w.sen ++ le 2 first ++ le 2 (length w.records) ++ contents_from (first + length w.records) ws

-- the records of all sets, end to end
unfoldable pub bodies : List WriteSet → Bytes
bodies = flat (λ w. records_bytes w.records)

-- the state byte: 0 sound, 1 spoiled
unfoldable pub state_byte : Bool → ℕ
state_byte spoiled = if spoiled then 1 else 0

-- the head of 24 bytes: epoch u32, roster u16, state u8, set count u8, sixteen notice bytes
unfoldable pub head_bytes : Sheet → Bytes
head_bytes s = le 4 s.epoch ++ le 2 s.roster ++ (state_byte s.spoiled ∷ length s.sets ∷ []) ++ s.notices

-- the head, the contents, the bodies
unfoldable pub sheet_bytes : Sheet → Bytes
sheet_bytes s = head_bytes s ++ contents_from 0 s.sets ++ bodies s.sets

-- the record whose bytes start at a place
unfoldable pub record_in : Bytes → ℕ → Record
record_in b at = record { kind = get_or b at 0; key = word 4 b (at + 4); value = word 8 b (at + 8) }

-- n records from a place on
unfoldable pub records_in : ℕ → Bytes → ℕ → List Record
records_in zero b at = []
records_in (suc n) b at = record_in b at ∷ records_in n b (at + 16)

-- n sets, whose contents start at c and whose bodies start at a place
unfoldable pub sets_in : ℕ → Bytes → ℕ → ℕ → List WriteSet
sets_in zero b c at = []
sets_in (suc n) b c at =
    record { csn = word 8 b c; sen = word 4 b (c + 8); records = records_in (word 2 b (c + 14)) b at }
    ∷ sets_in n b (c + 16) (at + 16 * word 2 b (c + 14))

-- the sheet that the bytes stand for, if they are one
unfoldable pub sheet_in : Bytes → Sheet
sheet_in b =
    record {
      epoch = word 4 b 0;
      roster = word 2 b 4;
      spoiled = eqb (get_or b 6 0) 1;
      notices = part b 8 16;
      sets = sets_in (get_or b 7 0) b 24 (24 + 16 * get_or b 7 0);
    }

-- the bytes are a sheet
unfoldable pub is_sheet : Bytes → Bool
is_sheet = well_formed sheet_in sound_sheet sheet_bytes

-- the sheet that the bytes are, or none exactly if they are ill-formed
unfoldable pub read_sheet : Bytes → Option Sheet
read_sheet = read sheet_in sound_sheet sheet_bytes

-- the records that the bytes of an offered set stand for, if they are whole records
unfoldable pub offered_records : Bytes → List Record
offered_records b = records_in (length b / 16) b 0

-- the bytes are one to eight records of a set
unfoldable pub are_records : Bytes → Bool
are_records = well_formed offered_records sound_records records_bytes

-- the records that the bytes are, or none exactly if they are ill-formed
unfoldable pub read_records : Bytes → Option (List Record)
read_records = read offered_records sound_records records_bytes

-- opens all of these, for a proof by computation
unfoldable pub run_sheet : Unit {0}
unfolding run_numbers run_forms in_roster sets_of allows is_kind sound_value sound_record sound_records sound_set sound_notice bare sound_sheet record_bytes records_bytes contents_from bodies state_byte head_bytes sheet_bytes record_in records_in sets_in sheet_in is_sheet read_sheet offered_records are_records read_records
run_sheet = tt
