-- Document 02, L2: the visit desk's open set, 0 to 8 sound records in key order, filled where it stands; its struct, with one encoding.
use Rattle.std.specs.Prelude.{ℕ, ◌-◌, ◌*◌, Bool, List, [], ◌∷◌, ◌++◌, map, length, replicate, leb, ltb, eqb, if◌then◌else◌, Option, None, Some}
use Rattle.words.specs.Words.{Bytes}
use Rattle.rules.specs.declared.row.Record.{Record}
use Rattle.rules.specs.declared.desk.OpenSet.{OpenSet}
use Rattle.rules.specs.Lists.{◌and◌, any, all, same, ascend_from}
use Rattle.rules.specs.Sheet.{run_sheet, max_records, record_key, sound_record, records_bytes, records_in}

-- no to eight records, their keys strictly ascending from 1 on
unfoldable pub sound_open : List Record → Bool
sound_open rs = leb (length rs) max_records and ascend_from 0 (map record_key rs) and all sound_record rs

-- how many records there are, then 128 bytes: the records', and zeros behind them
unfoldable pub open_set_of : List Record → OpenSet
open_set_of rs = record { count = length rs; records = records_bytes rs ++ replicate (128 - 16 * length rs) 0 }

-- the open set with no record: all zero
abbrev pub empty_set : OpenSet
empty_set = record { count = 0; records = replicate 128 0 }

-- the records that a struct stands for, if it is an open set
unfoldable pub open_records : OpenSet → List Record
open_records o = records_in o.count o.records 0

-- two structs are equal
unfoldable pub same_open : OpenSet → OpenSet → Bool
same_open o p = eqb o.count p.count and same o.records p.records

-- the struct is an open set: its records are sound, and it is what they are written as
unfoldable pub is_open_set : OpenSet → Bool
is_open_set o = sound_open (open_records o) and same_open (open_set_of (open_records o)) o

-- the records of an open set, or none exactly if it is ill-formed
unfoldable pub read_open : OpenSet → Option (List Record)
read_open o = if is_open_set o then Some (open_records o) else None

-- one of the records has the key
unfoldable pub has_key : ℕ → List Record → Bool
has_key k rs = any (λ r. eqb r.key k) rs

-- a record among records in key order
unfoldable pub put_record : Record → List Record → List Record
put_record r [] = r ∷ []
put_record r (x ∷ xs) = if ltb r.key x.key then r ∷ x ∷ xs else x ∷ put_record r xs

-- the record bytes that an open set offers, which are its records'; an ill-formed one has none to offer
unfoldable pub offered_bytes : OpenSet → Bytes
offered_bytes o = if is_open_set o then records_bytes (open_records o) else []

-- opens all of these, for a proof by computation
unfoldable pub run_open_set : Unit {0}
unfolding run_sheet sound_open open_set_of open_records same_open is_open_set read_open has_key put_record offered_bytes
run_open_set = tt
