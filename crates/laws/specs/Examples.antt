-- The clerk's starred examples, from bytes to outcome, through the operations as a depot would call them: one table, and one
-- statement that every entry of it holds, by computation.
use Rattle.std.specs.Prelude.{ℕ, ◌≡◌, refl, List, [], ◌∷◌}
use Rattle.words.specs.Words.{Bytes}
use Rattle.rules.specs.declared.row.Row.{Row}
use Rattle.rules.specs.declared.row.Record.{Record}
use Rattle.rules.specs.declared.row.Read.{Read}
use Rattle.rules.specs.declared.answer.Verdict.{Verdict}
use Rattle.rules.specs.declared.answer.Verdict.TheVariants.{Commit, Lost, Unfit}
use Rattle.rules.specs.declared.answer.Reason.TheVariants.{TooNew}
use Rattle.rules.specs.Lists.{flat}
use Rattle.rules.specs.Numbers.{mark_of, untouched}
use Rattle.rules.specs.Register.{Register, register_bytes}
use Rattle.rules.specs.Sheet.{change, insert, delete, records_bytes, sheet_bytes}
use Rattle.rules.specs.Gathering.{spoiled_sheet}
use Rattle.rules.specs.ReadCheck.{Finding, passes, fails}
use Rattle.rules.specs.Refused.{Outcome, refused, done, Closing, sheet_room, register_room, verdict_room, verdict_bytes, open_outcome, put_outcome, notice_outcome, join_outcome, close_outcome, reads_outcome, run_refused}

-- what a depot does to its sheet: puts a set (csn, sen, records), or notices a master's number of sets
pub data Step : Type 0 where
  put : ℕ → ℕ → List Record → Step
  notice : ℕ → ℕ → Step

abbrev step : ℕ → Bytes → Step → Outcome Bytes
step e b (put csn sen rs) = put_outcome b e sen csn (records_bytes rs) sheet_room
step e b (notice m n) = notice_outcome b e m n sheet_room

-- the steps one after the other; a refusal ends them
abbrev steps : ℕ → Outcome Bytes → List Step → Outcome Bytes
steps e o [] = o
steps e (refused n) (x ∷ xs) = refused n
steps e (done b) (x ∷ xs) = steps e (step e b x) xs

-- the sheet of an epoch and roster 40 (masters 3 and 5) after these steps
abbrev pub sheet_after : ℕ → List Step → Outcome Bytes
sheet_after e xs = steps e (open_outcome e 40 sheet_room) xs

-- two outcomes joined; a refusal stays
abbrev pub join_with : Outcome Bytes → Outcome Bytes → Outcome Bytes
join_with (refused n) b = refused n
join_with (done a) (refused n) = refused n
join_with (done a) (done b) = join_outcome a b sheet_room

-- the sheet of an outcome closed on a register; a refusal stays
abbrev pub close_with : Bytes → Outcome Bytes → Outcome Closing
close_with g (refused n) = refused n
close_with g (done b) = close_outcome g b register_room verdict_room

-- the same sheet closed on the register that its closing gave
abbrev close_again : Outcome Bytes → Outcome Closing → Outcome Closing
close_again s (refused n) = refused n
close_again s (done c) = close_with (c.register) s

-- an entry of the table
pub data Example : Type 0 where
  -- a register, and its bytes
  spells : Register → Bytes → Example
  -- steps in an epoch, and the bytes of the sheet that they give
  gathers : ℕ → List Step → Bytes → Example
  -- register, epoch and steps; the verdicts and the register that closing gives
  closes : Register → ℕ → List Step → List Verdict → Register → Example
  -- register, epoch and steps; the number that closing is refused with
  refuses : Register → ℕ → List Step → ℕ → Example
  -- closed again on its result, it is refused with the number
  closes_once : Register → ℕ → List Step → ℕ → Example
  -- steps in epoch 1 that give the same sheet
  alike : List Step → List Step → Example
  -- the sheets of two depots, joined, are the sheet of these steps
  joins : List Step → List Step → List Step → Example
  -- steps in epoch 1 that spoil
  spoiling : List Step → Example
  -- an operation that is refused with a number
  answers : Outcome Bytes → ℕ → Example
  -- register, mode, lsn and entries; what the read check finds
  reads : Register → ℕ → ℕ → List Read → Finding → Example

-- what an entry says of the operations
abbrev pub Holds : Example → Type 0
Holds (spells g b) = register_bytes g ≡ b
Holds (gathers e xs b) = sheet_after e xs ≡ done b
Holds (closes g e xs vs g') =
    close_with (register_bytes g) (sheet_after e xs) ≡ done (record { register = register_bytes g'; verdicts = flat verdict_bytes vs })
Holds (refuses g e xs n) = close_with (register_bytes g) (sheet_after e xs) ≡ refused n
Holds (closes_once g e xs n) = close_again (sheet_after e xs) (close_with (register_bytes g) (sheet_after e xs)) ≡ refused n
Holds (alike xs ys) = sheet_after 1 xs ≡ sheet_after 1 ys
Holds (joins xs ys zs) = join_with (sheet_after 1 xs) (sheet_after 1 ys) ≡ sheet_after 1 zs
Holds (spoiling xs) = sheet_after 1 xs ≡ done (sheet_bytes (spoiled_sheet 1 40))
Holds (answers o n) = o ≡ refused n
Holds (reads g mode lsn es a) = reads_outcome (register_bytes g) mode lsn es ≡ done a

-- each entry holds
abbrev pub AllHold : List Example → Type 0
AllHold [] = Unit {0}
AllHold (x ∷ xs) = Holds x × AllHold xs

-- ---- how the table is written

abbrev row : ℕ → ℕ → ℕ → ℕ → ℕ → Row
row k v cen sen csn = record { key = k; value = v; mark = mark_of cen sen csn }

abbrev register : ℕ → List Row → Register
register s rs = record { snapshot = s; rows = rs }

-- records of the three kinds
abbrev changing : ℕ → ℕ → Record
changing k v = record { kind = change; key = k; value = v }

abbrev inserting : ℕ → ℕ → Record
inserting k v = record { kind = insert; key = k; value = v }

abbrev deleting : ℕ → Record
deleting k = record { kind = delete; key = k; value = 0 }

abbrev read : ℕ → ℕ → Read
read k csn = record { key = k; csn = csn }

-- the clerk's register
abbrev pub R : Register
R = register 0 (untouched 10 1 ∷ untouched 20 0 ∷ [])

-- the sets that most examples use: 10 := 6 of master 3, and 10 := 2 of master 5
abbrev six : Step
six = put 3 1 (changing 10 6 ∷ [])

abbrev seven : Step
seven = put 3 1 (changing 10 7 ∷ [])

abbrev two : Step
two = put 5 1 (changing 10 2 ∷ [])

-- one set of each master, and the notices that say so
abbrev pub A : List Step
A = six ∷ two ∷ notice 3 1 ∷ notice 5 1 ∷ []

abbrev B : List Step
B = put 3 1 (changing 10 6 ∷ []) ∷ put 21 2 (changing 10 2 ∷ []) ∷ notice 3 1 ∷ notice 5 1 ∷ []

abbrev pub C : List Step
C = six ∷ put 5 1 (changing 10 2 ∷ changing 20 7 ∷ []) ∷ put 19 1 (changing 20 8 ∷ []) ∷ notice 3 2 ∷ notice 5 1 ∷ []

-- ours, beside C: a set of three rows that wins them all
abbrev pub three_rows : List Step
three_rows = put 3 1 (changing 10 6 ∷ changing 20 7 ∷ inserting 30 4 ∷ []) ∷ notice 3 1 ∷ notice 5 0 ∷ []

abbrev D : List Step
D = put 3 1 (changing 10 6 ∷ changing 30 4 ∷ []) ∷ two ∷ notice 3 1 ∷ notice 5 1 ∷ []

abbrev E : List Step
E = put 3 1 (inserting 30 6 ∷ []) ∷ put 5 1 (inserting 30 2 ∷ []) ∷ notice 3 1 ∷ notice 5 1 ∷ []

abbrev F : List Step
F = put 3 1 (deleting 20 ∷ []) ∷ put 5 1 (changing 20 2 ∷ []) ∷ notice 3 1 ∷ notice 5 1 ∷ []

-- a register of snapshot 5 with a row of cen 5
abbrev five : Register
five = register 5 (row 10 1 5 1 3 ∷ [])

-- THE TABLE
abbrev pub table : List Example
table =
    -- the bytes of the empty register, of R, and of A's sheet: head, contents, bodies
    spells (register 0 []) (0 ∷ 0 ∷ 0 ∷ 0 ∷ 0 ∷ 0 ∷ 0 ∷ 0 ∷ [])
    ∷ spells R
    (0 ∷ 0 ∷ 0 ∷ 0 ∷ 2 ∷ 0 ∷ 0 ∷ 0
    ∷ 10 ∷ 0 ∷ 0 ∷ 0 ∷ 1 ∷ 0 ∷ 0 ∷ 0 ∷ 0 ∷ 0 ∷ 0 ∷ 0 ∷ 0 ∷ 0 ∷ 0 ∷ 0 ∷ 0 ∷ 0 ∷ 0 ∷ 0 ∷ 0 ∷ 0 ∷ 0 ∷ 0 ∷ 0 ∷ 0 ∷ 0 ∷ 0
    ∷ 20 ∷ 0 ∷ 0 ∷ 0 ∷ 0 ∷ 0 ∷ 0 ∷ 0 ∷ 0 ∷ 0 ∷ 0 ∷ 0 ∷ 0 ∷ 0 ∷ 0 ∷ 0 ∷ 0 ∷ 0 ∷ 0 ∷ 0 ∷ 0 ∷ 0 ∷ 0 ∷ 0 ∷ 0 ∷ 0 ∷ 0 ∷ 0 ∷ [])
    ∷ gathers 1 A
    (1 ∷ 0 ∷ 0 ∷ 0 ∷ 40 ∷ 0 ∷ 0 ∷ 2
    ∷ 255 ∷ 255 ∷ 255 ∷ 1 ∷ 255 ∷ 1 ∷ 255 ∷ 255 ∷ 255 ∷ 255 ∷ 255 ∷ 255 ∷ 255 ∷ 255 ∷ 255 ∷ 255
    ∷ 3 ∷ 0 ∷ 0 ∷ 0 ∷ 0 ∷ 0 ∷ 0 ∷ 0 ∷ 1 ∷ 0 ∷ 0 ∷ 0 ∷ 0 ∷ 0 ∷ 1 ∷ 0
    ∷ 5 ∷ 0 ∷ 0 ∷ 0 ∷ 0 ∷ 0 ∷ 0 ∷ 0 ∷ 1 ∷ 0 ∷ 0 ∷ 0 ∷ 1 ∷ 0 ∷ 1 ∷ 0
    ∷ 1 ∷ 0 ∷ 0 ∷ 0 ∷ 10 ∷ 0 ∷ 0 ∷ 0 ∷ 6 ∷ 0 ∷ 0 ∷ 0 ∷ 0 ∷ 0 ∷ 0 ∷ 0
    ∷ 1 ∷ 0 ∷ 0 ∷ 0 ∷ 10 ∷ 0 ∷ 0 ∷ 0 ∷ 2 ∷ 0 ∷ 0 ∷ 0 ∷ 0 ∷ 0 ∷ 0 ∷ 0 ∷ [])
    -- A
    ∷ closes R 1 A (Commit ∷ Lost 10 ∷ []) (register 1 (row 10 6 1 1 3 ∷ row 20 0 0 0 0 ∷ []))
    ∷ joins (two ∷ notice 5 1 ∷ []) (six ∷ notice 3 1 ∷ []) A
    -- B
    ∷ closes (register 1 (row 10 1 0 0 0 ∷ row 20 0 0 0 0 ∷ [])) 2 B (Lost 10 ∷ Commit ∷ []) (register 2 (row 10 2 2 2 21 ∷ row 20 0 0 0 0 ∷ []))
    -- C: the mark of row 20, which a lost set won, stays fresh
    ∷ closes R 1 C (Commit ∷ Lost 10 ∷ Lost 20 ∷ []) (register 1 (row 10 6 1 1 3 ∷ row 20 0 0 0 0 ∷ []))
    -- what commits marks every row that it names
    ∷ closes R 1 three_rows (Commit ∷ []) (register 1 (row 10 6 1 1 3 ∷ row 20 7 1 1 3 ∷ row 30 4 1 1 3 ∷ []))
    -- D
    ∷ closes R 1 D (Unfit 30 ∷ Commit ∷ []) (register 1 (row 10 2 1 1 5 ∷ row 20 0 0 0 0 ∷ []))
    -- E
    ∷ closes R 1 E (Commit ∷ Lost 30 ∷ []) (register 1 (row 10 1 0 0 0 ∷ row 20 0 0 0 0 ∷ row 30 6 1 1 3 ∷ []))
    -- F
    ∷ closes R 1 F (Commit ∷ Lost 20 ∷ []) (register 1 (row 10 1 0 0 0 ∷ []))
    -- G, and with notice 1
    ∷ alike (six ∷ six ∷ []) (six ∷ [])
    ∷ joins (six ∷ []) (six ∷ []) (six ∷ [])
    ∷ alike (notice 3 1 ∷ six ∷ six ∷ []) (six ∷ notice 3 1 ∷ [])
    -- H, in both orders and from two depots, and its closing
    ∷ spoiling (six ∷ seven ∷ [])
    ∷ spoiling (seven ∷ six ∷ [])
    ∷ joins (six ∷ []) (seven ∷ []) (six ∷ seven ∷ [])
    ∷ refuses R 1 (six ∷ seven ∷ notice 3 1 ∷ notice 5 0 ∷ []) 6
    ∷ refuses R 1 (seven ∷ six ∷ notice 3 1 ∷ notice 5 0 ∷ []) 6
    -- I
    ∷ refuses R 1 (six ∷ notice 3 1 ∷ []) 7
    -- J, in both orders and from two depots
    ∷ spoiling (notice 3 0 ∷ six ∷ [])
    ∷ spoiling (six ∷ notice 3 0 ∷ [])
    ∷ joins (six ∷ []) (notice 3 0 ∷ []) (six ∷ notice 3 0 ∷ [])
    -- M
    ∷ closes_once R 1 A 4
    -- N
    ∷ closes R 1 (notice 3 0 ∷ notice 5 0 ∷ []) [] (register 1 (row 10 1 0 0 0 ∷ row 20 0 0 0 0 ∷ []))
    -- O
    ∷ reads five 3 4 (read 10 3 ∷ []) passes
    ∷ reads five 3 3 (read 10 3 ∷ []) (fails 0 10 TooNew)
    -- where several refusals apply the smallest is given
    ∷ answers (open_outcome 0 0 0) 4
    ∷ answers (open_outcome 1 0 0) 5
    ∷ answers (open_outcome 1 40 9239) 9
    ∷ answers (put_outcome [] 0 0 3 [] 0) 2
    ∷ answers (put_outcome (sheet_bytes (spoiled_sheet 1 40)) 2 3 4 [] 0) 3
    ∷ answers (put_outcome (sheet_bytes (spoiled_sheet 1 40)) 2 1 4 (records_bytes (changing 10 6 ∷ [])) 0) 4
    ∷ answers (put_outcome (sheet_bytes (spoiled_sheet 1 40)) 1 1 4 (records_bytes (changing 10 6 ∷ [])) 0) 5
    ∷ answers (put_outcome (sheet_bytes (spoiled_sheet 1 40)) 1 1 3 (records_bytes (changing 10 6 ∷ [])) 0) 9
    ∷ answers (notice_outcome (sheet_bytes (spoiled_sheet 1 40)) 2 4 65 0) 3
    ∷ answers (notice_outcome (sheet_bytes (spoiled_sheet 1 40)) 2 4 0 0) 4
    ∷ answers (join_outcome (sheet_bytes (spoiled_sheet 1 40)) (sheet_bytes (spoiled_sheet 2 41)) 0) 4
    ∷ answers (join_outcome (sheet_bytes (spoiled_sheet 1 40)) (sheet_bytes (spoiled_sheet 1 41)) 0) 5
    ∷ []

-- EVERY ENTRY OF THE TABLE HOLDS
pub every : AllHold table
unfolding run_refused
every = (refl, (refl, (refl, (refl, (refl, (refl, (refl, (refl, (refl, (refl, (refl, (refl, (refl, (refl, (refl, (refl, (refl, (refl, (refl, (refl, (refl, (refl, (refl, (refl, (refl, (refl, (refl, (refl, (refl, (refl, (refl, (refl, (refl, (refl, (refl, (refl, (refl, (refl, (refl, tt)))))))))))))))))))))))))))))))))))))))
