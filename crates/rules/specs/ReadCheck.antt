-- Document 01, 'Read check': whether what a depot read still stands.
use Rattle.std.specs.Prelude.{ℕ, suc, ◌+◌, List, [], ◌∷◌, ltb, eqb, if◌then◌else◌, Option, None, Some}
use Rattle.rules.specs.declared.row.Row.{Row}
use Rattle.rules.specs.declared.row.Read.{Read}
use Rattle.rules.specs.declared.answer.Reason.{Reason}
use Rattle.rules.specs.declared.answer.Reason.TheVariants.{Gone, OtherCsn, TooNew}
use Rattle.rules.specs.Lists.{first}
use Rattle.rules.specs.Register.{run_register, Register}

-- mode 1
abbrev pub read_committed : ℕ
read_committed = 1

-- mode 2
abbrev pub repeatable_read : ℕ
repeatable_read = 2

-- mode 3
abbrev pub snapshot_isolation : ℕ
snapshot_isolation = 3

-- pass, or the first failing entry's index, key and reason
pub data Finding : Type 0 where
  passes : Finding
  fails : ℕ → ℕ → Reason → Finding

-- a row that is there: under Repeatable Read it fails with another csn, under Snapshot Isolation if its cen − 1 is above lsn
unfoldable pub fails_row : ℕ → ℕ → Read → Row → Option Reason
fails_row mode lsn e r =
    if eqb mode repeatable_read
    then if eqb r.mark.csn e.csn then None else Some OtherCsn
    else if ltb (lsn + 1) r.mark.cen then Some TooNew else None

-- a row that is gone fails, one that is there by its mark
unfoldable pub fails_found : ℕ → ℕ → Read → Option Row → Option Reason
fails_found mode lsn e None = Some Gone
fails_found mode lsn e (Some r) = fails_row mode lsn e r

-- why an entry fails, if it does; Read Committed always passes
unfoldable pub failing : Register → ℕ → ℕ → Read → Option Reason
failing g mode lsn e =
    if eqb mode read_committed then None else fails_found mode lsn e (first (λ r. eqb r.key e.key) g.rows)

-- the entry at index i with key k fails for the reason, or else the rest tells
unfoldable pub finding_or : Option Reason → ℕ → ℕ → Finding → Finding
finding_or None i k rest = rest
finding_or (Some r) i k rest = fails i k r

-- the first failing entry, the entries counted from i
unfoldable pub check_from : Register → ℕ → ℕ → ℕ → List Read → Finding
check_from g mode lsn i [] = passes
check_from g mode lsn i (e ∷ es) = finding_or (failing g mode lsn e) i e.key (check_from g mode lsn (suc i) es)

-- one entry more in front, if the others are entries
unfoldable pub with_read : ℕ → ℕ → Option (List Read) → Option (List Read)
with_read k c None = None
with_read k c (Some es) = Some (record { key = k; csn = c } ∷ es)

-- the entries that two lists of equal length give, or none
unfoldable pub reads_of : List ℕ → List ℕ → Option (List Read)
reads_of [] [] = Some []
reads_of [] (c ∷ cs) = None
reads_of (k ∷ ks) [] = None
reads_of (k ∷ ks) (c ∷ cs) = with_read k c (reads_of ks cs)

-- opens all of these, for a proof by computation
unfoldable pub run_read_check : Unit {0}
unfolding run_register fails_row fails_found failing finding_or check_from with_read reads_of
run_read_check = tt
