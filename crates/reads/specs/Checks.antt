-- What a check that was opened stands for, and what it tells of entries.
use Rattle.std.specs.Prelude.{ℕ, ◌<◌, ◌≡◌, ◌⊎◌, true, false, List, length, get_or, Result, Ok, Err, Option, Some}
use Rattle.words.specs.Words.{Bytes}
use Rattle.rules.specs.declared.row.Read.{Read}
use Rattle.rules.specs.declared.answer.Reason.{Reason}
use Rattle.rules.specs.declared.answer.Refusal.{Refusal}
use Rattle.rules.specs.declared.answer.Refusal.TheVariants.{RegisterIllFormed, CheckIllFormed}
use Rattle.rules.specs.ReadCheck.{read_committed, snapshot_isolation, failing}
use Rattle.rules.specs.Answers.{Checked}
use Rattle.rules.specs.Register.{is_register, register_in}
use Rattle.rules.specs.Refused.{check_reads}
use Rattle.rules.specs.Promises.{CheckPromise}
use Rattle.registers.specs.Views.{register_of}
use Rattle.reads.specs.declared.checking.Check.{Check}
use Rattle.reads.specs.Modes.{mode_number}

-- of a check that is asked for: it is of these bytes, in this mode, with this lsn; or it is refused, by the bytes or else by mode or lsn
abbrev pub Opened : Bytes → ℕ → ℕ → Result Check Refusal → Type 0
Opened b mode lsn (Ok c) = (c.register.bytes.now ≡ b) × (mode_number c.mode ≡ mode) × (c.lsn ≡ lsn)
Opened b mode lsn (Err x) =
    ((x ≡ RegisterIllFormed) × (is_register b ≡ false))
    ⊎ ((x ≡ CheckIllFormed) × (is_register b ≡ true) × (mode < read_committed ⊎ snapshot_isolation < mode ⊎ (register_in b).snapshot < lsn))

-- why an entry fails against a check, if it does
abbrev pub reason_for : Check → Read → Option Reason
reason_for c e = failing (register_of c.register) (mode_number c.mode) c.lsn e

-- the entry that no list has
abbrev pub no_read : Read
no_read = record { key = 0; csn = 0 }

-- what gives entry i gives the n entries of a list
abbrev pub Gives : ℕ → (ℕ → Read → Type 0) → List Read → Type 0
Gives n gives es = (length es ≡ n) × ((i : ℕ) (e : Read) → i < n → gives i e → e ≡ get_or es i no_read)

-- the read check of the entries that are given
abbrev pub Checks : Check → (List Read → Type 0) → Checked → Type 0
Checks c given answer = (es : List Read) → given es → CheckPromise (check_reads (Some (register_of c.register)) (mode_number c.mode) c.lsn (Some es)) answer
