-- The modes by their numbers.
use Rattle.std.specs.Prelude.{ℕ, ◌≡◌, ◌<◌, ◌⊎◌, Result, Ok, Err}
use Rattle.rules.specs.ReadCheck.{read_committed, repeatable_read, snapshot_isolation}
use Rattle.reads.specs.declared.mode.Mode.{Mode}
use Rattle.reads.specs.declared.mode.Mode.TheVariants.{ReadCommitted, RepeatableRead, SnapshotIsolation}
use Rattle.reads.specs.declared.mode.UnknownMode.{UnknownMode}

-- the documents' number of a mode
abbrev pub mode_number : Mode → ℕ
mode_number ReadCommitted = read_committed
mode_number RepeatableRead = repeatable_read
mode_number SnapshotIsolation = snapshot_isolation

-- of a byte: the mode that it stands for, or that it is none's
abbrev pub IsModeOf : ℕ → Result Mode UnknownMode → Type 0
IsModeOf b (Ok mode) = mode_number mode ≡ b
IsModeOf b (Err e) = b < read_committed ⊎ snapshot_isolation < b
