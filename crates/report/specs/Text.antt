-- What is promised of a text that is written behind another: the same lent bytes, and one store of it.
use Rattle.std.specs.Prelude.{ℕ, ◌≡◌, ◌+◌, ◌≤◌, length}
use Rattle.words.specs.Words.{Bytes}
use Rattle.report.specs.Report.{Put}
use Rattle.report.specs.declared.text.Text.{Text}

-- n bytes more fit
abbrev pub HasRoom : Text → ℕ → Type 0
HasRoom t n = t.at + n ≤ length t.out.now

-- at most n bytes more stand there
abbrev pub TakesAtMost : ℕ → Text → Text → Type 0
TakesAtMost n before after = after.at ≤ before.at + n

-- a text that had room is written behind what was there
pub record Writes (text : Bytes) (before after : Text) : Type 0 where
  pub same_bytes : after.out.ghost_name ≡ before.out.ghost_name
  pub as_many : length after.out.now ≡ length before.out.now
  pub put : Put text before.out.now before.at after.out.now after.at
