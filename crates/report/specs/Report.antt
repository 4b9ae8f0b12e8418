-- What the closing program prints, as bytes: document 01's report of a closed epoch, and of a refusal.
use Rattle.std.specs.Prelude.{ℕ, zero, suc, ◌+◌, ◌*◌, ◌/◌, ◌%◌, ◌≡◌, List, [], ◌∷◌, ◌++◌, length, ltb, if◌then◌else◌}
use Rattle.words.specs.Words.{Bytes, stored, run_words}
use Rattle.rules.specs.declared.mark.Mark.{Mark}
use Rattle.rules.specs.declared.row.Row.{Row}
use Rattle.rules.specs.declared.answer.Verdict.{Verdict}
use Rattle.rules.specs.declared.answer.Verdict.TheVariants.{Commit, Lost, Unfit}
use Rattle.rules.specs.Lists.{flat, run_lists}
use Rattle.rules.specs.Register.{Register, max_rows}
use Rattle.rules.specs.Sheet.{max_sets}

-- the decimal digits of n in ASCII, the most significant first, and of a longer number the last k
unfoldable pub digits : ℕ → ℕ → Bytes
digits zero n = []
digits (suc k) n = if ltb n 10 then (48 + n) ∷ [] else digits k (n / 10) ++ ((48 + n % 10) ∷ [])

-- no number of 64 bits has more digits
abbrev pub number_room : ℕ
number_room = 20

-- a number of 64 bits
unfoldable pub decimal : ℕ → Bytes
decimal n = digits number_room n

-- a word and the number behind it
unfoldable pub field : Bytes → ℕ → Bytes
field text n = text ++ decimal n

-- the byte between two numbers
abbrev pub space : Bytes
space = 32 ∷ []

-- the byte that ends a line
abbrev pub line_end : Bytes
line_end = 10 ∷ []

-- no verdict's text is longer: a word of 8 bytes, and a number
abbrev pub verdict_text_room : ℕ
verdict_text_room = 8 + number_room

-- no mark's text is longer: three numbers, a space before each
abbrev pub mark_text_room : ℕ
mark_text_room = 3 * (1 + number_room)

-- no line is longer
abbrev pub line_room : ℕ
line_room = 112

-- no report is longer: a line, a line a set and a line a row
abbrev pub report_room : ℕ
report_room = line_room * (1 + max_sets + max_rows)

-- `snapshot S rows N`
unfoldable pub snapshot_line : ℕ → ℕ → Bytes
snapshot_line s n =
    (field (115 ∷ 110 ∷ 97 ∷ 112 ∷ 115 ∷ 104 ∷ 111 ∷ 116 ∷ 32 ∷ []) s ++ field (32 ∷ 114 ∷ 111 ∷ 119 ∷ 115 ∷ 32 ∷ []) n) ++ line_end

-- ` commit 0`, ` lost KEY` or ` unfit KEY`
unfoldable pub verdict_text : Verdict → Bytes
verdict_text Commit = field (32 ∷ 99 ∷ 111 ∷ 109 ∷ 109 ∷ 105 ∷ 116 ∷ 32 ∷ []) 0
verdict_text (Lost k) = field (32 ∷ 108 ∷ 111 ∷ 115 ∷ 116 ∷ 32 ∷ []) k
verdict_text (Unfit k) = field (32 ∷ 117 ∷ 110 ∷ 102 ∷ 105 ∷ 116 ∷ 32 ∷ []) k

-- `set CSN commit 0`
unfoldable pub set_line : ℕ → Verdict → Bytes
set_line csn v = (field (115 ∷ 101 ∷ 116 ∷ 32 ∷ []) csn ++ verdict_text v) ++ line_end

-- ` CEN SEN CSN`
unfoldable pub mark_text : Mark → Bytes
mark_text m = (field space m.cen ++ field space m.sen) ++ field space m.csn

-- `row KEY VALUE CEN SEN CSN`
unfoldable pub row_line : Row → Bytes
row_line r = ((field (114 ∷ 111 ∷ 119 ∷ 32 ∷ []) r.key ++ field space r.value) ++ mark_text r.mark) ++ line_end

-- a line a set, as long as there are commit numbers and verdicts
unfoldable pub set_lines : List ℕ → List Verdict → Bytes
set_lines [] vs = []
set_lines (c ∷ cs) [] = []
set_lines (c ∷ cs) (v ∷ vs) = set_line c v ++ set_lines cs vs

-- THE REPORT of a closed epoch: the next register, the sets' commit numbers and their verdicts
unfoldable pub report : Register → List ℕ → List Verdict → Bytes
report g csns vs = (snapshot_line g.snapshot (length g.rows) ++ set_lines csns vs) ++ flat row_line g.rows

-- `refused N`
unfoldable pub refused_text : ℕ → Bytes
refused_text n = field (114 ∷ 101 ∷ 102 ∷ 117 ∷ 115 ∷ 101 ∷ 100 ∷ 32 ∷ []) n ++ line_end

-- of a writing at a place: it is one store of the text, and the place behind it is handed back
pub record Put (text before : Bytes) (at : ℕ) (after : Bytes) (next : ℕ) : Type 0 where
  pub bytes : after ≡ stored before at text
  pub place : next ≡ at + length text

-- opens all of these, for a proof by computation
unfoldable pub run_report : Unit {0}
unfolding run_words run_lists digits decimal field snapshot_line verdict_text set_line mark_text row_line set_lines report refused_text
run_report = tt
