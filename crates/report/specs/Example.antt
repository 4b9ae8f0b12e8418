-- Document 01's text for example A, by computation.
use Rattle.std.specs.Prelude.{◌≡◌, refl, [], ◌∷◌, ◌++◌}
use Rattle.words.specs.Words.{Bytes}
use Rattle.rules.specs.declared.answer.Verdict.TheVariants.{Commit, Lost}
use Rattle.rules.specs.Numbers.{mark_of, untouched}
use Rattle.rules.specs.Register.{Register}
use Rattle.report.specs.Report.{report, refused_text, run_report}

-- the register after A
abbrev after : Register
after = record { snapshot = 1; rows = record { key = 10; value = 6; mark = mark_of 1 1 3 } ∷ untouched 20 0 ∷ [] }

-- the five lines that document 01 prints
abbrev text : Bytes
text =
    (115 ∷ 110 ∷ 97 ∷ 112 ∷ 115 ∷ 104 ∷ 111 ∷ 116 ∷ 32 ∷ 49 ∷ 32 ∷ 114 ∷ 111 ∷ 119 ∷ 115 ∷ 32 ∷ 50 ∷ 10 ∷ [])
    ++ (115 ∷ 101 ∷ 116 ∷ 32 ∷ 51 ∷ 32 ∷ 99 ∷ 111 ∷ 109 ∷ 109 ∷ 105 ∷ 116 ∷ 32 ∷ 48 ∷ 10 ∷ [])
    ++ (115 ∷ 101 ∷ 116 ∷ 32 ∷ 53 ∷ 32 ∷ 108 ∷ 111 ∷ 115 ∷ 116 ∷ 32 ∷ 49 ∷ 48 ∷ 10 ∷ [])
    ++ (114 ∷ 111 ∷ 119 ∷ 32 ∷ 49 ∷ 48 ∷ 32 ∷ 54 ∷ 32 ∷ 49 ∷ 32 ∷ 49 ∷ 32 ∷ 51 ∷ 10 ∷ [])
    ++ (114 ∷ 111 ∷ 119 ∷ 32 ∷ 50 ∷ 48 ∷ 32 ∷ 48 ∷ 32 ∷ 48 ∷ 32 ∷ 48 ∷ 32 ∷ 48 ∷ 10 ∷ [])

-- A'S REPORT
pub report_of_A : report after (3 ∷ 5 ∷ []) (Commit ∷ Lost 10 ∷ []) ≡ text
unfolding run_report
report_of_A = refl

-- a refusal
pub refused_10 : refused_text 10 ≡ 114 ∷ 101 ∷ 102 ∷ 117 ∷ 115 ∷ 101 ∷ 100 ∷ 32 ∷ 49 ∷ 48 ∷ 10 ∷ []
unfolding run_report
refused_10 = refl
