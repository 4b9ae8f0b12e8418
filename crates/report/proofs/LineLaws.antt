-- One line more: of the rows, and of the sets with their verdicts.
use Prim.Native.Nat.{ℕ, zero, suc, ◌+◌, ◌<◌, ◌≤◌}
use mathlib.Core.Path.{◌≡◌, sym, ap, ◌∙◌}
use mathlib.Core.Bool.{true}
use mathlib.Core.List.{List, [], ◌∷◌, ◌++◌, map, append_assoc, append-nil}
use native.Mathlib.Numerals.{add-one}
use native.Mathlib.Omega.{arith}
use lib.ListN.{length, get_or, take, length-map, get_or-map}
use lib.Seq.{take_all}
use Rattle.words.specs.Words.{Bytes}
use Rattle.rules.specs.declared.row.Row.{Row}
use Rattle.rules.specs.declared.answer.Verdict.{Verdict}
use Rattle.rules.specs.declared.answer.Verdict.TheVariants.{Commit}
use Rattle.rules.specs.Lists.{flat}
use Rattle.rules.specs.Register.{Register, max_rows, is_register, register_in}
use Rattle.rules.specs.Sheet.{Sheet, csn_of}
use Rattle.laws.specs.RegisterLaws.{sound_register→, register_sound}
use Rattle.registers.specs.RegisterReadings.{no_row, row_at}
use Rattle.sheets.specs.SheetReadings.{no_set, set_at}
use Rattle.report.specs.Report.{row_line, set_line, set_lines}
use Rattle.forms.specs.VerdictForm.{verdicts_in, verdict_at}
use Rattle.forms.specs.VerdictsBack.{verdicts_count}
use Rattle.report.specs.declared.text.Text.{Text}
use Rattle.report.specs.Text.{Writes}
use Rattle.report.proofs.TextLaws.{then_writes}

flat_more : {A : Type 0} (f : A → Bytes) (xs : List A) (i : ℕ) (d : A) → i < length xs → flat f (take (suc i) xs) ≡ flat f (take i xs) ++ f (get_or xs i d)
unfolding flat
flat_more f [] i d h = absurd (omega arith)
flat_more f (x ∷ xs) zero d h = append-nil (f x)
flat_more f (x ∷ xs) (suc i) d h =
    ap (λ (l : Bytes). f x ++ l) (flat_more f xs i d (omega arith)) ∙ sym (append_assoc (f x) (flat f (take i xs)) (f (get_or xs i d)))

pub row_more : (g : Register) (i : ℕ) {t₀ t₁ t₂ : Text} {row : Row} → i < length g.rows → row ≡ row_at g i
    → Writes (flat row_line (take i g.rows)) t₀ t₁ → Writes (row_line row) t₁ t₂ → Writes (flat row_line (take (i + 1) g.rows)) t₀ t₂
unfolding row_at
row_more g i h e p q = rw (add-one i, flat_more row_line g.rows i no_row h) (then_writes p (rw e at q))

lines_more : (cs : List ℕ) (vs : List Verdict) (i : ℕ) → i < length cs → i < length vs
    → set_lines (take (suc i) cs) (take (suc i) vs) ≡ set_lines (take i cs) (take i vs) ++ set_line (get_or cs i 0) (get_or vs i Commit)
unfolding set_lines
lines_more [] vs i h k = absurd (omega arith)
lines_more (c ∷ cs) [] i h k = absurd (omega arith)
lines_more (c ∷ cs) (v ∷ vs) zero h k = append-nil (set_line c v)
lines_more (c ∷ cs) (v ∷ vs) (suc i) h k =
    ap (λ (l : Bytes). set_line c v ++ l) (lines_more cs vs i (omega arith) (omega arith))
    ∙ sym (append_assoc (set_line c v) (set_lines (take i cs) (take i vs)) (set_line (get_or cs i 0) (get_or vs i Commit)))

-- the text of the first i sets
abbrev pub first_sets : Sheet → Bytes → ℕ → Bytes
first_sets s b i = set_lines (take i (map csn_of s.sets)) (take i (verdicts_in (length s.sets) b 0))

pub set_more : (s : Sheet) (b : Bytes) (i : ℕ) {t₀ t₁ t₂ : Text} {csn : ℕ} {v : Verdict} → i < length s.sets → csn ≡ (set_at s i).csn → v ≡ verdict_at (verdicts_in (length s.sets) b 0) i
    → Writes (first_sets s b i) t₀ t₁ → Writes (set_line csn v) t₁ t₂ → Writes (first_sets s b (i + 1)) t₀ t₂
unfolding set_at
set_more s b i {csn = csn} {v} h e f p q =
    let n = length s.sets in
    let c : get_or (map csn_of s.sets) i 0 ≡ csn = get_or-map csn_of s.sets i no_set ∙ sym e in
    let w : get_or (verdicts_in n b 0) i Commit ≡ v = unfold verdict_at in sym f in
    let m = lines_more (map csn_of s.sets) (verdicts_in n b 0) i (simp length-map h) (simp verdicts_count h) in
    rw (add-one i, m, c, w) (then_writes p q)

-- and of all of them
pub sets_whole : (s : Sheet) (b : Bytes) (i : ℕ) → length s.sets ≤ i → first_sets s b i ≡ set_lines (map csn_of s.sets) (verdicts_in (length s.sets) b 0)
sets_whole s b i h =
    rw (take_all i (map csn_of s.sets) (simp length-map h), take_all i (verdicts_in (length s.sets) b 0) (simp verdicts_count h))

pub few_rows : (b : Bytes) → is_register b ≡ true → length (register_in b).rows ≤ max_rows
few_rows b h = (sound_register→ (register_in b) (register_sound b h)).few
