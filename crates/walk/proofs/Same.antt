-- Two sets of examined sheets have equal records if their bodies are equal bytes.
use Rattle.std.specs.Prelude.{ℕ, ◌≡◌, true, List, [], ◌∷◌, length}
use Rattle.std.proofs.Common.{sym, ◌∙◌, ap, ap₂, arith, refl, append-nil, eq-eqb}
use Rattle.std.specs.Str.{bytes_eq}
use Rattle.std.proofs.lemmas.Bool.Decides.{same_from_decides, Decides-like}
use Rattle.std.proofs.lemmas.Slice.Eq.{bytes_eq-Decides}
use Rattle.words.specs.Words.{Bytes}
use Rattle.rules.specs.declared.row.Record.{Record}
use Rattle.rules.specs.Lists.{◌and◌}
use Rattle.rules.specs.Sheet.{WriteSet, sound_records, records_bytes, records_in}
use Rattle.rules.specs.Gathering.{same_record, same_records, same_set}
use Rattle.laws.specs.Tests.{right, both}
use Rattle.laws.specs.Distinct.{same_set→}
use Rattle.laws.specs.SheetLaws.{records_at, records_length}
use Rattle.sheets.specs.declared.set.WriteSet as view
use Rattle.sheets.specs.SheetMembers.{records_sound}
use Rattle.sheets.specs.Views.{set_of}

-- ---- two lists of records

same→ : (xs ys : List Record) → same_records xs ys ≡ true → xs ≡ ys
same→ xs ys e =
    let s : List Record → WriteSet = λ rs. record { csn = 0; sen = 0; records = rs } in
    ap (λ (w : WriteSet). w.records) (same_set→ (s xs) (s ys) (unfold same_set ◌and◌ in e))

same_itself : (xs : List Record) → same_records xs xs ≡ true
unfolding same_records same_record
same_itself [] = refl
same_itself (x ∷ xs) = both (both (eq-eqb _ _ refl) (both (eq-eqb _ _ refl) (eq-eqb _ _ refl))) (same_itself xs)

-- sound records are told from their bytes
told : (xs : List Record) → sound_records xs ≡ true → records_in (length xs) (records_bytes xs) 0 ≡ xs
unfolding sound_records
told xs e = records_at xs (records_bytes xs) 0 [] (right _ _ (right _ _ (right _ _ e))) (sym (append-nil (records_bytes xs)))

by_bytes : (xs ys : List Record) → sound_records xs ≡ true → sound_records ys ≡ true → records_bytes xs ≡ records_bytes ys → xs ≡ ys
by_bytes xs ys p q e =
    let n : length xs ≡ length ys = omega (arith, ap length e, records_length xs, records_length ys) in
    sym (told xs p) ∙ ap₂ (λ (k : ℕ) (b : Bytes). records_in k b 0) n e ∙ told ys q

-- ---- two sets

sound : (w : view.WriteSet) → sound_records (set_of w).records ≡ true
sound w = records_sound w.sheet.bytes.now w.i w.sheet.examined w.within

pub same_bodies : (v w : view.WriteSet) → bytes_eq (records_bytes (set_of v).records) (records_bytes (set_of w).records) ≡ same_records (set_of v).records (set_of w).records
same_bodies v w =
    let xs = (set_of v).records in
    let ys = (set_of w).records in
    same_from_decides {P = xs ≡ ys} _ _
    (Decides-like _ (by_bytes xs ys (sound v) (sound w)) (ap records_bytes) (bytes_eq-Decides (records_bytes xs) (records_bytes ys)))
    (same→ xs ys, λ e. rw (← e) (same_itself xs))
