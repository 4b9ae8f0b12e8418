-- What closing wrote is what is printed: the next register and the verdicts come back from their bytes.
use Rattle.std.specs.Prelude.{Ok, Err}
use Prim.Native.Nat.{ℕ, ◌≤◌}
use mathlib.Core.Path.{◌≡◌, sym, ◌∙◌, ap}
use mathlib.Core.Bool.{true}
use mathlib.Core.List.{◌++◌, map}
use native.Mathlib.Omega.{arith}
use borrow.Author.Tests.{ltb-false, eqb-true, not-false}
use lib.ListN.{length, take, drop, length-take, length-map, take-append-drop}
use Rattle.words.specs.Words.{Bytes}
use Rattle.rules.specs.declared.answer.Refusal.{Refusal}
use Rattle.rules.specs.declared.answer.Refusal.TheVariants.{RegisterIllFormed, SheetIllFormed, WrongEpoch, TooManyRows}
use Rattle.rules.specs.declared.answer.Closed.{Closed}
use Rattle.rules.specs.Lists.{flat}
use Rattle.rules.specs.Register.{Register, register_bytes, register_in, is_register}
use Rattle.rules.specs.Sheet.{Sheet, sound_sheet, sheet_in, is_sheet, csn_of}
use Rattle.rules.specs.Closing.{verdict, verdicts}
use Rattle.rules.specs.Becoming.{next}
use Rattle.rules.specs.Answers.{ClosedAnswer, refusal_number, closed_numbers}
use Rattle.rules.specs.Refused.{Closing, closing, register_room, verdict_room, verdict_bytes, close_outcome}
use Rattle.rules.specs.Promises.{ClosePromise}
use Rattle.rules.specs.Applies.{bad_register, bad_sheet, wrong_epoch, too_many_rows, applies}
use Rattle.laws.specs.RegisterLaws.{register_decoded, register_is, register_sound}
use Rattle.laws.specs.NextSound.{next_sound}
use Rattle.laws.specs.Exactly.{close_exactly}
use Rattle.laws.specs.Kept.{numbered, kept_done_closing, kept_refused_closing, kept_wrote_closing}
use Rattle.laws.specs.SheetLaws.{sheet_sound}
use Rattle.laws.specs.VerdictLength.{verdicts_long}
use Rattle.report.specs.Report.{Put, report, refused_text}
use Rattle.forms.specs.VerdictForm.{verdicts_length, verdicts_in}
use Rattle.forms.specs.VerdictsBack.{verdicts_at}
use Rattle.program.specs.Printed.{text_of, closed_text}
use Rattle.program.proofs.SmallKeys.{verdicts_small}

-- of a closing that wrote n bytes of the next register into a, and the verdicts into b
pub record Written (r t a b : Bytes) (n : ℕ) : Type 0 where
  pub is-sheet : is_sheet t ≡ true
  pub is-next : is_register (take n a) ≡ true
  pub within : n ≤ length a
  pub enough : verdicts_length (length (sheet_in t).sets) ≤ length b
  pub text : report (register_in (take n a)) (map csn_of (sheet_in t).sets) (verdicts_in (length (sheet_in t).sets) b 0) ≡ closed_text r t

module _ (g : Register) (s : Sheet) where
  verdicts_back : sound_sheet s ≡ true → (b rest : Bytes) → b ≡ flat verdict_bytes (verdicts g s) ++ rest → verdicts_in (length s.sets) b 0 ≡ verdicts g s
  unfolding verdicts
  verdicts_back e b rest p = ap (λ (n : ℕ). verdicts_in n b 0) (sym (length-map s.sets (verdict g s))) ∙ verdicts_at (verdicts g s) b 0 rest (verdicts_small g s e) p

module _ (r t a₀ b₀ : Bytes) where
  pub closed_written : {a b : Bytes} {x : ClosedAnswer} (written : Closed) → length a₀ ≡ register_room → length b₀ ≡ verdict_room
      → ClosePromise (close_outcome r t (length a₀) (length b₀)) a₀ b₀ x a b → x ≡ Ok written → Written r t a b written.register
  unfolding closing next applies bad_register bad_sheet wrong_epoch too_many_rows
  closed_written {a} {b} written la lb p e =
      let o = close_outcome r t register_room verdict_room in
      let k : ClosePromise o a₀ b₀ (Ok written) a b = rw (la, lb, e) at p in
      let x = close_exactly r t register_room verdict_room in
      let d = kept_done_closing o (numbered x) k in
      let w = x.only_else _ d in
      let g = register_in r in
      let s = sheet_in t in
      let is-sheet = not-false (is_sheet t) (w.0 SheetIllFormed) in
      let sound_s = sheet_sound t is-sheet in
      let sound_g = register_sound r (not-false (is_register r) (w.0 RegisterIllFormed)) in
      let sound = next_sound g s sound_g sound_s (eqb-true _ _ (not-false _ (w.0 WrongEpoch))) (ltb-false _ _ (w.0 TooManyRows)) in
      let front : take written.register a ≡ register_bytes (next g s) = ap (λ (c : Closing). c.register) w.1 in
      let vb : take written.verdicts b ≡ flat verdict_bytes (verdicts g s) = ap (λ (c : Closing). c.verdicts) w.1 in
      let vs = verdicts_back g s sound_s b (drop written.verdicts b) (sym (take-append-drop written.verdicts b) ∙ ap (λ (l : Bytes). l ++ drop written.verdicts b) vb) in
      let printed : closed_text r t ≡ report (next g s) (map csn_of s.sets) (verdicts g s) = unfold closed_text text_of in ap (text_of g s) d in
      record {
        is-sheet = is-sheet;
        is-next = ap is_register front ∙ register_is (next g s) sound;
        within = omega (arith, ap (λ (y : ClosedAnswer). (closed_numbers y).1) (kept_wrote_closing o d k).0, length-take written.register a);
        enough = omega (arith, ap length vb, verdicts_long g s, length-take written.verdicts b);
        text = rw (front, register_decoded (next g s) sound, vs) (sym printed);
      }

  -- a refusal prints its number
  pub refused_text_lem : {a b : Bytes} {x : ClosedAnswer} (y : Refusal) → length a₀ ≡ register_room → length b₀ ≡ verdict_room
      → ClosePromise (close_outcome r t (length a₀) (length b₀)) a₀ b₀ x a b → x ≡ Err y → refused_text (refusal_number y) ≡ closed_text r t
  unfolding closed_text text_of
  refused_text_lem y la lb p e = sym (ap (text_of (register_in r) (sheet_in t)) (kept_refused_closing (close_outcome r t register_room verdict_room) (rw (la, lb, e) at p)).0)

-- the same of an equal text
pub put_as : {xs ys l₀ l₁ : Bytes} {at r : ℕ} → xs ≡ ys → Put xs l₀ at l₁ r → Put ys l₀ at l₁ r
put_as e p = rw e at p
