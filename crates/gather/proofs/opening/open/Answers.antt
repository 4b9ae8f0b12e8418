-- Opening refuses as the paper does, and writes the empty sheet.
use Rattle.std.proofs.Common.{ℕ, ◌≤◌, ◌≡◌, refl, false, length, arith, sym}
use Rattle.std.proofs.lemmas.Bool.Decides.{nat_tests}
use Rattle.words.specs.Words.{Bytes, stored}
use Rattle.words.specs.WordLaws.{nothing_stored}
use Rattle.rules.specs.declared.answer.Refusal.TheVariants.{WrongEpoch, WrongRoster, BufferShort}
use Rattle.rules.specs.Lists.{flat}
use Rattle.rules.specs.Sheet.{contents_from, bodies, sheet_bytes}
use Rattle.rules.specs.Gathering.{no_notices, sound_of, empty_sheet}
use Rattle.rules.specs.Promises.{over}
use Rattle.rules.specs.Refused.{open_outcome}
use Rattle.laws.specs.Meets.{refuses, writes}
use Rattle.sheets.specs.SheetReadings.{notices_place, head_length, contents_place, bodies_place, start_bytes}
use Rattle.sheets.specs.SheetSizes.{empty_length}
use Rattle.sheets.specs.SheetWritten.{sheet_stored, sheet_over}
use Rattle.gather.proofs.opening.open.Goals as goal

-- the start of a sound sheet and no notices are all of the empty one
opened : (e r : ℕ) (l₀ : Bytes) {l₁ l₂ : Bytes} → head_length ≤ length l₀ → l₁ ≡ stored l₀ 0 (start_bytes e r false 0) → l₂ ≡ stored l₁ notices_place no_notices → l₂ ≡ over l₀ (sheet_bytes (empty_sheet e r))
unfolding empty_sheet sound_of contents_from bodies flat
opened e r l₀ {l₁} {l₂} h p q =
    sheet_over l₀ (empty_sheet e r) (omega (arith, empty_length e r))
    (sheet_stored l₀ (empty_sheet e r) refl p q (nothing_stored l₂ contents_place) (nothing_stored l₂ (bodies_place 0)))

pub returns-then-epoch-eq0 : goal.returns-then-epoch-eq0
unfolding open_outcome
returns-then-epoch-eq0 c = refuses _ WrongEpoch _ (grind (arith, nat_tests))

pub returns-then-roster-eq0 : goal.returns-then-roster-eq0
unfolding open_outcome
returns-then-roster-eq0 c = refuses _ WrongRoster _ (grind (arith, nat_tests))

pub returns-then-out-lt-SHEET_ROOM : goal.returns-then-out-lt-SHEET_ROOM
unfolding open_outcome
returns-then-out-lt-SHEET_ROOM c = refuses _ BufferShort _ (grind (arith, nat_tests))

pub returns : goal.returns
unfolding open_outcome
returns c =
    let s = empty_sheet c.args.epoch c.args.roster in
    rw c.length_with.ensures (writes _ (sheet_bytes s) _ _ _ (grind (arith, nat_tests)) (sym (empty_length c.args.epoch c.args.roster)) (opened c.args.epoch c.args.roster c.args.out.now (omega arith) c.put_sheet_start.ensures c.put_no_notices.ensures))
