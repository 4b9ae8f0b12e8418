-- A verdict's key is a record's, and a sound sheet's records have keys of 32 bits.
use Prim.Native.Nat.{◌<◌, ◌^◌}
use mathlib.Core.Path.{◌≡◌, refl}
use mathlib.Core.Bool.{true}
use mathlib.Core.List.Memᴰ
use mathlib.Core.List.{Memᴰ}
use Rattle.std.specs.Prelude.{Option, None, Some}
use lib.Dec.{lit<}
use Rattle.rules.specs.declared.row.Record.{Record}
use Rattle.rules.specs.declared.answer.Verdict.{Verdict}
use Rattle.rules.specs.Register.{Register}
use Rattle.rules.specs.Sheet.{WriteSet, Sheet, sound_record, sound_records, sound_sheet}
use Rattle.rules.specs.Closing.{first_wrong, first_lost, judged, verdict, verdicts}
use Rattle.laws.specs.Tests.{left, right}
use Rattle.laws.specs.FormLaws.{fits→}
use Rattle.laws.specs.ListLaws.{all→, first→}
use Rattle.laws.specs.Commits.{set_records}
use Rattle.forms.specs.VerdictsBack.{Small}

judged_small : (a b : Option Record) → ((r : Record) → a ≡ Some r → r.key < 256 ^ 4) → ((r : Record) → b ≡ Some r → r.key < 256 ^ 4) → Small (judged a b)
unfolding judged
judged_small (Some r) b f h = f r refl
judged_small None (Some r) f h = h r refl
judged_small None None f h = lit< tt

module _ (g : Register) (s : Sheet) (sound : sound_sheet s ≡ true) where
  record_small : (w : WriteSet) → Memᴰ w s.sets → (r : Record) → Memᴰ r w.records → r.key < 256 ^ 4
  unfolding sound_records sound_record
  record_small w m r k =
      let e = right _ _ (right _ _ (right _ _ (set_records s w sound m))) in fits→ 4 _ (left _ _ (right _ _ (all→ sound_record e k)))

  verdict_small : (w : WriteSet) → Memᴰ w s.sets → Small (verdict g s w)
  unfolding verdict first_wrong first_lost
  verdict_small w m =
      judged_small (first_wrong g w) (first_lost g s w)
      (λ r e. record_small w m r (first→ _ w.records e).0)
      (λ r e. record_small w m r (first→ _ w.records e).0)

  pub verdicts_small : (v : Verdict) → Memᴰ v (verdicts g s) → Small v
  unfolding verdicts
  verdicts_small v m = let w = Memᴰ.of_map (verdict g s) s.sets m in rw w.2 at (verdict_small w.0 w.1)
