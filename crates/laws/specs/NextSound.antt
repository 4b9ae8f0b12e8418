-- What closing gives is a sound register, where it has at most 1,024 rows, whatever chose the committed sets; so it comes back from its
-- bytes.
use Rattle.std.specs.Prelude.{ℕ, ◌+◌, ◌<◌, ◌≤◌, ◌^◌, ◌≡◌, true, length, Option, None, Some}
use Rattle.std.proofs.Math.Path.{refl}
use Rattle.std.proofs.Common.{◌∙◌, ap, ⊎_elim, arith, le-leb}
use mathlib.Core.List.{List, Memᴰ}
use Rattle.std.proofs.Math.Dec.{lit<}
use Rattle.rules.specs.declared.mark.Mark.{Mark}
use Rattle.rules.specs.declared.row.Row.{Row}
use Rattle.rules.specs.declared.row.Record.{Record}
use Rattle.rules.specs.Numbers.{fresh}
use Rattle.rules.specs.Register.{Register, max_rows, sound_row, sound_register, register_bytes, read_register}
use Rattle.rules.specs.Sheet.{WriteSet, Sheet, sound_record, sound_value, sound_sheet}
use Rattle.rules.specs.Closing.{mark_in, committed}
use Rattle.rules.specs.Becoming.{applied, applied_to, value_by, committed_on, mark_by, mark_after, inserted_row, rows_after, next_rows, next}
use Rattle.laws.specs.Tests.{left, right, both}
use Rattle.laws.specs.FormLaws.{fits→, →fits}
use Rattle.laws.specs.ListLaws.{→all, all→}
use Rattle.laws.specs.RegisterLaws.{sound_row→, sound_register→, →sound_register, read_written}
use Rattle.laws.specs.SheetLaws.{sound_set→, sound_sheet→}
use Rattle.laws.specs.Commits.{set_sound}
use Rattle.laws.specs.Choice.{Choice, chosen, committed_on→}
use Rattle.laws.specs.Applied.{applied_sound, applied_to→}
use Rattle.laws.specs.NextRows.{remaining_row, row_after→, next→, next_ascends}

-- a mark that a row of a register of snapshot s may bear
record MarkSound (s : ℕ) (m : Mark) : Type 0 where
  cen : m.cen ≤ s
  sen : m.sen ≤ m.cen
  csn : m.csn < 256 ^ 8

→sound_row : (s : ℕ) (r : Row) → r.key < 256 ^ 4 → r.value < 256 ^ 8 → MarkSound s r.mark → sound_row s r ≡ true
unfolding sound_row
→sound_row s r k v m =
    both (→fits 4 _ k) (both (→fits 8 _ v) (both (le-leb _ _ m.cen) (both (le-leb _ _ m.sen) (→fits 8 _ m.csn))))

-- a sheet of the epoch after a register's snapshot
module _ (g : Register) (s : Sheet) (sound_g : sound_register g ≡ true) (sound_s : sound_sheet s ≡ true) (after : s.epoch ≡ g.snapshot + 1)
    (c : List WriteSet) (h : Choice g s c) where
  set_mark : (w : WriteSet) → Memᴰ w s.sets → MarkSound (g.snapshot + 1) (mark_in s w)
  set_mark w m =
      let e = sound_set→ s.epoch s.roster w (set_sound s w sound_s m) in record { cen = omega arith; sen = e.sen; csn = e.csn }

  mark_by_lem : (k : ℕ) (old : Mark) (o : Option WriteSet) → committed_on c k ≡ o → MarkSound (g.snapshot + 1) old → MarkSound (g.snapshot + 1) (mark_by s old o)
  unfolding mark_by
  mark_by_lem k old None e m = m
  mark_by_lem k old (Some w) e m = set_mark w (h.in_sheet w (committed_on→ c k w e).0)

  mark_after_lem : (k : ℕ) (old : Mark) → MarkSound (g.snapshot + 1) old → MarkSound (g.snapshot + 1) (mark_after s c k old)
  unfolding mark_after
  mark_after_lem k old m = mark_by_lem k old (committed_on c k) refl m

  record_key_lem : (r : Record) → Memᴰ r (applied c) → r.key < 256 ^ 4
  unfolding sound_record
  record_key_lem r m = fits→ 4 _ (left _ _ (right _ _ (applied_sound g s c h sound_s r m)))

  record_value : (r : Record) → Memᴰ r (applied c) → r.value < 256 ^ 8
  unfolding sound_record sound_value
  record_value r m = fits→ 8 _ (left _ _ (right _ _ (right _ _ (applied_sound g s c h sound_s r m))))

  value_by_lem : (k old : ℕ) (o : Option Record) → applied_to (applied c) k ≡ o → old < 256 ^ 8 → value_by o old < 256 ^ 8
  unfolding value_by
  value_by_lem k old None e v = v
  value_by_lem k old (Some r) e v = record_value r (applied_to→ (applied c) k r e).0

  -- an old row that remains
  remaining_sound : (row : Row) → Memᴰ row g.rows → sound_row (g.snapshot + 1) (remaining_row s c row) ≡ true
  remaining_sound row m =
      let o = sound_row→ g.snapshot row (all→ (sound_row g.snapshot) (sound_register→ g sound_g).rows m) in
      →sound_row (g.snapshot + 1) _ o.key (value_by_lem row.key row.value (applied_to (applied c) row.key) refl o.value)
      (mark_after_lem row.key row.mark (record { cen = omega arith; sen = o.sen; csn = o.csn }))

  -- the row of an insert
  inserted_sound : (r : Record) → Memᴰ r (applied c) → sound_row (g.snapshot + 1) (inserted_row s c r) ≡ true
  unfolding inserted_row
  inserted_sound r m =
      →sound_row (g.snapshot + 1) (inserted_row s c r) (record_key_lem r m) (record_value r m)
      (mark_after_lem r.key fresh (record { cen = omega arith; sen = omega arith; csn = lit< tt }))

  each_sound : (x : Row) → Memᴰ x (rows_after s c g.rows) → sound_row (g.snapshot + 1) x ≡ true
  each_sound x m =
      ⊎_elim
      (λ p. ap (sound_row (g.snapshot + 1)) (row_after→ s c p.0 x p.2).1 ∙ remaining_sound p.0 p.1)
      (λ p. ap (sound_row (g.snapshot + 1)) p.3 ∙ inserted_sound p.0 p.1)
      (next→ g s c x m)

  -- THE NEXT REGISTER IS SOUND
  pub sound_after : length (rows_after s c g.rows) ≤ max_rows → sound_register (record { snapshot = g.snapshot + 1; rows = rows_after s c g.rows }) ≡ true
  sound_after few =
      let e = sound_sheet→ s sound_s in
      →sound_register (record { snapshot = g.snapshot + 1; rows = rows_after s c g.rows })
      (record {
        snapshot = omega arith;
        few = few;
        keys = next_ascends g s c h sound_g sound_s;
        rows = →all (sound_row (g.snapshot + 1)) (rows_after s c g.rows) each_sound;
      })

-- THE REGISTER THAT CLOSING GIVES IS SOUND
pub next_sound : (g : Register) (s : Sheet) → sound_register g ≡ true → sound_sheet s ≡ true → s.epoch ≡ g.snapshot + 1 → length (next_rows g s) ≤ max_rows
    → sound_register (next g s) ≡ true
unfolding next
next_sound g s sound_g sound_s after few = sound_after g s sound_g sound_s after (committed g s) (chosen g s sound_s) few

-- SO IT COMES BACK FROM ITS BYTES
pub next_read : (g : Register) (s : Sheet) → sound_register g ≡ true → sound_sheet s ≡ true → s.epoch ≡ g.snapshot + 1 → length (next_rows g s) ≤ max_rows
    → read_register (register_bytes (next g s)) ≡ Some (next g s)
next_read g s sound_g sound_s after few = read_written (next g s) (next_sound g s sound_g sound_s after few)
