-- What a row becomes and which rows are put, from what the committed sets do to a key as code has it.
use Prim.Native.Nat.{ℕ, ◌+◌}
use mathlib.Core.Path.{◌≡◌, sym, ◌∙◌, ap}
use mathlib.Core.Bool.{true}
use mathlib.Core.List.{List, [], ◌∷◌}
use borrow.Author.Tests.{eq-eqb, ne_eqb}
use lib.ListN.{length}
use Rattle.std.specs.Prelude.{None, Some}
use Rattle.rules.specs.declared.mark.Mark.{Mark}
use Rattle.rules.specs.declared.row.Row.{Row}
use Rattle.rules.specs.Numbers.{fresh}
use Rattle.rules.specs.Register.{Register, sound_register}
use Rattle.rules.specs.Sheet.{WriteSet, Sheet, insert, delete, sound_sheet}
use Rattle.rules.specs.Closing.{mark_in}
use Rattle.rules.specs.Becoming.{applied, value_by, is_deleted, committed_on, mark_by, mark_after, row_after, inserted_row, rows_after}
use Rattle.laws.specs.Choice.{Choice}
use Rattle.laws.specs.Applied.{applied_to→}
use Rattle.laws.specs.NextRows.{gone, remains}
use Rattle.laws.specs.NextCount.{next_count}
use Rattle.registers.specs.declared.writing.Writing.{Writing}
use Rattle.registers.specs.RegisterWriting.{RowsWritten}
use Rattle.judging.specs.declared.committed.Write.{Write}
use Rattle.judging.specs.Answers.{AppliesTo}
use Rattle.judging.specs.Judged.{of_kind}
use Rattle.next_rows.specs.NextRow.{written, rows_of, inserted_rows}

module _ (s : Sheet) (c : List WriteSet) where
  -- where a committed set writes, its mark stands, whatever stood before
  mark_is : (k : ℕ) (old : Mark) {m : Mark} → (w : WriteSet) × (committed_on c k ≡ Some w) × (m ≡ mark_in s w) → mark_after s c k old ≡ m
  unfolding mark_after mark_by
  mark_is k old p = ap (mark_by s old) p.1 ∙ sym p.2

  -- ---- what the committed sets do to a row

  module _ (row : Row) (e : Write) (a : AppliesTo s c row.key (Some e)) where
    pub row_gone : e.record.kind ≡ delete → rows_of None ≡ row_after s c row
    unfolding is_deleted
    row_gone k = sym (gone s c row (ap is_deleted a.0 ∙ eq-eqb e.record.kind delete k))

    pub row_changed : (e.record.kind ≡ delete → ⊥) → rows_of (Some (record { key = row.key; value = e.record.value; mark = e.mark })) ≡ row_after s c row
    unfolding is_deleted value_by
    row_changed k =
        sym
        (remains s c row (ap is_deleted a.0 ∙ ne_eqb e.record.kind delete k)
        ∙ (λ i. record { key = row.key; value = value_by (a.0 i) row.value; mark = mark_is row.key row.mark a.1 i } ∷ []))

  pub row_kept : (row : Row) → AppliesTo s c row.key None → rows_of (Some row) ≡ row_after s c row
  unfolding is_deleted value_by mark_after mark_by
  row_kept row a =
      sym
      (remains s c row (ap is_deleted a.0)
      ∙ (λ i. record { key = row.key; value = value_by (a.0 i) row.value; mark = mark_by s row.mark (a.1 i) } ∷ []))

  -- ---- what is put of an insert

  module _ (k : ℕ) {v : Writing} where
    pub insert_added : {w : Writing} (e : Write) → AppliesTo s c k (Some e) → {x : Row} → x ≡ written e.record e.mark → RowsWritten (x ∷ []) v w
        → RowsWritten (inserted_rows s c k) v w
    unfolding inserted_row
    insert_added e a m h =
        let is_key : e.record.key ≡ k = (applied_to→ (applied c) k e.record a.0).1 in
        let marked : mark_after s c e.record.key fresh ≡ e.mark = ap (λ (j : ℕ). mark_after s c j fresh) is_key ∙ mark_is k fresh a.1 in
        rw a.0 (rw (m ∙ (λ i. record { key = e.record.key; value = e.record.value; mark = sym marked i })) at h)

-- ---- how many rows there are

pub counted : (g : Register) (s : Sheet) (c : List WriteSet) → Choice g s c → sound_register g ≡ true → sound_sheet s ≡ true
    → length (rows_after s c g.rows) + of_kind delete (applied c) ≡ length g.rows + of_kind insert (applied c)
unfolding of_kind
counted g s c h a b = next_count g s c h a b
