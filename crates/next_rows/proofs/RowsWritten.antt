-- What a loop that puts the next rows keeps: the rows up to a key are put.
use Prim.Native.Nat.{ℕ, ◌+◌, ◌-◌, ◌≤◌, ◌<◌}
use mathlib.Core.Path.{◌≡◌, ◌∙◌, ap}
use mathlib.Core.Bool.{true}
use mathlib.Core.List.{List, [], ◌∷◌, ◌++◌}
use Rattle.std.specs.Prelude.{Option, None, Some}
use native.Mathlib.Omega.{arith}
use lib.ListN.{length, length-append}
use Rattle.rules.specs.declared.row.Row.{Row}
use Rattle.rules.specs.declared.row.Record.{Record}
use Rattle.rules.specs.Register.{Register, sound_register}
use Rattle.rules.specs.Sheet.{Sheet, sound_sheet}
use Rattle.rules.specs.Becoming.{applied, applied_to, row_after, inserted_row, rows_after}
use Rattle.laws.specs.Choice.{Choice}
use Rattle.registers.specs.declared.writing.Writing.{Writing}
use Rattle.registers.specs.RegisterReadings.{row_at}
use Rattle.registers.specs.RegisterWriting.{RowsWritten}
use Rattle.registers.specs.RegisterWritten.{nothing_written, then_written, left_on, left_fewer}
use Rattle.judging.specs.Tables.{committed_in}
use Rattle.judging.specs.Judged.{LeastAbove}
use Rattle.next_rows.specs.NextRow.{inserted_rows, Later}
use Rattle.next_rows.proofs.NextWritten.{up_to, up_to_length, New, At, old_next, old_written, insert_next, insert_record, at_start, none_written, all_written}

-- the next rows
abbrev next_rows : Register → Sheet → List (Option ℕ) → List Row
next_rows g s lost = rows_after s (committed_in s lost) g.rows

-- the next rows up to a key
abbrev rows_to : Register → Sheet → List (Option ℕ) → ℕ → List Row
rows_to g s lost after = up_to after (next_rows g s lost)

-- from the writing w₀ on the rows up to a key are put, and row i and the insert of `next` are to come
pub record Standing (g : Register) (s : Sheet) (lost : List (Option ℕ)) (w₀ : Writing) (i : ℕ) (next : Option ℕ) (w : Writing) : Type 0 where
  pub after : ℕ
  pub at : At g s lost i after next
  pub within : i ≤ length g.rows
  pub added : RowsWritten (rows_to g s lost after) w₀ w

-- the keys that are left to insert, at most
abbrev pub keys_left : Option ℕ → ℕ
keys_left None = 0
keys_left (Some k) = 4294967296 - k

-- a register and a sheet, the table by which sets commit, and a writing that has the next rows left to put
module _ (g : Register) (s : Sheet) (lost : List (Option ℕ)) (sound_g : sound_register g ≡ true) (sound_s : sound_sheet s ≡ true) (chosen : Choice g s (committed_in s lost))
    (w₀ : Writing) (fit : w₀.draft.put + length (next_rows g s lost) ≤ w₀.draft.rows) where
  pub standing_start : (next : Option ℕ) → LeastAbove (New s lost) 0 next → Standing g s lost w₀ 0 next w₀
  standing_start next c =
      record {
        after = 0;
        at = at_start g s lost sound_g sound_s chosen next c;
        within = omega arith;
        added = rw (none_written g s lost sound_g sound_s chosen) nothing_written;
      }

  module _ {w : Writing} {i : ℕ} {next : Option ℕ} (st : Standing g s lost w₀ i next w) where
    -- as many rows as are to be put fit
    room : (k after : ℕ) → length (rows_to g s lost after) ≡ length (rows_to g s lost st.after) + k → w.draft.put + k ≤ w.draft.rows
    room k after e =
        left_on st.added k
        (left_fewer w₀ (length (rows_to g s lost st.after) + k) (length (next_rows g s lost)) (omega (arith, e, up_to_length after (next_rows g s lost))) fit)

    -- a row is next
    module _ (h : i < length g.rows) (before : Later (row_at g i).key next) where
      old_rows : rows_to g s lost (row_at g i).key ≡ rows_to g s lost st.after ++ row_after s (committed_in s lost) (row_at g i)
      old_rows = old_written g s lost sound_g sound_s chosen i st.after next st.at h before

      pub old_room : w.draft.put + length (row_after s (committed_in s lost) (row_at g i)) ≤ w.draft.rows
      old_room =
          room (length (row_after s (committed_in s lost) (row_at g i))) (row_at g i).key
          (ap length old_rows ∙ length-append (rows_to g s lost st.after) (row_after s (committed_in s lost) (row_at g i)))

      pub standing_old : {x : Writing} → RowsWritten (row_after s (committed_in s lost) (row_at g i)) w x → Standing g s lost w₀ (i + 1) next x
      standing_old p =
          record {
            after = (row_at g i).key;
            at = old_next g s lost sound_g sound_s chosen i st.after next st.at h before;
            within = omega arith;
            added = rw old_rows (then_written st.added p);
          }

  -- an insert is next
  module _ {w : Writing} {i key : ℕ} {this : Option ℕ} (stands : Standing g s lost w₀ i this w)
      (is : (this ≡ Some key) × (i < length g.rows → key ≤ (row_at g i).key)) where
    st : Standing g s lost w₀ i (Some key) w
    st = rw is.0 at stands

    is-next : (r : Record) × (applied_to (applied (committed_in s lost)) key ≡ Some r)
        × (rows_to g s lost key ≡ rows_to g s lost st.after ++ inserted_row s (committed_in s lost) r ∷ [])
    is-next = insert_record g s lost sound_g sound_s chosen i st.after key st.at is.1

    pub insert_room : w.draft.put < w.draft.rows
    insert_room =
        let fits = room st 1 key (ap length is-next.2 ∙ length-append (rows_to g s lost st.after) (inserted_row s (committed_in s lost) is-next.0 ∷ [])) in
        omega arith

    pub standing_insert : {x : Writing} (next : Option ℕ)
        → RowsWritten (inserted_rows s (committed_in s lost) key) w x
        → LeastAbove (New s lost) key next → Standing g s lost w₀ i next x
    standing_insert next p c =
        let r = is-next in
        record {
          after = key;
          at = insert_next g s lost sound_g sound_s chosen i st.after key st.at is.1 next c;
          within = st.within;
          added = rw r.2 (then_written st.added (rw r.1 at p));
        }

  pub standing_end : {w : Writing} {i : ℕ} {this : Option ℕ} → Standing g s lost w₀ i this w → (this ≡ None) × (length g.rows ≤ i)
      → RowsWritten (next_rows g s lost) w₀ w
  standing_end {w} {i} stands is =
      let st : Standing g s lost w₀ i None w = rw is.0 at stands in
      rw (all_written g s lost sound_g sound_s chosen i st.after st.at is.1) at st.added
