-- The steps of writing a register, put together: whoever writes one is proved from these laws and needs no place.
use Rattle.std.specs.Prelude.{ℕ, ◌+◌, ◌≤◌, ◌≡◌, refl, List, [], ◌++◌, length}
use Rattle.std.proofs.Common.{sym, ◌∙◌, ap, append-nil, append_assoc, add-zero, arith, length-append}
use Rattle.words.specs.Words.{Bytes}
use Rattle.words.specs.WordLaws.{stored_front}
use Rattle.rules.specs.declared.row.Row.{Row}
use Rattle.rules.specs.Register.{Register, max_rows, register_bytes}
use Rattle.rules.specs.Refused.{register_room}
use Rattle.rules.specs.Promises.{over}
use Rattle.laws.specs.RegisterLaws.{register_length_lem}
use Rattle.registers.specs.declared.writing.Draft.{Draft}
use Rattle.registers.specs.declared.writing.Writing.{Writing}
use Rattle.registers.specs.RegisterForm.{register_head}
use Rattle.registers.specs.RegisterWriting.{register_length, RowsPut, RowsFit, RowsAdded, RowsWritten}

-- ---- lengths

pub length_fits : (n : ℕ) → n ≤ max_rows → register_length n ≤ register_room
unfolding register_length
length_fits n h = omega arith

pub register_long : (g : Register) → length (register_bytes g) ≡ register_length (length g.rows)
unfolding register_length
register_long g = register_length_lem g

-- ---- steps

module _ {d : Draft} {l : Bytes} where
  pub none_added : RowsAdded [] d l d l
  none_added =
      record {
        same = refl;
        put = sym (add-zero d.put);
        long = refl;
        behind = λ s stood before p. rw append-nil p;
      }

  pub then_added : {e f : Draft} {m n : Bytes} {xs ys : List Row} → RowsAdded xs d l e m → RowsAdded ys e m f n → RowsAdded (xs ++ ys) d l f n
  then_added {xs = xs} {ys = ys} p q =
      record {
        same = q.same ∙ p.same;
        put = omega (arith, p.put, q.put, length-append xs ys);
        long = q.long ∙ p.long;
        behind = λ s stood before r. rw (append_assoc stood xs ys) at (q.behind s (stood ++ xs) before (p.behind s stood before r));
      }

  -- what is left to be put fits behind what was added
  pub fits_on : {e : Draft} {m : Bytes} {xs : List Row} → RowsAdded xs d l e m → (k : ℕ) → RowsFit d (length xs + k) l → RowsFit e k m
  fits_on p k h =
      record {
        few = rw p.same h.few;
        room = rw (p.same, p.long) h.room;
        left = omega (arith, p.same, p.put, h.left);
      }

  pub fits_fewer : (j k : ℕ) → j ≤ k → RowsFit d k l → RowsFit d j l
  fits_fewer j k h r = record { few = r.few; room = r.room; left = omega (arith, r.left) }

-- ---- the same steps of a draft with its buffer, which has the room, so that what is left to be put is all that must fit

pub nothing_written : {w : Writing} → RowsWritten [] w w
nothing_written = record { lent = refl; added = none_added }

pub then_written : {v w x : Writing} {xs ys : List Row} → RowsWritten xs v w → RowsWritten ys w x → RowsWritten (xs ++ ys) v x
then_written p q = record { lent = q.lent ∙ p.lent; added = then_added p.added q.added }

pub fits : (w : Writing) (k : ℕ) → w.draft.put + k ≤ w.draft.rows → RowsFit w.draft k w.out.now
fits w k h = record { few = w.few; room = w.room; left = h }

pub left_on : {w x : Writing} {xs : List Row} → RowsWritten xs w x → (k : ℕ) → w.draft.put + (length xs + k) ≤ w.draft.rows → x.draft.put + k ≤ x.draft.rows
left_on {w} {xs = xs} p k h = (fits_on p.added k (fits w (length xs + k) h)).left

pub left_fewer : (w : Writing) (j k : ℕ) → j ≤ k → w.draft.put + k ≤ w.draft.rows → w.draft.put + j ≤ w.draft.rows
left_fewer w j k h r = (fits_fewer j k h (fits w k r)).left

-- ---- the end

-- WHERE ALL ROWS ARE PUT THE REGISTER STANDS, over what the buffer held
pub finished : (g : Register) {before after : Bytes} {d : Draft} → d.rows ≡ length g.rows → register_length d.rows ≤ length before
    → RowsPut g.snapshot g.rows before d after → after ≡ over before (register_bytes g)
unfolding over register_head register_bytes
finished g {before} n room p =
    let bytes = rw n at p.bytes in
    bytes ∙ stored_front before (register_bytes g) (omega (arith, register_long g, ap register_length n, room))
