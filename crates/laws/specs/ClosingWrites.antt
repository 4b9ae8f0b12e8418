-- WHAT CLOSING WRITES, told of the bytes: the next register reads back, each claimed key has one winner, each set stands whole or not
-- at all, and a row's mark changes only when its winner commits.
use Rattle.std.specs.Prelude.{ℕ, ◌≡◌, refl, ◌⊎◌, Bool, true, false, Option, None, Some}
use Rattle.std.proofs.Common.{sym, subst, ◌∙◌, ap, inl, inr}
use mathlib.Core.List.{Memᴰ}
use Rattle.std.proofs.lemmas.Option.{same_Some}
use Rattle.words.specs.Words.{Bytes}
use Rattle.rules.specs.declared.row.Row.{Row}
use Rattle.rules.specs.declared.row.Record.{Record}
use Rattle.rules.specs.Lists.{flat}
use Rattle.rules.specs.Register.{Register, key_of, sound_register, read_register}
use Rattle.rules.specs.Sheet.{WriteSet, Sheet, sound_sheet, read_sheet}
use Rattle.rules.specs.Closing.{present, names, mark_in, winner, verdict, commits, committed, verdicts}
use Rattle.rules.specs.Becoming.{committed_on, next_rows, next}
use Rattle.rules.specs.Refused.{done, Closing, closing, verdict_bytes, close_outcome}
use Rattle.laws.specs.Rising.{rising→, rising_one}
use Rattle.laws.specs.RegisterLaws as register
use Rattle.laws.specs.SheetLaws as sheet
use Rattle.laws.specs.RowBytes.{HasRow, has_row}
use Rattle.laws.specs.Winners.{Claims, Wins, one_winner, winner_is, sheet_apart}
use Rattle.laws.specs.Commits.{names→, VerdictSays, verdict_key_lem}
use Rattle.laws.specs.Choice.{Unnamed, chosen, →committed, committed_on→, committed_on_none→}
use Rattle.laws.specs.NextSound.{next_sound, next_read}
use Rattle.laws.specs.Whole.{Absent, Done, present→, whole, stays, stays_absent}
use Rattle.laws.specs.Marks.{MarkedByWinner, loser_stamps_nothing, winner_marked, mark_changes}
use Rattle.laws.specs.Closers.{closes→}

-- a key has exactly one winner: a claimant that precedes all others
abbrev pub OneWinner : Register → Sheet → ℕ → Type 0
OneWinner g s k = (v : WriteSet) × (winner g s k ≡ Some v) × Wins g s k v × ((u : WriteSet) → Wins g s k u → u ≡ v)

-- what stands at a key of a set that did not commit
pub data AtKey (g : Register) (s : Sheet) (k : ℕ) : Type 0 where
  -- what the record of another set asks, which committed
  by_another : (v : WriteSet) → Memᴰ v (committed g s) → (r : Record) → Memᴰ r v.records → r.key ≡ k → Done (next_rows g s) r → AtKey g s k
  -- the old row as it stood, mark included
  old_row : (row : Row) → Memᴰ row g.rows → row.key ≡ k → Memᴰ row (next_rows g s) → AtKey g s k
  -- nothing, as before
  still_absent : present g k ≡ false → Absent (next_rows g s) k → AtKey g s k

-- the set committed, and every record of it stands
pub record WholeSet (g : Register) (s : Sheet) (w : WriteSet) : Type 0 where
  pub committed : commits g s w ≡ true
  pub stands : (r : Record) → Memᴰ r w.records → Done (next_rows g s) r

-- the set did not commit, and nothing at its keys is there by it
pub record NoneOfSet (g : Register) (s : Sheet) (w : WriteSet) : Type 0 where
  pub not_committed : commits g s w ≡ false
  pub at_its_keys : (r : Record) → Memᴰ r w.records → AtKey g s r.key

-- a closing's bytes, by the register and the sheet that were read
pub record Writes (g : Register) (s : Sheet) (c : Closing) : Type 0 where
  -- the register's bytes read back as the next register
  pub next_register : read_register c.register ≡ Some (next g s)
  -- which has one row a key
  pub one_row : (x y : Row) → Memᴰ x (next_rows g s) → Memᴰ y (next_rows g s) → x.key ≡ y.key → x ≡ y
  -- the verdicts' bytes are those of the sets' verdicts
  pub verdict_bytes_lem : c.verdicts ≡ flat verdict_bytes (verdicts g s)
  -- each says commit, or the smallest key lost or found wrong
  pub verdict_says : (w : WriteSet) → Memᴰ w s.sets → VerdictSays g s w (verdict g s w)
  -- each claimed key has exactly one winner
  pub winners : (k : ℕ) (w : WriteSet) → Claims g s k w → OneWinner g s k
  -- each set committed and stands, or did not and nothing of it does
  pub each_set : (w : WriteSet) → Memᴰ w s.sets → WholeSet g s w ⊎ NoneOfSet g s w
  -- a row's mark changes only when its winner commits
  pub mark_changes : (row x : Row) → Memᴰ row g.rows → Memᴰ x (next_rows g s) → x.key ≡ row.key → (x ≡ row) ⊎ MarkedByWinner g s x
  -- a loser stamps nothing: a row whose winner was lost stands as it stood
  pub losers : (row : Row) (w : WriteSet) → Memᴰ row g.rows → Wins g s row.key w → commits g s w ≡ false → Memᴰ row (next_rows g s)
  -- a row whose winner committed bears its mark
  pub marks : (x : Row) (w : WriteSet) → Memᴰ x (next_rows g s) → Wins g s x.key w → commits g s w ≡ true → x.mark ≡ mark_in s w
  -- a row that no committed set names stands as it stood
  pub others_stay : (row : Row) → Memᴰ row g.rows → Unnamed (committed g s) row.key → Memᴰ row (next_rows g s)
  -- and such a key stays absent
  pub absent_stay : (k : ℕ) → present g k ≡ false → Unnamed (committed g s) k → Absent (next_rows g s) k

-- ---- what stands at a key

-- no committed set names it: the old row stands as it stood, or there is none as before
unnamed_key : (g : Register) (s : Sheet) (k : ℕ) → Unnamed (committed g s) k → AtKey g s k
unnamed_key g s k u = go (present g k) refl
  where
    go : (t : Bool) → present g k ≡ t → AtKey g s k
    go true e =
        let p = present→ g k e in
        old_row p.0 p.1 p.2 (stays g s (committed g s) p.0 p.1 (λ w m n. u w m (ap (names w) (sym p.2) ∙ n)))
    go false e = still_absent e (stays_absent g s (committed g s) k e u)

at_key : (g : Register) (s : Sheet) → sound_sheet s ≡ true → (k : ℕ) → AtKey g s k
at_key g s sound k = go (committed_on (committed g s) k) refl
  where
    go : (o : Option WriteSet) → committed_on (committed g s) k ≡ o → AtKey g s k
    go None e = unnamed_key g s k (committed_on_none→ (committed g s) k e)
    go (Some v) e =
        let f = committed_on→ (committed g s) k v e in
        let r = names→ v k f.1 in
        by_another v f.0 r.0 r.1 r.2 (whole g s (committed g s) (chosen g s sound) sound v f.0 r.0 r.1)

whole_or_none : (g : Register) (s : Sheet) → sound_sheet s ≡ true → (w : WriteSet) → Memᴰ w s.sets → WholeSet g s w ⊎ NoneOfSet g s w
whole_or_none g s sound w m = go (commits g s w) refl
  where
    go : (t : Bool) → commits g s w ≡ t → WholeSet g s w ⊎ NoneOfSet g s w
    go true e = inl (record { committed = e; stands = whole g s (committed g s) (chosen g s sound) sound w (→committed g s m e) })
    go false e = inr (record { not_committed = e; at_its_keys = λ r k. at_key g s sound r.key })

-- one row a key
rows_one : (g : Register) → sound_register g ≡ true → (x y : Row) → Memᴰ x g.rows → Memᴰ y g.rows → x.key ≡ y.key → x ≡ y
rows_one g e x y m k c = rising_one key_of (rising→ key_of 0 g.rows (register.sound_register→ g e).keys).0 m k c

-- WHAT CLOSING WRITES: from a closing that is not refused, by the register and the sheet that its bytes read as
pub closing_writes : (r t : Bytes) (n m : ℕ) (c : Closing) → close_outcome r t n m ≡ done c
    → (g : Register) × (s : Sheet) × (read_register r ≡ Some g) × (read_sheet t ≡ Some s) × Writes g s c
unfolding closing next
closing_writes r t n m c p =
    let q = closes→ r t n m c p in
    let g = q.0 in
    let s = q.1 in
    let h = q.2 in
    let sound_g = (register.written_read r g h.reads_register).1 in
    let sound_s = (sheet.written_read t s h.reads_sheet).1 in (
      g,
      s,
      h.reads_register,
      h.reads_sheet,
      record {
        next_register = ap (λ (k : Closing). read_register k.register) q.3 ∙ next_read g s sound_g sound_s h.follows h.few;
        one_row = rows_one (next g s) (next_sound g s sound_g sound_s h.follows h.few);
        verdict_bytes_lem = ap (λ (k : Closing). k.verdicts) q.3;
        verdict_says = λ w i. verdict_key_lem g s w sound_s i;
        winners = λ k w d. one_winner g s k w sound_s d;
        each_set = whole_or_none g s sound_s;
        mark_changes = mark_changes g s sound_s sound_g;
        losers = λ row w m h e. loser_stamps_nothing g s sound_s row w m (winner_is g s row.key w (sheet_apart s sound_s) h) e;
        marks = λ x w m h e. winner_marked g s sound_s x w m (winner_is g s x.key w (sheet_apart s sound_s) h) e;
        others_stay = stays g s (committed g s);
        absent_stay = stays_absent g s (committed g s);
      },
    )

-- closing of bytes that read as this register and this sheet is done, and gives this
pub record Gives (r t : Bytes) (g : Register) (s : Sheet) (c : Closing) : Type 0 where
  pub reads_register : read_register r ≡ Some g
  pub reads_sheet : read_sheet t ≡ Some s
  pub next_room : ℕ
  pub room : ℕ
  pub is_done : close_outcome r t next_room room ≡ done c

-- what closing writes, by the register and the sheet that were read
pub gives_writes : (r t : Bytes) (g : Register) (s : Sheet) (c : Closing) → Gives r t g s c → Writes g s c
gives_writes r t g s c h =
    let w = closing_writes r t h.next_room h.room c h.is_done in
    let e : w.0 ≡ g = same_Some _ _ (sym w.2 ∙ h.reads_register) in
    let f : w.1 ≡ s = same_Some _ _ (sym w.3 ∙ h.reads_sheet) in
    subst (λ (x : Register). Writes x s c) e (subst (λ (x : Sheet). Writes w.0 x c) f w.4)

-- A ROW THAT NO COMMITTED SET NAMES STAYS BYTE FOR BYTE: its 28 bytes are a row of the register that was read, and of the one that is written
pub bytes_stay : (r t : Bytes) (g : Register) (s : Sheet) (c : Closing) → Gives r t g s c
    → (row : Row) → Memᴰ row g.rows → Unnamed (committed g s) row.key → HasRow r row × HasRow c.register row
unfolding next
bytes_stay r t g s c h row m u =
    let w = gives_writes r t g s c h in
    let read = (register.written_read r g h.reads_register).0 in
    let written = (register.written_read c.register (next g s) w.next_register).0 in (
      subst (λ (b : Bytes). HasRow b row) (sym read) (has_row g m),
      subst (λ (b : Bytes). HasRow b row) (sym written) (has_row (next g s) (w.others_stay row m u)),
    )
