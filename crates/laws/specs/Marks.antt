-- A ROW'S MARK CHANGES ONLY WHEN ITS WINNER COMMITS: the committed set on a key is the winner, where the winner commits; so a loser
-- stamps nothing, and an old row stands as it stood or its winner committed.
use Rattle.std.specs.Prelude.{ℕ, ◌≡◌, refl, ◌⊎◌, Bool, true, false, if◌then◌else◌, Option, None, Some}
use Rattle.std.proofs.Common.{sym, ◌∙◌, inl, inr}
use Rattle.std.proofs.Math.Path.{ap}
use mathlib.Core.List.{Memᴰ}
use Rattle.std.proofs.lemmas.Option.{same_Some, none-some}
use Rattle.rules.specs.declared.mark.Mark.{Mark}
use Rattle.rules.specs.declared.row.Row.{Row}
use Rattle.rules.specs.Register.{Register, key_of, sound_register}
use Rattle.rules.specs.Sheet.{WriteSet, Sheet, sound_sheet}
use Rattle.rules.specs.Closing.{names, mark_in, winner, wins, commits, committed}
use Rattle.rules.specs.Becoming.{committed_on, mark_by, mark_after, next_rows}
use Rattle.laws.specs.Says.{clash}
use Rattle.laws.specs.Rising.{rising_one}
use Rattle.laws.specs.Winners.{Wins, winner→, wins→, sheet_apart}
use Rattle.laws.specs.Commits.{names→, commits→}
use Rattle.laws.specs.Choice.{Unnamed, chosen, committed→, →committed, committed_on→, committed_on_is, committed_on_none→, →committed_on_none}
use Rattle.laws.specs.NextRows.{next_rising}
use Rattle.laws.specs.Whole.{marked, stays}

-- a set, if there is one and it commits
abbrev pub if_commits : Register → Sheet → Option WriteSet → Option WriteSet
if_commits g s None = None
if_commits g s (Some w) = if commits g s w then Some w else None

-- the row's winner committed, and it bears that mark
pub record MarkedByWinner (g : Register) (s : Sheet) (x : Row) : Type 0 where
  pub by : WriteSet
  pub is_winner : Wins g s x.key by
  pub did_commit : commits g s by ≡ true
  pub bears : x.mark ≡ mark_in s by

module _ (g : Register) (s : Sheet) (sound : sound_sheet s ≡ true) where
  -- the committed set that names a key wins it
  names_wins : (k : ℕ) (w : WriteSet) → Memᴰ w (committed g s) → names w k ≡ true → winner g s k ≡ Some w
  names_wins k w m n =
      let c = committed→ g s m in
      let r = names→ w k n in
      let won : wins g s w k ≡ true = rw r.2 at (commits→ g s w c.1 r.0 r.1).1 in
      wins→ g s k w (sheet_apart s sound) c.0 won

  -- a key that nobody wins, or a loser, is named by no committed set
  unwon_unnamed : (k : ℕ) → winner g s k ≡ None → Unnamed (committed g s) k
  unwon_unnamed k e w m n = none-some w (sym e ∙ names_wins k w m n)

  pub loser_unnamed : (k : ℕ) (w : WriteSet) → winner g s k ≡ Some w → commits g s w ≡ false → Unnamed (committed g s) k
  loser_unnamed k w e c v m n =
      let same : v ≡ w = same_Some v w (sym (names_wins k v m n) ∙ e) in clash (ap (commits g s) (sym same) ∙ (committed→ g s m).1) c

  winner_on : (k : ℕ) (w : WriteSet) → winner g s k ≡ Some w → commits g s w ≡ true → committed_on (committed g s) k ≡ Some w
  winner_on k w e c =
      let i = (winner→ g s k w (sheet_apart s sound) e).claimant in
      committed_on_is g s (committed g s) (chosen g s sound) k w (→committed g s i.in_sheet c) i.named

  -- THE COMMITTED SET ON A KEY IS THE WINNER, WHERE THE WINNER COMMITS
  pub committed_winner : (k : ℕ) → committed_on (committed g s) k ≡ if_commits g s (winner g s k)
  committed_winner k = go (winner g s k) refl
    where
      by : (w : WriteSet) → winner g s k ≡ Some w → (t : Bool) → commits g s w ≡ t → committed_on (committed g s) k ≡ (if t then Some w else None)
      by w e true c = winner_on k w e c
      by w e false c = →committed_on_none (committed g s) k (loser_unnamed k w e c)

      go : (o : Option WriteSet) → winner g s k ≡ o → committed_on (committed g s) k ≡ if_commits g s o
      go None e = →committed_on_none (committed g s) k (unwon_unnamed k e)
      go (Some w) e = by w e (commits g s w) refl

  -- A ROW'S MARK IS ITS WINNER'S WHERE THE WINNER COMMITS, ELSE ITS OLD ONE
  pub mark_is : (k : ℕ) (old : Mark) → mark_after s (committed g s) k old ≡ mark_by s old (if_commits g s (winner g s k))
  unfolding mark_after
  mark_is k old = ap (mark_by s old) (committed_winner k)

  -- A LOSER STAMPS NOTHING: a row whose winner was lost stands as it stood
  pub loser_stamps_nothing : (row : Row) (w : WriteSet) → Memᴰ row g.rows → winner g s row.key ≡ Some w → commits g s w ≡ false → Memᴰ row (next_rows g s)
  loser_stamps_nothing row w m e c = stays g s (committed g s) row m (loser_unnamed row.key w e c)

  -- so does a row that has no winner
  pub unwon_stays : (row : Row) → Memᴰ row g.rows → winner g s row.key ≡ None → Memᴰ row (next_rows g s)
  unwon_stays row m e = stays g s (committed g s) row m (unwon_unnamed row.key e)

  -- A ROW WHOSE WINNER COMMITTED BEARS ITS MARK
  pub winner_marked : (x : Row) (w : WriteSet) → Memᴰ x (next_rows g s) → winner g s x.key ≡ Some w → commits g s w ≡ true → x.mark ≡ mark_in s w
  winner_marked x w m e c =
      let f = committed_on→ (committed g s) x.key w (winner_on x.key w e c) in marked g s (committed g s) (chosen g s sound) x w m f.0 f.1

  -- AN OLD ROW STANDS AS IT STOOD, OR ITS WINNER COMMITTED AND IT BEARS THAT MARK
  pub mark_changes : sound_register g ≡ true → (row x : Row) → Memᴰ row g.rows → Memᴰ x (next_rows g s) → x.key ≡ row.key → (x ≡ row) ⊎ MarkedByWinner g s x
  mark_changes sound_g row x m n e = go (committed_on (committed g s) x.key) refl
    where
      go : (o : Option WriteSet) → committed_on (committed g s) x.key ≡ o → (x ≡ row) ⊎ MarkedByWinner g s x
      go None p =
          let u : Unnamed (committed g s) row.key = rw e at (committed_on_none→ (committed g s) x.key p) in
          inl (rising_one key_of (next_rising g s (committed g s) (chosen g s sound) sound_g sound) n (stays g s (committed g s) row m u) e)
      go (Some w) p =
          let f = committed_on→ (committed g s) x.key w p in
          let e = names_wins x.key w f.0 f.1 in
          let c = (committed→ g s f.0).1 in
          inr (record { by = w; is_winner = winner→ g s x.key w (sheet_apart s sound) e; did_commit = c; bears = winner_marked x w n e c })
