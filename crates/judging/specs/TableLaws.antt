-- What the table of lost keys says of a sound sheet is so: where none is lost the set commits; and which sets commit by a table.
use Rattle.std.specs.Prelude.{ℕ, ◌<◌, ◌≡◌, length, Option, None, Some, is_none}
use Rattle.std.proofs.Math.Path.{refl, sym, ap}
use Rattle.std.proofs.Common.{◌∙◌, arith}
use Rattle.std.proofs.Math.Bool.{true, not}
use mathlib.Core.List.Memᴰ
use mathlib.Core.List.{List, Memᴰ}
use borrow.Author.Tests.{not-true, not-false}
use Rattle.rules.specs.declared.row.Record.{Record}
use Rattle.rules.specs.Lists.{keep, up_from}
use Rattle.rules.specs.Register.{Register}
use Rattle.rules.specs.Sheet.{WriteSet, Sheet, sound_sheet}
use Rattle.rules.specs.Closing.{wins, first_lost, commits, committed}
use Rattle.rules.specs.Becoming.{applied}
use Rattle.laws.specs.Tests.{not_true_false}
use Rattle.laws.specs.ListLaws.{first→, first_none, keep→, →keep, up_from→, →up_from}
use Rattle.laws.specs.Says.{clash}
use Rattle.laws.specs.SheetLaws.{sound_set→}
use Rattle.laws.specs.Winners.{sheet_apart, winner→, wins→}
use Rattle.laws.specs.Commits.{set_sound, fit_record_lem, commits→, →commit, commits_of}
use Rattle.laws.specs.Applied.{→applied}
use Rattle.laws.specs.Places.{kept_places}
use Rattle.sheets.specs.SheetReadings.{set_at, no_set, record_at}
use Rattle.sheets.specs.SheetMembers.{set_in_lem, record_in_lem}
use Rattle.judging.specs.Tables.{first_key, none_at, committed_in, lost_key, Tells}

-- ---- no lost key

module _ (g : Register) (s : Sheet) (w : WriteSet) (sound : sound_sheet s ≡ true) (m : Memᴰ w s.sets) where
  -- a set that wins all its keys is fit, since it wins one
  none_lost : first_lost g s w ≡ None → commits g s w ≡ true
  unfolding first_lost
  none_lost p =
      let won : (r : Record) → Memᴰ r w.records → wins g s w r.key ≡ true = λ r k. not-false _ (first_none (λ r. not (wins g s w r.key)) w.records p r k) in
      let a = sheet_apart s sound in
      let n = (sound_set→ s.epoch s.roster w (set_sound s w sound m)).some_records in
      let k = record_in_lem w 0 (omega arith) in
      let f = (winner→ g s (record_at w 0).key w a (wins→ g s (record_at w 0).key w a m (won (record_at w 0) k))).claimant.is_fit in
      commits_of g s w (→commit g s w (λ r i. (fit_record_lem g w f r i, won r i)))

  lost_commits : is_none (lost_key g s w) ≡ commits g s w
  unfolding lost_key first_lost
  lost_commits = go (first_lost g s w) refl
    where
      go : (o : Option Record) → first_lost g s w ≡ o → is_none (first_key o) ≡ commits g s w
      go None p = sym (none_lost p)
      go (Some r) p =
          let f = first→ (λ r. not (wins g s w r.key)) w.records p in
          sym (not_true_false (λ e. clash (commits→ g s w e r f.0).1 (not-true _ f.1)))

module _ (g : Register) (s : Sheet) (lost : List (Option ℕ)) (sound : sound_sheet s ≡ true) (t : Tells (lost_key g s) s lost) (i : ℕ) (h : i < length s.sets) where
  pub commit_told : none_at lost i ≡ commits g s (set_at s i)
  unfolding none_at
  commit_told = ap is_none (t i h) ∙ lost_commits g s (set_at s i) sound (set_in_lem s i h)

-- THE SETS THAT COMMIT BY THE TABLE OF LOST KEYS ARE THOSE THAT CLOSING COMMITS
pub table_commits : (g : Register) (s : Sheet) (lost : List (Option ℕ)) → sound_sheet s ≡ true → Tells (lost_key g s) s lost → committed_in s lost ≡ committed g s
unfolding committed_in committed set_at
table_commits g s lost sound t = kept_places no_set (commits g s) (none_at lost) s.sets (commit_told g s lost sound t)

-- ---- the sets that commit by a table, by their places

-- a set stands at a place that has no key
pub record CommitsAt (s : Sheet) (lost : List (Option ℕ)) (w : WriteSet) : Type 0 where
  pub number : ℕ
  pub within : number < length s.sets
  pub no_key : none_at lost number ≡ true
  pub is_set : set_at s number ≡ w

module _ (s : Sheet) (lost : List (Option ℕ)) where
  pub committed_in→ : (w : WriteSet) → Memᴰ w (committed_in s lost) → CommitsAt s lost w
  unfolding committed_in
  committed_in→ w m =
      let p = Memᴰ.of_map (set_at s) (keep (none_at lost) (up_from 0 (length s.sets))) m in
      let q = keep→ (none_at lost) (up_from 0 (length s.sets)) p.1 in
      let h = (up_from→ 0 (length s.sets) q.0).1 in
      record { number = p.0; within = omega arith; no_key = q.1; is_set = p.2 }

  pub →committed_in : (i : ℕ) → i < length s.sets → none_at lost i ≡ true → Memᴰ (set_at s i) (committed_in s lost)
  unfolding committed_in
  →committed_in i h e = Memᴰ.map (set_at s) (→keep (none_at lost) (→up_from 0 (length s.sets) (omega arith) (omega arith)) e)

  -- the records of such a set are applied
  pub applied_at : (i j : ℕ) → i < length s.sets → none_at lost i ≡ true → j < length (set_at s i).records → Memᴰ (record_at (set_at s i) j) (applied (committed_in s lost))
  applied_at i j h e k =
      →applied (committed_in s lost) (record_at (set_at s i) j)
      (record { set = set_at s i; committed = →committed_in i h e; in_set = record_in_lem (set_at s i) j k })
