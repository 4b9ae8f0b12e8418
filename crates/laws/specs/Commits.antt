-- WHO COMMITS: a set of a sound sheet commits just when it is fit and precedes every other fit set on each of its keys; a verdict's key
-- is the smallest lost or found wrong; no two committed sets share a key; where any set is fit, some set commits.
use Rattle.std.specs.Prelude.{ℕ, ◌≤◌, ◌<◌, ◌≡◌, refl, ◌⊎◌, Bool, true, false, not, eqb, Option, None, Some}
use Rattle.std.proofs.Common.{sym, ◌∙◌, ap, ap₂, arith, eqb-true, eq-eqb}
use Rattle.std.proofs.lemmas.Bool.{false≢true, not-true, not-false}
use mathlib.Core.List.{List, [], ◌∷◌, Memᴰ}
use Rattle.std.proofs.lemmas.Option.{same_Some}
use Rattle.rules.specs.declared.row.Record.{Record}
use Rattle.rules.specs.declared.answer.Verdict.{Verdict}
use Rattle.rules.specs.declared.answer.Verdict.TheVariants.{Commit, Lost, Unfit}
use Rattle.rules.specs.Lists.{keep, first}
use Rattle.rules.specs.Numbers.{precedes}
use Rattle.rules.specs.Register.{Register}
use Rattle.rules.specs.Sheet.{WriteSet, Sheet, record_key, sound_records, sound_set, sound_sheet}
use Rattle.rules.specs.Closing.{fit_record, fit, names, mark_in, winner, wins, first_wrong, first_lost, judged, verdict, is_commit, commits}
use Rattle.laws.specs.Tests.{left, right}
use Rattle.laws.specs.Says.{Says}
use Rattle.laws.specs.ListLaws.{any→, →any, →all, all→, keep→, →keep, first→, first_none}
use Rattle.laws.specs.SheetLaws.{sound_sheet→}
use Rattle.laws.specs.Rising.{Rising, rising→, rising_first}
use Rattle.laws.specs.Winners.{Wins, Leads, winner→, winner_is, wins→, →wins, leader_of, sheet_apart}

-- ---- the sets and records of a sound sheet

pub set_sound : (s : Sheet) (w : WriteSet) → sound_sheet s ≡ true → Memᴰ w s.sets → sound_set s.epoch s.roster w ≡ true
set_sound s w e m = all→ (sound_set s.epoch s.roster) (sound_sheet→ s e).sets m

pub set_records : (s : Sheet) (w : WriteSet) → sound_sheet s ≡ true → Memᴰ w s.sets → sound_records w.records ≡ true
unfolding sound_set
set_records s w e m = right _ _ (right _ _ (right _ _ (set_sound s w e m)))

-- their keys ascend from 1 on
pub records_rising : (rs : List Record) → sound_records rs ≡ true → Rising record_key rs × ((r : Record) → Memᴰ r rs → 0 < r.key)
unfolding sound_records
records_rising rs e = rising→ record_key 0 rs (left _ _ (right _ _ (right _ _ e)))

-- ---- fit

pub fit_record_lem : (g : Register) (w : WriteSet) → fit g w ≡ true → (r : Record) → Memᴰ r w.records → fit_record g r ≡ true
unfolding fit
fit_record_lem g w f r k = all→ (fit_record g) f k

pub →fit : (g : Register) (w : WriteSet) → ((r : Record) → Memᴰ r w.records → fit_record g r ≡ true) → fit g w ≡ true
unfolding fit
→fit g w h = →all (fit_record g) w.records h

pub names_own : (w : WriteSet) (r : Record) → Memᴰ r w.records → names w r.key ≡ true
unfolding names
names_own w r m = →any (λ q. eqb q.key r.key) m (eq-eqb r.key r.key refl)

pub names→ : (w : WriteSet) (k : ℕ) → names w k ≡ true → (r : Record) × Memᴰ r w.records × (r.key ≡ k)
unfolding names
names→ w k e = let r = any→ (λ q. eqb q.key k) w.records e in (r.0, r.1, eqb-true r.0.key k r.2)

-- ---- committed sets

first_of_none : {A : Type 0} (p : A → Bool) (xs : List A) → ((x : A) → Memᴰ x xs → p x ≡ false) → first p xs ≡ None
unfolding first
first_of_none p [] h = refl
first_of_none p (x ∷ xs) h = rw (h x (Memᴰ.head refl)) (first_of_none p xs (λ y m. h y (Memᴰ.tail m)))

judged→ : (a b : Option Record) → is_commit (judged a b) ≡ true → (a ≡ None) × (b ≡ None)
unfolding is_commit judged
judged→ (Some r) b e = absurd (false≢true e)
judged→ None (Some r) e = absurd (false≢true e)
judged→ None None e = (refl, refl)

-- a committed set is fit, and wins each of its keys
pub commits→ : (g : Register) (s : Sheet) (w : WriteSet) → commits g s w ≡ true
    → (r : Record) → Memᴰ r w.records → (fit_record g r ≡ true) × (wins g s w r.key ≡ true)
unfolding commits verdict first_wrong first_lost
commits→ g s w e r m =
    let c = judged→ _ _ e in
    (not-false _ (first_none (λ r. not (fit_record g r)) w.records c.0 r m), not-false _ (first_none (λ r. not (wins g s w r.key)) w.records c.1 r m))

pub →commit : (g : Register) (s : Sheet) (w : WriteSet)
    → ((r : Record) → Memᴰ r w.records → (fit_record g r ≡ true) × (wins g s w r.key ≡ true)) → verdict g s w ≡ Commit
unfolding verdict judged first_wrong first_lost
→commit g s w h =
    ap₂ judged
    (first_of_none (λ r. not (fit_record g r)) w.records (λ r k. ap not (h r k).0))
    (first_of_none (λ r. not (wins g s w r.key)) w.records (λ r k. ap not (h r k).1))

pub commits_of : (g : Register) (s : Sheet) (w : WriteSet) → verdict g s w ≡ Commit → commits g s w ≡ true
unfolding commits is_commit
commits_of g s w e = ap is_commit e

-- fit, and ahead of every other fit set on each of its keys
pub record Committed (g : Register) (s : Sheet) (w : WriteSet) : Type 0 where
  pub is_fit : fit g w ≡ true
  pub ahead : (k : ℕ) → names w k ≡ true → (v : WriteSet) → Memᴰ v s.sets → fit g v ≡ true → names v k ≡ true
      → (v ≡ w) ⊎ (precedes (mark_in s w) (mark_in s v) ≡ true)

committed_wins : (g : Register) (s : Sheet) (w : WriteSet) → Memᴰ w s.sets → Committed g s w → (k : ℕ) → names w k ≡ true → Wins g s k w
committed_wins g s w m c k n =
    record {
      claimant = record { in_sheet = m; is_fit = c.is_fit; named = n };
      precedes_others = λ v d. c.ahead k n v d.in_sheet d.is_fit d.named;
    }

-- A SET OF A SOUND SHEET COMMITS JUST WHEN IT IS FIT AND PRECEDES EVERY OTHER FIT SET ON EACH OF ITS KEYS
pub commits_iff : (g : Register) (s : Sheet) (w : WriteSet) → sound_sheet s ≡ true → Memᴰ w s.sets → Says (commits g s w) (Committed g s w)
commits_iff g s w e m =
    let a = sheet_apart s e in
    record {
      told = λ h. record {
        is_fit = →fit g w (λ r k. (commits→ g s w h r k).0);
        ahead = λ k n v i f o.
            let r = names→ w k n in
            let won : wins g s w k ≡ true = rw r.2 at (commits→ g s w h r.0 r.1).1 in
            (winner→ g s k w a (wins→ g s k w a m won)).precedes_others v (record { in_sheet = i; is_fit = f; named = o });
      };
      test = λ c. commits_of g s w
          (→commit g s w (λ r k. (fit_record_lem g w c.is_fit r k, →wins g s r.key w (winner_is g s r.key w a (committed_wins g s w m c r.key (names_own w r k))))));
    }

-- NO TWO COMMITTED SETS SHARE A KEY
pub commits_apart : (g : Register) (s : Sheet) (v w : WriteSet) (p q : Record) → sound_sheet s ≡ true
    → Memᴰ v s.sets → Memᴰ w s.sets → commits g s v ≡ true → commits g s w ≡ true
    → Memᴰ p v.records → Memᴰ q w.records → p.key ≡ q.key → v ≡ w
commits_apart g s v w p q e i j a b m n c =
    let t = sheet_apart s e in
    same_Some v w
    (sym (wins→ g s p.key v t i (commits→ g s v a p m).1) ∙ ap (winner g s) c ∙ wins→ g s q.key w t j (commits→ g s w b q n).1)

-- ---- who leads commits

-- WHO PRECEDES ALL FIT SETS COMMITS
pub leader_commits : (g : Register) (s : Sheet) (w : WriteSet) → sound_sheet s ≡ true → Memᴰ w s.sets → fit g w ≡ true
    → Leads s (keep (fit g) s.sets) w → commits g s w ≡ true
leader_commits g s w e m f l =
    (commits_iff g s w e m).test (record { is_fit = f; ahead = λ k n v i h o. l v (→keep (fit g) i h) })

-- IF ANY SET IS FIT, SOME SET COMMITS: THE ONE THAT PRECEDES ALL FIT SETS
pub some_commits : (g : Register) (s : Sheet) (w : WriteSet) → sound_sheet s ≡ true → Memᴰ w s.sets → fit g w ≡ true
    → (v : WriteSet) × Memᴰ v s.sets × Leads s (keep (fit g) s.sets) v × (commits g s v ≡ true)
some_commits g s w e m f =
    let a = sheet_apart s e in
    let r = leader_of s (keep (fit g) s.sets) (λ x y i j c. a x y (keep→ (fit g) s.sets i).0 (keep→ (fit g) s.sets j).0 c) (→keep (fit g) m f) in
    let k = keep→ (fit g) s.sets r.1 in
    (r.0, k.0, r.2, leader_commits g s r.0 e k.0 k.1 r.2)

-- ---- the verdict's key

-- k is the smallest key of those records of a set of which P holds, and never 0
pub record Smallest (w : WriteSet) (P : Record → Type 0) (k : ℕ) : Type 0 where
  pub found : (r : Record) × Memᴰ r w.records × (r.key ≡ k) × P r
  pub smallest : (q : Record) → Memᴰ q w.records → P q → k ≤ q.key
  pub some_key : 1 ≤ k

-- a record that the register does not bear
abbrev pub FoundWrong : Register → Record → Type 0
FoundWrong g r = fit_record g r ≡ false

-- a record whose key the set does not win
abbrev pub NotWon : Register → Sheet → WriteSet → Record → Type 0
NotWon g s w r = wins g s w r.key ≡ false

-- what a verdict says
abbrev pub VerdictSays : Register → Sheet → WriteSet → Verdict → Type 0
VerdictSays g s w Commit = Committed g s w
VerdictSays g s w (Lost k) = (fit g w ≡ true) × Smallest w (NotWon g s w) k
VerdictSays g s w (Unfit k) = Smallest w (FoundWrong g) k

first_smallest : (w : WriteSet) (p : Record → Bool) {r : Record} → sound_records w.records ≡ true → first (λ q. not (p q)) w.records ≡ Some r
    → Smallest w (λ q. p q ≡ false) r.key
first_smallest w p {r} e h =
    let t = records_rising w.records e in
    let f = first→ (λ q. not (p q)) w.records h in
    let pos : 0 < r.key = t.1 r f.0 in
    record {
      found = (r, f.0, refl, not-true _ f.1);
      smallest = λ q m n. rising_first record_key (λ q. not (p q)) t.0 h m (ap not n);
      some_key = omega arith;
    }

pub no_wrong_fit : (g : Register) (w : WriteSet) → first_wrong g w ≡ None → fit g w ≡ true
unfolding first_wrong
no_wrong_fit g w n = →fit g w (λ r k. not-false _ (first_none (λ r. not (fit_record g r)) w.records n r k))

-- A VERDICT'S KEY IS THE SMALLEST LOST OR FOUND WRONG, AND NEVER 0
pub verdict_key_lem : (g : Register) (s : Sheet) (w : WriteSet) → sound_sheet s ≡ true → Memᴰ w s.sets → VerdictSays g s w (verdict g s w)
unfolding verdict judged first_wrong first_lost
verdict_key_lem g s w e m = go (first_wrong g w) refl (first_lost g s w) refl
  where
    go : (a : Option Record) → first_wrong g w ≡ a → (b : Option Record) → first_lost g s w ≡ b → VerdictSays g s w (judged a b)
    go (Some r) p b q = first_smallest w (fit_record g) (set_records s w e m) p
    go None p (Some r) q = (no_wrong_fit g w p, first_smallest w (λ r. wins g s w r.key) (set_records s w e m) q)
    go None p None q = (commits_iff g s w e m).told (commits_of g s w (ap₂ judged p q))
