-- ONE WINNER: every key that a fit set of a sound sheet claims has exactly one winner, a claimant that precedes all others.
use Rattle.std.specs.Prelude.{ℕ, ◌≡◌, ◌⊎◌, Bool, true, false, eqb, Option, None, Some}
use Rattle.std.proofs.Math.Path.{refl, ap}
use Rattle.std.proofs.Common.{sym, ◌∙◌}
use Rattle.std.proofs.Math.Logic.{inl, inr, ⊎_elim}
use Rattle.std.proofs.lemmas.Bool.{false≢true}
use mathlib.Core.List.Memᴰ
use mathlib.Core.List.{List, [], ◌∷◌, Memᴰ}
use Rattle.std.proofs.Math.Decide.{ℕ_discrete}
use borrow.Author.Tests.{eqb-true, eq-eqb}
use Rattle.rules.specs.declared.mark.Mark.{Mark}
use Rattle.rules.specs.Lists.{◌or◌, first}
use Rattle.rules.specs.Numbers.{precedes}
use Rattle.rules.specs.Register.{Register}
use Rattle.rules.specs.Sheet.{WriteSet, Sheet, csn_of, sound_sheet}
use Rattle.rules.specs.Closing.{fit, names, claims, claimants, mark_in, foremost, winner, is_set, wins}
use Rattle.laws.specs.Tests.{left, right, both, or→, or_left, or_right}
use Rattle.laws.specs.ListLaws.{→all, all→, keep→, →keep, first→, first_none}
use Rattle.laws.specs.Precedence.{transitive, asymmetric, total}
use Rattle.laws.specs.Rising.{rising_one}
use Rattle.laws.specs.Distinct.{Apart, sheet_sorted}

-- ---- the sets of a sound sheet are in order, so no two share a commit number

pub sheet_apart : (s : Sheet) → sound_sheet s ≡ true → Apart s.sets
sheet_apart s e v w m k c = rising_one csn_of (sheet_sorted s e) m k c

-- ---- the one that precedes all others

-- w is the only one of a list that no other precedes
abbrev pub Leads : Sheet → List WriteSet → WriteSet → Type 0
Leads s ws w = (v : WriteSet) → Memᴰ v ws → (v ≡ w) ⊎ (precedes (mark_in s w) (mark_in s v) ≡ true)

-- of a list of at least one set, some set leads
leader : (s : Sheet) (w : WriteSet) (ws : List WriteSet) → Apart (w ∷ ws) → (v : WriteSet) × Memᴰ v (w ∷ ws) × Leads s (w ∷ ws) v
leader s w [] a = (w, Memᴰ.head refl, λ v m. ⊎_elim inl (λ k. absurd (Memᴰ.not-nil k)) (Memᴰ.cases_cons m))
leader s w (u ∷ us) a =
    let r = leader s u us (λ x y m k c. a x y (Memᴰ.tail m) (Memᴰ.tail k) c) in
    let b = r.0 in
    let m = r.1 in
    let l = r.2 in
    elim (ℕ_discrete w.csn b.csn) [
      | yes c ↦
          (b, Memᴰ.tail m, λ v k. ⊎_elim (λ q. inl (q ∙ a w b (Memᴰ.head refl) (Memᴰ.tail m) c)) (λ q. l v q) (Memᴰ.cases_cons k))
      | no d ↦ pick b m l (precedes (mark_in s w) (mark_in s b)) refl (λ e. d (ap (λ (x : Mark). x.csn) e))
    ]
  where
    pick : (b : WriteSet) → Memᴰ b (u ∷ us) → Leads s (u ∷ us) b → (t : Bool) → precedes (mark_in s w) (mark_in s b) ≡ t → (mark_in s w ≡ mark_in s b → ⊥)
        → (v : WriteSet) × Memᴰ v (w ∷ u ∷ us) × Leads s (w ∷ u ∷ us) v
    pick b m l true p d = (
      w,
      Memᴰ.head refl,
      λ v k. ⊎_elim inl (λ q. inr (⊎_elim (λ e. ap (λ (x : WriteSet). precedes (mark_in s w) (mark_in s x)) e ∙ p) (λ e. transitive _ _ _ p e) (l v q))) (Memᴰ.cases_cons k),
    )
    pick b m l false p d =
        (b, Memᴰ.tail m, λ v k. ⊎_elim (λ q. inr (ap (λ (x : WriteSet). precedes (mark_in s b) (mark_in s x)) q ∙ total _ _ d p)) (λ q. l v q) (Memᴰ.cases_cons k))

pub leader_of : (s : Sheet) (ws : List WriteSet) {w : WriteSet} → Apart ws → Memᴰ w ws → (v : WriteSet) × Memᴰ v ws × Leads s ws v
leader_of s [] a m = absurd (Memᴰ.not-nil m)
leader_of s (x ∷ xs) a m = leader s x xs a

pub →foremost : (s : Sheet) (ws : List WriteSet) (w : WriteSet) → Leads s ws w → foremost s ws w ≡ true
unfolding foremost
→foremost s ws w l = →all _ ws (λ v m. ⊎_elim (λ e. or_left _ _ (eq-eqb v.csn w.csn (ap csn_of e))) (λ p. or_right _ _ p) (l v m))

foremost→ : (s : Sheet) (ws : List WriteSet) (v w : WriteSet) → foremost s ws w ≡ true → Memᴰ v ws → (v.csn ≡ w.csn) ⊎ (precedes (mark_in s w) (mark_in s v) ≡ true)
unfolding foremost
foremost→ s ws v w e m = ⊎_elim (λ q. inl (eqb-true v.csn w.csn q)) inr (or→ _ _ (all→ (λ v. eqb v.csn w.csn or precedes (mark_in s w) (mark_in s v)) e m))

-- two that lead are one
leads_one : (s : Sheet) (ws : List WriteSet) (v w : WriteSet) → Memᴰ v ws → Memᴰ w ws → Leads s ws v → Leads s ws w → v ≡ w
leads_one s ws v w m n p q =
    ⊎_elim (λ c. c) (λ c. ⊎_elim (λ d. sym d) (λ d. absurd (false≢true (sym (asymmetric _ _ c) ∙ d))) (p w n)) (q v m)

-- ---- who claims a key

module _ (g : Register) (s : Sheet) (k : ℕ) where
  -- a set of the sheet that is fit and names the key
  pub record Claims (w : WriteSet) : Type 0 where
    pub in_sheet : Memᴰ w s.sets
    pub is_fit : fit g w ≡ true
    pub named : names w k ≡ true

  pub claimants→ : (w : WriteSet) → Memᴰ w (claimants g s k) → Claims w
  unfolding claimants claims
  claimants→ w m = let r = keep→ _ s.sets m in record { in_sheet = r.0; is_fit = left _ _ r.1; named = right _ _ r.1 }

  pub →claimants : (w : WriteSet) → Claims w → Memᴰ w (claimants g s k)
  unfolding claimants claims
  →claimants w c = →keep (λ v. claims g v k) c.in_sheet (both c.is_fit c.named)

  pub claimants_apart : Apart s.sets → Apart (claimants g s k)
  claimants_apart a v w m n c = a v w (claimants→ v m).in_sheet (claimants→ w n).in_sheet c

  -- the winner of the key: a claimant that precedes all others
  pub record Wins (w : WriteSet) : Type 0 where
    pub claimant : Claims w
    pub precedes_others : (v : WriteSet) → Claims v → (v ≡ w) ⊎ (precedes (mark_in s w) (mark_in s v) ≡ true)

  wins_leads : (w : WriteSet) → Wins w → Leads s (claimants g s k) w
  wins_leads w h v m = h.precedes_others v (claimants→ v m)

  pub winner→ : (w : WriteSet) → Apart s.sets → winner g s k ≡ Some w → Wins w
  unfolding winner
  winner→ w a e =
      let r = first→ (foremost s (claimants g s k)) (claimants g s k) e in
      let c = claimants→ w r.0 in
      record {
        claimant = c;
        precedes_others = λ v d. ⊎_elim (λ q. inl (a v w d.in_sheet c.in_sheet q)) inr (foremost→ s (claimants g s k) v w r.1 (→claimants v d));
      }

  -- a key that is claimed has a winner
  pub winner_exists : (w : WriteSet) → Apart s.sets → Claims w → (v : WriteSet) × (winner g s k ≡ Some v)
  unfolding winner
  winner_exists w a m = go (first (foremost s (claimants g s k)) (claimants g s k)) refl
    where
      go : (o : Option WriteSet) → first (foremost s (claimants g s k)) (claimants g s k) ≡ o → (v : WriteSet) × (first (foremost s (claimants g s k)) (claimants g s k) ≡ Some v)
      go (Some v) e = (v, e)
      go None e =
          let r = leader_of s (claimants g s k) (claimants_apart a) (→claimants w m) in
          absurd (false≢true (sym (first_none (foremost s (claimants g s k)) (claimants g s k) e r.0 r.1) ∙ →foremost s (claimants g s k) r.0 r.2))

  -- and one that is not has none
  pub winner_none : Apart s.sets → ((w : WriteSet) → Claims w → ⊥) → winner g s k ≡ None
  winner_none a h = go (winner g s k) refl
    where
      go : (o : Option WriteSet) → winner g s k ≡ o → o ≡ None
      go None e = refl
      go (Some w) e = absurd (h w (winner→ w a e).claimant)

  -- no two win it
  pub wins_one : (v w : WriteSet) → Wins v → Wins w → v ≡ w
  wins_one v w p q =
      leads_one s (claimants g s k) v w (→claimants v p.claimant) (→claimants w q.claimant) (wins_leads v p) (wins_leads w q)

  -- a claimant that precedes all others is the winner
  pub winner_is : (w : WriteSet) → Apart s.sets → Wins w → winner g s k ≡ Some w
  winner_is w a h = let r = winner_exists w a h.claimant in r.1 ∙ ap Some (wins_one r.0 w (winner→ r.0 a r.1) h)

  -- the test of the definition, as a fact
  is_set→ : (w : WriteSet) (o : Option WriteSet) → is_set w o ≡ true → (v : WriteSet) × (o ≡ Some v) × (v.csn ≡ w.csn)
  unfolding is_set
  is_set→ w None e = absurd (false≢true e)
  is_set→ w (Some v) e = (v, refl, eqb-true v.csn w.csn e)

  pub wins→ : (w : WriteSet) → Apart s.sets → Memᴰ w s.sets → wins g s w k ≡ true → winner g s k ≡ Some w
  unfolding wins
  wins→ w a m e =
      let r = is_set→ w (winner g s k) e in
      r.1 ∙ ap Some (a r.0 w (winner→ r.0 a r.1).claimant.in_sheet m r.2)

  pub →wins : (w : WriteSet) → winner g s k ≡ Some w → wins g s w k ≡ true
  unfolding wins is_set
  →wins w e = ap (is_set w) e ∙ eq-eqb w.csn w.csn refl

-- EVERY KEY CLAIMED BY A FIT SET OF A SOUND SHEET HAS EXACTLY ONE WINNER, A CLAIMANT THAT PRECEDES ALL OTHERS
pub one_winner : (g : Register) (s : Sheet) (k : ℕ) (w : WriteSet) → sound_sheet s ≡ true → Claims g s k w
    → (v : WriteSet) × (winner g s k ≡ Some v) × Wins g s k v × ((u : WriteSet) → Wins g s k u → u ≡ v)
one_winner g s k w e c =
    let a = sheet_apart s e in
    let r = winner_exists g s k w a c in
    let h = winner→ g s k r.0 a r.1 in
    (r.0, r.1, h, λ u i. wins_one g s k u r.0 i h)
