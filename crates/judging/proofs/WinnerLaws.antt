-- Who leads among the sets before set i: no set that claims the key, or one that precedes every other; after the last set, the winner.
use Rattle.std.specs.Prelude.{if◌then◌else◌, Option, None, Some, is_some, is_none}
use Prim.Native.Nat.{ℕ, ◌+◌, ◌≤◌, ◌<◌}
use mathlib.Core.Path.{◌≡◌, refl, sym, ◌∙◌, ap, ap₂}
use mathlib.Core.Logic.{◌⊎◌, inl, inr, ⊎_elim}
use mathlib.Core.Bool.{Bool, true, false, not}
use mathlib.Core.List.{List, [], ◌∷◌}
use native.Mathlib.Omega.{arith}
use native.Mathlib.Decide.{ℕ_discrete}
use borrow.Author.Count.{below_more}
use borrow.Author.Tests.{not-true}
use lib.ListN.{length}
use lib.Dec.{eqb}
use Rattle.rules.specs.declared.mark.Mark.{Mark}
use Rattle.rules.specs.declared.row.Record.{Record}
use Rattle.rules.specs.Lists.{◌or◌, any, first}
use Rattle.rules.specs.Numbers.{precedes}
use Rattle.rules.specs.Register.{Register}
use Rattle.rules.specs.Sheet.{WriteSet, Sheet, csn_of, sound_sheet}
use Rattle.rules.specs.Closing.{fit_record, fit, first_wrong, names, mark_in, winner, is_set, wins}
use Rattle.rules.specs.Becoming.{applied_to}
use Rattle.laws.specs.Tests.{left, right, both, not_true_false}
use Rattle.laws.specs.ListLaws.{first→}
use Rattle.laws.specs.Says.{clash}
use Rattle.laws.specs.Commits.{fit_record_lem, no_wrong_fit}
use Rattle.laws.specs.Precedence.{transitive, total, earlier_first, earlier_second}
use Rattle.laws.specs.Distinct.{sheet_sorted, tri, less, more, equal}
use Rattle.laws.specs.Winners.{sheet_apart, Claims, winner_is, winner_none}
use Rattle.laws.specs.Places.{rising_at}
use Rattle.sheets.specs.SheetReadings.{set_at, no_set}
use Rattle.sheets.specs.SheetMembers.{set_in_lem, set_number}
use Rattle.judging.specs.Answers.{winner_of, earlier_of, won_by}
use Rattle.judging.specs.Tables.{first_key, none_at, claims_by, wrong_key, Tells}

-- ---- no two sets of a sound sheet have one commit number

csn_one : (s : Sheet) (i j : ℕ) → sound_sheet s ≡ true → i < length s.sets → j < length s.sets → (set_at s i).csn ≡ (set_at s j).csn → i ≡ j
unfolding set_at
csn_one s i j e h k c =
    let r = sheet_sorted s e in
    elim (tri i j) [
      | less l ↦ let a = rising_at csn_of no_set r i j l k in absurd (omega arith)
      | equal q ↦ q
      | more l ↦ let a = rising_at csn_of no_set r j i l h in absurd (omega arith)
    ]

-- ---- a set of no wrong key is fit

none_wrong : (g : Register) (w : WriteSet) → is_none (wrong_key g w) ≡ fit g w
unfolding wrong_key first_wrong
none_wrong g w = go (first_wrong g w) refl
  where
    go : (o : Option Record) → first_wrong g w ≡ o → is_none (first_key o) ≡ fit g w
    go None p = sym (no_wrong_fit g w p)
    go (Some r) p =
        let f = first→ (λ r. not (fit_record g r)) w.records p in
        sym (not_true_false (λ e. clash (fit_record_lem g w e r f.0) (not-true _ f.1)))

fit_told : (g : Register) (s : Sheet) (wrong : List (Option ℕ)) → sound_sheet s ≡ true → Tells (wrong_key g) s wrong → (i : ℕ) → i < length s.sets → none_at wrong i ≡ fit g (set_at s i)
unfolding none_at
fit_told g s wrong sound t i h = ap is_none (t i h) ∙ none_wrong g (set_at s i)

-- ---- who claims a key

named : (rs : List Record) (key : ℕ) → is_some (first (λ r. eqb r.key key) rs) ≡ any (λ r. eqb r.key key) rs
unfolding first any ◌or◌
named [] key = refl
named (x ∷ xs) key = go (eqb x.key key) (named xs key)
  where
    p : Record → Bool
    p r = eqb r.key key

    go : (t : Bool) → is_some (first p xs) ≡ any p xs → is_some (if t then Some x else first p xs) ≡ (t or any p xs)
    go true e = refl
    go false e = e

pub names_recorded : (w : WriteSet) (key : ℕ) → is_some (applied_to w.records key) ≡ names w key
unfolding names applied_to
names_recorded w key = named w.records key

-- ---- who leads

module _ (s : Sheet) (wrong : List (Option ℕ)) (key : ℕ) where
  -- by the table set u claims the key
  abbrev pub Claim : ℕ → Type 0
  Claim u = claims_by s wrong u key ≡ true

  -- the mark that set u gives
  abbrev mark : ℕ → Mark
  mark u = mark_in s (set_at s u)

  -- set u is ahead of the others before set i that claim the key
  abbrev Leads : ℕ → ℕ → Type 0
  Leads i u = (v : ℕ) → v < i → Claim v → (v ≡ u) ⊎ (precedes (mark u) (mark v) ≡ true)

  -- among the sets before set i
  pub data Lead (i : ℕ) (lead : Option Mark) : Type 0 where
    nobody : lead ≡ None → ((u : ℕ) → u < i → Claim u → ⊥) → Lead i lead
    leads : (u : ℕ) → u < length s.sets → lead ≡ Some (mark u) → Claim u → Leads i u → Lead i lead

  pub lead_start : Lead 0 None
  lead_start = nobody refl (λ u h. absurd (omega arith))

  pub lead_same : (i : ℕ) (lead : Option Mark) → Lead i lead → (Claim i → ⊥) → Lead (i + 1) lead
  lead_same i lead (nobody e f) n = nobody e (below_more _ i f n)
  lead_same i lead (leads u h e c f) n = leads u h e c (below_more _ i f (λ d. absurd (n d)))

  -- THE EARLIER OF TWO MARKS LEADS
  pub lead_more : (i : ℕ) (lead : Option Mark) → sound_sheet s ≡ true → i < length s.sets → Lead i lead → Claim i → Lead (i + 1) (earlier_of lead (mark i))
  lead_more i lead sound h (nobody e f) c =
      leads i h (ap (λ (l : Option Mark). earlier_of l (mark i)) e) c (below_more _ i (λ v k d. absurd (f v k d)) (λ d. inl refl))
  lead_more i lead sound h (leads u k e d f) c = go (precedes (mark i) (mark u)) refl
    where
      after : precedes (mark i) (mark u) ≡ false → (i ≡ u) ⊎ (precedes (mark u) (mark i) ≡ true)
      after p =
          elim (ℕ_discrete i u) [
            | yes q ↦ inl q
            | no q ↦ inr (total _ _ (λ m. q (csn_one s i u sound h k (ap (λ (x : Mark). x.csn) m))) p)
          ]

      go : (t : Bool) → precedes (mark i) (mark u) ≡ t → Lead (i + 1) (earlier_of lead (mark i))
      go true p =
          leads i h (ap (λ (l : Option Mark). earlier_of l (mark i)) e ∙ ap Some (earlier_second (mark u) (mark i) p)) c
          (below_more _ i
          (λ v l b. inr (⊎_elim (λ q. ap (λ (x : ℕ). precedes (mark i) (mark x)) q ∙ p) (λ q. transitive _ _ _ p q) (f v l b)))
          (λ b. inl refl))
      go false p =
          leads u k (ap (λ (l : Option Mark). earlier_of l (mark i)) e ∙ ap Some (earlier_first (mark u) (mark i) p)) d
          (below_more _ i f (λ b. after p))

  module _ (sound : sound_sheet s ≡ true) (g : Register) (t : Tells (wrong_key g) s wrong) where
    -- what the table says of a set is so
    claim→ : (u : ℕ) → u < length s.sets → Claim u → Claims g s key (set_at s u)
    unfolding claims_by
    claim→ u h c = record { in_sheet = set_in_lem s u h; is_fit = sym (fit_told g s wrong sound t u h) ∙ left _ _ c; named = right _ _ c }

    →claim : (u : ℕ) → u < length s.sets → Claims g s key (set_at s u) → Claim u
    unfolding claims_by
    →claim u h c = both (fit_told g s wrong sound t u h ∙ c.is_fit) c.named

    -- WHO LEADS ALL SETS WINS THE KEY
    pub lead_wins : (i : ℕ) (lead : Option Mark) → length s.sets ≤ i → Lead i lead → lead ≡ winner_of s (winner g s key)
    lead_wins i lead h (nobody e f) =
        e ∙ sym (ap (winner_of s) (winner_none g s key (sheet_apart s sound) (λ w c.
        let u = set_number s c.in_sheet in
        let k = u.1 in
        f u.0 (omega arith) (→claim u.0 u.1 (rw (sym u.2) at c)))))
    lead_wins i lead h (leads v n e c f) =
        e ∙ sym (ap (winner_of s) (winner_is g s key (set_at s v) (sheet_apart s sound)
        (record {
          claimant = claim→ v n c;
          precedes_others = λ w d.
              let u = set_number s d.in_sheet in
              let k = u.1 in
              ⊎_elim (λ q. inl (sym u.2 ∙ ap (set_at s) q)) (λ q. inr (rw u.2 at q)) (f u.0 (omega arith) (→claim u.0 u.1 (rw (sym u.2) at d)));
        })))

-- ---- whether a set is the winner, by its csn

won_by_lem : (s : Sheet) (w : WriteSet) (o : Option WriteSet) → won_by (winner_of s o) w.csn ≡ is_set w o
unfolding is_set
won_by_lem s w None = refl
won_by_lem s w (Some v) = refl

pub not_won : (g : Register) (s : Sheet) (w : WriteSet) (key : ℕ) {csn : ℕ} {lead : Option Mark} {b : Bool}
    → csn ≡ w.csn → lead ≡ winner_of s (winner g s key) → b ≡ not (won_by lead csn) → b ≡ not (wins g s w key)
unfolding wins
not_won g s w key c l e = e ∙ ap not (ap₂ won_by l c ∙ won_by_lem s w (winner g s key))
