-- The applied records are those of the committed sets, and no two of them have one key, whatever chose the sets.
use Rattle.std.specs.Prelude.{ℕ, ◌<◌, ◌≡◌, refl, Bool, true, false, eqb, if◌then◌else◌, Option, None, Some}
use Rattle.std.proofs.Common.{sym, ◌∙◌, ap, ⊎_elim, arith, eqb-true, eq-eqb}
use Rattle.std.proofs.lemmas.Bool.{false≢true}
use mathlib.Core.List.Memᴰ
use mathlib.Core.List.{List, [], ◌∷◌, ◌++◌, Memᴰ}
use Rattle.rules.specs.declared.row.Record.{Record}
use Rattle.rules.specs.Lists.{keep, first, flat}
use Rattle.rules.specs.Register.{Register}
use Rattle.rules.specs.Sheet.{WriteSet, Sheet, record_key, sound_record, sound_records, sound_sheet}
use Rattle.rules.specs.Closing.{fit_record, names}
use Rattle.rules.specs.Becoming.{applied, applied_to}
use Rattle.laws.specs.Tests.{right}
use Rattle.laws.specs.ListLaws.{all→, keep→, first→, first_none, flat→, →flat}
use Rattle.laws.specs.Rising.{Rising, nil, cons}
use Rattle.laws.specs.Distinct.{Sorted}
use Rattle.laws.specs.Commits.{set_records, records_rising, fit_record_lem, names_own}
use Rattle.laws.specs.Choice.{Choice}

-- no two of the records have one key
pub data OneEach : List Record → Type 0 where
  none_left : OneEach []
  one_more : {r : Record} {rs : List Record} → ((q : Record) → Memᴰ q rs → q.key ≡ r.key → ⊥) → OneEach rs → OneEach (r ∷ rs)

each_append : {xs ys : List Record} → OneEach xs → OneEach ys
    → ((p q : Record) → Memᴰ p xs → Memᴰ q ys → p.key ≡ q.key → ⊥) → OneEach (xs ++ ys)
each_append none_left d a = d
each_append (one_more {r} {rs} f s) d a =
    one_more (λ q m c. ⊎_elim (λ k. f q k c) (λ k. a r q (Memᴰ.head refl) k (sym c)) (Memᴰ.append_cases rs m))
    (each_append s d (λ p q m k c. a p q (Memᴰ.tail m) k c))

pub each_keep : (p : Record → Bool) {rs : List Record} → OneEach rs → OneEach (keep p rs)
unfolding keep
each_keep p none_left = none_left
each_keep p (one_more {r} {rs} f s) = go (p r) (each_keep p s)
  where
    go : (t : Bool) → OneEach (keep p rs) → OneEach (if t then r ∷ keep p rs else keep p rs)
    go true k = one_more (λ q m c. f q (keep→ p rs m).0 c) k
    go false k = k

apart_keys : (q r : Record) → r.key < q.key → q.key ≡ r.key → ⊥
apart_keys q r h c = omega arith

rising_each : {rs : List Record} → Rising record_key rs → OneEach rs
rising_each nil = none_left
rising_each (cons {x} f r) = one_more (λ q m c. apart_keys q x (f q m) c) (rising_each r)

-- the records of sets of which no two share a key
flat_each : {ws : List WriteSet} → Sorted ws → ((w : WriteSet) → Memᴰ w ws → OneEach w.records)
    → ((v w : WriteSet) (p q : Record) → Memᴰ v ws → Memᴰ w ws → Memᴰ p v.records → Memᴰ q w.records → p.key ≡ q.key → v ≡ w)
    → OneEach (flat (λ w. w.records) ws)
unfolding flat
flat_each nil d a = none_left
flat_each (cons {x = w} {xs = ws} f s) d a =
    each_append (d w (Memᴰ.head refl))
    (flat_each s (λ v m. d v (Memᴰ.tail m)) (λ u v p q m k. a u v p q (Memᴰ.tail m) (Memᴰ.tail k)))
    (λ p q m k c. let v = flat→ (λ w. w.records) ws k in clash v.0 (f v.0 v.1) (a w v.0 p q (Memᴰ.head refl) (Memᴰ.tail v.1) m v.2 c))
  where
    clash : (v : WriteSet) → w.csn < v.csn → w ≡ v → ⊥
    clash v h e = let c = ap (λ (x : WriteSet). x.csn) e in omega arith

-- ---- the records of committed sets

-- an applied record is a committed set's
pub record IsApplied (c : List WriteSet) (r : Record) : Type 0 where
  pub set : WriteSet
  pub committed : Memᴰ set c
  pub in_set : Memᴰ r set.records

pub applied→ : (c : List WriteSet) (r : Record) → Memᴰ r (applied c) → IsApplied c r
unfolding applied
applied→ c r m = let a = flat→ (λ w. w.records) c m in record { set = a.0; committed = a.1; in_set = a.2 }

pub →applied : (c : List WriteSet) (r : Record) → IsApplied c r → Memᴰ r (applied c)
unfolding applied
→applied c r a = →flat (λ w. w.records) a.committed a.in_set

module _ (g : Register) (s : Sheet) (c : List WriteSet) (h : Choice g s c) where
  -- it fits the register
  pub applied_fits : (r : Record) → Memᴰ r (applied c) → fit_record g r ≡ true
  applied_fits r m = let a = applied→ c r m in fit_record_lem g a.set (h.are_fit a.set a.committed) r a.in_set

  module _ (sound : sound_sheet s ≡ true) where
    committed_records : (w : WriteSet) → Memᴰ w c → sound_records w.records ≡ true
    committed_records w m = set_records s w sound (h.in_sheet w m)

    -- NO TWO APPLIED RECORDS HAVE ONE KEY
    pub applied_each : OneEach (applied c)
    unfolding applied
    applied_each =
        flat_each h.in_order (λ w m. rising_each (records_rising w.records (committed_records w m)).0)
        (λ v w p q m n k l e. h.one_on_a_key v w p.key m n (names_own v p k) (ap (names w) e ∙ names_own w q l))

    -- the numbers of an applied record are sound, and its key is above 0
    pub applied_sound : (r : Record) → Memᴰ r (applied c) → sound_record r ≡ true
    unfolding sound_records
    applied_sound r m = let a = applied→ c r m in all→ sound_record (right _ _ (right _ _ (right _ _ (committed_records a.set a.committed)))) a.in_set

    pub applied_above : (r : Record) → Memᴰ r (applied c) → 0 < r.key
    applied_above r m = let a = applied→ c r m in (records_rising a.set.records (committed_records a.set a.committed)).1 r a.in_set

-- ---- the applied record of a key

pub applied_to→ : (rs : List Record) (k : ℕ) (r : Record) → applied_to rs k ≡ Some r → Memᴰ r rs × (r.key ≡ k)
unfolding applied_to
applied_to→ rs k r e = let f = first→ (λ q. eqb q.key k) rs e in (f.0, eqb-true r.key k f.1)

pub applied_to_none : (rs : List Record) (k : ℕ) → ((r : Record) → Memᴰ r rs → r.key ≡ k → ⊥) → applied_to rs k ≡ None
applied_to_none rs k h = go (applied_to rs k) refl
  where
    go : (o : Option Record) → applied_to rs k ≡ o → o ≡ None
    go None e = refl
    go (Some r) e = let f = applied_to→ rs k r e in absurd (h r f.0 f.1)

each_one : {rs : List Record} {p q : Record} → OneEach rs → Memᴰ p rs → Memᴰ q rs → p.key ≡ q.key → p ≡ q
each_one none_left m n c = absurd (Memᴰ.not-nil m)
each_one {p} {q} (one_more {r} f s) m n c =
    ⊎_elim
    (λ i. ⊎_elim (λ j. i ∙ sym j) (λ j. absurd (f q j (sym c ∙ ap record_key i))) (Memᴰ.cases_cons n))
    (λ i. ⊎_elim (λ j. absurd (f p i (c ∙ ap record_key j))) (λ j. each_one s i j c) (Memᴰ.cases_cons n))
    (Memᴰ.cases_cons m)

pub applied_to_is : (rs : List Record) (r : Record) → OneEach rs → Memᴰ r rs → applied_to rs r.key ≡ Some r
unfolding applied_to
applied_to_is rs r h m = go (first (λ q. eqb q.key r.key) rs) refl
  where
    go : (o : Option Record) → first (λ q. eqb q.key r.key) rs ≡ o → o ≡ Some r
    go None e = absurd (false≢true (sym (first_none (λ q. eqb q.key r.key) rs e r m) ∙ eq-eqb r.key r.key refl))
    go (Some q) e = let f = first→ (λ q. eqb q.key r.key) rs e in ap Some (each_one h f.0 m (eqb-true q.key r.key f.1))
