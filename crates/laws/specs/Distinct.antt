-- The distinct sets in csn order: `Sorted` says that each set's csn is below all later ones'; `distinct` is so sorted and has the sets
-- that are offered, and the sets of a sound sheet are sorted.
use Rattle.std.specs.Prelude.{ℕ, ◌<◌, ◌≤◌, ◌≡◌, refl, ◌⊎◌, Bool, true, false, not, ltb, eqb}
use Rattle.std.proofs.Common.{sym, ◌∙◌, ap, ap₂, inl, inr, ⊎_elim, arith}
use Rattle.std.proofs.lemmas.Bool.{false≢true}
use mathlib.Core.List.Memᴰ
use mathlib.Core.List.{List, [], ◌∷◌, Memᴰ}
use borrow.Author.Tests.{ltb-true, ltb-false, eqb-true, lt-ltb, le-ltb, eq-eqb}
use Rattle.rules.specs.declared.row.Record.{Record}
use Rattle.rules.specs.Lists.{any, count}
use Rattle.rules.specs.Numbers.{master_of}
use Rattle.rules.specs.Sheet.{WriteSet, Sheet, csn_of, sets_of, sound_sheet}
use Rattle.rules.specs.Gathering.{same_record, same_records, same_set, some_two, clash, put_set, distinct}
use Rattle.laws.specs.Tests.{left, right, both}
use Rattle.laws.specs.ListLaws.{Sub, any→, →any, keep→, →keep}
use Rattle.laws.specs.Rising.{Rising, nil, cons, ascend→, rising_le, rising_keep}

same_record→ : (a b : Record) → same_record a b ≡ true → a ≡ b
unfolding same_record
same_record→ a b e =
    λ i. record {
      kind = eqb-true a.kind b.kind (left _ _ e) i;
      key = eqb-true a.key b.key (left _ _ (right _ _ e)) i;
      value = eqb-true a.value b.value (right _ _ (right _ _ e)) i;
    }

same_records→ : (xs ys : List Record) → same_records xs ys ≡ true → xs ≡ ys
unfolding same_records
same_records→ [] [] e = refl
same_records→ [] (y ∷ ys) e = absurd (false≢true e)
same_records→ (x ∷ xs) [] e = absurd (false≢true e)
same_records→ (x ∷ xs) (y ∷ ys) e = ap₂ ◌∷◌ (same_record→ x y (left _ _ e)) (same_records→ xs ys (right _ _ e))

pub same_set→ : (v w : WriteSet) → same_set v w ≡ true → v ≡ w
unfolding same_set
same_set→ v w e =
    λ i. record {
      csn = eqb-true v.csn w.csn (left _ _ e) i;
      sen = eqb-true v.sen w.sen (left _ _ (right _ _ e)) i;
      records = same_records→ v.records w.records (right _ _ (right _ _ e)) i;
    }

module _ {A : Type 0} (r : A → A → Bool) where
  pub some_two_in : {x y : A} {xs : List A} → Memᴰ x xs → Memᴰ y xs → r x y ≡ true → some_two r xs ≡ true
  unfolding some_two
  some_two_in {x} {y} {xs} m k e = →any (λ z. any (r z) xs) m (→any (r x) k e)

  pub some_two_sub : {xs ys : List A} → Sub xs ys → some_two r xs ≡ true → some_two r ys ≡ true
  unfolding some_two
  some_two_sub {xs} {ys} s e =
      let p = any→ (λ z. any (r z) xs) xs e in
      let q = any→ (r p.0) xs p.2 in
      some_two_in (s _ p.1) (s _ q.1) q.2

-- no two different sets of one commit number
abbrev pub Apart : List WriteSet → Type 0
Apart ws = (v w : WriteSet) → Memᴰ v ws → Memᴰ w ws → v.csn ≡ w.csn → v ≡ w

pub apart : (ws : List WriteSet) → some_two clash ws ≡ false → Apart ws
unfolding clash
apart ws e v w m k c = go (same_set v w) refl
  where
    go : (t : Bool) → same_set v w ≡ t → v ≡ w
    go true p = same_set→ v w p
    go false p = absurd (false≢true (sym e ∙ some_two_in clash m k (both (eq-eqb _ _ c) (ap not p))))

-- how two numbers stand to each other
pub data Tri (m n : ℕ) : Type 0 where
  less : m < n → Tri m n
  more : n < m → Tri m n
  equal : m ≡ n → Tri m n

pub tri : (m n : ℕ) → Tri m n
tri m n = go (ltb m n) refl (ltb n m) refl
  where
    go : (s : Bool) → ltb m n ≡ s → (t : Bool) → ltb n m ≡ t → Tri m n
    go true p t q = less (ltb-true m n p)
    go false p true q = more (ltb-true n m q)
    go false p false q = let a = ltb-false m n p in let b = ltb-false n m q in equal (omega arith)

module _ (v u : WriteSet) (us : List WriteSet) where
  pub put_less : v.csn < u.csn → put_set v (u ∷ us) ≡ v ∷ u ∷ us
  unfolding put_set
  put_less h = simp (lt-ltb _ _ h)

  pub put_more : u.csn < v.csn → put_set v (u ∷ us) ≡ u ∷ put_set v us
  unfolding put_set
  put_more h = simp (lt-ltb u.csn v.csn h, le-ltb v.csn u.csn (omega arith))

  pub put_equal : v.csn ≡ u.csn → put_set v (u ∷ us) ≡ u ∷ us
  unfolding put_set
  put_equal h = simp (le-ltb u.csn v.csn (omega arith), le-ltb v.csn u.csn (omega arith))

put→ : (v : WriteSet) (us : List WriteSet) {w : WriteSet} → Memᴰ w (put_set v us) → (w ≡ v) ⊎ Memᴰ w us
unfolding put_set
put→ v [] m = Memᴰ.cases_cons m
put→ v (u ∷ us) m =
    elim (tri v.csn u.csn) [
      | less h ↦ Memᴰ.cases_cons (rw (put_less v u us h) at m)
      | more h ↦
          ⊎_elim (λ e. inr (Memᴰ.head e)) (λ k. ⊎_elim inl (λ q. inr (Memᴰ.tail q)) (put→ v us k))
          (Memᴰ.cases_cons (rw (put_more v u us h) at m))
      | equal h ↦ inr (rw (put_equal v u us h) at m)
    ]

put_keeps : (v : WriteSet) (us : List WriteSet) {w : WriteSet} → Memᴰ w us → Memᴰ w (put_set v us)
put_keeps v [] m = absurd (Memᴰ.not-nil m)
put_keeps v (u ∷ us) m =
    elim (tri v.csn u.csn) [
      | less h ↦ rw (put_less v u us h) (Memᴰ.tail m)
      | more h ↦
          rw (put_more v u us h) (⊎_elim (λ e. Memᴰ.head e) (λ k. Memᴰ.tail (put_keeps v us k)) (Memᴰ.cases_cons m))
      | equal h ↦ rw (put_equal v u us h) m
    ]

put_here : (v : WriteSet) (us : List WriteSet) → (w : WriteSet) × Memᴰ w (put_set v us) × (w.csn ≡ v.csn)
unfolding put_set
put_here v [] = (v, Memᴰ.head refl, refl)
put_here v (u ∷ us) =
    elim (tri v.csn u.csn) [
      | less h ↦ (v, rw (put_less v u us h) (Memᴰ.head refl), refl)
      | more h ↦ let r = put_here v us in (r.0, rw (put_more v u us h) (Memᴰ.tail r.1), r.2)
      | equal h ↦ (u, rw (put_equal v u us h) (Memᴰ.head refl), sym h)
    ]

pub distinct→ : (ws : List WriteSet) {w : WriteSet} → Memᴰ w (distinct ws) → Memᴰ w ws
unfolding distinct
distinct→ [] m = m
distinct→ (v ∷ vs) m = ⊎_elim (λ e. Memᴰ.head e) (λ k. Memᴰ.tail (distinct→ vs k)) (put→ v (distinct vs) m)

distinct_here : (ws : List WriteSet) {w : WriteSet} → Memᴰ w ws → (v : WriteSet) × Memᴰ v (distinct ws) × (v.csn ≡ w.csn)
unfolding distinct
distinct_here [] m = absurd (Memᴰ.not-nil m)
distinct_here (v ∷ vs) {w} m =
    ⊎_elim (λ e. let r = put_here v (distinct vs) in (r.0, r.1, r.2 ∙ ap (λ (x : WriteSet). x.csn) (sym e)))
    (λ k. let r = distinct_here vs k in (r.0, put_keeps v (distinct vs) r.1, r.2))
    (Memᴰ.cases_cons m)

pub →distinct : (ws : List WriteSet) {w : WriteSet} → Apart ws → Memᴰ w ws → Memᴰ w (distinct ws)
→distinct ws {w} a m = let r = distinct_here ws m in Memᴰ.cast (sym (a r.0 w (distinct→ ws r.1) m r.2)) r.1

-- each set's csn is below all later ones'
abbrev pub Sorted : List WriteSet → Type 0
Sorted = Rising csn_of

below_eq : (v : WriteSet) {u x : WriteSet} → x ≡ u → v.csn < u.csn → v.csn < x.csn
below_eq v e h = let c = ap (λ (x : WriteSet). x.csn) e in omega arith

below_trans : (v u x : WriteSet) → v.csn < u.csn → u.csn < x.csn → v.csn < x.csn
below_trans v u x h k = omega arith

put_sorted : (v : WriteSet) {us : List WriteSet} → Sorted us → Sorted (put_set v us)
unfolding put_set
put_sorted v nil = cons (λ x m. absurd (Memᴰ.not-nil m)) nil
put_sorted v (cons {x = u} {xs = us} f s) =
    elim (tri v.csn u.csn) [
      | less h ↦
          rw (put_less v u us h)
          (cons (λ x m. ⊎_elim (λ e. below_eq v e h) (λ k. below_trans v u x h (f x k)) (Memᴰ.cases_cons m)) (cons f s))
      | more h ↦ rw (put_more v u us h) (cons (λ x m. ⊎_elim (λ e. below_eq u e h) (λ k. f x k) (put→ v us m)) (put_sorted v s))
      | equal h ↦ rw (put_equal v u us h) (cons f s)
    ]

pub sorted : (ws : List WriteSet) → Sorted (distinct ws)
unfolding distinct
sorted [] = nil
sorted (w ∷ ws) = put_sorted w (sorted ws)

-- the sets of a sound sheet are sorted
pub sheet_sorted : (s : Sheet) → sound_sheet s ≡ true → Sorted s.sets
unfolding sound_sheet
sheet_sorted s e = ascend→ csn_of s.sets (left _ _ (right _ _ (right _ _ (right _ _ (right _ _ (right _ _ (right _ _ (right _ _ e))))))))

-- fewer sets have no more of a master's
pub sets_of_le : (m : ℕ) {xs ys : List WriteSet} → Sorted xs → Sorted ys → Sub xs ys → sets_of m xs ≤ sets_of m ys
unfolding sets_of count
sets_of_le m {xs} {ys} p q s =
    let t : WriteSet → Bool = λ w. eqb (master_of w.csn) m in
    rising_le csn_of (rising_keep csn_of t p) (rising_keep csn_of t q) (λ x k. let r = keep→ t xs k in →keep t (s x r.0) r.1)
