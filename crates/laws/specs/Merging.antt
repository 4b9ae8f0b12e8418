-- Two lists of sets in csn order, walked together: which set `distinct` has next, and that no step hides or makes a clash.
use Rattle.std.specs.Prelude.{ℕ, zero, suc, ◌+◌, ◌<◌, ◌≤◌, ◌≡◌, Bool, true, false, not, length, drop}
use Rattle.std.proofs.Math.Path.{refl}
use Rattle.std.proofs.Common.{sym, ◌∙◌, ap, ⊎_elim, true≢false, arith, eqb-true, eq-eqb}
use mathlib.Core.List.Memᴰ
use mathlib.Core.List.{List, [], ◌∷◌, ◌++◌, append-nil, Memᴰ}
use Rattle.std.proofs.lemmas.Bool.{not-true}
use Rattle.rules.specs.declared.row.Record.{Record}
use Rattle.rules.specs.Lists.{any}
use Rattle.rules.specs.Sheet.{WriteSet, csn_of}
use Rattle.rules.specs.Gathering.{same_record, same_records, same_set, some_two, clash, put_set, distinct}
use Rattle.laws.specs.Tests.{left, right, both, same_tests}
use Rattle.laws.specs.ListLaws.{Sub, any→}
use Rattle.laws.specs.Rising as rising
use Rattle.laws.specs.Rising.{nil, cons}
use Rattle.laws.specs.Distinct.{Sorted, tri, less, more, equal, put_less, put_more, put_equal, distinct→, same_set→, some_two_in, some_two_sub}

-- ---- sets in order

-- all sets of a list have a csn above n
abbrev pub Above : ℕ → List WriteSet → Type 0
Above = rising.Above csn_of

head_below : {w : WriteSet} {ws : List WriteSet} → Sorted (w ∷ ws) → Above w.csn ws
head_below (cons f s) = f

pub drop_sorted : (i : ℕ) {ws : List WriteSet} → Sorted ws → Sorted (drop i ws)
drop_sorted zero s = s
drop_sorted (suc i) nil = nil
drop_sorted (suc i) (cons f s) = drop_sorted i s

-- ---- the next set

above_cons : (n : ℕ) {w : WriteSet} {ws : List WriteSet} → n < w.csn → Above n ws → Above n (w ∷ ws)
above_cons n h f v m = ⊎_elim (λ e. let c = ap csn_of e in omega arith) (λ k. f v k) (Memᴰ.cases_cons m)

above_append : (n : ℕ) {xs ys : List WriteSet} → Above n xs → Above n ys → Above n (xs ++ ys)
above_append n {xs} f g v m = ⊎_elim (λ k. f v k) (λ k. g v k) (Memᴰ.append_cases xs m)

above_less : (m n : ℕ) {ws : List WriteSet} → m < n → Above n ws → Above m ws
above_less m n h f v k = let c = f v k in omega arith

-- a set below all others comes first
put_first : (w : WriteSet) (ws : List WriteSet) → Above w.csn ws → put_set w ws ≡ w ∷ ws
unfolding put_set
put_first w [] f = refl
put_first w (v ∷ vs) f = put_less w v vs (f v (Memᴰ.head refl))

first_distinct : (w : WriteSet) (ws : List WriteSet) → Above w.csn ws → distinct (w ∷ ws) ≡ w ∷ distinct ws
unfolding distinct
first_distinct w ws f = put_first w (distinct ws) (λ v m. f v (distinct→ ws m))

-- wherever it stands
distinct_put : (w : WriteSet) (ws : List WriteSet) → distinct (w ∷ ws) ≡ put_set w (distinct ws)
unfolding distinct
distinct_put w ws = refl

inner_distinct : (xs : List WriteSet) (y : WriteSet) (ys : List WriteSet) → Above y.csn xs → Above y.csn ys → distinct (xs ++ y ∷ ys) ≡ y ∷ distinct (xs ++ ys)
inner_distinct [] y ys f g = first_distinct y ys g
inner_distinct (x ∷ xs) y ys f g =
    distinct_put x (xs ++ y ∷ ys)
    ∙ ap (put_set x) (inner_distinct xs y ys (λ v m. f v (Memᴰ.tail m)) g)
    ∙ put_more x y (distinct (xs ++ ys)) (f x (Memᴰ.head refl))
    ∙ ap (λ (l : List WriteSet). y ∷ l) (sym (distinct_put x (xs ++ ys)))

module _ {x y : WriteSet} {xs ys : List WriteSet} (p : Sorted (x ∷ xs)) (q : Sorted (y ∷ ys)) where
  -- THE NEXT SET IS THE ONE WITH THE SMALLER CSN
  pub next_first : x.csn < y.csn → distinct (x ∷ xs ++ y ∷ ys) ≡ x ∷ distinct (xs ++ y ∷ ys)
  next_first h =
      first_distinct x (xs ++ y ∷ ys)
      (above_append x.csn (head_below p) (above_cons x.csn h (above_less x.csn y.csn h (head_below q))))

  pub next_second : y.csn < x.csn → distinct (x ∷ xs ++ y ∷ ys) ≡ y ∷ distinct (x ∷ xs ++ ys)
  next_second h = inner_distinct (x ∷ xs) y ys (above_cons y.csn h (above_less y.csn x.csn h (head_below p))) (head_below q)

  -- of one csn, both are passed, and the second stands for both
  pub next_both : x.csn ≡ y.csn → distinct (x ∷ xs ++ y ∷ ys) ≡ y ∷ distinct (xs ++ ys)
  next_both e =
      let f : Above y.csn xs = λ v m. let c = head_below p v m in omega arith in
      distinct_put x (xs ++ y ∷ ys) ∙ ap (put_set x) (inner_distinct xs y ys f (head_below q)) ∙ put_equal x y (distinct (xs ++ ys)) e

-- where one list is used up, the next set is the other's
pub next_left : {x : WriteSet} {xs : List WriteSet} → Sorted (x ∷ xs) → distinct (x ∷ xs ++ []) ≡ x ∷ distinct (xs ++ [])
next_left {x} {xs} p = first_distinct x (xs ++ []) (above_append x.csn (head_below p) (λ v m. absurd (Memᴰ.not-nil m)))

pub next_right : {y : WriteSet} {ys : List WriteSet} → Sorted (y ∷ ys) → distinct (y ∷ ys) ≡ y ∷ distinct ys
next_right {y} {ys} q = first_distinct y ys (head_below q)

-- so sets in csn order are their own distinct sets
pub distinct_sorted : {ws : List WriteSet} → Sorted ws → distinct ws ≡ ws
distinct_sorted nil = unfold distinct in refl
distinct_sorted (cons {x = w} f s) = next_right (cons f s) ∙ ap (λ (l : List WriteSet). w ∷ l) (distinct_sorted s)

-- ---- how many

put_some : (w : WriteSet) (ws : List WriteSet) → 0 < length (put_set w ws)
unfolding put_set
put_some w [] = omega arith
put_some w (v ∷ vs) =
    elim (tri w.csn v.csn) [
      | less h ↦ rw (put_less w v vs h) (omega arith)
      | more h ↦ rw (put_more w v vs h) (omega arith)
      | equal h ↦ rw (put_equal w v vs h) (omega arith)
    ]

put_le : (w : WriteSet) (ws : List WriteSet) → length (put_set w ws) ≤ 1 + length ws
unfolding put_set
put_le w [] = omega arith
put_le w (v ∷ vs) =
    elim (tri w.csn v.csn) [
      | less h ↦ rw (put_less w v vs h) (omega arith)
      | more h ↦ rw (put_more w v vs h) (omega (arith, put_le w vs))
      | equal h ↦ rw (put_equal w v vs h) (omega arith)
    ]

-- no more than there are, and some if there are some
pub distinct_le : (ws : List WriteSet) → length (distinct ws) ≤ length ws
unfolding distinct
distinct_le [] = omega arith
distinct_le (w ∷ ws) = omega (arith, put_le w (distinct ws), distinct_le ws)

pub distinct_some : (ws : List WriteSet) → 0 < length ws → 0 < length (distinct ws)
unfolding distinct
distinct_some [] h = absurd (omega arith)
distinct_some (w ∷ ws) h = put_some w (distinct ws)

-- ---- clashes

same_record_refl : (a : Record) → same_record a a ≡ true
unfolding same_record
same_record_refl a = both (eq-eqb a.kind a.kind refl) (both (eq-eqb a.key a.key refl) (eq-eqb a.value a.value refl))

same_records_refl : (rs : List Record) → same_records rs rs ≡ true
unfolding same_records
same_records_refl [] = refl
same_records_refl (r ∷ rs) = both (same_record_refl r) (same_records_refl rs)

pub same_set_refl : (w : WriteSet) → same_set w w ≡ true
unfolding same_set
same_set_refl w = both (eq-eqb w.csn w.csn refl) (both (eq-eqb w.sen w.sen refl) (same_records_refl w.records))

-- what a clash is
pub clash→ : (v w : WriteSet) → clash v w ≡ true → (v.csn ≡ w.csn) × (v ≡ w → ⊥)
unfolding clash
clash→ v w e = (
  eqb-true v.csn w.csn (left _ _ e),
  λ q. true≢false (sym (same_set_refl v) ∙ ap (same_set v) q ∙ not-true (same_set v w) (right _ _ e)),
)

-- sets of one csn that do not clash are equal
pub clash_not : (v w : WriteSet) → v.csn ≡ w.csn → clash v w ≡ false → v ≡ w
unfolding clash
clash_not v w e d = go (same_set v w) refl
  where
    go : (t : Bool) → same_set v w ≡ t → v ≡ w
    go true p = same_set→ v w p
    go false p = absurd (true≢false (sym (both (eq-eqb v.csn w.csn e) (ap not p)) ∙ d))

-- a list without one set
passed→ : (z : WriteSet) (zs : List WriteSet) → ((v : WriteSet) → Memᴰ v zs → v.csn ≡ z.csn → v ≡ z) → some_two clash (z ∷ zs) ≡ true → some_two clash zs ≡ true
unfolding some_two
passed→ z zs h e =
    let p = any→ (λ v. any (clash v) (z ∷ zs)) (z ∷ zs) e in
    let q = any→ (clash p.0) (z ∷ zs) p.2 in
    let k = clash→ p.0 q.0 q.2 in
    ⊎_elim
    (λ a. ⊎_elim (λ b. absurd (k.1 (a ∙ sym b))) (λ b. absurd (k.1 (a ∙ sym (h q.0 b (sym k.0 ∙ ap csn_of a))))) (Memᴰ.cases_cons q.1))
    (λ a. ⊎_elim (λ b. absurd (k.1 (h p.0 a (k.0 ∙ ap csn_of b) ∙ sym b))) (λ b. some_two_in clash a b q.2) (Memᴰ.cases_cons q.1))
    (Memᴰ.cases_cons p.1)

-- a set that clashes with none may be passed
passed : (z : WriteSet) (zs : List WriteSet) → ((v : WriteSet) → Memᴰ v zs → v.csn ≡ z.csn → v ≡ z) → some_two clash (z ∷ zs) ≡ some_two clash zs
passed z zs h = same_tests _ _ (passed→ z zs h) (some_two_sub clash (λ v m. Memᴰ.tail m))

passed_below : (z : WriteSet) (zs : List WriteSet) → Above z.csn zs → some_two clash (z ∷ zs) ≡ some_two clash zs
passed_below z zs f = passed z zs (λ v m e. let c = f v m in absurd (omega arith))

to_front : (xs : List WriteSet) (y : WriteSet) (ys : List WriteSet) → Sub (xs ++ y ∷ ys) (y ∷ xs ++ ys)
to_front xs y ys v m =
    ⊎_elim (λ k. Memᴰ.tail (Memᴰ.append_left ys k))
    (λ k. ⊎_elim (λ e. Memᴰ.head e) (λ l. Memᴰ.tail (Memᴰ.append_right xs l)) (Memᴰ.cases_cons k))
    (Memᴰ.append_cases xs m)

from_front : (xs : List WriteSet) (y : WriteSet) (ys : List WriteSet) → Sub (y ∷ xs ++ ys) (xs ++ y ∷ ys)
from_front xs y ys v m =
    ⊎_elim (λ e. Memᴰ.append_right xs (Memᴰ.head e))
    (λ k. ⊎_elim (λ l. Memᴰ.append_left (y ∷ ys) l) (λ l. Memᴰ.append_right xs (Memᴰ.tail l)) (Memᴰ.append_cases xs k))
    (Memᴰ.cases_cons m)

fronted : (xs : List WriteSet) (y : WriteSet) (ys : List WriteSet) → some_two clash (xs ++ y ∷ ys) ≡ some_two clash (y ∷ xs ++ ys)
fronted xs y ys = same_tests _ _ (some_two_sub clash (to_front xs y ys)) (some_two_sub clash (from_front xs y ys))

-- sets in csn order do not clash
pub sorted_clash : {ws : List WriteSet} → Sorted ws → some_two clash ws ≡ false
unfolding some_two any
sorted_clash nil = refl
sorted_clash (cons {x = w} {xs = ws} f s) = passed_below w ws f ∙ sorted_clash s

module _ {x y : WriteSet} {xs ys : List WriteSet} (p : Sorted (x ∷ xs)) (q : Sorted (y ∷ ys)) where
  -- THE SET WITH THE SMALLER CSN CLASHES WITH NONE
  pub clash_first : x.csn < y.csn → some_two clash (x ∷ xs ++ y ∷ ys) ≡ some_two clash (xs ++ y ∷ ys)
  clash_first h =
      passed_below x (xs ++ y ∷ ys)
      (above_append x.csn (head_below p) (above_cons x.csn h (above_less x.csn y.csn h (head_below q))))

  pub clash_second : y.csn < x.csn → some_two clash (x ∷ xs ++ y ∷ ys) ≡ some_two clash (x ∷ xs ++ ys)
  clash_second h =
      fronted (x ∷ xs) y ys
      ∙ passed_below y (x ∷ xs ++ ys)
      (above_append y.csn {xs = x ∷ xs} (above_cons y.csn h (above_less y.csn x.csn h (head_below p))) (head_below q))

  -- equal sets clash with none
  pub clash_both : x ≡ y → some_two clash (x ∷ xs ++ y ∷ ys) ≡ some_two clash (xs ++ ys)
  clash_both e =
      let c : x.csn ≡ y.csn = ap csn_of e in
      let f : Above y.csn (xs ++ ys) = above_append y.csn (λ v m. let k = head_below p v m in omega arith) (head_below q) in
      let g : (v : WriteSet) → Memᴰ v (xs ++ y ∷ ys) → v.csn ≡ x.csn → v ≡ x =
      λ v m d. ⊎_elim (λ k. k ∙ sym e) (λ k. let o = f v k in absurd (omega arith)) (Memᴰ.cases_cons (to_front xs y ys v m)) in
      passed x (xs ++ y ∷ ys) g ∙ fronted xs y ys ∙ passed_below y (xs ++ ys) f

-- where one list is used up, there is no clash
pub clash_left : (xs : List WriteSet) → Sorted xs → some_two clash (xs ++ []) ≡ false
clash_left xs p = ap (some_two clash) (append-nil xs) ∙ sorted_clash p

pub clash_right : (ys : List WriteSet) → Sorted ys → some_two clash ([] ++ ys) ≡ false
clash_right ys q = sorted_clash q
