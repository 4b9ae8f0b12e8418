-- Gathering depends only on which offers there are; spoiled is final; putting one more and joining give the sheet of all the offers.
use Rattle.std.specs.Prelude.{ℕ, ◌<◌, ◌≤◌, ◌≡◌, refl, Bool, true, false, not, get_or}
use Rattle.std.proofs.Common.{sym, ◌∙◌, ap, ap₂, lt_of_lt_of_le, ⊎_elim, arith, ltb-true, leb-false, lt-ltb, eq-eqb, ne_eqb}
use Rattle.std.proofs.Math.Path.{fun_ext}
use mathlib.Core.List.{List, [], ◌∷◌, ◌++◌, map, Memᴰ}
use Rattle.std.proofs.Math.Decide.{ℕ_discrete}
use Rattle.std.proofs.lemmas.Bool.{eqb-false, lt-leb, not-true}
use Rattle.rules.specs.Lists.{◌or◌}
use Rattle.rules.specs.Sheet.{WriteSet, csn_of, Sheet, no_notice, masters, sets_of, allows}
use Rattle.rules.specs.Gathering.{Notice, Offer, a_set, a_notice, set_in, notice_in, sets_among, notices_among, clash, differ, distinct, notice_of, shared_csn, two_notices, too_many, over_notice, spoils, sound_of, spoiled_sheet, holding, gathered, noticed, offers_of, with_offer, joined}
use Rattle.laws.specs.Tests.{or→, or_left, or_right, or_false, same_tests}
use Rattle.laws.specs.ListLaws.{Sub, any→, →any, flat→, →flat, up_from→, →up_from, get_d_up_from, sub_append, sub_append_right}
use Rattle.laws.specs.Distinct.{Apart, apart, some_two_sub, distinct→, →distinct, sorted, sets_of_le}
use Rattle.laws.specs.Rising.{rising_unique, rising_le}
use Rattle.laws.specs.Notices.{notice_by, notice_cap, notice_le, notice_in_lem, notice_sub, notice_same, agree}

pub set→ : (os : List Offer) {w : WriteSet} → Memᴰ w (sets_among os) → Memᴰ (a_set w) os
unfolding sets_among set_in
set→ os {w} m = let r = flat→ set_in os m in mathlib.Core.List.Memᴰ.cast (sym (is r.0 r.2)) r.1
  where
    is : (o : Offer) → Memᴰ w (set_in o) → o ≡ a_set w
    is (a_set v) k = ap a_set (sym (mathlib.Core.List.Memᴰ.eq_of_singleton k))
    is (a_notice n) k = absurd (mathlib.Core.List.Memᴰ.not-nil k)

pub →set : {os : List Offer} {w : WriteSet} → Memᴰ (a_set w) os → Memᴰ w (sets_among os)
unfolding sets_among set_in
→set m = →flat set_in m (mathlib.Core.List.Memᴰ.head refl)

pub notice→ : (os : List Offer) {x : Notice} → Memᴰ x (notices_among os) → Memᴰ (a_notice x) os
unfolding notices_among notice_in
notice→ os {x} m = let r = flat→ notice_in os m in mathlib.Core.List.Memᴰ.cast (sym (is r.0 r.2)) r.1
  where
    is : (o : Offer) → Memᴰ x (notice_in o) → o ≡ a_notice x
    is (a_set v) k = absurd (mathlib.Core.List.Memᴰ.not-nil k)
    is (a_notice n) k = ap a_notice (sym (mathlib.Core.List.Memᴰ.eq_of_singleton k))

pub →notice : {os : List Offer} {x : Notice} → Memᴰ (a_notice x) os → Memᴰ x (notices_among os)
unfolding notices_among notice_in
→notice m = →flat notice_in m (mathlib.Core.List.Memᴰ.head refl)

sets_sub : {xs ys : List Offer} → Sub xs ys → Sub (sets_among xs) (sets_among ys)
sets_sub {xs} {ys} s w m = →set (s (a_set w) (set→ xs m))

notices_sub : {xs ys : List Offer} → Sub xs ys → Sub (notices_among xs) (notices_among ys)
notices_sub {xs} {ys} s x m = →notice (s (a_notice x) (notice→ xs m))

pub apart_of : (os : List Offer) → shared_csn os ≡ false → Apart (sets_among os)
unfolding shared_csn
apart_of os e = apart (sets_among os) e

distinct_sub : {xs ys : List Offer} → shared_csn ys ≡ false → Sub xs ys → Sub (distinct (sets_among xs)) (distinct (sets_among ys))
distinct_sub {xs} {ys} e s w m = →distinct (sets_among ys) (apart_of ys e) (sets_sub s w (distinct→ (sets_among xs) m))

-- each of the four reasons stays with more offers

shared_more : {xs ys : List Offer} → Sub xs ys → shared_csn xs ≡ true → shared_csn ys ≡ true
unfolding shared_csn
shared_more s e = some_two_sub clash (sets_sub s) e

notices_more : {xs ys : List Offer} → Sub xs ys → two_notices xs ≡ true → two_notices ys ≡ true
unfolding two_notices
notices_more s e = some_two_sub differ (notices_sub s) e

many_more : {xs ys : List Offer} → shared_csn ys ≡ false → Sub xs ys → too_many xs ≡ true → too_many ys ≡ true
unfolding too_many
many_more {xs} {ys} p s e =
    lt-ltb _ _ (lt_of_lt_of_le (ltb-true _ _ e) (rising_le csn_of (sorted (sets_among xs)) (sorted (sets_among ys)) (distinct_sub p s)))

allows_not : (a n : ℕ) → not (allows a n) ≡ true → (a ≡ no_notice → ⊥) × (a < n)
unfolding allows
allows_not a n e = let r = or_false _ _ (not-true _ e) in (eqb-false _ _ r.0, leb-false _ _ r.1)

not_allows : (a n : ℕ) → (a ≡ no_notice → ⊥) → a < n → not (allows a n) ≡ true
unfolding allows ◌or◌
not_allows a n h k = simp (ne_eqb a no_notice h, lt-leb n a k)

over_more : {xs ys : List Offer} → shared_csn ys ≡ false → Sub xs ys → over_notice xs ≡ true → over_notice ys ≡ true
unfolding over_notice
over_more {xs} {ys} p s e =
    let f : ℕ → Bool = λ m. not (allows (notice_of m (notices_among xs)) (sets_of m (distinct (sets_among xs)))) in
    let g : ℕ → Bool = λ m. not (allows (notice_of m (notices_among ys)) (sets_of m (distinct (sets_among ys)))) in
    let r = any→ f masters e in
    let m = r.0 in
    let a = allows_not _ _ r.2 in
    let ny = notice_sub m (notices_sub s) in
    let cx = notice_cap m (notices_among xs) in
    let c = sets_of_le m (sorted (sets_among xs)) (sorted (sets_among ys)) (distinct_sub p s) in
    →any g r.1 (not_allows _ _ (omega (arith, a, ny, cx)) (omega (arith, a, ny, c)))

-- SPOILED IS FINAL: with more offers it stays so
pub spoils_more : (xs ys : List Offer) → Sub xs ys → spoils xs ≡ true → spoils ys ≡ true
unfolding spoils
spoils_more xs ys s e = go (shared_csn ys) refl
  where
    go : (t : Bool) → shared_csn ys ≡ t → (shared_csn ys or two_notices ys) or (too_many ys or over_notice ys) ≡ true
    go true p = or_left _ _ (or_left _ _ p)
    go false p =
        ⊎_elim
        (λ q. or_left _ _ (⊎_elim (λ a. or_left _ _ (shared_more s a)) (λ a. or_right _ _ (notices_more s a)) (or→ _ _ q)))
        (λ q. or_right _ _ (⊎_elim (λ a. or_left _ _ (many_more p s a)) (λ a. or_right _ _ (over_more p s a)) (or→ _ _ q)))
        (or→ _ _ e)

pub gathered_spoiled : (e r : ℕ) (os : List Offer) → spoils os ≡ true → gathered e r os ≡ spoiled_sheet e r
unfolding gathered
gathered_spoiled e r os p = simp p

pub gathered_holds : (e r : ℕ) (os : List Offer) → spoils os ≡ false → gathered e r os ≡ holding e r os
unfolding gathered
gathered_holds e r os p = simp p

-- offers that do not spoil contradict each other in nothing, and are not too many
pub shared_not : (os : List Offer) → spoils os ≡ false → shared_csn os ≡ false
unfolding spoils
shared_not os p = (or_false _ _ (or_false _ _ p).0).0

pub two_not : (os : List Offer) → spoils os ≡ false → two_notices os ≡ false
unfolding spoils
two_not os p = (or_false _ _ (or_false _ _ p).0).1

pub many_not : (os : List Offer) → spoils os ≡ false → too_many os ≡ false
unfolding spoils
many_not os p = (or_false _ _ (or_false _ _ p).1).0

pub over_not : (os : List Offer) → spoils os ≡ false → over_notice os ≡ false
unfolding spoils
over_not os p = (or_false _ _ (or_false _ _ p).1).1

holding_same : (e r : ℕ) (xs ys : List Offer) → shared_csn xs ≡ false → shared_csn ys ≡ false → Sub xs ys → Sub ys xs → holding e r xs ≡ holding e r ys
unfolding holding
holding_same e r xs ys p q s t =
    ap₂ (sound_of e r) (ap (λ (f : ℕ → ℕ). map f masters) (fun_ext (λ m. notice_same m (notices_sub s) (notices_sub t))))
    (rising_unique csn_of (sorted (sets_among xs)) (sorted (sets_among ys)) (distinct_sub q s) (distinct_sub p t))

-- THE SHEET DEPENDS ONLY ON WHICH OFFERS THERE ARE
pub same_offers : (e r : ℕ) (xs ys : List Offer) → Sub xs ys → Sub ys xs → gathered e r xs ≡ gathered e r ys
same_offers e r xs ys s t = go (spoils xs) refl
  where
    go : (b : Bool) → spoils xs ≡ b → gathered e r xs ≡ gathered e r ys
    go true p = gathered_spoiled e r xs p ∙ sym (gathered_spoiled e r ys (spoils_more xs ys s p))
    go false p =
        let q : spoils ys ≡ false = sym (same_tests _ _ (spoils_more xs ys s) (spoils_more ys xs t)) ∙ p in
        gathered_holds e r xs p ∙ holding_same e r xs ys (shared_not xs p) (shared_not ys q) s t ∙ sym (gathered_holds e r ys q)

-- each notice is of a master 0 to 15, and no 255
abbrev pub Proper : List Offer → Type 0
Proper os = (x : Notice) → Memᴰ (a_notice x) os → (x.master < 16) × (x.number < no_notice)

pub notice_at_lem : (ns : List Notice) (m : ℕ) → m < 16 → get_or (map (λ k. notice_of k ns) masters) m no_notice ≡ notice_of m ns
notice_at_lem ns m h = get_d_up_from (λ k. notice_of k ns) no_notice 0 16 m h ∙ ap (λ (k : ℕ). notice_of k ns) (omega arith)

noticed_one : (e r : ℕ) (os : List Offer) (m : ℕ) → m < 16 → (notice_of m (notices_among os) ≡ no_notice → ⊥)
    → noticed (holding e r os) m ≡ a_notice (notice_by m (notice_of m (notices_among os))) ∷ []
unfolding noticed holding sound_of
noticed_one e r os m h k = simp (notice_at_lem (notices_among os) m h, ne_eqb _ _ k)

noticed_none : (e r : ℕ) (os : List Offer) (m : ℕ) → m < 16 → notice_of m (notices_among os) ≡ no_notice → noticed (holding e r os) m ≡ []
unfolding noticed holding sound_of
noticed_none e r os m h k = simp (notice_at_lem (notices_among os) m h, eq-eqb _ _ k)

noticed→ : (e r : ℕ) (os : List Offer) (m : ℕ) {o : Offer} → m < 16 → Memᴰ o (noticed (holding e r os) m) → Memᴰ o os
noticed→ e r os m h k =
    elim (ℕ_discrete (notice_of m (notices_among os)) no_notice) [
      | yes q ↦ absurd (mathlib.Core.List.Memᴰ.not-nil (rw (noticed_none e r os m h q) at k))
      | no q ↦
          mathlib.Core.List.Memᴰ.cast (mathlib.Core.List.Memᴰ.eq_of_singleton (rw (noticed_one e r os m h q) at k))
          (⊎_elim (λ c. absurd (q c)) (λ i. notice→ os i) (notice_in_lem m (notices_among os)))
    ]

-- what a sheet holds was offered
pub held→ : (e r : ℕ) (os : List Offer) → Sub (offers_of (holding e r os)) os
unfolding offers_of holding sound_of
held→ e r os o k =
    ⊎_elim
    (λ l. let w = mathlib.Core.List.Memᴰ.of_map a_set (distinct (sets_among os)) l in mathlib.Core.List.Memᴰ.cast (sym w.2) (set→ os (distinct→ (sets_among os) w.1)))
    (λ l. let w = flat→ (noticed (holding e r os)) masters l in noticed→ e r os w.0 (up_from→ 0 16 w.1).1 w.2)
    (mathlib.Core.List.Memᴰ.append_cases (map a_set (distinct (sets_among os))) k)

-- what was offered, and does not spoil, is held
pub →held : (e r : ℕ) (os : List Offer) → spoils os ≡ false → Proper os → Sub os (offers_of (holding e r os))
unfolding offers_of holding sound_of two_notices
→held e r os p g (a_set w) k = mathlib.Core.List.Memᴰ.append_left _ (mathlib.Core.List.Memᴰ.map a_set (→distinct (sets_among os) (apart_of os (shared_not os p)) (→set k)))
→held e r os p g (a_notice x) k =
    let ns = notices_among os in
    let m = x.master in
    let b = g x k in
    let l : notice_of m ns ≤ x.number = notice_le m x.number (→notice k) in
    let i : Memᴰ (notice_by m (notice_of m ns)) ns = ⊎_elim (λ e. absurd (omega arith)) (λ y. y) (notice_in_lem m ns) in
    let q : x.number ≡ notice_of m ns = agree ns (two_not os p) m x.number (notice_of m ns) (→notice k) i in
    mathlib.Core.List.Memᴰ.append_right (map a_set (distinct (sets_among os)))
    (→flat (noticed (holding e r os)) (→up_from 0 16 (omega arith) b.0)
    (rw (noticed_one e r os m b.0 (omega arith)) (mathlib.Core.List.Memᴰ.head (ap (λ (n : ℕ). a_notice (notice_by m n)) q))))

with_spoiled : (e r : ℕ) (o : Offer) → with_offer (spoiled_sheet e r) o ≡ spoiled_sheet e r
unfolding with_offer spoiled_sheet
with_spoiled e r o = refl

with_held : (e r : ℕ) (xs : List Offer) (o : Offer) → with_offer (holding e r xs) o ≡ gathered e r (offers_of (holding e r xs) ++ (o ∷ []))
unfolding with_offer holding sound_of
with_held e r xs o = refl

-- A SHEET WITH ONE OFFER MORE IS THE SHEET OF ALL
pub gathered_put : (e r : ℕ) (xs : List Offer) (o : Offer) → Proper xs → with_offer (gathered e r xs) o ≡ gathered e r (xs ++ (o ∷ []))
gathered_put e r xs o g = go (spoils xs) refl
  where
    go : (t : Bool) → spoils xs ≡ t → with_offer (gathered e r xs) o ≡ gathered e r (xs ++ (o ∷ []))
    go true p =
        ap (λ (s : Sheet). with_offer s o) (gathered_spoiled e r xs p) ∙ with_spoiled e r o
        ∙ sym (gathered_spoiled e r _ (spoils_more xs (xs ++ (o ∷ [])) (λ x m. mathlib.Core.List.Memᴰ.append_left (o ∷ []) m) p))
    go false p =
        ap (λ (s : Sheet). with_offer s o) (gathered_holds e r xs p) ∙ with_held e r xs o
        ∙ same_offers e r _ _ (sub_append (o ∷ []) (held→ e r xs)) (sub_append (o ∷ []) (→held e r xs p g))

-- a gathered sheet has the epoch and the roster that it was opened with
pub epoch_of_lem : (e r : ℕ) (os : List Offer) → (gathered e r os).epoch ≡ e
unfolding spoiled_sheet holding sound_of
epoch_of_lem e r os = go (spoils os) refl
  where
    go : (t : Bool) → spoils os ≡ t → (gathered e r os).epoch ≡ e
    go true p = ap (λ (s : Sheet). s.epoch) (gathered_spoiled e r os p)
    go false p = ap (λ (s : Sheet). s.epoch) (gathered_holds e r os p)

pub roster_of_lem : (e r : ℕ) (os : List Offer) → (gathered e r os).roster ≡ r
unfolding spoiled_sheet holding sound_of
roster_of_lem e r os = go (spoils os) refl
  where
    go : (t : Bool) → spoils os ≡ t → (gathered e r os).roster ≡ r
    go true p = ap (λ (s : Sheet). s.roster) (gathered_spoiled e r os p)
    go false p = ap (λ (s : Sheet). s.roster) (gathered_holds e r os p)

-- it is spoiled exactly if its offers spoil it
pub spoiled_of : (e r : ℕ) (os : List Offer) → (gathered e r os).spoiled ≡ spoils os
unfolding spoiled_sheet holding sound_of
spoiled_of e r os = go (spoils os) refl
  where
    go : (t : Bool) → spoils os ≡ t → (gathered e r os).spoiled ≡ spoils os
    go true p = ap (λ (s : Sheet). s.spoiled) (gathered_spoiled e r os p) ∙ sym p
    go false p = ap (λ (s : Sheet). s.spoiled) (gathered_holds e r os p) ∙ sym p

join_spoiled : (e r : ℕ) (xs ys : List Offer) → spoils xs or spoils ys ≡ true → joined (gathered e r xs) (gathered e r ys) ≡ spoiled_sheet e r
unfolding joined
join_spoiled e r xs ys p = simp (spoiled_of e r xs, spoiled_of e r ys, p, epoch_of_lem e r xs, roster_of_lem e r xs)

join_held_lem : (e r : ℕ) (xs ys : List Offer)
    → joined (holding e r xs) (holding e r ys) ≡ gathered e r (offers_of (holding e r xs) ++ offers_of (holding e r ys))
unfolding joined holding sound_of ◌or◌
join_held_lem e r xs ys = refl

-- JOINING TWO SHEETS GIVES THE SHEET OF BOTH SHEETS' OFFERS
pub gathered_join : (e r : ℕ) (xs ys : List Offer) → Proper xs → Proper ys → joined (gathered e r xs) (gathered e r ys) ≡ gathered e r (xs ++ ys)
gathered_join e r xs ys g h = go (spoils xs) refl (spoils ys) refl
  where
    both_spoilt : spoils xs or spoils ys ≡ true → spoils (xs ++ ys) ≡ true → joined (gathered e r xs) (gathered e r ys) ≡ gathered e r (xs ++ ys)
    both_spoilt p q = join_spoiled e r xs ys p ∙ sym (gathered_spoiled e r (xs ++ ys) q)

    go : (a : Bool) → spoils xs ≡ a → (b : Bool) → spoils ys ≡ b → joined (gathered e r xs) (gathered e r ys) ≡ gathered e r (xs ++ ys)
    go true p b q = both_spoilt (or_left _ _ p) (spoils_more xs (xs ++ ys) (λ x m. mathlib.Core.List.Memᴰ.append_left ys m) p)
    go false p true q = both_spoilt (or_right _ _ q) (spoils_more ys (xs ++ ys) (λ x m. mathlib.Core.List.Memᴰ.append_right xs m) q)
    go false p false q =
        ap₂ joined (gathered_holds e r xs p) (gathered_holds e r ys q) ∙ join_held_lem e r xs ys
        ∙ same_offers e r (offers_of (holding e r xs) ++ offers_of (holding e r ys)) (xs ++ offers_of (holding e r ys)) (sub_append _ (held→ e r xs)) (sub_append _ (→held e r xs p g))
        ∙ same_offers e r (xs ++ offers_of (holding e r ys)) (xs ++ ys) (sub_append_right xs (held→ e r ys)) (sub_append_right xs (→held e r ys q h))
