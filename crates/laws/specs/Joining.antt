-- Joining two sound sheets, said of their sets and notice bytes: the reasons that spoil it as code can test them, and what is held else.
use Rattle.std.specs.Prelude.{ℕ, min, ◌<◌, ◌≤◌, ◌≡◌, ◌⊎◌, Bool, length, get_or, eqb, if◌then◌else◌}
use Rattle.std.proofs.Math.Path.{refl, ap₂}
use Rattle.std.proofs.Common.{sym, ◌∙◌, ap, inl, inr, ⊎_elim, arith, leb-true, eqb-true, eq-eqb, ne_eqb}
use Rattle.std.proofs.Math.Bool.{true, false, not}
use mathlib.Core.List.Memᴰ
use mathlib.Core.List.{List, [], ◌∷◌, ◌++◌, map, append-nil, Memᴰ}
use Rattle.std.proofs.Math.Decide.{ℕ_discrete}
use Rattle.std.proofs.lemmas.Bool.{eqb-false, not-true}
use Rattle.std.proofs.Math.Dec.{ltb}
use Rattle.rules.specs.Lists.{◌and◌, ◌or◌, any, flat}
use Rattle.rules.specs.Sheet.{WriteSet, Sheet, no_notice, max_sets, masters, in_roster, sets_of, allows, sound_set, sound_notice, sound_sheet}
use Rattle.rules.specs.Gathering.{Notice, a_set, a_notice, set_in, notice_in, sets_among, notices_among, some_two, clash, differ, distinct, notice_of, shared_csn, two_notices, too_many, over_notice, spoils, sound_of, spoiled_sheet, holding, gathered, noticed, offers_of, joined}
use Rattle.laws.specs.Tests.{left, right, both, or→, same_tests}
use Rattle.laws.specs.ListLaws.{any→, →any, all→, flat→, →flat, up_from→, →up_from, flat_append}
use Rattle.laws.specs.SheetLaws.{sound_sheet→}
use Rattle.laws.specs.Distinct.{some_two_in}
use Rattle.laws.specs.Notices.{notice_by, notice_cap, notice_le, notice_in_lem, notice_if, notice_else}
use Rattle.laws.specs.GatherLaws.{→set, notice→, →notice}
use Rattle.laws.specs.GatherSound.{Fair, head_of, gathered_sound, spoiled_sound}

-- what master m noticed in a sheet
abbrev pub noted : Sheet → ℕ → ℕ
noted s m = get_or s.notices m no_notice

-- what master m noticed in two sheets together, where no two notices differ
unfoldable pub notice_together : Sheet → Sheet → ℕ → ℕ
notice_together a b m = min (noted a m) (noted b m)

-- master m has a notice in both, and they differ
unfoldable pub notices_differ : Sheet → Sheet → ℕ → Bool
notices_differ a b m = not (eqb (noted a m) no_notice) and not (eqb (noted b m) no_notice) and not (eqb (noted a m) (noted b m))

-- the distinct sets of both
unfoldable pub together : Sheet → Sheet → List WriteSet
together a b = distinct (a.sets ++ b.sets)

-- master m has more sets than its notice
unfoldable pub over_at : Sheet → Sheet → ℕ → Bool
over_at a b m = not (allows (notice_together a b m) (sets_of m (together a b)))

-- the four reasons
unfoldable pub join_spoils : Sheet → Sheet → Bool
join_spoils a b =
    (some_two clash (a.sets ++ b.sets) or any (notices_differ a b) masters)
    or (ltb max_sets (length (together a b)) or any (over_at a b) masters)

-- what is held if none of them is there
unfoldable pub join_held : Sheet → Sheet → Sheet
join_held a b = sound_of a.epoch a.roster (map (notice_together a b) masters) (together a b)

-- ---- lists

module _ {A B : Type 0} where
  map_same : (f g : A → B) (xs : List A) → ((x : A) → Memᴰ x xs → f x ≡ g x) → map f xs ≡ map g xs
  map_same f g [] h = refl
  map_same f g (x ∷ xs) h = ap₂ ◌∷◌ (h x (Memᴰ.head refl)) (map_same f g xs (λ y m. h y (Memᴰ.tail m)))

any_same : {A : Type 0} (p q : A → Bool) (xs : List A) → ((x : A) → Memᴰ x xs → p x ≡ q x) → any p xs ≡ any q xs
unfolding any
any_same p q [] h = refl
any_same p q (x ∷ xs) h = ap₂ ◌or◌ (h x (Memᴰ.head refl)) (any_same p q xs (λ y m. h y (Memᴰ.tail m)))

-- ---- the sets

sets_map : (ws : List WriteSet) → flat set_in (map a_set ws) ≡ ws
unfolding flat set_in
sets_map [] = refl
sets_map (w ∷ ws) = ap (λ (l : List WriteSet). w ∷ l) (sets_map ws)

no_sets : (s : Sheet) (ms : List ℕ) → flat set_in (flat (noticed s) ms) ≡ []
unfolding flat set_in noticed
no_sets s [] = refl
no_sets s (m ∷ ms) = flat_append set_in (noticed s m) (flat (noticed s) ms) ∙ ap₂ ◌++◌ none_here (no_sets s ms)
  where
    none_here : flat set_in (noticed s m) ≡ []
    none_here = go (eqb (noted s m) no_notice)
      where
        go : (t : Bool) → flat set_in (if t then [] else a_notice (record { master = m; number = noted s m }) ∷ []) ≡ []
        go true = refl
        go false = refl

-- the sets that a sheet offers
pub sets_of_lem : (s : Sheet) → sets_among (offers_of s) ≡ s.sets
unfolding sets_among offers_of
sets_of_lem s =
    flat_append set_in (map a_set s.sets) (flat (noticed s) masters)
    ∙ ap₂ ◌++◌ (sets_map s.sets) (no_sets s masters) ∙ append-nil s.sets

-- the sets that two sheets offer
pub sets_together : (a b : Sheet) → sets_among (offers_of a ++ offers_of b) ≡ a.sets ++ b.sets
unfolding sets_among
sets_together a b = flat_append set_in (offers_of a) (offers_of b) ∙ ap₂ ◌++◌ (sets_of_lem a) (sets_of_lem b)

-- ---- the notices

-- what a sheet offers of notices
offered→ : (s : Sheet) {x : Notice} → Memᴰ x (notices_among (offers_of s)) → (x.master < 16) × (x.number ≡ noted s x.master) × (x.number ≡ no_notice → ⊥)
unfolding offers_of noticed
offered→ s {x} k =
    ⊎_elim (λ l. absurd (no_set_lem (Memᴰ.of_map a_set s.sets l).0 (Memᴰ.of_map a_set s.sets l).2))
    (λ l. let r = flat→ (noticed s) masters l in here r.0 (up_from→ 0 16 r.1).1 r.2)
    (Memᴰ.append_cases (map a_set s.sets) (notice→ (offers_of s) k))
  where
    no_set_lem : (w : WriteSet) → a_set w ≡ a_notice x → ⊥
    no_set_lem w e = let z : ◌≡◌ {A = ℕ} 0 1 = cc in omega arith

    here : (m : ℕ) → m < 16 → Memᴰ (a_notice x) (noticed s m) → (x.master < 16) × (x.number ≡ noted s x.master) × (x.number ≡ no_notice → ⊥)
    here m h l = go (eqb (noted s m) no_notice) refl l
      where
        go : (t : Bool) → eqb (noted s m) no_notice ≡ t → Memᴰ (a_notice x) (if t then [] else a_notice (notice_by m (noted s m)) ∷ [])
            → (x.master < 16) × (x.number ≡ noted s x.master) × (x.number ≡ no_notice → ⊥)
        go true p l = absurd (Memᴰ.not-nil l)
        go false p l =
            let e : x ≡ notice_by m (noted s m) = same (Memᴰ.eq_of_singleton l) in
            let c : x.master ≡ m = ap (λ (y : Notice). y.master) e in
            let d : x.number ≡ noted s m = ap (λ (y : Notice). y.number) e in
            (omega arith, d ∙ ap (noted s) (sym c), λ q. eqb-false (noted s m) no_notice p (sym d ∙ q))
          where
            same : {y : Notice} → a_notice x ≡ a_notice y → x ≡ y
            same e = cc

→offered : (s : Sheet) (m : ℕ) → m < 16 → (noted s m ≡ no_notice → ⊥) → Memᴰ (notice_by m (noted s m)) (notices_among (offers_of s))
unfolding offers_of noticed
→offered s m h k =
    →notice (Memᴰ.append_right (map a_set s.sets) (→flat (noticed s) (→up_from 0 16 (omega arith) h) (rw (ne_eqb (noted s m) no_notice k) (Memᴰ.head refl))))

-- what a master noticed in a sheet's offers
pub noted_of : (s : Sheet) (m : ℕ) → m < 16 → noted s m ≤ no_notice → notice_of m (notices_among (offers_of s)) ≡ noted s m
noted_of s m h c =
    ⊎_elim
    (λ e. elim (ℕ_discrete (noted s m) no_notice) [
      | yes q ↦ e ∙ sym q
      | no q ↦ omega (arith, notice_le m (noted s m) (→offered s m h q))
    ])
    (λ k. (offered→ s k).1)
    (notice_in_lem m (notices_among (offers_of s)))

notice_append : (m : ℕ) (xs ys : List Notice) → notice_of m (xs ++ ys) ≡ min (notice_of m xs) (notice_of m ys)
notice_append m [] ys = omega (arith, notice_cap m ys, no_notices_lem)
  where
    no_notices_lem : notice_of m [] ≡ no_notice
    no_notices_lem = unfold notice_of in refl
notice_append m (x ∷ xs) ys =
    elim (ℕ_discrete x.master m) [
      | yes e ↦ omega (arith, notice_if m x (xs ++ ys) e, notice_if m x xs e, notice_append m xs ys)
      | no h ↦ omega (arith, notice_else m x (xs ++ ys) h, notice_else m x xs h, notice_append m xs ys)
    ]

-- a notice byte of a sound sheet
sound_notice_lem : (s : Sheet) → sound_sheet s ≡ true → (m : ℕ) → m < 16 → (noted s m ≡ no_notice) ⊎ ((in_roster s.roster m ≡ true) × (noted s m ≤ max_sets))
unfolding sound_sheet sound_notice
sound_notice_lem s e m h =
    ⊎_elim (λ p. inl (eqb-true (noted s m) no_notice p)) (λ p. inr (left _ _ p, leb-true (noted s m) max_sets (left _ _ (right _ _ p))))
    (or→ _ _ (all→ (λ k. sound_notice s.roster k (noted s k) (sets_of k s.sets)) (left _ _ (right _ _ (right _ _ (right _ _ (right _ _ (right _ _ e)))))) (→up_from 0 16 (omega arith) h)))

pub noted_cap : (s : Sheet) → sound_sheet s ≡ true → (m : ℕ) → m < 16 → noted s m ≤ no_notice
noted_cap s e m h = ⊎_elim (λ p. omega arith) (λ p. omega arith) (sound_notice_lem s e m h)

-- THE NOTICE OF A MASTER IN BOTH SHEETS' OFFERS
pub notice_together_lem : (a b : Sheet) → sound_sheet a ≡ true → sound_sheet b ≡ true → (m : ℕ) → m < 16
    → notice_of m (notices_among (offers_of a ++ offers_of b)) ≡ notice_together a b m
unfolding notice_together notices_among
notice_together_lem a b p q m h =
    ap (notice_of m) (flat_append notice_in (offers_of a) (offers_of b)) ∙ notice_append m (flat notice_in (offers_of a)) (flat notice_in (offers_of b))
    ∙ ap₂ min (noted_of a m h (noted_cap a p m h)) (noted_of b m h (noted_cap b q m h))

-- two notices, of a sheet each, of one master
two_noted : (a b : Sheet) {x y : Notice} → Memᴰ x (notices_among (offers_of a)) → Memᴰ y (notices_among (offers_of b))
    → x.master ≡ y.master → (x.number ≡ y.number → ⊥) → any (notices_differ a b) masters ≡ true
unfolding notices_differ
two_noted a b {x} {y} k l e d =
    let p = offered→ a k in
    let q = offered→ b l in
    let m = x.master in
    let n : noted b m ≡ y.number = ap (noted b) e ∙ sym q.1 in
    →any (notices_differ a b) (→up_from 0 16 (omega arith) p.0)
    (both (ap not (ne_eqb (noted a m) no_notice (λ c. p.2 (p.1 ∙ c))))
    (both (ap not (ne_eqb (noted b m) no_notice (λ c. q.2 (sym n ∙ c))))
    (ap not (ne_eqb (noted a m) (noted b m) (λ c. d (p.1 ∙ c ∙ n))))))

pub differ→ : (x y : Notice) → differ x y ≡ true → (x.master ≡ y.master) × (x.number ≡ y.number → ⊥)
unfolding differ
differ→ x y e = (eqb-true x.master y.master (left _ _ e), eqb-false x.number y.number (not-true _ (right _ _ e)))

-- a sheet offers one notice a master
pub one_noted : (s : Sheet) {x y : Notice} → Memᴰ x (notices_among (offers_of s)) → Memᴰ y (notices_among (offers_of s)) → x.master ≡ y.master → x.number ≡ y.number
one_noted s k l e = (offered→ s k).1 ∙ ap (noted s) e ∙ sym (offered→ s l).1

differs→ : (a b : Sheet) → some_two differ (notices_among (offers_of a) ++ notices_among (offers_of b)) ≡ true → any (notices_differ a b) masters ≡ true
unfolding some_two
differs→ a b e =
    let na = notices_among (offers_of a) in
    let nb = notices_among (offers_of b) in
    let p = any→ (λ x. any (differ x) (na ++ nb)) (na ++ nb) e in
    let q = any→ (differ p.0) (na ++ nb) p.2 in
    let d = differ→ p.0 q.0 q.2 in
    ⊎_elim
    (λ k. ⊎_elim (λ l. absurd (d.1 (one_noted a k l d.0))) (λ l. two_noted a b k l d.0 d.1) (Memᴰ.append_cases na q.1))
    (λ k. ⊎_elim (λ l. two_noted a b l k (sym d.0) (λ c. d.1 (sym c))) (λ l. absurd (d.1 (one_noted b k l d.0))) (Memᴰ.append_cases na q.1))
    (Memᴰ.append_cases na p.1)

→differs : (a b : Sheet) → any (notices_differ a b) masters ≡ true → some_two differ (notices_among (offers_of a) ++ notices_among (offers_of b)) ≡ true
unfolding notices_differ differ
→differs a b e =
    let p = any→ (notices_differ a b) masters e in
    let m = p.0 in
    let h = (up_from→ 0 16 p.1).1 in
    let k = →offered a m h (eqb-false _ _ (not-true _ (left _ _ p.2))) in
    let l = →offered b m h (eqb-false _ _ (not-true _ (left _ _ (right _ _ p.2)))) in
    some_two_in differ (Memᴰ.append_left (notices_among (offers_of b)) k) (Memᴰ.append_right (notices_among (offers_of a)) l)
    (both (eq-eqb m m refl) (right _ _ (right _ _ p.2)))

pub two_notices_lem : (a b : Sheet) → two_notices (offers_of a ++ offers_of b) ≡ any (notices_differ a b) masters
unfolding two_notices notices_among
two_notices_lem a b =
    ap (some_two differ) (flat_append notice_in (offers_of a) (offers_of b))
    ∙ same_tests _ _ (differs→ a b) (→differs a b)

-- ---- the whole

module _ (a b : Sheet) (p : sound_sheet a ≡ true) (q : sound_sheet b ≡ true) where
  over_notice_lem : over_notice (offers_of a ++ offers_of b) ≡ any (over_at a b) masters
  unfolding over_notice over_at together
  over_notice_lem =
      any_same _ _ masters
      (λ m k. ap₂ (λ (n : ℕ) (ws : List WriteSet). not (allows n (sets_of m (distinct ws)))) (notice_together_lem a b p q m (up_from→ 0 16 k).1) (sets_together a b))

  spoils_together : spoils (offers_of a ++ offers_of b) ≡ join_spoils a b
  unfolding spoils join_spoils shared_csn too_many together
  spoils_together =
      ap₂ ◌or◌
      (ap₂ ◌or◌ (ap (some_two clash) (sets_together a b)) (two_notices_lem a b))
      (ap₂ ◌or◌ (ap (λ (ws : List WriteSet). ltb max_sets (length (distinct ws))) (sets_together a b)) over_notice_lem)

  holds_together : holding a.epoch a.roster (offers_of a ++ offers_of b) ≡ join_held a b
  unfolding holding join_held together
  holds_together =
      ap₂ (sound_of a.epoch a.roster)
      (map_same _ _ masters (λ m k. notice_together_lem a b p q m (up_from→ 0 16 k).1))
      (ap distinct (sets_together a b))

  -- JOINING, BY TESTS ON THE TWO SHEETS
  pub joined_by : joined a b ≡ (if a.spoiled or b.spoiled or join_spoils a b then spoiled_sheet a.epoch a.roster else join_held a b)
  unfolding joined gathered ◌or◌
  joined_by = go a.spoiled b.spoiled
    where
      go : (s t : Bool) → (if s or t then spoiled_sheet a.epoch a.roster else gathered a.epoch a.roster (offers_of a ++ offers_of b))
          ≡ (if s or t or join_spoils a b then spoiled_sheet a.epoch a.roster else join_held a b)
      go true t = refl
      go false true = refl
      go false false = ap₂ (λ (t : Bool) (s : Sheet). if t then spoiled_sheet a.epoch a.roster else s) spoils_together holds_together

-- ---- what is joined is sound

-- THE OFFERS OF A SOUND SHEET ARE FAIR
pub offers_fair : (s : Sheet) → sound_sheet s ≡ true → Fair s.epoch s.roster (offers_of s)
offers_fair s e (a_set w) k = all→ (sound_set s.epoch s.roster) (sound_sheet→ s e).sets (rw (sets_of_lem s) at (→set k))
offers_fair s e (a_notice x) k =
    let r = offered→ s (→notice k) in
    ⊎_elim (λ c. absurd (r.2 (r.1 ∙ c))) (λ c. (r.0, omega arith, c.0)) (sound_notice_lem s e x.master r.0)

-- TWO SOUND SHEETS OF ONE EPOCH AND ROSTER ARE JOINED TO A SOUND ONE
pub joined_sound : (a b : Sheet) → sound_sheet a ≡ true → sound_sheet b ≡ true → a.epoch ≡ b.epoch → a.roster ≡ b.roster → sound_sheet (joined a b) ≡ true
unfolding joined
joined_sound a b p q e r = go (a.spoiled or b.spoiled)
  where
    fair : Fair a.epoch a.roster (offers_of a ++ offers_of b)
    fair o m = ⊎_elim (λ k. offers_fair a p o k) (λ k. rw (e, r) (offers_fair b q o k)) (Memᴰ.append_cases (offers_of a) m)

    go : (t : Bool) → sound_sheet (if t then spoiled_sheet a.epoch a.roster else gathered a.epoch a.roster (offers_of a ++ offers_of b)) ≡ true
    go true = spoiled_sound a.epoch a.roster (head_of a p)
    go false = gathered_sound a.epoch a.roster (offers_of a ++ offers_of b) (head_of a p) fair
