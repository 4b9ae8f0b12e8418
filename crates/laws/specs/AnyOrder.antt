-- IN ANY ORDER: the records of a set, typed one by one in whatever order, are none of them refused and end in the one open set of that set.
use Rattle.std.specs.Prelude.{ℕ, ◌<◌, ◌≡◌, refl, ◌⊎◌, true, false}
use Rattle.std.proofs.Common.{sym, ◌∙◌, arith, le-leb}
use Rattle.std.proofs.Math.Path.{ap}
use Rattle.std.proofs.Math.Logic.{inl, inr, ⊎_elim}
use mathlib.Core.List.Memᴰ
use mathlib.Core.List.Memᴰ.{head as here}
use mathlib.Core.List.Memᴰ.{tail as later}
use mathlib.Core.List.Permᴰ
use mathlib.Core.List.{List, [], ◌∷◌, Memᴰ, Permᴰ}
use Rattle.std.proofs.lemmas.Bool.{lt-leb}
use Rattle.std.proofs.Math.ListN.{length}
use Rattle.rules.specs.declared.row.Record.{Record}
use Rattle.rules.specs.declared.desk.OpenSet.{OpenSet}
use Rattle.rules.specs.Lists.{◌or◌}
use Rattle.rules.specs.Sheet.{max_records, record_key, sound_record}
use Rattle.rules.specs.Tag.{is_key, tag_of}
use Rattle.rules.specs.OpenSet.{sound_open, open_set_of, empty_set, has_key, put_record}
use Rattle.rules.specs.Refused.{Outcome, refused, done, enter_outcome}
use Rattle.laws.specs.Tests.{left, right, both}
use Rattle.laws.specs.ListLaws.{Sub, →all, all→}
use Rattle.laws.specs.Rising.{Rising, nil, cons, →rising, rising_unique, rising_le}
use Rattle.laws.specs.Tags.{tag_of_is}
use Rattle.laws.specs.OpenSets.{open_says, open_records_lem, is_open, empty_open}
use Rattle.laws.specs.Entering.{put_only, put_has, put_keeps, put_length, put_rises, no_key_of, open_rises}

-- what comes after an entering that was not refused
unfoldable pub then_enter : Outcome OpenSet → (OpenSet → Outcome OpenSet) → Outcome OpenSet
then_enter (refused n) next = refused n
then_enter (done o) next = next o

-- records typed one by one, each by its station's tag; the first refusal ends it
unfoldable pub enter_all : List Record → OpenSet → Outcome OpenSet
enter_all [] o = done o
enter_all (r ∷ rs) o = then_enter (enter_outcome o r.kind (tag_of r.key) r.value) (enter_all rs)

-- ---- records in some order

perm_sub : {xs ys : List Record} → Permᴰ xs ys → Sub xs ys
perm_sub Permᴰ.nil x m = m
perm_sub (Permᴰ.cons e p) x m = ⊎_elim (λ q. here (q ∙ e)) (λ k. later (perm_sub p x k)) (Memᴰ.cases_cons m)
perm_sub (Permᴰ.swap e f) x m =
    ⊎_elim (λ q. later (here (q ∙ e))) (λ k. ⊎_elim (λ q. here (q ∙ f)) (λ l. later (later l)) (Memᴰ.cases_cons k)) (Memᴰ.cases_cons m)
perm_sub (Permᴰ.trans p q) x m = perm_sub q x (perm_sub p x m)

-- no two have one key
data Apart : List Record → Type 0 where
  no_more : Apart []
  and_more : {r : Record} {rs : List Record} → ((x : Record) → Memᴰ x rs → x.key ≡ r.key → ⊥) → Apart rs → Apart (r ∷ rs)

not_below : {m n : ℕ} → m < n → n ≡ m → ⊥
not_below l e = omega arith

rising_apart : {rs : List Record} → Rising record_key rs → Apart rs
rising_apart nil = no_more
rising_apart (cons g q) = and_more (λ x m e. not_below (g x m) e) (rising_apart q)

perm_apart : {xs ys : List Record} → Permᴰ xs ys → Apart xs → Apart ys
perm_apart Permᴰ.nil a = a
perm_apart (Permᴰ.cons e p) (and_more h a) = and_more (λ x m q. h x (perm_sub (Permᴰ.symm p) x m) (q ∙ ap record_key (sym e))) (perm_apart p a)
perm_apart (Permᴰ.swap e f) (and_more h (and_more k a)) =
    and_more
    (λ x m q. ⊎_elim (λ c. h _ (here refl) (ap record_key f ∙ sym q ∙ ap record_key c ∙ ap record_key (sym e))) (λ l. k x l (q ∙ ap record_key (sym f))) (Memᴰ.cases_cons m))
    (and_more (λ x m q. h x (later m) (q ∙ ap record_key (sym e))) a)
perm_apart (Permᴰ.trans p q) a = perm_apart q (perm_apart p a)

-- ---- one that is typed

-- some records of a sound open set, in key order, are one
sound_within : (rs us : List Record) → Rising record_key rs → Sub rs us → sound_open us ≡ true → sound_open rs ≡ true
sound_within rs us q sub h =
    let u = (open_says us).told h in
    let w = open_rises us h in
    let l = rising_le record_key q w.0 sub in
    (open_says rs).test (omega (arith, u.0), (→rising record_key 0 q (λ x m. w.1 x (sub x m)), →all sound_record rs (λ x m. all→ sound_record u.1.1 (sub x m))))

-- a sound record is typed into an open set that has not its key, and has room
enters_one : (r : Record) (rs : List Record) → sound_open rs ≡ true → sound_record r ≡ true → 0 < r.key → has_key r.key rs ≡ false → length rs < 8
    → enter_outcome (open_set_of rs) r.kind (tag_of r.key) r.value ≡ done (open_set_of (put_record r rs))
unfolding enter_outcome sound_record is_key ◌or◌
enters_one r rs h s low n few =
    let e = open_records_lem rs ((open_says rs).told h).1.1 in
    let t = tag_of_is r.key (both (le-leb 1 r.key low) (left _ _ (right _ _ s))) in
    simp (is_open rs h, left _ _ s, right _ _ (right _ _ s), t.0, t.1, e, n, lt-leb max_records (length rs) few)

-- ---- all of them

-- records that are still to be typed into an open set, where together they are us
module _ (us : List Record) (sound : sound_open us ≡ true) where
  enters_rest : (ts held : List Record) → Rising record_key held → Apart ts → Sub held us → Sub ts us
      → ((x : Record) → Memᴰ x us → Memᴰ x held ⊎ Memᴰ x ts)
      → ((x y : Record) → Memᴰ x held → Memᴰ y ts → x.key ≡ y.key → ⊥)
      → enter_all ts (open_set_of held) ≡ done (open_set_of us)
  unfolding enter_all then_enter
  enters_rest [] held q a sub subt found apart =
      ap (λ (l : List Record). done (open_set_of l))
      (rising_unique record_key q (open_rises us sound).0 sub (λ x m. ⊎_elim (λ k. k) (λ k. absurd (Memᴰ.not-nil k)) (found x m)))
  enters_rest (r ∷ ts) held q (and_more h a) sub subt found apart =
      let u = open_rises us sound in
      let s = (open_says us).told sound in
      let new : (x : Record) → Memᴰ x held → x.key ≡ r.key → ⊥ = λ x m. apart x r m (here refl) in
      let q' = put_rises r q new in
      let sub' : Sub (put_record r held) us = λ x m. ⊎_elim (λ e. subt x (here e)) (λ k. sub x k) (put_only r held m) in
      let room = rising_le record_key q' u.0 sub' in
      let long = put_length r held in
      let few : length held < 8 = omega (arith, s.0) in
      let one = enters_one r held (sound_within held us q sub sound) (all→ sound_record s.1.1 (subt r (here refl))) (u.1 r (subt r (here refl))) (no_key_of r.key held new) few in
      let found' : (x : Record) → Memᴰ x us → Memᴰ x (put_record r held) ⊎ Memᴰ x ts =
      λ x m. ⊎_elim (λ k. inl (put_keeps r held x k)) (λ k. ⊎_elim (λ e. inl (rw e (put_has r held))) (λ l. inr l) (Memᴰ.cases_cons k)) (found x m) in
      let apart' : (x y : Record) → Memᴰ x (put_record r held) → Memᴰ y ts → x.key ≡ y.key → ⊥ =
      λ x y m k c. ⊎_elim (λ e. h y k (sym c ∙ ap record_key e)) (λ l. apart x y l (later k) c) (put_only r held m) in
      rw one (enters_rest ts (put_record r held) q' a sub' (λ x m. subt x (later m)) found' apart')

-- IN ANY ORDER THE RECORDS OF A SET ARE THE SAME OPEN SET
pub any_order : (rs ts : List Record) → sound_open rs ≡ true → Permᴰ rs ts → enter_all ts empty_set ≡ done (open_set_of rs)
any_order rs ts h p =
    ap (enter_all ts) (sym empty_open)
    ∙ enters_rest rs h ts [] nil (perm_apart p (rising_apart (open_rises rs h).0)) (λ x m. absurd (Memᴰ.not-nil m)) (perm_sub (Permᴰ.symm p))
    (λ x m. inr (perm_sub p x m)) (λ x y m k e. absurd (Memᴰ.not-nil m))
