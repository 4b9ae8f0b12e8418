-- ENTERING: where it is not refused the open set has exactly that record more, in key order; what is no open set, and a tag that is not right, is refused.
use Prim.Native.Nat.{ℕ, suc, ◌≤◌, ◌<◌}
use Rattle.std.specs.Prelude.{◌≡◌, ◌⊎◌, Bool, not, ltb, leb, eqb, if◌then◌else◌, Some}
use Rattle.std.proofs.Math.Path.{refl, ap}
use Rattle.std.proofs.Common.{sym, ◌∙◌, arith, ltb-true, ltb-false, eqb-true, eq-eqb, leb-false}
use Rattle.std.proofs.Math.Logic.{inl, inr, ⊎_elim}
use Rattle.std.proofs.Math.Bool.{true, false}
use mathlib.Core.List.Memᴰ
use mathlib.Core.List.Memᴰ.{head as here}
use mathlib.Core.List.Memᴰ.{tail as later}
use mathlib.Core.List.{List, [], ◌∷◌, Memᴰ}
use Rattle.std.proofs.lemmas.Bool.{not-false}
use Rattle.std.proofs.Math.ListN.{length}
use Rattle.words.specs.Words.{Bytes}
use Rattle.rules.specs.declared.row.Record.{Record}
use Rattle.rules.specs.declared.desk.OpenSet.{OpenSet}
use Rattle.rules.specs.Lists.{◌and◌, ◌or◌, all}
use Rattle.rules.specs.Sheet.{max_records, record_key, is_kind, sound_value, sound_record}
use Rattle.rules.specs.Tag.{right_tag, is_key, is_tag, key_in, key_of_tag}
use Rattle.rules.specs.OpenSet.{sound_open, is_open_set, read_open, open_records, has_key, put_record}
use Rattle.rules.specs.Refused.{refused, done, record_of, enter_outcome}
use Rattle.laws.specs.Tests.{right, both, not_true_false}
use Rattle.laws.specs.Says.{clash}
use Rattle.laws.specs.ListLaws.{Sub, any→, →any, →all, all→}
use Rattle.laws.specs.Rising.{Rising, nil, cons, Above, rising→, →rising}
use Rattle.laws.specs.NotRefused.{passed, done_same}
use Rattle.laws.specs.Tags.{key_is, tag_is}
use Rattle.laws.specs.OpenSets.{open_says, open_is, open_written}

-- ---- a record among records in key order

module _ (r : Record) where
  -- exactly that record more
  pub put_only : (rs : List Record) {x : Record} → Memᴰ x (put_record r rs) → (x ≡ r) ⊎ Memᴰ x rs
  unfolding put_record
  put_only [] m = Memᴰ.cases_cons m
  put_only (y ∷ ys) {x} m = go (ltb r.key y.key) m (λ k. put_only ys k)
    where
      go : (t : Bool) → Memᴰ x (if t then r ∷ y ∷ ys else y ∷ put_record r ys) → (Memᴰ x (put_record r ys) → (x ≡ r) ⊎ Memᴰ x ys) → (x ≡ r) ⊎ Memᴰ x (y ∷ ys)
      go true m f = Memᴰ.cases_cons m
      go false m f = ⊎_elim (λ e. inr (here e)) (λ k. ⊎_elim (λ e. inl e) (λ l. inr (later l)) (f k)) (Memᴰ.cases_cons m)

  pub put_has : (rs : List Record) → Memᴰ r (put_record r rs)
  unfolding put_record
  put_has [] = here refl
  put_has (y ∷ ys) = go (ltb r.key y.key) (put_has ys)
    where
      go : (t : Bool) → Memᴰ r (put_record r ys) → Memᴰ r (if t then r ∷ y ∷ ys else y ∷ put_record r ys)
      go true k = here refl
      go false k = later k

  pub put_keeps : (rs : List Record) → Sub rs (put_record r rs)
  unfolding put_record
  put_keeps [] x m = absurd (Memᴰ.not-nil m)
  put_keeps (y ∷ ys) x m = go (ltb r.key y.key) (put_keeps ys x)
    where
      go : (t : Bool) → (Memᴰ x ys → Memᴰ x (put_record r ys)) → Memᴰ x (if t then r ∷ y ∷ ys else y ∷ put_record r ys)
      go true f = later m
      go false f = ⊎_elim (λ e. here e) (λ k. later (f k)) (Memᴰ.cases_cons m)

  pub put_length : (rs : List Record) → length (put_record r rs) ≡ suc (length rs)
  unfolding put_record
  put_length [] = refl
  put_length (y ∷ ys) = go (ltb r.key y.key) (put_length ys)
    where
      go : (t : Bool) → length (put_record r ys) ≡ suc (length ys) → length (if t then r ∷ y ∷ ys else y ∷ put_record r ys) ≡ suc (suc (length ys))
      go true k = refl
      go false k = ap suc k

  -- in key order, where no record has the key
  pub put_rises : {rs : List Record} → Rising record_key rs → ((x : Record) → Memᴰ x rs → x.key ≡ r.key → ⊥) → Rising record_key (put_record r rs)
  unfolding put_record
  put_rises nil n = cons (λ y m. absurd (Memᴰ.not-nil m)) nil
  put_rises (cons {x = y} {xs = ys} g q) n = go (ltb r.key y.key) refl (put_rises q (λ x m. n x (later m)))
    where
      first : r.key < y.key → (z : Record) → Memᴰ z (y ∷ ys) → r.key < z.key
      first h z m = ⊎_elim (λ e. let c = ap record_key e in omega arith) (λ k. let c = g z k in omega arith) (Memᴰ.cases_cons m)

      above : y.key ≤ r.key → (y.key ≡ r.key → ⊥) → (z : Record) → (z ≡ r) ⊎ Memᴰ z ys → y.key < z.key
      above h d z m = ⊎_elim (λ e. let c = ap record_key e in omega arith) (λ k. g z k) m

      go : (t : Bool) → ltb r.key y.key ≡ t → Rising record_key (put_record r ys) → Rising record_key (if t then r ∷ y ∷ ys else y ∷ put_record r ys)
      go true e k = cons (first (ltb-true r.key y.key e)) (cons g q)
      go false e k = cons (λ z m. above (ltb-false r.key y.key e) (n y (here refl)) z (put_only ys m)) k

-- no record has a key that they do not have
pub no_key : (k : ℕ) (rs : List Record) → has_key k rs ≡ false → (x : Record) → Memᴰ x rs → x.key ≡ k → ⊥
unfolding has_key
no_key k rs h x m e = clash (→any (λ r. eqb r.key k) m (eq-eqb x.key k e)) h

pub no_key_of : (k : ℕ) (rs : List Record) → ((x : Record) → Memᴰ x rs → x.key ≡ k → ⊥) → has_key k rs ≡ false
unfolding has_key
no_key_of k rs h = not_true_false (λ e. let w = any→ (λ r. eqb r.key k) rs e in h w.0 w.1 (eqb-true w.0.key k w.2))

-- ---- sound records

-- in key order from above 0
pub open_rises : (rs : List Record) → sound_open rs ≡ true → Rising record_key rs × Above record_key 0 rs
open_rises rs h = rising→ record_key 0 rs ((open_says rs).told h).1.0

sound_open_lem : (rs : List Record) → length rs ≤ 8 → Rising record_key rs → Above record_key 0 rs → all sound_record rs ≡ true → sound_open rs ≡ true
sound_open_lem rs few q above s = (open_says rs).test (few, (→rising record_key 0 q above, s))

-- a sound record more
pub put_sound : (r : Record) (rs : List Record) → sound_open rs ≡ true → sound_record r ≡ true → 1 ≤ r.key → has_key r.key rs ≡ false → length rs < 8 → sound_open (put_record r rs) ≡ true
put_sound r rs h s low n few =
    let w = open_rises rs h in
    let l = put_length r rs in
    sound_open_lem (put_record r rs) (omega arith) (put_rises r w.0 (no_key r.key rs n))
    (λ x m. ⊎_elim (λ e. let c = ap record_key e in omega arith) (λ k. w.1 x k) (put_only r rs m))
    (→all sound_record (put_record r rs) (λ x m. ⊎_elim (λ e. ap sound_record e ∙ s) (λ k. all→ sound_record ((open_says rs).told h).1.1 k) (put_only r rs m)))

-- what a clerk types is a sound record
typed_sound : (kind key value : ℕ) → is_kind kind ≡ true → sound_value kind value ≡ true → is_key key ≡ true → sound_record (record_of kind key value) ≡ true
unfolding sound_record is_key
typed_sound kind key value k v h = both k (both (right _ _ h) v)

-- ---- entering

-- an open set became another by entering: of the records it held, one of this kind, tag and value is more
pub record Enters (o : OpenSet) (kind : ℕ) (tag : Bytes) (value : ℕ) (after : OpenSet) : Type 0 where
  pub held : List Record
  pub key : ℕ
  pub was : read_open o ≡ Some held
  pub tagged : key_of_tag tag ≡ Some key
  pub is : read_open after ≡ Some (put_record (record_of kind key value) held)
  pub new : (x : Record) → Memᴰ x held → x.key ≡ key → ⊥
  pub one_more : length (put_record (record_of kind key value) held) ≡ suc (length held)
  pub has_it : Memᴰ (record_of kind key value) (put_record (record_of kind key value) held)
  pub keeps : Sub held (put_record (record_of kind key value) held)
  pub only : (x : Record) → Memᴰ x (put_record (record_of kind key value) held) → (x ≡ record_of kind key value) ⊎ Memᴰ x held

-- three tests, none of which holds
none_of : (a b c : Bool) → not a or not b or not c ≡ false → (a ≡ true) × (b ≡ true) × (c ≡ true)
unfolding ◌or◌
none_of true true true e = (refl, refl, refl)
none_of true true false e = absurd (clash refl e)
none_of true false c e = absurd (clash refl e)
none_of false b c e = absurd (clash refl e)

-- NOT REFUSED, IT ADDS EXACTLY THAT RECORD, IN KEY ORDER, and the open set is one again
pub enters : (o : OpenSet) (kind : ℕ) (tag : Bytes) (value : ℕ) (after : OpenSet) → enter_outcome o kind tag value ≡ done after → Enters o kind tag value after
unfolding enter_outcome
enters o kind tag value after p =
    let p₁ = passed _ _ _ _ p in
    let p₂ = passed _ _ _ _ p₁.1 in
    let p₃ = passed (has_key (key_in tag) (open_records o)) 12 _ after p₂.1 in
    let p₄ = passed (leb max_records (length (open_records o))) 13 _ after p₃.1 in
    let well = none_of (is_open_set o) (is_kind kind) (sound_value kind value) p₁.0 in
    let tagged = tag_is tag (not-false _ p₂.0) in
    let sound = typed_sound kind (key_in tag) value well.1 well.2 tagged.1 in
    let w = open_is o well.0 in
    let r = record_of kind (key_in tag) value in
    let rs = open_records o in
    let few : length (open_records o) < 8 = leb-false max_records (length (open_records o)) p₄.0 in
    let put = put_sound (record_of kind (key_in tag) value) (open_records o) w.1 sound ((key_is (key_in tag)).told tagged.1).0 p₃.0 few in
    record {
      held = open_records o;
      key = key_in tag;
      was = ap read_open w.0 ∙ open_written (open_records o) w.1;
      tagged = tagged.0;
      is = ap read_open (sym (done_same p₄.1)) ∙ open_written (put_record (record_of kind (key_in tag) value) (open_records o)) put;
      new = no_key (key_in tag) (open_records o) p₃.0;
      one_more = put_length (record_of kind (key_in tag) value) (open_records o);
      has_it = put_has (record_of kind (key_in tag) value) (open_records o);
      keeps = put_keeps (record_of kind (key_in tag) value) (open_records o);
      only = λ x m. put_only (record_of kind (key_in tag) value) (open_records o) m;
    }

-- ---- refused

-- WHAT IS NO OPEN SET IS REFUSED WITH 3
pub no_open_set : (o : OpenSet) (kind : ℕ) (tag : Bytes) (value : ℕ) → is_open_set o ≡ false → enter_outcome o kind tag value ≡ refused 3
unfolding enter_outcome ◌or◌
no_open_set o kind tag value h = simp h

-- A TAG THAT IS NOT RIGHT IS REFUSED WITH 11, where open set, kind and value are well-formed
pub wrong_tag : (o : OpenSet) (kind : ℕ) (tag : Bytes) (value : ℕ) → is_open_set o ≡ true → is_kind kind ≡ true → sound_value kind value ≡ true → right_tag tag ≡ false
    → enter_outcome o kind tag value ≡ refused 11
unfolding enter_outcome is_tag ◌or◌ ◌and◌
wrong_tag o kind tag value h k v r = simp (h, k, v, r)
