-- What the sets from set i on apply that commit by a table: what there is for a key, and how many records there are of a kind.
use Rattle.std.specs.Prelude.{if◌then◌else◌, Option, None, Some}
use Prim.Native.Nat.{ℕ, suc, ◌+◌, ◌-◌, ◌≤◌, ◌<◌}
use mathlib.Core.Path.{◌≡◌, refl, sym, ◌∙◌, ap}
use mathlib.Core.Bool.{Bool, true, false}
use mathlib.Core.List.{List, [], ◌∷◌, ◌++◌, map}
use native.Mathlib.Nat.{sub-zero}
use native.Mathlib.Numerals.{add-one}
use native.Mathlib.Omega.{arith}
use lib.ListN.{length, length-append}
use lib.Dec.{eqb}
use Rattle.rules.specs.declared.mark.Mark.{Mark}
use Rattle.rules.specs.declared.row.Record.{Record}
use Rattle.rules.specs.Lists.{keep, first, flat, count, up_from}
use Rattle.rules.specs.Sheet.{WriteSet, Sheet, max_records}
use Rattle.rules.specs.Closing.{names, mark_in}
use Rattle.rules.specs.Becoming.{applied, applied_to, committed_on}
use Rattle.laws.specs.Tests.{not_true_false}
use Rattle.laws.specs.Says.{clash}
use Rattle.laws.specs.ListLaws.{any→, →any, first→, first_none}
use Rattle.sheets.specs.declared.set.WriteSet as view
use Rattle.sheets.specs.SheetReadings.{set_at}
use Rattle.sheets.specs.SheetSizes.{few_records}
use Rattle.sheets.specs.Views.{set_of}
use Rattle.judging.specs.Answers.{AppliesTo}
use Rattle.judging.specs.Tables.{none_at, committed_in}
use Rattle.judging.specs.Judged.{of_kind}
use Rattle.judging.proofs.Numbers.{count_fits}

-- the sets that commit by the table, of those from set i on
unfoldable pub committed_from : Sheet → List (Option ℕ) → ℕ → List WriteSet
committed_from s lost i = map (set_at s) (keep (none_at lost) (up_from i (length s.sets - i)))

module _ (s : Sheet) (lost : List (Option ℕ)) where
  from_start : committed_from s lost 0 ≡ committed_in s lost
  unfolding committed_from committed_in
  from_start = rw (sub-zero (length s.sets))

  from_end : (i : ℕ) → length s.sets ≤ i → committed_from s lost i ≡ []
  unfolding committed_from keep up_from
  from_end i h = let none_left : length s.sets - i ≡ 0 = omega arith in rw none_left

  module _ (i : ℕ) (h : i < length s.sets) where
    rest : length s.sets - i ≡ suc (length s.sets - (i + 1))
    rest = omega arith

    from_commit : none_at lost i ≡ true → committed_from s lost i ≡ set_at s i ∷ committed_from s lost (i + 1)
    unfolding committed_from keep up_from
    from_commit e = rw (rest, e, add-one i)

    from_other : none_at lost i ≡ false → committed_from s lost i ≡ committed_from s lost (i + 1)
    unfolding committed_from keep up_from
    from_other e = rw (rest, e, add-one i)

-- ---- what is applied to a key

-- the first of two, or the second where there is no first
abbrev or_else : {A : Type 0} → Option A → Option A → Option A
or_else (Some x) b = Some x
or_else None b = b

first_append : {A : Type 0} (p : A → Bool) (xs ys : List A) → first p (xs ++ ys) ≡ or_else (first p xs) (first p ys)
unfolding first
first_append p [] ys = refl
first_append p (x ∷ xs) ys = go (p x) (first_append p xs ys)
  where
    go : (t : Bool) → first p (xs ++ ys) ≡ or_else (first p xs) (first p ys)
        → (if t then Some x else first p (xs ++ ys)) ≡ or_else (if t then Some x else first p xs) (first p ys)
    go true e = refl
    go false e = e

-- a set names the key just when it has a record for it
module _ (w : WriteSet) (key : ℕ) where
  names_found : {r : Record} → applied_to w.records key ≡ Some r → names w key ≡ true
  unfolding applied_to names
  names_found e = let f = first→ (λ r. eqb r.key key) w.records e in →any (λ r. eqb r.key key) f.0 f.1

  names_none : applied_to w.records key ≡ None → names w key ≡ false
  unfolding applied_to names
  names_none e =
      not_true_false (λ n. let a = any→ (λ r. eqb r.key key) w.records n in clash a.2 (first_none (λ r. eqb r.key key) w.records e a.0 a.1))

module _ (s : Sheet) (lost : List (Option ℕ)) (key : ℕ) where
  -- no set before set i that commits names the key
  pub record Sought (i : ℕ) : Type 0 where
    pub record_there : applied_to (applied (committed_from s lost i)) key ≡ applied_to (applied (committed_in s lost)) key
    pub set_there : committed_on (committed_from s lost i) key ≡ committed_on (committed_in s lost) key

  pub sought_start : Sought 0
  sought_start =
      let e = from_start s lost in
      record { record_there = ap (λ (c : List WriteSet). applied_to (applied c) key) e; set_there = ap (λ (c : List WriteSet). committed_on c key) e }

  pub sought_end : (i : ℕ) → length s.sets ≤ i → Sought i → AppliesTo s (committed_in s lost) key None
  unfolding applied flat applied_to first committed_on
  sought_end i h f =
      let e = from_end s lost i h in
      (sym f.record_there ∙ ap (λ (c : List WriteSet). applied_to (applied c) key) e, sym f.set_there ∙ ap (λ (c : List WriteSet). committed_on c key) e)

  module _ (i : ℕ) (h : i < length s.sets) (f : Sought i) where
    pub sought_found : none_at lost i ≡ true → {r : Record} {m : Mark} → applied_to (set_at s i).records key ≡ Some r → m ≡ mark_in s (set_at s i)
        → AppliesTo s (committed_in s lost) key (Some (record { «record» = r; mark = m }))
    unfolding applied flat applied_to committed_on first
    sought_found z e m =
        let c = from_commit s lost i h z in (
          sym f.record_there ∙ ap (λ (c : List WriteSet). applied_to (applied c) key) c ∙ first_append (λ r. eqb r.key key) (set_at s i).records (applied (committed_from s lost (i + 1))) ∙ rw e,
          (set_at s i, sym f.set_there ∙ ap (λ (c : List WriteSet). committed_on c key) c ∙ rw (names_found (set_at s i) key e), m),
        )

    pub sought_later : none_at lost i ≡ true → applied_to (set_at s i).records key ≡ None → Sought (i + 1)
    unfolding applied flat applied_to committed_on first
    sought_later z e =
        let c = from_commit s lost i h z in
        record {
          record_there = sym (ap (λ (c : List WriteSet). applied_to (applied c) key) c ∙ first_append (λ r. eqb r.key key) (set_at s i).records (applied (committed_from s lost (i + 1))) ∙ rw e) ∙ f.record_there;
          set_there = sym (ap (λ (c : List WriteSet). committed_on c key) c ∙ rw (names_none (set_at s i) key e)) ∙ f.set_there;
        }

    pub sought_other : none_at lost i ≡ false → Sought (i + 1)
    sought_other z =
        let c = from_other s lost i h z in
        record {
          record_there = sym (ap (λ (c : List WriteSet). applied_to (applied c) key) c) ∙ f.record_there;
          set_there = sym (ap (λ (c : List WriteSet). committed_on c key) c) ∙ f.set_there;
        }

-- ---- how many there are of a kind

module _ {A : Type 0} (p : A → Bool) where
  keep_append : (xs ys : List A) → keep p (xs ++ ys) ≡ keep p xs ++ keep p ys
  unfolding keep
  keep_append [] ys = refl
  keep_append (x ∷ xs) ys = go (p x) (keep_append xs ys)
    where
      go : (t : Bool) → keep p (xs ++ ys) ≡ keep p xs ++ keep p ys
          → (if t then x ∷ keep p (xs ++ ys) else keep p (xs ++ ys)) ≡ (if t then x ∷ keep p xs else keep p xs) ++ keep p ys
      go true e = ap (λ (l : List A). x ∷ l) e
      go false e = e

kind_append : (k : ℕ) (xs ys : List Record) → of_kind k (xs ++ ys) ≡ of_kind k xs + of_kind k ys
unfolding of_kind count
kind_append k xs ys = ap length (keep_append (λ r. eqb r.kind k) xs ys) ∙ length-append (keep (λ r. eqb r.kind k) xs) (keep (λ r. eqb r.kind k) ys)

module _ (s : Sheet) (lost : List (Option ℕ)) (k : ℕ) where
  -- how many records of the kind these sets apply
  kinds : List WriteSet → ℕ
  kinds c = of_kind k (applied c)

  -- the sets before set i that commit apply n records of the kind
  abbrev pub Counted : ℕ → ℕ → Type 0
  Counted i n = n + of_kind k (applied (committed_from s lost i)) ≡ of_kind k (applied (committed_in s lost))

  pub counted_none : Counted 0 0
  unfolding kinds
  counted_none = let e = ap kinds (from_start s lost) in omega arith

  pub counted_all : (i n : ℕ) → length s.sets ≤ i → Counted i n → n ≡ of_kind k (applied (committed_in s lost))
  unfolding kinds of_kind count keep applied flat
  counted_all i n h f = let e : kinds (committed_from s lost i) ≡ 0 = ap kinds (from_end s lost i h) in omega arith

  module _ (i n : ℕ) (h : i < length s.sets) (f : Counted i n) where
    pub counted_more : none_at lost i ≡ true → Counted (i + 1) (n + of_kind k (set_at s i).records)
    unfolding kinds applied flat
    counted_more z =
        let e = ap kinds (from_commit s lost i h z) ∙ kind_append k (set_at s i).records (applied (committed_from s lost (i + 1))) in
        omega arith

    pub counted_same : none_at lost i ≡ false → Counted (i + 1) n
    unfolding kinds
    counted_same z = let e = ap kinds (from_other s lost i h z) in omega arith

-- of a set no more than it has records
pub kinds_few : (w : view.WriteSet) (k : ℕ) → of_kind k (set_of w).records ≤ max_records
unfolding of_kind
kinds_few w k = let few = (few_records _ w.i w.sheet.examined w.within).1 in omega (arith, count_fits (λ r. eqb r.kind k) (set_of w).records)
