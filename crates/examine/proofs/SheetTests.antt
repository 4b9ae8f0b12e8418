-- The tests of a sheet's bytes as facts, and one step of each walk over them.
use Prim.Native.Nat.{ℕ, zero, suc, ◌+◌, ◌*◌, ◌-◌, ◌≤◌, ◌<◌}
use mathlib.Core.Path.{◌≡◌, refl, sym, ap, ◌∙◌}
use mathlib.Core.Bool.{Bool, true, false}
use mathlib.Core.List.{List, [], ◌∷◌}
use native.Mathlib.Numerals.{add-one}
use native.Mathlib.Omega.{arith}
use borrow.Author.Tests.{eq-eqb, ne_eqb, eqb-true, eqb-false}
use mir.Val.{Fits}
use mir.Syntax.{w8}
use lib.ListN.{length, get_or, set, replicate, get_or-replicate, length-set}
use lib.Seq.{get_or-set_same, get_or-set_other}
use lib.Dec.{eqb}
use Rattle.std.specs.Prelude.{Option, MatchOption}
use Rattle.std.specs.Bool.{then_some}
use Rattle.std.specs.List.{list_all, range_with_len}
use Rattle.words.specs.Words.{Bytes, word}
use Rattle.rules.specs.Lists.{◌and◌, all, up_from, keep, count}
use Rattle.rules.specs.Numbers.{master_of}
use Rattle.rules.specs.Sheet.{masters, sound_notice, is_sheet}
use Rattle.laws.specs.Chains.{list_all-is}
use Rattle.laws.specs.Says.{Says, is_le, itself, ◌also◌}
use Rattle.examine.specs.SheetForm.{count_at, entry_ok, body_ok, above, set_ok, sets_ok, csns_in, sets_by, Counted, set_count, notice_ok, sheet_ok}
use Rattle.laws.specs.Loops.{stops, goes}
use Rattle.laws.specs.BytesHere.{octets}
use Rattle.examine.proofs.SheetBy.{all_same, is_sheet_by}

-- ---- the csns

csns_more : (n : ℕ) (b : Bytes) (c : ℕ) → 0 < n → csns_in n b c ≡ word 8 b c ∷ csns_in (n - 1) b (c + 16)
unfolding csns_in
csns_more zero b c h = absurd (omega arith)
csns_more (suc n) b c h = let e : suc n - 1 ≡ n = omega arith in rw e

csns_none : (n : ℕ) (b : Bytes) (c : ℕ) → n ≤ 0 → csns_in n b c ≡ []
unfolding csns_in
csns_none zero b c h = refl
csns_none (suc n) b c h = absurd (omega arith)

-- one set more, by master m or not
module _ (m n : ℕ) (b : Bytes) (c : ℕ) (h : 0 < n) where
  by_hit : master_of (word 8 b c) ≡ m → sets_by m (csns_in n b c) ≡ sets_by m (csns_in (n - 1) b (c + 16)) + 1
  unfolding sets_by count keep
  by_hit e = rw (csns_more n b c h, eq-eqb (master_of (word 8 b c)) m e, add-one)

  by_miss : (master_of (word 8 b c) ≡ m → ⊥) → sets_by m (csns_in n b c) ≡ sets_by m (csns_in (n - 1) b (c + 16))
  unfolding sets_by count keep
  by_miss e = rw (csns_more n b c h, ne_eqb (master_of (word 8 b c)) m e)

by_none : (m n : ℕ) (b : Bytes) (c : ℕ) → n ≤ 0 → sets_by m (csns_in n b c) ≡ 0
unfolding sets_by count keep
by_none m n b c h = ap (sets_by m) (csns_none n b c h)

-- ---- the counters: what was counted and what is left are the whole

-- with so many sets left, from c on, each master's counter has its sets before c
abbrev pub Counting : ℕ → Bytes → List ℕ → ℕ → ℕ → Type 0
Counting n b by left c = (m : ℕ) → m < 16 → (get_or by m 0 + left ≤ n) × (sets_by m (csns_in n b 24) ≡ get_or by m 0 + sets_by m (csns_in left b c))

count_none : (n : ℕ) (b : Bytes) → Counting n b (replicate 16 0) n 24
count_none n b m small =
    let none : get_or (replicate {A = ℕ} 16 0) m 0 ≡ 0 = get_or-replicate {A = ℕ} 16 m 0 0 small in
    (omega arith, omega arith)

module _ (n : ℕ) (b : Bytes) (by : List ℕ) (left c : ℕ) (counting : Counting n b by left c) where
  count_more : (x : ℕ) (after : List ℕ) → 0 < left → length by ≡ 16 → x ≡ word 8 b c → after ≡ set by (master_of x) (get_or by (master_of x) 0 + 1) → Counting n b after (left - 1) (c + 16)
  count_more x after h l e p m small = go (eqb (master_of x) m) refl
    where
      go : (t : Bool) → eqb (master_of x) m ≡ t → (get_or after m 0 + (left - 1) ≤ n) × (sets_by m (csns_in n b 24) ≡ get_or after m 0 + sets_by m (csns_in (left - 1) b (c + 16)))
      go true t =
          let q : master_of x ≡ m = eqb-true (master_of x) m t in
          let new : get_or after m 0 ≡ get_or by m 0 + 1 = rw (p, q) (get_or-set_same by m (get_or by m 0 + 1) 0 (omega arith)) in
          let s = counting m small in
          (omega arith, omega (arith, by_hit m left b c h (rw (sym e) q)))
      go false t =
          let q : master_of x ≡ m → ⊥ = eqb-false (master_of x) m t in
          let old : get_or after m 0 ≡ get_or by m 0 = rw p (get_or-set_other by (master_of x) m (get_or by (master_of x) 0 + 1) 0 (λ r. q (sym r))) in
          let s = counting m small in
          (omega arith, omega (arith, by_miss m left b c h (rw (sym e) q)))

  count_all : left ≤ 0 → Counted n b by
  count_all h m small = let s = counting m small in omega (arith, by_none m left b c h)

-- ---- the sets

set_tests : (first prev : ℕ) (b : Bytes) (c at : ℕ)
    → Says (set_ok first prev b c at)
    ((above first prev (word 8 b c) ≡ true) × ((entry_ok first b c ≡ true) × ((at + 16 * count_at b c ≤ length b) × (body_ok (count_at b c) 0 b at ≡ true))))
unfolding set_ok
set_tests first prev b c at = itself _ also itself _ also is_le _ _ also itself _

-- a walk that is behind the first i of n sets, where `first` records and the csn `prev` stand before it and the next body starts at a place
pub record Standing (n : ℕ) (b : Bytes) (i first prev at : ℕ) (by : List ℕ) : Type 0 where
  pub within : at ≤ length b
  pub few : first ≤ at
  pub left-of : sets_ok 0 0 n b 24 (24 + 16 * n) ≡ sets_ok first prev (n - i) b (24 + 16 * i) at
  pub counting : Counting n b by (n - i) (24 + 16 * i)

pub stands : (n : ℕ) (b : Bytes) → 24 + 16 * n ≤ length b → Standing n b 0 0 0 (24 + 16 * n) (replicate 16 0)
stands n b h = let e : n - 0 ≡ n = omega arith in record { within = h; few = omega arith; left-of = rw e; counting = rw e (count_none n b) }

module _ {first prev at : ℕ} {by : List ℕ} (n i : ℕ) (b : Bytes) (st : Standing n b i first prev at by) where
  sets_more : i < n
      → sets_ok first prev (n - i) b (24 + 16 * i) at
      ≡ set_ok first prev b (24 + 16 * i) at and sets_ok (first + count_at b (24 + 16 * i)) (word 8 b (24 + 16 * i)) (n - (i + 1)) b (24 + 16 * (i + 1)) (at + 16 * count_at b (24 + 16 * i))
  unfolding sets_ok
  sets_more h =
      let e : n - i ≡ suc (n - (i + 1)) = omega arith in
      let f : 24 + 16 * (i + 1) ≡ 24 + 16 * i + 16 = omega arith in
      rw (e, f)

  pub sets_stop : i < n → set_ok first prev b (24 + 16 * i) at ≡ false → sets_ok 0 0 n b 24 (24 + 16 * n) ≡ false
  sets_stop h e = sym (stops _ _ st.left-of (sets_more h) e)

  pub sets_go : i < n → set_ok first prev b (24 + 16 * i) at ≡ true → {k x : ℕ} {after : List ℕ} → k ≡ count_at b (24 + 16 * i) → x ≡ word 8 b (24 + 16 * i) → length after ≡ 16
      → after ≡ set by (master_of x) (get_or by (master_of x) 0 + 1) → Standing n b (i + 1) (first + k) x (at + 16 * k) after
  sets_go h e {k} {x} {after} p q l r =
      let room = ((set_tests first prev b (24 + 16 * i) at).told e).1.1.0 in
      let left : n - i - 1 ≡ n - (i + 1) = omega arith in
      let place : 24 + 16 * i + 16 ≡ 24 + 16 * (i + 1) = omega arith in
      let long : length by ≡ 16 = omega (arith, l, ap length r, length-set {A = ℕ}) in
      record {
        within = omega arith;
        few = omega (arith, st.few);
        left-of = goes _ _ st.left-of (sets_more h) e ∙ rw (p, q);
        counting = rw (left, place) at (count_more n b by (n - i) (24 + 16 * i) st.counting x after (omega arith) long q r);
      }

  sets_end : n ≤ i → sets_ok 0 0 n b 24 (24 + 16 * n) ≡ eqb at (length b)
  unfolding sets_ok
  sets_end h = let e : n - i ≡ 0 = omega arith in st.left-of ∙ rw e

  -- the bytes end with the last body, or the sets are not in order
  pub sets_ended : n ≤ i → {found : Option (List ℕ)} → found ≡ then_some (eqb at (length b)) by
      → MatchOption found (sets_ok 0 0 n b 24 (24 + 16 * n) ≡ false) (λ by. (sets_ok 0 0 n b 24 (24 + 16 * n) ≡ true) × Counted n b by)
  sets_ended h {found} e = go (eqb at (length b)) (sets_end h) e
    where
      go : (t : Bool) → sets_ok 0 0 n b 24 (24 + 16 * n) ≡ t → found ≡ then_some t by
          → MatchOption found (sets_ok 0 0 n b 24 (24 + 16 * n) ≡ false) (λ by. (sets_ok 0 0 n b 24 (24 + 16 * n) ≡ true) × Counted n b by)
      go true p q = rw q (p, count_all n b by (n - i) (24 + 16 * i) st.counting (omega arith))
      go false p q = rw q p

-- ---- the head and the whole

-- the notices are held against the masters' counters
pub notices_by_lem : (b by : Bytes) → Counted (set_count b) b by
    → list_all (λ m. sound_notice (word 2 b 4) m (get_or b (8 + m) 0) (get_or by m 0)) (range_with_len 0 16) ≡ all (notice_ok b) masters
unfolding notice_ok up_from
notices_by_lem b by counted =
    list_all-is _ masters ∙ all_same _ (notice_ok b) 0 16 (λ m l. ap (sound_notice (word 2 b 4) m (get_or b (8 + m) 0)) (counted m (omega arith)))

-- WHAT A SHEET IS, of bytes as a slice has them: one test
pub is_sheet_lem : (b : Bytes) → ((k : ℕ) → Fits w8 (get_or b k 0)) → is_sheet b ≡ sheet_ok b
is_sheet_lem b h = is_sheet_by b (octets b h)
