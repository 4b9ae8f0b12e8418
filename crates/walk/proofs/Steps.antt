-- One step of the walk over two sheets: what is behind a place, and which set is next.
use Rattle.std.specs.Prelude.{ℕ, ◌+◌, ◌-◌, ◌*◌, ◌<◌, ◌≤◌, ◌≡◌, refl, true, false, List, ◌∷◌, ◌++◌, length, get_or, drop, ltb}
use mathlib.Core.List.Memᴰ
use Rattle.std.proofs.Common.{sym, ◌∙◌, ap, arith, length-append, length-drop, drop_of_length-le, lt-ltb, le-ltb}
use Rattle.std.proofs.Math.Decide.{dec_lt}
use Rattle.words.specs.Words.{Bytes}
use Rattle.rules.specs.Sheet.{WriteSet, Sheet, max_sets, sheet_in}
use Rattle.rules.specs.Gathering.{distinct, clash, some_two}
use Rattle.laws.specs.Distinct.{Sorted, sheet_sorted, some_two_in}
use Rattle.laws.specs.Merging.{drop_sorted, next_first, next_second, next_both, next_left, next_right, distinct_le, distinct_some, clash_first, clash_second, clash_both, clash_not, clash_left, clash_right}
use Rattle.laws.specs.Joining.{together}
use Rattle.laws.specs.SheetLaws.{sheet_sound}
use Rattle.sheets.specs.declared.sheet.Sheet as examined
use Rattle.sheets.specs.declared.next.Next.TheVariants as next
use Rattle.sheets.specs.SheetReadings.{no_set, set_at}
use Rattle.sheets.specs.SheetSizes.{few_sets}
use Rattle.sheets.specs.declared.next.Next.{Next}
use Rattle.sheets.specs.Taking.{taken}
use Rattle.sheets.specs.Views.{sheet_of}
use Rattle.walk.specs.declared.place.Place.{Place}
use Rattle.walk.specs.declared.walk.Walk as code
use Rattle.walk.specs.Walk.{unpassed, behind, next_at, passed, At, BothLeft, Advanced, Decided}
use Rattle.walk.specs.Walks.{from, moved}
use Rattle.walk.specs.Views.{walk_place}

-- ---- over lists

module _ (xs ys : List WriteSet) (i j : ℕ) where
  left_length : length (drop i xs ++ drop j ys) ≡ (length xs - i) + (length ys - j)
  left_length = length-append (drop i xs) (drop j ys) ∙ omega (arith, length-drop i xs, length-drop j ys)

  module _ (p : Sorted xs) (q : Sorted ys) where
    pass_left : i < length xs → length ys ≤ j → distinct (drop i xs ++ drop j ys) ≡ get_or xs i no_set ∷ distinct (drop (i + 1) xs ++ drop j ys)
    pass_left h k = rw (drop_of_length-le ys k, from xs i h) (next_left (rw (from xs i h) at (drop_sorted i p)))

    pass_right : length xs ≤ i → j < length ys → distinct (drop i xs ++ drop j ys) ≡ get_or ys j no_set ∷ distinct (drop i xs ++ drop (j + 1) ys)
    pass_right h k = rw (drop_of_length-le xs h, from ys j k) (next_right (rw (from ys j k) at (drop_sorted j q)))

    module _ (h : i < length xs) (k : j < length ys) where
      pass_first : (get_or xs i no_set).csn < (get_or ys j no_set).csn → distinct (drop i xs ++ drop j ys) ≡ get_or xs i no_set ∷ distinct (drop (i + 1) xs ++ drop j ys)
      pass_first l = rw (from xs i h, from ys j k) (next_first (rw (from xs i h) at (drop_sorted i p)) (rw (from ys j k) at (drop_sorted j q)) l)

      pass_second : (get_or ys j no_set).csn < (get_or xs i no_set).csn → distinct (drop i xs ++ drop j ys) ≡ get_or ys j no_set ∷ distinct (drop i xs ++ drop (j + 1) ys)
      pass_second l = rw (from xs i h, from ys j k) (next_second (rw (from xs i h) at (drop_sorted i p)) (rw (from ys j k) at (drop_sorted j q)) l)

      pass_both : (get_or xs i no_set).csn ≡ (get_or ys j no_set).csn → distinct (drop i xs ++ drop j ys) ≡ get_or ys j no_set ∷ distinct (drop (i + 1) xs ++ drop (j + 1) ys)
      pass_both e = rw (from xs i h, from ys j k) (next_both (rw (from xs i h) at (drop_sorted i p)) (rw (from ys j k) at (drop_sorted j q)) e)

      -- no clash is passed

      part_first : (get_or xs i no_set).csn < (get_or ys j no_set).csn → some_two clash (drop i xs ++ drop j ys) ≡ some_two clash (drop (i + 1) xs ++ drop j ys)
      part_first l = rw (from xs i h, from ys j k) (clash_first (rw (from xs i h) at (drop_sorted i p)) (rw (from ys j k) at (drop_sorted j q)) l)

      part_second : (get_or ys j no_set).csn < (get_or xs i no_set).csn → some_two clash (drop i xs ++ drop j ys) ≡ some_two clash (drop i xs ++ drop (j + 1) ys)
      part_second l = rw (from xs i h, from ys j k) (clash_second (rw (from xs i h) at (drop_sorted i p)) (rw (from ys j k) at (drop_sorted j q)) l)

      part_both : (get_or xs i no_set).csn ≡ (get_or ys j no_set).csn → clash (get_or xs i no_set) (get_or ys j no_set) ≡ false
          → some_two clash (drop i xs ++ drop j ys) ≡ some_two clash (drop (i + 1) xs ++ drop (j + 1) ys)
      part_both e d =
          rw (from xs i h, from ys j k)
          (clash_both (rw (from xs i h) at (drop_sorted i p)) (rw (from ys j k) at (drop_sorted j q)) (clash_not (get_or xs i no_set) (get_or ys j no_set) e d))

      part_found : clash (get_or xs i no_set) (get_or ys j no_set) ≡ true → some_two clash (drop i xs ++ drop j ys) ≡ true
      part_found e = rw (from xs i h, from ys j k) (some_two_in clash (Memᴰ.head refl) (Memᴰ.append_right (get_or xs i no_set ∷ drop (i + 1) xs) (Memᴰ.head refl)) e)

    -- where one list is used up, none is left
    part_left : length ys ≤ j → some_two clash (drop i xs ++ drop j ys) ≡ false
    part_left h = rw (drop_of_length-le ys h) (clash_left (drop i xs) (drop_sorted i p))

    part_right : length xs ≤ i → some_two clash (drop i xs ++ drop j ys) ≡ false
    part_right h = rw (drop_of_length-le xs h) (clash_right (drop j ys) (drop_sorted j q))

-- ---- over places of two examined sheets

-- a list by its first
headed : {l ws : List WriteSet} {w : WriteSet} → l ≡ w ∷ ws → l ≡ get_or l 0 no_set ∷ ws
headed {l} {ws} {w} e = e ∙ ap (λ (v : WriteSet). v ∷ ws) (sym (ap (λ (x : List WriteSet). get_or x 0 no_set) e))

-- the first of a list of sets
abbrev first_of : List WriteSet → WriteSet
first_of l = get_or l 0 no_set

-- a place by its two numbers
abbrev place : ℕ → ℕ → Place
place i j = record { i = i; j = j }

-- a place in two sheets whose sets stand in csn order
pub record Ordered (a b : Sheet) (p : Place) : Type 0 where
  pub one : Sorted a.sets
  pub two : Sorted b.sets
  pub first : p.i ≤ length a.sets
  pub second : p.j ≤ length b.sets

-- examined ones do
ordered : {a b : Bytes} {p : Place} → At a b p → Ordered (sheet_in a) (sheet_in b) p
ordered {a} {b} k = record {
  one = sheet_sorted (sheet_in a) (sheet_sound a k.one);
  two = sheet_sorted (sheet_in b) (sheet_sound b k.two);
  first = k.first;
  second = k.second;
}

-- the place of a walk
pub walk_at : (w : code.Walk) → At w.a.bytes.now w.b.bytes.now (walk_place w)
walk_at w = record { one = w.a.examined; two = w.b.examined; first = w.first; second = w.second }

pub at : (w : code.Walk) → Ordered (sheet_of w.a) (sheet_of w.b) (walk_place w)
at w = ordered (walk_at w)

module _ (a b : Sheet) (p : Place) (k : Ordered a b p) where
  pub some_left : p.i < length a.sets → 0 < length (behind a b p)
  unfolding behind unpassed
  some_left h = distinct_some _ (omega (arith, left_length a.sets b.sets p.i p.j))

  pub some_right : p.j < length b.sets → 0 < length (behind a b p)
  unfolding behind unpassed
  some_right h = distinct_some _ (omega (arith, left_length a.sets b.sets p.i p.j))

  pub none : length a.sets ≤ p.i → length b.sets ≤ p.j → length (behind a b p) ≤ 0
  unfolding behind unpassed
  none h l =
      omega (arith, distinct_le (drop p.i a.sets ++ drop p.j b.sets), left_length a.sets b.sets p.i p.j)

  -- where the first sheet is used up, the second tells whether a set is left
  pub more_by : length a.sets ≤ p.i → ltb p.j (length b.sets) ≡ ltb 0 (length (behind a b p))
  more_by h =
      elim (dec_lt p.j (length b.sets)) [
        | yes l ↦ lt-ltb _ _ l ∙ sym (lt-ltb 0 _ (some_right l))
        | no l ↦ le-ltb _ _ (omega arith) ∙ sym (le-ltb 0 _ (none h (omega arith)))
      ]

  -- a set is there, so where one sheet is used up the other is not
  pub left_on : 0 < length (behind a b p) → p.j ≡ length b.sets → p.i < length a.sets
  unfolding behind unpassed
  left_on h e =
      omega (arith, k.first, distinct_le (drop p.i a.sets ++ drop p.j b.sets), left_length a.sets b.sets p.i p.j)

  take_left : p.i < length a.sets → p.j ≡ length b.sets → next_at a b p ≡ set_at a p.i
  unfolding behind unpassed next_at set_at
  take_left h e = ap first_of (pass_left a.sets b.sets p.i p.j k.one k.two h (omega arith))

  take_right : p.i ≡ length a.sets → p.j < length b.sets → next_at a b p ≡ set_at b p.j
  unfolding behind unpassed next_at set_at
  take_right e h = ap first_of (pass_right a.sets b.sets p.i p.j k.one k.two (omega arith) h)

  step_left : p.i < length a.sets → p.j ≡ length b.sets → Advanced a b p (place (p.i + 1) p.j)
  unfolding behind unpassed next_at
  step_left h e = record {
    first = omega arith;
    second = k.second;
    leaves = headed (pass_left a.sets b.sets p.i p.j k.one k.two h (omega arith));
    apart = λ l c. absurd (omega arith);
  }

  step_right : p.i ≡ length a.sets → p.j < length b.sets → Advanced a b p (place p.i (p.j + 1))
  unfolding behind unpassed next_at
  step_right e h = record {
    first = k.first;
    second = omega arith;
    leaves = headed (pass_right a.sets b.sets p.i p.j k.one k.two (omega arith) h);
    apart = λ l c. absurd (omega arith);
  }

  -- where one sheet is used up, the next set is the other's

  pub left_decided : p.i < length a.sets → p.j ≡ length b.sets → Decided a b p next.First
  unfolding passed taken
  left_decided h e = record { chosen = record { within = h; smaller = λ x y. absurd (omega arith) }; next = take_left h e; passes = step_left h e }

  pub right_decided : p.i ≡ length a.sets → p.j < length b.sets → Decided a b p next.Second
  unfolding passed taken
  right_decided e h = record { chosen = record { within = h; smaller = λ x y. absurd (omega arith) }; next = take_right e h; passes = step_right e h }

  module _ (h : p.i < length a.sets) (l : p.j < length b.sets) where
    take_first : (set_at a p.i).csn < (set_at b p.j).csn → next_at a b p ≡ set_at a p.i
    unfolding behind unpassed next_at set_at
    take_first c = ap first_of (pass_first a.sets b.sets p.i p.j k.one k.two h l c)

    take_second : (set_at b p.j).csn < (set_at a p.i).csn → next_at a b p ≡ set_at b p.j
    unfolding behind unpassed next_at set_at
    take_second c = ap first_of (pass_second a.sets b.sets p.i p.j k.one k.two h l c)

    take_both : (set_at a p.i).csn ≡ (set_at b p.j).csn → next_at a b p ≡ set_at b p.j
    unfolding behind unpassed next_at set_at
    take_both c = ap first_of (pass_both a.sets b.sets p.i p.j k.one k.two h l c)

    step_first : (set_at a p.i).csn < (set_at b p.j).csn → Advanced a b p (place (p.i + 1) p.j)
    unfolding behind unpassed next_at set_at
    step_first c = record {
      first = omega arith;
      second = k.second;
      leaves = headed (pass_first a.sets b.sets p.i p.j k.one k.two h l c);
      apart = λ _ d. part_first a.sets b.sets p.i p.j k.one k.two h l c;
    }

    step_second : (set_at b p.j).csn < (set_at a p.i).csn → Advanced a b p (place p.i (p.j + 1))
    unfolding behind unpassed next_at set_at
    step_second c = record {
      first = k.first;
      second = omega arith;
      leaves = headed (pass_second a.sets b.sets p.i p.j k.one k.two h l c);
      apart = λ _ d. part_second a.sets b.sets p.i p.j k.one k.two h l c;
    }

    step_both : (set_at a p.i).csn ≡ (set_at b p.j).csn → Advanced a b p (place (p.i + 1) (p.j + 1))
    unfolding behind unpassed next_at set_at
    step_both c = record {
      first = omega arith;
      second = omega arith;
      leaves = headed (pass_both a.sets b.sets p.i p.j k.one k.two h l c);
      apart = λ _ d. part_both a.sets b.sets p.i p.j k.one k.two h l c d;
    }

    -- where both have one, it is the one with the smaller csn

    pub first_decided : (set_at a p.i).csn < (set_at b p.j).csn → Decided a b p next.First
    unfolding passed taken
    first_decided c = record { chosen = record { within = h; smaller = λ _ _. c }; next = take_first c; passes = step_first c }

    pub second_decided : (set_at b p.j).csn < (set_at a p.i).csn → Decided a b p next.Second
    unfolding passed taken
    second_decided c = record { chosen = record { within = l; smaller = λ _ _. c }; next = take_second c; passes = step_second c }

    pub both_decided : (set_at a p.i).csn ≡ (set_at b p.j).csn → Decided a b p next.Both
    unfolding passed taken
    both_decided c = record { chosen = record { within = (h, l); smaller = λ _ _. c }; next = take_both c; passes = step_both c }

-- clashes at a place

module _ (a b : Sheet) (p : Place) (k : Ordered a b p) where
  pub found_clash : BothLeft a b p → clash (set_at a p.i) (set_at b p.j) ≡ true → some_two clash (unpassed a b p) ≡ true
  unfolding unpassed set_at
  found_clash h e = part_found a.sets b.sets p.i p.j k.one k.two h.0 h.1 e

  pub first_spent : length a.sets ≤ p.i → some_two clash (unpassed a b p) ≡ false
  unfolding unpassed
  first_spent h = part_right a.sets b.sets p.i p.j k.one k.two h

  pub second_spent : length b.sets ≤ p.j → some_two clash (unpassed a b p) ≡ false
  unfolding unpassed
  second_spent h = part_left a.sets b.sets p.i p.j k.one k.two h

-- there are at most as many sets as two sheets have
pub together_few : (a b : examined.Sheet) → length (together (sheet_of a) (sheet_of b)) ≤ 2 * max_sets
unfolding together
together_few a b =
    omega (
      arith,
      distinct_le ((sheet_of a).sets ++ (sheet_of b).sets),
      length-append (sheet_of a).sets (sheet_of b).sets,
      few_sets a.bytes.now a.examined,
      few_sets b.bytes.now b.examined,
    )

-- passing the set that was decided on leaves the others
pub left_passed : {a b : Sheet} {p q : Place} {n : Next} → Decided a b p n → q ≡ passed p n → behind a b p ≡ taken n (set_at a p.i) (set_at b p.j) ∷ behind a b q
left_passed {a} {b} {p} {q} d e = (moved a b d e).leaves ∙ ap (λ (w : WriteSet). w ∷ behind a b q) d.next
