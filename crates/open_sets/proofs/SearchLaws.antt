-- What a search over the places of records finds, as what their list has.
use Rattle.std.proofs.Common.{ℕ, zero, suc, ◌+◌, ◌*◌, ◌≡◌, ◌≤◌, refl, ap, ◌∙◌, ltb, eqb, ◌||◌, arith, List, [], ◌∷◌, length, Option, unwrap_or, position}
use Rattle.std.specs.List.{list_any, range_with_len, position_or_len}
use Rattle.std.proofs.lemmas.Bool.Decides.{nat_tests}
use Rattle.std.proofs.lemmas.List.FromFn.{length-range_with_len}
use Rattle.rules.specs.declared.row.Record.{Record}
use Rattle.laws.specs.SheetLaws.{records_count}
use Rattle.words.specs.Words.{Bytes, word}
use Rattle.rules.specs.Lists.{any}
use Rattle.rules.specs.Sheet.{record_in, records_in}
use Rattle.rules.specs.OpenSet.{has_key}
use Rattle.laws.specs.Chains.{or-is}
use Rattle.open_sets.specs.Before.{records_before}

-- its place is one of theirs, or behind them
pub place_within : (key : ℕ) (rs : List Record) → records_before key rs ≤ length rs
unfolding records_before
place_within key [] = omega arith
place_within key (x ∷ xs) = let h = place_within key xs in grind (arith, nat_tests)

module _ (b : Bytes) (key : ℕ) where
  -- the n records from place j on
  pub one_has : (n j : ℕ) → list_any (λ i. eqb (word 4 b (16 * i + 4)) key) (range_with_len j n) ≡ has_key key (records_in n b (16 * j))
  unfolding has_key any records_in record_in
  one_has zero j = refl
  one_has (suc n) j =
      let next : 16 * (j + 1) ≡ 16 * j + 16 = omega arith in
      ap (λ t. eqb (word 4 b (16 * j + 4)) key || t) (one_has n (j + 1) ∙ ap (λ k. has_key key (records_in n b k)) next) ∙ or-is _ _

  pub before_place : (n j : ℕ) → position_or_len (λ i. ltb key (word 4 b (16 * i + 4))) (range_with_len j n) ≡ records_before key (records_in n b (16 * j))
  unfolding records_before records_in record_in
  before_place zero j = refl
  before_place (suc n) j =
      let next : 16 * (j + 1) ≡ 16 * j + 16 = omega arith in
      let e = before_place n (j + 1) ∙ ap (λ k. records_before key (records_in n b k)) next in
      grind (arith, nat_tests)

  -- the first that comes behind the key, or behind them all
  pub place_found : (n : ℕ) (o : Option ℕ) → o ≡ position (λ i. ltb key (word 4 b (16 * i + 4))) (range_with_len 0 n) → unwrap_or o n ≡ records_before key (records_in n b 0)
  place_found n o e =
      let p = before_place n 0 in
      let within = place_within key (records_in n b 0) in
      let count = records_count n b 0 in
      let long = length-range_with_len 0 n in
      grind (arith, nat_tests)
