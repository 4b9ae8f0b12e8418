-- What the tests of a struct say of it as an open set, and how much of it is offered.
use Rattle.std.proofs.Common.{ℕ, ◌*◌, ◌≤◌, ◌≡◌, refl, sym, ap, ◌∙◌, Bool, true, false, leb, eqb, ◌&&◌, ◌||◌, length, take, drop, arith, leb-true, le-leb, eqb-true}
use Rattle.std.proofs.lemmas.Bool.{eqb-false}
use Rattle.std.proofs.Math.Logic.{⊎_elim}
use Rattle.rules.specs.declared.desk.OpenSet.{OpenSet}
use Rattle.rules.specs.Lists.{◌and◌, ◌or◌, all}
use Rattle.rules.specs.Sheet.{offered_records, are_records}
use Rattle.rules.specs.OpenSet.{is_open_set, open_records, offered_bytes}
use Rattle.laws.specs.Tests.{left, right, both, or→, or_left, or_right, same_tests}
use Rattle.laws.specs.Chains.{and-is, or-is}
use Rattle.laws.specs.SheetLaws.{records_length}
use Rattle.laws.specs.OpenSets.{front, behind, parts, open_count, none_opened, some_opened, offered_front, offered_none, offered_records_lem, offers_records}

module _ (o : OpenSet) where
  -- its tests
  open_tested : length o.records ≡ 128 → is_open_set o ≡ leb o.count 8 and all (λ x. eqb x 0) (behind o) and (eqb o.count 0 or are_records (front o))
  open_tested long = same_tests _ _ passed are_enough
    where
      some : is_open_set o ≡ true → (t : Bool) → eqb o.count 0 ≡ t → eqb o.count 0 or are_records (front o) ≡ true
      some e true q = or_left _ _ q
      some e false q =
          let n = eqb-false o.count 0 q in
          or_right _ _ (ap are_records (sym (offered_front o e)) ∙ offers_records o ∙ both e (le-leb 1 o.count (omega arith)))

      passed : is_open_set o ≡ true → leb o.count 8 and all (λ x. eqb x 0) (behind o) and (eqb o.count 0 or are_records (front o)) ≡ true
      passed e = let p = parts o e in both (le-leb o.count 8 p.few) (both p.zeros (some e (eqb o.count 0) refl))

      are_enough : leb o.count 8 and all (λ x. eqb x 0) (behind o) and (eqb o.count 0 or are_records (front o)) ≡ true → is_open_set o ≡ true
      are_enough e =
          let few = leb-true o.count 8 (left _ _ e) in
          let zeros = left _ _ (right _ _ e) in
          ⊎_elim
          (λ q. none_opened o long (eqb-true o.count 0 q) zeros)
          (λ q. some_opened o long few q zeros)
          (or→ (eqb o.count 0) (are_records (front o)) (right _ _ (right _ _ e)))

  -- THESE TESTS DECIDE WHETHER IT IS ONE, in std's words
  pub open_tests : length o.records ≡ 128 → is_open_set o ≡ (leb o.count 8 && (all (λ x. eqb x 0) (drop (16 * o.count) o.records) && (eqb o.count 0 || are_records (take (16 * o.count) o.records))))
  open_tests long = open_tested long ∙ same (leb o.count 8) (all (λ x. eqb x 0) (behind o)) (eqb o.count 0) (are_records (front o))
    where
      same : (a b c d : Bool) → a and b and (c or d) ≡ (a && (b && (c || d)))
      same a b c d = sym (ap (λ t. a && (b && t)) (or-is c d) ∙ ap (λ t. a && t) (and-is b (c or d)) ∙ and-is a (b and (c or d)))

  pub few_records : is_open_set o ≡ true → o.count ≤ 8
  few_records e = (parts o e).few

  -- its records are those in front
  pub front_records : is_open_set o ≡ true → offered_records (front o) ≡ open_records o
  front_records e = ap offered_records (sym (offered_front o e)) ∙ offered_records_lem o e

  -- how long what it offers is
  pub offered_long : is_open_set o ≡ true → 16 * o.count ≡ length (offered_bytes o)
  unfolding offered_bytes
  offered_long e = simp e (ap (λ (k : ℕ). 16 * k) (sym (open_count o)) ∙ sym (records_length (open_records o)))

  pub offered_short : is_open_set o ≡ false → 0 ≡ length (offered_bytes o)
  offered_short e = ap length (sym (offered_none o e))
