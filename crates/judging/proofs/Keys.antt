-- The keys of a table by the numbers in it; and the first key of a set can stand there, since its records are sound.
use Rattle.std.proofs.Common.{ℕ, ◌≡◌, refl, ◌∙◌, arith, List, map, length, get_or, ne_eqb, Bool, true, Option, None, Some}
use Rattle.std.proofs.Math.ListN.{get_or-map, length-map}
use Rattle.rules.specs.declared.row.Record.{Record}
use Rattle.rules.specs.Lists.{first}
use Rattle.rules.specs.Register.{Register}
use Rattle.rules.specs.Sheet.{WriteSet, Sheet, max_sets, sound_records}
use Rattle.rules.specs.Closing.{first_wrong, first_lost}
use Rattle.laws.specs.Commits.{records_rising}
use Rattle.laws.specs.ListLaws.{first→}
use Rattle.sheets.specs.declared.set.WriteSet as view
use Rattle.sheets.specs.SheetMembers.{records_sound}
use Rattle.sheets.specs.Views.{set_of}
use Rattle.judging.specs.declared.table.Table.{Table}
use Rattle.judging.specs.Tables.{in_table, from_table, keys_of, IsKey, first_key, wrong_key, lost_key}

pub all_places : (t : Table) → length (keys_of t) ≡ max_sets
unfolding keys_of
all_places t = length-map t.keys from_table ∙ t.places

pub key_there : (xs : List ℕ) (i : ℕ) → get_or (map from_table xs) i None ≡ from_table (get_or xs i 0)
unfolding from_table
key_there xs i = get_or-map from_table xs i 0

pub key_back : (key : Option ℕ) → IsKey key → from_table (in_table key) ≡ key
unfolding from_table
key_back None h = refl
key_back (Some k) h = rw (ne_eqb k 0 (omega arith))

first_is_key : (p : Record → Bool) (w : WriteSet) → sound_records w.records ≡ true → IsKey (first_key (first p w.records))
first_is_key p w e = go (first p w.records) refl
  where
    go : (o : Option Record) → first p w.records ≡ o → IsKey (first_key o)
    go None q = tt
    go (Some r) q = (records_rising w.records e).1 r (first→ p w.records q).0

-- of a set that code looks at
module _ (g : Register) (w : view.WriteSet) where
  sound : sound_records (set_of w).records ≡ true
  sound = records_sound _ _ w.sheet.examined w.within

  pub wrong_is_key : IsKey (wrong_key g (set_of w))
  unfolding wrong_key first_wrong
  wrong_is_key = first_is_key _ (set_of w) sound

  pub lost_is_key : (s : Sheet) → IsKey (lost_key g s (set_of w))
  unfolding lost_key first_lost
  lost_is_key s = first_is_key _ (set_of w) sound
