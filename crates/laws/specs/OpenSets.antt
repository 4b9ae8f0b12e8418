-- An open set comes back from its struct, and the struct from what was read: one encoding. What of a struct's bytes decides that it is one,
-- and that its record bytes are those of a set that can be offered just when it is not empty.
use Rattle.std.specs.Prelude.{ℕ, zero, suc, ◌-◌, ◌*◌, ◌/◌, ◌≤◌, ◌≡◌, refl, Bool, true, List, [], ◌∷◌, ◌++◌, map, length, take, drop, replicate, leb, eqb, if◌then◌else◌, None, Some}
use Rattle.std.proofs.Common.{sym, ◌∙◌, ap, ap₂, append-nil, arith, eqb-true, eq-eqb, length-take, length-drop, take-append-drop, take_at, drop_at}
use Rattle.std.proofs.Math.Bool.{false}
use Rattle.std.proofs.lemmas.Option.{same_Some, none-some}
use Rattle.words.specs.Words.{Bytes}
use Rattle.rules.specs.declared.row.Record.{Record}
use Rattle.rules.specs.declared.desk.OpenSet.{OpenSet}
use Rattle.rules.specs.Lists.{◌and◌, all, flat, ascend_from}
use Rattle.rules.specs.Forms.{well_formed}
use Rattle.rules.specs.Sheet.{record_key, sound_record, sound_records, records_bytes, records_in, offered_records, are_records}
use Rattle.rules.specs.OpenSet.{sound_open, open_set_of, empty_set, open_records, same_open, is_open_set, read_open, offered_bytes}
use Rattle.laws.specs.Tests.{left, right, both}
use Rattle.laws.specs.Says.{Says, is_le, itself, ◌also◌}
use Rattle.laws.specs.FormLaws.{same→, same_refl}
use Rattle.laws.specs.BytesHere.{and_true}
use Rattle.laws.specs.SheetLaws.{records_at, records_length, records_count, records_read, written_records}

-- what sound records of an open set are
pub open_says : (rs : List Record) → Says (sound_open rs) ((length rs ≤ 8) × ((ascend_from 0 (map record_key rs) ≡ true) × (all sound_record rs ≡ true)))
unfolding sound_open
open_says rs = is_le (length rs) 8 also itself (ascend_from 0 (map record_key rs)) also itself (all sound_record rs)

-- ---- read back

-- the records of a struct that was written are those it was written from
pub open_records_lem : (rs : List Record) → all sound_record rs ≡ true → open_records (open_set_of rs) ≡ rs
unfolding open_records open_set_of
open_records_lem rs h = records_at rs (records_bytes rs ++ replicate (128 - 16 * length rs) 0) 0 (replicate (128 - 16 * length rs) 0) h refl

same_open→ : (o p : OpenSet) → same_open o p ≡ true → o ≡ p
unfolding same_open
same_open→ o p e =
    let c = eqb-true o.count p.count (left _ _ e) in
    let r = same→ o.records p.records (right _ _ e) in
    λ i. record { count = c i; records = r i }

same_open_refl : (o : OpenSet) → same_open o o ≡ true
unfolding same_open
same_open_refl o = both (eq-eqb o.count o.count refl) (same_refl o.records)

-- what sound records are written as is an open set
pub is_open : (rs : List Record) → sound_open rs ≡ true → is_open_set (open_set_of rs) ≡ true
unfolding is_open_set
is_open rs h =
    let e = open_records_lem rs ((open_says rs).told h).1.1 in
    both (ap sound_open e ∙ h) (ap (λ (qs : List Record). same_open (open_set_of qs) (open_set_of rs)) e ∙ same_open_refl (open_set_of rs))

-- and an open set is what its records, which are sound, are written as
pub open_is : (o : OpenSet) → is_open_set o ≡ true → (o ≡ open_set_of (open_records o)) × (sound_open (open_records o) ≡ true)
unfolding is_open_set
open_is o h = (sym (same_open→ (open_set_of (open_records o)) o (right _ _ h)), left _ _ h)

-- AN OPEN SET IS READ AS IT WAS WRITTEN
pub open_written : (rs : List Record) → sound_open rs ≡ true → read_open (open_set_of rs) ≡ Some rs
unfolding read_open
open_written rs h = simp (is_open rs h) (ap Some (open_records_lem rs ((open_says rs).told h).1.1))

-- AND WHAT IS READ WAS WRITTEN SO
pub written_open : (o : OpenSet) (rs : List Record) → read_open o ≡ Some rs → (o ≡ open_set_of rs) × (sound_open rs ≡ true)
unfolding read_open
written_open o rs e = go (is_open_set o) refl e
  where
    go : (t : Bool) → is_open_set o ≡ t → (if t then Some (open_records o) else None) ≡ Some rs → (o ≡ open_set_of rs) × (sound_open rs ≡ true)
    go true p q =
        let w = open_is o p in
        let r = same_Some (open_records o) rs q in
        (w.0 ∙ ap open_set_of r, ap sound_open (sym r) ∙ w.1)
    go false p q = absurd (none-some rs q)

-- ONE ENCODING
pub one_open : (rs qs : List Record) → sound_open rs ≡ true → sound_open qs ≡ true → open_set_of rs ≡ open_set_of qs → rs ≡ qs
one_open rs qs h k e = same_Some rs qs (sym (open_written rs h) ∙ ap read_open e ∙ open_written qs k)

-- THE EMPTY ONE IS ALL ZERO
pub empty_open : open_set_of [] ≡ empty_set
unfolding open_set_of records_bytes flat
empty_open = refl

-- ---- what decides it

-- bytes that are all zero
zeros_are : (b : Bytes) → all (λ x. eqb x 0) b ≡ true → b ≡ replicate (length b) 0
unfolding all
zeros_are [] h = refl
zeros_are (x ∷ xs) h = ap₂ ◌∷◌ (eqb-true x 0 (left _ _ h)) (zeros_are xs (right _ _ h))

are_zeros : (n : ℕ) → all (λ x. eqb x 0) (replicate n 0) ≡ true
unfolding all
are_zeros zero = refl
are_zeros (suc n) = both refl (are_zeros n)

-- the bytes of its records, and those behind them
abbrev pub front : OpenSet → Bytes
front o = take (16 * o.count) o.records

abbrev pub behind : OpenSet → Bytes
behind o = drop (16 * o.count) o.records

-- a struct whose front is that of sound records, and the rest zero, is an open set
opened : (o : OpenSet) (rs : List Record) → length o.records ≡ 128 → sound_open rs ≡ true → o.count ≡ length rs → front o ≡ records_bytes rs
    → all (λ x. eqb x 0) (behind o) ≡ true → is_open_set o ≡ true
unfolding open_set_of
opened o rs long h c f z =
    let n : length (behind o) ≡ 128 - 16 * length rs = simp length-drop (omega (arith, long, c)) in
    let b : o.records ≡ records_bytes rs ++ replicate (128 - 16 * length rs) 0 =
    sym (take-append-drop (16 * o.count) o.records) ∙ ap₂ ◌++◌ f (zeros_are (behind o) z ∙ ap (λ (k : ℕ). replicate k 0) n) in
    let e : open_set_of rs ≡ o = λ i. record { count = sym c i; records = sym b i } in
    ap is_open_set (sym e) ∙ is_open rs h

-- what an open set's struct has: at most eight records, zeros behind them, and in front of these the records' bytes
pub record Parts (o : OpenSet) : Type 0 where
  pub few : o.count ≤ 8
  pub zeros : all (λ x. eqb x 0) (behind o) ≡ true
  pub bytes : front o ≡ records_bytes (open_records o)

pub parts : (o : OpenSet) → is_open_set o ≡ true → Parts o
unfolding open_set_of
parts o h =
    let w = open_is o h in
    let s = (open_says (open_records o)).told w.1 in
    let c : o.count ≡ length (open_records o) = ap (λ (p : OpenSet). p.count) w.0 in
    let b : o.records ≡ records_bytes (open_records o) ++ replicate (128 - 16 * length (open_records o)) 0 = ap (λ (p : OpenSet). p.records) w.0 in
    let n : length (records_bytes (open_records o)) ≡ 16 * o.count = records_length (open_records o) ∙ ap (λ (k : ℕ). 16 * k) (sym c) in
    record {
      few = omega (arith, s.0, c);
      zeros =
          ap (λ (l : Bytes). all (λ x. eqb x 0) (drop (16 * o.count) l)) b
          ∙ ap (all (λ x. eqb x 0)) (drop_at (records_bytes (open_records o)) (replicate (128 - 16 * length (open_records o)) 0) (16 * o.count) n)
          ∙ are_zeros (128 - 16 * length (open_records o));
      bytes = ap (take (16 * o.count)) b ∙ take_at (records_bytes (open_records o)) (replicate (128 - 16 * length (open_records o)) 0) (16 * o.count) n;
    }

-- a set's records are those of an open set that is not empty
pub some_open : (rs : List Record) → sound_records rs ≡ leb 1 (length rs) and sound_open rs
unfolding sound_records sound_open
some_open rs = refl

-- a struct of 128 bytes with no record is an open set where all are zero
pub none_opened : (o : OpenSet) → length o.records ≡ 128 → o.count ≡ 0 → all (λ x. eqb x 0) (behind o) ≡ true → is_open_set o ≡ true
unfolding sound_open records_bytes flat ascend_from all ◌and◌
none_opened o long c z = opened o [] long refl c (ap (λ (k : ℕ). take (16 * k) o.records) c) z

-- and one with records where the front is an offered set's
pub some_opened : (o : OpenSet) → length o.records ≡ 128 → o.count ≤ 8 → are_records (front o) ≡ true → all (λ x. eqb x 0) (behind o) ≡ true → is_open_set o ≡ true
some_opened o long few h z =
    let w = written_records (front o) (offered_records (front o)) (records_read (front o) h) in
    let n : length (front o) ≡ 16 * o.count = simp length-take (omega (arith, long, few)) in
    let m = records_length (offered_records (front o)) in
    let c : o.count ≡ length (offered_records (front o)) = omega (arith, n, m, ap length w.0) in
    opened o (offered_records (front o)) long (right _ _ (sym (some_open (offered_records (front o))) ∙ w.1)) c w.0 z

-- ---- what it offers

-- it stands for as many records as it counts
pub open_count : (o : OpenSet) → length (open_records o) ≡ o.count
unfolding open_records
open_count o = records_count o.count o.records 0

-- the offered bytes of an open set are those in front, of another struct there are none
pub offered_front : (o : OpenSet) → is_open_set o ≡ true → offered_bytes o ≡ front o
unfolding offered_bytes
offered_front o h = simp h (sym (parts o h).bytes)

pub offered_none : (o : OpenSet) → is_open_set o ≡ false → offered_bytes o ≡ []
unfolding offered_bytes
offered_none o h = simp h

-- the records that it offers are its own
pub offered_records_lem : (o : OpenSet) → is_open_set o ≡ true → offered_records (offered_bytes o) ≡ open_records o
unfolding offered_records offered_bytes
offered_records_lem o h =
    let s = (open_says (open_records o)).told (open_is o h).1 in
    let n : length (records_bytes (open_records o)) / 16 ≡ length (open_records o) = omega (arith, records_length (open_records o)) in
    simp h
    (ap (λ (n : ℕ). records_in n (records_bytes (open_records o)) 0) n
    ∙ records_at (open_records o) (records_bytes (open_records o)) 0 [] s.1.1 (sym (append-nil (records_bytes (open_records o)))))

-- ITS BYTES ARE A SET'S JUST WHEN IT IS NOT EMPTY
pub offers_records : (o : OpenSet) → are_records (offered_bytes o) ≡ is_open_set o and leb 1 o.count
unfolding are_records well_formed ◌and◌
offers_records o = go (is_open_set o) refl
  where
    go : (t : Bool) → is_open_set o ≡ t → are_records (offered_bytes o) ≡ t and leb 1 o.count
    go true h =
        let w = open_is o h in
        let e = offered_records_lem o h in
        let b : offered_bytes o ≡ records_bytes (open_records o) = unfold offered_bytes in simp h in
        rw (e, b, same_refl (records_bytes (open_records o)), some_open (open_records o), w.1, and_true, and_true) (ap (leb 1) (open_count o))
    go false h = rw (offered_none o h) (unfold sound_records offered_records records_in ◌and◌ in refl)

-- what it offers is the start of its bytes
pub offered_part : (o : OpenSet) → offered_bytes o ≡ take (length (offered_bytes o)) o.records
offered_part o = go (is_open_set o) refl
  where
    go : (t : Bool) → is_open_set o ≡ t → offered_bytes o ≡ take (length (offered_bytes o)) o.records
    go true h =
        let n : length (offered_bytes o) ≡ 16 * o.count = ap length (offered_front o h ∙ (parts o h).bytes) ∙ records_length (open_records o) ∙ ap (λ (k : ℕ). 16 * k) (open_count o) in
        offered_front o h ∙ ap (λ (k : ℕ). take k o.records) (sym n)
    go false h = rw (offered_none o h)

-- AN OPEN SET OFFERS ITS RECORDS
pub offers_own : (o : OpenSet) (rs : List Record) → read_open o ≡ Some rs → offered_bytes o ≡ records_bytes rs
unfolding read_open offered_bytes
offers_own o rs e = go (is_open_set o) e
  where
    go : (t : Bool) → (if t then Some (open_records o) else None) ≡ Some rs → (if t then records_bytes (open_records o) else []) ≡ records_bytes rs
    go true q = ap records_bytes (same_Some (open_records o) rs q)
    go false q = absurd (none-some rs q)
