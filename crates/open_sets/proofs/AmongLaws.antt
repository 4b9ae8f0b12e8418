-- A record put among records in key order, in bytes: those before its place, its own, those behind.
use Rattle.std.proofs.Common.{ℕ, ◌+◌, ◌-◌, ◌*◌, ◌/◌, ◌%◌, ◌≤◌, ◌<◌, ◌≡◌, refl, sym, ap, ap₂, ◌∙◌, List, [], ◌∷◌, ◌++◌, append_assoc, arith, length, take, drop, replicate, length-take, length-drop, length-append, take_all, take-append-drop, take_at, drop_at}
use Rattle.std.proofs.lemmas.Bool.Decides.{nat_tests}
use Rattle.std.proofs.lemmas.List.{length-replicate, drop-replicate}
use Rattle.words.specs.Words.{Bytes, le, part, stored}
use Rattle.words.specs.WordLaws.{le_length, then_stored, stored_front}
use Rattle.rules.specs.declared.row.Record.{Record}
use Rattle.rules.specs.Lists.{flat}
use Rattle.rules.specs.Sheet.{record_bytes, records_bytes}
use Rattle.rules.specs.OpenSet.{open_set_of, put_record}
use Rattle.laws.specs.SheetLaws.{record_length_lem, records_length}
use Rattle.laws.specs.ListLaws.{flat_append}
use Rattle.laws.specs.Entering.{put_length}
use Rattle.open_sets.specs.Before.{records_before}
use Rattle.open_sets.proofs.SearchLaws.{place_within}

-- the record stands at its place
put_at : (r : Record) (rs : List Record) → put_record r rs ≡ take (records_before r.key rs) rs ++ r ∷ drop (records_before r.key rs) rs
unfolding put_record records_before
put_at r [] = refl
put_at r (x ∷ xs) = let h = put_at r xs in grind (arith, nat_tests)

-- a record's kind and three zero bytes are one word
kind_word : (kind : ℕ) → kind < 256 → le 4 kind ≡ kind ∷ 0 ∷ 0 ∷ 0 ∷ []
unfolding le
kind_word kind k =
    let e : kind % 256 ≡ kind = omega arith in
    let z : kind / 256 ≡ 0 = omega arith in
    rw (e, z)

pub record_words : (r : Record) (l₀ l₁ l₂ l₃ : Bytes) (at : ℕ) → r.kind < 256 → l₁ ≡ stored l₀ at (le 4 r.kind) → l₂ ≡ stored l₁ (at + 4) (le 4 r.key) → l₃ ≡ stored l₂ (at + 8) (le 8 r.value)
    → l₃ ≡ stored l₀ at (record_bytes r)
unfolding record_bytes le
record_words r l₀ l₁ l₂ l₃ at k p q s =
    let a = then_stored l₀ at (at + 4) (le 4 r.kind) (le 4 r.key) p q (ap (λ (n : ℕ). at + n) (sym (le_length 4 r.kind))) in
    let n : length (le 4 r.kind ++ le 4 r.key) ≡ 8 = length-append (le 4 r.kind) (le 4 r.key) ∙ ap₂ ◌+◌ (le_length 4 r.kind) (le_length 4 r.key) in
    let c = then_stored l₀ at (at + 8) (le 4 r.kind ++ le 4 r.key) (le 8 r.value) a s (ap (λ (n : ℕ). at + n) (sym n)) in
    c ∙ ap (stored l₀ at) (append_assoc (le 4 r.kind) (le 4 r.key) (le 8 r.value) ∙ ap (λ (x : Bytes). x ++ le 4 r.key ++ le 8 r.value) (kind_word r.kind k))

-- a place among records is within their bytes
pub place_in : (key : ℕ) (b : Bytes) (rs : List Record) → b ≡ records_bytes rs → 16 * records_before key rs ≤ length b
place_in key b rs bytes = let w = place_within key rs in omega (arith, ap length bytes, records_length rs)

-- some bytes that are those of records, and a record's place among these
module _ (b : Bytes) (rs : List Record) (bytes : b ≡ records_bytes rs) (r : Record) where
  abbrev place : ℕ
  place = records_before r.key rs

  split : b ≡ records_bytes (take place rs) ++ records_bytes (drop place rs)
  unfolding records_bytes
  split = bytes ∙ ap (flat record_bytes) (sym (take-append-drop place rs)) ∙ flat_append record_bytes (take place rs) (drop place rs)

  front_length : length (records_bytes (take place rs)) ≡ 16 * place
  front_length =
      let w = place_within r.key rs in
      let e : length (take place rs) ≡ place = simp length-take (omega arith) in
      records_length (take place rs) ∙ ap (λ (k : ℕ). 16 * k) e

  before : part b 0 (16 * place) ≡ records_bytes (take place rs)
  unfolding part
  before = ap (take (16 * place)) split ∙ take_at (records_bytes (take place rs)) (records_bytes (drop place rs)) (16 * place) front_length

  behind : part b (16 * place) (length b - 16 * place) ≡ records_bytes (drop place rs)
  unfolding part
  behind =
      take_all _ (drop (16 * place) b) (omega (arith, length-drop (16 * place) b))
      ∙ ap (drop (16 * place)) split ∙ drop_at (records_bytes (take place rs)) (records_bytes (drop place rs)) (16 * place) front_length

  -- ONE MORE AMONG THEM: the bytes before its place, its own, those behind
  pub among : (l₀ l₁ l₂ l₃ : Bytes) → l₁ ≡ stored l₀ 0 (part b 0 (16 * records_before r.key rs)) → l₂ ≡ stored l₁ (16 * records_before r.key rs) (record_bytes r)
      → l₃ ≡ stored l₂ (16 * records_before r.key rs + 16) (part b (16 * records_before r.key rs) (length b - 16 * records_before r.key rs))
      → l₃ ≡ stored l₀ 0 (records_bytes (put_record r rs))
  unfolding records_bytes flat
  among l₀ l₁ l₂ l₃ x y z =
      let f = front_length in
      let n : length (records_bytes (take place rs) ++ record_bytes r) ≡ 16 * place + 16 = length-append (records_bytes (take place rs)) (record_bytes r) ∙ ap₂ ◌+◌ f (record_length_lem r) in
      let a = then_stored l₀ 0 (16 * place) (records_bytes (take place rs)) (record_bytes r) (x ∙ ap (stored l₀ 0) before) y (omega (arith, f)) in
      let c = then_stored l₀ 0 (16 * place + 16) (records_bytes (take place rs) ++ record_bytes r) (records_bytes (drop place rs)) a (z ∙ ap (stored l₂ (16 * place + 16)) behind) (omega (arith, n)) in
      c ∙ ap (stored l₀ 0) (append_assoc (records_bytes (take place rs)) (record_bytes r) (records_bytes (drop place rs))
      ∙ sym (ap records_bytes (put_at r rs) ∙ flat_append record_bytes (take place rs) (r ∷ drop place rs)))

-- and with zeros behind them they are the open set
pub opened_with : (rs : List Record) (r : Record) (count : ℕ) (l : Bytes) → count ≡ length rs → length rs < 8 → l ≡ stored (replicate 128 0) 0 (records_bytes (put_record r rs))
    → record { count = count + 1; records = l } ≡ open_set_of (put_record r rs)
unfolding open_set_of
opened_with rs r count l c few e =
    let m = put_length r rs in
    let n : length (records_bytes (put_record r rs)) ≡ 16 * length (put_record r rs) = records_length (put_record r rs) in
    let k : count + 1 ≡ length (put_record r rs) = omega (arith, c, m) in
    let b : l ≡ records_bytes (put_record r rs) ++ replicate (128 - 16 * length (put_record r rs)) 0 =
    e ∙ stored_front (replicate 128 0) (records_bytes (put_record r rs)) (omega (arith, n, m, length-replicate {A = ℕ} 128 0))
    ∙ ap (λ (t : Bytes). records_bytes (put_record r rs) ++ t) (drop-replicate (length (records_bytes (put_record r rs))) 128 0 ∙ ap (λ (j : ℕ). replicate (128 - j) 0) n) in
    λ i. record { count = k i; records = b i }
