-- Document 02, L2: a station's tag is eleven ASCII digits, ten for the key and one check digit by the ten by ten table of H. M. Damm,
-- 'Total anti-symmetrische Quasigruppen', 2004.
use Rattle.std.specs.Prelude.{ℕ, zero, suc, ◌+◌, ◌-◌, ◌*◌, ◌/◌, ◌%◌, ◌^◌, Bool, List, [], ◌∷◌, ◌++◌, length, get_or, set, take, leb, eqb, if◌then◌else◌, Option, None, Some}
use Rattle.words.specs.Words.{Bytes}
use Rattle.rules.specs.Lists.{◌and◌, all, run_lists}
use Rattle.rules.specs.Numbers.{fits, run_numbers}

-- Damm's table: the row is the interim digit, the column the digit that comes next
unfoldable pub damm : List (List ℕ)
damm =
    (0 ∷ 3 ∷ 1 ∷ 7 ∷ 5 ∷ 9 ∷ 8 ∷ 6 ∷ 4 ∷ 2 ∷ [])
    ∷ (7 ∷ 0 ∷ 9 ∷ 2 ∷ 1 ∷ 5 ∷ 4 ∷ 8 ∷ 6 ∷ 3 ∷ [])
    ∷ (4 ∷ 2 ∷ 0 ∷ 6 ∷ 8 ∷ 7 ∷ 1 ∷ 3 ∷ 5 ∷ 9 ∷ [])
    ∷ (1 ∷ 7 ∷ 5 ∷ 0 ∷ 9 ∷ 8 ∷ 3 ∷ 4 ∷ 2 ∷ 6 ∷ [])
    ∷ (6 ∷ 1 ∷ 2 ∷ 3 ∷ 0 ∷ 4 ∷ 5 ∷ 9 ∷ 7 ∷ 8 ∷ [])
    ∷ (3 ∷ 6 ∷ 7 ∷ 4 ∷ 2 ∷ 0 ∷ 9 ∷ 5 ∷ 8 ∷ 1 ∷ [])
    ∷ (5 ∷ 8 ∷ 6 ∷ 9 ∷ 7 ∷ 2 ∷ 0 ∷ 1 ∷ 3 ∷ 4 ∷ [])
    ∷ (8 ∷ 9 ∷ 4 ∷ 5 ∷ 3 ∷ 6 ∷ 2 ∷ 0 ∷ 1 ∷ 7 ∷ [])
    ∷ (9 ∷ 4 ∷ 3 ∷ 8 ∷ 6 ∷ 1 ∷ 7 ∷ 2 ∷ 0 ∷ 5 ∷ [])
    ∷ (2 ∷ 5 ∷ 8 ∷ 1 ∷ 4 ∷ 3 ∷ 6 ∷ 7 ∷ 9 ∷ 0 ∷ [])
    ∷ []

-- the interim digit after one more digit
unfoldable pub step : ℕ → ℕ → ℕ
step interim digit = get_or (get_or damm interim []) digit 0

-- an ASCII digit
unfoldable pub is_digit : ℕ → Bool
is_digit b = leb 48 b and leb b 57

-- the digit that it is
abbrev pub digit_of : ℕ → ℕ
digit_of b = b - 48

-- the interim digit after a number of digits
unfoldable pub steps : ℕ → Bytes → ℕ
steps interim [] = interim
steps interim (b ∷ bs) = steps (step interim (digit_of b)) bs

-- the length of a tag
abbrev pub tag_room : ℕ
tag_room = 11

-- eleven digits that lead from 0 to 0: Damm's test, the check digit being the last of them
unfoldable pub right_tag : Bytes → Bool
right_tag t = eqb (length t) tag_room and all is_digit t and eqb (steps 0 t) 0

-- the number n with digits written behind it
unfoldable pub number : ℕ → Bytes → ℕ
number n [] = n
number n (b ∷ bs) = number (n * 10 + digit_of b) bs

-- the number that a tag's first ten digits are
unfoldable pub key_in : Bytes → ℕ
key_in t = number 0 (take 10 t)

-- a station's key: 1 to 4,294,967,295
unfoldable pub is_key : ℕ → Bool
is_key k = leb 1 k and fits 4 k

-- a station's tag: it is right, and its key in range
unfoldable pub is_tag : Bytes → Bool
is_tag t = right_tag t and is_key (key_in t)

-- the key of a tag, or none exactly if it is no station's tag
unfoldable pub key_of_tag : Bytes → Option ℕ
key_of_tag t = if is_tag t then Some (key_in t) else None

-- the n low decimal digits of k, the highest first
unfoldable pub digits : ℕ → ℕ → Bytes
digits zero k = []
digits (suc n) k = (48 + k / 10 ^ n % 10) ∷ digits n k

-- the check digit of digits: the interim digit that they lead to, since in the table's diagonal stands 0
unfoldable pub check_digit : Bytes → ℕ
check_digit ds = steps 0 ds

-- the tag of a key: its ten digits with leading zeros, then their check digit
unfoldable pub tag_of : ℕ → Bytes
tag_of k = digits 10 k ++ (48 + check_digit (digits 10 k)) ∷ []

-- a tag with the digits at p and behind it exchanged
unfoldable pub exchanged : Bytes → ℕ → Bytes
exchanged t p = set (set t p (get_or t (suc p) 0)) (suc p) (get_or t p 0)

-- opens all of these, for a proof by computation
unfoldable pub run_tag : Unit {0}
unfolding run_lists run_numbers damm step is_digit steps right_tag number key_in is_key is_tag key_of_tag digits check_digit tag_of exchanged
run_tag = tt
