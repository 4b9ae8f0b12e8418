-- Document 01, 'Gathering': the sheet of a number of offers. It looks only at which offers there are, not at their order or repeats.
use Rattle.std.specs.Prelude.{ℕ, min, Bool, true, false, not, List, [], ◌∷◌, ◌++◌, map, length, replicate, get_or, ltb, eqb, if◌then◌else◌}
use Rattle.rules.specs.declared.row.Record.{Record}
use Rattle.rules.specs.Lists.{◌and◌, ◌or◌, any, flat}
use Rattle.rules.specs.Sheet.{run_sheet, WriteSet, Sheet, no_notice, max_sets, masters, sets_of, allows}

-- a master's number of sets
pub record Notice : Type 0 where
  pub master : ℕ
  pub number : ℕ

-- what is put into a sheet
pub data Offer : Type 0 where
  a_set : WriteSet → Offer
  a_notice : Notice → Offer

-- the set that an offer is, if it is one
unfoldable pub set_in : Offer → List WriteSet
set_in (a_set w) = w ∷ []
set_in (a_notice n) = []

-- the notice that an offer is, if it is one
unfoldable pub notice_in : Offer → List Notice
notice_in (a_set w) = []
notice_in (a_notice n) = n ∷ []

-- the sets among the offers, as they come
unfoldable pub sets_among : List Offer → List WriteSet
sets_among = flat set_in

-- the notices among the offers, as they come
unfoldable pub notices_among : List Offer → List Notice
notices_among = flat notice_in

-- two records are equal in all fields
unfoldable pub same_record : Record → Record → Bool
same_record a b = eqb a.kind b.kind and eqb a.key b.key and eqb a.value b.value

-- two lists of records are equal
unfoldable pub same_records : List Record → List Record → Bool
same_records [] [] = true
same_records [] (b ∷ bs) = false
same_records (a ∷ rs) [] = false
same_records (a ∷ rs) (b ∷ bs) = same_record a b and same_records rs bs

-- two sets are equal in all fields
unfoldable pub same_set : WriteSet → WriteSet → Bool
same_set v w = eqb v.csn w.csn and eqb v.sen w.sen and same_records v.records w.records

-- two different sets of one csn
unfoldable pub clash : WriteSet → WriteSet → Bool
clash v w = eqb v.csn w.csn and not (same_set v w)

-- two different notices of one master
unfoldable pub differ : Notice → Notice → Bool
differ x y = eqb x.master y.master and not (eqb x.number y.number)

-- some two of a list stand so to each other
unfoldable pub some_two : {A : Type 0} → (A → A → Bool) → List A → Bool
some_two r xs = any (λ x. any (r x) xs) xs

-- a set among sets in csn order; one of that csn stands for both (if they differ, the sheet is spoiled, whichever stands)
unfoldable pub put_set : WriteSet → List WriteSet → List WriteSet
put_set w [] = w ∷ []
put_set w (v ∷ vs) =
    if ltb w.csn v.csn then w ∷ v ∷ vs else
    if ltb v.csn w.csn then v ∷ put_set w vs else
    v ∷ vs

-- the distinct sets, in csn order
unfoldable pub distinct : List WriteSet → List WriteSet
distinct [] = []
distinct (w ∷ ws) = put_set w (distinct ws)

-- the number that a master noticed, or 255; the smallest one (if two differ, the sheet is spoiled, whichever stands)
unfoldable pub notice_of : ℕ → List Notice → ℕ
notice_of m [] = no_notice
notice_of m (x ∷ xs) = if eqb x.master m then min x.number (notice_of m xs) else notice_of m xs

-- two different sets share a csn
unfoldable pub shared_csn : List Offer → Bool
shared_csn os = some_two clash (sets_among os)

-- one master has two different notices
unfoldable pub two_notices : List Offer → Bool
two_notices os = some_two differ (notices_among os)

-- there are more than 64 distinct sets
unfoldable pub too_many : List Offer → Bool
too_many os = ltb max_sets (length (distinct (sets_among os)))

-- a master has more sets than its notice
unfoldable pub over_notice : List Offer → Bool
over_notice os = any (λ m. not (allows (notice_of m (notices_among os)) (sets_of m (distinct (sets_among os))))) masters

-- the four reasons for which offers spoil their sheet
unfoldable pub spoils : List Offer → Bool
spoils os = (shared_csn os or two_notices os) or (too_many os or over_notice os)

-- the notice bytes of a sheet with no notice
abbrev pub no_notices : List ℕ
no_notices = replicate 16 no_notice

-- the sound sheet with these notices and sets
unfoldable pub sound_of : ℕ → ℕ → List ℕ → List WriteSet → Sheet
sound_of e r notices sets = record { epoch = e; roster = r; spoiled = false; notices = notices; sets = sets }

-- the sound sheet with no set and no notice
unfoldable pub empty_sheet : ℕ → ℕ → Sheet
empty_sheet e r = sound_of e r no_notices []

-- the spoiled sheet: no set and no notice
unfoldable pub spoiled_sheet : ℕ → ℕ → Sheet
spoiled_sheet e r = record { epoch = e; roster = r; spoiled = true; notices = no_notices; sets = [] }

-- the sound sheet of these offers
unfoldable pub holding : ℕ → ℕ → List Offer → Sheet
holding e r os = sound_of e r (map (λ m. notice_of m (notices_among os)) masters) (distinct (sets_among os))

-- THE SHEET OF THESE OFFERS
unfoldable pub gathered : ℕ → ℕ → List Offer → Sheet
gathered e r os = if spoils os then spoiled_sheet e r else holding e r os

-- what a sheet holds of master m's notice
unfoldable pub noticed : Sheet → ℕ → List Offer
noticed s m =
    if eqb (get_or s.notices m no_notice) no_notice then [] else
    a_notice (record { master = m; number = get_or s.notices m no_notice }) ∷ []

-- the offers that a sheet holds
unfoldable pub offers_of : Sheet → List Offer
offers_of s = map a_set s.sets ++ flat (noticed s) masters

-- a sheet with one offer more
unfoldable pub with_offer : Sheet → Offer → Sheet
with_offer s o = if s.spoiled then spoiled_sheet s.epoch s.roster else gathered s.epoch s.roster (offers_of s ++ (o ∷ []))

-- the sheet of two sheets' offers together
unfoldable pub joined : Sheet → Sheet → Sheet
joined a b = if a.spoiled or b.spoiled then spoiled_sheet a.epoch a.roster else gathered a.epoch a.roster (offers_of a ++ offers_of b)

-- opens all of these, for a proof by computation
unfoldable pub run_gathering : Unit {0}
unfolding run_sheet set_in notice_in sets_among notices_among same_record same_records same_set clash differ some_two put_set distinct notice_of shared_csn two_notices too_many over_notice spoils sound_of empty_sheet spoiled_sheet holding gathered noticed offers_of with_offer joined
run_gathering = tt
