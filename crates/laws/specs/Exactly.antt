-- REFUSED EXACTLY WHEN: each operation's outcome is the table of refusals, read row by row. It is refused with a number just when
-- that is the foremost that applies, and else done, with the result that the documents name.
use Rattle.std.specs.Prelude.{ℕ, zero, suc, ◌+◌, ◌*◌, ◌<◌, ◌≤◌, ◌≡◌, Bool, not, length, get_or, ltb, leb, eqb, if◌then◌else◌, Option, None, Some}
use Rattle.std.proofs.Math.Path.{refl, ap}
use Rattle.std.proofs.Common.{sym, ◌∙◌, arith, ltb-false, le-ltb, leb-true, le-leb, ne_eqb}
use Rattle.std.proofs.Math.Bool.{true, false}
use mathlib.Core.List.Memᴰ.{head as here}
use mathlib.Core.List.Memᴰ.{tail as later}
use mathlib.Core.List.{List, [], ◌∷◌, Memᴰ}
use Rattle.std.proofs.lemmas.Bool.{eqb-false, lt-leb, not-true}
use Rattle.words.specs.Words.{Bytes}
use Rattle.rules.specs.declared.row.Record.{Record}
use Rattle.rules.specs.declared.row.Read.{Read}
use Rattle.rules.specs.declared.desk.OpenSet.{OpenSet}
use Rattle.rules.specs.declared.answer.Refusal.{Refusal}
use Rattle.rules.specs.declared.answer.Refusal.TheVariants.{RegisterIllFormed, SheetIllFormed, OfferIllFormed, WrongEpoch, WrongRoster, Spoiled, Incomplete, TooManyRows, BufferShort, CheckIllFormed, BadTag, KeyEntered, NinthRecord}
use Rattle.rules.specs.Lists.{◌and◌, ◌or◌, all, any, first, ascend_from}
use Rattle.rules.specs.Numbers.{master_of}
use Rattle.rules.specs.Forms.{read}
use Rattle.rules.specs.Register.{Register, max_rows, register_in, is_register, read_register}
use Rattle.rules.specs.Sheet.{Sheet, no_notice, max_sets, max_records, masters, in_roster, is_kind, sound_value, sets_of, sheet_bytes, sheet_in, is_sheet, read_sheet, offered_records, are_records, read_records}
use Rattle.rules.specs.Tag.{tag_room, is_key, is_tag, key_in, tag_of}
use Rattle.rules.specs.OpenSet.{open_set_of, is_open_set, open_records, has_key, put_record, offered_bytes}
use Rattle.rules.specs.Gathering.{Offer, a_set, a_notice, empty_sheet, with_offer, joined}
use Rattle.rules.specs.Closing.{sent, complete}
use Rattle.rules.specs.Becoming.{next_rows, next}
use Rattle.rules.specs.ReadCheck.{read_committed, repeatable_read, snapshot_isolation, check_from, reads_of}
use Rattle.rules.specs.Answers.{refusal_number}
use Rattle.rules.specs.Refused.{Outcome, refused, done, sheet_room, register_room, verdict_room, max_reads, open_outcome, set_with, offered_set, offered_notice, offer_to, put_outcome, notice_outcome, join_sheets, join_outcome, closing, close_sheet, close_outcome, bad_check, check_reads, reads_outcome, check_outcome, record_of, enter_outcome, offer_outcome, tag_outcome}
use Rattle.rules.specs.Applies.{Asked, to_open, to_put, to_notice, to_join, to_close, to_check, to_enter, to_offer, to_tag, bad_register, bad_sheet, bad_offer, wrong_epoch, wrong_roster, spoiled_there, owes, incomplete, too_many_rows, buffer_short, bad_entries, bad_read_check, bad_tag, key_entered, ninth_record, applies, turn_of, Foremost, NoneApplies, RefusedExactly}
use Rattle.laws.specs.Tests.{same_tests, not_true_false}
use Rattle.laws.specs.Says.{clash}
use Rattle.laws.specs.ListLaws.{first→, first_none}
use Rattle.laws.specs.Rising.{Rising, rising→, rising_one, rising_first}
use Rattle.laws.specs.OpenSets.{offers_records, offered_records_lem}
use Rattle.laws.specs.NotRefused.{refused_not, done_same, refused_same, set_by}

-- ---- the table, and the first of its rows that applies

-- the refusals, in the order in which they are given
abbrev pub refusals : List Refusal
refusals =
    RegisterIllFormed ∷ SheetIllFormed ∷ OfferIllFormed ∷ BadTag ∷ KeyEntered ∷ NinthRecord ∷ WrongEpoch ∷ WrongRoster ∷ Spoiled ∷ Incomplete ∷ TooManyRows ∷ BufferShort ∷ CheckIllFormed ∷ []

-- the first of the table that applies, if one does
unfoldable pub first_for : Asked → Option Refusal
first_for q = first (λ x. applies x q) refusals

-- refused by its number if there is a refusal, else done with this result
unfoldable pub by : {A : Type 0} → Option Refusal → A → Outcome A
by None a = done a
by (Some x) a = refused (refusal_number x)

-- every refusal is in the table
in_table_lem : (x : Refusal) → Memᴰ x refusals
in_table_lem RegisterIllFormed = here refl
in_table_lem SheetIllFormed = later (here refl)
in_table_lem OfferIllFormed = later (later (here refl))
in_table_lem BadTag = later (later (later (here refl)))
in_table_lem KeyEntered = later (later (later (later (here refl))))
in_table_lem NinthRecord = later (later (later (later (later (here refl)))))
in_table_lem WrongEpoch = later (later (later (later (later (later (here refl))))))
in_table_lem WrongRoster = later (later (later (later (later (later (later (here refl)))))))
in_table_lem Spoiled = later (later (later (later (later (later (later (later (here refl))))))))
in_table_lem Incomplete = later (later (later (later (later (later (later (later (later (here refl)))))))))
in_table_lem TooManyRows = later (later (later (later (later (later (later (later (later (later (here refl))))))))))
in_table_lem BufferShort = later (later (later (later (later (later (later (later (later (later (later (here refl)))))))))))
in_table_lem CheckIllFormed = later (later (later (later (later (later (later (later (later (later (later (later (here refl))))))))))))

-- in which they ascend by their turns
table_rises : Rising turn_of refusals
unfolding ascend_from ◌and◌
table_rises = (rising→ turn_of 0 refusals refl).0

-- document 01's refusals have the turns of their numbers, counted in tens
tens : (x : Refusal) → refusal_number x ≤ 10 → turn_of x ≡ 10 * refusal_number x
tens RegisterIllFormed h = refl
tens SheetIllFormed h = refl
tens OfferIllFormed h = refl
tens WrongEpoch h = refl
tens WrongRoster h = refl
tens Spoiled h = refl
tens Incomplete h = refl
tens TooManyRows h = refl
tens BufferShort h = refl
tens CheckIllFormed h = refl
tens BadTag h = absurd (omega arith)
tens KeyEntered h = absurd (omega arith)
tens NinthRecord h = absurd (omega arith)

-- OF DOCUMENT 01'S REFUSALS THE SMALLER IS GIVEN BEFORE THE LARGER
pub smaller_first : (x y : Refusal) → refusal_number x ≤ 10 → refusal_number y ≤ 10 → refusal_number x < refusal_number y → turn_of x < turn_of y
smaller_first x y h k l = omega (arith, tens x h, tens y k)

not_both : {m n : ℕ} → m ≤ n → n < m → ⊥
not_both h k = omega arith

-- the first of the table that applies is the foremost that does
pub foremost : (q : Asked) (x : Refusal) → first_for q ≡ Some x → Foremost q x
unfolding first_for
foremost q x e = record {
  it_applies = (first→ (λ y. applies y q) refusals e).1;
  none_before = λ y l. not_true_false (λ t. not_both (rising_first turn_of (λ z. applies z q) table_rises e (in_table_lem y) t) l);
}

-- where there is none, none applies
pub none_applies : (q : Asked) → first_for q ≡ None → NoneApplies q
unfolding first_for
none_applies q e x = first_none (λ y. applies y q) refusals e x (in_table_lem x)

-- two that are foremost have one number
one_foremost : (q : Asked) (x y : Refusal) → Foremost q x → Foremost q y → refusal_number x ≡ refusal_number y
one_foremost q x y a b =
    ap refusal_number (rising_one turn_of table_rises (in_table_lem x) (in_table_lem y) (go (λ l. clash a.it_applies (b.none_before x l)) (λ l. clash b.it_applies (a.none_before y l))))
  where
    go : (turn_of x < turn_of y → ⊥) → (turn_of y < turn_of x → ⊥) → turn_of x ≡ turn_of y
    go h k = omega arith

module _ {A : Type 0} (q : Asked) (o : Outcome A) (a : A) where
  -- AN OUTCOME BY THE FIRST THAT APPLIES IS REFUSED EXACTLY WHEN THE TABLE SAYS
  pub exactly_by : o ≡ by (first_for q) a → RefusedExactly q o a
  unfolding by
  exactly_by p = go (first_for q) refl p
    where
      go : (f : Option Refusal) → first_for q ≡ f → o ≡ by f a → RefusedExactly q o a
      go None e p = record {
        refused_when = λ x s. absurd (clash s.it_applies (none_applies q e x));
        only_when = λ n r. absurd (refused_not (sym r ∙ p));
        else_done = λ h. p;
        only_else = λ b r. (none_applies q e, done_same (sym r ∙ p));
      }
      go (Some x) e p = record {
        refused_when = λ y s. p ∙ ap refused (one_foremost q x y (foremost q x e) s);
        only_when = λ n r. (x, refused_same (sym r ∙ p), foremost q x e);
        else_done = λ h. absurd (clash (foremost q x e).it_applies (h x));
        only_else = λ b r. absurd (refused_not (sym p ∙ r));
      }

module _ {A : Type 0} where
  -- one row of the table: refused by its number where its test holds, else as the rows below it
  row : {o : Outcome A} (t : Bool) (x : Refusal) (f : Option Refusal) (a : A) → o ≡ by f a → (if t then refused (refusal_number x) else o) ≡ by (if t then Some x else f) a
  unfolding by
  row true x f a p = refl
  row false x f a p = p

  -- where no row is left it is done
  end : (a : A) → done a ≡ by None a
  unfolding by
  end a = refl

-- opens the table's rows, for a proof by computation
unfoldable run_table : Unit {0}
unfolding first applies bad_register bad_sheet bad_offer wrong_epoch wrong_roster spoiled_there incomplete too_many_rows buffer_short bad_read_check bad_tag key_entered ninth_record first_for
run_table = tt

-- ---- open

-- OPEN IS REFUSED EXACTLY WHEN THE TABLE SAYS
pub open_exactly : (e r room : ℕ) → RefusedExactly (to_open e r room) (open_outcome e r room) (sheet_bytes (empty_sheet e r))
unfolding run_table open_outcome
open_exactly e r room =
    exactly_by (to_open e r room) _ _ (row (eqb e 0) WrongEpoch _ _ (row (eqb r 0) WrongRoster _ _ (row (ltb room sheet_room) BufferShort _ _ (end _))))

-- ---- put and notice

-- an offer to a sheet: t that the bytes are a sheet, u that the offer is ill-formed
offer_by : (t u : Bool) (s : Sheet) (o : Offer) (e m room : ℕ)
    → offer_to (if t then Some s else None) (if u then None else Some o) e m room
    ≡ by
    (if not t then Some SheetIllFormed else
    if u then Some OfferIllFormed else
    if not (eqb e s.epoch) then Some WrongEpoch else
    if not (in_roster s.roster m) then Some WrongRoster else
    if ltb room sheet_room then Some BufferShort else
    None)
    (sheet_bytes (with_offer s o))
unfolding offer_to by
offer_by false u s o e m room = refl
offer_by true true s o e m room = refl
offer_by true false s o e m room = row (not (eqb e s.epoch)) WrongEpoch _ _ (row (not (in_roster s.roster m)) WrongRoster _ _ (row (ltb room sheet_room) BufferShort _ _ (end _)))

-- one test passes where the other fails
record Opposite (good bad : Bool) : Type 0 where
  turns : good ≡ not bad

not_zero : (n : ℕ) → Opposite (leb 1 n) (eqb n 0)
not_zero n = record { turns = same_tests (leb 1 n) (not (eqb n 0)) to (λ p. of (eqb-false n 0 (not-true _ p))) }
  where
    to : leb 1 n ≡ true → not (eqb n 0) ≡ true
    to p = ap not (ne_eqb n 0 (λ q. absurd (omega (arith, leb-true 1 n p))))

    of : (n ≡ 0 → ⊥) → leb 1 n ≡ true
    of h = le-leb 1 n (omega arith)

not_above : (a b : ℕ) → Opposite (leb a b) (ltb b a)
not_above a b = record {
  turns = same_tests (leb a b) (not (ltb b a)) (λ p. ap not (le-ltb b a (leb-true a b p))) (λ p. le-leb a b (ltb-false b a (not-true _ p)));
}

not_not : (t : Bool) → Opposite t (not t)
not_not true = record { turns = refl }
not_not false = record { turns = refl }

not_itself : (t : Bool) → Opposite (not t) t
not_itself t = record { turns = refl }

neither : {x y a b : Bool} → Opposite x a → Opposite y b → Opposite (x and y) (a or b)
unfolding ◌and◌ ◌or◌
neither {a} {b} p q = record { turns = go a p.turns q.turns }
  where
    go : {x y : Bool} (a : Bool) → x ≡ not a → y ≡ not b → x and y ≡ not (a or b)
    go true p q = rw p
    go false p q = rw (p, q)

-- an offer, by its test or by the opposite one
offered : {good bad : Bool} (o : Offer) → Opposite good bad → (if good then Some o else None) ≡ (if bad then None else Some o)
offered {bad} o p = go bad p.turns
  where
    go : {good : Bool} (bad : Bool) → good ≡ not bad → (if good then Some o else None) ≡ (if bad then None else Some o)
    go true p = rw p
    go false p = rw p

-- a set by its numbers and, where c, its records
set_if_lem : (e sen csn : ℕ) (rs : List Record) (c : Bool)
    → set_with e sen csn (if c then Some rs else None) ≡ (if leb 1 e and leb sen e and c then Some (a_set (set_by csn sen rs)) else None)
unfolding set_with ◌and◌
set_if_lem e sen csn rs c = go c (leb 1 e) refl (leb sen e) refl
  where
    go : (c x : Bool) → leb 1 e ≡ x → (y : Bool) → leb sen e ≡ y
        → set_with e sen csn (if c then Some rs else None) ≡ (if leb 1 e and leb sen e and c then Some (a_set (set_by csn sen rs)) else None)
    go true true p true q = simp (p, q)
    go true true p false q = simp (p, q)
    go true false p y q = simp p
    go false true p true q = simp (p, q)
    go false true p false q = simp (p, q)
    go false false p y q = simp p

-- the offered set, by what makes it ill-formed
set_by_lem : (e sen csn : ℕ) (b : Bytes)
    → offered_set e sen csn b ≡ (if eqb e 0 or ltb e sen or not (are_records b) then None else Some (a_set (set_by csn sen (offered_records b))))
unfolding offered_set read_records are_records read
set_by_lem e sen csn b =
    set_if_lem e sen csn (offered_records b) (are_records b) ∙ offered (a_set (set_by csn sen (offered_records b))) (neither (not_zero e) (neither (not_above sen e) (not_not (are_records b))))

-- the offered notice, by what makes it ill-formed
notice_by_lem : (e m n : ℕ) → offered_notice e m n ≡ (if eqb e 0 or ltb 15 m or ltb max_sets n then None else Some (a_notice (record { master = m; number = n })))
unfolding offered_notice
notice_by_lem e m n = offered (a_notice (record { master = m; number = n })) (neither (not_zero e) (neither (not_above m 15) (not_above n max_sets)))

-- THE SAME OF PUT
pub put_exactly : (s : Bytes) (e sen csn : ℕ) (b : Bytes) (room : ℕ)
    → RefusedExactly (to_put s e sen csn b room) (put_outcome s e sen csn b room) (sheet_bytes (with_offer (sheet_in s) (a_set (set_by csn sen (offered_records b)))))
unfolding run_table put_outcome read_sheet is_sheet read
put_exactly s e sen csn b room =
    exactly_by (to_put s e sen csn b room) _ _
    (ap (λ (o : Option Offer). offer_to (read_sheet s) o e (master_of csn) room) (set_by_lem e sen csn b)
    ∙ offer_by (is_sheet s) (eqb e 0 or ltb e sen or not (are_records b)) (sheet_in s) (a_set (set_by csn sen (offered_records b))) e (master_of csn) room)

-- OF NOTICE
pub notice_exactly : (s : Bytes) (e m n room : ℕ)
    → RefusedExactly (to_notice s e m n room) (notice_outcome s e m n room) (sheet_bytes (with_offer (sheet_in s) (a_notice (record { master = m; number = n }))))
unfolding run_table notice_outcome read_sheet is_sheet read
notice_exactly s e m n room =
    exactly_by (to_notice s e m n room) _ _
    (ap (λ (o : Option Offer). offer_to (read_sheet s) o e m room) (notice_by_lem e m n)
    ∙ offer_by (is_sheet s) (eqb e 0 or ltb 15 m or ltb max_sets n) (sheet_in s) (a_notice (record { master = m; number = n })) e m room)

-- ---- join

-- of two sheets: t that the first bytes are one, u that the second are
join_by : (t u : Bool) (a b : Sheet) (room : ℕ)
    → join_sheets (if t then Some a else None) (if u then Some b else None) room
    ≡ by
    (if not t or not u then Some SheetIllFormed else
    if not (eqb a.epoch b.epoch) then Some WrongEpoch else
    if not (eqb a.roster b.roster) then Some WrongRoster else
    if ltb room sheet_room then Some BufferShort else
    None)
    (sheet_bytes (joined a b))
unfolding join_sheets by ◌or◌
join_by false u a b room = refl
join_by true false a b room = refl
join_by true true a b room =
    row (not (eqb a.epoch b.epoch)) WrongEpoch _ _ (row (not (eqb a.roster b.roster)) WrongRoster _ _ (row (ltb room sheet_room) BufferShort _ _ (end _)))

-- OF JOIN
pub join_exactly : (a b : Bytes) (room : ℕ) → RefusedExactly (to_join a b room) (join_outcome a b room) (sheet_bytes (joined (sheet_in a) (sheet_in b)))
unfolding run_table join_outcome read_sheet is_sheet read
join_exactly a b room = exactly_by (to_join a b room) _ _ (join_by (is_sheet a) (is_sheet b) (sheet_in a) (sheet_in b) room)

-- ---- close

-- one passes, where not all pass the opposite
some_not : {A : Type 0} (p q : A → Bool) → ((x : A) → q x ≡ not (p x)) → (xs : List A) → not (all q xs) ≡ any p xs
unfolding all any ◌and◌ ◌or◌
some_not p q h [] = refl
some_not p q h (x ∷ xs) = go (p x) (h x) (some_not p q h xs)
  where
    go : (t : Bool) → q x ≡ not t → not (all q xs) ≡ any p xs → not (q x and all q xs) ≡ t or any p xs
    go true e k = simp e
    go false e k = simp e k

-- a master that has sent what it said does not owe
not_owing : (s : Sheet) (m : ℕ) → Opposite (sent s m) (owes s m)
unfolding sent owes
not_owing s m = neither (not_itself (eqb (get_or s.notices m no_notice) no_notice)) (not_above (get_or s.notices m no_notice) (sets_of m s.sets))

-- a sheet is not complete where a roster master owes
owing : (s : Sheet) → not (complete s) ≡ any (λ m. in_roster s.roster m and owes s m) masters
unfolding complete ◌and◌ ◌or◌
owing s = some_not (λ m. in_roster s.roster m and owes s m) (λ m. not (in_roster s.roster m) or sent s m) (λ m. go (in_roster s.roster m) m) masters
  where
    go : (t : Bool) (m : ℕ) → not t or sent s m ≡ not (t and owes s m)
    go true m = (not_owing s m).turns
    go false m = refl

-- of a register and a sheet: t that the first bytes are a register, u that the second are a sheet
close_by : (t u : Bool) (g : Register) (s : Sheet) (n m : ℕ)
    → close_sheet (if t then Some g else None) (if u then Some s else None) n m
    ≡ by
    (if not t then Some RegisterIllFormed else
    if not u then Some SheetIllFormed else
    if not (eqb s.epoch (g.snapshot + 1)) then Some WrongEpoch else
    if s.spoiled then Some Spoiled else
    if any (λ k. in_roster s.roster k and owes s k) masters then Some Incomplete else
    if ltb max_rows (length (next g s).rows) then Some TooManyRows else
    if ltb n register_room or ltb m verdict_room then Some BufferShort else
    None)
    (closing g s)
unfolding close_sheet next by
close_by false u g s n m = refl
close_by true false g s n m = refl
close_by true true g s n m =
    rw⁻¹ (owing s)
    (row (not (eqb s.epoch (g.snapshot + 1))) WrongEpoch _ _
    (row s.spoiled Spoiled _ _
    (row (not (complete s)) Incomplete _ _
    (row (ltb max_rows (length (next_rows g s))) TooManyRows _ _
    (row (ltb n register_room or ltb m verdict_room) BufferShort _ _ (end _))))))

-- OF CLOSE
pub close_exactly : (r t : Bytes) (n m : ℕ) → RefusedExactly (to_close r t n m) (close_outcome r t n m) (closing (register_in r) (sheet_in t))
unfolding run_table close_outcome read_register is_register read_sheet is_sheet read
close_exactly r t n m = exactly_by (to_close r t n m) _ _ (close_by (is_register r) (is_sheet t) (register_in r) (sheet_in t) n m)

-- ---- read check

-- the entries, none of them where two lists are of unequal length
abbrev pub entries_of : Option (List Read) → List Read
entries_of None = []
entries_of (Some es) = es

-- the modes are 1 to 3
modes : (m : ℕ) → leb 1 m and leb m snapshot_isolation ≡ eqb m read_committed or eqb m repeatable_read or eqb m snapshot_isolation
unfolding ◌and◌ ◌or◌
modes zero = refl
modes (suc zero) = refl
modes (suc (suc zero)) = refl
modes (suc (suc (suc zero))) = refl
modes (suc (suc (suc (suc n)))) = above (suc (suc (suc (suc n)))) (omega arith)
  where
    above : (m : ℕ) → 3 < m → leb 1 m and leb m 3 ≡ eqb m 1 or eqb m 2 or eqb m 3
    above m h =
        simp (lt-leb m 3 h, le-leb 1 m (omega arith), ne_eqb m 1 (λ e. absurd (omega arith)), ne_eqb m 2 (λ e. absurd (omega arith)), ne_eqb m 3 (λ e. absurd (omega arith)))

or_or : (a b c : Bool) → a or b or c ≡ (a or b) or c
unfolding ◌or◌
or_or true b c = refl
or_or false b c = refl

-- what is wrong with a check of entries that are there
bad_by : (g : Register) (mode lsn : ℕ) (es : List Read)
    → bad_check g mode lsn es
    ≡ not (eqb mode read_committed or eqb mode repeatable_read or eqb mode snapshot_isolation) or bad_entries (Some es) or ltb g.snapshot lsn
unfolding bad_check bad_entries
bad_by g mode lsn es = simp (modes mode, or_or (any (λ e. eqb e.key 0) es) (ltb max_reads (length es)) (ltb g.snapshot lsn))

no_entries : (a b : Bool) → a or bad_entries None or b ≡ true
unfolding bad_entries ◌or◌
no_entries true b = refl
no_entries false b = refl

-- of a register and entries: t that the bytes are a register
check_by : (t : Bool) (g : Register) (mode lsn : ℕ) (es : Option (List Read))
    → check_reads (if t then Some g else None) mode lsn es
    ≡ by
    (if not t then Some RegisterIllFormed else
    if not (eqb mode read_committed or eqb mode repeatable_read or eqb mode snapshot_isolation) or bad_entries es or ltb g.snapshot lsn then Some CheckIllFormed else
    None)
    (check_from g mode lsn 0 (entries_of es))
unfolding check_reads by
check_by false g mode lsn es = refl
check_by true g mode lsn None = rw (no_entries (not (eqb mode read_committed or eqb mode repeatable_read or eqb mode snapshot_isolation)) (ltb g.snapshot lsn))
check_by true g mode lsn (Some es) = rw⁻¹ (bad_by g mode lsn es) (row (bad_check g mode lsn es) CheckIllFormed _ _ (end _))

-- OF THE READ CHECK, over a list of entries
pub reads_exactly : (register : Bytes) (mode lsn : ℕ) (es : List Read)
    → RefusedExactly (to_check register mode lsn (Some es)) (reads_outcome register mode lsn es) (check_from (register_in register) mode lsn 0 es)
unfolding run_table reads_outcome read_register is_register read
reads_exactly register mode lsn es =
    exactly_by (to_check register mode lsn (Some es)) _ _ (check_by (is_register register) (register_in register) mode lsn (Some es))

-- AND OF THE READ CHECK, over a list of keys and a list of csns
pub check_exactly : (register : Bytes) (mode lsn : ℕ) (keys csns : List ℕ)
    → RefusedExactly (to_check register mode lsn (reads_of keys csns)) (check_outcome register mode lsn keys csns)
    (check_from (register_in register) mode lsn 0 (entries_of (reads_of keys csns)))
unfolding run_table check_outcome read_register is_register read
check_exactly register mode lsn keys csns =
    exactly_by (to_check register mode lsn (reads_of keys csns)) _ _ (check_by (is_register register) (register_in register) mode lsn (reads_of keys csns))

-- ---- the desk

-- OF ENTER
pub enter_exactly : (o : OpenSet) (kind : ℕ) (tag : Bytes) (value : ℕ)
    → RefusedExactly (to_enter o kind tag value) (enter_outcome o kind tag value) (open_set_of (put_record (record_of kind (key_in tag) value) (open_records o)))
unfolding run_table enter_outcome
enter_exactly o kind tag value =
    exactly_by (to_enter o kind tag value) _ _
    (row (not (is_open_set o) or not (is_kind kind) or not (sound_value kind value)) OfferIllFormed _ _
    (row (not (is_tag tag)) BadTag _ _
    (row (has_key (key_in tag) (open_records o)) KeyEntered _ _
    (row (leb max_records (length (open_records o))) NinthRecord _ _ (end _)))))

-- a set with these records where t, and else none
abbrev set_if : ℕ → ℕ → ℕ → Bool → List Record → Option Offer
set_if e sen csn t rs = if eqb e 0 or ltb e sen or not t then None else Some (a_set (set_by csn sen rs))

-- where it is none, any records do
no_set_lem : (e sen csn : ℕ) (rs qs : List Record) → set_if e sen csn false rs ≡ set_if e sen csn false qs
unfolding ◌or◌
no_set_lem e sen csn rs qs = go (eqb e 0) (ltb e sen)
  where
    go : (x y : Bool) → (if x or y or true then None else Some (a_set (set_by csn sen rs))) ≡ (if x or y or true then None else Some (a_set (set_by csn sen qs)))
    go true y = refl
    go false true = refl
    go false false = refl

-- the open set that is offered, by what makes it no set
open_by : (e sen csn : ℕ) (o : OpenSet) → offered_set e sen csn (offered_bytes o) ≡ set_if e sen csn (is_open_set o and leb 1 o.count) (open_records o)
unfolding ◌and◌
open_by e sen csn o =
    set_by_lem e sen csn (offered_bytes o) ∙ ap (λ (t : Bool). set_if e sen csn t (offered_records (offered_bytes o))) (offers_records o) ∙ go (is_open_set o) refl
  where
    go : (t : Bool) → is_open_set o ≡ t → set_if e sen csn (t and leb 1 o.count) (offered_records (offered_bytes o)) ≡ set_if e sen csn (t and leb 1 o.count) (open_records o)
    go true h = ap (set_if e sen csn (leb 1 o.count)) (offered_records_lem o h)
    go false h = no_set_lem e sen csn (offered_records (offered_bytes o)) (open_records o)

-- OF OFFER
pub offer_exactly : (o : OpenSet) (s : Bytes) (e sen csn room : ℕ)
    → RefusedExactly (to_offer o s e sen csn room) (offer_outcome o s e sen csn room) (sheet_bytes (with_offer (sheet_in s) (a_set (set_by csn sen (open_records o)))))
unfolding run_table offer_outcome put_outcome read_sheet is_sheet read
offer_exactly o s e sen csn room =
    exactly_by (to_offer o s e sen csn room) _ _
    (ap (λ (x : Option Offer). offer_to (read_sheet s) x e (master_of csn) room) (open_by e sen csn o)
    ∙ offer_by (is_sheet s) (eqb e 0 or ltb e sen or not (is_open_set o and leb 1 o.count)) (sheet_in s) (a_set (set_by csn sen (open_records o))) e (master_of csn) room)

-- OF TAG
pub tag_exactly : (key room : ℕ) → RefusedExactly (to_tag key room) (tag_outcome key room) (tag_of key)
unfolding run_table tag_outcome
tag_exactly key room = exactly_by (to_tag key room) _ _ (row (not (is_key key)) BadTag _ _ (row (ltb room tag_room) BufferShort _ _ (end _)))
