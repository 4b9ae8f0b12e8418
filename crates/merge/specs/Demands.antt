-- THE AUDITOR'S PAGE. The three demands that every part is marked by, and the visit desk: a field for each sentence, in order; the values that prove them
-- are proofs/Demands.antt. What an operation does is its outcome (`rules` `Refused`), and what its code ensures of its answer and of every lent byte is
-- its promise of that outcome (`rules` `Promises`).
use Rattle.std.specs.Prelude.{ℕ, suc, ◌<◌, ◌≤◌, ◌≡◌, ◌⊎◌, true, false, length, get_or, set, take, drop, None, Some, Ok, Err}
use mathlib.Core.List.{List, [], Memᴰ, Permᴰ}
use Rattle.words.specs.Words.{Bytes}
use Rattle.rules.specs.declared.row.Row.{Row}
use Rattle.rules.specs.declared.row.Record.{Record}
use Rattle.rules.specs.declared.row.Read.{Read}
use Rattle.rules.specs.declared.desk.OpenSet.{OpenSet}
use Rattle.rules.specs.declared.answer.Refusal.{Refusal}
use Rattle.rules.specs.declared.answer.Reason.{Reason}
use Rattle.rules.specs.Answers.{Answer, ClosedAnswer, Checked, Entered, lengths, fails_with, refusal_number}
use Rattle.rules.specs.Lists.{flat}
use Rattle.rules.specs.Register.{Register, sound_register, register_bytes, register_in, read_register}
use Rattle.rules.specs.Sheet.{WriteSet, Sheet, is_kind, sound_value, sound_sheet, sheet_bytes, sheet_in, read_sheet, records_bytes, offered_records}
use Rattle.rules.specs.Tag.{right_tag, key_in, is_key, key_of_tag, tag_of, exchanged}
use Rattle.rules.specs.OpenSet.{sound_open, open_set_of, empty_set, open_records, is_open_set, read_open, put_record, offered_bytes}
use Rattle.rules.specs.Gathering.{Offer, a_set, a_notice, empty_sheet, spoiled_sheet, gathered, offers_of, with_offer, joined}
use Rattle.rules.specs.Closing.{present, mark_in, winner, verdict, commits, committed, verdicts}
use Rattle.rules.specs.Becoming.{next_rows, next}
use Rattle.rules.specs.ReadCheck.{Finding, passes, fails, check_from, reads_of}
use Rattle.rules.specs.Refused.{Outcome, refused, done, Closing, closing, sheet_room, verdict_bytes, open_outcome, put_outcome, notice_outcome, join_outcome, offered_set, offered_notice, close_outcome, reads_outcome, check_outcome, record_of, enter_outcome, offer_outcome, tag_outcome}
use Rattle.rules.specs.Promises.{Promise, ClosePromise, CheckPromise, EnterPromise, OfferPromise}
use Rattle.rules.specs.Applies.{Asked, to_open, to_put, to_notice, to_join, to_close, to_check, to_enter, to_offer, to_tag, turn_of, Foremost, RefusedExactly}
use Rattle.laws.specs.ListLaws.{Sub}
use Rattle.laws.specs.Says.{Says}
use Rattle.laws.specs.Tags as tags
use Rattle.laws.specs.Entering.{Enters}
use Rattle.laws.specs.AnyOrder as typed
use Rattle.laws.specs.GatherSound.{Head}
use Rattle.laws.specs.Trees.{Number, Tree, put, paper, ends, offers_in, epoch_of, roster_of, spoiled_in, all_opened, gathered_in, Within}
use Rattle.laws.specs.FairTrees.{GoodSet, GoodNotice, FairTree}
use Rattle.laws.specs.NeverStuck.{JustWhen}
use Rattle.laws.specs.SameBytes.{SameOffers}
use Rattle.laws.specs.SameClosing.{LongEnough}
use Rattle.laws.specs.Winners.{Claims, Wins}
use Rattle.laws.specs.Commits.{Committed, VerdictSays}
use Rattle.laws.specs.NotRefused.{set_by}
use Rattle.laws.specs.Exactly.{entries_of}
use Rattle.laws.specs.ClosingWrites.{WholeSet, NoneOfSet, Writes, Gives}
use Rattle.laws.specs.Marks.{MarkedByWinner}
use Rattle.laws.specs.RowBytes.{HasRow}
use Rattle.laws.specs.Choice.{Unnamed}
use Rattle.laws.specs.Whole.{Absent}
use Rattle.laws.specs.FirstFailing as reading
use Rattle.laws.specs.Closers as closers
use Rattle.laws.specs.Closers.{Closer, Demand2, Keeps}
use Rattle.laws.specs.WrongClosers as wrong
use Rattle.laws.specs.WrongClosers.{RefusesAlways, AnswersAlike, DoesNothing, N, Rejects, LosersStamp, FirstRowStamped}
use Rattle.laws.specs.Gatherers as gatherers
use Rattle.laws.specs.Gatherers.{Demand3, always_spoiled, first_offer, counts_deliveries, example_a, example_g, example_g1}
use Rattle.laws.specs.Examples as examples
use Rattle.merge.specs.Calls.{Called, CloseCall, Roomy, written_next, written_verdicts}

-- DEMAND 1: every public operation ends on all inputs, examines forms itself, refuses by a fixed number, and a refusal writes nothing.
-- (That a function ends, on all inputs and without a precondition, is what the checker proves of its code.)
pub record FirstDemand : Type 0 where
  -- On all inputs an operation is refused with a number just when that row of the table is the foremost that applies, and else done:
  pub opens : (epoch roster room : ℕ) → RefusedExactly (to_open epoch roster room) (open_outcome epoch roster room) (sheet_bytes (empty_sheet epoch roster))
  pub puts : (sheet : Bytes) (epoch sen csn : ℕ) (records : Bytes) (room : ℕ)
      → RefusedExactly (to_put sheet epoch sen csn records room) (put_outcome sheet epoch sen csn records room)
      (sheet_bytes (with_offer (sheet_in sheet) (a_set (set_by csn sen (offered_records records)))))
  pub notices : (sheet : Bytes) (epoch master number room : ℕ)
      → RefusedExactly (to_notice sheet epoch master number room) (notice_outcome sheet epoch master number room)
      (sheet_bytes (with_offer (sheet_in sheet) (a_notice (record { master = master; number = number }))))
  pub joins : (a b : Bytes) (room : ℕ) → RefusedExactly (to_join a b room) (join_outcome a b room) (sheet_bytes (joined (sheet_in a) (sheet_in b)))
  pub closes : (register sheet : Bytes) (next_room room : ℕ)
      → RefusedExactly (to_close register sheet next_room room) (close_outcome register sheet next_room room) (closing (register_in register) (sheet_in sheet))
  pub checks : (register : Bytes) (mode lsn : ℕ) (keys csns : List ℕ)
      → RefusedExactly (to_check register mode lsn (reads_of keys csns)) (check_outcome register mode lsn keys csns)
      (check_from (register_in register) mode lsn 0 (entries_of (reads_of keys csns)))
  pub checks_reads : (register : Bytes) (mode lsn : ℕ) (entries : List Read)
      → RefusedExactly (to_check register mode lsn (Some entries)) (reads_outcome register mode lsn entries) (check_from (register_in register) mode lsn 0 entries)
  pub enters : (o : OpenSet) (kind : ℕ) (tag : Bytes) (value : ℕ)
      → RefusedExactly (to_enter o kind tag value) (enter_outcome o kind tag value) (open_set_of (put_record (record_of kind (key_in tag) value) (open_records o)))
  pub offers : (o : OpenSet) (sheet : Bytes) (epoch sen csn room : ℕ)
      → RefusedExactly (to_offer o sheet epoch sen csn room) (offer_outcome o sheet epoch sen csn room)
      (sheet_bytes (with_offer (sheet_in sheet) (a_set (set_by csn sen (open_records o)))))
  pub tags : (key room : ℕ) → RefusedExactly (to_tag key room) (tag_outcome key room) (tag_of key)
  -- They are given in the documents' order, in which of document 01's the smaller comes before the larger.
  pub smaller_first : (x y : Refusal) → refusal_number x ≤ 10 → refusal_number y ≤ 10 → refusal_number x < refusal_number y → turn_of x < turn_of y
  -- What the read check answers is the first failing entry, or that none fails.
  pub first_failing : (g : Register) (mode lsn : ℕ) (entries : List Read) → reading.Tells g mode lsn 0 entries (check_from g mode lsn 0 entries)
  -- It examines forms itself: what is no register is refused with 1, what is no sheet with 2, an ill-formed offer with 3, each before what has a larger number.
  pub close_examines_register : (register sheet : Bytes) (next_room room : ℕ) → read_register register ≡ None → close_outcome register sheet next_room room ≡ refused 1
  pub check_examines_register : (register : Bytes) (mode lsn : ℕ) (keys csns : List ℕ) → read_register register ≡ None → check_outcome register mode lsn keys csns ≡ refused 1
  pub reads_examines_register : (register : Bytes) (mode lsn : ℕ) (entries : List Read) → read_register register ≡ None → reads_outcome register mode lsn entries ≡ refused 1
  pub close_examines_sheet : (register sheet : Bytes) (next_room room : ℕ) (g : Register) → read_register register ≡ Some g → read_sheet sheet ≡ None
      → close_outcome register sheet next_room room ≡ refused 2
  pub put_examines_sheet : (sheet : Bytes) (epoch sen csn : ℕ) (records : Bytes) (room : ℕ) → read_sheet sheet ≡ None → put_outcome sheet epoch sen csn records room ≡ refused 2
  pub notice_examines_sheet : (sheet : Bytes) (epoch master number room : ℕ) → read_sheet sheet ≡ None → notice_outcome sheet epoch master number room ≡ refused 2
  pub join_examines_first : (a b : Bytes) (room : ℕ) → read_sheet a ≡ None → join_outcome a b room ≡ refused 2
  pub join_examines_second : (a b : Bytes) (room : ℕ) (s : Sheet) → read_sheet a ≡ Some s → read_sheet b ≡ None → join_outcome a b room ≡ refused 2
  pub put_examines_set : (sheet : Bytes) (epoch sen csn : ℕ) (records : Bytes) (room : ℕ) (s : Sheet) → read_sheet sheet ≡ Some s → offered_set epoch sen csn records ≡ None
      → put_outcome sheet epoch sen csn records room ≡ refused 3
  pub notice_examines_notice : (sheet : Bytes) (epoch master number room : ℕ) (s : Sheet) → read_sheet sheet ≡ Some s → offered_notice epoch master number ≡ None
      → notice_outcome sheet epoch master number room ≡ refused 3
  pub enter_examines_set : (o : OpenSet) (kind : ℕ) (tag : Bytes) (value : ℕ) → is_open_set o ≡ false → enter_outcome o kind tag value ≡ refused 3
  pub offer_examines_sheet : (o : OpenSet) (sheet : Bytes) (epoch sen csn room : ℕ) → read_sheet sheet ≡ None → offer_outcome o sheet epoch sen csn room ≡ refused 2
  pub offer_examines_set : (o : OpenSet) (sheet : Bytes) (epoch sen csn room : ℕ) (s : Sheet) → read_sheet sheet ≡ Some s → is_open_set o ≡ false
      → offer_outcome o sheet epoch sen csn room ≡ refused 3
  -- It refuses by a fixed number: a promise kept tells the outcome. Success means that the named length was written, and the bytes after it stayed;
  pub success_tells : (q : Asked) (o : Outcome Bytes) (result before after : Bytes) (n : ℕ) → RefusedExactly q o result → Promise o before (Ok n) after
      → (o ≡ done (take n after)) × (n ≡ length (take n after)) × (drop n after ≡ drop n before)
  pub closing_success_tells : (q : Asked) (o : Outcome Closing) (result : Closing) (next verdicts next' verdicts' : Bytes) (i j : ℕ) → RefusedExactly q o result
      → ClosePromise o next verdicts (lengths i j) next' verdicts'
      → (o ≡ done (record { register = take i next'; verdicts = take j verdicts' }))
      × (i ≡ length (take i next')) × (drop i next' ≡ drop i next) × (j ≡ length (take j verdicts')) × (drop j verdicts' ≡ drop j verdicts)
  pub pass_tells : (q : Asked) (o : Outcome Finding) (result : Finding) → RefusedExactly q o result → CheckPromise o (Ok None) → o ≡ done passes
  pub failure_tells : (o : Outcome Finding) (i k : ℕ) (reason : Reason) → CheckPromise o (fails_with i k reason) → o ≡ done (fails i k reason)
  pub added_tells : (q : Asked) (o : Outcome OpenSet) (result before after : OpenSet) → RefusedExactly q o result → EnterPromise o before (Ok tt) after → o ≡ done after
  pub offered_tells : (q : Asked) (o : Outcome Bytes) (result : Bytes) (before after : OpenSet) (out out' : Bytes) (n : ℕ) → RefusedExactly q o result
      → OfferPromise o before out (Ok n) after out' → (o ≡ done (take n out')) × (n ≡ length (take n out')) × (drop n out' ≡ drop n out) × (after ≡ empty_set)
  -- a refusal, that it is the foremost that applies.
  pub refusal_tells : (q : Asked) (o : Outcome Bytes) (result before after : Bytes) (x : Refusal) → RefusedExactly q o result → Promise o before (Err x) after
      → (o ≡ refused (refusal_number x)) × Foremost q x
  pub closing_refusal_tells : (q : Asked) (o : Outcome Closing) (result : Closing) (next verdicts next' verdicts' : Bytes) (x : Refusal) → RefusedExactly q o result
      → ClosePromise o next verdicts (Err x) next' verdicts' → (o ≡ refused (refusal_number x)) × Foremost q x
  pub check_refusal_tells : (q : Asked) (o : Outcome Finding) (result : Finding) (x : Refusal) → RefusedExactly q o result → CheckPromise o (Err x)
      → (o ≡ refused (refusal_number x)) × Foremost q x
  pub entering_refusal_tells : (q : Asked) (o : Outcome OpenSet) (result before after : OpenSet) (x : Refusal) → RefusedExactly q o result
      → EnterPromise o before (Err x) after → (o ≡ refused (refusal_number x)) × Foremost q x
  pub offering_refusal_tells : (q : Asked) (o : Outcome Bytes) (result : Bytes) (before after : OpenSet) (out out' : Bytes) (x : Refusal) → RefusedExactly q o result
      → OfferPromise o before out (Err x) after out' → (o ≡ refused (refusal_number x)) × Foremost q x
  -- And it settles the answer and every lent byte.
  pub settled : (o : Outcome Bytes) (before after after' : Bytes) (a b : Answer) → Promise o before a after → Promise o before b after' → (a ≡ b) × (after ≡ after')
  pub settled_closing : (o : Outcome Closing) (next verdicts n n' v v' : Bytes) (a b : ClosedAnswer)
      → ClosePromise o next verdicts a n v → ClosePromise o next verdicts b n' v' → (a ≡ b) × (n ≡ n') × (v ≡ v')
  pub settled_check : (o : Outcome Finding) (a b : Checked) → CheckPromise o a → CheckPromise o b → a ≡ b
  pub settled_entering : (o : Outcome OpenSet) (before after after' : OpenSet) (a b : Entered) → EnterPromise o before a after → EnterPromise o before b after' → (a ≡ b) × (after ≡ after')
  pub settled_offering : (o : Outcome Bytes) (before after after' : OpenSet) (out out₁ out₂ : Bytes) (a b : Answer)
      → OfferPromise o before out a after out₁ → OfferPromise o before out b after' out₂ → (a ≡ b) × (after ≡ after') × (out₁ ≡ out₂)
  -- A refusal writes nothing.
  pub refusal_writes_nothing : (o : Outcome Bytes) (before after : Bytes) (x : Refusal) → Promise o before (Err x) after → after ≡ before
  pub refused_closing_writes_nothing : (o : Outcome Closing) (next verdicts next' verdicts' : Bytes) (x : Refusal)
      → ClosePromise o next verdicts (Err x) next' verdicts' → (next' ≡ next) × (verdicts' ≡ verdicts)
  pub refused_entering_leaves : (o : Outcome OpenSet) (before after : OpenSet) (x : Refusal) → EnterPromise o before (Err x) after → after ≡ before
  pub refused_offering_leaves : (o : Outcome Bytes) (before after : OpenSet) (out out' : Bytes) (x : Refusal) → OfferPromise o before out (Err x) after out'
      → (after ≡ before) × (out' ≡ out)

-- DEMAND 2: closing gives exactly the verdicts and next register of document 01's rule, in which a row's mark changes only when its
-- winner commits (document 02, L1). Sheets and registers read back as written, one encoding each.
pub record SecondDemand : Type 0 where
  -- Closing that is done gives all that the fields after this one say, of the register and the sheet that its bytes read as.
  pub closing_gives : (r t : Bytes) (n m : ℕ) (c : Closing) → close_outcome r t n m ≡ done c
      → (g : Register) × (s : Sheet) × (read_register r ≡ Some g) × (read_sheet t ≡ Some s) × Writes g s c
  -- The verdicts: one a set, in csn order; commit, or the smallest key lost or found wrong.
  pub verdicts_written : (r t : Bytes) (g : Register) (s : Sheet) (c : Closing) → Gives r t g s c → c.verdicts ≡ flat verdict_bytes (verdicts g s)
  pub verdict_says : (r t : Bytes) (g : Register) (s : Sheet) (c : Closing) → Gives r t g s c → (w : WriteSet) → Memᴰ w s.sets → VerdictSays g s w (verdict g s w)
  -- The next register: its bytes read back as such, with one row a key.
  pub next_register : (r t : Bytes) (g : Register) (s : Sheet) (c : Closing) → Gives r t g s c → read_register c.register ≡ Some (next g s)
  pub one_row_a_key : (r t : Bytes) (g : Register) (s : Sheet) (c : Closing) → Gives r t g s c
      → (x y : Row) → Memᴰ x (next_rows g s) → Memᴰ y (next_rows g s) → x.key ≡ y.key → x ≡ y
  -- By document 01's rule: each claimed key has exactly one winner, a claimant that precedes all others;
  pub one_winner : (r t : Bytes) (g : Register) (s : Sheet) (c : Closing) → Gives r t g s c → (k : ℕ) (w : WriteSet) → Claims g s k w
      → (v : WriteSet) × (winner g s k ≡ Some v) × Wins g s k v × ((u : WriteSet) → Wins g s k u → u ≡ v)
  -- a set commits just when it is fit and precedes every other fit set on each of its keys;
  pub commits_just_when : (g : Register) (s : Sheet) (w : WriteSet) → sound_sheet s ≡ true → Memᴰ w s.sets → Says (commits g s w) (Committed g s w)
  -- each set committed, and every record of it stands, or it did not, and what stands at each of its keys is there by another set that
  -- committed, or is the old row as it stood, mark included, or is absent as before;
  pub whole_or_none : (r t : Bytes) (g : Register) (s : Sheet) (c : Closing) → Gives r t g s c → (w : WriteSet) → Memᴰ w s.sets → WholeSet g s w ⊎ NoneOfSet g s w
  -- a row's mark changes only when its winner commits: an old row stands as it stood, or its winner committed and it bears that mark;
  pub mark_changes : (r t : Bytes) (g : Register) (s : Sheet) (c : Closing) → Gives r t g s c
      → (row x : Row) → Memᴰ row g.rows → Memᴰ x (next_rows g s) → x.key ≡ row.key → (x ≡ row) ⊎ MarkedByWinner g s x
  -- a loser stamps nothing: a row whose winner was lost stands as it stood;
  pub loser_stamps_nothing : (r t : Bytes) (g : Register) (s : Sheet) (c : Closing) → Gives r t g s c
      → (row : Row) (w : WriteSet) → Memᴰ row g.rows → Wins g s row.key w → commits g s w ≡ false → Memᴰ row (next_rows g s)
  -- a row whose winner committed bears its mark; rows that no committed set names stay as they were, byte for byte, and such absent keys
  -- stay absent.
  pub winner_marks : (r t : Bytes) (g : Register) (s : Sheet) (c : Closing) → Gives r t g s c
      → (x : Row) (w : WriteSet) → Memᴰ x (next_rows g s) → Wins g s x.key w → commits g s w ≡ true → x.mark ≡ mark_in s w
  pub others_stay : (r t : Bytes) (g : Register) (s : Sheet) (c : Closing) → Gives r t g s c
      → (row : Row) → Memᴰ row g.rows → Unnamed (committed g s) row.key → Memᴰ row (next_rows g s)
  pub bytes_stay : (r t : Bytes) (g : Register) (s : Sheet) (c : Closing) → Gives r t g s c
      → (row : Row) → Memᴰ row g.rows → Unnamed (committed g s) row.key → HasRow r row × HasRow c.register row
  pub absent_stay : (r t : Bytes) (g : Register) (s : Sheet) (c : Closing) → Gives r t g s c
      → (k : ℕ) → present g k ≡ false → Unnamed (committed g s) k → Absent (next_rows g s) k
  -- So a call of close that answers success left what closing gives, in the lengths that it answers,
  pub closing_writes : (r t next verdicts : Bytes) (i j : ℕ) → CloseCall r t (lengths i j) next verdicts
      → (i ≡ length (take i next)) × (j ≡ length (take j verdicts))
      × ((g : Register) × (s : Sheet) × Gives r t g s (record { register = take i next; verdicts = take j verdicts }))
  -- and one that answers a refusal answers the foremost that applies, and left both buffers as they were.
  pub closing_refuses : (r t next verdicts : Bytes) (x : Refusal) (c : CloseCall r t (Err x) next verdicts)
      → Foremost (to_close r t (length c.lent_next) (length c.lent_verdicts)) x × (next ≡ c.lent_next) × (verdicts ≡ c.lent_verdicts)
  -- Asked of any closing: who keeps the promise of close meets the demand, and who meets it keeps the promise.
  pub keeps_meets : (c : Closer) → Keeps c → Demand2 c
  pub meets_keeps : (c : Closer) → Demand2 c → Keeps c
  -- The same sheet closed again on its result is refused with 4, and so is every sheet on snapshot 4,294,967,295.
  pub closed_again : (r t : Bytes) (n m : ℕ) (c : Closing) → close_outcome r t n m ≡ done c → (n' m' : ℕ) → close_outcome c.register t n' m' ≡ refused 4
  pub none_follows : (r t : Bytes) (n m : ℕ) (g : Register) (s : Sheet) → read_register r ≡ Some g → read_sheet t ≡ Some s → g.snapshot ≡ 4294967295
      → close_outcome r t n m ≡ refused 4
  -- Registers read back as written, and have one encoding.
  pub register_reads_back : (g : Register) → sound_register g ≡ true → read_register (register_bytes g) ≡ Some g
  pub register_one_encoding : (a b : Bytes) (g : Register) → read_register a ≡ Some g → read_register b ≡ Some g → a ≡ b
  -- So do sheets.
  pub sheet_reads_back : (s : Sheet) → sound_sheet s ≡ true → read_sheet (sheet_bytes s) ≡ Some s
  pub sheet_one_encoding : (a b : Bytes) (s : Sheet) → read_sheet a ≡ Some s → read_sheet b ≡ Some s → a ≡ b

-- DEMAND 3: however the offers of one epoch are dealt over sheets, repeated, ordered and joined, the final sheet is byte for byte the one
-- that Gathering defines from the distinct offers; so all depots reach the same verdicts and register, or the same refusal.
pub record ThirdDemand : Type 0 where
  -- However they are dealt: a tree of calls of open, put, notice and join, of any shape, on sheets opened or given. Where the last call
  -- answers success, it left the bytes of the sheet that Gathering defines from the offers, and answered their length.
  pub final_sheet : (t : Tree) (n : ℕ) (after : Bytes) → Called t (Ok n) after → (n ≡ length (sheet_bytes (gathered_in t))) × (take n after ≡ sheet_bytes (gathered_in t))
  -- It does, if epoch and roster are one throughout and such that a sheet can have them, the offers are well-formed and of masters in the
  -- roster, and each buffer is at least 9,240 long: gathering never gets stuck.
  pub never_refused : (e r : ℕ) → Head e r → (t : Tree) (a : Answer) (after : Bytes) → FairTree e r t → Called t a after → a ≡ Ok (length (sheet_bytes (gathered_in t)))
  pub never_stuck : (e r : ℕ) → Head e r → (t : Tree) → FairTree e r t → ends paper t ≡ done (sheet_bytes (gathered_in t))
  -- And only then.
  pub only_fair : (t : Tree) (b : Bytes) → ends paper t ≡ done b → Head (epoch_of t) (roster_of t) × FairTree (epoch_of t) (roster_of t) t
  -- An offer is so just when putting it into the freshly opened sheet is not refused.
  pub opened_fresh : (e r : ℕ) → Head e r → open_outcome e r sheet_room ≡ done (sheet_bytes (empty_sheet e r))
  pub good_set_lem : (e r : ℕ) → Head e r → (sen : ℕ) (csn : Number 8) (b : Bytes)
      → JustWhen (GoodSet e r sen csn.value b) ((c : Bytes) × (put_outcome (sheet_bytes (empty_sheet e r)) e sen csn.value b sheet_room ≡ done c))
  pub good_notice_lem : (e r : ℕ) → Head e r → (m n : ℕ)
      → JustWhen (GoodNotice e r m n) ((c : Bytes) × (notice_outcome (sheet_bytes (empty_sheet e r)) e m n sheet_room ≡ done c))
  -- The sheet that Gathering defines: where all sheets were opened, or none that was given is spoiled, the gathered sheet of all offers;
  pub from_opened : (t : Tree) → all_opened t ≡ true → spoiled_in t ≡ false
  pub from_offers : (t : Tree) → spoiled_in t ≡ false → gathered_in t ≡ gathered (epoch_of t) (roster_of t) (offers_in t)
  -- from the distinct offers: repeats and order make no difference.
  pub distinct_offers : (e r : ℕ) (xs ys : List Offer) → Sub xs ys → Sub ys xs → gathered e r xs ≡ gathered e r ys
  -- A sheet that is given is the sheet of its own offers, or it is spoiled; and spoiled is final.
  pub given_sheet : (s : Sheet) → sound_sheet s ≡ true → s.spoiled ≡ false → gathered s.epoch s.roster (offers_of s) ≡ s
  pub given_spoiled : (s : Sheet) → sound_sheet s ≡ true → s.spoiled ≡ true → s ≡ spoiled_sheet s.epoch s.roster
  pub spoiled_is_final : (u t : Tree) (b : Bytes) → Within u t → ends paper u ≡ done (sheet_bytes (spoiled_sheet (epoch_of u) (roster_of u))) → ends paper t ≡ done b
      → b ≡ sheet_bytes (spoiled_sheet (epoch_of u) (roster_of u))
  -- So all depots end in the same bytes,
  pub same_bytes : (e r : ℕ) → Head e r → (t u : Tree) → FairTree e r t → FairTree e r u → SameOffers t u → (b : Bytes) × (ends paper t ≡ done b) × (ends paper u ≡ done b)
  pub same_left : (t u : Tree) (n m : ℕ) (held other : Bytes) → Called t (Ok n) held → Called u (Ok m) other
      → epoch_of t ≡ epoch_of u → roster_of t ≡ roster_of u → SameOffers t u → (n ≡ m) × (take n held ≡ take m other)
  -- and reach the same verdicts and register, or the same refusal, each with buffers of its own that are long enough.
  pub same_closing : (e r : ℕ) → Head e r → (t u : Tree) → FairTree e r t → FairTree e r u → SameOffers t u
      → (g : Bytes) (n m n' m' : ℕ) → LongEnough n m → LongEnough n' m'
      → (a : Bytes) × (b : Bytes) × (ends paper t ≡ done a) × (ends paper u ≡ done b) × (close_outcome g a n m ≡ close_outcome g b n' m')
  pub same_closed : (t u : Tree) (n m : ℕ) (held other : Bytes) → Called t (Ok n) held → Called u (Ok m) other
      → epoch_of t ≡ epoch_of u → roster_of t ≡ roster_of u → SameOffers t u
      → (r next verdicts next' verdicts' : Bytes) (a b : ClosedAnswer) (c : CloseCall r (take n held) a next verdicts) (d : CloseCall r (take m other) b next' verdicts')
      → Roomy c → Roomy d → (a ≡ b) × (written_next a next ≡ written_next b next') × (written_verdicts a verdicts ≡ written_verdicts b verdicts')

-- THE VISIT DESK (document 02, L2): clerks type kind, tag and value; the open set is filled where it stands, kept in key order, then offered to
-- the depot's sheet, which empties it unless refused.
pub record TheDesk : Type 0 where
  -- The open set reads back as written, has one encoding, and the empty one is all zero.
  pub open_reads_back : (rs : List Record) → sound_open rs ≡ true → read_open (open_set_of rs) ≡ Some rs
  pub open_one_encoding : (o : OpenSet) (rs : List Record) → read_open o ≡ Some rs → (o ≡ open_set_of rs) × (sound_open rs ≡ true)
  pub open_empty : open_set_of [] ≡ empty_set
  -- Entering that is not refused adds exactly that record, in key order; and the records of a set, typed one by one in any order, are none of
  -- them refused and end in the same open set.
  pub adds_one : (o : OpenSet) (kind : ℕ) (tag : Bytes) (value : ℕ) (after : OpenSet) → enter_outcome o kind tag value ≡ done after → Enters o kind tag value after
  pub any_order : (rs ts : List Record) → sound_open rs ≡ true → Permᴰ rs ts → typed.enter_all ts empty_set ≡ done (open_set_of rs)
  -- Offering is put of its records, so demand 3's trees may hold a set that came through the desk; not refused, it leaves the open set empty.
  pub offer_is_put : (t : Tree) (n : ℕ) (held : Bytes) → Called t (Ok n) held → (o : OpenSet) (e sen : ℕ) (csn : Number 8) (before : Bytes) (a : Answer) (o' : OpenSet) (after : Bytes)
      → OfferPromise (offer_outcome o (take n held) e sen csn.value (length before)) o before a o' after → Called (put t e sen csn (offered_bytes o) (length before)) a after
  pub offer_gathers : (t : Tree) (n m : ℕ) (held : Bytes) → Called t (Ok n) held → (o : OpenSet) (rs : List Record) → read_open o ≡ Some rs → (e sen : ℕ) (csn : Number 8) (before : Bytes)
      (o' : OpenSet) (after : Bytes) → OfferPromise (offer_outcome o (take n held) e sen csn.value (length before)) o before (Ok m) o' after
      → (take m after ≡ sheet_bytes (gathered_in (put t e sen csn (records_bytes rs) (length before)))) × (o' ≡ empty_set)
  -- A right tag with one digit altered, or two unequal neighbouring digits exchanged, is no right tag, at any of the eleven places;
  pub one_altered : (t : Bytes) (p v : ℕ) → right_tag t ≡ true → p < 11 → (v ≡ get_or t p 0 → ⊥) → right_tag (set t p v) ≡ false
  pub neighbours_exchanged : (t : Bytes) (p : ℕ) → right_tag t ≡ true → suc p < 11 → (get_or t p 0 ≡ get_or t (suc p) 0 → ⊥) → right_tag (exchanged t p) ≡ false
  -- and a tag that is not right is refused with 11;
  pub wrong_tag : (o : OpenSet) (kind : ℕ) (tag : Bytes) (value : ℕ) → is_open_set o ≡ true → is_kind kind ≡ true → sound_value kind value ≡ true → right_tag tag ≡ false
      → enter_outcome o kind tag value ≡ refused 11
  -- the tag of a station's key has that key, two stations have two tags, and no station has two;
  pub tag_right : (k : ℕ) → right_tag (tag_of k) ≡ true
  pub key_of_tag_lem : (k : ℕ) → is_key k ≡ true → key_of_tag (tag_of k) ≡ Some k
  pub two_tags : (k j : ℕ) → is_key k ≡ true → is_key j ≡ true → tag_of k ≡ tag_of j → k ≡ j
  pub one_tag : (t : Bytes) (k : ℕ) → key_of_tag t ≡ Some k → t ≡ tag_of k
  -- and station 572 is tagged 00000005724.
  pub station_572 : (tag_of 572 ≡ tags.tag572) × (key_of_tag tags.tag572 ≡ Some 572)

-- THE WRONG VERSIONS that document 01 names, and two that L1 rules out: each demand, asked of any candidate, rejects them on an example.
pub record WrongVersions : Type 0 where
  -- Refusing always, or answering always alike: demand 2 rejects both on A and N.
  pub refusing_on_A : (c : Closer) → RefusesAlways c → Rejects c examples.A
  pub refusing_on_N : (c : Closer) → RefusesAlways c → Rejects c N
  pub refusing_always : (c : Closer) → RefusesAlways c → Demand2 c → ⊥
  pub alike_on_A_and_N : (c : Closer) → AnswersAlike c → wrong.AsksOn c examples.A → wrong.AsksOn c N → ⊥
  pub answering_alike : (c : Closer) → AnswersAlike c → Demand2 c → ⊥
  -- Doing nothing: demand 2 on A.
  pub nothing_on_A : (c : Closer) → DoesNothing c → Rejects c examples.A
  pub doing_nothing : (c : Closer) → DoesNothing c → Demand2 c → ⊥
  -- What L1 rules out, a row marked by a winner that was lost, the rule before it: demand 2 on C;
  pub losers_on_C : (c : Closer) → LosersStamp c → Rejects c examples.C
  pub losers_stamp : (c : Closer) → LosersStamp c → Demand2 c → ⊥
  -- and only the first row of a committed set marked: demand 2 on a set of three rows.
  pub first_on_three : (c : Closer) → FirstRowStamped c → Rejects c examples.three_rows
  pub first_row_stamped : (c : Closer) → FirstRowStamped c → Demand2 c → ⊥
  -- Always spoiled: demand 3 on G.
  pub spoiled_on_G : gatherers.AsksOn always_spoiled example_g → ⊥
  pub always_spoiled_lem : Demand3 always_spoiled → ⊥
  -- Gathering the first offer and then only repeating that sheet: demand 3 on A.
  pub first_offer_on_A : gatherers.AsksOn first_offer example_a → ⊥
  pub first_offer_lem : Demand3 first_offer → ⊥
  -- Counting deliveries as sets: demand 3 on G with notice 1.
  pub deliveries_on_G1 : gatherers.AsksOn counts_deliveries example_g1 → ⊥
  pub deliveries : Demand3 counts_deliveries → ⊥
  -- The operations of document 01 meet both.
  pub paper_closes : Demand2 closers.paper_closer
  pub paper_gathers : Demand3 paper

-- THE CLERK'S STARRED EXAMPLES hold, by computation
pub starred : examples.AllHold examples.table
starred = examples.every
