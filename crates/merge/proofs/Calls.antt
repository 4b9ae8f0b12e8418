-- What a caller's calls did: the last call of a tree answers the tree's outcome, depots' calls agree, and a call of close does what closing does.
use Rattle.std.specs.Prelude.{ℕ, ◌≡◌, refl, List, [], length, take}
use Rattle.std.proofs.Common.{sym, ◌∙◌, ap, subst, arith, take_all, Some, Ok, Err}
use Rattle.words.specs.Words.{Bytes}
use Rattle.rules.specs.declared.row.Record.{Record}
use Rattle.rules.specs.declared.desk.OpenSet.{OpenSet}
use Rattle.rules.specs.declared.answer.Refusal.{Refusal}
use Rattle.rules.specs.Answers.{Answer, ClosedAnswer, lengths, refusal_number}
use Rattle.rules.specs.Register.{Register}
use Rattle.rules.specs.Sheet.{Sheet, records_bytes, sheet_bytes}
use Rattle.rules.specs.OpenSet.{empty_set, read_open, offered_bytes}
use Rattle.rules.specs.Refused.{Outcome, refused, done, Closing, open_outcome, put_outcome, notice_outcome, join_outcome, close_outcome, offer_outcome}
use Rattle.rules.specs.Promises.{Promise, OfferPromise}
use Rattle.rules.specs.Applies.{to_close, Foremost}
use Rattle.laws.specs.GatherSound.{Head}
use Rattle.laws.specs.NotRefused.{refused_not}
use Rattle.laws.specs.Exactly.{open_exactly, put_exactly, notice_exactly, join_exactly, close_exactly, offer_exactly}
use Rattle.laws.specs.Kept.{Numbered, numbered, refused_foremost, written, kept_done, kept_length, kept_lengths, kept_refused, kept_done_closing, kept_refused_closing, kept_wrote_closing, kept_refuses_closing, kept_offered}
use Rattle.laws.specs.OpenSets.{offers_own}
use Rattle.laws.specs.Trees.{Number, Tree, put, paper, and_then, ends, epoch_of, roster_of, gathered_in}
use Rattle.laws.specs.Demand3.{demand_3}
use Rattle.laws.specs.FairTrees.{FairTree}
use Rattle.laws.proofs.NeverStuck.{never_stuck}
use Rattle.laws.specs.SameBytes.{SameOffers, same_ended}
use Rattle.laws.specs.SameClosing.{same_ended_closing}
use Rattle.laws.specs.ClosingWrites.{Gives, closing_writes}
use Rattle.merge.specs.Calls.{Called, opens, puts, notices, joins, begins, AnsweredBy, CloseCall, Roomy, written_next, written_verdicts}

-- ---- the calls of a tree do what the tree says

kept_tells : (o : Outcome Bytes) → Numbered o → {before after : Bytes} (a : Answer) → Promise o before a after → AnsweredBy o a after
kept_tells o h (Ok n) p = kept_done o h p
kept_tells o h (Err x) p = (kept_refused o p).0

-- THE LAST CALL OF A TREE ANSWERS THE TREE'S OUTCOME
pub calls_tell : {t : Tree} {a : Answer} {after : Bytes} → Called t a after → AnsweredBy (ends paper t) a after
unfolding ends and_then
calls_tell (opens e r before {a} p) = kept_tells (open_outcome e.value r.value (length before)) (numbered (open_exactly e.value r.value (length before))) a p
calls_tell (puts {t} {n} {held} c e sen csn b before {a} {after} p) =
    subst (λ (o : Outcome Bytes). AnsweredBy (and_then o (λ s. put_outcome s e sen csn.value b (length before))) a after) (sym (calls_tell c))
    (kept_tells (put_outcome (take n held) e sen csn.value b (length before)) (numbered (put_exactly (take n held) e sen csn.value b (length before))) a p)
calls_tell (notices {t} {n} {held} c e m k before {a} {after} p) =
    subst (λ (o : Outcome Bytes). AnsweredBy (and_then o (λ s. notice_outcome s e m k (length before))) a after) (sym (calls_tell c))
    (kept_tells (notice_outcome (take n held) e m k (length before)) (numbered (notice_exactly (take n held) e m k (length before))) a p)
calls_tell (joins {t} {u} {n} {m} {held} {other} c d before {a} {after} p) =
    subst (λ (o : Outcome Bytes). AnsweredBy (and_then o (λ x. and_then (ends paper u) (λ y. join_outcome x y (length before)))) a after) (sym (calls_tell c))
    (subst (λ (o : Outcome Bytes). AnsweredBy (and_then o (λ y. join_outcome (take n held) y (length before))) a after) (sym (calls_tell d))
    (kept_tells (join_outcome (take n held) (take m other) (length before)) (numbered (join_exactly (take n held) (take m other) (length before))) a p))
calls_tell (begins b g) = ap done (sym (take_all (length b) b (omega arith)))

-- ---- what a caller has in its buffers

-- the length that a call answered is that of what it wrote
calls_length : {t : Tree} {n : ℕ} {after : Bytes} → Called t (Ok n) after → n ≡ length (take n after)
calls_length (opens e r before p) = kept_length (open_outcome e.value r.value (length before)) (numbered (open_exactly e.value r.value (length before))) p
calls_length (puts {n} {held} c e sen csn b before p) =
    kept_length (put_outcome (take n held) e sen csn.value b (length before)) (numbered (put_exactly (take n held) e sen csn.value b (length before))) p
calls_length (notices {n} {held} c e m k before p) =
    kept_length (notice_outcome (take n held) e m k (length before)) (numbered (notice_exactly (take n held) e m k (length before))) p
calls_length (joins {n} {m} {held} {other} c d before p) =
    kept_length (join_outcome (take n held) (take m other) (length before)) (numbered (join_exactly (take n held) (take m other) (length before))) p
calls_length (begins b g) = ap length (sym (take_all (length b) b (omega arith)))

-- A CALL THAT ANSWERED SUCCESS LEFT THE GATHERED SHEET'S BYTES, and answered their length
pub calls_gather : {t : Tree} {n : ℕ} {after : Bytes} → Called t (Ok n) after → (n ≡ length (sheet_bytes (gathered_in t))) × (take n after ≡ sheet_bytes (gathered_in t))
calls_gather {t} {n} {after} c = let w = demand_3 t (take n after) (calls_tell c) in (calls_length c ∙ ap length w, w)

-- WHERE EPOCH, ROSTER, OFFERS AND BUFFERS ARE FAIR, NO CALL IS REFUSED
pub calls_never_refused : (e r : ℕ) → Head e r → (t : Tree) (a : Answer) (after : Bytes) → FairTree e r t → Called t a after → a ≡ Ok (length (sheet_bytes (gathered_in t)))
calls_never_refused e r h t (Ok n) after f c = ap Ok (calls_gather c).0
calls_never_refused e r h t (Err x) after f c = absurd (refused_not (sym (calls_tell c) ∙ never_stuck e r h t f))

-- TWO DEPOTS' CALLS with one epoch, one roster and the same distinct offers left the same bytes
pub depots_same : {t u : Tree} {n m : ℕ} {held other : Bytes} → Called t (Ok n) held → Called u (Ok m) other
    → epoch_of t ≡ epoch_of u → roster_of t ≡ roster_of u → SameOffers t u → (n ≡ m) × (take n held ≡ take m other)
depots_same {t} {u} {n} {m} {held} {other} p q e f h =
    let w = same_ended t u (take n held) (take m other) (calls_tell p) (calls_tell q) e f h in
    (calls_length p ∙ ap length w ∙ sym (calls_length q), w)

-- ---- a set that came through the desk

-- an offer of the open set is a call of put with its records: the calls of a tree may come through the desk
pub offer_is_put : {t : Tree} {n : ℕ} {held : Bytes} → Called t (Ok n) held → (o : OpenSet) (e sen : ℕ) (csn : Number 8) (before : Bytes) {a : Answer} {o' : OpenSet} {after : Bytes}
    → OfferPromise (offer_outcome o (take n held) e sen csn.value (length before)) o before a o' after → Called (put t e sen csn (offered_bytes o) (length before)) a after
unfolding offer_outcome
offer_is_put c o e sen csn before p = puts c e sen csn (offered_bytes o) before p.sheet

-- AN OFFER OF THE OPEN SET THAT ANSWERED SUCCESS left the gathered sheet with that set put, and the open set empty
pub offer_gathers : {t : Tree} {n m : ℕ} {held : Bytes} → Called t (Ok n) held → (o : OpenSet) (rs : List Record) → read_open o ≡ Some rs → (e sen : ℕ) (csn : Number 8) (before : Bytes)
    {o' : OpenSet} {after : Bytes} → OfferPromise (offer_outcome o (take n held) e sen csn.value (length before)) o before (Ok m) o' after
    → (take m after ≡ sheet_bytes (gathered_in (put t e sen csn (records_bytes rs) (length before)))) × (o' ≡ empty_set)
offer_gathers {t} {n} {m} {held} c o rs r e sen csn before {o'} {after} p =
    let w = (calls_gather (offer_is_put c o e sen csn before p)).1 in (
      w ∙ ap (λ (b : Bytes). sheet_bytes (gathered_in (put t e sen csn b (length before)))) (offers_own o rs r),
      kept_offered (offer_outcome o (take n held) e sen csn.value (length before)) (numbered (offer_exactly o (take n held) e sen csn.value (length before))) p,
    )

-- ---- a call of close

-- WHERE IT ANSWERED SUCCESS, closing of what its bytes read as gives what stands in the buffers, in the lengths that it answered
pub close_writes : {r t next verdicts : Bytes} {i j : ℕ} → CloseCall r t (lengths i j) next verdicts
    → (i ≡ length (take i next)) × (j ≡ length (take j verdicts))
    × ((g : Register) × (s : Sheet) × Gives r t g s (record { register = take i next; verdicts = take j verdicts }))
close_writes {r} {t} {next} {verdicts} {i} {j} c =
    let n = length c.lent_next in
    let m = length c.lent_verdicts in
    let h = numbered (close_exactly r t n m) in
    let l = kept_lengths (close_outcome r t n m) h c.kept in
    let e = kept_done_closing (close_outcome r t n m) h c.kept in
    let w = closing_writes r t n m (record { register = take i next; verdicts = take j verdicts }) e in
    (l.0, l.1, (w.0, w.1, record { reads_register = w.2; reads_sheet = w.3; next_room = n; room = m; is_done = e }))

-- WHERE IT ANSWERED A REFUSAL, that is the foremost that applies, and both buffers are as they were
pub close_refuses : {r t next verdicts : Bytes} {x : Refusal} (c : CloseCall r t (Err x) next verdicts)
    → Foremost (to_close r t (length c.lent_next) (length c.lent_verdicts)) x × (next ≡ c.lent_next) × (verdicts ≡ c.lent_verdicts)
close_refuses {r} {t} c =
    let n = length c.lent_next in
    let m = length c.lent_verdicts in
    let k = kept_refused_closing (close_outcome r t n m) c.kept in
    (refused_foremost (close_exactly r t n m) k.0, k.1, k.2)

-- what a call of close is known to have done, by its outcome
written_by : {r t next verdicts : Bytes} {a : ClosedAnswer} (c : CloseCall r t a next verdicts) (k : Closing)
    → close_outcome r t (length c.lent_next) (length c.lent_verdicts) ≡ done k
    → (a ≡ lengths (length k.register) (length k.verdicts)) × (written_next a next ≡ k.register) × (written_verdicts a verdicts ≡ k.verdicts)
written_by {r} {t} {next} {verdicts} c k e =
    let w = kept_wrote_closing (close_outcome r t (length c.lent_next) (length c.lent_verdicts)) e c.kept in (
      w.0,
      ap (λ (z : ClosedAnswer). written_next z next) w.0 ∙ sym (written c.lent_next k.register _ refl w.1),
      ap (λ (z : ClosedAnswer). written_verdicts z verdicts) w.0 ∙ sym (written c.lent_verdicts k.verdicts _ refl w.2),
    )

-- and where it is refused
refused_by : {r t next verdicts : Bytes} {a : ClosedAnswer} (c : CloseCall r t a next verdicts) (x : Refusal)
    → close_outcome r t (length c.lent_next) (length c.lent_verdicts) ≡ refused (refusal_number x)
    → (a ≡ Err x) × (written_next a next ≡ []) × (written_verdicts a verdicts ≡ [])
refused_by {r} {t} {next} {verdicts} c x e =
    let w = (kept_refuses_closing (close_outcome r t (length c.lent_next) (length c.lent_verdicts)) e c.kept).0 in
    (w, ap (λ (z : ClosedAnswer). written_next z next) w, ap (λ (z : ClosedAnswer). written_verdicts z verdicts) w)

-- calls of close with one outcome are answered alike, and write the same
alike : {r t u next verdicts next' verdicts' : Bytes} {a b : ClosedAnswer} (c : CloseCall r t a next verdicts) (d : CloseCall r u b next' verdicts')
    → close_outcome r t (length c.lent_next) (length c.lent_verdicts) ≡ close_outcome r u (length d.lent_next) (length d.lent_verdicts)
    → (a ≡ b) × (written_next a next ≡ written_next b next') × (written_verdicts a verdicts ≡ written_verdicts b verdicts')
alike {r} {t} {u} {next} {verdicts} {next'} {verdicts'} {a} {b} c d e =
    go (close_outcome r u (length d.lent_next) (length d.lent_verdicts)) e refl
  where
    go : (o : Outcome Closing) → close_outcome r t (length c.lent_next) (length c.lent_verdicts) ≡ o
        → close_outcome r u (length d.lent_next) (length d.lent_verdicts) ≡ o
        → (a ≡ b) × (written_next a next ≡ written_next b next') × (written_verdicts a verdicts ≡ written_verdicts b verdicts')
    go (done k) p q =
        let v = written_by c k p in
        let w = written_by d k q in
        (v.0 ∙ sym w.0, v.1 ∙ sym w.1, v.2 ∙ sym w.2)
    go (refused i) p q =
        let x = (close_exactly r t (length c.lent_next) (length c.lent_verdicts)).only_when i p in
        let v = refused_by c x.0 (p ∙ ap refused x.1) in
        let w = refused_by d x.0 (q ∙ ap refused x.1) in
        (v.0 ∙ sym w.0, v.1 ∙ sym w.1, v.2 ∙ sym w.2)

-- TWO DEPOTS' CALLS OF CLOSE on one register, after such calls and in buffers of any lengths that are long enough: they are answered alike,
-- with the same register and verdicts or the same refusal
pub depots_alike : {t u : Tree} {n m : ℕ} {held other : Bytes} → Called t (Ok n) held → Called u (Ok m) other
    → epoch_of t ≡ epoch_of u → roster_of t ≡ roster_of u → SameOffers t u
    → {r next verdicts next' verdicts' : Bytes} {a b : ClosedAnswer} (c : CloseCall r (take n held) a next verdicts) (d : CloseCall r (take m other) b next' verdicts')
    → Roomy c → Roomy d → (a ≡ b) × (written_next a next ≡ written_next b next') × (written_verdicts a verdicts ≡ written_verdicts b verdicts')
depots_alike {t} {u} {n} {m} {held} {other} p q e f h {r} c d x y =
    alike c d
    (same_ended_closing t u (take n held) (take m other) (calls_tell p) (calls_tell q) e f h
    r (length c.lent_next) (length c.lent_verdicts) (length d.lent_next) (length d.lent_verdicts) x y)
