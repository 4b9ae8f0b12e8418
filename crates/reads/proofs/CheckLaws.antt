-- The outcome of the read check: what refuses it, and what it finds with one entry more.
use Rattle.std.proofs.Common.{ℕ, zero, suc, ◌⊎◌, ⊎_elim, ◌+◌, ◌<◌, ◌≤◌, ◌≡◌, refl, sym, ap, ap₂, ◌∙◌, Bool, true, false, List, [], ◌∷◌, ◌++◌, length, get_or, take, eqb, eq-eqb, ne_eqb, arith, take-suc, add-one, length-take-le, take_all, Option, None, Some, Ok, Err}
use Rattle.std.specs.Option.{option_or}
use Rattle.std.proofs.lemmas.Bool.Decides.{nat_tests}
use Rattle.rules.specs.declared.row.Read.{Read}
use Rattle.rules.specs.declared.answer.Reason.{Reason}
use Rattle.rules.specs.declared.answer.Failure.{Failure}
use Rattle.rules.specs.declared.answer.Refusal.{Refusal}
use Rattle.rules.specs.declared.answer.Refusal.TheVariants.{CheckIllFormed}
use Rattle.words.specs.Words.{Bytes}
use Rattle.rules.specs.Lists.{◌and◌, ◌or◌, any}
use Rattle.rules.specs.Register.{Register, register_in, read_register}
use Rattle.rules.specs.ReadCheck.{Finding, passes, fails, failing, finding_or, check_from}
use Rattle.rules.specs.Answers.{Checked, refusal_number}
use Rattle.rules.specs.Refused.{Outcome, refused, done, bad_check, check_reads}
use Rattle.rules.specs.Promises.{told_finding, CheckPromise}
use Rattle.laws.specs.RegisterLaws.{register_read, register_unread}
use Rattle.registers.specs.Views.{register_of}
use Rattle.reads.specs.declared.checking.Check.{Check}
use Rattle.reads.specs.declared.mode.Mode.{Mode}
use Rattle.reads.specs.declared.mode.Mode.TheVariants.{ReadCommitted, RepeatableRead, SnapshotIsolation}
use Rattle.reads.specs.Modes.{mode_number}
use Rattle.reads.specs.Entries.{finding_of}
use Rattle.reads.specs.Checks.{Opened, no_read}

-- ---- answers that keep the promise

pub refuses_check : (o : Outcome Finding) (x : Refusal) → o ≡ refused (refusal_number x) → CheckPromise o (Err x)
unfolding told_finding
refuses_check o x e = rw e (record { answered = refl })

pub finds : (o : Outcome Finding) (first : Option Failure) → o ≡ done (finding_of first) → CheckPromise o (Ok first)
unfolding told_finding
finds o None e = rw e (record { answered = refl })
finds o (Some f) e = rw e (record { answered = refl })

-- ---- a check that is asked for

-- refused, it is so whatever the entries are
pub refused_whole : (b : Bytes) (mode lsn : ℕ) (x : Refusal) → Opened b mode lsn (Err x) → (es : Option (List Read)) → CheckPromise (check_reads (read_register b) mode lsn es) (Err x)
refused_whole b mode lsn x h es =
    ⊎_elim
    (λ p. refuses_check _ x (rw (register_unread b p.1, p.0) (unfold check_reads in refl)))
    (λ q. refuses_check _ x (rw (register_read b q.1, q.0) (ten (register_in b) q.2 es)))
    h
  where
    ten : (g : Register) → mode < 1 ⊎ 3 < mode ⊎ g.snapshot < lsn → (es : Option (List Read)) → check_reads (Some g) mode lsn es ≡ refused 10
    ten g h None = unfold check_reads in refl
    ten g h (Some es) = unfold check_reads bad_check ◌and◌ ◌or◌ in grind (arith, nat_tests)

-- granted, what it tells of entries is told of the bytes
pub told_of_bytes : (b : Bytes) (mode lsn : ℕ) (c : Check) → Opened b mode lsn (Ok c) → (es : List Read) {a : Checked}
    → CheckPromise (check_reads (Some (register_of c.register)) (mode_number c.mode) c.lsn (Some es)) a → CheckPromise (check_reads (read_register b) mode lsn (Some es)) a
told_of_bytes b mode lsn c o es p = rw (← o.0, register_read c.register.bytes.now c.register.examined, ← o.1, ← o.2) p

-- and entries that are none are refused
pub no_entries : (b : Bytes) (mode lsn : ℕ) (c : Check) → Opened b mode lsn (Ok c) → CheckPromise (check_reads (read_register b) mode lsn None) (Err CheckIllFormed)
unfolding check_reads
no_entries b mode lsn c o = refuses_check _ CheckIllFormed (rw (← o.0, register_read c.register.bytes.now c.register.examined) refl)

-- ---- one entry more

-- the first of two findings
abbrev pub earlier : Finding → Finding → Finding
earlier passes f = f
earlier (fails i k r) f = fails i k r

any_more : {A : Type 0} (p : A → Bool) (xs : List A) (x : A) → any p (xs ++ x ∷ []) ≡ any p xs or p x
unfolding any ◌or◌
any_more p [] x = grind arith
any_more p (y ∷ ys) x = let h = any_more p ys x in grind arith

any_at : {A : Type 0} (p : A → Bool) (d : A) (xs : List A) (i : ℕ) → i < length xs → p (get_or xs i d) ≡ true → any p xs ≡ true
unfolding any ◌or◌
any_at p d [] i l e = absurd (omega arith)
any_at p d (x ∷ xs) zero l e = rw e
any_at p d (x ∷ xs) (suc i) l e = let h = any_at p d xs i (omega arith) e in grind arith

found_more : (g : Register) (mode lsn j : ℕ) (es : List Read) (e : Read)
    → check_from g mode lsn j (es ++ e ∷ []) ≡ earlier (check_from g mode lsn j es) (finding_or (failing g mode lsn e) (j + length es) e.key passes)
unfolding check_from
found_more g mode lsn j [] e = ap (λ (i : ℕ). finding_or (failing g mode lsn e) i e.key passes) (omega arith)
found_more g mode lsn j (x ∷ xs) e = go (failing g mode lsn x) (found_more g mode lsn (suc j) xs e)
  where
    go : (o : Option Reason) → check_from g mode lsn (suc j) (xs ++ e ∷ []) ≡ earlier (check_from g mode lsn (suc j) xs) (finding_or (failing g mode lsn e) (suc j + length xs) e.key passes)
        → finding_or o j x.key (check_from g mode lsn (suc j) (xs ++ e ∷ [])) ≡ earlier (finding_or o j x.key (check_from g mode lsn (suc j) xs)) (finding_or (failing g mode lsn e) (j + suc (length xs)) e.key passes)
    go None h = unfold finding_or in h ∙ ap (λ (i : ℕ). earlier (check_from g mode lsn (suc j) xs) (finding_or (failing g mode lsn e) i e.key passes)) (omega arith)
    go (Some r) h = unfold finding_or in refl

-- a mode's number is one of the documents'
mode_in : (m : Mode) → (1 ≤ mode_number m) × (mode_number m ≤ 3)
mode_in ReadCommitted = (omega arith, omega arith)
mode_in RepeatableRead = (omega arith, omega arith)
mode_in SnapshotIsolation = (omega arith, omega arith)

-- ---- the check of entries

module _ (c : Check) (es : List Read) where
  abbrev finding_at : ℕ → Finding
  finding_at i = check_from (register_of c.register) (mode_number c.mode) c.lsn 0 (take i es)

  abbrev outcome : Outcome Finding
  outcome = check_reads (Some (register_of c.register)) (mode_number c.mode) c.lsn (Some es)

  -- of the first i entries: no key is 0, and this is the first that fails
  pub record Seen (i : ℕ) (first : Option Failure) : Type 0 where
    pub keys : any (λ e. eqb e.key 0) (take i es) ≡ false
    pub found : finding_of first ≡ finding_at i

  pub none_seen : Seen 0 None
  unfolding any check_from
  none_seen = record { keys = refl; found = refl }

  pub too_many : 32 < length es → CheckPromise outcome (Err CheckIllFormed)
  unfolding check_reads bad_check ◌and◌ ◌or◌
  too_many h = refuses_check outcome CheckIllFormed (grind (arith, nat_tests))

  module _ (i : ℕ) (e : Read) (h : i < length es) (here : e ≡ get_or es i no_read) where
    one_longer : take (i + 1) es ≡ take i es ++ e ∷ []
    one_longer = rw (add-one i, take-suc es i no_read h) (ap (λ (x : Read). take i es ++ x ∷ []) (sym here))

    pub key_0 : e.key ≡ 0 → CheckPromise outcome (Err CheckIllFormed)
    unfolding check_reads bad_check ◌and◌ ◌or◌
    key_0 z =
        let bad = any_at (λ e. eqb e.key 0) no_read es i h (eq-eqb _ _ (ap (λ (x : Read). x.key) (sym here) ∙ z)) in
        refuses_check outcome CheckIllFormed (grind (arith, nat_tests))

    pub seen_more : (first this : Option Failure) → Seen i first → (e.key ≡ 0 → ⊥) → finding_of this ≡ finding_or (failing (register_of c.register) (mode_number c.mode) c.lsn e) i e.key passes
        → Seen (i + 1) (option_or first this)
    seen_more first this s z f = record {
      keys = rw (one_longer, any_more (λ e. eqb e.key 0) (take i es) e, s.keys) (unfold ◌or◌ in ne_eqb e.key 0 z);
      found =
          both first
          ∙ ap₂ earlier s.found (f ∙ ap (λ (k : ℕ). finding_or (failing (register_of c.register) (mode_number c.mode) c.lsn e) k e.key passes) place)
          ∙ sym (found_more (register_of c.register) (mode_number c.mode) c.lsn 0 (take i es) e)
          ∙ ap (check_from (register_of c.register) (mode_number c.mode) c.lsn 0) (sym one_longer);
    }
      where
        place : i ≡ 0 + length (take i es)
        place = omega (arith, length-take-le i es (omega arith))

        both : (a : Option Failure) → finding_of (option_or a this) ≡ earlier (finding_of a) (finding_of this)
        both None = refl
        both (Some x) = refl

  pub all_seen : (i : ℕ) (first : Option Failure) → Seen i first → length es ≤ i → length es ≤ 32 → CheckPromise outcome (Ok first)
  unfolding check_reads bad_check ◌and◌ ◌or◌
  all_seen i first s h n =
      let all : take i es ≡ es = take_all i es h in
      let keys : any (λ e. eqb e.key 0) es ≡ false = rw all at s.keys in
      let found : finding_of first ≡ check_from (register_of c.register) (mode_number c.mode) c.lsn 0 es = rw all at s.found in
      let mode = mode_in c.mode in
      let lsn = c.seen in
      finds outcome first (grind (arith, nat_tests))
