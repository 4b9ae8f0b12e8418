-- Document 01, 'Closing': which sets are fit, who wins each key, the verdicts, and who commits.
use Rattle.std.specs.Prelude.{ℕ, Bool, true, false, not, List, map, get_or, leb, eqb, if◌then◌else◌, Option, None, Some}
use Rattle.rules.specs.declared.mark.Mark.{Mark}
use Rattle.rules.specs.declared.row.Record.{Record}
use Rattle.rules.specs.declared.answer.Verdict.{Verdict}
use Rattle.rules.specs.declared.answer.Verdict.TheVariants.{Commit, Lost, Unfit}
use Rattle.rules.specs.Lists.{◌and◌, ◌or◌, all, any, keep, first}
use Rattle.rules.specs.Numbers.{mark_of, precedes}
use Rattle.rules.specs.Register.{run_register, Register}
use Rattle.rules.specs.Sheet.{run_sheet, WriteSet, Sheet, no_notice, insert, masters, in_roster, sets_of}

-- a master has a notice, and as many sets as it says
unfoldable pub sent : Sheet → ℕ → Bool
sent s m = not (eqb (get_or s.notices m no_notice) no_notice) and leb (get_or s.notices m no_notice) (sets_of m s.sets)

-- every master of the roster has sent all its sets
unfoldable pub complete : Sheet → Bool
complete s = all (λ m. not (in_roster s.roster m) or sent s m) masters

-- the register has a row of this key
unfoldable pub present : Register → ℕ → Bool
present g k = any (λ r. eqb r.key k) g.rows

-- an insert names an absent key, a change or a delete a present one
unfoldable pub fit_record : Register → Record → Bool
fit_record g r = if eqb r.kind insert then not (present g r.key) else present g r.key

-- every change and delete names a present key, and every insert an absent one
unfoldable pub fit : Register → WriteSet → Bool
fit g w = all (fit_record g) w.records

-- a record of the set names the key
unfoldable pub names : WriteSet → ℕ → Bool
names w k = any (λ r. eqb r.key k) w.records

-- a fit set claims all its keys, an unfit one nothing
unfoldable pub claims : Register → WriteSet → ℕ → Bool
claims g w k = fit g w and names w k

-- the sets that claim a key
unfoldable pub claimants : Register → Sheet → ℕ → List WriteSet
claimants g s k = keep (λ w. claims g w k) s.sets

-- the mark that a set of the sheet gives
abbrev pub mark_in : Sheet → WriteSet → Mark
mark_in s w = mark_of s.epoch w.sen w.csn

-- w precedes all others of a list
unfoldable pub foremost : Sheet → List WriteSet → WriteSet → Bool
foremost s ws w = all (λ v. eqb v.csn w.csn or precedes (mark_in s w) (mark_in s v)) ws

-- WHO WINS A KEY: the claimant that precedes all others
unfoldable pub winner : Register → Sheet → ℕ → Option WriteSet
winner g s k = first (foremost s (claimants g s k)) (claimants g s k)

-- the winner, if there is one, is w: csns of a sheet ascend, so the csn tells the set
unfoldable pub is_set : WriteSet → Option WriteSet → Bool
is_set w None = false
is_set w (Some v) = eqb v.csn w.csn

-- w is the winner of a key
unfoldable pub wins : Register → Sheet → WriteSet → ℕ → Bool
wins g s w k = is_set w (winner g s k)

-- the first record found wrong; keys ascend, so it has the smallest such key
unfoldable pub first_wrong : Register → WriteSet → Option Record
first_wrong g w = first (λ r. not (fit_record g r)) w.records

-- the first record whose key the set does not win; it too has the smallest such key
unfoldable pub first_lost : Register → Sheet → WriteSet → Option Record
first_lost g s w = first (λ r. not (wins g s w r.key)) w.records

-- unfit where a record is wrong, lost where a key is, else committed
unfoldable pub judged : Option Record → Option Record → Verdict
judged (Some r) l = Unfit r.key
judged None (Some r) = Lost r.key
judged None None = Commit

-- THE VERDICT ON A SET
unfoldable pub verdict : Register → Sheet → WriteSet → Verdict
verdict g s w = judged (first_wrong g w) (first_lost g s w)

-- the verdict is commit
unfoldable pub is_commit : Verdict → Bool
is_commit Commit = true
is_commit (Lost k) = false
is_commit (Unfit k) = false

-- WHO COMMITS: a fit set that wins all its keys
unfoldable pub commits : Register → Sheet → WriteSet → Bool
commits g s w = is_commit (verdict g s w)

-- the sets that commit, in csn order
unfoldable pub committed : Register → Sheet → List WriteSet
committed g s = keep (commits g s) s.sets

-- THE VERDICTS, one a set, in csn order
unfoldable pub verdicts : Register → Sheet → List Verdict
verdicts g s = map (verdict g s) s.sets

-- opens all of these, for a proof by computation
unfoldable pub run_closing : Unit {0}
unfolding run_register run_sheet sent complete present fit_record fit names claims claimants foremost winner is_set wins first_wrong first_lost judged verdict is_commit commits committed verdicts
run_closing = tt
