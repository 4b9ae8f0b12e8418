-- The values that prove the auditor's page, specs/Demands.antt: a field for each sentence.
use Rattle.std.proofs.Common.{ap, ap₂, Option, Some}
use Rattle.rules.specs.Numbers.{master_of}
use Rattle.rules.specs.Register.{Register}
use Rattle.rules.specs.Sheet.{Sheet, read_sheet}
use Rattle.rules.specs.OpenSet.{offered_bytes}
use Rattle.rules.specs.Gathering.{Offer}
use Rattle.rules.specs.ReadCheck.{reads_of}
use Rattle.rules.specs.Refused.{put_outcome, notice_outcome, join_sheets, join_outcome, offer_to, offered_set, offered_notice, close_sheet, close_outcome, check_reads, reads_outcome, check_outcome, offer_outcome}
use Rattle.rules.specs.Settled as settled
use Rattle.laws.specs.RegisterLaws as register
use Rattle.laws.specs.SheetLaws as sheet
use Rattle.laws.specs.TagDetects as detects
use Rattle.laws.specs.Tags as tags
use Rattle.laws.specs.OpenSets as opened
use Rattle.laws.specs.Entering as entering
use Rattle.laws.specs.Entering.{Enters}
use Rattle.laws.specs.AnyOrder as typed
use Rattle.laws.specs.GatherLaws as gathering
use Rattle.laws.specs.OwnOffers as own
use Rattle.laws.specs.NeverStuck as stuck
use Rattle.laws.proofs.NeverStuck as goes_on
use Rattle.laws.specs.NeverStuck.{JustWhen}
use Rattle.laws.specs.Demand3 as dealt
use Rattle.laws.proofs.SameBytes as same
use Rattle.laws.proofs.SameClosing as closed_alike
use Rattle.laws.specs.Commits as committing
use Rattle.laws.specs.Commits.{Committed, VerdictSays}
use Rattle.laws.specs.Exactly as exactly
use Rattle.laws.specs.Exactly.{entries_of}
use Rattle.laws.specs.Kept as kept
use Rattle.laws.specs.ClosingWrites as writing
use Rattle.laws.specs.ClosingWrites.{WholeSet, NoneOfSet, Writes, Gives}
use Rattle.laws.specs.FirstFailing as reading
use Rattle.laws.specs.Closers as closers
use Rattle.laws.specs.Closers.{Closer, Demand2, Keeps}
use Rattle.laws.specs.WrongClosers as wrong
use Rattle.laws.specs.WrongClosers.{RefusesAlways, AnswersAlike, DoesNothing, N, Rejects, LosersStamp, FirstRowStamped}
use Rattle.laws.specs.Gatherers as gatherers
use Rattle.laws.specs.Gatherers.{Demand3, always_spoiled, first_offer, counts_deliveries, example_a, example_g, example_g1}
use Rattle.merge.specs.Examined as examined
use Rattle.merge.proofs.Calls as calls
use Rattle.merge.specs.Demands.{FirstDemand, SecondDemand, ThirdDemand, TheDesk, WrongVersions}

pub demand_1 : FirstDemand
unfolding close_outcome close_sheet check_outcome reads_outcome check_reads put_outcome notice_outcome offer_to join_outcome join_sheets offer_outcome
demand_1 = record {
  opens = exactly.open_exactly;
  puts = exactly.put_exactly;
  notices = exactly.notice_exactly;
  joins = exactly.join_exactly;
  closes = exactly.close_exactly;
  checks = exactly.check_exactly;
  checks_reads = exactly.reads_exactly;
  enters = exactly.enter_exactly;
  offers = exactly.offer_exactly;
  tags = exactly.tag_exactly;
  smaller_first = exactly.smaller_first;
  first_failing = λ g mode lsn es. reading.check_tells g mode lsn 0 es;
  close_examines_register = λ r t n m e. ap (λ (g : Option Register). close_sheet g (read_sheet t) n m) e;
  check_examines_register = λ r mode lsn ks cs e. ap (λ (g : Option Register). check_reads g mode lsn (reads_of ks cs)) e;
  reads_examines_register = λ r mode lsn es e. ap (λ (g : Option Register). check_reads g mode lsn (Some es)) e;
  close_examines_sheet = λ r t n m g e f. ap₂ (λ (a : Option Register) (b : Option Sheet). close_sheet a b n m) e f;
  put_examines_sheet = λ s e sen csn b room h. ap (λ (a : Option Sheet). offer_to a (offered_set e sen csn b) e (master_of csn) room) h;
  notice_examines_sheet = λ s e m n room h. ap (λ (a : Option Sheet). offer_to a (offered_notice e m n) e m room) h;
  join_examines_first = λ a b room e. ap (λ (x : Option Sheet). join_sheets x (read_sheet b) room) e;
  join_examines_second = λ a b room s e f. ap₂ (λ (x y : Option Sheet). join_sheets x y room) e f;
  put_examines_set = λ b e sen csn rs room s h k. ap₂ (λ (a : Option Sheet) (o : Option Offer). offer_to a o e (master_of csn) room) h k;
  notice_examines_notice = λ b e m n room s h k. ap₂ (λ (a : Option Sheet) (o : Option Offer). offer_to a o e m room) h k;
  enter_examines_set = entering.no_open_set;
  offer_examines_sheet = λ o s e sen csn room h. ap (λ (a : Option Sheet). offer_to a (offered_set e sen csn (offered_bytes o)) e (master_of csn) room) h;
  offer_examines_set = examined.offer_examines;
  success_tells = λ q o result before after n e p. (kept.kept_done o (kept.numbered e) p, kept.kept_length o (kept.numbered e) p, kept.kept_after o p);
  closing_success_tells = λ q o result next verdicts next' verdicts' i j e p.
      let l = kept.kept_lengths o (kept.numbered e) p in
      let a = kept.kept_after_closing o p in
      (kept.kept_done_closing o (kept.numbered e) p, l.0, a.0, l.1, a.1);
  pass_tells = λ q o result e p. kept.kept_pass o (kept.numbered e) p;
  failure_tells = λ o i k reason p. kept.kept_fails o p;
  added_tells = λ q o result before after e p. kept.kept_added o (kept.numbered e) p;
  offered_tells = λ q o result before after out out' n e p.
      let s = p.sheet in
      (kept.kept_done o (kept.numbered e) s, kept.kept_length o (kept.numbered e) s, kept.kept_after o s, kept.kept_offered o (kept.numbered e) p);
  refusal_tells = λ q o result before after x e p. let k = (kept.kept_refused o p).0 in (k, kept.refused_foremost e k);
  closing_refusal_tells = λ q o result next verdicts next' verdicts' x e p. let k = (kept.kept_refused_closing o p).0 in (k, kept.refused_foremost e k);
  check_refusal_tells = λ q o result x e p. let k = kept.kept_refused_check o p in (k, kept.refused_foremost e k);
  entering_refusal_tells = λ q o result before after x e p. let k = (kept.kept_refused_entering o p).0 in (k, kept.refused_foremost e k);
  offering_refusal_tells = λ q o result before after out out' x e p. let k = (kept.kept_refused_offering o p).0 in (k, kept.refused_foremost e k);
  settled = λ o before after after' a b p q. settled.settled o before p q;
  settled_closing = λ o next verdicts n n' v v' a b p q. settled.settled_closing o next verdicts p q;
  settled_check = λ o a b p q. settled.settled_check o p q;
  settled_entering = λ o before after after' a b p q. settled.settled_entering o before p q;
  settled_offering = λ o before after after' out out₁ out₂ a b p q. settled.settled_offering o before out p q;
  refusal_writes_nothing = λ o before after x p. (kept.kept_refused o p).1;
  refused_closing_writes_nothing = λ o next verdicts next' verdicts' x p. let k = kept.kept_refused_closing o p in (k.1, k.2);
  refused_entering_leaves = λ o before after x p. (kept.kept_refused_entering o p).1;
  refused_offering_leaves = λ o before after out out' x p. let k = kept.kept_refused_offering o p in (k.1, k.2);
}

pub demand_2 : SecondDemand
demand_2 = record {
  closing_gives = writing.closing_writes;
  verdicts_written = λ r t g s c h. (writing.gives_writes r t g s c h).verdict_bytes_lem;
  verdict_says = λ r t g s c h. (writing.gives_writes r t g s c h).verdict_says;
  next_register = λ r t g s c h. (writing.gives_writes r t g s c h).next_register;
  one_row_a_key = λ r t g s c h. (writing.gives_writes r t g s c h).one_row;
  one_winner = λ r t g s c h. (writing.gives_writes r t g s c h).winners;
  commits_just_when = committing.commits_iff;
  whole_or_none = λ r t g s c h. (writing.gives_writes r t g s c h).each_set;
  mark_changes = λ r t g s c h. (writing.gives_writes r t g s c h).mark_changes;
  loser_stamps_nothing = λ r t g s c h. (writing.gives_writes r t g s c h).losers;
  winner_marks = λ r t g s c h. (writing.gives_writes r t g s c h).marks;
  others_stay = λ r t g s c h. (writing.gives_writes r t g s c h).others_stay;
  bytes_stay = writing.bytes_stay;
  absent_stay = λ r t g s c h. (writing.gives_writes r t g s c h).absent_stay;
  closing_writes = λ r t next verdicts i j c. calls.close_writes c;
  closing_refuses = λ r t next verdicts x c. calls.close_refuses c;
  keeps_meets = closers.keeps_meets;
  meets_keeps = closers.settles;
  closed_again = closers.closed_again;
  none_follows = closers.none_follows;
  register_reads_back = register.read_written;
  register_one_encoding = register.one_encoding;
  sheet_reads_back = sheet.read_written;
  sheet_one_encoding = sheet.one_encoding;
}

pub demand_3 : ThirdDemand
demand_3 = record {
  final_sheet = λ t n after c. calls.calls_gather c;
  never_refused = calls.calls_never_refused;
  never_stuck = goes_on.never_stuck;
  only_fair = λ t b p. ((dealt.ended t b p).head, stuck.fair_ended t b p);
  opened_fresh = stuck.opens_fresh;
  good_set_lem = stuck.good_set_put;
  good_notice_lem = stuck.good_notice_put;
  from_opened = dealt.opened_unspoiled;
  from_offers = dealt.unspoiled;
  distinct_offers = gathering.same_offers;
  given_sheet = λ s e. own.own_offers s e;
  given_spoiled = own.own_spoiled;
  spoiled_is_final = dealt.stays_spoiled;
  same_bytes = same.same_bytes;
  same_left = λ t u n m held other p q e f h. calls.depots_same p q e f h;
  same_closing = closed_alike.same_closing;
  same_closed = λ t u n m held other p q e f h r next verdicts next' verdicts' a b c d x y. calls.depots_alike p q e f h c d x y;
}

pub the_desk : TheDesk
the_desk = record {
  open_reads_back = opened.open_written;
  open_one_encoding = opened.written_open;
  open_empty = opened.empty_open;
  adds_one = entering.enters;
  any_order = typed.any_order;
  offer_is_put = λ t n held c o e sen csn before a o' after p. calls.offer_is_put c o e sen csn before p;
  offer_gathers = λ t n m held c o rs r e sen csn before o' after p. calls.offer_gathers c o rs r e sen csn before p;
  one_altered = detects.one_altered;
  neighbours_exchanged = detects.neighbours_exchanged;
  wrong_tag = entering.wrong_tag;
  tag_right = tags.tag_right;
  key_of_tag_lem = tags.key_of_tag_lem;
  two_tags = tags.two_tags;
  one_tag = tags.one_tag;
  station_572 = tags.station_572;
}

pub wrong_versions : WrongVersions
wrong_versions = record {
  refusing_on_A = wrong.refusing_on_A;
  refusing_on_N = wrong.refusing_on_N;
  refusing_always = wrong.refusing_always_fails;
  alike_on_A_and_N = wrong.alike_on_A_and_N;
  answering_alike = wrong.answering_alike_fails;
  nothing_on_A = wrong.nothing_on_A;
  doing_nothing = wrong.doing_nothing_fails;
  losers_on_C = wrong.losers_on_C;
  losers_stamp = wrong.losers_stamp_fails;
  first_on_three = wrong.first_on_three;
  first_row_stamped = wrong.first_row_stamped_fails;
  spoiled_on_G = gatherers.spoiled_on_G;
  always_spoiled_lem = gatherers.always_spoiled_fails;
  first_offer_on_A = gatherers.first_offer_on_A;
  first_offer_lem = gatherers.first_offer_fails;
  deliveries_on_G1 = gatherers.deliveries_on_G1;
  deliveries = gatherers.deliveries_fail;
  paper_closes = closers.paper_closes;
  paper_gathers = gatherers.paper_meets;
}
