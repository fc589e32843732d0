-- What a report comes to: the failures of what was recorded are those that were counted, and what is launched may be told of.
use Rattle.std.proofs.Common.{◌≡◌, ℕ, zero, suc, ◌+◌, ◌-◌, ◌≤◌, Bool, true, false, cond, ◌&&◌, List, [], ◌∷◌, ◌++◌, take, Option, None, Some, Result, Ok, Err, refl, sym, ap, ◌∙◌, arith, subst}
use Rattle.std.specs.Prelude.{nat_lt, IfOk, IsErrAnd, count_by}
use Rattle.std.specs.List.{All}
use Rattle.std.proofs.lemmas.Bool.{false≢true}
use Rattle.std.proofs.lemmas.List.Elements.{All-head, All-push, All-tail}
use Rattle.farm_types.specs.declared.attempt.Attempt.{Attempt}
use Rattle.farm_types.specs.declared.dispatch.Candidate.{Candidate}
use Rattle.farm_types.specs.declared.entry.Entry.{Entry}
use Rattle.farm_types.specs.declared.limits.TheConstants.{BOOKINGS_EACH}
use Rattle.farm_types.specs.declared.refusal.Refusal.{Refusal}
use Rattle.farm_types.specs.Booking.{may_book}
use Rattle.farm_types.specs.Dispatch.{book_entry, plan_for, round_for, round_from}
use Rattle.farm_types.specs.Farm.{Farm, host_named}
use Rattle.farm_types.specs.Kept.{KeepsRows}
use Rattle.farm_types.specs.Run.{counted, counted_by}
use Rattle.farm_types.specs.Step.{after, at_moment, moment_of, refusal_of}
use Rattle.farm_lines.specs.Asked.{heard_entry}
use Rattle.farm_lines.specs.declared.limits.TheConstants.{LAUNCHES_EACH}
use Rattle.farm_lines.specs.declared.reply.Reply.{Reply}
use Rattle.farm_lines.specs.declared.reply.Reply.TheVariants as reply
use Rattle.farm_lines.specs.declared.report.Report.{Report}
use Rattle.farm_lines.specs.Transcript.{Answered, Mark, Plain, Memory, Store, StoreAfter, accepted_answer, marked_answer, report_answer, unless_memory}
use Rattle.line_answers.specs.LineAnswers.{Going, TakesReport, is_calm, reported, tells_memory}
use Rattle.line_answers.specs.declared.told.Taken.{Taken}
use Rattle.line_answers.specs.Told.{Tells}
use Rattle.farm_load.specs.declared.counts.Counts.{Counts}
use Rattle.farm_load.specs.declared.load_host.LoadHost.{LoadHost}
use Rattle.farm_load.specs.Loads.{failed_in, fails, launched_by, load_report, round_after}
use Rattle.farm_load.specs.Turns.{GoesOn, GoesSo, HasReported, IsFormedHost, TakesTurn, failures_told}
use Rattle.farm_load.proofs.LaunchLemmas.{AreLaunched, reported_launches}

-- ---- bookings have no completions

abbrev CountNone : List Entry → Type 0
CountNone [] = Unit {0}
CountNone (e ∷ es) = ((f : Farm) (moment : ℕ) → counted_by f moment e.act ≡ []) × CountNone es

round_counts_none : (left : ℕ) (f : Farm) (moment : ℕ) (cs : List Candidate) → CountNone (round_from left f moment cs)
round_counts_none left f moment [] = tt
round_counts_none left f moment (c ∷ cs) =
    by (nat_lt 0 left && may_book f c.slot c.host) (round_counts_none (left - 1) (after f (book_entry c moment)) moment cs) (round_counts_none left f moment cs)
  where
    by : (b : Bool) → CountNone (round_from (left - 1) (after f (book_entry c moment)) moment cs) → CountNone (round_from left f moment cs)
        → CountNone (cond b (book_entry c moment ∷ round_from (left - 1) (after f (book_entry c moment)) moment cs) (round_from left f moment cs))
    by true booked passed = (λ g m. refl, booked)
    by false booked passed = passed

front_counts_none : (k : ℕ) (es : List Entry) → CountNone es → CountNone (take k es)
front_counts_none zero es none = tt
front_counts_none (suc k) [] none = tt
front_counts_none (suc k) (e ∷ es) none = (none.0, front_counts_none k es none.1)

none_counted : (f : Farm) (es : List Entry) → CountNone es → counted f es ≡ []
none_counted f [] none = refl
none_counted f (e ∷ es) none =
    ap (λ (xs : List Attempt). xs ++ counted (after f e) es) (none.0 (at_moment f (moment_of f e.moment)) (moment_of f e.moment)) ∙ none_counted (after f e) es none.1

-- behind an entry they change nothing of what it counts
heard_alone : (n : ℕ) (f : Farm) (heard : Entry) (es : List Entry) → CountNone es → failed_in n f (heard ∷ es) ≡ failed_in n f (heard ∷ [])
heard_alone n f heard es none =
    ap (λ (xs : List Attempt). count_by (fails n) (counted_by (at_moment f (moment_of f heard.moment)) (moment_of f heard.moment) heard.act ++ xs))
    (none_counted (after f heard) es none)

-- ---- the failures of what was recorded, by each mark

module _ (n : ℕ) (f : Farm) (failing : ℕ) where
  -- those that were counted are those of the entries
  abbrev FailuresAre : Answered → Type 0
  FailuresAre answered = failures_told answered.reply failing ≡ failed_in n f answered.entries

  marked_failures : (host : ℕ) (report : Report) (heard : Entry) (round : List Entry) (mark : Mark) → CountNone round → is_calm mark ≡ true
      → failing ≡ failed_in n f (heard ∷ []) → FailuresAre (marked_answer f host report heard round mark)
  marked_failures host report heard round Plain none calm is = is ∙ sym (heard_alone n f heard round none)
  marked_failures host report heard round Store none calm is = refl
  marked_failures host report heard round (StoreAfter k) none calm is = is ∙ sym (heard_alone n f heard (take k round) (front_counts_none k round none))
  marked_failures host report heard round other none calm is = absurd (false≢true calm)

  accepted_failures : (report : Report) (moment : ℕ) (mark : Mark) (host : Option ℕ) → is_calm mark ≡ true → failing ≡ failed_in n f (heard_entry report moment ∷ [])
      → FailuresAre (accepted_answer f report moment mark host)
  accepted_failures report moment mark None calm is = refl
  accepted_failures report moment mark (Some host) calm is =
      marked_failures host report (heard_entry report moment) (round_for (after f (heard_entry report moment)) host moment) mark
      (round_counts_none BOOKINGS_EACH (after f (heard_entry report moment)) moment (plan_for (after f (heard_entry report moment)) host)) calm is

  answer_failures : (report : Report) (moment : ℕ) (mark : Mark) (why : Option Refusal) → is_calm mark ≡ true → failing ≡ failed_in n f (heard_entry report moment ∷ [])
      → FailuresAre (report_answer f report moment mark why)
  answer_failures report moment mark (Some why) calm is = refl
  answer_failures report moment mark None calm is = accepted_failures report moment mark (host_named f report.heard.host) calm is

  unless_failures : (mark : Mark) (answered : Answered) → FailuresAre answered → FailuresAre (unless_memory mark answered)
  unless_failures Memory answered are = refl
  unless_failures other answered are = are

  reported_failures : (report : Report) (moment : ℕ) (mark : Mark) → is_calm mark ≡ true → failing ≡ failed_in n f (heard_entry report moment ∷ [])
      → FailuresAre (reported f report moment mark)
  reported_failures report moment mark calm is =
      unless_failures mark (report_answer f report moment mark (refusal_of f (heard_entry report moment)))
      (answer_failures report moment mark (refusal_of f (heard_entry report moment)) calm is)

-- ---- a report

pub few_told : (reply : Reply) (failing : ℕ) → failing ≤ LAUNCHES_EACH → failures_told reply failing ≤ LAUNCHES_EACH
few_told (reply.Report told) failing few = few
few_told other failing few = omega arith

-- What was taken is counted.
module _ (n : ℕ) (f : Farm) (report : Report) (moment : ℕ) (new : Farm) (taken : Taken) (goes : Going) (failing told_failing : ℕ) (old counts : Counts)
    (takes : TakesReport f report moment new taken goes) (told_is : (reply : Reply) → Tells taken.told reply → told_failing ≡ failures_told reply failing) where
  abbrev answered : Answered
  answered = reported f report moment takes.mark

  goes_on : {E : Type 0} (result : Result (List Attempt) E) → failing ≡ failed_in n f (heard_entry report moment ∷ []) → failing ≤ LAUNCHES_EACH
      → taken.booked ≤ BOOKINGS_EACH → KeepsRows new → counts.attempts ≡ old.attempts + taken.booked → counts.failed ≡ old.failed + told_failing
      → IfOk result (λ launched. (reply : Reply) → Tells taken.told reply → launched ≡ launched_by reply)
      → IfOk result (λ _. (reply : Reply) → Tells taken.told reply → tells_memory reply ≡ false) → GoesOn n f old takes.mark answered result counts
  goes_on (Ok launched) failing_is few booked_few keeps attempts failed launched_is tells_none =
      let calm : is_calm takes.mark ≡ true = takes.calm (tells_none answered.reply takes.reply) in
      let here : told_failing ≡ failures_told answered.reply failing = told_is answered.reply takes.reply in
      let told : told_failing ≡ failed_in n f answered.entries = here ∙ reported_failures n f failing report moment takes.mark calm failing_is in
      let few : told_failing ≤ LAUNCHES_EACH = omega (arith, here, few_told answered.reply failing few) in
      let are : launched ≡ launched_by answered.reply = launched_is answered.reply takes.reply in
      let formed : AreLaunched launched = subst AreLaunched (sym are) (reported_launches f report moment takes.mark (subst KeepsRows takes.farm keeps)) in
      record {
        calm = calm;
        launched_are = are;
        few = formed.few;
        each = formed.each;
        counted =
            record {
              attempts = attempts ∙ ap (λ (k : ℕ). old.attempts + k) takes.booked;
              failed = failed ∙ ap (λ (k : ℕ). old.failed + k) told;
              attempts_few = omega (arith, attempts, booked_few);
              failed_few = omega (arith, failed, few);
            };
      }
  goes_on (Err e) failing_is few booked_few keeps attempts failed launched_is tells_none = tt

  pub has_reported : {E : Type 0} (since : GoesSo) → ((all done : List Entry) (failed : Bool) → goes all done failed → since done failed)
      → (result : Result (List Attempt) E) → failing ≡ failed_in n f (heard_entry report moment ∷ [])
      → failing ≤ LAUNCHES_EACH → taken.booked ≤ BOOKINGS_EACH → KeepsRows new → counts.attempts ≡ old.attempts + taken.booked
      → counts.failed ≡ old.failed + told_failing → IfOk result (λ launched. (reply : Reply) → Tells taken.told reply → launched ≡ launched_by reply)
      → IfOk result (λ _. (reply : Reply) → Tells taken.told reply → tells_memory reply ≡ false) → HasReported n f report moment old result new counts since
  has_reported since on result failing_is few booked_few keeps attempts failed launched_is tells_none =
      record {
        mark = takes.mark;
        may_stand = takes.may_stand;
        farm_is = takes.farm;
        recorder = on _ _ _ takes.keeper;
        goes_on = goes_on result failing_is few booked_few keeps attempts failed launched_is tells_none;
      }

-- memory ran out before anything was recorded
pub not_reported : {E : Type 0} (Q : E → Type 0) (n : ℕ) (f : Farm) (report : Report) (moment : ℕ) (old : Counts) (result : Result (List Attempt) E) (goes : GoesSo) → IsErrAnd result Q
    → goes [] false → HasReported n f report moment old result f old goes
not_reported Q n f report moment old (Ok launched) goes is stays = absurd is
not_reported Q n f report moment old (Err e) goes is stays =
    record { mark = Memory; may_stand = tt; farm_is = refl; recorder = stays; goes_on = tt }

-- ---- a turn

module _ {E T : Type 0} (n : ℕ) (f : Farm) (reports : ℕ) (h : LoadHost) (others : List LoadHost) (old counts : Counts) (launched : List Attempt) (x : T) (new : Farm)
    (hosts_now : List LoadHost) (goes : GoesSo)
    (r : HasReported {E = E} n f (load_report n (round_after reports) h) (round_after reports) old (Ok launched) new counts goes)
    (now : hosts_now ≡ others ++ record { name = h.name; launched = launched } ∷ []) where
  turned : All IsFormedHost (h ∷ others) → TakesTurn {T = T} {E = E} n f reports (h ∷ others) old (Ok x) new hosts_now counts goes
  turned formed =
      record {
        mark = r.mark;
        may_stand = r.may_stand;
        farm_is = r.farm_is;
        recorder = r.recorder;
        turns =
            record {
              calm = r.goes_on.calm;
              hosts_are = now ∙ ap (λ (xs : List Attempt). others ++ record { name = h.name; launched = xs } ∷ []) r.goes_on.launched_are;
              formed =
                  subst (All IsFormedHost) (sym now)
                  (All-push IsFormedHost others (record { name = h.name; launched = launched }) (All-tail IsFormedHost h others formed)
                  (record { name = (All-head IsFormedHost h others formed).name; few = r.goes_on.few; each = r.goes_on.each }));
              counted = r.goes_on.counted;
            };
      }

  -- the host that reported waits behind the others
  pub has_turned : (hosts : List LoadHost) → hosts ≡ h ∷ others → All IsFormedHost hosts → TakesTurn {T = T} {E = E} n f reports hosts old (Ok x) new hosts_now counts goes
  has_turned hosts is formed =
      subst (λ (hs : List LoadHost). TakesTurn {T = T} {E = E} n f reports hs old (Ok x) new hosts_now counts goes) (sym is)
      (turned (subst (All IsFormedHost) is formed))
