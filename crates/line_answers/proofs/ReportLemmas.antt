-- The answer to a report, by cases.
use Rattle.std.proofs.Common.{◌≡◌, ℕ, ◌<◌, arith, Bool, true, false, List, [], ◌∷◌, ◌++◌, length, take, refl, sym, ap, ◌∙◌, subst, Option, None, Some, Result, Ok, Err, IfOk, inl, inr}
use Rattle.std.proofs.Common.{true≢false}
use Rattle.std.proofs.lemmas.Bool.{false≢true}
use Rattle.std.proofs.lemmas.List.{take_all}
use Rattle.std.specs.Prelude.{is_some, ◌⊎◌}
use Rattle.dispatcher.specs.declared.walked.Walked.{Walked}
use Rattle.dispatcher.specs.Rounds.{EndsBy, IsRound, is_store_cut}
use Rattle.farm_types.specs.declared.entry.Act.{Act}
use Rattle.farm_types.specs.declared.entry.Act.TheVariants as act
use Rattle.farm_types.specs.declared.entry.Entry.{Entry}
use Rattle.farm_types.specs.declared.entry.HeardAct.{HeardAct}
use Rattle.farm_types.specs.declared.refusal.Refusal.{Refusal}
use Rattle.farm_types.specs.declared.dispatch.Cut.{Cut}
use Rattle.farm_types.specs.declared.dispatch.Cut.TheVariants as cut
use Rattle.farm_lines.specs.declared.reply.Reply.{Reply}
use Rattle.farm_lines.specs.declared.reply.Reply.TheVariants as reply
use Rattle.farm_lines.specs.declared.report.Report.{Report}
use Rattle.farm_lines.specs.declared.asked.Asked.TheVariants as asked
use Rattle.farm_types.specs.DependActs.{or_else}
use Rattle.farm_types.specs.Dispatch.{round_for}
use Rattle.farm_types.specs.Farm.{Farm, host_named}
use Rattle.farm_lines.specs.Reply.{reply_text, report_reply}
use Rattle.farm_types.specs.Run.{run_of}
use Rattle.farm_types.specs.Step.{refusal_of, after, host_refusal}
use Rattle.farm_lines.specs.Asked.{heard_entry}
use Rattle.farm_lines.specs.Transcript.{Mark, Plain, Memory, Store, CutAfter, StoreAfter, LatePlain, LateCut, LateStore, Answered, accepted_answer, is_store_mark, marked_answer, only_reply, report_answer, unless_memory}
use Rattle.dispatcher.specs.booking_recorder.specs.declared.refusal.CommitRefusal.{CommitRefusal}
use Rattle.dispatcher.specs.booking_recorder.specs.declared.refusal.CommitRefusal.TheVariants as refusal
use Rattle.dispatcher.specs.booking_recorder.specs.Faults.{is_by_store}
use Rattle.dispatcher.specs.recorder.specs.Recording.{ChangesNone, IsUnstored}
use Rattle.line_answers.specs.Entering.{is_hindrance}
use Rattle.line_answers.specs.LineAnswers.{AnswersReport, Going, Hears, MayCutRound, MayStore, TakesReport, TakesRound, bookings_in, is_calm, reported, tells_memory, unrecorded_reply}
use Rattle.line_answers.specs.Lines.{IsLineOf, IsLineOfOther, is_store_reply}
use Rattle.line_answers.specs.Told.{IsLineOfTold, Reports, Tells, is_report}
use Rattle.line_answers.specs.declared.told.ReportLine.{ReportLine}
use Rattle.line_answers.specs.declared.told.Told.{Told}
use Rattle.line_answers.specs.declared.told.Told.TheVariants as told
use Rattle.line_answers.specs.declared.told.Taken.{Taken}
use Rattle.line_answers.specs.Reports.{TellsHost}
use Rattle.line_answers.proofs.AnswerLemmas.{unrecorded}
use Rattle.line_answers.proofs.BookingLemmas.{booked_front, booked_whole}

-- what acts of a report tell
abbrev told_in : HeardAct → Act → HeardAct
told_in none (act.Heard heard) = heard
told_in none other = none

pub heard_same : (one other : HeardAct) → act.Heard one ≡ act.Heard other → one ≡ other
heard_same one other is = ap (told_in one) is

-- ---- its entry is recorded

-- where a report is recorded its host is told
pub tells_host : (f new : Farm) (report : Report) (moment : ℕ) (r : Result (Option ℕ) CommitRefusal) → Hears f (heard_entry report moment) r new
    → IfOk r (TellsHost (act.Heard report.heard))
tells_host f new report moment (Ok None) heard = heard.1
tells_host f new report moment (Ok (Some host)) heard = tt
tells_host f new report moment (Err why) heard = tt

-- ---- what is answered to it

-- a report that the farm takes is of a host that is there
pub host_of : (f : Farm) (report : Report) (moment : ℕ) (named : Option ℕ) → host_named f report.heard.host ≡ named → refusal_of f (heard_entry report moment) ≡ None
    → (host : ℕ) × (host_named f report.heard.host ≡ Some host)
host_of f report moment None is accepted =
    absurd (unknown (sym (ap (λ n. or_else (host_refusal f report.heard n) None) is) ∙ accepted))
  where
    unknown : {why : Refusal} → Some why ≡ None → ⊥
    unknown e = true≢false (ap is_some e)
host_of f report moment (Some host) is accepted = (host, is)

accepted_unless : (mark : Mark) (f : Farm) (host : ℕ) (report : Report) (heard : Entry) (round : List Entry) (answered : Answered)
    → answered ≡ marked_answer f host report heard round mark → unless_memory mark answered ≡ marked_answer f host report heard round mark
accepted_unless Memory f host report heard round answered is = refl
accepted_unless mark f host report heard round answered is = is

-- the farm accepts it: it is answered by what the mark says
pub accepted_is : (f : Farm) (report : Report) (moment host : ℕ) (mark : Mark) → refusal_of f (heard_entry report moment) ≡ None → host_named f report.heard.host ≡ Some host
    → unless_memory mark (report_answer f report moment mark (refusal_of f (heard_entry report moment)))
    ≡ marked_answer f host report (heard_entry report moment) (round_for (after f (heard_entry report moment)) host moment) mark
accepted_is f report moment host mark accepts named =
    accepted_unless mark f host report (heard_entry report moment) (round_for (after f (heard_entry report moment)) host moment)
    (report_answer f report moment mark (refusal_of f (heard_entry report moment)))
    (ap (report_answer f report moment mark) accepts ∙ ap (accepted_answer f report moment mark) named)

-- nothing was recorded, and this is replied
unchanged : (f : Farm) (report : Report) (moment : ℕ) (mark : Mark) (what : Reply) (taken : Taken) (goes : Going) → reported f report moment mark ≡ only_reply what → Tells taken.told what → taken.booked ≡ 0
    → (tells_memory what ≡ false → is_calm mark ≡ true) → MayStore f moment (asked.Report report) mark
    → goes (reported f report moment Plain).entries [] (is_store_mark mark) → TakesReport f report moment f taken goes
unchanged f report moment mark what taken goes is tells none calm may keeper = record {
  mark = mark;
  farm = sym (ap (λ (a : Answered). run_of f a.entries) is);
  reply = subst (λ (a : Answered). Tells taken.told a.reply) (sym is) tells;
  booked = none ∙ sym (ap (λ (a : Answered). bookings_in a.entries) is);
  calm = subst (λ (a : Answered). tells_memory a.reply ≡ false → is_calm mark ≡ true) (sym is) calm;
  may_stand = may;
  keeper = subst (λ (a : Answered). goes (reported f report moment Plain).entries a.entries (is_store_mark mark)) (sym is) keeper;
}

-- what is told of a report that wasn't recorded
other_tells : (taken : Taken) (what : Reply) → is_report what ≡ false → taken.told ≡ told.Other what → Tells taken.told what
other_tells taken what other is = subst (λ (t : Told). Tells t what) (sym is) (refl, other)

-- it wasn't recorded, and nothing else hindered it
pub unrecorded_report : (f new : Farm) (report : Report) (moment : ℕ) (why : CommitRefusal) (taken : Taken) (goes : Going)
    → is_hindrance why ≡ false → Hears f (heard_entry report moment) (Err why) new → taken.told ≡ told.Other (unrecorded_reply why) → taken.booked ≡ 0
    → goes (reported f report moment Plain).entries [] (is_by_store why) → TakesReport f report moment new taken goes
unrecorded_report f new report moment (refusal.Refused why) taken goes free heard is none keeper =
    subst (λ (g : Farm). TakesReport f report moment g taken goes) (sym heard.1)
    (unchanged f report moment Plain (reply.Refused why) taken goes (ap (report_answer f report moment Plain) heard.0) (other_tells taken (reply.Refused why) refl is) none (λ calm. refl) tt keeper)
unrecorded_report f new report moment refusal.Spent taken goes free heard is none keeper = absurd (true≢false free)
unrecorded_report f new report moment (refusal.Held cores memory) taken goes free heard is none keeper = absurd (true≢false free)
unrecorded_report f new report moment refusal.Store taken goes free heard is none keeper =
    let found = host_of f report moment (host_named f report.heard.host) refl heard.0 in
    subst (λ (g : Farm). TakesReport f report moment g taken goes) (sym heard.2)
    (unchanged f report moment Store reply.Store taken goes (accepted_is f report moment found.0 Store heard.0 found.1) (other_tells taken reply.Store refl is) none (λ calm. refl)
    (record { accepted = heard.0; changes = heard.1 }) keeper)
unrecorded_report f new report moment refusal.NoMemory taken goes free heard is none keeper =
    subst (λ (g : Farm). TakesReport f report moment g taken goes) (sym heard)
    (unchanged f report moment Memory reply.NoMemory taken goes refl (other_tells taken reply.NoMemory refl is) none (λ calm. absurd (true≢false calm)) tt keeper)

-- a mark of the round stands for the report
round_may : (f next : Farm) (report : Report) (moment host : ℕ) → refusal_of f (heard_entry report moment) ≡ None → host_named f report.heard.host ≡ Some host
    → next ≡ after f (heard_entry report moment) → (mark : Mark) → MayCutRound (length (round_for next host moment)) mark → MayStore f moment (asked.Report report) mark
round_may f next report moment host accepts named is Store may = absurd may
round_may f next report moment host accepts named is (StoreAfter k) may =
    record { accepted = accepts; host = host; named = named; left = subst (λ (g : Farm). k < length (round_for g host moment)) is may }
round_may f next report moment host accepts named is (LateStore k) may =
    record { accepted = accepts; host = host; named = named; left = subst (λ (g : Farm). k < length (round_for g host moment)) is may }
round_may f next report moment host accepts named is mark may = tt

-- what the round makes is what the report makes
pub taken_report : (f next new : Farm) (report : Report) (moment host : ℕ) (taken : Taken) (goes since : Going) → Hears f (heard_entry report moment) (Ok (Some host)) next
    → ((done : List Entry) (failed : Bool) → since (round_for next host moment) done failed
    → goes (heard_entry report moment ∷ round_for next host moment) (heard_entry report moment ∷ done) failed)
    → TakesRound next host report moment new taken since → TakesReport f report moment new taken goes
taken_report f next new report moment host taken goes since heard on walked =
    let round = round_for next host moment in
    let made : (mark : Mark) → reported f report moment mark ≡ marked_answer f host report (heard_entry report moment) round mark =
    λ mark.
    accepted_is f report moment host mark heard.0 heard.1
    ∙ sym (ap (λ (g : Farm). marked_answer f host report (heard_entry report moment) (round_for g host moment) mark) heard.2) in
    let is = made walked.mark in
    let done : (reported f report moment walked.mark).entries ≡ heard_entry report moment ∷ walked.done =
    ap (λ (a : Answered). a.entries) is ∙ walked.behind f (heard_entry report moment) in
    record {
      mark = walked.mark;
      farm = walked.farm f (heard_entry report moment) (sym heard.2) ∙ sym (ap (λ (a : Answered). run_of f a.entries) is);
      reply = subst (λ (a : Answered). Tells taken.told a.reply) (sym is) (walked.reply f (heard_entry report moment) (sym heard.2));
      booked = walked.booked f (heard_entry report moment) refl ∙ sym (ap (λ (a : Answered). bookings_in a.entries) is);
      calm = subst (λ (a : Answered). tells_memory a.reply ≡ false → is_calm walked.mark ≡ true) (sym is) (walked.calm f (heard_entry report moment));
      may_stand = round_may f next report moment host heard.0 heard.1 heard.2 walked.mark walked.may_stand;
      keeper =
          subst (λ (a : Answered). goes a.entries (reported f report moment walked.mark).entries (is_store_mark walked.mark)) (sym (made Plain))
          (subst (λ (es : List Entry). goes (heard_entry report moment ∷ round) es (is_store_mark walked.mark)) (sym done)
          (on walked.done (is_store_mark walked.mark) walked.keeper));
    }

-- ---- the round's marks

-- after so many bookings of the round the farm is that of the entry and them
walked_from : (old f new : Farm) (heard : Entry) (round : List Entry) → new ≡ run_of old round → after f heard ≡ old → new ≡ run_of (after f heard) round
walked_from old f new heard round walked e = walked ∙ ap (λ (g : Farm). run_of g round) (sym e)

-- the reply that is told is that over the farm that the round left
told_from : (old f new : Farm) (host : ℕ) (report : Report) (heard : Entry) (round : List Entry) (ended : Cut) (what : Told) → new ≡ run_of old round → after f heard ≡ old
    → Tells what (report_reply new host report ended) → Tells what (report_reply (run_of (after f heard) round) host report ended)
told_from old f new host report heard round ended what walked e tells = subst (λ (g : Farm). Tells what (report_reply g host report ended)) (walked_from old f new heard round walked e) tells

module _ (old : Farm) (host : ℕ) (report : Report) (moment : ℕ) (new : Farm) (taken : Taken) (goes : Going) where
  abbrev round : List Entry
  round = round_for old host moment

  whole : taken.booked ≡ length round → take taken.booked round ≡ round
  whole all = take_all taken.booked round (omega (arith, all))

  replied_by : (ended : Cut) → EndsBy old round ended taken.booked new → goes round (take taken.booked round) (is_store_cut ended) → Tells taken.told (report_reply new host report ended)
      → TakesRound old host report moment new taken goes
  replied_by cut.Whole walked keeper is = record {
    mark = Plain;
    farm = λ f heard e. walked_from old f new heard round walked.1 e;
    reply = λ f heard e. told_from old f new host report heard round cut.Whole taken.told walked.1 e is;
    booked = λ f heard other. booked_whole old host moment heard taken.booked other walked.0;
    calm = λ f heard calm. refl;
    may_stand = tt;
    done = take taken.booked round;
    behind = λ f heard. ap (λ (es : List Entry). heard ∷ es) (sym (whole walked.0));
    keeper = keeper;
  }
  replied_by cut.Store walked keeper is = record {
    mark = StoreAfter taken.booked;
    farm = λ f heard e. walked_from old f new heard (take taken.booked round) walked.1 e;
    reply = λ f heard e. told_from old f new host report heard (take taken.booked round) cut.Store taken.told walked.1 e is;
    booked = λ f heard other. booked_front old host moment heard taken.booked other (omega (arith, walked.0));
    calm = λ f heard calm. refl;
    may_stand = walked.0;
    done = take taken.booked round;
    behind = λ f heard. refl;
    keeper = keeper;
  }
  replied_by cut.Memory walked keeper is = record {
    mark = CutAfter taken.booked;
    farm = λ f heard e. walked_from old f new heard (take taken.booked round) walked.1 e;
    reply = λ f heard e. told_from old f new host report heard (take taken.booked round) cut.Memory taken.told walked.1 e is;
    booked = λ f heard other. booked_front old host moment heard taken.booked other walked.0;
    calm = λ f heard calm. absurd (true≢false calm);
    may_stand = tt;
    done = take taken.booked round;
    behind = λ f heard. refl;
    keeper = keeper;
  }

  unreplied_by : (ended : Cut) → EndsBy old round ended taken.booked new → goes round (take taken.booked round) (is_store_cut ended) → taken.told ≡ told.Other reply.NoMemory
      → TakesRound old host report moment new taken goes
  unreplied_by cut.Whole walked keeper is = record {
    mark = LatePlain;
    farm = λ f heard e. walked_from old f new heard round walked.1 e;
    reply = λ f heard e. other_tells taken reply.NoMemory refl is;
    booked = λ f heard other. booked_whole old host moment heard taken.booked other walked.0;
    calm = λ f heard calm. absurd (true≢false calm);
    may_stand = tt;
    done = take taken.booked round;
    behind = λ f heard. ap (λ (es : List Entry). heard ∷ es) (sym (whole walked.0));
    keeper = keeper;
  }
  unreplied_by cut.Store walked keeper is = record {
    mark = LateStore taken.booked;
    farm = λ f heard e. walked_from old f new heard (take taken.booked round) walked.1 e;
    reply = λ f heard e. other_tells taken reply.NoMemory refl is;
    booked = λ f heard other. booked_front old host moment heard taken.booked other (omega (arith, walked.0));
    calm = λ f heard calm. absurd (true≢false calm);
    may_stand = walked.0;
    done = take taken.booked round;
    behind = λ f heard. refl;
    keeper = keeper;
  }
  unreplied_by cut.Memory walked keeper is = record {
    mark = LateCut taken.booked;
    farm = λ f heard e. walked_from old f new heard (take taken.booked round) walked.1 e;
    reply = λ f heard e. other_tells taken reply.NoMemory refl is;
    booked = λ f heard other. booked_front old host moment heard taken.booked other walked.0;
    calm = λ f heard calm. absurd (true≢false calm);
    may_stand = tt;
    done = take taken.booked round;
    behind = λ f heard. refl;
    keeper = keeper;
  }

  -- the round that was walked is what was taken
  ends_as : (walked : Walked) → taken.booked ≡ walked.booked → IsRound old host moment walked new → EndsBy old round walked.cut taken.booked new
  ends_as walked booked ends = subst (λ (k : ℕ). EndsBy old round walked.cut k new) (sym booked) ends

  goes_as : (walked : Walked) → taken.booked ≡ walked.booked → goes round (take walked.booked round) (is_store_cut walked.cut)
      → goes round (take taken.booked round) (is_store_cut walked.cut)
  goes_as walked booked keeper = subst (λ (k : ℕ). goes round (take k round) (is_store_cut walked.cut)) (sym booked) keeper

  pub round_replied : (walked : Walked) → IsRound old host moment walked new → goes round (take walked.booked round) (is_store_cut walked.cut) → taken.booked ≡ walked.booked
      → Tells taken.told (report_reply new host report walked.cut) → TakesRound old host report moment new taken goes
  round_replied walked ends keeper booked is = replied_by walked.cut (ends_as walked booked ends) (goes_as walked booked keeper) is

  pub round_unreplied : (walked : Walked) → IsRound old host moment walked new → goes round (take walked.booked round) (is_store_cut walked.cut) → taken.booked ≡ walked.booked
      → taken.told ≡ told.Other reply.NoMemory → TakesRound old host report moment new taken goes
  round_unreplied walked ends keeper booked is = unreplied_by walked.cut (ends_as walked booked ends) (goes_as walked booked keeper) is

-- ---- the line of its reply

-- memory ran out for the reply alone, or for all where nothing was recorded
abbrev late_mark : Mark → Mark
late_mark Plain = LatePlain
late_mark Memory = Memory
late_mark Store = Memory
late_mark (CutAfter k) = LateCut k
late_mark (StoreAfter k) = LateStore k
late_mark late = late

-- the same is recorded, and memory is told; and it is a mark of the store still, unless the reply told that the store failed
record IsLate (f : Farm) (host : ℕ) (report : Report) (moment : ℕ) (heard : Entry) (bookings : List Entry) (mark : Mark) : Type 0 where
  entries : (marked_answer f host report heard bookings (late_mark mark)).entries ≡ (marked_answer f host report heard bookings mark).entries
  reply : (marked_answer f host report heard bookings (late_mark mark)).reply ≡ reply.NoMemory
  may_stand : MayStore f moment (asked.Report report) mark → MayStore f moment (asked.Report report) (late_mark mark)
  store : is_store_reply (marked_answer f host report heard bookings mark).reply ≡ false → is_store_mark mark ≡ is_store_mark (late_mark mark)

is_late : (f : Farm) (host : ℕ) (report : Report) (moment : ℕ) (heard : Entry) (bookings : List Entry) (mark : Mark) → IsLate f host report moment heard bookings mark
is_late f host report moment heard bookings Plain = record { entries = refl; reply = refl; may_stand = λ may. tt; store = λ other. refl }
is_late f host report moment heard bookings Memory = record { entries = refl; reply = refl; may_stand = λ may. tt; store = λ other. refl }
is_late f host report moment heard bookings Store = record { entries = refl; reply = refl; may_stand = λ may. tt; store = λ other. absurd (false≢true (sym other)) }
is_late f host report moment heard bookings (CutAfter k) = record { entries = refl; reply = refl; may_stand = λ may. tt; store = λ other. refl }
is_late f host report moment heard bookings (StoreAfter k) = record { entries = refl; reply = refl; may_stand = λ may. may; store = λ other. refl }
is_late f host report moment heard bookings LatePlain = record { entries = refl; reply = refl; may_stand = λ may. tt; store = λ other. refl }
is_late f host report moment heard bookings (LateCut k) = record { entries = refl; reply = refl; may_stand = λ may. tt; store = λ other. refl }
is_late f host report moment heard bookings (LateStore k) = record { entries = refl; reply = refl; may_stand = λ may. may; store = λ other. refl }

-- no mark of the store stands at a report that is refused
refused_mark : (f : Farm) (report : Report) (moment : ℕ) (mark : Mark) (why : Refusal) → refusal_of f (heard_entry report moment) ≡ Some why
    → MayStore f moment (asked.Report report) mark → is_store_mark mark ≡ false
refused_mark f report moment Plain why refused may = refl
refused_mark f report moment Memory why refused may = refl
refused_mark f report moment Store why refused may = absurd (true≢false (ap is_some (sym refused ∙ may.accepted)))
refused_mark f report moment (CutAfter k) why refused may = refl
refused_mark f report moment (StoreAfter k) why refused may = absurd (true≢false (ap is_some (sym refused ∙ may.accepted)))
refused_mark f report moment LatePlain why refused may = refl
refused_mark f report moment (LateCut k) why refused may = refl
refused_mark f report moment (LateStore k) why refused may = absurd (true≢false (ap is_some (sym refused ∙ may.accepted)))

-- a report that is refused records nothing, whatever the mark
refused_nothing : (f : Farm) (report : Report) (moment : ℕ) (mark : Mark) (why : Refusal) → refusal_of f (heard_entry report moment) ≡ Some why
    → (reported f report moment mark).entries ≡ []
refused_nothing f report moment mark why refused = ap (λ (o : Option Refusal). (unless_memory mark (report_answer f report moment mark o)).entries) refused ∙ by mark
  where
    by : (mark : Mark) → (unless_memory mark (only_reply (reply.Refused why))).entries ≡ []
    by Memory = refl
    by mark = refl

module _ (f new : Farm) (report : Report) (moment : ℕ) (text : List ℕ) (taken : Taken) (goes : Going) (took : TakesReport f report moment new taken goes)
    (memory : text ≡ reply_text reply.NoMemory ++ 10 ∷ []) (other : is_store_reply (reported f report moment took.mark).reply ≡ false) where
  -- memory ran out before anything was recorded
  late_refused : (why : Refusal) → refusal_of f (heard_entry report moment) ≡ Some why → AnswersReport f report moment new text goes
  late_refused why refused =
      let same : new ≡ f = took.farm ∙ ap (run_of f) (refused_nothing f report moment took.mark why refused) in
      subst (λ (g : Farm). AnswersReport f report moment g text goes) (sym same)
      (unrecorded f text goes (λ mark. report_answer f report moment mark (refusal_of f (heard_entry report moment))) (MayStore f moment (asked.Report report))
      (subst (goes (reported f report moment Plain).entries []) (refused_mark f report moment took.mark why refused took.may_stand)
      (subst (λ (es : List Entry). goes (reported f report moment Plain).entries es (is_store_mark took.mark)) (refused_nothing f report moment took.mark why refused)
      took.keeper)) tt memory)

  -- memory ran out for the reply alone
  late_accepted : refusal_of f (heard_entry report moment) ≡ None → AnswersReport f report moment new text goes
  late_accepted accepted =
      let host = host_of f report moment (host_named f report.heard.host) refl accepted in
      let heard = heard_entry report moment in
      let bookings = round_for (after f heard) host.0 moment in
      let late = is_late f host.0 report moment heard bookings took.mark in
      let is : reported f report moment took.mark ≡ marked_answer f host.0 report heard bookings took.mark = accepted_is f report moment host.0 took.mark accepted host.1 in
      let lately : reported f report moment (late_mark took.mark) ≡ marked_answer f host.0 report heard bookings (late_mark took.mark) =
      accepted_is f report moment host.0 (late_mark took.mark) accepted host.1 in
      let same : (reported f report moment took.mark).entries ≡ (reported f report moment (late_mark took.mark)).entries =
      ap (λ (a : Answered). a.entries) is ∙ (sym late.entries ∙ sym (ap (λ (a : Answered). a.entries) lately)) in
      record {
        mark = late_mark took.mark;
        answer = record {
          farm = took.farm ∙ ap (run_of f) same;
          text = memory ∙ ap (λ (told : Reply). reply_text told ++ 10 ∷ []) (sym late.reply ∙ sym (ap (λ (a : Answered). a.reply) lately));
        };
        may_stand = late.may_stand took.may_stand;
        keeper =
            subst (λ (es : List Entry). goes (reported f report moment Plain).entries es (is_store_mark (late_mark took.mark))) same
            (subst (goes (reported f report moment Plain).entries (reported f report moment took.mark).entries)
            (late.store (ap (λ (a : Answered). is_store_reply a.reply) (sym is) ∙ other)) took.keeper);
      }

  late_by : (why : Option Refusal) → refusal_of f (heard_entry report moment) ≡ why → AnswersReport f report moment new text goes
  late_by None accepted = late_accepted accepted
  late_by (Some why) refused = late_refused why refused

-- the line of any other reply than that the store failed
pub line_of_other : (told : Reply) (text : List ℕ) → (told ≡ reply.Store → ⊥) → IsLineOf told text → IsLineOfOther told text
line_of_other reply.Store text other is = absurd (other refl)
line_of_other told text other is = is

-- memory ran out for a line alone that doesn't tell of the store
abbrev IsToldBy : Reply → List ℕ → Type 0
IsToldBy what text = (text ≡ reply_text what ++ 10 ∷ []) ⊎ ((text ≡ reply_text reply.NoMemory ++ 10 ∷ []) × (is_store_reply what ≡ false))

other_told : (what : Reply) (text : List ℕ) → IsLineOfOther what text → IsToldBy what text
other_told reply.Store text is = inl is
other_told what text (inl is) = inl is
other_told what text (inr memory) = inr (memory, refl)

pub reports_text : (line : ReportLine) (what : Reply) → Reports line what → line.text ≡ reply_text what ++ 10 ∷ []
reports_text line (reply.Report made) is = is.text
reports_text line other is = elim is [ ]

line_told : (what : Reply) (text : List ℕ) (tells : Told) → Tells tells what → IsLineOfTold tells text → IsToldBy what text
line_told what text (told.Reported line) is line_is = inl (line_is ∙ reports_text line what is)
line_told what text (told.Other other) is line = other_told what text (subst (λ (r : Reply). IsLineOfOther r text) is.0 line)

by_line : (f new : Farm) (report : Report) (moment : ℕ) (text : List ℕ) (taken : Taken) (goes : Going) → (took : TakesReport f report moment new taken goes)
    → IsToldBy (reported f report moment took.mark).reply text → AnswersReport f report moment new text goes
by_line f new report moment text taken goes took (inl line) = record {
  mark = took.mark;
  answer = record { farm = took.farm; text = line };
  may_stand = took.may_stand;
  keeper = took.keeper;
}
by_line f new report moment text taken goes took (inr memory) =
    late_by f new report moment text taken goes took memory.0 memory.1 (refusal_of f (heard_entry report moment)) refl

-- the line is that of what is told, or memory ran out for it
pub told_report : (f new : Farm) (report : Report) (moment : ℕ) (text : List ℕ) (taken : Taken) (goes : Going) → TakesReport f report moment new taken goes
    → IsLineOfTold taken.told text → AnswersReport f report moment new text goes
told_report f new report moment text taken goes took line =
    by_line f new report moment text taken goes took (line_told (reported f report moment took.mark).reply text taken.told took.reply line)

-- ---- what changes no row

-- its entry, and the round that follows it
pub unstored_round : (f next : Farm) (report : Report) (moment host : ℕ) → Hears f (heard_entry report moment) (Ok (Some host)) next
    → ChangesNone f (reported f report moment Plain).entries → ChangesNone next (round_for next host moment)
unstored_round f next report moment host heard none =
    subst (λ (g : Farm). ChangesNone g (round_for g host moment)) (sym heard.2)
    (subst (λ (a : Answered). ChangesNone f a.entries) (accepted_is f report moment host Plain heard.0 (heard.1)) none).1

pub unstored_heard : (f : Farm) (report : Report) (moment : ℕ) → ChangesNone f (reported f report moment Plain).entries → IsUnstored f (heard_entry report moment)
unstored_heard f report moment none accepts =
    let host = host_of f report moment (host_named f report.heard.host) refl accepts in
    (subst (λ (a : Answered). ChangesNone f a.entries) (accepted_is f report moment host.0 Plain accepts host.1) none).0
