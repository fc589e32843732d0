-- A report beside others: recorded with its round, or not.
use Rattle.std.proofs.Common.{◌≡◌, ◌≤◌, ◌<◌, ◌∙◌, ◌++◌, ◌∷◌, ◌⊎◌, ℕ, true, false, List, [], ap, arith, inl, inr, length, refl, subst, sym}
use Rattle.std.proofs.Common.{true≢false}
use Rattle.std.specs.Prelude.{Option, None, Some, Result, Ok, Err, IfOk}
use Rattle.std.proofs.lemmas.Bool.{cases_lt}
use mathlib.Core.List.{IsPrefix}
use Rattle.fault_counts.specs.Counts.{HasRisen, last_count}
use Rattle.farm_types.specs.declared.attempt.Attempt.{Attempt}
use Rattle.farm_types.specs.declared.entry.Act.{Act}
use Rattle.farm_types.specs.declared.entry.Act.TheVariants as act
use Rattle.farm_types.specs.declared.entry.Entry.{Entry}
use Rattle.farm_types.specs.declared.entry.HeardAct.{HeardAct}
use Rattle.farm_types.specs.Farm.{Farm, host_named}
use Rattle.farm_types.specs.Step.{refusal_of}
use Rattle.farm_lines.specs.declared.asked.Asked.TheVariants as asked
use Rattle.farm_lines.specs.declared.reply.Reply.{Reply}
use Rattle.farm_lines.specs.declared.reply.Reply.TheVariants as reply
use Rattle.farm_lines.specs.declared.report.Report.{Report}
use Rattle.farm_lines.specs.Asked.{heard_entry}
use Rattle.farm_lines.specs.Reply.{reply_text}
use Rattle.farm_lines.specs.Transcript.{Answered, Mark, Memory, Plain, Store, accepted_answer, is_store_mark, only_reply, report_answer, unless_memory}
use Rattle.line_answers.specs.booking_recorder.specs.declared.refusal.CommitRefusal.{CommitRefusal}
use Rattle.line_answers.specs.booking_recorder.specs.declared.refusal.CommitRefusal.TheVariants as commit
use Rattle.line_answers.specs.booking_recorder.specs.Passing.{Passing, counted_up}
use Rattle.line_answers.specs.declared.hindered.Hindered.TheVariants as hindered
use Rattle.line_answers.specs.LineAnswers.{AnswersReport, IsAnswer, MayStore, unrecorded_reply}
use Rattle.line_answers.specs.Launches.{told}
use Rattle.line_answers.specs.Lines.{IsLineOfOther}
use Rattle.line_answers.specs.Reports.{IsReport, TellsHost}
use Rattle.line_answers.proofs.ReportLemmas.{heard_same, host_of}
use Rattle.shared_rounds.specs.shared_bot.specs.Passes.{CaughtUp, farm_before}
use Rattle.shared_lines.specs.Answered.{IsUnheardAt, failures, is_full, takes_none}
use Rattle.shared_lines.specs.Beside.{AnswersReportBeside}
use Rattle.shared_lines.specs.Hearing.{HearsBeside, IsHeardAt}
use Rattle.shared_lines.specs.Reported.{IsRepliedBehind}
use Rattle.shared_lines.proofs.Worked.{farm_still}

-- ---- the store

-- what rose has risen still
pub risen_still : (old mid new : ℕ) → HasRisen old mid → new ≡ counted_up mid 0 → HasRisen old new
risen_still old mid new rose is = by rose (cases_lt mid last_count)
  where
    by : HasRisen old mid → (mid < last_count) ⊎ (last_count ≤ mid) → HasRisen old new
    by (inl below) (inl few) = inl (omega (arith, is, below, few))
    by (inl below) (inr full) = inr (omega (arith, is, full))
    by (inr last) (inl few) = absurd (omega (arith, last, few))
    by (inr last) (inr full) = inr (omega (arith, is, full))

-- ---- it wasn't recorded

module _ (v w : Passing) (report : Report) (moment : ℕ) (text : List ℕ) where
  abbrev e : Entry
  e = heard_entry report moment

  abbrev by_mark : Farm → Mark → Answered
  by_mark f mark = unless_memory mark (report_answer f report moment mark (refusal_of f e))

  -- by one of the marks, where nothing is recorded
  unheard : (mark : Mark) (what : Reply) (caught : CaughtUp v w [] (failures (is_store_mark mark)))
      → (is_full (length (v.view.journal ++ caught.others)) ≡ true → is_store_mark mark ≡ false)
      → by_mark (farm_before v caught.others) mark ≡ only_reply what → MayStore (farm_before v caught.others) moment (asked.Report report) mark
      → text ≡ reply_text what ++ 10 ∷ [] → IsUnheardAt v report moment text w
  unheard mark what caught room is may line =
      let f = farm_before v caught.others in
      let takes : takes_none v caught.others w [] [] (is_store_mark mark) =
      (record { caught = caught; behind = refl; room = λ full. (refl, room full) }, refl) in (
        caught.others,
        subst (λ (g : Farm). AnswersReport f report moment g text (takes_none v caught.others w))
            (farm_still v w (failures (is_store_mark mark)) caught)
            (record {
              mark = mark;
              answer = subst (λ (a : Answered). IsAnswer f a f text) (sym is) (record { farm = refl; text = line });
              may_stand = may;
              keeper = subst (λ (a : Answered). takes_none v caught.others w (by_mark f Plain).entries a.entries (is_store_mark mark)) (sym is) takes;
            }),
      )

  -- the farm takes the entry, and the store failed at it
  stored_not : (f : Farm) → refusal_of f e ≡ None → by_mark f Store ≡ only_reply reply.Store
  stored_not f accepted =
      let host = host_of f report moment (host_named f report.heard.host) refl accepted in
      ap (report_answer f report moment Store) accepted ∙ ap (accepted_answer f report moment Store) host.1

  pub unrecorded : (why : CommitRefusal) → HearsBeside v e (Err why) w → IsLineOfOther (unrecorded_reply why) text
      → AnswersReportBeside v report moment text w
  unrecorded (commit.Refused why) hears (inl line) =
      let f = farm_before v hears.caught.others in
      inl (unheard Plain (reply.Refused why) hears.caught (λ full. refl) (ap (report_answer f report moment Plain) hears.refused) tt line)
  unrecorded (commit.Refused why) hears (inr line) = inl (unheard Memory reply.NoMemory hears.caught (λ full. refl) refl tt line)
  unrecorded commit.Spent hears line = inr (inl (hindered.Spent, hears, line))
  unrecorded (commit.Held cores memory) hears line = inr (inl (hindered.Held cores memory, hears, line))
  unrecorded commit.Store hears line =
      inl (unheard Store reply.Store hears.caught (λ full. absurd (true≢false (sym full ∙ hears.room)))
      (stored_not (farm_before v hears.caught.others) hears.fails.accepted) hears.fails line)
  unrecorded commit.NoMemory hears (inl line) = inl (unheard Memory reply.NoMemory hears (λ full. refl) refl tt line)
  unrecorded commit.NoMemory hears (inr line) = inl (unheard Memory reply.NoMemory hears (λ full. refl) refl tt line)

-- ---- it was recorded

-- so its host is told
pub heard_host : (v w : Passing) (report : Report) (moment : ℕ) (came : Result (Option ℕ) CommitRefusal) → HearsBeside v (heard_entry report moment) came w
    → IfOk came (TellsHost (act.Heard report.heard))
heard_host v w report moment (Ok None) hears = hears.heard
heard_host v w report moment (Ok (Some host)) hears = tt
heard_host v w report moment (Err why) hears = tt

-- what was seen before has been seen
pub grows_heard : (v w : Passing) (e : Entry) (came : Result (Option ℕ) CommitRefusal) → HearsBeside v e came w → IsPrefix v.view.journal w.view.journal
grows_heard v w e (Ok host) hears = hears.caught.learns.journal
grows_heard v w e (Err (commit.Refused why)) hears = hears.caught.learns.journal
grows_heard v w e (Err commit.Spent) hears = hears.caught.learns.journal
grows_heard v w e (Err (commit.Held cores memory)) hears = hears.caught.learns.journal
grows_heard v w e (Err commit.Store) hears = hears.caught.learns.journal
grows_heard v w e (Err commit.NoMemory) hears = hears.learns.journal

-- its round went, and it was replied to
pub reported : (v heard w : Passing) (report : Report) (moment host : ℕ) (from : HeardAct) (running : List Attempt) (does : Act) (text : List ℕ)
    → IsReport does running report → does ≡ act.Heard from → IsHeardAt v (heard_entry report moment) (Some host) heard
    → IsRepliedBehind heard host (told from running) moment text w → AnswersReportBeside v report moment text w
reported v heard w report moment host from running does text is named recorded replied =
    let same : told from running ≡ report =
    ap (λ (h : HeardAct). told h running) (heard_same from report.heard (sym named ∙ is.0)) ∙ ap (told report.heard) is.1 in
    inr (inr (record {
      host = host;
      heard = heard;
      recorded = recorded;
      replied = subst (λ (r : Report). IsRepliedBehind heard host r moment text w) same replied;
    }))
