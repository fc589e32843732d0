-- What a world keeps as a line comes to its scheduler.
use Rattle.std.proofs.Common.{◌≡◌, ◌<◌, ◌^◌, ◌+◌, ℕ, suc, List, take, Option, None, Some, Ok, refl, sym, ap, subst, ◌∙◌, inl, inr, arith}
use Rattle.std.specs.List.{AllByRecursion, slice_get}
use Rattle.std.specs.Prelude.{IfSome}
use Rattle.farm_types.specs.declared.attempt.DoneItem.{DoneItem}
use Rattle.farm_types.specs.declared.entry.Entry.{Entry}
use Rattle.farm_types.specs.Farm.{Farm}
use Rattle.farm_types.specs.Kept.{IsKeptFarm}
use Rattle.farm_types.specs.Run.{AttemptsDiffer, IsLegal, IsLegalStep, run_of}
use Rattle.farm_types.specs.Step.{after}
use Rattle.farm_law.proofs.KeptChanges.{kept_hosts}
use Rattle.farm_law.proofs.LegalRuns.{legal_append, legal_take}
use Rattle.depend_law.proofs.KeptRuns.{kept_run}
use Rattle.farm_lines.specs.declared.report.Report.{Report}
use Rattle.farm_lines.specs.declared.request.Request.TheVariants as request
use Rattle.farm_lines.specs.Request.{request_of}
use Rattle.farm_lines.specs.Transcript.{Answered}
use Rattle.farm_rows.specs.Rows.{rows_of}
use Rattle.world_law.specs.declared.counted.Counted.{Counted}
use Rattle.world_law.specs.declared.lines.Sent.{Sent}
use Rattle.world_law.specs.Among.{Has}
use Rattle.world_law.specs.Attempts.{IsSpent}
use Rattle.world_law.specs.Counting.{count_of, counts_from, with_entries}
use Rattle.world_law.specs.Ends.{ends_along}
use Rattle.world_law.specs.KeptWorld.{CountsWell, IsFurther, IsKeptScheduler, IsKeptWorld, IsKnownReport}
use Rattle.world_law.specs.Lines.{AreLeft, HasCommit, MayRefuse, answered, refused_history, replies_to, with_answer}
use Rattle.world_law.specs.Promises.{CameFrom, IsReported, attempts_counted}
use Rattle.world_law.specs.World.{History, World}
use Rattle.world_law.proofs.AttemptsGo.{spent_later}
use Rattle.world_law.proofs.CountedOnce.{HeardHas, IsCountedOnce, counts_on, ends_each}
use Rattle.world_law.proofs.Each.{all_has, each_append, each_both, each_from, each_take, has_left}
use Rattle.world_law.proofs.Grows.{Grows, came_grows, reported_grows}
use Rattle.world_law.proofs.LineKinds.{LineKind, entries_cut, entries_heard, entries_legal, line_kind}
use Rattle.world_law.proofs.LowerLaws.{LowerLaws}
use Rattle.world_law.proofs.Parts.{counted_more, counted_none, each_counted, run_append, run_next, some_and, step_at}

-- the present farm is kept
pub farm_kept : (w : World) → IsKeptScheduler w → IsKeptFarm w.now.farm
farm_kept w k = subst IsKeptFarm k.leads (kept_run w.opened w.entries k.opened k.legal)

module _ (laws : LowerLaws) (w : World) (kept : IsKeptWorld w) (line : ℕ) (s : Sent) (there : slice_get w.sent line ≡ Some s) (moment : ℕ) (low : moment < 2 ^ 64) where
  abbrev f : Farm
  f = w.now.farm

  pub now_kept : IsKeptFarm w.now.farm
  now_kept = farm_kept w kept.scheduler

  abbrev pub made : Option ℕ → Answered
  made o = answered w s moment o

  pub kind : LineKind w.now.farm s.line moment (λ o. answered w s moment o)
  kind = line_kind f s.line moment low

  pub made_legal : (o : Option ℕ) → IsLegal w.now.farm (answered w s moment o).entries
  made_legal o = entries_legal f s.line moment low made kind o

  -- ---- with an answer

  module _ (refused : Option ℕ) (left : List History) where
    abbrev pub next : World
    next = with_answer w line s moment refused left

    pub answer_grows : Grows w (with_answer w line s moment refused left)
    answer_grows =
        record {
          entries = (made refused).entries;
          legal = made_legal refused;
          farm = refl;
          sent = λ n x at. at;
          told = λ n t at. has_left w.told (replies_to s.host (made refused).reply) n t at;
          events = λ n e at. at;
        }

    -- ---- what counts

    -- what a report of the line lists was reported
    item_reported : (host : ℕ) → s.host ≡ Some host → (r : Report) → request_of s.line ≡ Ok (request.Report r) → AllByRecursion (λ (d : DoneItem). IsReported next (count_of line host d)) r.heard.done
    item_reported host is r reads =
        let sender = kept.lines.senders s (line, there) host is in
        let known : IsKnownReport w host sender.0 r = (kept.hosts host sender.0 sender.1).sent s (line, there) is (request.Report r) reads in
        each_from (λ (d : DoneItem). Has r.heard.done d × CameFrom w host d) (λ (d : DoneItem). IsReported next (count_of line host d))
        (λ d both.
        record {
          line = s;
          there = there;
          of_host = is;
          report = r;
          reads = reads;
          item = d;
          stands = both.0;
          attempt = refl;
          exit = refl;
          came = came_grows w next answer_grows host d both.1;
        })
        r.heard.done (each_both (Has r.heard.done) (CameFrom w host) r.heard.done (all_has r.heard.done) known.came)

    abbrev AreReported : List Entry → Type 0
    AreReported es = (host : ℕ) → s.host ≡ Some host → AllByRecursion (λ (d : DoneItem). IsReported next (count_of line host d)) (ends_along f es)

    once_before : IsCountedOnce w.now.farm (attempts_counted w.now.counted)
    once_before = record { spent = kept.scheduler.counts.spent; once = kept.scheduler.counts.once }

    old_reported : AllByRecursion (IsReported next) w.now.counted
    old_reported = each_from (IsReported w) (IsReported next) (reported_grows w next answer_grows) w.now.counted kept.scheduler.counts.reported

    counts_by : (es : List Entry) → IsLegal f es → (o : Option ℕ)
        → ((host : ℕ) → o ≡ Some host → AllByRecursion (λ (d : DoneItem). IsReported next (count_of line host d)) (ends_along f es)) → CountsWell next (with_entries w.now line o es)
    counts_by es legal None each =
        let same = sym (counted_none w.now.counted line (ends_along f es)) in
        record {
          reported = subst (AllByRecursion (IsReported next)) same old_reported;
          spent =
              subst (λ (xs : List Counted). AllByRecursion (IsSpent (run_of f es)) (attempts_counted xs)) same
              (each_from (IsSpent f) (IsSpent (run_of f es)) (λ a spent. spent_later f es a legal spent) (attempts_counted w.now.counted) kept.scheduler.counts.spent);
          once = subst (λ (xs : List Counted). AttemptsDiffer (attempts_counted xs)) same kept.scheduler.counts.once;
        }
    counts_by es legal (Some host) each =
        let all = counts_on f es (attempts_counted w.now.counted) now_kept.rows.sound (kept_hosts f now_kept.rows) legal once_before in
        let same = sym (counted_more w.now.counted line host (ends_along f es)) in
        record {
          reported =
              each_append (IsReported next) w.now.counted (counts_from line (Some host) (ends_along f es)) old_reported
              (each_counted (IsReported next) line host (ends_along f es) (each host refl));
          spent = subst (AllByRecursion (IsSpent (run_of f es))) same all.spent;
          once = subst AttemptsDiffer same all.once;
        }

    made_reported : (o : Option ℕ) (host : ℕ) → s.host ≡ Some host → AllByRecursion (λ (d : DoneItem). IsReported next (count_of line host d)) (ends_along f (made o).entries)
    made_reported o host is =
        let P = λ (d : DoneItem). IsReported next (count_of line host d) in
        ends_each P f (made o).entries (entries_heard f s.line moment low made P (item_reported host is) kind o)

    pub counts_well : (o : Option ℕ) → CountsWell (with_answer w line s moment refused left) (with_entries w.now line s.host (answered w s moment o).entries)
    counts_well o = counts_by (made o).entries (made_legal o) s.host (made_reported o)

    -- ---- the history that a refused commit would have made

    front_reported : (k host : ℕ) → s.host ≡ Some host → AllByRecursion (λ (d : DoneItem). IsReported next (count_of line host d)) (ends_along f (take (suc k) (made None).entries))
    front_reported k host is =
        let P = λ (d : DoneItem). IsReported next (count_of line host d) in
        ends_each P f (take (suc k) (made None).entries)
        (each_take (λ (e : Entry). HeardHas P e.act) (suc k) (made None).entries (entries_heard f s.line moment low made P (item_reported host is) kind None))

    refused_further : (k : ℕ) (e : Entry) → refused ≡ Some k → slice_get (made None).entries k ≡ Some e → IsFurther next (with_entries w.now line s.host (take (suc k) (made None).entries))
    refused_further k e is at =
        let plain = (made None).entries in
        let cut : (made refused).entries ≡ take k plain = ap (λ (o : Option ℕ). (made o).entries) is ∙ entries_cut f s.line moment low made kind k in
        let farm : next.now.farm ≡ run_of f (take k plain) = ap (run_of f) cut in
        record {
          entry = e;
          legal = subst (λ (g : Farm). IsLegalStep g e) (sym farm) (step_at f plain k e (made_legal None) at);
          farm = run_next f plain k e at ∙ ap (λ (g : Farm). after g e) (sym farm);
          counts = counts_by (take (suc k) plain) (legal_take f (suc k) plain (made_legal None)) s.host (front_reported k);
        }

    refused_by : (o : Option ℕ) → refused ≡ o → IfSome o (HasCommit f (made None).entries) → AllByRecursion (IsFurther next) (refused_history w.now line s.host (made None).entries o)
    refused_by None is may = tt
    refused_by (Some k) is may =
        let e = some_and (slice_get (made None).entries k) _ may in
        let same : k + 1 ≡ suc k = omega arith in
        (subst (λ (n : ℕ). IsFurther next (with_entries w.now line s.host (take n (made None).entries))) (sym same) (refused_further k e.0 is e.1), tt)

    -- ---- those that are left

    further_stays : rows_of f ≡ rows_of (run_of f (made refused).entries) → (x : History) → IsFurther w x → IsFurther next x
    further_stays rows x was =
        let g = run_of f (made refused).entries in
        let same : f ≡ g = laws.rows f g now_kept (kept_run f (made refused).entries now_kept (made_legal refused)) rows in
        record {
          entry = was.entry;
          legal = subst (λ (h : Farm). IsLegalStep h was.entry) same was.legal;
          farm = was.farm ∙ ap (λ (h : Farm). after h was.entry) same;
          counts =
              record {
                reported = each_from (IsReported w) (IsReported next) (reported_grows w next answer_grows) x.counted was.counts.reported;
                spent = was.counts.spent;
                once = was.counts.once;
              };
        }

    left_further : AreLeft f (run_of f (made refused).entries) w.further left → AllByRecursion (IsFurther next) left
    left_further (inl emptied) = subst (AllByRecursion (IsFurther next)) (sym emptied.1) tt
    left_further (inr stays) =
        subst (AllByRecursion (IsFurther next)) (sym stays.1) (each_from (IsFurther w) (IsFurther next) (further_stays stays.0) w.further kept.scheduler.further)

    -- ---- the scheduler

    pub scheduler_answers : MayRefuse w s moment refused → AreLeft w.now.farm (run_of w.now.farm (answered w s moment refused).entries) w.further left
        → IsKeptScheduler (with_answer w line s moment refused left)
    scheduler_answers may are_left =
        let k = kept.scheduler in
        let es = (made refused).entries in
        record {
          opened = k.opened;
          legal = legal_append w.opened w.entries es k.legal (subst (λ (g : Farm). IsLegal g es) (sym k.leads) (made_legal refused));
          leads = run_append w.opened w.entries es ∙ ap (λ (g : Farm). run_of g es) k.leads;
          counts = counts_well refused;
          further =
              each_append (IsFurther next) left (refused_history w.now line s.host (made None).entries refused) (left_further are_left) (refused_by refused refl may);
        }
