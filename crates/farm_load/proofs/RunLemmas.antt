-- Report by report, a load's run is that of its marks.
use Rattle.std.proofs.Common.{◌≡◌, ◌≤◌, ◌<◌, ◌+◌, ◌*◌, ◌^◌, inl, ℕ, cond, Bool, true, false, List, [], ◌∷◌, ◌++◌, arith, refl, sym, ap, ◌∙◌, subst, Result, Ok, append_assoc, length, length-append}
use Rattle.std.specs.Prelude.{count_by}
use Rattle.std.specs.List.{All}
use Rattle.std.proofs.lemmas.List.Elements.{All-nil, All-push}
use Rattle.std.proofs.lemmas.List.Sums.{sum_by-append, sum_by_push}
use Rattle.fault_counts.specs.Counts.{HasRisenBy, incremented_if}
use Rattle.fault_counts.proofs.CountLaws.{HasRisenBy-push}
use Rattle.line_answers.specs.booking_recorder.specs.Going.{Journals}
use Rattle.line_answers.specs.booking_recorder.proofs.Journaled.{journals_none, journals_then}
use Rattle.booking_rule.specs.declared.view.View.{View}
use Rattle.line_answers.specs.declared.limits.TheConstants.{ENTRIES_EACH}
use Rattle.line_answers.proofs.FewEntries.{reported_few}
use Rattle.farm_types.specs.declared.attempt.Attempt.{Attempt}
use Rattle.farm_types.specs.declared.entry.Entry.{Entry}
use Rattle.farm_types.specs.declared.limits.TheConstants.{BOOKINGS_EACH}
use Rattle.farm_types.specs.Farm.{Farm}
use Rattle.farm_types.specs.Run.{counted, counted_by, run_of}
use Rattle.farm_types.specs.Step.{after, at_moment, moment_of}
use Rattle.farm_lines.specs.declared.limits.TheConstants.{LAUNCHES_EACH}
use Rattle.farm_lines.specs.Transcript.{Mark, is_store_mark}
use Rattle.line_answers.specs.LineAnswers.{bookings_in, is_booking, is_calm}
use Rattle.farm_load.specs.declared.counts.Counts.{Counts}
use Rattle.farm_load.specs.declared.load_end.LoadEnd.TheVariants.{NoMemory}
use Rattle.farm_load.specs.declared.load_host.LoadHost.{LoadHost}
use Rattle.farm_load.specs.Loads.{AreCalm, AreMarks, HaveCause, Load, MayStandAt, failed_in, fails, has_finished, load_after, load_hosts, load_next, load_report, load_run, load_start, most_reports, round_after, turn_of}
use Rattle.farm_load.specs.Summaries.{RunsLoad}
use Rattle.farm_load.specs.Turns.{GoesSo, IsFormedHost, TakesTurn}
use Rattle.farm_load.proofs.LegalLemmas.{hosts_formed, load_farm}

-- ---- one mark more

after_more : (n : ℕ) (l : Load) (marks : List Mark) (mark : Mark) → load_after n l (marks ++ mark ∷ []) ≡ load_next n (load_after n l marks) mark
after_more n l [] mark = refl
after_more n l (m ∷ ms) mark = after_more n (load_next n l m) ms mark

-- a report may come, and by this mark
abbrev MayFollow : ℕ → Mark → Load → Type 0
MayFollow n mark l = (has_finished l.farm ≡ false) × (l.reports < most_reports) × MayStandAt n l l.hosts mark

marks_more : (n : ℕ) (l : Load) (marks : List Mark) (mark : Mark) → AreMarks n l marks → MayFollow n mark (load_after n l marks) → AreMarks n l (marks ++ mark ∷ [])
marks_more n l [] mark are may = (may.0, may.1, may.2, tt)
marks_more n l (m ∷ ms) mark are may = (are.0, are.1, are.2, marks_more n (load_next n l m) ms mark are.3 may)

-- ---- the cause of the marks

abbrev weight : Mark → ℕ
weight mark = cond (is_store_mark mark) 1 0

cause_more : (marks : List Mark) (mark : Mark) (old mid new : ℕ) → HaveCause marks old mid → new ≡ incremented_if (is_store_mark mark) mid → HaveCause (marks ++ mark ∷ []) old new
cause_more marks mark old mid new causes count_is =
    subst (λ (many : ℕ). HasRisenBy many old new) (sym (sum_by_push weight marks mark))
    (HasRisenBy-push (is_store_mark mark) (count_by is_store_mark marks) old mid new causes count_is)

-- ---- counts of two runs, one after the other

counted_append : (f : Farm) (xs ys : List Entry) → counted f (xs ++ ys) ≡ counted f xs ++ counted (run_of f xs) ys
counted_append f [] ys = refl
counted_append f (x ∷ xs) ys =
    let own = counted_by (at_moment f (moment_of f x.moment)) (moment_of f x.moment) x.act in
    ap (λ (later : List Attempt). own ++ later) (counted_append (after f x) xs ys) ∙ sym (append_assoc own (counted (after f x) xs) (counted (run_of (after f x) xs) ys))

failed_append : (n : ℕ) (f : Farm) (xs ys : List Entry) → failed_in n f (xs ++ ys) ≡ failed_in n f xs + failed_in n (run_of f xs) ys
failed_append n f xs ys =
    ap (count_by (fails n)) (counted_append f xs ys) ∙ sum_by-append (λ (a : Attempt). cond (fails n a) 1 0) (counted f xs) (counted (run_of f xs) ys)

bookings_append : (xs ys : List Entry) → bookings_in (xs ++ ys) ≡ bookings_in xs + bookings_in ys
bookings_append xs ys = sum_by-append (λ (e : Entry). cond (is_booking e.act) 1 0) xs ys

-- ---- where a run stands

-- After a report for each mark, none of which met the end of memory, the load is over this farm, with these hosts, and these are its counts. The journal
-- has what was recorded, which is as much as so many reports can make.
pub record IsRunning (n : ℕ) (old f : Farm) (reports : ℕ) (hosts : List LoadHost) (counts : Counts) (faults faults_now : ℕ) (view now : View) : Type 0 where
  pub marks : List Mark
  pub recorded : List Entry
  pub load_is : load_run n old marks ≡ record { farm = f; reports = reports; hosts = hosts; recorded = recorded }
  pub are_marks : AreMarks n (load_start old) marks
  pub long : length marks ≡ reports
  pub calm : AreCalm marks
  pub cause : HaveCause marks faults faults_now
  pub some : 0 < length hosts
  pub formed : All IsFormedHost hosts
  pub attempts : counts.attempts ≡ bookings_in recorded
  pub failed : counts.failed ≡ failed_in n old recorded
  pub attempts_within : counts.attempts ≤ BOOKINGS_EACH * reports
  pub failed_within : counts.failed ≤ LAUNCHES_EACH * reports
  pub words : Journals view now recorded
  pub few : length recorded ≤ ENTRIES_EACH * reports

pub begins : (n : ℕ) (old : Farm) (hosts : List LoadHost) (faults : ℕ) (view : View) → hosts ≡ load_hosts → IsRunning n old old 0 hosts (record { attempts = 0; failed = 0 }) faults faults view view
begins n old hosts faults view is =
    subst (λ (hs : List LoadHost). IsRunning n old old 0 hs (record { attempts = 0; failed = 0 }) faults faults view view) (sym is)
    (record {
      marks = [];
      recorded = [];
      load_is = refl;
      are_marks = tt;
      long = refl;
      calm = All-nil (λ (mark : Mark). is_calm mark ≡ true);
      cause = inl (omega arith);
      some = omega arith;
      formed = hosts_formed;
      attempts = refl;
      failed = refl;
      attempts_within = omega arith;
      failed_within = omega arith;
      words = journals_none view;
      few = omega arith;
    })

some_behind : (others : List LoadHost) (h : LoadHost) → 0 < length (others ++ h ∷ [])
some_behind others h = omega (arith, length-append others (h ∷ []))

-- ---- one report more

module _ (n : ℕ) (old f : Farm) (reports : ℕ) (h : LoadHost) (others : List LoadHost) (counts : Counts) (faults mid now : ℕ)
    (view seen : View) (r : IsRunning n old f reports (h ∷ others) counts faults mid view seen) (going : has_finished f ≡ false) (left : reports < most_reports) (mark : Mark) where
  abbrev here : Load
  here = record { farm = f; reports = reports; hosts = h ∷ others; recorded = r.recorded }

  abbrev made : List Entry
  made = (turn_of n here h mark).entries

  load_more : load_run n old (r.marks ++ mark ∷ []) ≡ load_next n here mark
  load_more = after_more n (load_start old) r.marks mark ∙ ap (λ (l : Load). load_next n l mark) r.load_is

  are_more : MayStandAt n here (h ∷ others) mark → AreMarks n (load_start old) (r.marks ++ mark ∷ [])
  are_more may = marks_more n (load_start old) r.marks mark r.are_marks (subst (MayFollow n mark) (sym r.load_is) (going, left, may))

  causes : now ≡ incremented_if (is_store_mark mark) mid → HaveCause (r.marks ++ mark ∷ []) faults now
  causes count_is = cause_more r.marks mark faults mid now r.cause count_is

  is_run : f ≡ run_of old r.recorded
  is_run = subst (λ (l : Load). l.farm ≡ run_of old l.recorded) r.load_is (load_farm n old r.marks)

  failed_more : (failed : ℕ) → failed ≡ counts.failed + failed_in n f made → failed ≡ failed_in n old (r.recorded ++ made)
  failed_more failed is =
      is ∙ ap (λ (k : ℕ). k + failed_in n f made) r.failed ∙ ap (λ (g : Farm). failed_in n old r.recorded + failed_in n g made) is_run
      ∙ sym (failed_append n old r.recorded made)

  attempts_more : (attempts : ℕ) → attempts ≡ counts.attempts + bookings_in made → attempts ≡ bookings_in (r.recorded ++ made)
  attempts_more attempts is = is ∙ ap (λ (k : ℕ). k + bookings_in made) r.attempts ∙ sym (bookings_append r.recorded made)

  few_more : length (r.recorded ++ made) ≤ ENTRIES_EACH * (reports + 1)
  few_more = omega (arith, r.few, reported_few f (load_report n (round_after reports) h) (round_after reports) mark, length-append r.recorded made)

-- what a recorder that went on so did: its count of faults, and its journal
abbrev Told : GoesSo → ℕ → ℕ → View → View → Type 0
Told goes mid now seen view_now = (done : List Entry) (failed : Bool) → goes done failed → (now ≡ incremented_if failed mid) × Journals seen view_now done

pub goes_on : {T E : Type 0} (n : ℕ) (old f : Farm) (reports : ℕ) (hosts : List LoadHost) (counts : Counts) (faults mid now : ℕ) (view seen view_now : View) (goes : GoesSo) (x : T) (new : Farm)
    (hosts_now : List LoadHost) (counts_now : Counts) → IsRunning n old f reports hosts counts faults mid view seen → has_finished f ≡ false → reports < most_reports
    → TakesTurn {T = T} {E = E} n f reports hosts counts (Ok x) new hosts_now counts_now goes → Told goes mid now seen view_now
    → IsRunning n old new (reports + 1) hosts_now counts_now faults now view view_now
goes_on n old f reports [] counts faults mid now view seen view_now goes x new hosts_now counts_now r going left t told = absurd t.may_stand
goes_on n old f reports (h ∷ others) counts faults mid now view seen view_now goes x new hosts_now counts_now r going left t told =
    let entries = made n old f reports h others counts faults mid now view seen r going left t.mark in
    let went = told entries (is_store_mark t.mark) t.recorder in
    record {
      marks = r.marks ++ t.mark ∷ [];
      recorded = r.recorded ++ entries;
      load_is =
          load_more n old f reports h others counts faults mid now view seen r going left t.mark
          ∙ λ i. record { farm = sym t.farm_is i; reports = reports + 1; hosts = sym t.turns.hosts_are i; recorded = r.recorded ++ entries };
      are_marks = are_more n old f reports h others counts faults mid now view seen r going left t.mark t.may_stand;
      long = omega (arith, r.long, length-append r.marks (t.mark ∷ []));
      calm = All-push (λ (mark : Mark). is_calm mark ≡ true) r.marks t.mark r.calm t.turns.calm;
      cause = causes n old f reports h others counts faults mid now view seen r going left t.mark went.0;
      some = subst (λ (hs : List LoadHost). 0 < length hs) (sym t.turns.hosts_are) (some_behind others _);
      formed = t.turns.formed;
      attempts = attempts_more n old f reports h others counts faults mid now view seen r going left t.mark counts_now.attempts t.turns.counted.attempts;
      failed = failed_more n old f reports h others counts faults mid now view seen r going left t.mark counts_now.failed t.turns.counted.failed;
      attempts_within = omega (arith, r.attempts_within, t.turns.counted.attempts_few);
      failed_within = omega (arith, r.failed_within, t.turns.counted.failed_few);
      words = journals_then view seen view_now r.recorded entries r.words went.1;
      few = few_more n old f reports h others counts faults mid now view seen r going left t.mark;
    }

-- ---- room in the journal

-- before each report there is room for what one can make
pub has_room : (n : ℕ) (old f : Farm) (reports : ℕ) (hosts : List LoadHost) (counts : Counts) (faults mid : ℕ) (view seen : View)
    → IsRunning n old f reports hosts counts faults mid view seen → length view.journal + ENTRIES_EACH * most_reports < 2 ^ 64 → reports < most_reports
    → length seen.journal + ENTRIES_EACH < 2 ^ 64
has_room n old f reports hosts counts faults mid view seen r room left =
    let long : length seen.journal ≡ length view.journal + length r.recorded = ap length r.words.journal ∙ length-append view.journal r.recorded in
    omega (arith, long, r.few, room, left)

-- ---- how a run ends

-- memory ran out before the first report
pub nothing_run : (n : ℕ) (f : Farm) (faults : ℕ) (view : View) → RunsLoad n f NoMemory f faults faults (Journals view view)
nothing_run n f faults view = record { marks = []; are_marks = tt; farm_is = refl; cause = inl (omega arith); words = journals_none view; ends = tt }

-- memory ran out at a report
pub breaks_off : {T E : Type 0} (n : ℕ) (old f : Farm) (reports : ℕ) (hosts : List LoadHost) (counts : Counts) (faults mid now : ℕ) (view seen view_now : View) (goes : GoesSo)
    (result : Result T E) (new : Farm) (hosts_now : List LoadHost) (counts_now : Counts) → IsRunning n old f reports hosts counts faults mid view seen → has_finished f ≡ false
    → reports < most_reports → TakesTurn {T = T} {E = E} n f reports hosts counts result new hosts_now counts_now goes → Told goes mid now seen view_now
    → RunsLoad n old NoMemory new faults now (Journals view view_now)
breaks_off n old f reports [] counts faults mid now view seen view_now goes result new hosts_now counts_now r going left t told = absurd t.may_stand
breaks_off n old f reports (h ∷ others) counts faults mid now view seen view_now goes result new hosts_now counts_now r going left t told =
    let entries = made n old f reports h others counts faults mid now view seen r going left t.mark in
    let went = told entries (is_store_mark t.mark) t.recorder in
    let more = load_more n old f reports h others counts faults mid now view seen r going left t.mark in
    record {
      marks = r.marks ++ t.mark ∷ [];
      are_marks = are_more n old f reports h others counts faults mid now view seen r going left t.mark t.may_stand;
      farm_is = t.farm_is ∙ sym (ap (λ (l : Load). l.farm) more);
      cause = causes n old f reports h others counts faults mid now view seen r going left t.mark went.0;
      words = subst (λ (l : Load). Journals view view_now l.recorded) (sym more) (journals_then view seen view_now r.recorded entries r.words went.1);
      ends = tt;
    }
