-- The run of a load: reports of its hosts in rounds, each answered as a line would be, until its job is finished.
use Rattle.std.specs.Prelude.{ℕ, ◌≡◌, ◌<◌, ◌+◌, ◌*◌, ◌/◌, ◌==◌, Bool, true, false, List, [], ◌∷◌, ◌++◌, codes, count_by, map, None}
use Rattle.std.specs.List.{All}
use Rattle.fault_counts.specs.Counts.{HasRisenBy}
use Rattle.farm_types.specs.declared.attempt.Attempt.{Attempt}
use Rattle.farm_types.specs.declared.attempt.DoneItem.{DoneItem}
use Rattle.farm_types.specs.declared.entry.Entry.{Entry}
use Rattle.farm_types.specs.Farm.{Farm, for_some, job_at}
use Rattle.farm_types.specs.Finish.{is_finished}
use Rattle.farm_types.specs.Run.{counted, run_of}
use Rattle.farm_lines.specs.declared.launch.Launch.{Launch}
use Rattle.farm_lines.specs.declared.reply.Reply.{Reply}
use Rattle.farm_lines.specs.declared.reply.Reply.TheVariants as reply
use Rattle.farm_lines.specs.declared.reply.ReportReply.{ReportReply}
use Rattle.farm_lines.specs.declared.report.Report.{Report}
use Rattle.farm_lines.specs.declared.asked.Asked.TheVariants as asked
use Rattle.farm_lines.specs.Transcript.{Answered, Mark, is_store_mark}
use Rattle.farm_gen.specs.Load.{load_exit, load_status}
use Rattle.line_answers.specs.LineAnswers.{MayStore, is_calm, reported}
use Rattle.farm_load.specs.declared.load_host.LoadHost.{LoadHost}
use Rattle.farm_load.specs.declared.limits.TheConstants.{HOSTS, LOAD_JOB, MOST_ROUNDS}

-- ---- where a run stands

-- The farm, how many reports were made, the hosts with what the last reply to each launched, from the one on whose turn it is, and the entries that
-- were recorded.
pub record Load : Type 0 where
  pub farm : Farm
  pub reports : ℕ
  pub hosts : List LoadHost
  pub recorded : List Entry

-- a host to which nothing was replied yet
abbrev pub new_host : List ℕ → LoadHost
new_host name = record { name = name; launched = [] }

abbrev pub load_hosts : List LoadHost
load_hosts = new_host (codes "h1") ∷ new_host (codes "h2") ∷ new_host (codes "h3") ∷ new_host (codes "h4") ∷ []

-- before the first report
abbrev pub load_start : Farm → Load
load_start f = record { farm = f; reports = 0; hosts = load_hosts; recorded = [] }

-- the job of a load, which is the first that its farm has, is finished
abbrev pub has_finished : Farm → Bool
has_finished f = for_some (job_at f LOAD_JOB) is_finished

-- ---- one report

-- the round of the report after so many: each host makes one report a round, and the first round is 1
abbrev pub round_after : ℕ → ℕ
round_after reports = reports / HOSTS + 1

-- each attempt that was launched is done, as it exits
abbrev pub load_done : ℕ → List Attempt → List DoneItem
load_done n launched = map (λ (a : Attempt). record { attempt = a; exit = load_exit n a; free = None }) launched

-- the host's report of a round: the round is its sequence number, nothing runs, and all that was launched is done
abbrev pub load_report : ℕ → ℕ → LoadHost → Report
load_report n round h = record { heard = record { host = h.name; boot = 1; seq = round; done = load_done n h.launched }; running = [] }

-- what a reply launches; a refusal launches nothing
abbrev pub launches_in : ReportReply → List Attempt
launches_in told = map (λ (l : Launch). l.attempt) told.launches

abbrev pub launched_by : Reply → List Attempt
launched_by (reply.Report told) = launches_in told
launched_by other = []

-- what the report of the host makes, at the moment that is its round
abbrev pub turn_of : ℕ → Load → LoadHost → Mark → Answered
turn_of n l h mark = reported l.farm (load_report n (round_after l.reports) h) (round_after l.reports) mark

-- after that the host waits behind the others
abbrev pub turned : Load → LoadHost → List LoadHost → Answered → Load
turned l h others answered =
    record {
      farm = run_of l.farm answered.entries;
      reports = l.reports + 1;
      hosts = others ++ record { name = h.name; launched = launched_by answered.reply } ∷ [];
      recorded = l.recorded ++ answered.entries;
    }

abbrev pub next_by : ℕ → Load → List LoadHost → Mark → Load
next_by n l [] mark = l
next_by n l (h ∷ others) mark = turned l h others (turn_of n l h mark)

-- the load after one report more
abbrev pub load_next : ℕ → Load → Mark → Load
load_next n l mark = next_by n l l.hosts mark

-- ---- the run

-- the load after a report for each mark
abbrev pub load_after : ℕ → Load → List Mark → Load
load_after n l [] = l
load_after n l (mark ∷ marks) = load_after n (load_next n l mark) marks

-- the run of a load of n frames a layer over a farm, with what the outside did at each report
abbrev pub load_run : ℕ → Farm → List Mark → Load
load_run n f marks = load_after n (load_start f) marks

-- how many reports the longest run makes
abbrev pub most_reports : ℕ
most_reports = HOSTS * MOST_ROUNDS

-- a mark may stand at the report of the first of these hosts
abbrev pub MayStandAt : ℕ → Load → List LoadHost → Mark → Type 0
MayStandAt n l [] mark = ⊥
MayStandAt n l (h ∷ others) mark = MayStore l.farm (round_after l.reports) (asked.Report (load_report n (round_after l.reports) h)) mark

-- the marks are those of a run: a report comes only while the job isn't finished and rounds are left, and each mark stands where it may
abbrev pub AreMarks : ℕ → Load → List Mark → Type 0
AreMarks n l [] = Unit {0}
AreMarks n l (mark ∷ marks) =
    (has_finished l.farm ≡ false) × (l.reports < most_reports) × MayStandAt n l l.hosts mark × AreMarks n (load_next n l mark) marks

-- memory ran out at none of these
abbrev pub AreCalm : List Mark → Type 0
AreCalm marks = All (λ (mark : Mark). is_calm mark ≡ true) marks

-- the count of the keeper's faults rose by exactly the marks of the store, or stands at its last number
abbrev pub HaveCause : List Mark → ℕ → ℕ → Type 0
HaveCause marks faults faults_now = HasRisenBy (count_by is_store_mark marks) faults faults_now

-- ---- completions

-- the attempt exits with status 1
abbrev pub fails : ℕ → Attempt → Bool
fails n a = load_status n a == 1

-- how many completions with status 1 change the farm in a run
abbrev pub failed_in : ℕ → Farm → List Entry → ℕ
failed_in n f es = count_by (fails n) (counted f es)
