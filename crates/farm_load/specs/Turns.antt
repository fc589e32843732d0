-- What one report of a load does to the hosts that wait for their turn and to the counts.
use Rattle.std.specs.Prelude.{ℕ, Bool, ◌≡◌, ◌≤◌, ◌<◌, ◌+◌, ◌*◌, ◌^◌, List, [], true, length, Result, Ok, Err}
use Rattle.line_answers.specs.booking_recorder.specs.Going.{Journals}
use Rattle.line_answers.specs.booking_recorder.specs.Recording.{Recording}
use Rattle.farm_keeper.specs.Keeping.{Continues}
use Rattle.std.specs.List.{All}
use Rattle.farm_types.specs.declared.attempt.Attempt.{Attempt}
use Rattle.farm_types.specs.declared.entry.Entry.{Entry}
use Rattle.farm_types.specs.declared.limits.TheConstants.{BOOKINGS_EACH, LAST_SLOT, LAST_VERSION}
use Rattle.farm_types.specs.Farm.{Farm}
use Rattle.farm_types.specs.Forms.{is_name_text}
use Rattle.farm_types.specs.Run.{run_of}
use Rattle.farm_lines.specs.declared.asked.Asked.TheVariants as asked
use Rattle.farm_lines.specs.declared.limits.TheConstants.{LAUNCHES_EACH}
use Rattle.farm_lines.specs.declared.reply.Reply.{Reply}
use Rattle.farm_lines.specs.declared.reply.Reply.TheVariants as reply
use Rattle.farm_lines.specs.declared.report.Report.{Report}
use Rattle.farm_lines.specs.Transcript.{Answered, Mark, is_store_mark}
use Rattle.line_answers.specs.LineAnswers.{MayStore, bookings_in, is_calm, reported}
use Rattle.farm_load.specs.declared.counts.Counts.{Counts}
use Rattle.farm_load.specs.declared.load_host.LoadHost.{LoadHost}
use Rattle.farm_load.specs.Loads.{Load, MayStandAt, failed_in, launched_by, load_next, most_reports}

-- ---- what is kept from turn to turn

-- an attempt that may be told of
pub record IsFormedAttempt (a : Attempt) : Type 0 where
  pub slot_within : a.slot ≤ LAST_SLOT
  pub version_within : a.version ≤ LAST_VERSION

pub record IsFormedHost (h : LoadHost) : Type 0 where
  pub name : is_name_text h.name ≡ true
  pub few : length h.launched ≤ LAUNCHES_EACH
  pub each : All IsFormedAttempt h.launched

-- so many bookings, and failures of one report, may still be counted
pub record HasRoom (counts : Counts) : Type 0 where
  pub attempts : counts.attempts + BOOKINGS_EACH < 2 ^ 64
  pub failed : counts.failed + LAUNCHES_EACH < 2 ^ 64

-- Some host's turn it is, its report is within its forms, and each count is within what so many reports can make.
pub record IsReady (hosts : List LoadHost) (counts : Counts) (reports : ℕ) : Type 0 where
  pub some : 0 < length hosts
  pub formed : All IsFormedHost hosts
  pub attempts_within : counts.attempts ≤ BOOKINGS_EACH * reports
  pub failed_within : counts.failed ≤ LAUNCHES_EACH * reports
  pub left : reports < most_reports

-- ---- what is recorded

-- how a recorder goes on, by the entries that it recorded and whether its store failed then
abbrev pub GoesSo : Type 1
GoesSo = List Entry → Bool → Type 0

-- the keeper went on so, and the journal has exactly these entries more
pub record Recorded {K : Type 0} (tells : K → Type 0) (faults : K → ℕ) (before now : Recording K) (done : List Entry) (failed : Bool) : Type 0 where
  pub keeper : Continues tells faults before.keeper now.keeper failed
  pub journals : Journals before.view now.view done

-- ---- a report

-- of so many failing completions of a report: none where it wasn't taken
abbrev pub failures_told : Reply → ℕ → ℕ
failures_told (reply.Report told) failing = failing
failures_told other failing = 0

-- the counts are the earlier ones and those of the entries that were recorded, and a report makes only so many
pub record AreCounted (n : ℕ) (f : Farm) (old : Counts) (recorded : List Entry) (new : Counts) : Type 0 where
  pub attempts : new.attempts ≡ old.attempts + bookings_in recorded
  pub failed : new.failed ≡ old.failed + failed_in n f recorded
  pub attempts_few : new.attempts ≤ old.attempts + BOOKINGS_EACH
  pub failed_few : new.failed ≤ old.failed + LAUNCHES_EACH

-- memory didn't run out: what was recorded is counted, and what is told is what the reply launches, which may be told of
pub record HasGoneOn (n : ℕ) (f : Farm) (old : Counts) (mark : Mark) (answered : Answered) (launched : List Attempt) (new : Counts) : Type 0 where
  pub calm : is_calm mark ≡ true
  pub launched_are : launched ≡ launched_by answered.reply
  pub few : length launched ≤ LAUNCHES_EACH
  pub each : All IsFormedAttempt launched
  pub counted : AreCounted n f old answered.entries new

abbrev pub GoesOn : ℕ → Farm → Counts → Mark → Answered → {E : Type 0} → Result (List Attempt) E → Counts → Type 0
GoesOn n f old mark answered (Ok launched) new = HasGoneOn n f old mark answered launched new
GoesOn n f old mark answered (Err _) new = Unit {0}

-- The report was answered by one of the marks, the farm is the one after that, and the recorder went on as the mark says.
pub record HasReported {E : Type 0} (n : ℕ) (f : Farm) (report : Report) (moment : ℕ) (counts : Counts) (result : Result (List Attempt) E) (new : Farm)
    (counts_now : Counts) (goes : GoesSo) : Type 0 where
  pub mark : Mark
  pub may_stand : MayStore f moment (asked.Report report) mark
  pub farm_is : new ≡ run_of f (reported f report moment mark).entries
  pub recorder : goes (reported f report moment mark).entries (is_store_mark mark)
  pub goes_on : GoesOn n f counts mark (reported f report moment mark) result counts_now

-- ---- a turn

-- a load over a farm, after so many reports, with nothing recorded yet
abbrev pub standing : Farm → ℕ → List LoadHost → Load
standing f reports hosts = record { farm = f; reports = reports; hosts = hosts; recorded = [] }

-- memory didn't run out: the hosts and the counts are those after the turn, and may report again
pub record HasTurned (n : ℕ) (f : Farm) (old : Counts) (mark : Mark) (next : Load) (hosts : List LoadHost) (new : Counts) : Type 0 where
  pub calm : is_calm mark ≡ true
  pub hosts_are : hosts ≡ next.hosts
  pub formed : All IsFormedHost hosts
  pub counted : AreCounted n f old next.recorded new

abbrev pub TurnsTo : ℕ → Farm → Counts → Mark → Load → {T E : Type 0} → Result T E → List LoadHost → Counts → Type 0
TurnsTo n f old mark next (Ok _) hosts new = HasTurned n f old mark next hosts new
TurnsTo n f old mark next (Err _) hosts new = Unit {0}

-- The host whose turn it is reported, by one of the marks, the farm is the one after that, and the recorder went on as the mark says.
pub record TakesTurn {T E : Type 0} (n : ℕ) (f : Farm) (reports : ℕ) (hosts : List LoadHost) (counts : Counts) (result : Result T E) (new : Farm)
    (hosts_now : List LoadHost)
    (counts_now : Counts) (goes : GoesSo) : Type 0 where
  pub mark : Mark
  pub may_stand : MayStandAt n (standing f reports hosts) hosts mark
  pub farm_is : new ≡ (load_next n (standing f reports hosts) mark).farm
  pub recorder : goes (load_next n (standing f reports hosts) mark).recorded (is_store_mark mark)
  pub turns : TurnsTo n f counts mark (load_next n (standing f reports hosts) mark) result hosts_now counts_now
