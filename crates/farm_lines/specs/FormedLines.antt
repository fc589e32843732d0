-- Requests and replies within their forms and limits: those that are read back from their own text.
use Rattle.std.specs.Prelude.{ℕ, ◌≡◌, ◌≤◌, ◌<◌, ◌^◌, List, length, true}
use Rattle.std.specs.List.{All}
use Rattle.std.specs.Str.{is_utf8}
use Rattle.frame_range.specs.declared.fault.RangeFault.{RangeFault}
use Rattle.frame_range.specs.declared.fault.RangeFault.TheVariants as range_fault
use Rattle.farm_types.specs.declared.attempt.Attempt.{Attempt}
use Rattle.farm_types.specs.declared.refusal.Refusal.{Refusal}
use Rattle.farm_types.specs.declared.refusal.Refusal.TheVariants.{Unknown, Finished, Exists, WrongBoot, Stale, FarmFull, Satisfied, WrongState, VersionSpent, SelfDepend, Started, Full}
use Rattle.farm_types.specs.declared.limits.TheConstants.{LAST_BOOT, LAST_DEPEND, LAST_SLOT, LAST_VERSION, LEAST_CORES, LEAST_MEMORY, MOST_BURST, MOST_CORES, MOST_FRAMES, MOST_HOSTS, MOST_MEMORY, MOST_PRIORITY, MOST_RANGE, MOST_RETRIES, MOST_RUNNING, SLOT_LIMIT}
use Rattle.farm_types.specs.Forms.{is_frame_number, is_name_or_empty, is_name_text}
use Rattle.farm_types.specs.Limits.{IsBetween}
use Rattle.farm_lines.specs.declared.launch.Launch.{Launch}
use Rattle.farm_lines.specs.declared.limits.TheConstants.{LAUNCHES_EACH, MOST_BOOKED, ROWS_EACH}
use Rattle.farm_lines.specs.declared.list_row.ListRow.{ListRow}
use Rattle.farm_lines.specs.declared.list_row.ListRow.TheVariants as row
use Rattle.farm_lines.specs.declared.list_row.RowKind.{RowKind}
use Rattle.farm_lines.specs.declared.list_row.ShownHost.{ShownHost}
use Rattle.farm_lines.specs.declared.list_row.ShownJob.{ShownJob}
use Rattle.farm_lines.specs.declared.list_row.ShownLayer.{ShownLayer}
use Rattle.farm_lines.specs.declared.list_row.ShownLimit.{ShownLimit}
use Rattle.farm_lines.specs.declared.list_row.ShownProc.{ShownProc}
use Rattle.farm_lines.specs.declared.list_row.ShownSub.{ShownSub}
use Rattle.farm_lines.specs.declared.query.Listed.{Listed}
use Rattle.farm_lines.specs.declared.query.Listed.TheVariants as listed
use Rattle.farm_lines.specs.declared.query.Query.{Query}
use Rattle.farm_lines.specs.declared.reply.ListReply.{ListReply}
use Rattle.farm_lines.specs.declared.reply.Reply.{Reply}
use Rattle.farm_lines.specs.declared.reply.Reply.TheVariants as reply
use Rattle.farm_lines.specs.declared.reply.ReportReply.{ReportReply}
use Rattle.farm_lines.specs.declared.request.Request.{Request}
use Rattle.farm_lines.specs.declared.request.Request.TheVariants as request
use Rattle.farm_lines.specs.Asked.{IsFormedAsked, asked_of}
use Rattle.farm_lines.specs.ReplyLines.{limit_of}
use Rattle.farm_lines.specs.RowKinds.{AreOfKind}

abbrev pub IsName : List ℕ → Type 0
IsName text = is_name_text text ≡ true

abbrev pub IsText : List ℕ → Type 0
IsText text = is_utf8 text ≡ true

-- ---- requests

pub record IsFormedAttempt (a : Attempt) : Type 0 where
  pub slot_within : a.slot ≤ LAST_SLOT
  pub version_within : a.version ≤ LAST_VERSION

-- the name of the job of a list that is one of a job's
abbrev pub IsFormedListed : Listed → Type 0
IsFormedListed (listed.Layers job) = IsName job
IsFormedListed (listed.Frames job) = IsName job
IsFormedListed (listed.Depends job) = IsName job
IsFormedListed other = Unit {0}

pub record IsFormedQuery (q : Query) : Type 0 where
  pub listed : IsFormedListed q.what
  pub from_within : q.from < 2 ^ 64

-- What its entry has is within its forms and limits, and so is what no entry has: a report's running attempts, the number of a frame, and a list.
-- The name of an allocation may be any text.
abbrev pub IsFormedRequest : Request → Type 0
IsFormedRequest (request.Report report) = IsFormedAsked (asked_of (request.Report report)) × All IsFormedAttempt report.running
IsFormedRequest (request.KillFrame p) = IsFormedAsked (asked_of (request.KillFrame p)) × (is_frame_number p.frame ≡ true)
IsFormedRequest (request.EatFrame p) = IsFormedAsked (asked_of (request.EatFrame p)) × (is_frame_number p.frame ≡ true)
IsFormedRequest (request.RetryFrame p) = IsFormedAsked (asked_of (request.RetryFrame p)) × (is_frame_number p.frame ≡ true)
IsFormedRequest (request.Sub line) = IsFormedAsked (asked_of (request.Sub line)) × IsText line.alloc
IsFormedRequest (request.Boot line) = IsFormedAsked (asked_of (request.Boot line)) × IsText line.alloc
IsFormedRequest (request.List query) = IsFormedQuery query
IsFormedRequest asked = IsFormedAsked (asked_of asked)

-- ---- rows

pub record IsFormedSubRow (s : ShownSub) : Type 0 where
  pub alloc_name : IsName s.alloc
  pub show_name : IsName s.show
  pub booked_within : s.booked ≤ MOST_BOOKED
  pub burst_within : s.burst ≤ MOST_BURST
  pub size_within : s.size ≤ MOST_BURST

pub record IsFormedLimitRow (l : ShownLimit) : Type 0 where
  pub limit_name : IsName l.name
  pub most_within : l.most ≤ MOST_RUNNING
  pub running_within : l.running ≤ SLOT_LIMIT

pub record IsFormedHostRow (h : ShownHost) : Type 0 where
  pub alloc_name : IsName h.alloc
  pub host_name : IsName h.name
  pub boot_within : IsBetween 1 LAST_BOOT h.boot
  pub cores_within : IsBetween LEAST_CORES MOST_CORES h.cores
  pub heard_within : h.heard < 2 ^ 64
  pub memory_within : IsBetween LEAST_MEMORY MOST_MEMORY h.memory
  pub used_cores_within : h.used_cores ≤ MOST_CORES
  pub used_memory_within : h.used_memory ≤ MOST_MEMORY

-- how many frames are in each state
pub record AreCounts (dead depend eaten running succeeded waiting : ℕ) : Type 0 where
  pub dead_within : dead ≤ MOST_FRAMES
  pub depend_within : depend ≤ MOST_FRAMES
  pub eaten_within : eaten ≤ MOST_FRAMES
  pub running_within : running ≤ MOST_FRAMES
  pub succeeded_within : succeeded ≤ MOST_FRAMES
  pub waiting_within : waiting ≤ MOST_FRAMES

pub record IsFormedJobRow (j : ShownJob) : Type 0 where
  pub job_name : IsName j.name
  pub show_name : IsName j.show
  pub priority_within : IsBetween 1 MOST_PRIORITY j.priority
  pub counts : AreCounts j.dead j.depend j.eaten j.running j.succeeded j.waiting

pub record IsFormedLayerRow (l : ShownLayer) : Type 0 where
  pub layer_name : IsName l.name
  pub limit_name : is_name_or_empty l.limit ≡ true
  pub range_text : IsText l.range
  pub cores_within : IsBetween LEAST_CORES MOST_CORES l.cores
  pub memory_within : IsBetween LEAST_MEMORY MOST_MEMORY l.memory
  pub counts : AreCounts l.dead l.depend l.eaten l.running l.succeeded l.waiting

pub record IsFormedProcRow (p : ShownProc) : Type 0 where
  pub frame_text : IsText p.frame
  pub host_name : IsName p.host
  pub job_name : IsName p.job
  pub cores_within : IsBetween LEAST_CORES MOST_CORES p.cores
  pub memory_within : IsBetween LEAST_MEMORY MOST_MEMORY p.memory
  pub slot_within : p.slot ≤ LAST_SLOT
  pub version_within : p.version ≤ LAST_VERSION

abbrev pub IsFormedRow : ListRow → Type 0
IsFormedRow (row.Name name) = IsName name
IsFormedRow (row.Sub s) = IsFormedSubRow s
IsFormedRow (row.Limit l) = IsFormedLimitRow l
IsFormedRow (row.Host h) = IsFormedHostRow h
IsFormedRow (row.Job j) = IsFormedJobRow j
IsFormedRow (row.Layer l) = IsFormedLayerRow l
IsFormedRow (row.Frame x) = IsText x.frame × (x.retries ≤ MOST_RETRIES) × (x.version ≤ LAST_VERSION)
IsFormedRow (row.Depend d) = IsBetween 1 LAST_DEPEND d.depend
IsFormedRow (row.Proc p) = IsFormedProcRow p

-- a list: at most 1,000 rows, all with the same keys
pub record IsFormedList (list : ListReply) : Type 0 where
  pub keys : RowKind
  pub alike : AreOfKind keys list.rows
  pub few : length list.rows ≤ ROWS_EACH
  pub each_row : All IsFormedRow list.rows
  pub total_within : list.total < 2 ^ 64

-- ---- replies

pub record IsFormedLaunch (l : Launch) : Type 0 where
  pub attempt : IsFormedAttempt l.attempt
  pub command : IsText l.command
  pub cores_within : IsBetween LEAST_CORES MOST_CORES l.cores
  pub frame : IsText l.frame
  pub job : IsName l.job
  pub layer : IsName l.layer
  pub memory_within : IsBetween LEAST_MEMORY MOST_MEMORY l.memory

pub record IsFormedReportReply (r : ReportReply) : Type 0 where
  pub each_ack : All IsFormedAttempt r.acks
  pub boot_within : IsBetween 1 LAST_BOOT r.boot
  pub each_kill : All IsFormedAttempt r.kills
  pub few : length r.launches ≤ LAUNCHES_EACH
  pub each_launch : All IsFormedLaunch r.launches
  pub seq_within : (1 ≤ r.seq) × (r.seq < 2 ^ 64)

-- the place of a section, where the fault is one of a range
abbrev pub IsFormedFault : RangeFault → Type 0
IsFormedFault (range_fault.Syntax section) = IsBetween 1 MOST_RANGE section
IsFormedFault (range_fault.OutOfRange section) = IsBetween 1 MOST_RANGE section
IsFormedFault (range_fault.ZeroStep section) = IsBetween 1 MOST_RANGE section
IsFormedFault (range_fault.WrongWay section) = IsBetween 1 MOST_RANGE section
IsFormedFault (range_fault.Empty section) = IsBetween 1 MOST_RANGE section
IsFormedFault (range_fault.TooMany section) = IsBetween 1 MOST_RANGE section
IsFormedFault range_fault.NoMemory = ⊥

abbrev pub IsFormedRefusal : Refusal → Type 0
IsFormedRefusal (Unknown name) = IsText name
IsFormedRefusal (Finished name) = IsName name
IsFormedRefusal (Exists name) = IsName name
IsFormedRefusal (WrongBoot boot) = IsBetween 1 LAST_BOOT boot
IsFormedRefusal (Stale last) = (1 ≤ last) × (last < 2 ^ 64)
IsFormedRefusal (FarmFull free) = free ≤ SLOT_LIMIT
IsFormedRefusal Satisfied = Unit {0}
IsFormedRefusal (WrongState state) = Unit {0}
IsFormedRefusal (VersionSpent frame) = IsText frame
IsFormedRefusal (SelfDepend frame) = IsText frame
IsFormedRefusal (Started frame) = IsText frame
IsFormedRefusal (Full limit what) = limit ≡ limit_of what

abbrev pub IsFormedReply : Reply → Type 0
IsFormedReply reply.Done = Unit {0}
IsFormedReply (reply.Sub booked burst size) = (booked ≤ MOST_BOOKED) × (burst ≤ MOST_BURST) × (size ≤ MOST_BURST)
IsFormedReply (reply.Limit most running) = (most ≤ MOST_RUNNING) × (running ≤ SLOT_LIMIT)
IsFormedReply (reply.Boot boot nonce) = IsBetween 1 LAST_BOOT boot × (nonce < 2 ^ 64)
IsFormedReply (reply.Tick down lost) = (down ≤ MOST_HOSTS) × (lost ≤ SLOT_LIMIT)
IsFormedReply (reply.Submitted frames job) = IsBetween 1 MOST_FRAMES frames × IsName job
IsFormedReply (reply.Depend depend unmet) = IsBetween 1 LAST_DEPEND depend × (unmet ≤ SLOT_LIMIT)
IsFormedReply (reply.Dropped opened) = opened ≤ SLOT_LIMIT
IsFormedReply (reply.Ended ended) = ended ≤ SLOT_LIMIT
IsFormedReply (reply.Report r) = IsFormedReportReply r
IsFormedReply (reply.List list) = IsFormedList list
IsFormedReply (reply.BadLine field) = IsText field
IsFormedReply reply.TooLong = Unit {0}
IsFormedReply (reply.BadRange layer fault) = IsName layer × IsFormedFault fault
IsFormedReply (reply.BadAmount field) = IsText field
IsFormedReply (reply.Refused why) = IsFormedRefusal why
IsFormedReply (reply.StillHeld cores memory) = (cores ≤ MOST_CORES) × (memory ≤ MOST_MEMORY)
IsFormedReply reply.EntriesFull = Unit {0}
IsFormedReply reply.Store = Unit {0}
IsFormedReply reply.NoMemory = Unit {0}
