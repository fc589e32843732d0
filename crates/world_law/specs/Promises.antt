-- What the world promises, whatever is lost, repeated or late, whatever restarts, and whatever the store refuses.
use Rattle.std.specs.Prelude.{ℕ, ◌≡◌, ◌≤◌, ◌<◌, ◌⊎◌, List, map, None, Some, Ok, slice_get}
use Rattle.farm_types.specs.declared.attempt.Attempt.{Attempt}
use Rattle.farm_types.specs.declared.attempt.DoneItem.{DoneItem}
use Rattle.farm_types.specs.Run.{AttemptsDiffer, IsLegal, IsSafe, run_of}
use Rattle.farm_lines.specs.declared.launch.Launch.{Launch}
use Rattle.farm_lines.specs.declared.reply.Reply.TheVariants as reply
use Rattle.farm_lines.specs.declared.reply.ReportReply.{ReportReply}
use Rattle.farm_lines.specs.declared.report.Report.{Report}
use Rattle.farm_lines.specs.declared.request.Request.TheVariants as request
use Rattle.farm_lines.specs.ReplyLines.{reply_of}
use Rattle.farm_lines.specs.Request.{request_of}
use Rattle.rqd_core.specs.declared.limits.TheConstants.{UNFIT_STATUS}
use Rattle.rqd_core.specs.Life.{cores_of}
use Rattle.world_law.specs.declared.counted.Counted.{Counted}
use Rattle.world_law.specs.declared.event.Event.TheVariants as event
use Rattle.world_law.specs.declared.lines.Sent.{Sent}
use Rattle.world_law.specs.declared.lines.Told.{Told}
use Rattle.world_law.specs.Among.{Has}
use Rattle.world_law.specs.World.{Host, World}

-- ---- starts

-- in one life of a host each attempt is started at most once
abbrev pub StartsOnce : World → Type 0
StartsOnce w = (host : ℕ) (h : Host) → slice_get w.hosts host ≡ Some h → AttemptsDiffer h.started

-- ---- completions

-- the attempt ended so on the host
pub record HasEnded (w : World) (host : ℕ) (d : DoneItem) : Type 0 where
  pub ended : Has w.events (event.Ended host d.attempt d.exit)
  pub untold : d.free ≡ None

-- A line came to the host that told it to start the attempt, and the launch didn't fit the cores that were free, which the completion tells.
pub record DidNotFit (w : World) (host : ℕ) (d : DoneItem) : Type 0 where
  pub line : ℕ
  pub came : Has w.events (event.ToHost line)
  pub told : Told
  pub there : slice_get w.told line ≡ Some told
  pub of_host : told.host ≡ host
  pub replied : ReportReply
  pub reads : reply_of told.line ≡ Some (reply.Report replied)
  pub launch : Launch
  pub ordered : Has replied.launches launch
  pub attempt : launch.attempt ≡ d.attempt
  pub free : ℕ
  pub tells : d.free ≡ Some free
  pub too_large : free < launch.cores
  pub status : d.exit.status ≡ UNFIT_STATUS
  pub signal : d.exit.signal ≡ 0

-- how a completion came into its host's lines
abbrev pub CameFrom : World → ℕ → DoneItem → Type 0
CameFrom w host d = HasEnded w host d ⊎ DidNotFit w host d

-- the completion stands, with its exit, in the line, which its host sent as a report, and came there from the host
pub record IsReported (w : World) (c : Counted) : Type 0 where
  pub line : Sent
  pub there : slice_get w.sent c.line ≡ Some line
  pub of_host : line.host ≡ Some c.host
  pub report : Report
  pub reads : request_of line.line ≡ Ok (request.Report report)
  pub item : DoneItem
  pub stands : Has report.heard.done item
  pub attempt : item.attempt ≡ c.attempt
  pub exit : item.exit ≡ c.exit
  pub came : CameFrom w c.host item

-- each completion that was counted was reported
abbrev pub CountsReported : World → Type 0
CountsReported w = (place : ℕ) (c : Counted) → slice_get w.now.counted place ≡ Some c → IsReported w c

-- ---- cores

-- the cores of what a host runs never pass its total
abbrev pub RunsWithin : World → Type 0
RunsWithin w = (host : ℕ) (h : Host) → slice_get w.hosts host ≡ Some h → cores_of h.life.running ≤ h.life.config.cores

-- ---- the scheduler

abbrev pub attempts_counted : List Counted → List Attempt
attempts_counted counts = map (λ (c : Counted). c.attempt) counts

-- the entries since the last start are a legal and safe run to the present farm, and no attempt was ever counted twice, across all starts
pub record RunsSafely (w : World) : Type 0 where
  pub legal : IsLegal w.opened w.entries
  pub safe : IsSafe w.opened w.entries
  pub leads : run_of w.opened w.entries ≡ w.now.farm
  pub once : AttemptsDiffer (attempts_counted w.now.counted)

-- ---- all of it

pub record KeepsPromises (w : World) : Type 0 where
  pub starts : StartsOnce w
  pub counts : CountsReported w
  pub cores : RunsWithin w
  pub run : RunsSafely w
