-- What every world keeps, whatever happens.
use Rattle.std.specs.Prelude.{ℕ, ◌≡◌, ◌≤◌, ◌⊎◌, true, false, List, Some, Ok, slice_get}
use Rattle.std.specs.List.{AllByRecursion, list_any}
use Rattle.farm_types.specs.declared.attempt.Attempt.{Attempt}
use Rattle.farm_types.specs.declared.entry.Entry.{Entry}
use Rattle.farm_types.specs.Farm.{Farm}
use Rattle.farm_types.specs.Kept.{IsKeptFarm}
use Rattle.farm_types.specs.Run.{AttemptsDiffer, IsLegal, IsLegalStep, is_same, run_of}
use Rattle.farm_types.specs.Step.{after}
use Rattle.farm_lines.specs.declared.launch.Launch.{Launch}
use Rattle.farm_lines.specs.declared.reply.Reply.{Reply}
use Rattle.farm_lines.specs.declared.reply.Reply.TheVariants as reply
use Rattle.farm_lines.specs.declared.reply.ReportReply.{ReportReply}
use Rattle.farm_lines.specs.declared.report.Report.{Report}
use Rattle.farm_lines.specs.declared.request.Request.{Request}
use Rattle.farm_lines.specs.declared.request.Request.TheVariants as request
use Rattle.farm_lines.specs.FormedLines.{IsFormedReply}
use Rattle.farm_lines.specs.ReplyLines.{reply_of}
use Rattle.farm_lines.specs.Request.{request_of}
use Rattle.rqd_core.specs.declared.config.RqdConfig.{RqdConfig}
use Rattle.rqd_core.specs.declared.sent_line.SentLine.TheVariants as awaited
use Rattle.rqd_core.specs.Keeping.{IsWithin}
use Rattle.rqd_core.specs.Life.{is_run}
use Rattle.rqd_core.specs.Replies.{is_done}
use Rattle.world_law.specs.declared.lines.Sent.{Sent}
use Rattle.world_law.specs.declared.lines.Told.{Told}
use Rattle.world_law.specs.Among.{Has}
use Rattle.world_law.specs.Attempts.{IsOwn, IsSpent}
use Rattle.world_law.specs.Boots.{CameToBoot}
use Rattle.world_law.specs.Hosts.{has_used}
use Rattle.world_law.specs.Promises.{CameFrom, IsReported, attempts_counted}
use Rattle.world_law.specs.Texts.{IsConfigWithin, IsLifeWithin}
use Rattle.world_law.specs.World.{History, Host, World}

-- ---- what a host started

-- a started attempt runs, or waits in the finished list until it is acknowledged
abbrev pub IsHeld : Host → Attempt → Type 0
IsHeld h a = (is_run a h.life.running ≡ true) ⊎ (is_done a h.life.finished ≡ true)

-- or it is over in the farm
pub record IsAccounted (f : Farm) (h : Host) (a : Attempt) : Type 0 where
  pub own : IsOwn f h.life.config.name a
  pub held : IsHeld h a ⊎ IsSpent f a

-- ---- lines

-- this reply was sent to the host
pub record IsToldTo (w : World) (host : ℕ) (r : Reply) : Type 0 where
  pub told : Told
  pub there : Has w.told told
  pub of_host : told.host ≡ host
  pub reads : reply_of told.line ≡ Some r

-- A report of this boot and sequence number is one that the host sent in this life or an older one: the boot number was told for a nonce that the
-- host used, and if that is this life's, the life is past the sequence number.
pub record IsOfALife (w : World) (host : ℕ) (h : Host) (boot seq : ℕ) : Type 0 where
  pub nonce : ℕ
  pub told : IsToldTo w host (reply.Boot boot nonce)
  pub used : has_used h nonce ≡ true
  pub past : nonce ≡ h.life.config.nonce → seq ≤ h.life.seq

-- a report of the host is of one of its lives, and each completion in it came from there
pub record IsKnownReport (w : World) (host : ℕ) (h : Host) (r : Report) : Type 0 where
  pub name : r.heard.host ≡ h.life.config.name
  pub life : IsOfALife w host h r.heard.boot r.heard.seq
  pub came : AllByRecursion (CameFrom w host) r.heard.done

-- what the host sent: its boots with nonces that it used, and its reports
abbrev pub IsKnownRequest : World → ℕ → Host → Request → Type 0
IsKnownRequest w host h (request.Boot line) = (line.host ≡ h.life.config.name) × (has_used h line.nonce ≡ true)
IsKnownRequest w host h (request.Report r) = IsKnownReport w host h r
IsKnownRequest w host h other = Unit {0}

-- ---- replies

-- it is the reply to the latest line
abbrev pub IsAwaited : Host → ReportReply → Type 0
IsAwaited h r = h.life.awaited ≡ Some (awaited.Report r.boot r.seq)

-- this life was told to start the attempt
abbrev pub is_started : Host → Attempt → Type 0
is_started h a = list_any (is_same a) h.started ≡ true

-- If the host acts on the reply, no attempt is started anew: what it acknowledges of those that this life started is over, and what it launches of
-- them is held.
pub record IsDue (f : Farm) (h : Host) (r : ReportReply) : Type 0 where
  pub acks : AllByRecursion (λ a. is_started h a → IsSpent f a) r.acks
  pub launches : AllByRecursion (λ (l : Launch). is_started h l.attempt → IsHeld h l.attempt) r.launches

-- The reply is to one of the host's reports. What it launches is the host's own, and nothing that it acknowledges.
pub record IsKnownTold (w : World) (host : ℕ) (h : Host) (r : ReportReply) : Type 0 where
  pub life : IsOfALife w host h r.boot r.seq
  pub own : AllByRecursion (λ (l : Launch). IsOwn w.now.farm h.life.config.name l.attempt) r.launches
  pub apart : AllByRecursion (λ (l : Launch). list_any (is_same l.attempt) r.acks ≡ false) r.launches
  pub due : IsAwaited h r → IsDue w.now.farm h r

abbrev pub IsKnownReply : World → ℕ → Host → Reply → Type 0
IsKnownReply w host h (reply.Boot boot nonce) = CameToBoot w.now.farm h.life.config.name boot nonce × (has_used h nonce ≡ true)
IsKnownReply w host h (reply.Report r) = IsKnownTold w host h r
IsKnownReply w host h other = Unit {0}

-- ---- a host

pub record IsKeptHost (w : World) (host : ℕ) (h : Host) : Type 0 where
  pub life : IsLifeWithin h.life
  pub within : IsWithin h.life.running h.life.config.cores
  pub nonce : has_used h h.life.config.nonce ≡ true
  pub differ : AttemptsDiffer h.started
  pub started : AllByRecursion (IsAccounted w.now.farm h) h.started
  pub came : AllByRecursion (CameFrom w host) h.life.finished
  pub boot : (boot : ℕ) → h.life.boot ≡ Some boot → IsToldTo w host (reply.Boot boot h.life.config.nonce)
  pub sent : (s : Sent) → Has w.sent s → s.host ≡ Some host → (r : Request) → request_of s.line ≡ Ok r → IsKnownRequest w host h r
  pub formed : (r : Reply) → IsToldTo w host r → IsFormedReply r
  pub told : (r : Reply) → IsToldTo w host r → IsKnownReply w host h r
  pub boots : (boot a b : ℕ) → IsToldTo w host (reply.Boot boot a) → IsToldTo w host (reply.Boot boot b) → a ≡ b

-- ---- the scheduler

-- what counted on the way to a farm was reported, is over there, and counted once
pub record CountsWell (w : World) (x : History) : Type 0 where
  pub reported : AllByRecursion (IsReported w) x.counted
  pub spent : AllByRecursion (IsSpent x.farm) (attempts_counted x.counted)
  pub once : AttemptsDiffer (attempts_counted x.counted)

-- a refused commit would have made it: one legal entry more
pub record IsFurther (w : World) (x : History) : Type 0 where
  pub entry : Entry
  pub legal : IsLegalStep w.now.farm entry
  pub farm : x.farm ≡ after w.now.farm entry
  pub counts : CountsWell w x

-- The farm is that of a legal run since the last start.
pub record IsKeptScheduler (w : World) : Type 0 where
  pub opened : IsKeptFarm w.opened
  pub legal : IsLegal w.opened w.entries
  pub leads : run_of w.opened w.entries ≡ w.now.farm
  pub counts : CountsWell w w.now
  pub further : AllByRecursion (IsFurther w) w.further

-- ---- the world

-- each line of a host, and each to a host, has a host that is there
pub record HaveTheirHosts (w : World) : Type 0 where
  pub senders : (s : Sent) → Has w.sent s → (host : ℕ) → s.host ≡ Some host → (h : Host) × (slice_get w.hosts host ≡ Some h)
  pub told : (t : Told) → Has w.told t → (h : Host) × (slice_get w.hosts t.host ≡ Some h)

pub record IsKeptWorld (w : World) : Type 0 where
  pub scheduler : IsKeptScheduler w
  pub lines : HaveTheirHosts w
  pub hosts : (host : ℕ) (h : Host) → slice_get w.hosts host ≡ Some h → IsKeptHost w host h

-- what a world may be made of: a farm that the program keeps, and hosts whose numbers and texts are those of their types
pub record CanBegin (f : Farm) (configs : List RqdConfig) : Type 0 where
  pub farm : IsKeptFarm f
  pub hosts : AllByRecursion IsConfigWithin configs
