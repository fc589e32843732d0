-- What a life of RQD keeps, and what its calls say.
use Rattle.std.specs.Prelude.{ℕ, ◌≡◌, ◌≤◌, ◌<◌, ◌+◌, true, List, length, map, None, IfOk, Result, Ok, Err}
use Rattle.std.specs.List.{All, IsDistinct}
use Rattle.std.specs.Vec.{vec_capacity}
use Rattle.farm_types.specs.declared.attempt.Attempt.{Attempt}
use Rattle.farm_types.specs.Run.{is_same}
use Rattle.farm_lines.specs.declared.launch.Launch.{Launch}
use Rattle.rqd_core.specs.declared.orders.Orders.{Orders}
use Rattle.rqd_core.specs.declared.orders.RqdFault.{RqdFault}
use Rattle.rqd_core.specs.declared.orders.RqdFault.TheVariants as fault
use Rattle.rqd_core.specs.declared.rqd.Rqd.TheInside.{Inside}
use Rattle.rqd_core.specs.declared.running.Running.{Running}
use Rattle.rqd_core.specs.Life.{Life, attempts_of, cores_of, is_run}
use Rattle.rqd_core.specs.declared.limits.TheConstants.{LAST_SEQ}
use Rattle.rqd_core.specs.declared.planned.Planned.{Planned}
use Rattle.rqd_core.specs.declared.taking.Taking.{Taking}
use Rattle.farm_lines.specs.declared.reply.ReportReply.{ReportReply}
use Rattle.rqd_core.specs.Replies.{Taken, after_report, all_launched, answered, first_taking}

-- The running attempts differ, and their cores don't pass the total.
pub record IsWithin (running : List Running) (total : ℕ) : Type 0 where
  pub differ : IsDistinct is_same (attempts_of running)
  pub cores : cores_of running ≤ total

abbrev pub life_of : Inside → Life
life_of a = record { config = a.config; running = a.running.items; finished = a.finished.items; boot = a.boot; seq = a.seq; awaited = a.awaited }

-- The attempts stand beside the running list, and each of them has room where it ends.
pub record KeepsLife (a : Inside) : Type 0 where
  pub within : IsWithin a.running.items a.config.cores
  pub attempts : a.attempts ≡ attempts_of a.running.items
  pub room : length a.finished.items + length a.running.items ≤ vec_capacity a.finished

-- the starts are different attempts, which run from then on
pub record AreStarted (starts : List Launch) (running : List Running) : Type 0 where
  pub differ : IsDistinct is_same (map (λ (l : Launch). l.attempt) starts)
  pub run : All (λ (l : Launch). is_run l.attempt running ≡ true) starts

-- what a reply comes to is what the call answers and leaves; where memory ran out nothing has changed
abbrev pub ComesTo : Life → Taken → Result Orders RqdFault → Life → Type 0
ComesTo old taken (Err fault.NoMemory) new = new ≡ old
ComesTo old taken result new = (result ≡ taken.told) × (new ≡ taken.life)

-- ---- what the reply to the latest report leaves

-- the lists of a taking, with room for the end of each running attempt, and its orders
pub record IsReadyFor (t : Taking) (stops : List Attempt) (p : Planned) : Type 0 where
  pub running : p.running.items ≡ t.running
  pub attempts : p.attempts ≡ attempts_of t.running
  pub finished : p.finished.items ≡ t.finished
  pub room : length t.finished + length t.running ≤ vec_capacity p.finished
  pub orders : p.orders ≡ record { starts = t.starts; stops = stops; refused = t.refused }

abbrev pub taking_for : Life → ReportReply → Taking
taking_for l r = all_launched (first_taking l r.acks) r.launches

-- the life may have these lists
pub record CanInstall (l : Life) (p : Planned) : Type 0 where
  pub within : IsWithin p.running.items l.config.cores
  pub attempts : p.attempts ≡ attempts_of p.running.items
  pub room : length p.finished.items + length p.running.items ≤ vec_capacity p.finished

abbrev pub installed : Life → Planned → Life
installed l p = record l { running = p.running.items; finished = p.finished.items; awaited = None }

-- the lists are those that the reply leaves, and its orders
pub record Follows (l : Life) (r : ReportReply) (p : Planned) : Type 0 where
  pub can : CanInstall l p
  pub life : installed l p ≡ (after_report (answered l) r).life
  pub told : (after_report (answered l) r).told ≡ Ok p.orders

-- a report may be sent with this boot number: there is a greater sequence number
abbrev pub CanSend : Life → Type 0
CanSend l = l.seq < LAST_SEQ

-- the starts of a reply, if it orders any, are different attempts, which run in the life that it leaves
abbrev pub IsStarting : Taken → Type 0
IsStarting t = IfOk t.told (λ (o : Orders). AreStarted o.starts t.life.running)
