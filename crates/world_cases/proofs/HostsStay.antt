-- Events leave as many hosts as there were.
use Rattle.std.proofs.Common.{◌≡◌, ℕ, true, false, List, [], ◌∷◌, length, take, Option, None, Some, Result, Ok, Err, ap, ◌∙◌, IsSomeAnd, slice_get}
use Rattle.std.specs.Prelude.{⊤}
use Rattle.std.proofs.lemmas.List.{length-map, length-set}
use Rattle.farm_types.specs.Farm.{Farm}
use Rattle.farm_lines.specs.declared.request.Request.{Request}
use Rattle.rqd_core.specs.declared.config.RqdConfig.{RqdConfig}
use Rattle.rqd_core.specs.Life.{is_run}
use Rattle.world_law.specs.declared.event.Event.{Event}
use Rattle.world_law.specs.declared.event.Event.TheVariants as event
use Rattle.world_law.specs.declared.fault.WorldFault.{WorldFault}
use Rattle.world_law.specs.declared.fault.WorldFault.TheVariants as fault
use Rattle.world_law.specs.declared.lines.Sent.{Sent}
use Rattle.world_law.specs.declared.lines.Told.{Told}
use Rattle.world_law.specs.Happens.{Does, Happen, noted, restarted, with_host, with_sent}
use Rattle.world_law.specs.Hosts.{after_exit, after_told, has_used, reborn}
use Rattle.world_law.specs.Lines.{IsAnswered}
use Rattle.world_law.specs.Outcomes.{Outcome}
use Rattle.world_law.specs.World.{History, Host, World, new_host}
use Rattle.world_core.specs.Making.{Makes}
use Rattle.world_core.specs.Running.{Runs}

abbrev IsAsLong : World → World → Type 0
IsAsLong w new = length new.hosts ≡ length w.hosts

as_long : (w v new : World) → IsAsLong w v → new ≡ v → IsAsLong w new
as_long w v new long is = ap (λ (x : World). length x.hosts) is ∙ long

-- a world with another host at a place is one with as many
with_one : (w : World) (host : ℕ) (h : Host) → IsAsLong w (with_host w host h)
with_one w host h = length-set w.hosts host h

sent_one : (w : World) (host : ℕ) (o : Option Host) (new : World) → IsSomeAnd o (λ h. new ≡ with_sent w host h) → IsAsLong w new
sent_one w host None new is = absurd is
sent_one w host (Some h) new is = as_long w (with_sent w host h) new (length-set w.hosts host _) is

answered_one : (w : World) (line moment : ℕ) (refused : Option ℕ) (o : Option Sent) (new : World)
    → IsSomeAnd o (λ s. IsAnswered w line s moment refused new) → IsAsLong w new
answered_one w line moment refused None new is = absurd is
answered_one w line moment refused (Some s) new is = ap (λ (x : World). length x.hosts) is.is

told_host : (w : World) (t : Told) (o : Option Host) (new : World) → IsSomeAnd o (λ h. new ≡ with_host w t.host (after_told h t.line)) → IsAsLong w new
told_host w t None new is = absurd is
told_host w t (Some h) new is = as_long w (with_host w t.host (after_told h t.line)) new (with_one w t.host (after_told h t.line)) is

told_one : (w : World) (o : Option Told) (new : World)
    → IsSomeAnd o (λ (t : Told). IsSomeAnd (slice_get w.hosts t.host) (λ h. new ≡ with_host w t.host (after_told h t.line))) → IsAsLong w new
told_one w None new is = absurd is
told_one w (Some t) new is = told_host w t (slice_get w.hosts t.host) new is

-- so is one with another host where something is known of the one before
changed_one : (w : World) (host : ℕ) (P : Host → Type 0) (change : Host → Host) (o : Option Host) (new : World)
    → IsSomeAnd o (λ (h : Host). P h × (new ≡ with_host w host (change h))) → IsAsLong w new
changed_one w host P change None new is = absurd is
changed_one w host P change (Some h) new is = as_long w (with_host w host (change h)) new (with_one w host (change h)) is.1

started_one : (w : World) (moment : ℕ) (o : Option History) (new : World) → IsSomeAnd o (λ h. new ≡ restarted w h moment) → IsAsLong w new
started_one w moment None new is = absurd is
started_one w moment (Some h) new is = ap (λ (x : World). length x.hosts) is

after_event : (w : World) (e : Event) (new : World) → Does w e new → IsAsLong w new
after_event w (event.Send host) new does = sent_one w host (slice_get w.hosts host) new does
after_event w (event.ToCue line moment refused) new does = answered_one w line moment refused (slice_get w.sent line) new does
after_event w (event.ToHost line) new does = told_one w (slice_get w.told line) new does
after_event w (event.Ended host a exit) new does =
    changed_one w host (λ (h : Host). is_run a h.life.running ≡ true) (λ (h : Host). after_exit h a exit) (slice_get w.hosts host) new does
after_event w (event.NewLife host nonce) new does =
    changed_one w host (λ (h : Host). has_used h nonce ≡ false) (λ (h : Host). reborn h nonce) (slice_get w.hosts host) new does
after_event w (event.Restart None moment) new does = ap (λ (x : World). length x.hosts) does
after_event w (event.Restart (Some place) moment) new does = started_one w moment (slice_get w.further place) new does

after_step : (w : World) (e : Event) (r : Result ⊤ WorldFault) (new : World) → Outcome w e r new → length new.hosts ≡ length w.hosts
after_step w e (Ok done) new out = after_event (noted w e) e new out
after_step w e (Err fault.NoSuch) new out = ap (λ (x : World). length x.hosts) out.1
after_step w e (Err (fault.UsedNonce nonce)) new out = ap (λ (x : World). length x.hosts) out.1
after_step w e (Err fault.NoMemory) new out = ap (λ (x : World). length x.hosts) out

after_events : (w : World) (es : List Event) (new : World) → Happen w es new → IsAsLong w new
after_events w [] new happen = ap (λ (x : World). length x.hosts) happen
after_events w (e ∷ es) new happen = after_events happen.0 es new happen.2 ∙ after_event (noted w e) e happen.0 happen.1

pub hosts_run : (w : World) (es : List Event) (r : Result ⊤ (ℕ × WorldFault)) (new : World) → Runs w es r new → length new.hosts ≡ length w.hosts
hosts_run w es (Ok done) new runs = after_events w es new runs
hosts_run w es (Err stop) new runs =
    after_step runs.before runs.event (Err stop.1) new runs.stopped ∙ after_events w (take stop.0 es) runs.before runs.taken

pub hosts_made : (f : Farm) (configs : List RqdConfig) (asked : List Request) (w : World) → Makes f configs asked (Ok w) → length w.hosts ≡ length configs
hosts_made f configs asked w makes = ap (λ (x : World). length x.hosts) makes.1 ∙ length-map configs new_host
