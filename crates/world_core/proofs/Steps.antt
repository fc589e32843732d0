-- A step, by what its event comes to once it is noted, and what each event comes to.
use Rattle.std.proofs.Common.{◌≡◌, ◌∙◌, ℕ, List, ◌++◌, ◌∷◌, [], Option, None, Some, Result, Ok, Err, IfSome, IsSome, IsSomeAnd, true, false, refl, sym, subst}
use Rattle.std.specs.Prelude.{⊤, OnErr, OnOk, slice_get}
use Rattle.std.proofs.lemmas.Bool.{false≢true}
use Rattle.std.proofs.lemmas.Option.{none-some}
use Rattle.farm_types.specs.declared.attempt.Attempt.{Attempt}
use Rattle.farm_types.specs.declared.attempt.Exit.{Exit}
use Rattle.rqd_core.specs.Life.{is_run}
use Rattle.world_law.specs.declared.event.Event.{Event}
use Rattle.world_law.specs.declared.event.Event.TheVariants as event
use Rattle.world_law.specs.declared.fault.WorldFault.{WorldFault}
use Rattle.world_law.specs.declared.fault.WorldFault.TheVariants as fault
use Rattle.world_law.specs.declared.lines.Sent.{Sent}
use Rattle.world_law.specs.declared.lines.Told.{Told}
use Rattle.world_law.specs.Happens.{Does, noted, restarted, with_host}
use Rattle.world_law.specs.Lines.{IsAnswered}
use Rattle.world_law.specs.Hosts.{after_told}
use Rattle.world_law.specs.Outcomes.{IsThere, IsUsed}
use Rattle.world_law.specs.World.{History, Host, World}
use Rattle.world_core.specs.declared.restarting.Start.{Start}
use Rattle.world_core.specs.Restarting.{IsStart, begun}
use Rattle.world_core.specs.Stepping.{Begins, Comes, Ends, Sends, Steps, Takes, bare, with_events}

-- ---- a step

-- what an event names doesn't go by the events
there_bare : (w : World) (e : Event) → IsThere w e → IsThere (bare w) e
there_bare w (event.Send host) there = there
there_bare w (event.ToCue line moment refused) there = there
there_bare w (event.ToHost line) there = there
there_bare w (event.Ended host a exit) there = there
there_bare w (event.NewLife host nonce) there = there
there_bare w (event.Restart None moment) there = there
there_bare w (event.Restart (Some place) moment) there = there

used_bare : (w : World) (e : Event) (nonce : ℕ) → IsUsed (bare w) e nonce → IsUsed w e nonce
used_bare w (event.Send host) nonce used = used
used_bare w (event.ToCue line moment refused) nonce used = used
used_bare w (event.ToHost line) nonce used = used
used_bare w (event.Ended host a exit) nonce used = used
used_bare w (event.NewLife host told) nonce used = used
used_bare w (event.Restart further moment) nonce used = used

mapped : {X : Type 0} {P Q : X → Type 0} (o : Option X) → ((x : X) → P x → Q x) → IsSomeAnd o P → IsSomeAnd o Q
mapped None each there = there
mapped (Some x) each there = each x there

-- nor does what it does
does_with : (w : World) (e : Event) (n : World) (es : List Event) → Does (bare w) e n → es ≡ w.events ++ e ∷ [] → Does (noted w e) e (with_events n es)
does_with w (event.Send host) n es does is = mapped (slice_get w.hosts host) (λ h new. λ i. with_events (new i) (is i)) does
does_with w (event.ToCue line moment refused) n es does is =
    mapped (slice_get w.sent line) (λ s (a : IsAnswered (bare w) line s moment refused n). record {
      may = a.may;
      left = a.left;
      are_left = a.are_left;
      is = λ i. with_events (a.is i) (is i);
    }) does
does_with w (event.ToHost line) n es does is =
    mapped (slice_get w.told line) (λ (t : Told) on_host. mapped (slice_get w.hosts t.host) (λ h new. λ i. with_events (new i) (is i)) on_host) does
does_with w (event.Ended host a exit) n es does is = mapped (slice_get w.hosts host) (λ h (runs, new). (runs, λ i. with_events (new i) (is i))) does
does_with w (event.NewLife host nonce) n es does is = mapped (slice_get w.hosts host) (λ h (fresh, new). (fresh, λ i. with_events (new i) (is i))) does
does_with w (event.Restart None moment) n es does is = λ i. with_events (does i) (is i)
does_with w (event.Restart (Some place) moment) n es does is = mapped (slice_get w.further place) (λ h new. λ i. with_events (new i) (is i)) does

-- the event is noted behind the others where it happened
pub steps_noted : (w : World) (e : Event) (r : Result ⊤ WorldFault) (n : World) (es : List Event) → Comes (bare w) e r n
    → OnOk r (es ≡ w.events ++ e ∷ []) → OnErr r (es ≡ w.events)
    → Steps w e r (with_events n es)
unfolding Comes Steps
steps_noted w e (Ok done) n es comes is same = does_with w e n es comes is
steps_noted w e (Err fault.NoSuch) n es (not_there, at) is same = ((λ there. not_there (there_bare w e there)), λ i. with_events (at i) (same i))
steps_noted w e (Err (fault.UsedNonce nonce)) n es (used, at) is same = (used_bare w e nonce used, λ i. with_events (at i) (same i))
steps_noted w e (Err fault.NoMemory) n es at is same = λ i. with_events (at i) (same i)

-- ---- events of hosts

abbrev pub with_hosts : World → List Host → World
with_hosts w hosts = record w { hosts = hosts }

pub none_there : {X : Type 0} (o : Option X) → o ≡ None → IsSome o → ⊥
none_there None is there = absurd (false≢true there)
none_there (Some x) is there = none-some x (sym is)

pub send_comes : (w : World) (host : ℕ) (r : Result ⊤ WorldFault) (hosts : List Host) (sent : List Sent) → Sends w.hosts w.sent host r hosts sent
    → Comes w (event.Send host) r (record w { hosts = hosts; sent = sent })
unfolding Comes
send_comes w host (Ok done) hosts sent sends = mapped (slice_get w.hosts host) (λ h (news, lines). λ i. record w { hosts = news i; sent = lines i }) sends
send_comes w host (Err fault.NoSuch) hosts sent (none, news, lines) = (none_there (slice_get w.hosts host) none, λ i. record w { hosts = news i; sent = lines i })
send_comes w host (Err (fault.UsedNonce nonce)) hosts sent never = absurd never
send_comes w host (Err fault.NoMemory) hosts sent (news, lines) = λ i. record w { hosts = news i; sent = lines i }

pub end_comes : (w : World) (host : ℕ) (a : Attempt) (exit : Exit) (r : Result ⊤ WorldFault) (hosts : List Host) → Ends w.hosts host a exit r hosts
    → Comes w (event.Ended host a exit) r (with_hosts w hosts)
unfolding Comes
end_comes w host a exit (Ok done) hosts ends = mapped (slice_get w.hosts host) (λ h (runs, news). (runs, λ i. with_hosts w (news i))) ends
end_comes w host a exit (Err fault.NoSuch) hosts (none, news) = (not_running (slice_get w.hosts host) none, λ i. with_hosts w (news i))
  where
    not_running : (o : Option Host) → IfSome o (λ (h : Host). is_run a h.life.running ≡ false) → IsSomeAnd o (λ (h : Host). is_run a h.life.running ≡ true) → ⊥
    not_running None idle there = there
    not_running (Some h) idle there = false≢true (sym idle ∙ there)
end_comes w host a exit (Err (fault.UsedNonce nonce)) hosts never = absurd never
end_comes w host a exit (Err fault.NoMemory) hosts never = absurd never

pub begin_comes : (w : World) (host nonce : ℕ) (r : Result ⊤ WorldFault) (hosts : List Host) → Begins w.hosts host nonce r hosts
    → Comes w (event.NewLife host nonce) r (with_hosts w hosts)
unfolding Comes
begin_comes w host nonce (Ok done) hosts begins = mapped (slice_get w.hosts host) (λ h (new, news). (new, λ i. with_hosts w (news i))) begins
begin_comes w host nonce (Err fault.NoSuch) hosts (none, news) = (none_there (slice_get w.hosts host) none, λ i. with_hosts w (news i))
begin_comes w host nonce (Err (fault.UsedNonce told)) hosts (same, used, news) = ((same, used), λ i. with_hosts w (news i))
begin_comes w host nonce (Err fault.NoMemory) hosts news = λ i. with_hosts w (news i)

-- ---- a line that comes to its host

pub tell_none : (w : World) (line : ℕ) → slice_get w.told line ≡ None → Comes w (event.ToHost line) (Err fault.NoSuch) w
unfolding Comes
tell_none w line none = (none_told (slice_get w.told line) none, refl)
  where
    none_told : (o : Option Told) → o ≡ None → IsSomeAnd o (λ (t : Told). IsSome (slice_get w.hosts t.host)) → ⊥
    none_told None is there = there
    none_told (Some t) is there = none-some t (sym is)

pub tell_comes : (w : World) (line : ℕ) (t : Told) (r : Result ⊤ WorldFault) (hosts : List Host) → slice_get w.told line ≡ Some t
    → Takes w.hosts t.host t.line r hosts
    → Comes w (event.ToHost line) r (with_hosts w hosts)
unfolding Comes
tell_comes w line t (Ok done) hosts there takes =
    subst (λ (o : Option Told). IsSomeAnd o (λ (t : Told). IsSomeAnd (slice_get w.hosts t.host) (λ h. with_hosts w hosts ≡ with_host w t.host (after_told h t.line)))) (sym there)
    (mapped (slice_get w.hosts t.host) (λ h news. λ i. with_hosts w (news i)) takes)
tell_comes w line t (Err fault.NoSuch) hosts there (none, news) = (
  λ named.
      none_there (slice_get w.hosts t.host) none (subst (λ (o : Option Told). IsSomeAnd o (λ (t : Told). IsSome (slice_get w.hosts t.host))) there named),
  λ i. with_hosts w (news i),
)
tell_comes w line t (Err (fault.UsedNonce nonce)) hosts there never = absurd never
tell_comes w line t (Err fault.NoMemory) hosts there news = λ i. with_hosts w (news i)

-- ---- a start

pub start_none : (w : World) (place moment : ℕ) → slice_get w.further place ≡ None → Comes w (event.Restart (Some place) moment) (Err fault.NoSuch) w
unfolding Comes
start_none w place moment none = (none_there (slice_get w.further place) none, refl)

pub no_memory : (w : World) (e : Event) → Comes w e (Err fault.NoMemory) w
unfolding Comes
no_memory w e = refl

begun_is : (w : World) (h : History) (moment : ℕ) (s : Start) → IsStart h moment s → begun w s ≡ restarted w h moment
begun_is w h moment s is = λ i. record w { now = is.now i; further = []; opened = is.opened i; entries = is.entries i }

pub start_now : (w : World) (moment : ℕ) (done : ⊤) (s : Start) (new : World) → IsStart w.now moment s → new ≡ begun w s
    → Comes w (event.Restart None moment) (Ok done) new
unfolding Comes
start_now w moment done s new is begins = begins ∙ begun_is w w.now moment s is

pub start_further : (w : World) (place moment : ℕ) (done : ⊤) (h : History) (s : Start) (new : World) → slice_get w.further place ≡ Some h
    → IsStart h moment s → new ≡ begun w s
    → Comes w (event.Restart (Some place) moment) (Ok done) new
unfolding Comes
start_further w place moment done h s new there is begins =
    subst (λ (o : Option History). IsSomeAnd o (λ h. new ≡ restarted w h moment)) (sym there) (begins ∙ begun_is w h moment s is)
