-- What each event does to a world.
use Rattle.std.specs.Prelude.{ℕ, ◌≡◌, ◌<◌, ◌^◌, List, [], ◌∷◌, ◌++◌, true, false, None, Some, IsSomeAnd, slice_get, slice_set}
use Rattle.farm_types.specs.declared.entry.Act.TheVariants.{Opened}
use Rattle.farm_types.specs.declared.entry.Entry.{Entry}
use Rattle.farm_types.specs.Step.{after}
use Rattle.rqd_core.specs.Life.{is_run, line_of}
use Rattle.world_law.specs.declared.event.Event.{Event}
use Rattle.world_law.specs.declared.event.Event.TheVariants as event
use Rattle.world_law.specs.declared.lines.Told.{Told}
use Rattle.world_law.specs.Hosts.{after_exit, after_send, after_told, has_used, reborn}
use Rattle.world_law.specs.Lines.{IsAnswered}
use Rattle.world_law.specs.World.{History, Host, World}

-- the world with another host at that place
abbrev pub with_host : World → ℕ → Host → World
with_host w host h = record w { hosts = slice_set w.hosts host h }

-- its line is sent, and it awaits the reply
abbrev pub with_sent : World → ℕ → Host → World
with_sent w host h = record (with_host w host (after_send h)) { sent = w.sent ++ record { host = Some host; line = line_of h.life } ∷ [] }

abbrev pub opened_entry : ℕ → Entry
opened_entry moment = record { moment = moment; act = Opened }

-- the scheduler starts again with the farm of that history, and Opened follows
abbrev pub restarted : World → History → ℕ → World
restarted w h moment =
    record w { now = record h { farm = after h.farm (opened_entry moment) }; further = []; opened = h.farm; entries = opened_entry moment ∷ [] }

-- the event is among those that were taken
abbrev pub noted : World → Event → World
noted w e = record w { events = w.events ++ e ∷ [] }

-- what it does beside
abbrev pub Does : World → Event → World → Type 0
Does w (event.Send host) new = IsSomeAnd (slice_get w.hosts host) (λ h. new ≡ with_sent w host h)
Does w (event.ToCue line moment refused) new = IsSomeAnd (slice_get w.sent line) (λ s. IsAnswered w line s moment refused new)
Does w (event.ToHost line) new =
    IsSomeAnd (slice_get w.told line) (λ (t : Told). IsSomeAnd (slice_get w.hosts t.host) (λ h. new ≡ with_host w t.host (after_told h t.line)))
Does w (event.Ended host a exit) new =
    IsSomeAnd (slice_get w.hosts host) (λ (h : Host). (is_run a h.life.running ≡ true) × (new ≡ with_host w host (after_exit h a exit)))
Does w (event.NewLife host nonce) new =
    IsSomeAnd (slice_get w.hosts host) (λ (h : Host). (has_used h nonce ≡ false) × (new ≡ with_host w host (reborn h nonce)))
Does w (event.Restart None moment) new = new ≡ restarted w w.now moment
Does w (event.Restart (Some place) moment) new = IsSomeAnd (slice_get w.further place) (λ h. new ≡ restarted w h moment)

-- the event happens in the world, and makes the other one of it
abbrev pub Happens : World → Event → World → Type 0
Happens w e new = Does (noted w e) e new

-- the events happen, in order
abbrev pub Happen : World → List Event → World → Type 0
Happen w [] new = new ≡ w
Happen w (e ∷ es) new = (next : World) × Happens w e next × Happen next es new

-- each number is one of its type
abbrev pub IsOfTypes : Event → Type 0
IsOfTypes (event.ToCue line moment refused) = moment < 2 ^ 64
IsOfTypes (event.Ended host a exit) = (exit.status < 2 ^ 32) × (exit.signal < 2 ^ 32)
IsOfTypes (event.NewLife host nonce) = nonce < 2 ^ 64
IsOfTypes (event.Restart further moment) = moment < 2 ^ 64
IsOfTypes other = Unit {0}
