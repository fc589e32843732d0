-- The books beside the book of depends: what the one says of the other's farm.
use Rattle.std.proofs.Common.{◌≡◌, ℕ, Option, None, Some, refl}
use Rattle.farm_types.specs.declared.entry.Act.{Act}
use Rattle.farm_types.specs.declared.entry.Act.TheVariants.{Opened, Show, Alloc, Sub, Limit, Boot, Heard, Submit, AddDepend, DropDepend, Pause, KillJob, KillFrame, EatFrame, RetryFrame, Lock, Tick, Book}
use Rattle.farm_types.specs.Farm.{Farm}
use Rattle.farm_types.specs.Kept.{KeepsAttempts, KeepsRows}
use Rattle.farm_types.specs.Operators.{slot_named}
use Rattle.farm_types.specs.Run.{IsSound}
use Rattle.farm_types.specs.declared.job.JobSpec.{JobSpec}
use Rattle.farm_types.specs.Step.{act_refusal, after_submit}
use Rattle.farm_rows.specs.Changes.{beside}
use Rattle.farm_changes.specs.Change.{FitsMore, IsReady, after_change, with_more, with_rows}
use Rattle.farm_changes.specs.declared.change.Change.{Change}
use Rattle.farm_changes.specs.declared.change.More.{More}
use Rattle.farm_changes.specs.declared.change.More.TheVariants as more
use Rattle.depend_book.specs.Book.{DependLists, joined}

-- ---- what is kept

attempts_apart : (f : Farm) (b : DependLists) → KeepsAttempts (joined f b) → KeepsAttempts f
attempts_apart f b k = record { hosted = k.hosted; measured = k.measured; billed = k.billed; subscribed = k.subscribed; since = k.since; versioned = k.versioned }

sound_apart : (f : Farm) (b : DependLists) → IsSound (joined f b) → IsSound f
sound_apart f b k = record { cores = k.cores; memory = k.memory; attempts = k.attempts }

-- the rows are those of the books alone
pub rows_apart : (f : Farm) (b : DependLists) → KeepsRows (joined f b) → KeepsRows f
rows_apart f b k =
    record {
      moment_within = k.moment_within;
      shows = k.shows;
      allocs = k.allocs;
      subs = k.subs;
      limits = k.limits;
      hosts = k.hosts;
      jobs = k.jobs;
      attempts = attempts_apart f b k.attempts;
      sound = sound_apart f b k.sound;
    }

-- ---- changes

with_more_joined : (f : Farm) (b : DependLists) (moment : ℕ) (m : More) → joined (with_more f moment m) b ≡ with_more (joined f b) moment m
with_more_joined f b moment more.Nothing = refl
with_more_joined f b moment (more.Show name) = refl
with_more_joined f b moment (more.Alloc facility tag) = refl
with_more_joined f b moment (more.Sub sub size burst) = refl
with_more_joined f b moment (more.Limit planned name most) = refl
with_more_joined f b moment (more.Boot planned line) = refl
with_more_joined f b moment (more.Paused job paused) = refl
with_more_joined f b moment (more.Job placing spec) = refl

pub joined_change : (f : Farm) (b : DependLists) (change : Change) → joined (after_change f change) b ≡ after_change (joined f b) change
joined_change f b change = with_more_joined (with_rows f change) b change.moment change.more

more_apart : (f : Farm) (b : DependLists) (m : More) → FitsMore (joined f b) m → FitsMore f m
more_apart f b more.Nothing fits = fits
more_apart f b (more.Show name) fits = fits
more_apart f b (more.Alloc facility tag) fits = fits
more_apart f b (more.Sub sub size burst) fits = fits
more_apart f b (more.Limit planned name most) fits = record { check = fits.check; there = fits.there }
more_apart f b (more.Boot planned line) fits = fits
more_apart f b (more.Paused job paused) fits = fits
more_apart f b (more.Job placing spec) fits = record { limits = fits.limits; accepted = fits.accepted; placed = fits.placed }

more_joined : (f : Farm) (b : DependLists) (m : More) → FitsMore f m → FitsMore (joined f b) m
more_joined f b more.Nothing fits = fits
more_joined f b (more.Show name) fits = fits
more_joined f b (more.Alloc facility tag) fits = fits
more_joined f b (more.Sub sub size burst) fits = fits
more_joined f b (more.Limit planned name most) fits = record { check = fits.check; there = fits.there }
more_joined f b (more.Boot planned line) fits = fits
more_joined f b (more.Paused job paused) fits = fits
more_joined f b (more.Job placing spec) fits = record { limits = fits.limits; accepted = fits.accepted; placed = fits.placed }

-- a change that fits the farm fits its books, and the other way round
pub ready_apart : (f : Farm) (b : DependLists) (change : Change) → IsReady (joined f b) change → IsReady f change
ready_apart f b change ready =
    record { rows = record { hosts_there = ready.rows.hosts_there; slots_ready = ready.rows.slots_ready; slots_stood = ready.rows.slots_stood; slots_differ = ready.rows.slots_differ }; more = more_apart (with_rows f change) b change.more ready.more }

pub ready_joined : (f : Farm) (b : DependLists) (change : Change) → IsReady f change → IsReady (joined f b) change
ready_joined f b change ready =
    record { rows = record { hosts_there = ready.rows.hosts_there; slots_ready = ready.rows.slots_ready; slots_stood = ready.rows.slots_stood; slots_differ = ready.rows.slots_differ }; more = more_joined (with_rows f change) b change.more ready.more }

-- ---- refusals

pub refusal_joined : (f : Farm) (b : DependLists) (act : Act) → act_refusal (joined f b) act ≡ act_refusal f act
unfolding slot_named
refusal_joined f b Opened = refl
refusal_joined f b (Show name) = refl
refusal_joined f b (Alloc facility tag) = refl
refusal_joined f b (Sub line) = refl
refusal_joined f b (Limit name most) = refl
refusal_joined f b (Boot line) = refl
refusal_joined f b (Heard heard) = refl
refusal_joined f b (Submit spec) = refl
refusal_joined f b (AddDepend spec) = refl
refusal_joined f b (DropDepend depend) = refl
refusal_joined f b (Pause job paused) = refl
refusal_joined f b (KillJob job) = refl
refusal_joined f b (KillFrame p) = refl
refusal_joined f b (EatFrame p) = refl
refusal_joined f b (RetryFrame p) = refl
refusal_joined f b (Lock host lock) = refl
refusal_joined f b Tick = refl
refusal_joined f b (Book slot host) = refl

-- ---- depends

own_more : (f : Farm) (moment : ℕ) (m : More) → beside (with_more f moment m) f.depends f.met f.next_depend ≡ with_more f moment m
own_more f moment more.Nothing = refl
own_more f moment (more.Show name) = refl
own_more f moment (more.Alloc facility tag) = refl
own_more f moment (more.Sub sub size burst) = refl
own_more f moment (more.Limit planned name most) = refl
own_more f moment (more.Boot planned line) = refl
own_more f moment (more.Paused job paused) = refl
own_more f moment (more.Job placing spec) = refl

-- a change leaves the depends
pub depends_stay : (f : Farm) (change : Change) → beside (after_change f change) f.depends f.met f.next_depend ≡ after_change f change
depends_stay f change = own_more (with_rows f change) change.moment change.more

pub depends_placed : (f : Farm) (spec : JobSpec) (o : Option ℕ) → beside (after_submit f spec o) f.depends f.met f.next_depend ≡ after_submit f spec o
depends_placed f spec None = refl
depends_placed f spec (Some show) = refl
