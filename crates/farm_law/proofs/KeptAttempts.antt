-- What live attempts keep: where the rows that they name stay, each attempt that is left is as it was.
use Rattle.std.proofs.Common.{◌≡◌, ℕ, ◌≤◌, ◌⊎◌, inl, inr, Bool, true, false, cond, ◌&&◌, eqb, leb, ltb, List, Option, Some, None, refl, sym, subst, ◌∙◌}
use Rattle.std.proofs.lemmas.Bool.{eqb-true}
use Rattle.std.proofs.lemmas.Option.{same_Some}
use Rattle.std.specs.Cmp.Derive.{both_true}
use Rattle.std.specs.List.{find, slice_get}
use Rattle.farm_types.proofs.Changed.{mapped_each}
use Rattle.farm_types.proofs.Lists.{and_both, find_passes, for_some_true, found_is, list_all-at, list_all-from_at}
use Rattle.farm_types.proofs.Passes.{for_some-there}
use Rattle.farm_types.proofs.Stays.{EachStays}
use Rattle.farm_types.specs.Booking.{is_up}
use Rattle.farm_types.specs.declared.attempt.ProcRow.{ProcRow}
use Rattle.farm_types.specs.declared.limits.TheConstants.{LAST_VERSION}
use Rattle.farm_types.specs.declared.rows.HostRow.{HostRow}
use Rattle.farm_types.specs.declared.rows.JobRow.{JobRow}
use Rattle.farm_types.specs.declared.rows.LayerRow.{LayerRow}
use Rattle.farm_types.specs.declared.slot_row.Frame.{Frame}
use Rattle.farm_types.specs.declared.slot_row.SlotRow.{SlotRow}
use Rattle.farm_types.specs.Farm.{Farm, for_some, sub_of, for_any, layer_in}
use Rattle.farm_types.specs.Kept.{KeepsAttempts, KeepsRows, is_kept_frame, is_kept_slot, is_of_pending, is_pending_job, for_both, has_amounts, has_sub, is_on_host, is_subscribed}
use Rattle.farm_types.specs.Lost.{lose_on, lost_row, runs_on}
use Rattle.farm_law.proofs.KeptJobsRows.{frame_kept}
use Rattle.farm_law.proofs.KeptLists.{at_more}
use Rattle.farm_law.proofs.KeptShows.{SubsStay}
use Rattle.farm_law.proofs.Placed.{Each}
use Rattle.farm_law.proofs.RowsStay.{HostStays, RowsStay}

-- ---- what there may be

for_any_none : {X : Type 0} (o : Option X) (test : X → Bool) → o ≡ None → for_any o test ≡ true
for_any_none o test none = rw none refl

for_any_each : {X : Type 0} (o : Option X) (test : X → Bool) → ((x : X) → test x ≡ true) → for_any o test ≡ true
for_any_each None test each = refl
for_any_each (Some x) test each = each x

pub for_any_then : {X : Type 0} (o : Option X) (test more : X → Bool) → ((x : X) → o ≡ Some x → test x ≡ true → more x ≡ true) → for_any o test ≡ true → for_any o more ≡ true
for_any_then None test more weaker passes = refl
for_any_then (Some x) test more weaker passes = weaker x refl passes

-- ---- one slot

-- the attempt of a slot, where it has one, fits the farm
pub record Fits (f : Farm) (s : SlotRow) : Type 0 where
  pub hosted : for_any s.proc (is_on_host f.hosts) ≡ true
  pub measured : for_both s (has_amounts f.layers) ≡ true
  pub billed : for_both s (has_sub f.jobs f.hosts) ≡ true
  pub subscribed : for_any s.proc (is_subscribed f.subs) ≡ true
  pub since : for_any s.proc (λ (p : ProcRow). leb p.since f.moment) ≡ true
  pub versioned : for_any s.proc (λ (p : ProcRow). ltb 0 p.version) ≡ true

pub each_fits : (f : Farm) → KeepsAttempts f → Each (λ i s. Fits f s) f.slots
each_fits f k i s at =
    record {
      hosted = list_all-at (λ (s : SlotRow). for_any s.proc (is_on_host f.hosts)) f.slots i s k.hosted at;
      measured = list_all-at (λ (s : SlotRow). for_both s (has_amounts f.layers)) f.slots i s k.measured at;
      billed = list_all-at (λ (s : SlotRow). for_both s (has_sub f.jobs f.hosts)) f.slots i s k.billed at;
      subscribed = list_all-at (λ (s : SlotRow). for_any s.proc (is_subscribed f.subs)) f.slots i s k.subscribed at;
      since = list_all-at (λ (s : SlotRow). for_any s.proc (λ (p : ProcRow). leb p.since f.moment)) f.slots i s k.since at;
      versioned = list_all-at (λ (s : SlotRow). for_any s.proc (λ (p : ProcRow). ltb 0 p.version)) f.slots i s k.versioned at;
    }

pub attempts_from_each : (f : Farm) → Each (λ i s. Fits f s) f.slots → KeepsAttempts f
attempts_from_each f each =
    record {
      hosted = list_all-from_at (λ (s : SlotRow). for_any s.proc (is_on_host f.hosts)) f.slots (λ i s at. (each i s at).hosted);
      measured = list_all-from_at (λ (s : SlotRow). for_both s (has_amounts f.layers)) f.slots (λ i s at. (each i s at).measured);
      billed = list_all-from_at (λ (s : SlotRow). for_both s (has_sub f.jobs f.hosts)) f.slots (λ i s at. (each i s at).billed);
      subscribed = list_all-from_at (λ (s : SlotRow). for_any s.proc (is_subscribed f.subs)) f.slots (λ i s at. (each i s at).subscribed);
      since = list_all-from_at (λ (s : SlotRow). for_any s.proc (λ (p : ProcRow). leb p.since f.moment)) f.slots (λ i s at. (each i s at).since);
      versioned = list_all-from_at (λ (s : SlotRow). for_any s.proc (λ (p : ProcRow). ltb 0 p.version)) f.slots (λ i s at. (each i s at).versioned);
    }

-- a slot without an attempt fits every farm
pub none_fits : (f : Farm) (s : SlotRow) → s.proc ≡ None → Fits f s
none_fits f s none =
    record {
      hosted = for_any_none s.proc (is_on_host f.hosts) none;
      measured = for_any_each s.frame (λ x. for_any s.proc (has_amounts f.layers x)) (λ x. for_any_none s.proc (has_amounts f.layers x) none);
      billed = for_any_each s.frame (λ x. for_any s.proc (has_sub f.jobs f.hosts x)) (λ x. for_any_none s.proc (has_sub f.jobs f.hosts x) none);
      subscribed = for_any_none s.proc (is_subscribed f.subs) none;
      since = for_any_none s.proc (λ (p : ProcRow). leb p.since f.moment) none;
      versioned = for_any_none s.proc (λ (p : ProcRow). ltb 0 p.version) none;
    }

-- ---- the rows that an attempt names

-- a host that is up stays so, in its boot
pub record ServesRow (old new : HostRow) : Type 0 where
  pub up : is_up old.state ≡ true → is_up new.state ≡ true
  pub boot : new.boot ≡ old.boot

pub serves_same : (row : HostRow) → ServesRow row row
serves_same row = record { up = λ h. h; boot = refl }

-- the host of that number does so, where it is there
abbrev pub Serves : List HostRow → List HostRow → ℕ → Type 0
Serves old new host = (row : HostRow) → slice_get old host ≡ Some row → (now : HostRow) × (slice_get new host ≡ Some now) × ServesRow row now

abbrev pub LayersStay : List LayerRow → List LayerRow → Type 0
LayersStay old new = (job place : ℕ) (l : LayerRow) → layer_in old job place ≡ Some l → layer_in new job place ≡ Some l

-- rows, layers and subscriptions stay, and the moment doesn't fall
pub record NamedStay (f g : Farm) : Type 0 where
  pub rows : RowsStay f g
  pub layers : LayersStay f.layers g.layers
  pub subs : SubsStay f.subs g.subs
  pub moment : f.moment ≤ g.moment

hosted_stays : (old new : List HostRow) (p : ProcRow) → Serves old new p.host → is_on_host old p ≡ true → is_on_host new p ≡ true
hosted_stays old new p serves on =
    let row = for_some_true (slice_get old p.host) _ on in
    let both = and_both (is_up row.0.state) (eqb row.0.boot p.boot) row.2 in
    let now = serves row.0 row.1 in
    for_some-there (slice_get new p.host) _ now.0 now.1 (both_true (now.2.up both.0) (subst (λ (boot : ℕ). eqb boot p.boot ≡ true) (sym now.2.boot) both.1))

measured_stays : (old new : List LayerRow) (x : Frame) (p : ProcRow) → ((l : LayerRow) → layer_in old x.job x.layer ≡ Some l → layer_in new x.job x.layer ≡ Some l) → has_amounts old x p ≡ true → has_amounts new x p ≡ true
measured_stays old new x p stay has =
    let layer = for_some_true (layer_in old x.job x.layer) _ has in
    for_some-there (layer_in new x.job x.layer) _ layer.0 (stay layer.0 layer.1) layer.2

-- what a frame names stays: its layer, and its job's show
pub record FrameStays (f g : Farm) (x : Frame) : Type 0 where
  pub layer : (l : LayerRow) → layer_in f.layers x.job x.layer ≡ Some l → layer_in g.layers x.job x.layer ≡ Some l
  pub job : (j : JobRow) → find (λ (k : JobRow). eqb k.job x.job) f.jobs ≡ Some j → (now : JobRow) × (find (λ (k : JobRow). eqb k.job x.job) g.jobs ≡ Some now) × (now.show ≡ j.show)

-- and so do hosts, subscriptions and the moment
pub record RestStays (f g : Farm) : Type 0 where
  pub hosts : EachStays HostStays f.hosts g.hosts
  pub subs : SubsStay f.subs g.subs
  pub moment : f.moment ≤ g.moment

billed_stays : (f g : Farm) (x : Frame) (p : ProcRow) → EachStays HostStays f.hosts g.hosts → FrameStays f g x → has_sub f.jobs f.hosts x p ≡ true → has_sub g.jobs g.hosts x p ≡ true
billed_stays f g x p hosts stays has =
    let job = for_some_true (find (λ (j : JobRow). eqb j.job x.job) f.jobs) _ has in
    let row = for_some_true (slice_get f.hosts p.host) _ job.2 in
    let job_now = stays.job job.0 job.1 in
    let row_now = hosts p.host row.0 row.1 in
    for_some-there (find (λ (j : JobRow). eqb j.job x.job) g.jobs) _ job_now.0 job_now.1 (for_some-there (slice_get g.hosts p.host) _ row_now.0 row_now.1
    (subst (λ (show : ℕ). eqb p.sub (sub_of show row_now.0.alloc) ≡ true) (sym job_now.2) (subst (λ (alloc : ℕ). eqb p.sub (sub_of job.0.show alloc) ≡ true) (sym row_now.2) row.2)))

-- an attempt whose host serves on fits the farm after
pub slot_fits : (f g : Farm) → RestStays f g → (s : SlotRow) → ((x : Frame) → s.frame ≡ Some x → FrameStays f g x) → ((p : ProcRow) → s.proc ≡ Some p → Serves f.hosts g.hosts p.host) → Fits f s → Fits g s
slot_fits f g rest s frames serves fits =
    record {
      hosted = for_any_then s.proc (is_on_host f.hosts) (is_on_host g.hosts) (λ p is on. hosted_stays f.hosts g.hosts p (serves p is) on) fits.hosted;
      measured =
          for_any_then s.frame (λ x. for_any s.proc (has_amounts f.layers x)) (λ x. for_any s.proc (has_amounts g.layers x))
          (λ x here has. for_any_then s.proc (has_amounts f.layers x) (has_amounts g.layers x) (λ p is h. measured_stays f.layers g.layers x p (frames x here).layer h) has)
          fits.measured;
      billed =
          for_any_then s.frame (λ x. for_any s.proc (has_sub f.jobs f.hosts x)) (λ x. for_any s.proc (has_sub g.jobs g.hosts x))
          (λ x here has. for_any_then s.proc (has_sub f.jobs f.hosts x) (has_sub g.jobs g.hosts x) (λ p is h. billed_stays f g x p rest.hosts (frames x here) h) has)
          fits.billed;
      subscribed = for_any_then s.proc (is_subscribed f.subs) (is_subscribed g.subs) (λ p is there. rest.subs p.sub there) fits.subscribed;
      since = for_any_then s.proc (λ (p : ProcRow). leb p.since f.moment) (λ (p : ProcRow). leb p.since g.moment) (λ p is before. at_more p.since f.moment g.moment rest.moment before) fits.since;
      versioned = fits.versioned;
    }

-- where pending jobs stay, so does what the frame of one names
frame_stays : (f g : Farm) → NamedStay f g → (x : Frame) → is_of_pending f.jobs x.job ≡ true → FrameStays f g x
frame_stays f g named x owned =
    let of_job = for_some_true (find (λ (j : JobRow). eqb j.job x.job) f.jobs) is_pending_job owned in
    record {
      layer = λ l at. named.layers x.job x.layer l at;
      job = λ j at.
          let now = named.rows.jobs x.job j at (subst (λ (k : JobRow). is_pending_job k ≡ true) (same_Some of_job.0 j (sym of_job.1 ∙ at)) of_job.2) in
          (now.0, now.1, now.2);
    }

pub stays_fit : (f g : Farm) → NamedStay f g → (s : SlotRow) → for_any s.frame (λ x. is_of_pending f.jobs x.job) ≡ true → ((p : ProcRow) → s.proc ≡ Some p → Serves f.hosts g.hosts p.host) → Fits f s → Fits g s
stays_fit f g named s owned serves fits =
    slot_fits f g (record { hosts = named.rows.hosts; subs = named.subs; moment = named.moment }) s
    (λ x here. frame_stays f g named x (subst (λ (o : Option Frame). for_any o (λ y. is_of_pending f.jobs y.job) ≡ true) here owned)) serves fits

-- ---- whose frames they are

owned_frame : (f : Farm) → KeepsRows f → (x : Frame) → is_kept_frame f.layers x ≡ true → is_of_pending f.jobs x.job ≡ true
owned_frame f k x kept =
    let layer = for_some_true (layer_in f.layers x.job x.layer) _ (frame_kept f.layers x kept).number in
    let wanted = λ (l : LayerRow). eqb l.job x.job && eqb l.place x.layer in
    let both = and_both (eqb layer.0.job x.job) (eqb layer.0.place x.layer) (found_is wanted f.layers layer.0 layer.1) in
    subst (λ (job : ℕ). is_of_pending f.jobs job ≡ true) (eqb-true layer.0.job x.job both.0)
    (find_passes wanted (λ (l : LayerRow). is_of_pending f.jobs l.job) f.layers layer.0 k.jobs.layers_owned layer.1)

-- each frame is of a pending job
pub frames_owned : (f : Farm) → KeepsRows f → Each (λ i s. for_any s.frame (λ x. is_of_pending f.jobs x.job) ≡ true) f.slots
frames_owned f k i s at =
    let both = and_both (leb s.version LAST_VERSION) (for_any s.frame (is_kept_frame f.layers)) (list_all-at (is_kept_slot f.layers) f.slots i s k.jobs.slots_kept at) in
    for_any_then s.frame (is_kept_frame f.layers) (λ x. is_of_pending f.jobs x.job) (λ x here kept. owned_frame f k x kept) both.1

-- ---- the attempts that are left

-- the slot has no attempt, or it was there, and the host of its attempt serves on
abbrev pub IsLeft : List HostRow → List HostRow → List SlotRow → SlotRow → Type 0
IsLeft old new slots s = (s.proc ≡ None) ⊎ ((i : ℕ) × (slice_get slots i ≡ Some s) × ((p : ProcRow) → s.proc ≡ Some p → Serves old new p.host))

left_fits : (f g : Farm) → NamedStay f g → KeepsRows f → (s : SlotRow) → IsLeft f.hosts g.hosts f.slots s → Fits g s
left_fits f g named k s (inl none) = none_fits g s none
left_fits f g named k s (inr old) = stays_fit f g named s (frames_owned f k old.0 s old.1) old.2 (each_fits f k.attempts old.0 s old.1)

-- where the rows that attempts name stay, and no attempt is new, the attempts keep theirs
pub attempts_left : (f g : Farm) → NamedStay f g → Each (λ i s. IsLeft f.hosts g.hosts f.slots s) g.slots → KeepsRows f → KeepsAttempts g
attempts_left f g named left k = attempts_from_each g (λ i s at. left_fits f g named k s (left i s at))

-- ---- which are left

-- all, where each host serves on
pub left_all : (old new : List HostRow) (slots : List SlotRow) → ((host : ℕ) → Serves old new host) → Each (λ i s. IsLeft old new slots s) slots
left_all old new slots serves i s at = inr (i, at, λ p is. serves p.host)

lost_by : (test : ℕ → Bool) (o : Option ProcRow) (p : ProcRow) → for_some o (λ (q : ProcRow). test q.host) ≡ false → o ≡ Some p → test p.host ≡ false
lost_by test o p passes is = rw is at passes

lost_left : (test : ℕ → Bool) (old new : List HostRow) (slots : List SlotRow) → ((host : ℕ) → test host ≡ false → Serves old new host) → (i : ℕ) (s : SlotRow) (b : Bool) → runs_on test s ≡ b → slice_get slots i ≡ Some s → IsLeft old new slots (cond b (lost_row s) s)
lost_left test old new slots serves i s true runs at = inl refl
lost_left test old new slots serves i s false runs at = inr (i, at, λ p is. serves p.host (lost_by test s.proc p runs is))

-- those that aren't lost, where each other host serves on
pub left_on : (test : ℕ → Bool) (old new : List HostRow) (slots : List SlotRow) → ((host : ℕ) → test host ≡ false → Serves old new host) → Each (λ i s. IsLeft old new slots s) (lose_on test slots)
left_on test old new slots serves =
    mapped_each (λ i s. IsLeft old new slots s) slots (λ (s : SlotRow). cond (runs_on test s) (lost_row s) s)
    (λ i s at. lost_left test old new slots serves i s (runs_on test s) refl at)
