-- What a row of a frame says that fits the rows before it.
use Rattle.std.proofs.Common.{◌≡◌, ◌<◌, ℕ, true, not, Option, Some, None, List, length, refl, sym, ap, subst, ◌∙◌}
use Rattle.std.specs.Prelude.{slice_get, is_some, option_and_then, option_map}
use Rattle.std.specs.Cmp.Derive.{both_true}
use Rattle.std.proofs.lemmas.Bool.{eq-eqb, false≢true}
use Rattle.std.proofs.lemmas.Option.{same_Some, slice_get_within}
use Rattle.farm_types.specs.declared.attempt.ProcRow.{ProcRow}
use Rattle.farm_types.specs.declared.rows.HostRow.{HostRow}
use Rattle.farm_types.specs.declared.rows.JobRow.{JobRow}
use Rattle.farm_types.specs.declared.rows.LayerRow.{LayerRow}
use Rattle.farm_types.specs.declared.slot_row.Frame.{Frame}
use Rattle.farm_types.specs.declared.slot_row.SlotRow.{SlotRow}
use Rattle.farm_types.specs.Farm.{Farm, is_placed, job_at, layer_at, slot_from, sub_at, sub_of}
use Rattle.farm_rows.specs.declared.frame_row.StoredFrame.{StoredFrame}
use Rattle.farm_rows.specs.declared.frame_row.StoredState.{StoredState}
use Rattle.farm_rows.specs.declared.frame_row.StoredState.TheVariants as stored
use Rattle.farm_rows.specs.Recovery.{attempt_at, attempt_fits, attempt_of, frame_of, position_of, taken_fits}
use Rattle.farm_rows.proofs.FrameFits.{attempt_parts, frame_parts, takes_parts}
use Rattle.stored_rows.specs.Known.{stands_in}

pub taken_attempt : (f : Farm) (version : ℕ) (x : StoredFrame) → taken_fits f version (Some x) ≡ true → attempt_fits f version x x.state ≡ true
taken_attempt f version x h = (frame_parts f version x h).attempt

-- the frame's place has no slot, and its number is its layer's
abbrev pub FreeAt : List LayerRow → List SlotRow → Option Frame → Type 0
FreeAt layers slots None = Unit {0}
FreeAt layers slots (Some x) = (slot_from 0 (is_placed x.job x.layer x.position) slots ≡ None) × (stands_in layers x ≡ true)

none_there : (o : Option ℕ) → not (is_some o) ≡ true → o ≡ None
none_there None h = refl
none_there (Some n) h = absurd (false≢true h)

pub free_at : (f : Farm) (slot version : ℕ) (frame : Option StoredFrame) → taken_fits f version frame ≡ true → FreeAt f.layers f.slots (option_map (frame_of f) frame)
free_at f slot version None h = tt
free_at f slot version (Some x) h =
    let parts = frame_parts f version x h in
    (none_there (slot_from 0 (is_placed x.job x.layer (position_of f x)) f.slots) parts.apart, both_true parts.numbered (eq-eqb (position_of f x) (position_of f x) refl))

-- the attempt's host is there
abbrev pub OnHost : List HostRow → Option ProcRow → Type 0
OnHost hosts None = Unit {0}
OnHost hosts (Some p) = p.host < length hosts

attempt_host : (f : Farm) (slot version : ℕ) (x : StoredFrame) (state : StoredState) → attempt_fits f version x state ≡ true → OnHost f.hosts (attempt_at f slot version x state)
attempt_host f slot version x (stored.Running boot host since) h =
    let k = attempt_parts f version x boot host since h in
    rw (k.has_job, k.has_layer, k.has_host) (slice_get_within f.hosts host k.on k.has_host)
attempt_host f slot version x stored.Waiting h = tt
attempt_host f slot version x stored.Setup h = tt
attempt_host f slot version x stored.Succeeded h = tt
attempt_host f slot version x stored.Depend h = tt
attempt_host f slot version x stored.Dead h = tt
attempt_host f slot version x stored.Eaten h = tt

pub host_of : (f : Farm) (slot version : ℕ) (frame : Option StoredFrame) → taken_fits f version frame ≡ true → OnHost f.hosts (option_and_then (λ x. attempt_at f slot version x x.state) frame)
host_of f slot version None h = tt
host_of f slot version (Some x) h = attempt_host f slot version x x.state (taken_attempt f version x h)

-- ---- the attempt at a running frame

module _ (f : Farm) (x : StoredFrame) (state : StoredState) (boot host since : ℕ) (is : state ≡ stored.Running boot host since) (job : JobRow) (on : HostRow) (has_job : job_at f x.job ≡ Some job) (has_host : slice_get f.hosts host ≡ Some on) where
  pub running_sub : (version : ℕ) → attempt_fits f version x state ≡ true → is_some (sub_at f (sub_of job.show on.alloc)) ≡ true
  running_sub version h =
      let k = attempt_parts f version x boot host since (subst (λ (s : StoredState). attempt_fits f version x s ≡ true) is h) in
      let jobs : k.job ≡ job = same_Some k.job job (sym k.has_job ∙ has_job) in
      let takes = takes_parts f boot host k.job k.layer k.on k.takes in
      let hosts : k.on ≡ on = same_Some k.on on (sym k.has_host ∙ has_host) in
      (λ i. is_some (sub_at f (sub_of (sym jobs i).show (sym hosts i).alloc))) ∙ takes.subscribed

  pub running_attempt : (slot version : ℕ) (layer : LayerRow) → layer_at f x.job x.layer ≡ Some layer → attempt_at f slot version x state ≡ Some (attempt_of slot version boot host since job layer on)
  running_attempt slot version layer has_layer = ap (attempt_at f slot version x) is ∙ rw (has_job, has_layer, has_host) refl
