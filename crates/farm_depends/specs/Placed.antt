-- A job that is placed, with its depends.
use Rattle.std.specs.Prelude.{ℕ, ℤ, ◌≡◌, ◌==◌, ◌∷◌, [], Bool, false, List, Option, None, Some, Result, Ok, Err, filter, length, option_map, if◌then◌else◌}
use Rattle.farm_types.specs.declared.depend.DependEnd.{DependEnd}
use Rattle.farm_types.specs.declared.depend.DependSpec.{DependSpec}
use Rattle.farm_types.specs.declared.depend.Group.{Group}
use Rattle.farm_types.specs.declared.depend.LayerShape.{LayerShape}
use Rattle.farm_types.specs.declared.depend.Place.{Place}
use Rattle.farm_types.specs.declared.depend.Shape.{Shape}
use Rattle.farm_types.specs.declared.entry.Act.TheVariants as act
use Rattle.farm_types.specs.declared.job.JobSpec.{JobSpec}
use Rattle.farm_types.specs.declared.job.LayerSpec.{LayerSpec}
use Rattle.farm_types.specs.declared.refusal.Refusal.{Refusal}
use Rattle.farm_types.specs.declared.refusal.Refusal.TheVariants.{SelfDepend}
use Rattle.farm_types.specs.DependActs.{or_else, waits_for_itself}
use Rattle.farm_types.specs.Depends.{shape_of}
use Rattle.farm_types.specs.Farm.{Farm, show_named}
use Rattle.farm_types.specs.Formed.{IsFormedJob}
use Rattle.farm_types.specs.Groups.{all_slots, groups_by, part_of}
use Rattle.farm_types.specs.Kept.{KeepsRows}
use Rattle.farm_types.specs.Names.{frame_name}
use Rattle.farm_types.specs.Step.{act_refusal, after_submit}
use Rattle.depend_graph.specs.Graph.{no_marks}
use Rattle.depend_book.specs.declared.new_depend.NewDepend.{NewDepend}
use Rattle.farm_types.specs.declared.fault.FarmFault.{FarmFault}
use Rattle.farm_types.specs.declared.fault.FarmFault.TheVariants.{Refused, NoMemory}
use Rattle.farm_depends.specs.declared.new_depends.room.Counts.{Counts}
use Rattle.farm_depends.specs.declared.follow.Follow.{Follow}
use Rattle.farm_depends.specs.declared.new_depends.own_job.OwnJob.{OwnJob}
use Rattle.farm_depends.specs.Coming.{all_unmet_by, counts_full}
use Rattle.farm_places.specs.Ends.{shape_refusal}
use Rattle.farm_depends.specs.Follow.{is_listed}

-- the farm with the job of a spec
abbrev pub placed : Farm → JobSpec → Farm
placed f spec = after_submit f spec (show_named f spec.show)

-- the farm doesn't refuse the job, and keeps its rows before and after
pub record CanPlace (f : Farm) (spec : JobSpec) : Type 0 where
  pub formed : IsFormedJob spec
  pub accepted : act_refusal f (act.Submit spec) ≡ None
  pub rows : KeepsRows f
  pub rows_then : KeepsRows (placed f spec)

-- the number that the job gets, and its shape once it is placed
pub record IsOwn (f : Farm) (spec : JobSpec) (own : OwnJob) : Type 0 where
  pub number : own.job ≡ f.next_job
  pub shape_is : own.shape ≡ shape_of (placed f spec) f.next_job

-- the shapes of layers whose frames go into these slots
abbrev pub own_shapes : List LayerSpec → List (List ℕ) → List LayerShape
own_shapes [] places = []
own_shapes (l ∷ ls) [] = []
own_shapes (l ∷ ls) (slots ∷ places) = record { name = l.name; numbers = l.numbers; slots = slots } ∷ own_shapes ls places

-- ---- ends in the job itself

-- the end, or exactly what is refused of it
abbrev pub EndsIn : OwnJob → Place → Result DependEnd FarmFault → Type 0
EndsIn own p (Ok e) = (shape_refusal own.shape p.layer p.frame ≡ None) × (e ≡ record { job = own.job; layer = p.layer; frame = p.frame })
EndsIn own p (Err (Refused why)) = shape_refusal own.shape p.layer p.frame ≡ Some why
EndsIn own p (Err NoMemory) = Unit {0}

-- ---- names of frames

-- the number of the frame in a slot, where it is among these
abbrev pub number_among : ℕ → List ℤ → List ℕ → Option ℤ
number_among slot [] slots = None
number_among slot (n ∷ ns) [] = None
number_among slot (n ∷ ns) (s ∷ ss) = if s == slot then Some n else number_among slot ns ss

-- the name of the frame of that number, where there is one, and else the other name
abbrev pub named_or : List ℕ → Option ℤ → List ℕ → List ℕ
named_or layer None other = other
named_or layer (Some number) other = frame_name number layer

-- the name of the job's frame in a slot
abbrev pub name_in : List LayerShape → ℕ → List ℕ
name_in [] slot = []
name_in (l ∷ ls) slot = named_or l.name (number_among slot l.numbers l.slots) (name_in ls slot)

-- ---- refusals

-- what is refused of groups in which frames of the job wait: none of those runs
abbrev pub own_refusal : List LayerShape → Counts → List Group → Option Refusal
own_refusal layers c groups = or_else (option_map (λ slot. SelfDepend (name_in layers slot)) (waits_for_itself groups)) (counts_full c (length groups))

-- the groups of a depend in which the job waits for frames of that shape
abbrev pub own_groups : OwnJob → Shape → DependSpec → List Group
own_groups own target spec = groups_by spec.kind spec.any (part_of spec.waiter) (part_of spec.target) own.shape target

-- the groups, or exactly what is refused of them
abbrev pub GroupsBetween : OwnJob → Shape → Counts → DependSpec → Result (List Group) FarmFault → Type 0
GroupsBetween own target c spec (Ok groups) = (own_refusal own.shape.layers c groups ≡ None) × (groups ≡ own_groups own target spec)
GroupsBetween own target c spec (Err (Refused why)) = own_refusal own.shape.layers c (own_groups own target spec) ≡ Some why
GroupsBetween own target c spec (Err NoMemory) = Unit {0}

-- ---- blocked frames

-- those of the job's frames that wait unmet by its depends
abbrev pub blocked_own : List Bool → OwnJob → List NewDepend → List ℕ
blocked_own done own ns = filter (is_listed (all_unmet_by done ns)) (all_slots own.shape.layers)

abbrev pub follow_own : List Bool → OwnJob → List NewDepend → Follow
follow_own done own ns =
    record { depends = ns; spares = []; dropped = None; done = []; marks = no_marks; reopened = None; opened = []; blocked = blocked_own done own ns; raises = false; count = 0 }
