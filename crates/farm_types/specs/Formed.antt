-- The forms and limits of entries: each moment is a number of 64 bits, each text has its form, and each number is within its limits.
use Rattle.std.specs.Prelude.{ℕ, ℤ, ◌≡◌, ◌≤◌, ◌<◌, ◌^◌, Bool, true, false, List, Option, None, Some, is_some}
use Rattle.std.specs.List.{All, list_all}
use Rattle.farm_types.specs.declared.attempt.DoneItem.{DoneItem}
use Rattle.farm_types.specs.declared.boot.BootLine.{BootLine}
use Rattle.farm_types.specs.declared.depend.DependKind.{DependKind}
use Rattle.farm_types.specs.declared.depend.DependKind.TheVariants.{JobOnJob, JobOnLayer, JobOnFrame, LayerOnJob, LayerOnFrame, FrameOnJob, FrameOnLayer, FrameOnFrame}
use Rattle.farm_types.specs.declared.depend.DependSpec.{DependSpec}
use Rattle.farm_types.specs.declared.depend.Place.{Place}
use Rattle.farm_types.specs.declared.entry.Act.{Act}
use Rattle.farm_types.specs.declared.entry.Act.TheVariants as act
use Rattle.farm_types.specs.declared.entry.Entry.{Entry}
use Rattle.farm_types.specs.declared.entry.FramePlace.{FramePlace}
use Rattle.farm_types.specs.declared.entry.HeardAct.{HeardAct}
use Rattle.farm_types.specs.declared.job.JobSpec.{JobSpec}
use Rattle.farm_types.specs.declared.job.LayerSpec.{LayerSpec}
use Rattle.farm_types.specs.declared.sub_line.SubLine.{SubLine}
use Rattle.farm_types.specs.Forms.{is_command_text, is_frame_number, is_name_or_empty, is_name_text, is_tag_text}
use Rattle.farm_types.specs.Limits.{IsBetween, BootKeepsLimits, SubKeepsLimits}
use Rattle.farm_types.specs.Ranges.{is_range_text, range_numbers}
use Rattle.farm_types.specs.SpecLimits.{JobKeepsLimits, LayerKeepsLimits}
use Rattle.farm_types.specs.declared.limits.TheConstants.{LAST_BOOT, LAST_DEPEND, LAST_SLOT, LAST_VERSION, MOST_CORES, MOST_EXIT, MOST_RUNNING}

-- a subscription: the show's name has its form; the allocation's may be any text
pub record IsFormedSub (line : SubLine) : Type 0 where
  pub show : is_name_text line.show ≡ true
  pub limits : SubKeepsLimits line

-- a host's boot; its allocation's name may be any text
pub record IsFormedBoot (line : BootLine) : Type 0 where
  pub host : is_name_text line.host ≡ true
  pub nonce_within : line.nonce < 2 ^ 64
  pub tags : list_all is_tag_text line.tags ≡ true
  pub limits : BootKeepsLimits line

-- free cores, where a host tells them
abbrev pub AreFree : Option ℕ → Type 0
AreFree None = Unit {0}
AreFree (Some cores) = cores ≤ MOST_CORES

-- a completion
pub record IsFormedDone (item : DoneItem) : Type 0 where
  pub slot_within : item.attempt.slot ≤ LAST_SLOT
  pub version_within : item.attempt.version ≤ LAST_VERSION
  pub status_within : item.exit.status ≤ MOST_EXIT
  pub signal_within : item.exit.signal ≤ MOST_EXIT
  pub free_within : AreFree item.free

-- a report
pub record IsFormedHeard (heard : HeardAct) : Type 0 where
  pub host : is_name_text heard.host ≡ true
  pub boot_within : IsBetween 1 LAST_BOOT heard.boot
  pub seq_within : (1 ≤ heard.seq) × (heard.seq < 2 ^ 64)
  pub each_done : All IsFormedDone heard.done

-- a layer: its range is a set's text as the set prints, and its numbers are those of its range
pub record IsFormedLayer (layer : LayerSpec) : Type 0 where
  pub name : is_name_text layer.name ≡ true
  pub range : is_range_text layer.range ≡ true
  pub numbers_are : layer.numbers ≡ range_numbers layer.range
  pub command : is_command_text layer.command ≡ true
  pub tags : list_all is_tag_text layer.tags ≡ true
  pub limit : is_name_or_empty layer.limit ≡ true
  pub limits : LayerKeepsLimits layer

-- ---- depends

-- whether a kind of depend names a layer of the waiting end, and a frame in it
abbrev pub names_layer : DependKind → Bool
names_layer JobOnJob = false
names_layer JobOnLayer = false
names_layer JobOnFrame = false
names_layer other = true

abbrev pub names_frame : DependKind → Bool
names_frame FrameOnJob = true
names_frame FrameOnLayer = true
names_frame FrameOnFrame = true
names_frame other = false

-- whether it names a layer of the other end, and a frame in it
abbrev pub names_target_layer : DependKind → Bool
names_target_layer JobOnJob = false
names_target_layer LayerOnJob = false
names_target_layer FrameOnJob = false
names_target_layer other = true

abbrev pub names_target_frame : DependKind → Bool
names_target_frame JobOnFrame = true
names_target_frame LayerOnFrame = true
names_target_frame FrameOnFrame = true
names_target_frame other = false

-- a name of a layer, where there is one
abbrev pub is_layer_name : Option (List ℕ) → Bool
is_layer_name None = true
is_layer_name (Some name) = is_name_text name

-- a number of a frame, where there is one
abbrev pub is_frame_named : Option ℤ → Bool
is_frame_named None = true
is_frame_named (Some number) = is_frame_number number

-- names of a job and, where the kind of depend has them, of a layer and a frame
pub record IsFormedPlace (layered framed : Bool) (p : Place) : Type 0 where
  pub job : is_name_text p.job ≡ true
  pub layer : is_some p.layer ≡ layered
  pub layer_name : is_layer_name p.layer ≡ true
  pub frame : is_some p.frame ≡ framed
  pub frame_named : is_frame_named p.frame ≡ true

pub record IsFormedDepend (d : DependSpec) : Type 0 where
  pub waiter : IsFormedPlace (names_layer d.kind) (names_frame d.kind) d.waiter
  pub target : IsFormedPlace (names_target_layer d.kind) (names_target_frame d.kind) d.target

-- a depend of a spec, in which its own job waits
pub record IsFormedOwn (job : List ℕ) (d : DependSpec) : Type 0 where
  pub own : d.waiter.job ≡ job
  pub depend : IsFormedDepend d

-- ---- jobs

-- a job; its shot and its user may be empty
pub record IsFormedJob (spec : JobSpec) : Type 0 where
  pub name : is_name_text spec.name ≡ true
  pub show : is_name_text spec.show ≡ true
  pub facility : is_tag_text spec.facility ≡ true
  pub shot : is_name_or_empty spec.shot ≡ true
  pub user : is_name_or_empty spec.user ≡ true
  pub limits : JobKeepsLimits spec
  pub each_layer : All IsFormedLayer spec.layers
  pub each_depend : All (IsFormedOwn spec.name) spec.depends

-- a frame of a layer of a job; its number may be any
pub record IsFormedFrame (p : FramePlace) : Type 0 where
  pub job : is_name_text p.job ≡ true
  pub layer : is_name_text p.layer ≡ true

-- what an entry does; of a booking its condition says more
abbrev pub IsFormedAct : Act → Type 0
IsFormedAct act.Opened = Unit {0}
IsFormedAct (act.Show name) = is_name_text name ≡ true
IsFormedAct (act.Alloc facility tag) = (is_tag_text facility ≡ true) × (is_tag_text tag ≡ true)
IsFormedAct (act.Sub line) = IsFormedSub line
IsFormedAct (act.Limit name most) = (is_name_text name ≡ true) × (most ≤ MOST_RUNNING)
IsFormedAct (act.Boot line) = IsFormedBoot line
IsFormedAct (act.Heard heard) = IsFormedHeard heard
IsFormedAct (act.Submit spec) = IsFormedJob spec
IsFormedAct (act.AddDepend spec) = IsFormedDepend spec
IsFormedAct (act.DropDepend depend) = IsBetween 1 LAST_DEPEND depend
IsFormedAct (act.Pause job paused) = is_name_text job ≡ true
IsFormedAct (act.KillJob job) = is_name_text job ≡ true
IsFormedAct (act.KillFrame p) = IsFormedFrame p
IsFormedAct (act.EatFrame p) = IsFormedFrame p
IsFormedAct (act.RetryFrame p) = IsFormedFrame p
IsFormedAct (act.Lock host lock) = is_name_text host ≡ true
IsFormedAct act.Tick = Unit {0}
IsFormedAct (act.Book slot host) = Unit {0}

-- an entry within its forms and limits
pub record IsFormed (e : Entry) : Type 0 where
  pub moment_within : e.moment < 2 ^ 64
  pub act_formed : IsFormedAct e.act
