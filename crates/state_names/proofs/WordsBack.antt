-- Each word is read as what it is the word of, and is UTF-8.
use Rattle.std.proofs.Common.{◌≡◌, [], Some, refl, IsUtf8}
use Rattle.std.specs.Prelude.{codes}
use Rattle.json.proofs.Printed.Utf8.{IsUtf8-are_ascii}
use Rattle.farm_types.specs.declared.depend.DependKind.{DependKind}
use Rattle.farm_types.specs.declared.depend.DependKind.TheVariants as depend_kind
use Rattle.farm_types.specs.declared.dispatch.Cut.{Cut}
use Rattle.farm_types.specs.declared.dispatch.Cut.TheVariants as cut
use Rattle.farm_types.specs.declared.refusal.Counted.{Counted}
use Rattle.farm_types.specs.declared.refusal.Counted.TheVariants as counted
use Rattle.farm_types.specs.declared.states.FrameState.{FrameState}
use Rattle.farm_types.specs.declared.states.FrameState.TheVariants as frame_state
use Rattle.farm_types.specs.declared.states.HostState.{HostState}
use Rattle.farm_types.specs.declared.states.HostState.TheVariants as host_state
use Rattle.farm_types.specs.declared.states.JobState.{JobState}
use Rattle.farm_types.specs.declared.states.JobState.TheVariants as job_state
use Rattle.farm_types.specs.declared.states.LockState.{LockState}
use Rattle.farm_types.specs.declared.states.LockState.TheVariants as lock_state
use Rattle.state_names.specs.Words.{counted_of, counted_word, cut_of, cut_word, host_state_of, host_word, job_state_of, job_word, kind_of, kind_word, lock_of, lock_word, state_of, state_word}

pub state_back : (s : FrameState) → state_of (state_word s) ≡ Some s
state_back frame_state.Waiting = refl
state_back frame_state.Setup = refl
state_back frame_state.Running = refl
state_back frame_state.Succeeded = refl
state_back frame_state.Depend = refl
state_back frame_state.Dead = refl
state_back frame_state.Eaten = refl

pub state_utf8 : (s : FrameState) → IsUtf8 (state_word s)
state_utf8 frame_state.Waiting = IsUtf8-are_ascii (codes "WAITING") refl
state_utf8 frame_state.Setup = IsUtf8-are_ascii (codes "SETUP") refl
state_utf8 frame_state.Running = IsUtf8-are_ascii (codes "RUNNING") refl
state_utf8 frame_state.Succeeded = IsUtf8-are_ascii (codes "SUCCEEDED") refl
state_utf8 frame_state.Depend = IsUtf8-are_ascii (codes "DEPEND") refl
state_utf8 frame_state.Dead = IsUtf8-are_ascii (codes "DEAD") refl
state_utf8 frame_state.Eaten = IsUtf8-are_ascii (codes "EATEN") refl

pub host_back : (s : HostState) → host_state_of (host_word s) ≡ Some s
host_back host_state.Up = refl
host_back host_state.Down = refl

pub host_utf8 : (s : HostState) → IsUtf8 (host_word s)
host_utf8 host_state.Up = IsUtf8-are_ascii (codes "UP") refl
host_utf8 host_state.Down = IsUtf8-are_ascii (codes "DOWN") refl

pub job_back : (s : JobState) → job_state_of (job_word s) ≡ Some s
job_back job_state.Pending = refl
job_back job_state.Finished = refl

pub job_utf8 : (s : JobState) → IsUtf8 (job_word s)
job_utf8 job_state.Pending = IsUtf8-are_ascii (codes "PENDING") refl
job_utf8 job_state.Finished = IsUtf8-are_ascii (codes "FINISHED") refl

pub lock_back : (l : LockState) → lock_of (lock_word l) ≡ Some l
lock_back lock_state.Unlocked = refl
lock_back lock_state.Locked = refl
lock_back lock_state.NimbyLocked = refl

pub lock_utf8 : (l : LockState) → IsUtf8 (lock_word l)
lock_utf8 lock_state.Unlocked = IsUtf8-are_ascii (codes "OPEN") refl
lock_utf8 lock_state.Locked = IsUtf8-are_ascii (codes "LOCKED") refl
lock_utf8 lock_state.NimbyLocked = IsUtf8-are_ascii (codes "NIMBY_LOCKED") refl

pub kind_back : (kind : DependKind) → kind_of (kind_word kind) ≡ Some kind
kind_back depend_kind.JobOnJob = refl
kind_back depend_kind.JobOnLayer = refl
kind_back depend_kind.JobOnFrame = refl
kind_back depend_kind.LayerOnJob = refl
kind_back depend_kind.LayerOnLayer = refl
kind_back depend_kind.LayerOnFrame = refl
kind_back depend_kind.FrameOnJob = refl
kind_back depend_kind.FrameOnLayer = refl
kind_back depend_kind.FrameOnFrame = refl
kind_back depend_kind.FrameByFrame = refl
kind_back depend_kind.PreviousFrame = refl

pub kind_utf8 : (kind : DependKind) → IsUtf8 (kind_word kind)
kind_utf8 depend_kind.JobOnJob = IsUtf8-are_ascii (codes "JOB_ON_JOB") refl
kind_utf8 depend_kind.JobOnLayer = IsUtf8-are_ascii (codes "JOB_ON_LAYER") refl
kind_utf8 depend_kind.JobOnFrame = IsUtf8-are_ascii (codes "JOB_ON_FRAME") refl
kind_utf8 depend_kind.LayerOnJob = IsUtf8-are_ascii (codes "LAYER_ON_JOB") refl
kind_utf8 depend_kind.LayerOnLayer = IsUtf8-are_ascii (codes "LAYER_ON_LAYER") refl
kind_utf8 depend_kind.LayerOnFrame = IsUtf8-are_ascii (codes "LAYER_ON_FRAME") refl
kind_utf8 depend_kind.FrameOnJob = IsUtf8-are_ascii (codes "FRAME_ON_JOB") refl
kind_utf8 depend_kind.FrameOnLayer = IsUtf8-are_ascii (codes "FRAME_ON_LAYER") refl
kind_utf8 depend_kind.FrameOnFrame = IsUtf8-are_ascii (codes "FRAME_ON_FRAME") refl
kind_utf8 depend_kind.FrameByFrame = IsUtf8-are_ascii (codes "FRAME_BY_FRAME") refl
kind_utf8 depend_kind.PreviousFrame = IsUtf8-are_ascii (codes "PREVIOUS_FRAME") refl

pub cut_back : (c : Cut) → cut_of (cut_word c) ≡ Some c
cut_back cut.Whole = refl
cut_back cut.Store = refl
cut_back cut.Memory = refl

pub cut_utf8 : (c : Cut) → IsUtf8 (cut_word c)
cut_utf8 cut.Whole = IsUtf8-are_ascii [] refl
cut_utf8 cut.Store = IsUtf8-are_ascii (codes "store") refl
cut_utf8 cut.Memory = IsUtf8-are_ascii (codes "memory") refl

pub counted_back : (what : Counted) → counted_of (counted_word what) ≡ Some what
counted_back counted.Shows = refl
counted_back counted.Allocs = refl
counted_back counted.Limits = refl
counted_back counted.Hosts = refl
counted_back counted.Boots = refl
counted_back counted.Jobs = refl
counted_back counted.Depends = refl
counted_back counted.Groups = refl
counted_back counted.DependNumbers = refl

pub counted_utf8 : (what : Counted) → IsUtf8 (counted_word what)
counted_utf8 counted.Shows = IsUtf8-are_ascii (codes "shows") refl
counted_utf8 counted.Allocs = IsUtf8-are_ascii (codes "allocs") refl
counted_utf8 counted.Limits = IsUtf8-are_ascii (codes "limits") refl
counted_utf8 counted.Hosts = IsUtf8-are_ascii (codes "hosts") refl
counted_utf8 counted.Boots = IsUtf8-are_ascii (codes "boots") refl
counted_utf8 counted.Jobs = IsUtf8-are_ascii (codes "jobs") refl
counted_utf8 counted.Depends = IsUtf8-are_ascii (codes "depends") refl
counted_utf8 counted.Groups = IsUtf8-are_ascii (codes "groups") refl
counted_utf8 counted.DependNumbers = IsUtf8-are_ascii (codes "depend_numbers") refl
