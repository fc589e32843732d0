-- The words for states, locks, kinds of depends, cuts and counts, and what each word names.
use Rattle.std.specs.Prelude.{List, [], codes, bytes_eq, Option, None, Some, Result, if◌then◌else◌, ℕ}
use Rattle.serde_json.specs.Data.{Members}
use Rattle.cue_json.specs.Fields.{Fault, ◌>>=◌, of_kind, text_at}
use Rattle.farm_types.specs.declared.depend.DependKind.{DependKind}
use Rattle.farm_types.specs.declared.depend.DependKind.TheVariants.{JobOnJob, JobOnLayer, JobOnFrame, LayerOnJob, LayerOnLayer, LayerOnFrame, FrameOnJob, FrameOnLayer, FrameOnFrame, FrameByFrame, PreviousFrame}
use Rattle.farm_types.specs.declared.dispatch.Cut.{Cut}
use Rattle.farm_types.specs.declared.dispatch.Cut.TheVariants as cut
use Rattle.farm_types.specs.declared.refusal.Counted.{Counted}
use Rattle.farm_types.specs.declared.refusal.Counted.TheVariants as counted
use Rattle.farm_types.specs.declared.states.FrameState.{FrameState}
use Rattle.farm_types.specs.declared.states.FrameState.TheVariants as frame_state
use Rattle.farm_types.specs.declared.states.HostState.{HostState}
use Rattle.farm_types.specs.declared.states.HostState.TheVariants as host_state
use Rattle.farm_types.specs.declared.states.JobState.{JobState}
use Rattle.farm_types.specs.declared.states.JobState.TheVariants as job_state
use Rattle.farm_types.specs.declared.states.LockState.{LockState}
use Rattle.farm_types.specs.declared.states.LockState.TheVariants as lock_state

-- ---- words

abbrev pub state_word : FrameState → List ℕ
state_word frame_state.Waiting = codes "WAITING"
state_word frame_state.Setup = codes "SETUP"
state_word frame_state.Running = codes "RUNNING"
state_word frame_state.Succeeded = codes "SUCCEEDED"
state_word frame_state.Depend = codes "DEPEND"
state_word frame_state.Dead = codes "DEAD"
state_word frame_state.Eaten = codes "EATEN"

abbrev pub lock_word : LockState → List ℕ
lock_word lock_state.Unlocked = codes "OPEN"
lock_word lock_state.Locked = codes "LOCKED"
lock_word lock_state.NimbyLocked = codes "NIMBY_LOCKED"

abbrev pub host_word : HostState → List ℕ
host_word host_state.Up = codes "UP"
host_word host_state.Down = codes "DOWN"

abbrev pub job_word : JobState → List ℕ
job_word job_state.Pending = codes "PENDING"
job_word job_state.Finished = codes "FINISHED"

abbrev pub kind_word : DependKind → List ℕ
kind_word JobOnJob = codes "JOB_ON_JOB"
kind_word JobOnLayer = codes "JOB_ON_LAYER"
kind_word JobOnFrame = codes "JOB_ON_FRAME"
kind_word LayerOnJob = codes "LAYER_ON_JOB"
kind_word LayerOnLayer = codes "LAYER_ON_LAYER"
kind_word LayerOnFrame = codes "LAYER_ON_FRAME"
kind_word FrameOnJob = codes "FRAME_ON_JOB"
kind_word FrameOnLayer = codes "FRAME_ON_LAYER"
kind_word FrameOnFrame = codes "FRAME_ON_FRAME"
kind_word FrameByFrame = codes "FRAME_BY_FRAME"
kind_word PreviousFrame = codes "PREVIOUS_FRAME"

-- the word of a reply for what ended its round
abbrev pub cut_word : Cut → List ℕ
cut_word cut.Whole = []
cut_word cut.Store = codes "store"
cut_word cut.Memory = codes "memory"

abbrev pub counted_word : Counted → List ℕ
counted_word counted.Shows = codes "shows"
counted_word counted.Allocs = codes "allocs"
counted_word counted.Limits = codes "limits"
counted_word counted.Hosts = codes "hosts"
counted_word counted.Boots = codes "boots"
counted_word counted.Jobs = codes "jobs"
counted_word counted.Depends = codes "depends"
counted_word counted.Groups = codes "groups"
counted_word counted.DependNumbers = codes "depend_numbers"

-- ---- what words name

abbrev pub state_of : List ℕ → Option FrameState
state_of word =
    if bytes_eq word (codes "WAITING") then Some frame_state.Waiting
    else (if bytes_eq word (codes "SETUP") then Some frame_state.Setup
    else (if bytes_eq word (codes "RUNNING") then Some frame_state.Running
    else (if bytes_eq word (codes "SUCCEEDED") then Some frame_state.Succeeded
    else (if bytes_eq word (codes "DEPEND") then Some frame_state.Depend
    else (if bytes_eq word (codes "DEAD") then Some frame_state.Dead
    else (if bytes_eq word (codes "EATEN") then Some frame_state.Eaten
    else None))))))

abbrev pub lock_of : List ℕ → Option LockState
lock_of word =
    if bytes_eq word (codes "OPEN") then Some lock_state.Unlocked
    else (if bytes_eq word (codes "LOCKED") then Some lock_state.Locked
    else (if bytes_eq word (codes "NIMBY_LOCKED") then Some lock_state.NimbyLocked
    else None))

abbrev pub host_state_of : List ℕ → Option HostState
host_state_of word =
    if bytes_eq word (codes "UP") then Some host_state.Up
    else (if bytes_eq word (codes "DOWN") then Some host_state.Down
    else None)

abbrev pub job_state_of : List ℕ → Option JobState
job_state_of word =
    if bytes_eq word (codes "PENDING") then Some job_state.Pending
    else (if bytes_eq word (codes "FINISHED") then Some job_state.Finished
    else None)

-- the kind of depend that a word names
abbrev pub kind_of : List ℕ → Option DependKind
kind_of word =
    if bytes_eq word (codes "JOB_ON_JOB") then Some JobOnJob
    else (if bytes_eq word (codes "JOB_ON_LAYER") then Some JobOnLayer
    else (if bytes_eq word (codes "JOB_ON_FRAME") then Some JobOnFrame
    else (if bytes_eq word (codes "LAYER_ON_JOB") then Some LayerOnJob
    else (if bytes_eq word (codes "LAYER_ON_LAYER") then Some LayerOnLayer
    else (if bytes_eq word (codes "LAYER_ON_FRAME") then Some LayerOnFrame
    else (if bytes_eq word (codes "FRAME_ON_JOB") then Some FrameOnJob
    else (if bytes_eq word (codes "FRAME_ON_LAYER") then Some FrameOnLayer
    else (if bytes_eq word (codes "FRAME_ON_FRAME") then Some FrameOnFrame
    else (if bytes_eq word (codes "FRAME_BY_FRAME") then Some FrameByFrame
    else (if bytes_eq word (codes "PREVIOUS_FRAME") then Some PreviousFrame
    else None))))))))))

abbrev pub cut_of : List ℕ → Option Cut
cut_of word =
    if bytes_eq word [] then Some cut.Whole
    else (if bytes_eq word (codes "store") then Some cut.Store
    else (if bytes_eq word (codes "memory") then Some cut.Memory
    else None))

abbrev pub counted_of : List ℕ → Option Counted
counted_of word =
    if bytes_eq word (codes "shows") then Some counted.Shows
    else (if bytes_eq word (codes "allocs") then Some counted.Allocs
    else (if bytes_eq word (codes "limits") then Some counted.Limits
    else (if bytes_eq word (codes "hosts") then Some counted.Hosts
    else (if bytes_eq word (codes "boots") then Some counted.Boots
    else (if bytes_eq word (codes "jobs") then Some counted.Jobs
    else (if bytes_eq word (codes "depends") then Some counted.Depends
    else (if bytes_eq word (codes "groups") then Some counted.Groups
    else (if bytes_eq word (codes "depend_numbers") then Some counted.DependNumbers
    else None))))))))

-- the word of a field, of those that name something
abbrev pub word_at : {X : Type 0} → (List ℕ → Option X) → List ℕ → Members → Result X Fault
word_at named field ms = text_at field ms >>= λ word. of_kind field (named word)
