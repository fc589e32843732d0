-- What an operator asks of jobs and frames.
use Rattle.std.specs.Prelude.{ℕ, ◌||◌, Bool, true, false, List, [], ◌∷◌, codes, Result, Ok}
use Rattle.serde_json.specs.Data.{Members}
use Rattle.cue_json.specs.Fields.{Fault, ◌>>=◌, has_key, signed_at, others_at}
use Rattle.farm_types.specs.declared.entry.FramePlace.{FramePlace}
use Rattle.farm_lines.specs.declared.request.Request.{Request}
use Rattle.farm_lines.specs.declared.request.Request.TheVariants as request
use Rattle.farm_lines.specs.Fields.{name_at}
use Rattle.farm_lines.specs.declared.limits.TheConstants.{LEAST_FRAME, MOST_FRAME}

abbrev pub job_keys : List (List ℕ)
job_keys = codes "job" ∷ codes "op" ∷ []

-- the name of a job
unfoldable pub job_at : Members → Result (List ℕ) Fault
job_at ms = name_at (codes "job") ms >>= λ job. others_at job_keys ms >>= λ none. Ok job

abbrev pub frame_keys : List (List ℕ)
frame_keys = codes "frame" ∷ codes "job" ∷ codes "layer" ∷ codes "op" ∷ []

-- a layer of the job, and a frame's number in it
unfoldable pub frame_of_job_at : List ℕ → Members → Result FramePlace Fault
frame_of_job_at job ms =
    name_at (codes "layer") ms >>= λ layer. signed_at (codes "frame") LEAST_FRAME MOST_FRAME ms >>= λ frame. others_at frame_keys ms >>= λ none.
    Ok (record { job = job; layer = layer; frame = frame })

-- a frame of a layer of a job
unfoldable pub frame_at : Members → Result FramePlace Fault
frame_at ms = name_at (codes "job") ms >>= λ job. frame_of_job_at job ms

-- a field of a frame is there
abbrev pub names_frame : Members → Bool
names_frame ms = has_key (codes "layer") ms || has_key (codes "frame") ms

-- The whole job is killed where neither a layer nor a frame is named.
abbrev pub killed_at : Bool → List ℕ → Members → Result Request Fault
killed_at true job ms = frame_of_job_at job ms >>= λ p. Ok (request.KillFrame p)
killed_at false job ms = others_at job_keys ms >>= λ none. Ok (request.KillJob job)

unfoldable pub kill_at : Members → Result Request Fault
kill_at ms = name_at (codes "job") ms >>= λ job. killed_at (names_frame ms) job ms

abbrev pub asks_pause : Bool → List ℕ → Request
asks_pause paused job = request.Pause job paused
