-- The row that bytes are: what their fields say, where that row is spelled so.
use Rattle.std.specs.Prelude.{ℕ, zero, suc, ℤ, ◌==◌, ◌&&◌, ◌/◌, ◌%◌, ◌^◌, pos, negsuc, Bool, true, false, List, [], ◌∷◌, codes, bytes_eq, nat_lt, Option, None, Some, option_and_then, Result, Ok, Err, if◌then◌else◌}
use Rattle.serde_json.specs.Data.{Items, no_items, item, Members}
use Rattle.serde_json.specs.Find.{as_str}
use Rattle.cue_json.specs.Fields.{Fault, ◌>>=◌, of_kind, text_at, whole_at, signed_at, flag_at, list_at}
use Rattle.cue_json.specs.Lines.{object_in}
use Rattle.farm_types.specs.declared.depend.DependEnd.{DependEnd}
use Rattle.farm_types.specs.declared.depend.DependKind.{DependKind}
use Rattle.farm_types.specs.declared.depend.DependRow.{DependRow}
use Rattle.farm_types.specs.declared.rows.AllocRow.{AllocRow}
use Rattle.farm_types.specs.declared.rows.HostRow.{HostRow}
use Rattle.farm_types.specs.declared.rows.JobRow.{JobRow}
use Rattle.farm_types.specs.declared.rows.LayerRow.{LayerRow}
use Rattle.farm_types.specs.declared.rows.LimitRow.{LimitRow}
use Rattle.farm_types.specs.declared.rows.ShowRow.{ShowRow}
use Rattle.farm_types.specs.declared.rows.SubRow.{SubRow}
use Rattle.farm_types.specs.declared.states.FrameState.{FrameState}
use Rattle.farm_types.specs.declared.states.FrameState.TheVariants as frame_state
use Rattle.farm_types.specs.Formed.{names_layer, names_frame, names_target_layer, names_target_frame}
use Rattle.state_names.specs.Words.{host_state_of, job_state_of, kind_of, lock_of, state_of, word_at}
use Rattle.farm_rows.specs.declared.farm_row.FarmRow.{FarmRow}
use Rattle.farm_rows.specs.declared.farm_row.FarmRow.TheVariants as row
use Rattle.farm_rows.specs.declared.frame_row.FrameRow.{FrameRow}
use Rattle.farm_rows.specs.declared.frame_row.StoredFrame.{StoredFrame}
use Rattle.farm_rows.specs.declared.frame_row.StoredState.{StoredState}
use Rattle.farm_rows.specs.declared.frame_row.StoredState.TheVariants as stored
use Rattle.farm_rows.specs.declared.head_row.HeadRow.{HeadRow}
use Rattle.farm_rows.specs.declared.head_row.TheConstants.{ROW_FORMAT}
use Rattle.farm_rows.specs.declared.ids.TheConstants.{GROUP_IDS, LAYER_IDS}
use Rattle.farm_rows.specs.Rows.{row_id, row_kind}
use Rattle.row_codec.specs.RowFields.{text_in}

-- ---- fields

-- whole numbers of 64, 32 and 16 bits, and one of 32 bits with a sign
abbrev pub u64_at : List ℕ → Members → Result ℕ Fault
u64_at field ms = whole_at field 0 18446744073709551615 ms

abbrev pub u32_at : List ℕ → Members → Result ℕ Fault
u32_at field ms = whole_at field 0 4294967295 ms

abbrev pub u16_at : List ℕ → Members → Result ℕ Fault
u16_at field ms = whole_at field 0 65535 ms

abbrev pub i32_at : List ℕ → Members → Result ℤ Fault
i32_at field ms = signed_at field (negsuc 2147483647) (pos 2147483647) ms

-- a list of texts
abbrev pub texts_in : List ℕ → Items → Result (List (List ℕ)) Fault
texts_in field no_items = Ok []
texts_in field (item d ds) = of_kind field (as_str d) >>= λ text. texts_in field ds >>= λ rest. Ok (text ∷ rest)

abbrev pub texts_at : List ℕ → Members → Result (List (List ℕ)) Fault
texts_at field ms = list_at field ms >>= texts_in field

-- ---- words

-- the state as it is stored of a frame without an attempt
abbrev pub without_attempt : FrameState → Option StoredState
without_attempt frame_state.Waiting = Some stored.Waiting
without_attempt frame_state.Setup = Some stored.Setup
without_attempt frame_state.Running = None
without_attempt frame_state.Succeeded = Some stored.Succeeded
without_attempt frame_state.Depend = Some stored.Depend
without_attempt frame_state.Dead = Some stored.Dead
without_attempt frame_state.Eaten = Some stored.Eaten

abbrev pub resting_of : List ℕ → Option StoredState
resting_of word = option_and_then without_attempt (state_of word)

-- ---- rows, by what their fields say; keys beside these are found out by the spelling

unfoldable pub head_at : Members → Result HeadRow Fault
head_at ms =
    u64_at (codes "depends") ms >>= λ depends. u64_at (codes "finishes") ms >>= λ finishes. u64_at (codes "format") ms >>= λ format.
    u64_at (codes "jobs") ms >>= λ jobs. u64_at (codes "moment") ms >>= λ moment. Ok (record { format = format; moment = moment; jobs = jobs; finishes = finishes; depends = depends })

unfoldable pub show_at : Members → Result ShowRow Fault
show_at ms = text_at (codes "name") ms >>= λ name. Ok (record { name = name })

unfoldable pub alloc_at : Members → Result AllocRow Fault
alloc_at ms = text_at (codes "facility") ms >>= λ facility. text_at (codes "tag") ms >>= λ tag. Ok (record { facility = facility; tag = tag })

unfoldable pub sub_at : ℕ → Members → Result SubRow Fault
sub_at sub ms = u32_at (codes "burst") ms >>= λ burst. u32_at (codes "size") ms >>= λ size. Ok (record { sub = sub; size = size; burst = burst })

unfoldable pub host_at : Members → Result HostRow Fault
host_at ms =
    u16_at (codes "alloc") ms >>= λ alloc. u32_at (codes "boot") ms >>= λ boot. u32_at (codes "cores") ms >>= λ cores. u64_at (codes "heard") ms >>= λ heard.
    word_at lock_of (codes "lock") ms >>= λ lock. u64_at (codes "memory") ms >>= λ memory. text_at (codes "name") ms >>= λ name. u64_at (codes "nonce") ms >>= λ nonce.
    u64_at (codes "seq") ms >>= λ seq. word_at host_state_of (codes "state") ms >>= λ state. texts_at (codes "tags") ms >>= λ tags.
    Ok (record { name = name; alloc = alloc; tags = tags; cores = cores; memory = memory; boot = boot; nonce = nonce; seq = seq; heard = heard; lock = lock; state = state })

unfoldable pub job_at : ℕ → Members → Result JobRow Fault
job_at job ms =
    flag_at (codes "auto_eat") ms >>= λ auto_eat. u32_at (codes "eaten") ms >>= λ eaten. text_at (codes "facility") ms >>= λ facility. u64_at (codes "finish") ms >>= λ finish.
    u32_at (codes "frames") ms >>= λ frames. u32_at (codes "max_retries") ms >>= λ max_retries. text_at (codes "name") ms >>= λ name. flag_at (codes "paused") ms >>= λ paused.
    u32_at (codes "priority") ms >>= λ priority. text_at (codes "shot") ms >>= λ shot. u16_at (codes "show") ms >>= λ show. word_at job_state_of (codes "state") ms >>= λ state.
    u32_at (codes "succeeded") ms >>= λ succeeded. text_at (codes "user") ms >>= λ user.
    Ok (record {
      job = job;
      name = name;
      show = show;
      facility = facility;
      shot = shot;
      user = user;
      priority = priority;
      max_retries = max_retries;
      auto_eat = auto_eat;
      paused = paused;
      state = state;
      frames = frames;
      finish = finish;
      eaten = eaten;
      succeeded = succeeded;
    })

-- the limit of a mark
abbrev pub limit_marked : ℕ → Option ℕ
limit_marked zero = None
limit_marked (suc limit) = Some limit

-- in format 1 no layer has a limit
abbrev pub limit_at : ℕ → Members → Result (Option ℕ) Fault
limit_at format ms = if format == ROW_FORMAT then (whole_at (codes "limit") 0 256 ms >>= λ mark. Ok (limit_marked mark)) else Ok None

unfoldable pub layer_at : ℕ → ℕ → ℕ → Members → Result LayerRow Fault
layer_at format job place ms =
    text_at (codes "command") ms >>= λ command. u32_at (codes "cores") ms >>= λ cores. limit_at format ms >>= λ limit. u64_at (codes "memory") ms >>= λ memory.
    text_at (codes "name") ms >>= λ name. text_at (codes "range") ms >>= λ range. texts_at (codes "tags") ms >>= λ tags.
    Ok (record { job = job; place = place; name = name; range = range; command = command; cores = cores; memory = memory; tags = tags; limit = limit })

-- ---- slots

unfoldable pub running_at : Members → Result StoredState Fault
running_at ms =
    u32_at (codes "boot") ms >>= λ boot. u16_at (codes "host") ms >>= λ host. u64_at (codes "since") ms >>= λ since. Ok (stored.Running boot host since)

-- the state that the word names, with the attempt of a running frame
abbrev pub state_at : List ℕ → Members → Result StoredState Fault
state_at word ms = if bytes_eq word (codes "RUNNING") then running_at ms else of_kind (codes "state") (resting_of word)

unfoldable pub stored_at : List ℕ → Members → Result StoredFrame Fault
stored_at word ms =
    u32_at (codes "job") ms >>= λ job. u32_at (codes "layer") ms >>= λ layer. i32_at (codes "number") ms >>= λ number. u32_at (codes "retries") ms >>= λ retries.
    state_at word ms >>= λ state. Ok (record { job = job; layer = layer; number = number; retries = retries; state = state })

-- none where the slot is free
unfoldable pub stored_if : List ℕ → Members → Result (Option StoredFrame) Fault
stored_if word ms = if bytes_eq word (codes "FREE") then Ok None else (stored_at word ms >>= λ x. Ok (Some x))

unfoldable pub frame_at : ℕ → Members → Result FrameRow Fault
frame_at slot ms =
    u32_at (codes "version") ms >>= λ version. text_at (codes "state") ms >>= λ word. stored_if word ms >>= λ frame. Ok (record { slot = slot; version = version; frame = frame })

-- ---- depends

-- the layer's name and the frame's number, where they are named
abbrev pub layer_if : Bool → List ℕ → Members → Result (Option (List ℕ)) Fault
layer_if true field ms = text_at field ms >>= λ name. Ok (Some name)
layer_if false field ms = Ok None

abbrev pub frame_if : Bool → List ℕ → Members → Result (Option ℤ) Fault
frame_if true field ms = i32_at field ms >>= λ number. Ok (Some number)
frame_if false field ms = Ok None

unfoldable pub waiter_at : DependKind → Members → Result DependEnd Fault
waiter_at kind ms =
    u32_at (codes "job") ms >>= λ job. layer_if (names_layer kind) (codes "layer") ms >>= λ layer. frame_if (names_frame kind) (codes "frame") ms >>= λ frame.
    Ok (record { job = job; layer = layer; frame = frame })

unfoldable pub target_at : DependKind → Members → Result DependEnd Fault
target_at kind ms =
    u32_at (codes "on_job") ms >>= λ job. layer_if (names_target_layer kind) (codes "on_layer") ms >>= λ layer.
    frame_if (names_target_frame kind) (codes "on_frame") ms >>= λ frame. Ok (record { job = job; layer = layer; frame = frame })

unfoldable pub depend_at : ℕ → Members → Result DependRow Fault
depend_at depend ms =
    flag_at (codes "any") ms >>= λ any. word_at kind_of (codes "kind") ms >>= λ kind. flag_at (codes "met_all") ms >>= λ met_all.
    waiter_at kind ms >>= λ waiter. target_at kind ms >>= λ target.
    Ok (record { depend = depend; kind = kind; any = any; met_all = met_all; waiter = waiter; target = target })

-- ---- limits

unfoldable pub limit_row_at : Members → Result LimitRow Fault
limit_row_at ms = u32_at (codes "most") ms >>= λ most. text_at (codes "name") ms >>= λ name. Ok (record { name = name; most = most })

-- ---- every row

-- a row of what was read
abbrev pub read_as : {X : Type 0} → (X → FarmRow) → Result X Fault → Option FarmRow
read_as make (Ok x) = Some (make x)
read_as make (Err fault) = None

-- what there is for a number below the bound
abbrev pub below : ℕ → ℕ → Option FarmRow → Option FarmRow
below bound number made = if nat_lt number bound then made else None

-- The row of that kind and id, as its fields say. The ids of layers and of met groups are those of their jobs and depends, and a place.
abbrev pub row_in : ℕ → ℕ → ℕ → Members → Option FarmRow
row_in format kind id ms =
    if kind == 1 then read_as row.Head (head_at ms)
    else (if kind == 2 then below (2 ^ 16) id (read_as (row.Show id) (show_at ms))
    else (if kind == 3 then below (2 ^ 16) id (read_as (row.Alloc id) (alloc_at ms))
    else (if kind == 4 then below (2 ^ 16) id (read_as row.Sub (sub_at id ms))
    else (if kind == 5 then below (2 ^ 16) id (read_as (row.Host id) (host_at ms))
    else (if kind == 6 then below (2 ^ 32) id (read_as row.Job (job_at id ms))
    else (if kind == 7 then below (2 ^ 32) (id / LAYER_IDS) (read_as row.Layer (layer_at format (id / LAYER_IDS) (id % LAYER_IDS) ms))
    else (if kind == 8 then below (2 ^ 32) id (read_as row.Frame (frame_at id ms))
    else (if kind == 9 then below (2 ^ 32) id (read_as row.Depend (depend_at id ms))
    else (if kind == 10 then below (2 ^ 32) (id / GROUP_IDS) (Some (row.Met (record { depend = id / GROUP_IDS; position = id % GROUP_IDS })))
    else (if kind == 11 then below (2 ^ 8) id (read_as (row.Limit id) (limit_row_at ms))
    else None))))))))))

-- whether the row is that of the kind and the id, and spelled so in the format
abbrev pub is_spelled : ℕ → ℕ → ℕ → List ℕ → FarmRow → Bool
is_spelled format kind id bytes r = row_kind r == kind && row_id r == id && bytes_eq (text_in format r) bytes

abbrev pub spelled : ℕ → ℕ → ℕ → List ℕ → FarmRow → Option FarmRow
spelled format kind id bytes r = if is_spelled format kind id bytes r then Some r else None

-- the row of that kind and id whose bytes are these in the format
unfoldable pub row_from : ℕ → ℕ → ℕ → List ℕ → Option FarmRow
row_from format kind id bytes = option_and_then (spelled format kind id bytes) (option_and_then (row_in format kind id) (object_in bytes))
