-- What a row of a list says, or its first fault: its fields in order, and no others.
use Rattle.std.specs.Prelude.{ℕ, List, codes, Option, None, Some, Result, Ok, if◌then◌else◌}
use Rattle.serde_json.specs.Data.{Items, no_items, item, Members}
use Rattle.serde_json.specs.Find.{as_object}
use Rattle.cue_json.specs.Fields.{Fault, ◌>>=◌, flag_at, has_key, list_at, others_at, text_at, whole_at}
use Rattle.cue_json.specs.Items.{items_at}
use Rattle.farm_types.specs.declared.limits.TheConstants.{LAST_BOOT, LAST_DEPEND, LAST_SLOT, LAST_VERSION, LEAST_CORES, LEAST_MEMORY, MOST_BURST, MOST_CORES, MOST_FRAMES, MOST_MEMORY, MOST_PRIORITY, MOST_RETRIES, MOST_RUNNING, SLOT_LIMIT}
use Rattle.state_names.specs.Words.{host_state_of, job_state_of, kind_of, lock_of, state_of, word_at}
use Rattle.farm_lines.specs.declared.limits.TheConstants.{MOST_BOOKED}
use Rattle.farm_lines.specs.declared.list_row.ListRow.{ListRow}
use Rattle.farm_lines.specs.declared.list_row.ListRow.TheVariants as row
use Rattle.farm_lines.specs.declared.list_row.RowKind.{RowKind}
use Rattle.farm_lines.specs.declared.list_row.RowKind.TheVariants as kind
use Rattle.farm_lines.specs.Fields.{name_at}
use Rattle.farm_lines.specs.RowKinds.{row_keys}
use Rattle.farm_lines.specs.Spec.{text_of}
use Rattle.farm_types.specs.Forms.{is_name_or_empty}

-- ---- rows

unfoldable pub name_row_at : Members → Result ListRow Fault
name_row_at ms = name_at (codes "name") ms >>= λ name. others_at (row_keys kind.Name) ms >>= λ none. Ok (row.Name name)

unfoldable pub sub_row_at : Members → Result ListRow Fault
sub_row_at ms =
    name_at (codes "alloc") ms >>= λ alloc. whole_at (codes "booked") 0 MOST_BOOKED ms >>= λ booked. whole_at (codes "burst") 0 MOST_BURST ms >>= λ burst.
    name_at (codes "show") ms >>= λ show. whole_at (codes "size") 0 MOST_BURST ms >>= λ size. others_at (row_keys kind.Sub) ms >>= λ none.
    Ok (row.Sub (record { alloc = alloc; booked = booked; burst = burst; show = show; size = size }))

unfoldable pub limit_row_at : Members → Result ListRow Fault
limit_row_at ms =
    whole_at (codes "most") 0 MOST_RUNNING ms >>= λ most. name_at (codes "name") ms >>= λ name. whole_at (codes "running") 0 SLOT_LIMIT ms >>= λ running.
    others_at (row_keys kind.Limit) ms >>= λ none. Ok (row.Limit (record { most = most; name = name; running = running }))

unfoldable pub host_row_at : Members → Result ListRow Fault
host_row_at ms =
    name_at (codes "alloc") ms >>= λ alloc. whole_at (codes "boot") 1 LAST_BOOT ms >>= λ boot. whole_at (codes "cores") LEAST_CORES MOST_CORES ms >>= λ cores.
    whole_at (codes "heard") 0 18446744073709551615 ms >>= λ heard. word_at lock_of (codes "lock") ms >>= λ lock. whole_at (codes "memory") LEAST_MEMORY MOST_MEMORY ms >>= λ memory.
    name_at (codes "name") ms >>= λ name. word_at host_state_of (codes "state") ms >>= λ state. whole_at (codes "used_cores") 0 MOST_CORES ms >>= λ used_cores.
    whole_at (codes "used_memory") 0 MOST_MEMORY ms >>= λ used_memory. others_at (row_keys kind.Host) ms >>= λ none.
    Ok (row.Host (record { alloc = alloc; boot = boot; cores = cores; heard = heard; lock = lock; memory = memory; name = name; state = state; used_cores = used_cores; used_memory = used_memory }))

abbrev pub count_at : List ℕ → Members → Result ℕ Fault
count_at field ms = whole_at field 0 MOST_FRAMES ms

unfoldable pub job_row_at : Members → Result ListRow Fault
job_row_at ms =
    count_at (codes "dead") ms >>= λ dead. count_at (codes "depend") ms >>= λ depend. count_at (codes "eaten") ms >>= λ eaten. name_at (codes "name") ms >>= λ name.
    flag_at (codes "paused") ms >>= λ paused. whole_at (codes "priority") 1 MOST_PRIORITY ms >>= λ priority. count_at (codes "running") ms >>= λ running.
    name_at (codes "show") ms >>= λ show. word_at job_state_of (codes "state") ms >>= λ state. count_at (codes "succeeded") ms >>= λ succeeded.
    count_at (codes "waiting") ms >>= λ waiting. others_at (row_keys kind.Job) ms >>= λ none.
    Ok (row.Job (record { dead = dead; depend = depend; eaten = eaten; name = name; paused = paused; priority = priority; running = running; show = show; state = state; succeeded = succeeded; waiting = waiting }))

unfoldable pub layer_row_at : Members → Result ListRow Fault
layer_row_at ms =
    whole_at (codes "cores") LEAST_CORES MOST_CORES ms >>= λ cores. count_at (codes "dead") ms >>= λ dead. count_at (codes "depend") ms >>= λ depend.
    count_at (codes "eaten") ms >>= λ eaten. text_of is_name_or_empty (codes "limit") ms >>= λ limit.
    whole_at (codes "memory") LEAST_MEMORY MOST_MEMORY ms >>= λ memory. name_at (codes "name") ms >>= λ name.
    text_at (codes "range") ms >>= λ range. count_at (codes "running") ms >>= λ running. count_at (codes "succeeded") ms >>= λ succeeded.
    count_at (codes "waiting") ms >>= λ waiting. others_at (row_keys kind.Layer) ms >>= λ none.
    Ok (row.Layer (record { cores = cores; dead = dead; depend = depend; eaten = eaten; limit = limit; memory = memory; name = name; range = range; running = running; succeeded = succeeded; waiting = waiting }))

unfoldable pub frame_row_at : Members → Result ListRow Fault
frame_row_at ms =
    text_at (codes "frame") ms >>= λ frame. whole_at (codes "retries") 0 MOST_RETRIES ms >>= λ retries. word_at state_of (codes "state") ms >>= λ state.
    whole_at (codes "version") 0 LAST_VERSION ms >>= λ version. others_at (row_keys kind.Frame) ms >>= λ none. Ok (row.Frame (record { frame = frame; retries = retries; state = state; version = version }))

unfoldable pub depend_row_at : Members → Result ListRow Fault
depend_row_at ms =
    whole_at (codes "depend") 1 LAST_DEPEND ms >>= λ depend. word_at kind_of (codes "kind") ms >>= λ named. flag_at (codes "satisfied") ms >>= λ satisfied.
    others_at (row_keys kind.Depend) ms >>= λ none. Ok (row.Depend (record { depend = depend; kind = named; satisfied = satisfied }))

unfoldable pub proc_row_at : Members → Result ListRow Fault
proc_row_at ms =
    whole_at (codes "cores") LEAST_CORES MOST_CORES ms >>= λ cores. text_at (codes "frame") ms >>= λ frame. name_at (codes "host") ms >>= λ host.
    name_at (codes "job") ms >>= λ job. whole_at (codes "memory") LEAST_MEMORY MOST_MEMORY ms >>= λ memory. whole_at (codes "slot") 0 LAST_SLOT ms >>= λ slot.
    whole_at (codes "version") 0 LAST_VERSION ms >>= λ version. others_at (row_keys kind.Proc) ms >>= λ none. Ok (row.Proc (record { cores = cores; frame = frame; host = host; job = job; memory = memory; slot = slot; version = version }))

-- ---- rows of one list

abbrev pub row_at : RowKind → Members → Result ListRow Fault
row_at kind.Name ms = name_row_at ms
row_at kind.Sub ms = sub_row_at ms
row_at kind.Limit ms = limit_row_at ms
row_at kind.Host ms = host_row_at ms
row_at kind.Job ms = job_row_at ms
row_at kind.Layer ms = layer_row_at ms
row_at kind.Frame ms = frame_row_at ms
row_at kind.Depend ms = depend_row_at ms
row_at kind.Proc ms = proc_row_at ms

-- the kind of a row that has a key which no other kind has
abbrev pub kind_of_keys : Members → RowKind
kind_of_keys ms =
    if has_key (codes "used_cores") ms then kind.Host
    else (if has_key (codes "priority") ms then kind.Job
    else (if has_key (codes "range") ms then kind.Layer
    else (if has_key (codes "booked") ms then kind.Sub
    else (if has_key (codes "most") ms then kind.Limit
    else (if has_key (codes "retries") ms then kind.Frame
    else (if has_key (codes "satisfied") ms then kind.Depend
    else (if has_key (codes "slot") ms then kind.Proc
    else kind.Name)))))))

abbrev pub kind_of_row_at : Option Members → RowKind
kind_of_row_at None = kind.Name
kind_of_row_at (Some ms) = kind_of_keys ms

-- the kind of the first row, which is that of each
abbrev pub kind_of_rows : Items → RowKind
kind_of_rows no_items = kind.Name
kind_of_rows (item d ds) = kind_of_row_at (as_object d)

abbrev pub rows_in : Items → Result (List ListRow) Fault
rows_in ds = items_at (codes "rows") (row_at (kind_of_rows ds)) ds

abbrev pub rows_at : Members → Result (List ListRow) Fault
rows_at ms = list_at (codes "rows") ms >>= rows_in
