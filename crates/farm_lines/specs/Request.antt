-- What a line asks, read field by field, or its first fault.
use Rattle.std.specs.Prelude.{ℕ, ◌&&◌, true, false, List, [], ◌∷◌, codes, length, Option, None, Some, Result, Ok, Err, ⊤, bytes_eq, if◌then◌else◌}
use Rattle.serde_json.specs.Data.{Members}
use Rattle.cue_json.specs.Fields.{Fault, field_of, ◌>>=◌, of_kind, text_at, whole_at, object_at, others_at}
use Rattle.cue_json.specs.Items.{list_of}
use Rattle.cue_json.specs.Lines.{object_in}
use Rattle.frame_range.specs.declared.fault.RangeFault.{RangeFault}
use Rattle.farm_types.specs.declared.attempt.Attempt.{Attempt}
use Rattle.farm_types.specs.declared.attempt.DoneItem.{DoneItem}
use Rattle.state_names.specs.Words.{lock_of, word_at}
use Rattle.farm_lines.specs.declared.boot_form.BootForm.{BootForm}
use Rattle.farm_types.specs.declared.boot.BootLine.{BootLine}
use Rattle.farm_types.specs.declared.job.JobSpec.{JobSpec}
use Rattle.farm_lines.specs.declared.report.Report.{Report}
use Rattle.farm_lines.specs.declared.request.Request.{Request}
use Rattle.farm_lines.specs.declared.request.Request.TheVariants as request
use Rattle.farm_types.specs.declared.rows.AllocRow.{AllocRow}
use Rattle.farm_types.specs.declared.states.LockState.{LockState}
use Rattle.farm_lines.specs.declared.limit_form.LimitForm.{LimitForm}
use Rattle.farm_lines.specs.declared.limit_form.LimitLine.{LimitLine}
use Rattle.farm_lines.specs.declared.sub_form.SubForm.{SubForm}
use Rattle.farm_types.specs.declared.sub_line.SubLine.{SubLine}
use Rattle.farm_lines.specs.DependLines.{depend_at}
use Rattle.farm_lines.specs.Fields.{name_at, optional_whole_at}
use Rattle.farm_types.specs.Forms.{is_tag_text}
use Rattle.farm_lines.specs.ListLines.{query_at}
use Rattle.farm_lines.specs.OperatorLines.{asks_pause, frame_at, job_at, kill_at}
use Rattle.farm_lines.specs.Points.{before_point, after_point}
use Rattle.farm_lines.specs.Spec.{SpecError, Field, Range, Amount, form_first, number_at, tags_at, within, spec_at}
use Rattle.farm_types.specs.declared.limits.TheConstants.{LAST_BOOT, LAST_DEPEND, LAST_SLOT, LAST_VERSION, LEAST_CORES, LEAST_MEMORY, MOST_BURST, MOST_CORES, MOST_EXIT, MOST_MEMORY, MOST_RUNNING, MOST_TAGS}

-- the first fault of a malformed line: the field at fault, empty where the line is no JSON object; a layer's range has a fault; or the amount of a field
-- is outside its limits
pub data RequestError : Type 0 where
  BadLine : List ℕ → RequestError
  BadRange : List ℕ → RangeFault → RequestError
  BadAmount : List ℕ → RequestError

-- ---- a report

-- a running attempt: slot and version
abbrev pub attempt_keys : List (List ℕ)
attempt_keys = codes "slot" ∷ codes "version" ∷ []

unfoldable pub attempt_at : Members → Result Attempt Fault
attempt_at ms =
    whole_at (codes "slot") 0 LAST_SLOT ms >>= λ slot. whole_at (codes "version") 0 LAST_VERSION ms >>= λ version.
    others_at attempt_keys ms >>= λ none. Ok (record { slot = slot; version = version })

-- a completion: slot, version, status, signal, and the number of free cores, which may be left out
abbrev pub done_keys : List (List ℕ)
done_keys = codes "free" ∷ codes "signal" ∷ codes "slot" ∷ codes "status" ∷ codes "version" ∷ []

unfoldable pub done_at : Members → Result DoneItem Fault
done_at ms =
    whole_at (codes "slot") 0 LAST_SLOT ms >>= λ slot. whole_at (codes "version") 0 LAST_VERSION ms >>= λ version.
    whole_at (codes "status") 0 MOST_EXIT ms >>= λ status. whole_at (codes "signal") 0 MOST_EXIT ms >>= λ signal.
    optional_whole_at (codes "free") 0 MOST_CORES ms >>= λ free. others_at done_keys ms >>= λ none.
    Ok (record { attempt = record { slot = slot; version = version }; exit = record { status = status; signal = signal }; free = free })

abbrev pub report_keys : List (List ℕ)
report_keys = codes "boot" ∷ codes "done" ∷ codes "host" ∷ codes "op" ∷ codes "running" ∷ codes "seq" ∷ []

unfoldable pub report_at : Members → Result Report Fault
report_at ms =
    name_at (codes "host") ms >>= λ host. whole_at (codes "boot") 1 LAST_BOOT ms >>= λ boot.
    whole_at (codes "seq") 1 18446744073709551615 ms >>= λ seq. list_of (codes "running") attempt_at ms >>= λ running.
    list_of (codes "done") done_at ms >>= λ done. others_at report_keys ms >>= λ none.
    Ok (record { heard = record { host = host; boot = boot; seq = seq; done = done }; running = running })

-- ---- shows and allocations

abbrev pub name_keys : List (List ℕ)
name_keys = codes "name" ∷ codes "op" ∷ []

-- the show's name
unfoldable pub show_at : Members → Result (List ℕ) Fault
show_at ms = name_at (codes "name") ms >>= λ name. others_at name_keys ms >>= λ none. Ok name

-- an allocation's name: a facility, a point, and a tag
abbrev pub alloc_parts : List ℕ → Option (List ℕ) → Option AllocRow
alloc_parts facility None = None
alloc_parts facility (Some tag) = if is_tag_text facility && is_tag_text tag then Some (record { facility = facility; tag = tag }) else None

abbrev pub alloc_of_name : List ℕ → Option AllocRow
alloc_of_name name = alloc_parts (before_point name) (after_point name)

abbrev pub alloc_name_at : List ℕ → Members → Result AllocRow Fault
alloc_name_at field ms = text_at field ms >>= λ name. of_kind field (alloc_of_name name)

unfoldable pub alloc_at : Members → Result AllocRow Fault
alloc_at ms = alloc_name_at (codes "name") ms >>= λ a. others_at name_keys ms >>= λ none. Ok a

-- ---- subscriptions

abbrev pub sub_keys : List (List ℕ)
sub_keys = codes "alloc" ∷ codes "burst" ∷ codes "op" ∷ codes "show" ∷ codes "size" ∷ []

unfoldable pub sub_form_at : Members → Result SubForm Fault
sub_form_at ms =
    name_at (codes "show") ms >>= λ show. text_at (codes "alloc") ms >>= λ alloc. number_at (codes "size") ms >>= λ size.
    number_at (codes "burst") ms >>= λ burst. others_at sub_keys ms >>= λ none.
    Ok (record { show = show; alloc = alloc; size = size; burst = burst })

-- the amounts in order: size, then burst
unfoldable pub sub_line_of : SubForm → Result SubLine SpecError
sub_line_of form =
    within (codes "size") 0 MOST_BURST form.size >>= λ sized. within (codes "burst") 0 MOST_BURST form.burst >>= λ bounded.
    Ok (record { show = form.show; alloc = form.alloc; size = form.size; burst = form.burst })

abbrev pub sub_line_at : Members → Result SubLine SpecError
sub_line_at ms = form_first (sub_form_at ms) >>= sub_line_of

-- ---- limits

abbrev pub limit_keys : List (List ℕ)
limit_keys = codes "most" ∷ codes "name" ∷ codes "op" ∷ []

unfoldable pub limit_form_at : Members → Result LimitForm Fault
limit_form_at ms =
    name_at (codes "name") ms >>= λ name. number_at (codes "most") ms >>= λ most. others_at limit_keys ms >>= λ none.
    Ok (record { name = name; most = most })

unfoldable pub limit_line_of : LimitForm → Result LimitLine SpecError
limit_line_of form = within (codes "most") 0 MOST_RUNNING form.most >>= λ bounded. Ok (record { name = form.name; most = form.most })

abbrev pub limit_line_at : Members → Result LimitLine SpecError
limit_line_at ms = form_first (limit_form_at ms) >>= limit_line_of

-- ---- boots

abbrev pub boot_keys : List (List ℕ)
boot_keys = codes "alloc" ∷ codes "cores" ∷ codes "host" ∷ codes "memory" ∷ codes "nonce" ∷ codes "op" ∷ codes "tags" ∷ []

unfoldable pub boot_form_at : Members → Result BootForm Fault
boot_form_at ms =
    name_at (codes "host") ms >>= λ host. number_at (codes "nonce") ms >>= λ nonce. text_at (codes "alloc") ms >>= λ alloc.
    tags_at (codes "tags") ms >>= λ tags. number_at (codes "cores") ms >>= λ cores. number_at (codes "memory") ms >>= λ memory.
    others_at boot_keys ms >>= λ none.
    Ok (record { host = host; nonce = nonce; alloc = alloc; tags = tags; cores = cores; memory = memory })

-- the amounts in order: how many tags there are, then cores, then memory
unfoldable pub boot_line_of : BootForm → Result BootLine SpecError
boot_line_of form =
    within (codes "tags") 0 MOST_TAGS (length form.tags) >>= λ tagged. within (codes "cores") LEAST_CORES MOST_CORES form.cores >>= λ some.
    within (codes "memory") LEAST_MEMORY MOST_MEMORY form.memory >>= λ enough.
    Ok (record { host = form.host; nonce = form.nonce; alloc = form.alloc; tags = form.tags; cores = form.cores; memory = form.memory })

abbrev pub boot_line_at : Members → Result BootLine SpecError
boot_line_at ms = form_first (boot_form_at ms) >>= boot_line_of

-- ---- locks

-- a host's name, and the state that its lock is put into
pub record LockLine : Type 0 where
  pub host : List ℕ
  pub lock : LockState

abbrev pub lock_keys : List (List ℕ)
lock_keys = codes "host" ∷ codes "lock" ∷ codes "op" ∷ []

unfoldable pub lock_line_at : Members → Result LockLine Fault
lock_line_at ms =
    name_at (codes "host") ms >>= λ host. word_at lock_of (codes "lock") ms >>= λ lock. others_at lock_keys ms >>= λ none.
    Ok (record { host = host; lock = lock })

-- ---- ticks

abbrev pub tick_keys : List (List ℕ)
tick_keys = codes "op" ∷ []

-- ---- the submit of a job

abbrev pub submit_keys : List (List ℕ)
submit_keys = codes "job" ∷ codes "op" ∷ []

-- a field that isn't expected beside the spec comes after the faults of the spec's form, and before those of its amounts
abbrev pub after_others : Result JobSpec SpecError → Result ⊤ Fault → Result JobSpec SpecError
after_others (Err (Field fault)) others = Err (Field fault)
after_others read (Ok none) = read
after_others read (Err fault) = Err (Field fault)

unfoldable pub submit_at : Members → Result JobSpec SpecError
submit_at ms = after_others (form_first (object_at (codes "job") ms) >>= spec_at) (others_at submit_keys ms)

-- ---- the drop of a depend

abbrev pub drop_keys : List (List ℕ)
drop_keys = codes "depend" ∷ codes "op" ∷ []

-- the depend's number
unfoldable pub drop_at : Members → Result ℕ Fault
drop_at ms = whole_at (codes "depend") 1 LAST_DEPEND ms >>= λ depend. others_at drop_keys ms >>= λ none. Ok depend

-- ---- a line

-- what is asked, or the name of the field at fault
abbrev pub asked : {X : Type 0} → (X → Request) → Result X Fault → Result Request RequestError
asked asks (Ok x) = Ok (asks x)
asked asks (Err fault) = Err (BadLine (field_of fault))

abbrev pub error_of : SpecError → RequestError
error_of (Field fault) = BadLine (field_of fault)
error_of (Range layer fault) = BadRange layer fault
error_of (Amount field) = BadAmount field

-- the same of what has amounts
abbrev pub judged : {X : Type 0} → (X → Request) → Result X SpecError → Result Request RequestError
judged asks (Ok x) = Ok (asks x)
judged asks (Err error) = Err (error_of error)

abbrev pub asks_alloc : AllocRow → Request
asks_alloc a = request.Alloc a.facility a.tag

abbrev pub asks_limit : LimitLine → Request
asks_limit line = request.Limit line.name line.most

abbrev pub asks_lock : LockLine → Request
asks_lock line = request.Lock line.host line.lock

abbrev pub asks_kill : Request → Request
asks_kill killed = killed

abbrev pub asks_tick : ⊤ → Request
asks_tick none = request.Tick

-- the request that `op` names
abbrev pub by_op : Members → List ℕ → Result Request RequestError
by_op ms op =
    if bytes_eq op (codes "boot") then judged request.Boot (boot_line_at ms)
    else (if bytes_eq op (codes "report") then asked request.Report (report_at ms)
    else (if bytes_eq op (codes "show") then asked request.Show (show_at ms)
    else (if bytes_eq op (codes "alloc") then asked asks_alloc (alloc_at ms)
    else (if bytes_eq op (codes "sub") then judged request.Sub (sub_line_at ms)
    else (if bytes_eq op (codes "limit") then judged asks_limit (limit_line_at ms)
    else (if bytes_eq op (codes "host") then asked asks_lock (lock_line_at ms)
    else (if bytes_eq op (codes "submit") then judged request.Submit (submit_at ms)
    else (if bytes_eq op (codes "depend") then asked request.Depend (depend_at ms)
    else (if bytes_eq op (codes "drop") then asked request.Drop (drop_at ms)
    else (if bytes_eq op (codes "pause") then asked (asks_pause true) (job_at ms)
    else (if bytes_eq op (codes "resume") then asked (asks_pause false) (job_at ms)
    else (if bytes_eq op (codes "kill") then asked asks_kill (kill_at ms)
    else (if bytes_eq op (codes "eat") then asked request.EatFrame (frame_at ms)
    else (if bytes_eq op (codes "retry") then asked request.RetryFrame (frame_at ms)
    else (if bytes_eq op (codes "tick") then asked asks_tick (others_at tick_keys ms)
    else (if bytes_eq op (codes "list") then asked request.List (query_at ms)
    else Err (BadLine (codes "op"))))))))))))))))))

abbrev pub after_op : Members → Result (List ℕ) Fault → Result Request RequestError
after_op ms (Ok op) = by_op ms op
after_op ms (Err fault) = Err (BadLine (field_of fault))

abbrev pub request_at : Members → Result Request RequestError
request_at ms = after_op ms (text_at (codes "op") ms)

abbrev pub request_in : Option Members → Result Request RequestError
request_in None = Err (BadLine [])
request_in (Some ms) = request_at ms

-- what the line asks, or its first fault
unfoldable pub request_of : List ℕ → Result Request RequestError
request_of line = request_in (object_in line)
