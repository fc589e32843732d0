-- What a line asks makes an entry within its forms and limits.
use Rattle.std.proofs.Common.{◌≡◌, ℕ, ◌≤◌, ◌<◌, ◌^◌, List, length, Bool, true, false, cond, refl, arith, Option, None, Some, Result, Ok, Err}
use Rattle.std.specs.Prelude.{IfOk, ◌&&◌, bytes_eq, codes, ⊤}
use Rattle.std.specs.List.{All, list_all}
use Rattle.std.specs.Option.{IfSome}
use Rattle.std.proofs.lemmas.Bool.{and_parts}
use Rattle.serde_json.specs.Data.{Members}
use Rattle.cue_json.specs.Fields.{Fault, ◌>>=◌, of_kind, object_at, others_at, signed_at, text_at, whole_at, has_key}
use Rattle.cue_json.specs.Items.{list_of}
use Rattle.cue_json.specs.Lines.{object_in}
use Rattle.farm_types.specs.declared.job.JobSpec.{JobSpec}
use Rattle.farm_types.specs.declared.rows.AllocRow.{AllocRow}
use Rattle.farm_types.specs.Formed.{AreFree, IsFormedBoot, IsFormedDepend, IsFormedDone, IsFormedFrame, IsFormedHeard, IsFormedJob, IsFormedSub}
use Rattle.farm_types.specs.Forms.{is_name_text, is_tag_text}
use Rattle.farm_types.specs.Limits.{IsBetween}
use Rattle.state_names.specs.Words.{lock_of, word_at}
use Rattle.farm_lines.specs.declared.asked.Asked.{Asked}
use Rattle.farm_lines.specs.declared.asked.Asked.TheVariants as asks
use Rattle.farm_lines.specs.declared.boot_form.BootForm.{BootForm}
use Rattle.farm_lines.specs.declared.limit_form.LimitForm.{LimitForm}
use Rattle.farm_lines.specs.declared.limit_form.LimitLine.{LimitLine}
use Rattle.farm_lines.specs.declared.report.Report.{Report}
use Rattle.farm_lines.specs.declared.request.Request.{Request}
use Rattle.farm_lines.specs.declared.request.Request.TheVariants as request
use Rattle.farm_lines.specs.declared.sub_form.SubForm.{SubForm}
use Rattle.farm_lines.specs.DependLines.{depend_at}
use Rattle.farm_lines.specs.Fields.{name_at, optional_whole_at}
use Rattle.farm_lines.specs.ListLines.{query_at}
use Rattle.farm_lines.specs.OperatorLines.{asks_pause, frame_at, frame_keys, frame_of_job_at, job_at, job_keys, kill_at, killed_at, names_frame}
use Rattle.farm_lines.specs.Points.{before_point, after_point}
use Rattle.farm_lines.specs.Request.{LockLine, attempt_at, done_at, done_keys, report_at, report_keys, show_at, name_keys, alloc_parts, alloc_of_name, alloc_name_at, alloc_at, sub_form_at, sub_keys, limit_form_at, limit_keys, limit_line_of, limit_line_at, boot_keys, lock_keys, sub_line_of, sub_line_at, boot_form_at, boot_line_of, boot_line_at, lock_line_at, tick_keys, drop_at, drop_keys, submit_keys, after_others, submit_at, asked, judged, asks_alloc, asks_kill, asks_limit, asks_lock, asks_tick, by_op, after_op, request_in, request_of}
use Rattle.farm_lines.specs.Spec.{SpecError, Field, Range, Amount, form_first, number_at, tags_at, within, spec_at}
use Rattle.farm_lines.specs.Asked.{IsFormedAsked, IsFormedAt, asked_of}
use Rattle.farm_lines.proofs.DependLemmas.{depend_formed}
use Rattle.farm_lines.proofs.FieldLemmas.{step, step_any, ok_at, either, kind_formed, name_formed, whole_formed, tags_formed, list_formed}
use Rattle.farm_lines.proofs.SpecLemmas.{first_formed, spec_formed, within_formed}
use Rattle.farm_types.specs.declared.limits.TheConstants.{LAST_BOOT, LAST_DEPEND, LAST_SLOT, LAST_VERSION, LEAST_CORES, LEAST_MEMORY, MOST_BURST, MOST_CORES, MOST_EXIT, MOST_MEMORY, MOST_RUNNING, MOST_TAGS}
use Rattle.farm_lines.specs.declared.limits.TheConstants.{LEAST_FRAME, MOST_FRAME}

-- ---- reports

free_formed : (field : List ℕ) (ms : Members) → IfOk (optional_whole_at field 0 MOST_CORES ms) AreFree
free_formed field ms =
    either AreFree (has_key field ms) (whole_at field 0 MOST_CORES ms >>= λ n. Ok (Some n)) (Ok None)
    (step (λ n. (0 ≤ n) × (n ≤ MOST_CORES)) AreFree (whole_at field 0 MOST_CORES ms) (λ n. Ok (Some n)) (whole_formed field 0 MOST_CORES ms) (λ n between. between.1))
    tt

done_formed : (ms : Members) → IfOk (done_at ms) IsFormedDone
unfolding done_at
done_formed ms =
    step (λ n. (0 ≤ n) × (n ≤ LAST_SLOT)) IsFormedDone (whole_at (codes "slot") 0 LAST_SLOT ms) _ (whole_formed (codes "slot") 0 LAST_SLOT ms) (λ slot slotted.
    step (λ n. (0 ≤ n) × (n ≤ LAST_VERSION)) IsFormedDone (whole_at (codes "version") 0 LAST_VERSION ms) _ (whole_formed (codes "version") 0 LAST_VERSION ms) (λ version versioned.
    step (λ n. (0 ≤ n) × (n ≤ MOST_EXIT)) IsFormedDone (whole_at (codes "status") 0 MOST_EXIT ms) _ (whole_formed (codes "status") 0 MOST_EXIT ms) (λ status exited.
    step (λ n. (0 ≤ n) × (n ≤ MOST_EXIT)) IsFormedDone (whole_at (codes "signal") 0 MOST_EXIT ms) _ (whole_formed (codes "signal") 0 MOST_EXIT ms) (λ signal signalled.
    step AreFree IsFormedDone (optional_whole_at (codes "free") 0 MOST_CORES ms) _ (free_formed (codes "free") ms) (λ free freed.
    step_any IsFormedDone (others_at done_keys ms) _ (λ none.
    record {
      slot_within = slotted.1;
      version_within = versioned.1;
      status_within = exited.1;
      signal_within = signalled.1;
      free_within = freed;
    }))))))

-- the report's act
abbrev IsReport : Report → Type 0
IsReport report = IsFormedHeard report.heard

report_formed : (ms : Members) → IfOk (report_at ms) IsReport
unfolding report_at
report_formed ms =
    step (λ name. is_name_text name ≡ true) IsReport (name_at (codes "host") ms) _ (name_formed (codes "host") ms) (λ host hosted.
    step (λ n. (1 ≤ n) × (n ≤ LAST_BOOT)) IsReport (whole_at (codes "boot") 1 LAST_BOOT ms) _ (whole_formed (codes "boot") 1 LAST_BOOT ms) (λ boot booted.
    step (λ n. (1 ≤ n) × (n ≤ 18446744073709551615)) IsReport (whole_at (codes "seq") 1 18446744073709551615 ms) _ (whole_formed (codes "seq") 1 18446744073709551615 ms) (λ seq told.
    step_any IsReport (list_of (codes "running") attempt_at ms) _ (λ running.
    step (All IsFormedDone) IsReport (list_of (codes "done") done_at ms) _ (list_formed IsFormedDone (codes "done") done_at done_formed ms) (λ done ended.
    step_any IsReport (others_at report_keys ms) _ (λ none.
    record { host = hosted; boot_within = booted; seq_within = (told.0, omega (arith, told.1)); each_done = ended }))))))

-- ---- shows and allocations

show_formed : (ms : Members) → IfOk (show_at ms) (λ name. is_name_text name ≡ true)
unfolding show_at
show_formed ms =
    step (λ name. is_name_text name ≡ true) (λ name. is_name_text name ≡ true) (name_at (codes "name") ms) _ (name_formed (codes "name") ms) (λ name named.
    step_any (λ name. is_name_text name ≡ true) (others_at name_keys ms) _ (λ none. named))

-- its parts are tags
abbrev IsAlloc : AllocRow → Type 0
IsAlloc a = (is_tag_text a.facility ≡ true) × (is_tag_text a.tag ≡ true)

parts_formed : (facility : List ℕ) (tag : Option (List ℕ)) → IfSome (alloc_parts facility tag) IsAlloc
parts_formed facility None = tt
parts_formed facility (Some tag) = by (is_tag_text facility && is_tag_text tag) refl
  where
    by : (b : Bool) → (is_tag_text facility && is_tag_text tag) ≡ b → IfSome (cond b (Some (record { facility = facility; tag = tag })) None) IsAlloc
    by true h = let parts = and_parts (is_tag_text facility) (is_tag_text tag) h in (parts.0, parts.1)
    by false h = tt

alloc_formed : (ms : Members) → IfOk (alloc_at ms) IsAlloc
unfolding alloc_at
alloc_formed ms =
    step IsAlloc IsAlloc (alloc_name_at (codes "name") ms) _
    (step_any IsAlloc (text_at (codes "name") ms) (λ name. of_kind (codes "name") (alloc_of_name name)) (λ name. kind_formed IsAlloc (codes "name") (alloc_of_name name) (parts_formed (before_point name) (after_point name))))
    (λ a parts. step_any IsAlloc (others_at name_keys ms) _ (λ none. parts))

-- ---- subscriptions

sub_form_formed : (ms : Members) → IfOk (sub_form_at ms) (λ form. is_name_text form.show ≡ true)
unfolding sub_form_at
sub_form_formed ms =
    step (λ name. is_name_text name ≡ true) (λ (form : SubForm). is_name_text form.show ≡ true) (name_at (codes "show") ms) _ (name_formed (codes "show") ms) (λ show shown.
    step_any (λ (form : SubForm). is_name_text form.show ≡ true) (text_at (codes "alloc") ms) _ (λ alloc.
    step_any (λ (form : SubForm). is_name_text form.show ≡ true) (number_at (codes "size") ms) _ (λ size.
    step_any (λ (form : SubForm). is_name_text form.show ≡ true) (number_at (codes "burst") ms) _ (λ burst.
    step_any (λ (form : SubForm). is_name_text form.show ≡ true) (others_at sub_keys ms) _ (λ none. shown)))))

sub_amounts_formed : (form : SubForm) → is_name_text form.show ≡ true → IfOk (sub_line_of form) IsFormedSub
unfolding sub_line_of
sub_amounts_formed form shown =
    step (λ none. IsBetween 0 MOST_BURST form.size) IsFormedSub (within (codes "size") 0 MOST_BURST form.size) _ (within_formed (codes "size") 0 MOST_BURST form.size) (λ none sized.
    step (λ none. IsBetween 0 MOST_BURST form.burst) IsFormedSub (within (codes "burst") 0 MOST_BURST form.burst) _ (within_formed (codes "burst") 0 MOST_BURST form.burst) (λ none bounded.
    record { show = shown; limits = record { size_within = sized.1; burst_within = bounded.1 } }))

sub_formed : (ms : Members) → IfOk (sub_line_at ms) IsFormedSub
sub_formed ms =
    step (λ (form : SubForm). is_name_text form.show ≡ true) IsFormedSub (form_first (sub_form_at ms)) sub_line_of
    (first_formed (λ (form : SubForm). is_name_text form.show ≡ true) (sub_form_at ms) (sub_form_formed ms)) sub_amounts_formed

-- ---- limits

abbrev IsLimitForm : LimitForm → Type 0
IsLimitForm form = is_name_text form.name ≡ true

abbrev IsLimit : LimitLine → Type 0
IsLimit line = (is_name_text line.name ≡ true) × (line.most ≤ MOST_RUNNING)

limit_form_formed : (ms : Members) → IfOk (limit_form_at ms) IsLimitForm
unfolding limit_form_at
limit_form_formed ms =
    step (λ name. is_name_text name ≡ true) IsLimitForm (name_at (codes "name") ms) _ (name_formed (codes "name") ms) (λ name named.
    step_any IsLimitForm (number_at (codes "most") ms) _ (λ most.
    step_any IsLimitForm (others_at limit_keys ms) _ (λ none. named)))

limit_amounts_formed : (form : LimitForm) → IsLimitForm form → IfOk (limit_line_of form) IsLimit
unfolding limit_line_of
limit_amounts_formed form named =
    step (λ none. IsBetween 0 MOST_RUNNING form.most) IsLimit (within (codes "most") 0 MOST_RUNNING form.most) _ (within_formed (codes "most") 0 MOST_RUNNING form.most) (λ none bounded.
    (named, bounded.1))

limit_formed : (ms : Members) → IfOk (limit_line_at ms) IsLimit
limit_formed ms =
    step IsLimitForm IsLimit (form_first (limit_form_at ms)) limit_line_of (first_formed IsLimitForm (limit_form_at ms) (limit_form_formed ms)) limit_amounts_formed

-- ---- boots

-- the texts and the nonce of a boot are of their forms
record IsBootForm (form : BootForm) : Type 0 where
  host : is_name_text form.host ≡ true
  nonce : form.nonce < 2 ^ 64
  tags : list_all is_tag_text form.tags ≡ true

boot_form_formed : (ms : Members) → IfOk (boot_form_at ms) IsBootForm
unfolding boot_form_at
boot_form_formed ms =
    step (λ name. is_name_text name ≡ true) IsBootForm (name_at (codes "host") ms) _ (name_formed (codes "host") ms) (λ host hosted.
    step (λ n. (0 ≤ n) × (n ≤ 18446744073709551615)) IsBootForm (whole_at (codes "nonce") 0 18446744073709551615 ms) _ (whole_formed (codes "nonce") 0 18446744073709551615 ms) (λ nonce told.
    step_any IsBootForm (text_at (codes "alloc") ms) _ (λ alloc.
    step (λ tags. list_all is_tag_text tags ≡ true) IsBootForm (tags_at (codes "tags") ms) _ (tags_formed (codes "tags") ms) (λ tags tagged.
    step_any IsBootForm (number_at (codes "cores") ms) _ (λ cores.
    step_any IsBootForm (number_at (codes "memory") ms) _ (λ memory.
    step_any IsBootForm (others_at boot_keys ms) _ (λ none.
    record { host = hosted; nonce = omega (arith, told.1); tags = tagged })))))))

boot_amounts_formed : (form : BootForm) → IsBootForm form → IfOk (boot_line_of form) IsFormedBoot
unfolding boot_line_of
boot_amounts_formed form ok =
    step (λ none. IsBetween 0 MOST_TAGS (length form.tags)) IsFormedBoot (within (codes "tags") 0 MOST_TAGS (length form.tags)) _ (within_formed (codes "tags") 0 MOST_TAGS (length form.tags)) (λ none tagged.
    step (λ none. IsBetween LEAST_CORES MOST_CORES form.cores) IsFormedBoot (within (codes "cores") LEAST_CORES MOST_CORES form.cores) _ (within_formed (codes "cores") LEAST_CORES MOST_CORES form.cores) (λ none some.
    step (λ none. IsBetween LEAST_MEMORY MOST_MEMORY form.memory) IsFormedBoot (within (codes "memory") LEAST_MEMORY MOST_MEMORY form.memory) _ (within_formed (codes "memory") LEAST_MEMORY MOST_MEMORY form.memory) (λ none enough.
    record { host = ok.host; nonce_within = ok.nonce; tags = ok.tags; limits = record { tags_within = tagged.1; cores_within = some; memory_within = enough } })))

boot_formed : (ms : Members) → IfOk (boot_line_at ms) IsFormedBoot
boot_formed ms =
    step IsBootForm IsFormedBoot (form_first (boot_form_at ms)) boot_line_of (first_formed IsBootForm (boot_form_at ms) (boot_form_formed ms)) boot_amounts_formed

-- ---- locks

abbrev IsLock : LockLine → Type 0
IsLock line = is_name_text line.host ≡ true

lock_formed : (ms : Members) → IfOk (lock_line_at ms) IsLock
unfolding lock_line_at
lock_formed ms =
    step (λ name. is_name_text name ≡ true) IsLock (name_at (codes "host") ms) _ (name_formed (codes "host") ms) (λ host hosted. step_any IsLock (word_at lock_of (codes "lock") ms) _ (λ lock. step_any IsLock (others_at lock_keys ms) _ (λ none. hosted)))

-- ---- the submit of a job

others_formed : (read : Result JobSpec SpecError) (others : Result ⊤ Fault) → IfOk read IsFormedJob → IfOk (after_others read others) IsFormedJob
others_formed (Err (Field fault)) others h = tt
others_formed (Ok spec) (Ok none) h = h
others_formed (Ok spec) (Err fault) h = tt
others_formed (Err (Range layer fault)) (Ok none) h = tt
others_formed (Err (Range layer fault)) (Err other) h = tt
others_formed (Err (Amount field)) (Ok none) h = tt
others_formed (Err (Amount field)) (Err other) h = tt

submit_formed : (ms : Members) → IfOk (submit_at ms) IsFormedJob
unfolding submit_at
submit_formed ms =
    others_formed (form_first (object_at (codes "job") ms) >>= spec_at) (others_at submit_keys ms) (step_any IsFormedJob (form_first (object_at (codes "job") ms)) spec_at spec_formed)

-- ---- the drop of a depend

drop_formed : (ms : Members) → IfOk (drop_at ms) (IsBetween 1 LAST_DEPEND)
unfolding drop_at
drop_formed ms =
    step (IsBetween 1 LAST_DEPEND) (IsBetween 1 LAST_DEPEND) (whole_at (codes "depend") 1 LAST_DEPEND ms) _ (whole_formed (codes "depend") 1 LAST_DEPEND ms) (λ depend numbered.
    step_any (IsBetween 1 LAST_DEPEND) (others_at drop_keys ms) _ (λ none. numbered))

-- ---- what operators ask

-- what is asked is within its forms and limits
abbrev AsksFormed : Request → Type 0
AsksFormed what = IsFormedAsked (asked_of what)

abbrev IsName : List ℕ → Type 0
IsName name = is_name_text name ≡ true

job_formed : (ms : Members) → IfOk (job_at ms) IsName
unfolding job_at
job_formed ms = step IsName IsName (name_at (codes "job") ms) _ (name_formed (codes "job") ms) (λ job named. step_any IsName (others_at job_keys ms) _ (λ none. named))

frame_of_job_formed : (job : List ℕ) (ms : Members) → IsName job → IfOk (frame_of_job_at job ms) IsFormedFrame
unfolding frame_of_job_at
frame_of_job_formed job ms named =
    step IsName IsFormedFrame (name_at (codes "layer") ms) _ (name_formed (codes "layer") ms) (λ layer layered.
    step_any IsFormedFrame (signed_at (codes "frame") LEAST_FRAME MOST_FRAME ms) _ (λ frame.
    step_any IsFormedFrame (others_at frame_keys ms) _ (λ none. record { job = named; layer = layered })))

frame_formed : (ms : Members) → IfOk (frame_at ms) IsFormedFrame
unfolding frame_at
frame_formed ms = step IsName IsFormedFrame (name_at (codes "job") ms) _ (name_formed (codes "job") ms) (λ job named. frame_of_job_formed job ms named)

killed_formed : (framed : Bool) (job : List ℕ) (ms : Members) → IsName job → IfOk (killed_at framed job ms) AsksFormed
killed_formed true job ms named = step IsFormedFrame AsksFormed (frame_of_job_at job ms) _ (frame_of_job_formed job ms named) (λ p formed. formed)
killed_formed false job ms named = step_any AsksFormed (others_at job_keys ms) _ (λ none. named)

kill_formed : (ms : Members) → IfOk (kill_at ms) AsksFormed
unfolding kill_at
kill_formed ms = step IsName AsksFormed (name_at (codes "job") ms) _ (name_formed (codes "job") ms) (λ job named. killed_formed (names_frame ms) job ms named)

-- ---- a line

asked_formed : {X : Type 0} (P : X → Type 0) (asks : X → Request) (read : Result X Fault) → IfOk read P → ((x : X) → P x → AsksFormed (asks x)) → IfOk (asked asks read) AsksFormed
asked_formed P asks (Ok x) h is = is x h
asked_formed P asks (Err fault) h is = tt

judged_formed : {X : Type 0} (P : X → Type 0) (asks : X → Request) (read : Result X SpecError) → IfOk read P → ((x : X) → P x → AsksFormed (asks x)) → IfOk (judged asks read) AsksFormed
judged_formed P asks (Ok x) h is = is x h
judged_formed P asks (Err error) h is = tt

any_formed : {X : Type 0} (read : Result X Fault) → IfOk read (λ x. Unit {0})
any_formed (Ok x) = tt
any_formed (Err fault) = tt

by_op_formed : (ms : Members) (op : List ℕ) → IfOk (by_op ms op) AsksFormed
by_op_formed ms op =
    either AsksFormed (bytes_eq op (codes "boot")) _ _ (judged_formed IsFormedBoot request.Boot (boot_line_at ms) (boot_formed ms) (λ line h. h))
    (either AsksFormed (bytes_eq op (codes "report")) _ _ (asked_formed IsReport request.Report (report_at ms) (report_formed ms) (λ report h. h))
    (either AsksFormed (bytes_eq op (codes "show")) _ _ (asked_formed (λ name. is_name_text name ≡ true) request.Show (show_at ms) (show_formed ms) (λ name h. h))
    (either AsksFormed (bytes_eq op (codes "alloc")) _ _ (asked_formed IsAlloc asks_alloc (alloc_at ms) (alloc_formed ms) (λ a h. h))
    (either AsksFormed (bytes_eq op (codes "sub")) _ _ (judged_formed IsFormedSub request.Sub (sub_line_at ms) (sub_formed ms) (λ line h. h))
    (either AsksFormed (bytes_eq op (codes "limit")) _ _ (judged_formed IsLimit asks_limit (limit_line_at ms) (limit_formed ms) (λ line h. h))
    (either AsksFormed (bytes_eq op (codes "host")) _ _ (asked_formed IsLock asks_lock (lock_line_at ms) (lock_formed ms) (λ line h. h))
    (either AsksFormed (bytes_eq op (codes "submit")) _ _ (judged_formed IsFormedJob request.Submit (submit_at ms) (submit_formed ms) (λ spec h. h))
    (either AsksFormed (bytes_eq op (codes "depend")) _ _ (asked_formed IsFormedDepend request.Depend (depend_at ms) (depend_formed ms) (λ spec h. h))
    (either AsksFormed (bytes_eq op (codes "drop")) _ _ (asked_formed (IsBetween 1 LAST_DEPEND) request.Drop (drop_at ms) (drop_formed ms) (λ depend h. h))
    (either AsksFormed (bytes_eq op (codes "pause")) _ _ (asked_formed IsName (asks_pause true) (job_at ms) (job_formed ms) (λ job h. h))
    (either AsksFormed (bytes_eq op (codes "resume")) _ _ (asked_formed IsName (asks_pause false) (job_at ms) (job_formed ms) (λ job h. h))
    (either AsksFormed (bytes_eq op (codes "kill")) _ _ (asked_formed AsksFormed asks_kill (kill_at ms) (kill_formed ms) (λ killed h. h))
    (either AsksFormed (bytes_eq op (codes "eat")) _ _ (asked_formed IsFormedFrame request.EatFrame (frame_at ms) (frame_formed ms) (λ p h. h))
    (either AsksFormed (bytes_eq op (codes "retry")) _ _ (asked_formed IsFormedFrame request.RetryFrame (frame_at ms) (frame_formed ms) (λ p h. h))
    (either AsksFormed (bytes_eq op (codes "tick")) _ _ (asked_formed (λ none. Unit {0}) asks_tick (others_at tick_keys ms) (any_formed (others_at tick_keys ms)) (λ none h. h))
    (either AsksFormed (bytes_eq op (codes "list")) _ _ (asked_formed (λ query. Unit {0}) request.List (query_at ms) (any_formed (query_at ms)) (λ query h. h))
    tt))))))))))))))))

after_op_formed : (ms : Members) (op : Result (List ℕ) Fault) → IfOk (after_op ms op) AsksFormed
after_op_formed ms (Ok op) = by_op_formed ms op
after_op_formed ms (Err fault) = tt

request_in_formed : (object : Option Members) → IfOk (request_in object) AsksFormed
request_in_formed None = tt
request_in_formed (Some ms) = after_op_formed ms (text_at (codes "op") ms)

acts_formed : (line : List ℕ) → IfOk (request_of line) AsksFormed
unfolding request_of
acts_formed line = request_in_formed (object_in line)

-- what a line asks is within its forms and limits
pub asked_is_formed : (line : List ℕ) (what : Request) → request_of line ≡ Ok what → IsFormedAsked (asked_of what)
asked_is_formed line what is = ok_at AsksFormed (request_of line) what (acts_formed line) is

formed_at : (moment : ℕ) → moment < 2 ^ 64 → (what : Asked) → IsFormedAsked what → IsFormedAt moment what
formed_at moment low (asks.Report report) formed = record { moment_within = low; act_formed = formed }
formed_at moment low (asks.Act does) formed = record { moment_within = low; act_formed = formed }
formed_at moment low (asks.List query) formed = tt

-- the entry of a request
pub requests_formed : (line : List ℕ) (what : Request) (moment : ℕ) → moment < 2 ^ 64 → request_of line ≡ Ok what → IsFormedAt moment (asked_of what)
requests_formed line what moment low is = formed_at moment low (asked_of what) (asked_is_formed line what is)
