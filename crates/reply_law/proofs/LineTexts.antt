-- What a line asks is within its forms and limits, and what its first fault names too.
use Rattle.std.proofs.Common.{◌≡◌, ℕ, Bool, true, false, cond, List, [], ◌∷◌, length, Option, Some, None, Result, Ok, Err, refl}
use Rattle.std.specs.Prelude.{bytes_eq, codes, option_and_then, ⊤}
use Rattle.std.specs.List.{All}
use Rattle.std.specs.Str.{is_utf8}
use Rattle.std.proofs.lemmas.List.Elements.{All-head, All-tail}
use Rattle.std.proofs.lemmas.Option.{none-some}
use Rattle.serde_json.specs.Data.{Data, Members}
use Rattle.serde_json.specs.Find.{as_object, as_str}
use Rattle.serde_json.specs.Read.{read}
use Rattle.cue_json.specs.Fields.{Fault, ◌>>=◌, object_at, others_at, text_at}
use Rattle.cue_json.specs.Lines.{object_in}
use Rattle.frame_range.specs.declared.fault.RangeFault.{RangeFault}
use Rattle.frame_range.specs.declared.section.Section.{Section}
use Rattle.frame_range.specs.Sets.{set_of}
use Rattle.farm_types.specs.declared.job.JobSpec.{JobSpec}
use Rattle.farm_types.specs.declared.limits.TheConstants.{LEAST_CORES, LEAST_MEMORY, MOST_BURST, MOST_COMMAND, MOST_CORES, MOST_FRAMES, MOST_LAYERS, MOST_MEMORY, MOST_PRIORITY, MOST_RANGE, MOST_RETRIES, MOST_RUNNING, MOST_TAGS}
use Rattle.farm_types.specs.declared.sub_line.SubLine.{SubLine}
use Rattle.farm_types.specs.declared.boot.BootLine.{BootLine}
use Rattle.farm_types.specs.Forms.{is_between}
use Rattle.farm_types.specs.Jobs.{frames_in}
use Rattle.farm_types.specs.Limits.{IsBetween}
use Rattle.farm_types.proofs.Utf8.{ascii_utf8}
use Rattle.farm_lines.specs.declared.boot_form.BootForm.{BootForm}
use Rattle.farm_lines.specs.declared.job_form.JobForm.{JobForm}
use Rattle.farm_lines.specs.declared.job_form.LayerForm.{LayerForm}
use Rattle.farm_lines.specs.declared.limit_form.LimitForm.{LimitForm}
use Rattle.farm_lines.specs.declared.request.Request.{Request}
use Rattle.farm_lines.specs.declared.request.Request.TheVariants as request
use Rattle.farm_lines.specs.declared.sub_form.SubForm.{SubForm}
use Rattle.farm_lines.specs.Asked.{IsFormedAsked, asked_of}
use Rattle.farm_lines.specs.DependLines.{depend_at}
use Rattle.farm_lines.specs.Fields.{name_at}
use Rattle.farm_lines.specs.FormedLines.{IsFormedFault, IsFormedQuery, IsFormedReply, IsFormedRequest, IsName, IsText}
use Rattle.farm_lines.specs.ListLines.{query_at}
use Rattle.farm_lines.specs.OperatorLines.{asks_pause, frame_at, frame_of_job_at, job_at, job_keys, kill_at, killed_at, names_frame}
use Rattle.farm_lines.specs.Points.{cores_of}
use Rattle.farm_lines.specs.Reply.{error_reply}
use Rattle.farm_lines.specs.Request.{BadAmount, BadLine, BadRange, RequestError, after_op, after_others, alloc_at, asked, asks_alloc, asks_kill, asks_limit, asks_lock, asks_tick, boot_form_at, boot_line_at, boot_line_of, by_op, drop_at, judged, limit_form_at, limit_line_at, limit_line_of, lock_line_at, report_at, request_in, request_of, show_at, sub_form_at, sub_line_at, sub_line_of, submit_at, submit_keys, tick_keys}
use Rattle.farm_lines.specs.Spec.{Amount, Field, Range, SpecError, form_first, job_form_at, job_of, layer_cores, layer_of, layers_of, range_of, spec_at, within}
use Rattle.farm_lines.proofs.RequestLemmas.{asked_is_formed}
use Rattle.farm_lines.proofs.SpecLemmas.{within_formed}
use Rattle.reply_law.proofs.FaultTexts.{BootText, FrameNumbered, LayerNamed, LayersNamed, RunsFormed, SubText, alloc_reads, boot_form_reads, depend_reads, drop_reads, frame_at_reads, frame_of_job_reads, job_form_reads, job_reads, limit_form_reads, lock_reads, query_reads, report_reads, show_reads, sub_form_reads}
use Rattle.reply_law.proofs.FieldTexts.{IsPlain, NamesText, Reads, any_reads, members_in, name_reads, object_reads, others_read, then_reads}
use Rattle.reply_law.proofs.RangeFaults.{set_says}
use Rattle.reply_law.proofs.ReadTexts.{MembersTexts, read_texts}
use Rattle.reply_law.proofs.Saying.{Any, Says, one_of, said_fault, said_ok, step, with_ok}

-- ---- specs and amounts

-- what a spec's fault names is a text, or a layer's name and a fault of a range
abbrev NamesSpec : SpecError → Type 0
NamesSpec (Field fault) = NamesText fault
NamesSpec (Range layer fault) = IsName layer × IsFormedFault fault
NamesSpec (Amount field) = IsText field

abbrev Judges : {X : Type 0} → (X → Type 0) → Result X SpecError → Type 0
Judges P r = Says NamesSpec P r

then_judges : {A B : Type 0} (P : A → Type 0) (Q : B → Type 0) (r : Result A SpecError) (k : A → Result B SpecError) → Judges P r → ((x : A) → P x → Judges Q (k x)) → Judges Q (r >>= k)
then_judges P Q r k first next = step NamesSpec P Q r k first next

first_judges : {X : Type 0} (P : X → Type 0) (read : Result X Fault) → Reads P read → Judges P (form_first read)
first_judges P (Ok x) says = says
first_judges P (Err fault) says = says

within_judges : (field : List ℕ) (least most amount : ℕ) → IsPlain field → Judges (λ none. IsBetween least most amount) (within field least most amount)
within_judges field least most amount plain =
    with_ok NamesSpec Any (λ none. IsBetween least most amount) (within field least most amount)
    (one_of NamesSpec Any (is_between least most amount) (Ok tt) (Err (Amount field)) tt (ascii_utf8 field plain)) (within_formed field least most amount)

range_judges : (layer : List ℕ) (r : Result (List Section) RangeFault) → IsName layer → Says IsFormedFault Any r → Judges Any (range_of layer r)
range_judges layer (Ok sections) named says = tt
range_judges layer (Err fault) named says = (named, says)

cores_judges : (field : List ℕ) (o : Option ℕ) → IsPlain field → Judges Any (layer_cores field o)
cores_judges field None plain = ascii_utf8 field plain
cores_judges field (Some cores) plain =
    then_judges (λ none. IsBetween LEAST_CORES MOST_CORES cores) Any (within field LEAST_CORES MOST_CORES cores) _ (within_judges field LEAST_CORES MOST_CORES cores plain) (λ ok some. tt)

layer_judges : (form : LayerForm) → IsName form.name → Judges Any (layer_of form)
unfolding layer_of
layer_judges form named =
    then_judges (λ none. IsBetween 0 MOST_RANGE (length form.range)) Any (within (codes "range") 0 MOST_RANGE (length form.range)) _ (within_judges (codes "range") 0 MOST_RANGE (length form.range) refl) (λ short few.
    then_judges Any Any (range_of form.name (set_of form.range)) _ (range_judges form.name (set_of form.range) named (set_says form.range few.1)) (λ sections a.
    then_judges (λ none. IsBetween 1 MOST_COMMAND (length form.command)) Any (within (codes "command") 1 MOST_COMMAND (length form.command)) _ (within_judges (codes "command") 1 MOST_COMMAND (length form.command) refl) (λ some b.
    then_judges Any Any (layer_cores (codes "cores") (cores_of form.cores)) _ (cores_judges (codes "cores") (cores_of form.cores) refl) (λ cores c.
    then_judges (λ none. IsBetween LEAST_MEMORY MOST_MEMORY form.memory) Any (within (codes "memory") LEAST_MEMORY MOST_MEMORY form.memory) _ (within_judges (codes "memory") LEAST_MEMORY MOST_MEMORY form.memory refl) (λ enough d.
    then_judges (λ none. IsBetween 1 MOST_TAGS (length form.tags)) Any (within (codes "tags") 1 MOST_TAGS (length form.tags)) _ (within_judges (codes "tags") 1 MOST_TAGS (length form.tags) refl) (λ tagged e. tt))))))

layers_judge : (forms : List LayerForm) → All LayerNamed forms → Judges Any (layers_of forms)
layers_judge [] named = tt
layers_judge (form ∷ forms) named =
    then_judges Any Any (layer_of form) _ (layer_judges form (All-head LayerNamed form forms named)) (λ layer a.
    then_judges Any Any (layers_of forms) _ (layers_judge forms (All-tail LayerNamed form forms named)) (λ layers b. tt))

job_judges : (form : JobForm) → LayersNamed form → Judges Any (job_of form)
unfolding job_of
job_judges form named =
    then_judges (λ none. IsBetween 1 MOST_PRIORITY form.priority) Any (within (codes "priority") 1 MOST_PRIORITY form.priority) _ (within_judges (codes "priority") 1 MOST_PRIORITY form.priority refl) (λ ranked a.
    then_judges (λ none. IsBetween 0 MOST_RETRIES form.max_retries) Any (within (codes "max_retries") 0 MOST_RETRIES form.max_retries) _ (within_judges (codes "max_retries") 0 MOST_RETRIES form.max_retries refl) (λ retried b.
    then_judges (λ none. IsBetween 1 MOST_LAYERS (length form.layers)) Any (within (codes "layers") 1 MOST_LAYERS (length form.layers)) _ (within_judges (codes "layers") 1 MOST_LAYERS (length form.layers) refl) (λ layered c.
    then_judges Any Any (layers_of form.layers) _ (layers_judge form.layers named) (λ layers d.
    then_judges (λ none. IsBetween 1 MOST_FRAMES (frames_in layers)) Any (within (codes "layers") 1 MOST_FRAMES (frames_in layers)) _ (within_judges (codes "layers") 1 MOST_FRAMES (frames_in layers) refl) (λ framed e. tt)))))

spec_judges : (ms : Members) → MembersTexts ms → Judges Any (spec_at ms)
unfolding spec_at
spec_judges ms all = then_judges LayersNamed Any (form_first (job_form_at ms)) job_of (first_judges LayersNamed (job_form_at ms) (job_form_reads ms all)) job_judges

others_judge : (read : Result JobSpec SpecError) (others : Result ⊤ Fault) → Judges Any read → Reads Any others → Judges Any (after_others read others)
others_judge (Err (Field fault)) others says named = says
others_judge (Ok spec) (Ok none) says named = tt
others_judge (Ok spec) (Err fault) says named = named
others_judge (Err (Range layer fault)) (Ok none) says named = says
others_judge (Err (Range layer fault)) (Err other) says named = named
others_judge (Err (Amount field)) (Ok none) says named = says
others_judge (Err (Amount field)) (Err other) says named = named

submit_judges : (ms : Members) → MembersTexts ms → Judges Any (submit_at ms)
unfolding submit_at
submit_judges ms all =
    others_judge (form_first (object_at (codes "job") ms) >>= spec_at) (others_at submit_keys ms)
    (then_judges MembersTexts Any (form_first (object_at (codes "job") ms)) spec_at (first_judges MembersTexts (object_at (codes "job") ms) (object_reads (codes "job") ms refl all)) spec_judges)
    (others_read submit_keys ms all)

abbrev SubSays : SubLine → Type 0
SubSays line = IsText line.alloc

sub_amounts : (form : SubForm) → SubText form → Judges SubSays (sub_line_of form)
unfolding sub_line_of
sub_amounts form text =
    then_judges (λ none. IsBetween 0 MOST_BURST form.size) SubSays (within (codes "size") 0 MOST_BURST form.size) _ (within_judges (codes "size") 0 MOST_BURST form.size refl) (λ sized a.
    then_judges (λ none. IsBetween 0 MOST_BURST form.burst) SubSays (within (codes "burst") 0 MOST_BURST form.burst) _ (within_judges (codes "burst") 0 MOST_BURST form.burst refl) (λ bounded b. text))

sub_judges : (ms : Members) → MembersTexts ms → Judges SubSays (sub_line_at ms)
sub_judges ms all = then_judges SubText SubSays (form_first (sub_form_at ms)) sub_line_of (first_judges SubText (sub_form_at ms) (sub_form_reads ms all)) sub_amounts

limit_amounts : (form : LimitForm) → Judges Any (limit_line_of form)
unfolding limit_line_of
limit_amounts form =
    then_judges (λ none. IsBetween 0 MOST_RUNNING form.most) Any (within (codes "most") 0 MOST_RUNNING form.most) _ (within_judges (codes "most") 0 MOST_RUNNING form.most refl) (λ bounded a. tt)

limit_judges : (ms : Members) → MembersTexts ms → Judges Any (limit_line_at ms)
limit_judges ms all = then_judges Any Any (form_first (limit_form_at ms)) limit_line_of (first_judges Any (limit_form_at ms) (limit_form_reads ms all)) (λ form a. limit_amounts form)

abbrev BootSays : BootLine → Type 0
BootSays line = IsText line.alloc

boot_amounts : (form : BootForm) → BootText form → Judges BootSays (boot_line_of form)
unfolding boot_line_of
boot_amounts form text =
    then_judges (λ none. IsBetween 0 MOST_TAGS (length form.tags)) BootSays (within (codes "tags") 0 MOST_TAGS (length form.tags)) _ (within_judges (codes "tags") 0 MOST_TAGS (length form.tags) refl) (λ tagged a.
    then_judges (λ none. IsBetween LEAST_CORES MOST_CORES form.cores) BootSays (within (codes "cores") LEAST_CORES MOST_CORES form.cores) _ (within_judges (codes "cores") LEAST_CORES MOST_CORES form.cores refl) (λ some b.
    then_judges (λ none. IsBetween LEAST_MEMORY MOST_MEMORY form.memory) BootSays (within (codes "memory") LEAST_MEMORY MOST_MEMORY form.memory) _ (within_judges (codes "memory") LEAST_MEMORY MOST_MEMORY form.memory refl) (λ enough c. text)))

boot_judges : (ms : Members) → MembersTexts ms → Judges BootSays (boot_line_at ms)
boot_judges ms all = then_judges BootText BootSays (form_first (boot_form_at ms)) boot_line_of (first_judges BootText (boot_form_at ms) (boot_form_reads ms all)) boot_amounts

-- ---- lines

-- what is said of a line's fault
abbrev NamesError : RequestError → Type 0
NamesError (BadLine field) = IsText field
NamesError (BadRange layer fault) = IsName layer × IsFormedFault fault
NamesError (BadAmount field) = IsText field

-- of what is asked, what no entry has
abbrev HasOwn : Request → Type 0
HasOwn (request.Report report) = RunsFormed report
HasOwn (request.KillFrame p) = FrameNumbered p
HasOwn (request.EatFrame p) = FrameNumbered p
HasOwn (request.RetryFrame p) = FrameNumbered p
HasOwn (request.Sub line) = SubSays line
HasOwn (request.Boot line) = BootSays line
HasOwn (request.List query) = IsFormedQuery query
HasOwn rest = Unit {0}

abbrev AsksOwn : Result Request RequestError → Type 0
AsksOwn r = Says NamesError HasOwn r

asked_own : {X : Type 0} (P : X → Type 0) (asks : X → Request) (read : Result X Fault) → Reads P read → ((x : X) → P x → HasOwn (asks x)) → AsksOwn (asked asks read)
asked_own P asks (Ok x) says is = is x says
asked_own P asks (Err fault) says is = says

judged_own : {X : Type 0} (P : X → Type 0) (asks : X → Request) (read : Result X SpecError) → Judges P read → ((x : X) → P x → HasOwn (asks x)) → AsksOwn (judged asks read)
judged_own P asks (Ok x) says is = is x says
judged_own P asks (Err (Field fault)) says is = says
judged_own P asks (Err (Range layer fault)) says is = says
judged_own P asks (Err (Amount field)) says is = says

killed_reads : (framed : Bool) (job : List ℕ) (ms : Members) → MembersTexts ms → Reads HasOwn (killed_at framed job ms)
killed_reads true job ms all = then_reads FrameNumbered HasOwn (frame_of_job_at job ms) (λ p. Ok (request.KillFrame p)) (frame_of_job_reads job ms all) (λ p numbered. numbered)
killed_reads false job ms all = then_reads Any HasOwn (others_at job_keys ms) (λ none. Ok (request.KillJob job)) (others_read job_keys ms all) (λ none a. tt)

kill_reads : (ms : Members) → MembersTexts ms → Reads HasOwn (kill_at ms)
unfolding kill_at
kill_reads ms all =
    then_reads IsName HasOwn (name_at (codes "job") ms) _ (name_reads (codes "job") ms refl) (λ job a. killed_reads (names_frame ms) job ms all)

by_op_own : (ms : Members) (op : List ℕ) → MembersTexts ms → AsksOwn (by_op ms op)
by_op_own ms op all =
    one_of NamesError HasOwn (bytes_eq op (codes "boot")) _ _ (judged_own BootSays request.Boot (boot_line_at ms) (boot_judges ms all) (λ line h. h))
    (one_of NamesError HasOwn (bytes_eq op (codes "report")) _ _ (asked_own RunsFormed request.Report (report_at ms) (report_reads ms all) (λ report h. h))
    (one_of NamesError HasOwn (bytes_eq op (codes "show")) _ _ (asked_own Any request.Show (show_at ms) (show_reads ms all) (λ name h. h))
    (one_of NamesError HasOwn (bytes_eq op (codes "alloc")) _ _ (asked_own Any asks_alloc (alloc_at ms) (alloc_reads ms all) (λ a h. h))
    (one_of NamesError HasOwn (bytes_eq op (codes "sub")) _ _ (judged_own SubSays request.Sub (sub_line_at ms) (sub_judges ms all) (λ line h. h))
    (one_of NamesError HasOwn (bytes_eq op (codes "limit")) _ _ (judged_own Any asks_limit (limit_line_at ms) (limit_judges ms all) (λ line h. h))
    (one_of NamesError HasOwn (bytes_eq op (codes "host")) _ _ (asked_own Any asks_lock (lock_line_at ms) (lock_reads ms all) (λ line h. h))
    (one_of NamesError HasOwn (bytes_eq op (codes "submit")) _ _ (judged_own Any request.Submit (submit_at ms) (submit_judges ms all) (λ spec h. h))
    (one_of NamesError HasOwn (bytes_eq op (codes "depend")) _ _ (asked_own Any request.Depend (depend_at ms) (depend_reads ms all) (λ spec h. h))
    (one_of NamesError HasOwn (bytes_eq op (codes "drop")) _ _ (asked_own Any request.Drop (drop_at ms) (drop_reads ms all) (λ depend h. h))
    (one_of NamesError HasOwn (bytes_eq op (codes "pause")) _ _ (asked_own Any (asks_pause true) (job_at ms) (job_reads ms all) (λ job h. h))
    (one_of NamesError HasOwn (bytes_eq op (codes "resume")) _ _ (asked_own Any (asks_pause false) (job_at ms) (job_reads ms all) (λ job h. h))
    (one_of NamesError HasOwn (bytes_eq op (codes "kill")) _ _ (asked_own HasOwn asks_kill (kill_at ms) (kill_reads ms all) (λ killed h. h))
    (one_of NamesError HasOwn (bytes_eq op (codes "eat")) _ _ (asked_own FrameNumbered request.EatFrame (frame_at ms) (frame_at_reads ms all) (λ p h. h))
    (one_of NamesError HasOwn (bytes_eq op (codes "retry")) _ _ (asked_own FrameNumbered request.RetryFrame (frame_at ms) (frame_at_reads ms all) (λ p h. h))
    (one_of NamesError HasOwn (bytes_eq op (codes "tick")) _ _ (asked_own Any asks_tick (others_at tick_keys ms) (others_read tick_keys ms all) (λ none h. h))
    (one_of NamesError HasOwn (bytes_eq op (codes "list")) _ _ (asked_own IsFormedQuery request.List (query_at ms) (query_reads ms all) (λ query h. h))
    (ascii_utf8 (codes "op") refl)))))))))))))))))

after_op_own : (ms : Members) (op : Result (List ℕ) Fault) → Reads Any op → MembersTexts ms → AsksOwn (after_op ms op)
after_op_own ms (Ok op) says all = by_op_own ms op all
after_op_own ms (Err fault) says all = says

request_own : (o : Option Members) → ((ms : Members) → o ≡ Some ms → MembersTexts ms) → AsksOwn (request_in o)
request_own None all = ascii_utf8 [] refl
request_own (Some ms) all = after_op_own ms (text_at (codes "op") ms) (any_reads (codes "op") as_str ms refl) (all ms refl)

object_by : (line : List ℕ) (b : Bool) → is_utf8 line ≡ b → (o : Option Data) → read line ≡ o → (ms : Members) → cond b (option_and_then as_object o) None ≡ Some ms → MembersTexts ms
object_by line false text o is ms found = absurd (none-some ms found)
object_by line true text None is ms found = absurd (none-some ms found)
object_by line true text (Some d) is ms found = members_in d ms (read_texts line d text is) found

object_texts : (line : List ℕ) (ms : Members) → object_in line ≡ Some ms → MembersTexts ms
unfolding object_in
object_texts line ms found = object_by line (is_utf8 line) refl (read line) refl ms found

line_own : (line : List ℕ) → AsksOwn (request_of line)
unfolding request_of
line_own line = request_own (object_in line) (object_texts line)

-- what an entry has, and what none has
formed_by : (what : Request) → IsFormedAsked (asked_of what) → HasOwn what → IsFormedRequest what
formed_by (request.Report report) asked own = (asked, own)
formed_by (request.KillFrame p) asked own = (asked, own)
formed_by (request.EatFrame p) asked own = (asked, own)
formed_by (request.RetryFrame p) asked own = (asked, own)
formed_by (request.Sub line) asked own = (asked, own)
formed_by (request.Boot line) asked own = (asked, own)
formed_by (request.List query) asked own = own
formed_by what asked own = asked

-- what a line asks
pub request_formed : (line : List ℕ) (what : Request) → request_of line ≡ Ok what → IsFormedRequest what
request_formed line what asks = formed_by what (asked_is_formed line what asks) (said_ok NamesError HasOwn (request_of line) what (line_own line) asks)

error_by : (error : RequestError) → NamesError error → IsFormedReply (error_reply error)
error_by (BadLine field) named = named
error_by (BadRange layer fault) named = named
error_by (BadAmount field) named = named

-- what is replied to its fault
pub fault_formed : (line : List ℕ) (error : RequestError) → request_of line ≡ Err error → IsFormedReply (error_reply error)
fault_formed line error is = error_by error (said_fault NamesError HasOwn (request_of line) error (line_own line) is)
