-- What each kind of line gives, and that the name in its fault is UTF-8, where the texts of its object are.
use Rattle.std.proofs.Common.{◌≡◌, ◌≤◌, ℕ, Bool, true, false, List, [], ◌∷◌, Some, Ok, refl, arith}
use Rattle.std.specs.Prelude.{bytes_eq, codes}
use Rattle.std.specs.List.{All}
use Rattle.serde_json.specs.Data.{Members}
use Rattle.cue_json.specs.Fields.{as_whole, flag_at, of_kind, others_at, signed_at, text_at, whole_at}
use Rattle.cue_json.specs.Items.{list_of}
use Rattle.serde_json.specs.Find.{as_bool, as_str}
use Rattle.state_names.specs.Words.{kind_of, lock_of, word_at}
use Rattle.farm_types.specs.declared.depend.DependKind.{DependKind}
use Rattle.farm_types.specs.declared.entry.FramePlace.{FramePlace}
use Rattle.farm_types.specs.declared.limits.TheConstants.{LAST_BOOT, LAST_DEPEND, LAST_SLOT, LAST_VERSION, MOST_CORES, MOST_EXIT}
use Rattle.farm_types.specs.Formed.{names_frame, names_layer, names_target_frame, names_target_layer}
use Rattle.farm_types.specs.Forms.{is_command_text, is_frame_number, is_name_or_empty, is_name_text, is_tag_text}
use Rattle.farm_types.proofs.Utf8.{ascii_utf8}
use Rattle.farm_lines.specs.declared.boot_form.BootForm.{BootForm}
use Rattle.farm_lines.specs.declared.job_form.JobForm.{JobForm}
use Rattle.farm_lines.specs.declared.job_form.LayerForm.{LayerForm}
use Rattle.farm_lines.specs.declared.limits.TheConstants.{LEAST_FRAME, MOST_FRAME}
use Rattle.farm_lines.specs.declared.query.Listed.{Listed}
use Rattle.farm_lines.specs.declared.query.Listed.TheVariants as listed
use Rattle.farm_lines.specs.declared.report.Report.{Report}
use Rattle.farm_lines.specs.declared.sub_form.SubForm.{SubForm}
use Rattle.farm_lines.specs.DependLines.{depend_at, depend_keys, frame_if, layer_if, own_depend_at, own_depends, own_keys, target_at, waiter_at}
use Rattle.farm_lines.specs.Fields.{name_at, optional_whole_at, or_default}
use Rattle.farm_lines.specs.FormedLines.{IsFormedAttempt, IsFormedListed, IsFormedQuery, IsName, IsText}
use Rattle.farm_lines.specs.ListLines.{by_word, listed_at, of_job_at, query_at, query_keys}
use Rattle.farm_lines.specs.OperatorLines.{frame_at, frame_keys, frame_of_job_at, job_at}
use Rattle.farm_lines.specs.OperatorLines as operators
use Rattle.farm_lines.specs.Request.{alloc_at, alloc_name_at, alloc_of_name, attempt_at, attempt_keys, boot_form_at, boot_keys, done_at, done_keys, drop_at, drop_keys, limit_form_at, limit_keys, lock_keys, lock_line_at, name_keys, report_at, report_keys, show_at, sub_form_at, sub_keys}
use Rattle.farm_lines.specs.Spec.{job_form_at, layer_form_at, layer_keys, number_at, tags_at, text_of}
use Rattle.farm_lines.specs.Spec as spec
use Rattle.reply_law.proofs.FieldTexts.{IsPlain, NamesText, Reads, any_reads, default_reads, form_reads, kind_reads, list_reads, name_reads, optional_reads, others_read, signed_reads, tags_read, text_reads, then_reads, whole_reads, word_reads}
use Rattle.reply_law.proofs.ReadTexts.{MembersTexts}
use Rattle.reply_law.proofs.Saying.{Any, one_of, says_more}

-- ---- reports

attempt_reads : (ms : Members) → MembersTexts ms → Reads IsFormedAttempt (attempt_at ms)
unfolding attempt_at
attempt_reads ms all =
    then_reads (λ n. (0 ≤ n) × (n ≤ LAST_SLOT)) IsFormedAttempt (whole_at (codes "slot") 0 LAST_SLOT ms) _ (whole_reads (codes "slot") 0 LAST_SLOT ms refl) (λ slot slotted.
    then_reads (λ n. (0 ≤ n) × (n ≤ LAST_VERSION)) IsFormedAttempt (whole_at (codes "version") 0 LAST_VERSION ms) _ (whole_reads (codes "version") 0 LAST_VERSION ms refl) (λ version versioned.
    then_reads Any IsFormedAttempt (others_at attempt_keys ms) _ (others_read attempt_keys ms all) (λ none any. record { slot_within = slotted.1; version_within = versioned.1 })))

done_reads : (ms : Members) → MembersTexts ms → Reads Any (done_at ms)
unfolding done_at
done_reads ms all =
    then_reads Any Any (whole_at (codes "slot") 0 LAST_SLOT ms) _ (any_reads (codes "slot") (as_whole 0 LAST_SLOT) ms refl) (λ slot a.
    then_reads Any Any (whole_at (codes "version") 0 LAST_VERSION ms) _ (any_reads (codes "version") (as_whole 0 LAST_VERSION) ms refl) (λ version b.
    then_reads Any Any (whole_at (codes "status") 0 MOST_EXIT ms) _ (any_reads (codes "status") (as_whole 0 MOST_EXIT) ms refl) (λ status c.
    then_reads Any Any (whole_at (codes "signal") 0 MOST_EXIT ms) _ (any_reads (codes "signal") (as_whole 0 MOST_EXIT) ms refl) (λ signal d.
    then_reads Any Any (optional_whole_at (codes "free") 0 MOST_CORES ms) _ (optional_reads (codes "free") 0 MOST_CORES ms refl) (λ free e.
    then_reads Any Any (others_at done_keys ms) _ (others_read done_keys ms all) (λ none g. tt))))))

-- its running attempts are within their limits
abbrev pub RunsFormed : Report → Type 0
RunsFormed report = All IsFormedAttempt report.running

pub report_reads : (ms : Members) → MembersTexts ms → Reads RunsFormed (report_at ms)
unfolding report_at
report_reads ms all =
    then_reads IsName RunsFormed (name_at (codes "host") ms) _ (name_reads (codes "host") ms refl) (λ host a.
    then_reads Any RunsFormed (whole_at (codes "boot") 1 LAST_BOOT ms) _ (any_reads (codes "boot") (as_whole 1 LAST_BOOT) ms refl) (λ boot b.
    then_reads Any RunsFormed (whole_at (codes "seq") 1 18446744073709551615 ms) _ (any_reads (codes "seq") (as_whole 1 18446744073709551615) ms refl) (λ seq c.
    then_reads (All IsFormedAttempt) RunsFormed (list_of (codes "running") attempt_at ms) _ (list_reads IsFormedAttempt (codes "running") attempt_at ms refl all attempt_reads) (λ running each.
    then_reads (All Any) RunsFormed (list_of (codes "done") done_at ms) _ (list_reads Any (codes "done") done_at ms refl all done_reads) (λ done d.
    then_reads Any RunsFormed (others_at report_keys ms) _ (others_read report_keys ms all) (λ none e. each))))))

-- ---- shows, allocations and subscriptions

pub show_reads : (ms : Members) → MembersTexts ms → Reads Any (show_at ms)
unfolding show_at
show_reads ms all =
    then_reads IsName Any (name_at (codes "name") ms) _ (name_reads (codes "name") ms refl) (λ name a. then_reads Any Any (others_at name_keys ms) _ (others_read name_keys ms all) (λ none b. tt))

pub alloc_reads : (ms : Members) → MembersTexts ms → Reads Any (alloc_at ms)
unfolding alloc_at
alloc_reads ms all =
    then_reads Any Any (alloc_name_at (codes "name") ms) _
    (then_reads Any Any (text_at (codes "name") ms) (λ name. of_kind (codes "name") (alloc_of_name name)) (any_reads (codes "name") as_str ms refl)
    (λ name a. kind_reads Any (codes "name") (alloc_of_name name) refl (λ x is. tt)))
    (λ alloc a. then_reads Any Any (others_at name_keys ms) _ (others_read name_keys ms all) (λ none b. tt))

abbrev pub SubText : SubForm → Type 0
SubText form = IsText form.alloc

pub sub_form_reads : (ms : Members) → MembersTexts ms → Reads SubText (sub_form_at ms)
unfolding sub_form_at
sub_form_reads ms all =
    then_reads IsName SubText (name_at (codes "show") ms) _ (name_reads (codes "show") ms refl) (λ show a.
    then_reads IsText SubText (text_at (codes "alloc") ms) _ (text_reads (codes "alloc") ms refl all) (λ alloc text.
    then_reads Any SubText (number_at (codes "size") ms) _ (any_reads (codes "size") (as_whole 0 18446744073709551615) ms refl) (λ size b.
    then_reads Any SubText (number_at (codes "burst") ms) _ (any_reads (codes "burst") (as_whole 0 18446744073709551615) ms refl) (λ burst c.
    then_reads Any SubText (others_at sub_keys ms) _ (others_read sub_keys ms all) (λ none d. text)))))

-- ---- limits

pub limit_form_reads : (ms : Members) → MembersTexts ms → Reads Any (limit_form_at ms)
unfolding limit_form_at
limit_form_reads ms all =
    then_reads IsName Any (name_at (codes "name") ms) _ (name_reads (codes "name") ms refl) (λ name a.
    then_reads Any Any (number_at (codes "most") ms) _ (any_reads (codes "most") (as_whole 0 18446744073709551615) ms refl) (λ most b.
    then_reads Any Any (others_at limit_keys ms) _ (others_read limit_keys ms all) (λ none c. tt)))

-- ---- hosts

abbrev pub BootText : BootForm → Type 0
BootText form = IsText form.alloc

pub boot_form_reads : (ms : Members) → MembersTexts ms → Reads BootText (boot_form_at ms)
unfolding boot_form_at
boot_form_reads ms all =
    then_reads IsName BootText (name_at (codes "host") ms) _ (name_reads (codes "host") ms refl) (λ host a.
    then_reads Any BootText (number_at (codes "nonce") ms) _ (any_reads (codes "nonce") (as_whole 0 18446744073709551615) ms refl) (λ nonce b.
    then_reads IsText BootText (text_at (codes "alloc") ms) _ (text_reads (codes "alloc") ms refl all) (λ alloc text.
    then_reads Any BootText (tags_at (codes "tags") ms) _ (tags_read (codes "tags") ms refl) (λ tags c.
    then_reads Any BootText (number_at (codes "cores") ms) _ (any_reads (codes "cores") (as_whole 0 18446744073709551615) ms refl) (λ cores d.
    then_reads Any BootText (number_at (codes "memory") ms) _ (any_reads (codes "memory") (as_whole 0 18446744073709551615) ms refl) (λ memory e.
    then_reads Any BootText (others_at boot_keys ms) _ (others_read boot_keys ms all) (λ none g. text)))))))

pub lock_reads : (ms : Members) → MembersTexts ms → Reads Any (lock_line_at ms)
unfolding lock_line_at
lock_reads ms all =
    then_reads IsName Any (name_at (codes "host") ms) _ (name_reads (codes "host") ms refl) (λ host a.
    then_reads Any Any (word_at lock_of (codes "lock") ms) _ (word_reads lock_of (codes "lock") ms refl) (λ lock b.
    then_reads Any Any (others_at lock_keys ms) _ (others_read lock_keys ms all) (λ none c. tt)))

-- ---- depends

layer_reads : (named : Bool) (field : List ℕ) (ms : Members) → IsPlain field → Reads Any (layer_if named field ms)
layer_reads true field ms plain = then_reads IsName Any (name_at field ms) (λ name. Ok (Some name)) (name_reads field ms plain) (λ name a. tt)
layer_reads false field ms plain = tt

frame_reads : (named : Bool) (field : List ℕ) (ms : Members) → IsPlain field → Reads Any (frame_if named field ms)
frame_reads true field ms plain =
    then_reads (λ z. is_frame_number z ≡ true) Any (signed_at field LEAST_FRAME MOST_FRAME ms) (λ number. Ok (Some number)) (signed_reads field LEAST_FRAME MOST_FRAME ms plain) (λ number a. tt)
frame_reads false field ms plain = tt

waiter_reads : (job : List ℕ) (kind : DependKind) (ms : Members) → Reads Any (waiter_at job kind ms)
unfolding waiter_at
waiter_reads job kind ms =
    then_reads Any Any (layer_if (names_layer kind) (codes "layer") ms) _ (layer_reads (names_layer kind) (codes "layer") ms refl) (λ layer a.
    then_reads Any Any (frame_if (names_frame kind) (codes "frame") ms) _ (frame_reads (names_frame kind) (codes "frame") ms refl) (λ frame b. tt))

target_reads : (job : List ℕ) (kind : DependKind) (ms : Members) → Reads Any (target_at job kind ms)
unfolding target_at
target_reads job kind ms =
    then_reads Any Any (layer_if (names_target_layer kind) (codes "on_layer") ms) _ (layer_reads (names_target_layer kind) (codes "on_layer") ms refl) (λ layer a.
    then_reads Any Any (frame_if (names_target_frame kind) (codes "on_frame") ms) _ (frame_reads (names_target_frame kind) (codes "on_frame") ms refl) (λ frame b. tt))

flag_reads : (field : List ℕ) (ms : Members) → IsPlain field → Reads Any (or_default false flag_at field ms)
flag_reads field ms plain = default_reads Any false flag_at field ms tt (any_reads field as_bool ms plain)

pub depend_reads : (ms : Members) → MembersTexts ms → Reads Any (depend_at ms)
unfolding depend_at
depend_reads ms all =
    then_reads Any Any (word_at kind_of (codes "kind") ms) _ (word_reads kind_of (codes "kind") ms refl) (λ kind a.
    then_reads Any Any (or_default false flag_at (codes "any") ms) _ (flag_reads (codes "any") ms refl) (λ any b.
    then_reads IsName Any (name_at (codes "job") ms) _ (name_reads (codes "job") ms refl) (λ job c.
    then_reads Any Any (waiter_at job kind ms) _ (waiter_reads job kind ms) (λ waiter d.
    then_reads IsName Any (name_at (codes "on_job") ms) _ (name_reads (codes "on_job") ms refl) (λ on_job e.
    then_reads Any Any (target_at on_job kind ms) _ (target_reads on_job kind ms) (λ target g.
    then_reads Any Any (others_at (depend_keys kind) ms) _ (others_read (depend_keys kind) ms all) (λ none h. tt)))))))

own_reads : (own : List ℕ) (ms : Members) → MembersTexts ms → Reads Any (own_depend_at own ms)
unfolding own_depend_at
own_reads own ms all =
    then_reads Any Any (word_at kind_of (codes "kind") ms) _ (word_reads kind_of (codes "kind") ms refl) (λ kind a.
    then_reads Any Any (or_default false flag_at (codes "any") ms) _ (flag_reads (codes "any") ms refl) (λ any b.
    then_reads Any Any (waiter_at own kind ms) _ (waiter_reads own kind ms) (λ waiter c.
    then_reads Any Any (or_default own name_at (codes "on_job") ms) _ (default_reads Any own name_at (codes "on_job") ms tt (form_reads is_name_text (codes "on_job") ms refl)) (λ on_job d.
    then_reads Any Any (target_at on_job kind ms) _ (target_reads on_job kind ms) (λ target e.
    then_reads Any Any (others_at (own_keys kind) ms) _ (others_read (own_keys kind) ms all) (λ none g. tt))))))

pub drop_reads : (ms : Members) → MembersTexts ms → Reads Any (drop_at ms)
unfolding drop_at
drop_reads ms all =
    then_reads Any Any (whole_at (codes "depend") 1 LAST_DEPEND ms) _ (any_reads (codes "depend") (as_whole 1 LAST_DEPEND) ms refl) (λ depend a.
    then_reads Any Any (others_at drop_keys ms) _ (others_read drop_keys ms all) (λ none b. tt))

-- ---- the form of a spec

abbrev pub LayerNamed : LayerForm → Type 0
LayerNamed form = IsName form.name

optional_name : (field : List ℕ) (ms : Members) → IsPlain field → Reads Any (or_default [] (text_of is_name_or_empty) field ms)
optional_name field ms plain = default_reads Any [] (text_of is_name_or_empty) field ms tt (form_reads is_name_or_empty field ms plain)

layer_form_reads : (ms : Members) → MembersTexts ms → Reads LayerNamed (layer_form_at ms)
unfolding layer_form_at
layer_form_reads ms all =
    then_reads IsName LayerNamed (name_at (codes "name") ms) _ (name_reads (codes "name") ms refl) (λ name named.
    then_reads Any LayerNamed (text_at (codes "range") ms) _ (any_reads (codes "range") as_str ms refl) (λ range a.
    then_reads Any LayerNamed (text_of is_command_text (codes "command") ms) _ (form_reads is_command_text (codes "command") ms refl) (λ command b.
    then_reads Any LayerNamed (or_default (codes "1") text_at (codes "cores") ms) _ (default_reads Any (codes "1") text_at (codes "cores") ms tt (any_reads (codes "cores") as_str ms refl)) (λ cores c.
    then_reads Any LayerNamed (or_default 3355443 number_at (codes "memory") ms) _ (default_reads Any 3355443 number_at (codes "memory") ms tt (any_reads (codes "memory") (as_whole 0 18446744073709551615) ms refl)) (λ memory d.
    then_reads Any LayerNamed (or_default (codes "general" ∷ []) tags_at (codes "tags") ms) _ (default_reads Any (codes "general" ∷ []) tags_at (codes "tags") ms tt (tags_read (codes "tags") ms refl)) (λ tags e.
    then_reads Any LayerNamed (or_default [] (text_of is_name_or_empty) (codes "limit") ms) _ (optional_name (codes "limit") ms refl) (λ limit g.
    then_reads Any LayerNamed (others_at layer_keys ms) _ (others_read layer_keys ms all) (λ none h. named))))))))

abbrev pub LayersNamed : JobForm → Type 0
LayersNamed form = All LayerNamed form.layers

number_or : (default : ℕ) (field : List ℕ) (ms : Members) → IsPlain field → Reads Any (or_default default number_at field ms)
number_or default field ms plain = default_reads Any default number_at field ms tt (any_reads field (as_whole 0 18446744073709551615) ms plain)

own_read : (name : List ℕ) (ms : Members) → MembersTexts ms → Reads Any (own_depends name (codes "depends") ms)
own_read name ms all = says_more NamesText (All Any) Any (λ depends each. tt) (own_depends name (codes "depends") ms) (list_reads Any (codes "depends") (own_depend_at name) ms refl all (own_reads name))

pub job_form_reads : (ms : Members) → MembersTexts ms → Reads LayersNamed (job_form_at ms)
unfolding job_form_at
job_form_reads ms all =
    then_reads IsName LayersNamed (name_at (codes "name") ms) _ (name_reads (codes "name") ms refl) (λ name a.
    then_reads IsName LayersNamed (name_at (codes "show") ms) _ (name_reads (codes "show") ms refl) (λ show b.
    then_reads Any LayersNamed (text_of is_tag_text (codes "facility") ms) _ (form_reads is_tag_text (codes "facility") ms refl) (λ facility c.
    then_reads Any LayersNamed (or_default [] (text_of is_name_or_empty) (codes "shot") ms) _ (optional_name (codes "shot") ms refl) (λ shot d.
    then_reads Any LayersNamed (or_default [] (text_of is_name_or_empty) (codes "user") ms) _ (optional_name (codes "user") ms refl) (λ user e.
    then_reads Any LayersNamed (or_default 100 number_at (codes "priority") ms) _ (number_or 100 (codes "priority") ms refl) (λ priority g.
    then_reads Any LayersNamed (or_default 3 number_at (codes "max_retries") ms) _ (number_or 3 (codes "max_retries") ms refl) (λ max_retries h.
    then_reads Any LayersNamed (or_default false flag_at (codes "auto_eat") ms) _ (flag_reads (codes "auto_eat") ms refl) (λ auto_eat i.
    then_reads Any LayersNamed (or_default false flag_at (codes "paused") ms) _ (flag_reads (codes "paused") ms refl) (λ paused j.
    then_reads (All LayerNamed) LayersNamed (list_of (codes "layers") layer_form_at ms) _ (list_reads LayerNamed (codes "layers") layer_form_at ms refl all layer_form_reads) (λ layers named.
    then_reads Any LayersNamed (or_default [] (own_depends name) (codes "depends") ms) _
    (default_reads Any [] (own_depends name) (codes "depends") ms tt (own_read name ms all)) (λ depends k.
    then_reads Any LayersNamed (others_at spec.job_keys ms) _ (others_read spec.job_keys ms all) (λ none l. named))))))))))))

-- ---- what operators ask

pub job_reads : (ms : Members) → MembersTexts ms → Reads Any (job_at ms)
unfolding job_at
job_reads ms all =
    then_reads IsName Any (name_at (codes "job") ms) _ (name_reads (codes "job") ms refl) (λ job a.
    then_reads Any Any (others_at operators.job_keys ms) _ (others_read operators.job_keys ms all) (λ none b. tt))

-- the number is one that a frame may have
abbrev pub FrameNumbered : FramePlace → Type 0
FrameNumbered p = is_frame_number p.frame ≡ true

pub frame_of_job_reads : (job : List ℕ) (ms : Members) → MembersTexts ms → Reads FrameNumbered (frame_of_job_at job ms)
unfolding frame_of_job_at
frame_of_job_reads job ms all =
    then_reads IsName FrameNumbered (name_at (codes "layer") ms) _ (name_reads (codes "layer") ms refl) (λ layer a.
    then_reads (λ z. is_frame_number z ≡ true) FrameNumbered (signed_at (codes "frame") LEAST_FRAME MOST_FRAME ms) _ (signed_reads (codes "frame") LEAST_FRAME MOST_FRAME ms refl) (λ frame numbered.
    then_reads Any FrameNumbered (others_at frame_keys ms) _ (others_read frame_keys ms all) (λ none b. numbered)))

pub frame_at_reads : (ms : Members) → MembersTexts ms → Reads FrameNumbered (frame_at ms)
unfolding frame_at
frame_at_reads ms all =
    then_reads IsName FrameNumbered (name_at (codes "job") ms) _ (name_reads (codes "job") ms refl) (λ job a. frame_of_job_reads job ms all)

-- ---- lists

of_job_reads : (lists : List ℕ → Listed) (ms : Members) → ((job : List ℕ) → IsName job → IsFormedListed (lists job)) → Reads IsFormedListed (of_job_at lists ms)
of_job_reads lists ms formed = then_reads IsName IsFormedListed (name_at (codes "job") ms) (λ job. Ok (lists job)) (name_reads (codes "job") ms refl) formed

word_of_list : (ms : Members) (word : List ℕ) → Reads IsFormedListed (by_word ms word)
word_of_list ms word =
    one_of NamesText IsFormedListed (bytes_eq word (codes "shows")) _ _ tt
    (one_of NamesText IsFormedListed (bytes_eq word (codes "allocs")) _ _ tt
    (one_of NamesText IsFormedListed (bytes_eq word (codes "subs")) _ _ tt
    (one_of NamesText IsFormedListed (bytes_eq word (codes "limits")) _ _ tt
    (one_of NamesText IsFormedListed (bytes_eq word (codes "hosts")) _ _ tt
    (one_of NamesText IsFormedListed (bytes_eq word (codes "jobs")) _ _ tt
    (one_of NamesText IsFormedListed (bytes_eq word (codes "layers")) _ _ (of_job_reads listed.Layers ms (λ job named. named))
    (one_of NamesText IsFormedListed (bytes_eq word (codes "frames")) _ _ (of_job_reads listed.Frames ms (λ job named. named))
    (one_of NamesText IsFormedListed (bytes_eq word (codes "depends")) _ _ (of_job_reads listed.Depends ms (λ job named. named))
    (one_of NamesText IsFormedListed (bytes_eq word (codes "procs")) _ _ tt (ascii_utf8 (codes "what") refl))))))))))

pub query_reads : (ms : Members) → MembersTexts ms → Reads IsFormedQuery (query_at ms)
unfolding query_at
query_reads ms all =
    then_reads IsFormedListed IsFormedQuery (listed_at ms) _
    (then_reads Any IsFormedListed (text_at (codes "what") ms) (by_word ms) (any_reads (codes "what") as_str ms refl) (λ word a. word_of_list ms word)) (λ what formed.
    then_reads (λ n. (0 ≤ n) × (n ≤ 18446744073709551615)) IsFormedQuery (or_default 0 number_at (codes "from") ms) _
    (default_reads (λ n. (0 ≤ n) × (n ≤ 18446744073709551615)) 0 number_at (codes "from") ms (omega arith, omega arith) (whole_reads (codes "from") 0 18446744073709551615 ms refl)) (λ from within.
    then_reads Any IsFormedQuery (others_at (query_keys what) ms) _ (others_read (query_keys what) ms all) (λ none b. record { listed = formed; from_within = omega (arith, within.1) })))
