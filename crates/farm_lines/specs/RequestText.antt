-- The text of a request: an object with its keys in byte order. What may be left out is written all the same, but for what isn't there.
use Rattle.std.specs.Prelude.{ℕ, ℤ, ◌+◌, ◌/◌, ◌%◌, Bool, true, false, List, [], ◌∷◌, ◌++◌, map, codes, decimal, Option, None, Some}
use Rattle.serde_json.specs.Data.{Data, boolean, string, array, object, Members, no_members, member}
use Rattle.serde_json.specs.View.{items_of}
use Rattle.serde_json.specs.Written.{compact_text}
use Rattle.farm_types.specs.declared.attempt.DoneItem.{DoneItem}
use Rattle.farm_types.specs.declared.boot.BootLine.{BootLine}
use Rattle.farm_types.specs.declared.depend.DependSpec.{DependSpec}
use Rattle.farm_types.specs.declared.entry.FramePlace.{FramePlace}
use Rattle.farm_types.specs.declared.job.JobSpec.{JobSpec}
use Rattle.farm_types.specs.declared.job.LayerSpec.{LayerSpec}
use Rattle.farm_types.specs.declared.states.LockState.{LockState}
use Rattle.farm_types.specs.declared.sub_line.SubLine.{SubLine}
use Rattle.state_names.specs.Words.{kind_word, lock_word}
use Rattle.farm_lines.specs.declared.query.Listed.{Listed}
use Rattle.farm_lines.specs.declared.query.Listed.TheVariants as listed
use Rattle.farm_lines.specs.declared.query.Query.{Query}
use Rattle.farm_lines.specs.declared.report.Report.{Report}
use Rattle.farm_lines.specs.declared.request.Request.{Request}
use Rattle.farm_lines.specs.declared.request.Request.TheVariants as request
use Rattle.farm_lines.specs.Reply.{attempts_data}
use Rattle.farm_lines.specs.Words.{signed, what_listed, what_word, whole}

-- ---- members that may be absent

abbrev pub with_text : List ℕ → Option (List ℕ) → Members → Members
with_text key None rest = rest
with_text key (Some text) rest = member key (string text) rest

abbrev pub with_whole : List ℕ → Option ℕ → Members → Members
with_whole key None rest = rest
with_whole key (Some n) rest = member key (whole n) rest

abbrev pub with_signed : List ℕ → Option ℤ → Members → Members
with_signed key None rest = rest
with_signed key (Some z) rest = member key (signed z) rest

abbrev pub texts_data : List (List ℕ) → Data
texts_data texts = array (items_of (map string texts))

-- the members of a request: those before `op`, then `op`, then those after it are given in order
abbrev pub op : List ℕ → Members → Members
op word rest = member (codes "op") (string word) rest

-- ---- reports and boots

abbrev pub done_item_data : DoneItem → Data
done_item_data item =
    object (with_whole (codes "free") item.free (member (codes "signal") (whole item.exit.signal) (member (codes "slot") (whole item.attempt.slot)
    (member (codes "status") (whole item.exit.status) (member (codes "version") (whole item.attempt.version) no_members)))))

unfoldable pub report_line : Report → Data
report_line r =
    object (member (codes "boot") (whole r.heard.boot) (member (codes "done") (array (items_of (map done_item_data r.heard.done)))
    (member (codes "host") (string r.heard.host) (op (codes "report") (member (codes "running") (attempts_data r.running) (member (codes "seq") (whole r.heard.seq) no_members))))))

unfoldable pub boot_line : BootLine → Data
boot_line b =
    object (member (codes "alloc") (string b.alloc) (member (codes "cores") (whole b.cores) (member (codes "host") (string b.host) (member (codes "memory") (whole b.memory)
    (member (codes "nonce") (whole b.nonce) (op (codes "boot") (member (codes "tags") (texts_data b.tags) no_members)))))))

-- ---- shows, allocations, subscriptions, limits, locks

unfoldable pub name_line : List ℕ → List ℕ → Data
name_line word name = object (member (codes "name") (string name) (op word no_members))

unfoldable pub sub_line : SubLine → Data
sub_line s =
    object (member (codes "alloc") (string s.alloc) (member (codes "burst") (whole s.burst) (op (codes "sub") (member (codes "show") (string s.show) (member (codes "size") (whole s.size) no_members)))))

unfoldable pub limit_line : List ℕ → ℕ → Data
limit_line name most = object (member (codes "most") (whole most) (member (codes "name") (string name) (op (codes "limit") no_members)))

unfoldable pub lock_line : List ℕ → LockState → Data
lock_line host lock = object (member (codes "host") (string host) (member (codes "lock") (string (lock_word lock)) (op (codes "host") no_members)))

-- ---- jobs

-- so many hundredths of a core as a cores text, with both digits after the point
abbrev pub cores_text : ℕ → List ℕ
cores_text cores = decimal (cores / 100) ++ 46 ∷ (48 + cores % 100 / 10) ∷ (48 + cores % 10) ∷ []

unfoldable pub layer_data : LayerSpec → Data
layer_data l =
    object (member (codes "command") (string l.command) (member (codes "cores") (string (cores_text l.cores)) (member (codes "limit") (string l.limit)
    (member (codes "memory") (whole l.memory) (member (codes "name") (string l.name) (member (codes "range") (string l.range) (member (codes "tags") (texts_data l.tags) no_members)))))))

-- a depend of a job's own spec, in which the waiting job isn't named
unfoldable pub own_depend_data : DependSpec → Data
own_depend_data d =
    object (member (codes "any") (boolean d.any) (with_signed (codes "frame") d.waiter.frame (member (codes "kind") (string (kind_word d.kind)) (with_text (codes "layer") d.waiter.layer
    (with_signed (codes "on_frame") d.target.frame (member (codes "on_job") (string d.target.job) (with_text (codes "on_layer") d.target.layer no_members)))))))

unfoldable pub spec_data : JobSpec → Data
spec_data s =
    object (member (codes "auto_eat") (boolean s.auto_eat) (member (codes "depends") (array (items_of (map own_depend_data s.depends))) (member (codes "facility") (string s.facility)
    (member (codes "layers") (array (items_of (map layer_data s.layers))) (member (codes "max_retries") (whole s.max_retries) (member (codes "name") (string s.name)
    (member (codes "paused") (boolean s.paused) (member (codes "priority") (whole s.priority) (member (codes "shot") (string s.shot) (member (codes "show") (string s.show)
    (member (codes "user") (string s.user) no_members)))))))))))

unfoldable pub submit_line : JobSpec → Data
submit_line s = object (member (codes "job") (spec_data s) (op (codes "submit") no_members))

unfoldable pub job_line : List ℕ → List ℕ → Data
job_line word job = object (member (codes "job") (string job) (op word no_members))

unfoldable pub frame_line : List ℕ → FramePlace → Data
frame_line word p =
    object (member (codes "frame") (signed p.frame) (member (codes "job") (string p.job) (member (codes "layer") (string p.layer) (op word no_members))))

abbrev pub pause_word : Bool → List ℕ
pause_word true = codes "pause"
pause_word false = codes "resume"

-- ---- depends

unfoldable pub depend_line : DependSpec → Data
depend_line d =
    object (member (codes "any") (boolean d.any) (with_signed (codes "frame") d.waiter.frame (member (codes "job") (string d.waiter.job) (member (codes "kind") (string (kind_word d.kind))
    (with_text (codes "layer") d.waiter.layer (with_signed (codes "on_frame") d.target.frame (member (codes "on_job") (string d.target.job)
    (with_text (codes "on_layer") d.target.layer (op (codes "depend") no_members)))))))))

unfoldable pub drop_line : ℕ → Data
drop_line depend = object (member (codes "depend") (whole depend) (op (codes "drop") no_members))

-- ---- ticks and lists

unfoldable pub tick_line : Data
tick_line = object (op (codes "tick") no_members)

-- the job of a list that is one of a job's
abbrev pub job_listed : Listed → Option (List ℕ)
job_listed (listed.Layers job) = Some job
job_listed (listed.Frames job) = Some job
job_listed (listed.Depends job) = Some job
job_listed other = None

unfoldable pub list_line : Query → Data
list_line q =
    object (member (codes "from") (whole q.from) (with_text (codes "job") (job_listed q.what) (op (codes "list") (member (codes "what") (string (what_word (what_listed q.what))) no_members))))

-- ---- every request

abbrev pub request_data : Request → Data
request_data (request.Show name) = name_line (codes "show") name
request_data (request.Alloc facility tag) = name_line (codes "alloc") (facility ++ 46 ∷ tag)
request_data (request.Sub line) = sub_line line
request_data (request.Limit name most) = limit_line name most
request_data (request.Boot line) = boot_line line
request_data (request.Report report) = report_line report
request_data (request.Lock host lock) = lock_line host lock
request_data (request.Submit spec) = submit_line spec
request_data (request.Depend spec) = depend_line spec
request_data (request.Drop depend) = drop_line depend
request_data (request.Pause job paused) = job_line (pause_word paused) job
request_data (request.KillJob job) = job_line (codes "kill") job
request_data (request.KillFrame p) = frame_line (codes "kill") p
request_data (request.EatFrame p) = frame_line (codes "eat") p
request_data (request.RetryFrame p) = frame_line (codes "retry") p
request_data request.Tick = tick_line
request_data (request.List query) = list_line query

-- the text of a request, without a newline
abbrev pub request_text : Request → List ℕ
request_text asked = compact_text (request_data asked)
