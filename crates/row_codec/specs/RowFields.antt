-- The fields of a row of the store, in byte order of their keys, and its bytes: the compact JSON text of an object of them.
use Rattle.std.specs.Prelude.{ℕ, ℤ, ◌+◌, ◌==◌, true, List, map, codes, Option, None, Some, option_map, if◌then◌else◌}
use Rattle.serde_json.specs.Data.{Data, boolean, number, unsigned, string, array, object, Members, no_members, member}
use Rattle.serde_json.specs.Find.{of_integer}
use Rattle.serde_json.specs.View.{items_of}
use Rattle.serde_json.specs.Written.{compact_text}
use Rattle.farm_types.specs.declared.depend.DependRow.{DependRow}
use Rattle.farm_types.specs.declared.rows.AllocRow.{AllocRow}
use Rattle.farm_types.specs.declared.rows.HostRow.{HostRow}
use Rattle.farm_types.specs.declared.rows.JobRow.{JobRow}
use Rattle.farm_types.specs.declared.rows.LayerRow.{LayerRow}
use Rattle.farm_types.specs.declared.rows.LimitRow.{LimitRow}
use Rattle.farm_types.specs.declared.rows.ShowRow.{ShowRow}
use Rattle.farm_types.specs.declared.rows.SubRow.{SubRow}
use Rattle.state_names.specs.Words.{host_word, job_word, kind_word, lock_word, state_word}
use Rattle.farm_rows.specs.declared.farm_row.FarmRow.{FarmRow}
use Rattle.farm_rows.specs.declared.farm_row.FarmRow.TheVariants as row
use Rattle.farm_rows.specs.declared.frame_row.FrameRow.{FrameRow}
use Rattle.farm_rows.specs.declared.frame_row.StoredFrame.{StoredFrame}
use Rattle.farm_rows.specs.declared.frame_row.StoredState.{StoredState}
use Rattle.farm_rows.specs.declared.frame_row.StoredState.TheVariants as stored
use Rattle.farm_rows.specs.declared.head_row.HeadRow.{HeadRow}
use Rattle.farm_rows.specs.declared.head_row.TheConstants.{ROW_FORMAT}
use Rattle.farm_rows.specs.Recovery.{state_of}

-- ---- values

-- a number without a sign, and one that may have one
abbrev pub whole : ℕ → Data
whole n = number (unsigned n)

abbrev pub signed : ℤ → Data
signed z = number (of_integer z)

abbrev pub texts : List (List ℕ) → Data
texts ts = array (items_of (map string ts))

-- ---- words

abbrev pub frame_word : StoredState → List ℕ
frame_word state = state_word (state_of state)

-- ---- fields

-- the field before the rest, where there is one
abbrev pub field_if : List ℕ → Option Data → Members → Members
field_if key None rest = rest
field_if key (Some value) rest = member key value rest

unfoldable pub head_fields : HeadRow → Members
head_fields r =
    member (codes "depends") (whole r.depends) (member (codes "finishes") (whole r.finishes) (member (codes "format") (whole r.format) (member (codes "jobs") (whole r.jobs)
    (member (codes "moment") (whole r.moment) no_members))))

unfoldable pub show_fields : ShowRow → Members
show_fields r = member (codes "name") (string r.name) no_members

unfoldable pub alloc_fields : AllocRow → Members
alloc_fields r = member (codes "facility") (string r.facility) (member (codes "tag") (string r.tag) no_members)

unfoldable pub sub_fields : SubRow → Members
sub_fields r = member (codes "burst") (whole r.burst) (member (codes "size") (whole r.size) no_members)

unfoldable pub host_fields : HostRow → Members
host_fields r =
    member (codes "alloc") (whole r.alloc) (member (codes "boot") (whole r.boot) (member (codes "cores") (whole r.cores) (member (codes "heard") (whole r.heard)
    (member (codes "lock") (string (lock_word r.lock)) (member (codes "memory") (whole r.memory) (member (codes "name") (string r.name) (member (codes "nonce") (whole r.nonce)
    (member (codes "seq") (whole r.seq) (member (codes "state") (string (host_word r.state)) (member (codes "tags") (texts r.tags) no_members))))))))))

unfoldable pub job_fields : JobRow → Members
job_fields r =
    member (codes "auto_eat") (boolean r.auto_eat) (member (codes "eaten") (whole r.eaten) (member (codes "facility") (string r.facility) (member (codes "finish") (whole r.finish)
    (member (codes "frames") (whole r.frames) (member (codes "max_retries") (whole r.max_retries) (member (codes "name") (string r.name) (member (codes "paused") (boolean r.paused)
    (member (codes "priority") (whole r.priority) (member (codes "shot") (string r.shot) (member (codes "show") (whole r.show) (member (codes "state") (string (job_word r.state))
    (member (codes "succeeded") (whole r.succeeded) (member (codes "user") (string r.user) no_members)))))))))))))

-- a limit as a layer's row has it: 0 for none, else its number and one
abbrev pub limit_mark : Option ℕ → ℕ
limit_mark None = 0
limit_mark (Some limit) = limit + 1

-- format 1 has no limits
abbrev pub limit_value : ℕ → Option ℕ → Option Data
limit_value format limit = if format == ROW_FORMAT then Some (whole (limit_mark limit)) else None

unfoldable pub layer_fields : ℕ → LayerRow → Members
layer_fields format r =
    member (codes "command") (string r.command) (member (codes "cores") (whole r.cores) (field_if (codes "limit") (limit_value format r.limit) (member (codes "memory") (whole r.memory)
    (member (codes "name") (string r.name) (member (codes "range") (string r.range) (member (codes "tags") (texts r.tags) no_members))))))

-- ---- slots

unfoldable pub free_fields : ℕ → Members
free_fields version = member (codes "state") (string (codes "FREE")) (member (codes "version") (whole version) no_members)

-- a frame without an attempt
unfoldable pub resting_fields : ℕ → StoredFrame → Members
resting_fields version x =
    member (codes "job") (whole x.job) (member (codes "layer") (whole x.layer) (member (codes "number") (signed x.number) (member (codes "retries") (whole x.retries)
    (member (codes "state") (string (frame_word x.state)) (member (codes "version") (whole version) no_members)))))

-- a running frame, with its attempt's boot, host and moment
unfoldable pub running_fields : ℕ → StoredFrame → ℕ → ℕ → ℕ → Members
running_fields version x boot host since =
    member (codes "boot") (whole boot) (member (codes "host") (whole host) (member (codes "job") (whole x.job) (member (codes "layer") (whole x.layer)
    (member (codes "number") (signed x.number) (member (codes "retries") (whole x.retries) (member (codes "since") (whole since) (member (codes "state") (string (codes "RUNNING"))
    (member (codes "version") (whole version) no_members))))))))

abbrev pub fields_in_state : ℕ → StoredFrame → StoredState → Members
fields_in_state version x (stored.Running boot host since) = running_fields version x boot host since
fields_in_state version x other = resting_fields version x

abbrev pub slot_fields : ℕ → Option StoredFrame → Members
slot_fields version None = free_fields version
slot_fields version (Some x) = fields_in_state version x x.state

abbrev pub frame_fields : FrameRow → Members
frame_fields r = slot_fields r.version r.frame

-- ---- depends

unfoldable pub depend_fields : DependRow → Members
depend_fields r =
    member (codes "any") (boolean r.any) (field_if (codes "frame") (option_map signed r.waiter.frame) (member (codes "job") (whole r.waiter.job)
    (member (codes "kind") (string (kind_word r.kind)) (field_if (codes "layer") (option_map string r.waiter.layer) (member (codes "met_all") (boolean r.met_all)
    (field_if (codes "on_frame") (option_map signed r.target.frame) (member (codes "on_job") (whole r.target.job)
    (field_if (codes "on_layer") (option_map string r.target.layer) no_members))))))))

unfoldable pub met_fields : Members
met_fields = member (codes "met") (boolean true) no_members

-- ---- limits

unfoldable pub limit_fields : LimitRow → Members
limit_fields r = member (codes "most") (whole r.most) (member (codes "name") (string r.name) no_members)

-- ---- every row, in a format

abbrev pub row_fields : ℕ → FarmRow → Members
row_fields format (row.Head r) = head_fields r
row_fields format (row.Show show r) = show_fields r
row_fields format (row.Alloc alloc r) = alloc_fields r
row_fields format (row.Sub r) = sub_fields r
row_fields format (row.Host host r) = host_fields r
row_fields format (row.Job r) = job_fields r
row_fields format (row.Layer r) = layer_fields format r
row_fields format (row.Frame r) = frame_fields r
row_fields format (row.Depend r) = depend_fields r
row_fields format (row.Met r) = met_fields
row_fields format (row.Limit limit r) = limit_fields r

-- the bytes of a row in a format, and as it is written
abbrev pub text_in : ℕ → FarmRow → List ℕ
text_in format r = compact_text (object (row_fields format r))

abbrev pub row_text : FarmRow → List ℕ
row_text r = text_in ROW_FORMAT r
