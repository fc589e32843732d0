-- The reply to a list as a JSON value, its keys in byte order.
use Rattle.std.specs.Prelude.{ℕ, List, map, codes, true}
use Rattle.serde_json.specs.Data.{Data, boolean, string, array, object, no_members, member}
use Rattle.serde_json.specs.View.{items_of}
use Rattle.state_names.specs.Words.{host_word, job_word, kind_word, lock_word, state_word}
use Rattle.farm_lines.specs.declared.list_row.ListRow.{ListRow}
use Rattle.farm_lines.specs.declared.list_row.ListRow.TheVariants as row
use Rattle.farm_lines.specs.declared.list_row.ShownDepend.{ShownDepend}
use Rattle.farm_lines.specs.declared.list_row.ShownFrame.{ShownFrame}
use Rattle.farm_lines.specs.declared.list_row.ShownHost.{ShownHost}
use Rattle.farm_lines.specs.declared.list_row.ShownJob.{ShownJob}
use Rattle.farm_lines.specs.declared.list_row.ShownLayer.{ShownLayer}
use Rattle.farm_lines.specs.declared.list_row.ShownLimit.{ShownLimit}
use Rattle.farm_lines.specs.declared.list_row.ShownProc.{ShownProc}
use Rattle.farm_lines.specs.declared.list_row.ShownSub.{ShownSub}
use Rattle.farm_lines.specs.Words.{whole}

-- ---- rows

-- a show and an allocation
unfoldable pub name_data : List ℕ → Data
name_data name = object (member (codes "name") (string name) no_members)

unfoldable pub sub_row_data : ShownSub → Data
sub_row_data s =
    object (member (codes "alloc") (string s.alloc) (member (codes "booked") (whole s.booked) (member (codes "burst") (whole s.burst)
    (member (codes "show") (string s.show) (member (codes "size") (whole s.size) no_members)))))

unfoldable pub limit_row_data : ShownLimit → Data
limit_row_data l = object (member (codes "most") (whole l.most) (member (codes "name") (string l.name) (member (codes "running") (whole l.running) no_members)))

unfoldable pub host_row_data : ShownHost → Data
host_row_data h =
    object (member (codes "alloc") (string h.alloc) (member (codes "boot") (whole h.boot) (member (codes "cores") (whole h.cores)
    (member (codes "heard") (whole h.heard) (member (codes "lock") (string (lock_word h.lock)) (member (codes "memory") (whole h.memory)
    (member (codes "name") (string h.name) (member (codes "state") (string (host_word h.state)) (member (codes "used_cores") (whole h.used_cores)
    (member (codes "used_memory") (whole h.used_memory) no_members))))))))))

unfoldable pub job_row_data : ShownJob → Data
job_row_data j =
    object (member (codes "dead") (whole j.dead) (member (codes "depend") (whole j.depend) (member (codes "eaten") (whole j.eaten)
    (member (codes "name") (string j.name) (member (codes "paused") (boolean j.paused) (member (codes "priority") (whole j.priority)
    (member (codes "running") (whole j.running) (member (codes "show") (string j.show) (member (codes "state") (string (job_word j.state))
    (member (codes "succeeded") (whole j.succeeded) (member (codes "waiting") (whole j.waiting) no_members)))))))))))

unfoldable pub layer_row_data : ShownLayer → Data
layer_row_data l =
    object (member (codes "cores") (whole l.cores) (member (codes "dead") (whole l.dead) (member (codes "depend") (whole l.depend)
    (member (codes "eaten") (whole l.eaten) (member (codes "limit") (string l.limit) (member (codes "memory") (whole l.memory) (member (codes "name") (string l.name)
    (member (codes "range") (string l.range) (member (codes "running") (whole l.running) (member (codes "succeeded") (whole l.succeeded)
    (member (codes "waiting") (whole l.waiting) no_members)))))))))))

unfoldable pub frame_row_data : ShownFrame → Data
frame_row_data x =
    object (member (codes "frame") (string x.frame) (member (codes "retries") (whole x.retries) (member (codes "state") (string (state_word x.state))
    (member (codes "version") (whole x.version) no_members))))

unfoldable pub depend_row_data : ShownDepend → Data
depend_row_data d =
    object (member (codes "depend") (whole d.depend) (member (codes "kind") (string (kind_word d.kind)) (member (codes "satisfied") (boolean d.satisfied) no_members)))

unfoldable pub proc_row_data : ShownProc → Data
proc_row_data p =
    object (member (codes "cores") (whole p.cores) (member (codes "frame") (string p.frame) (member (codes "host") (string p.host)
    (member (codes "job") (string p.job) (member (codes "memory") (whole p.memory) (member (codes "slot") (whole p.slot)
    (member (codes "version") (whole p.version) no_members)))))))

abbrev pub list_row_data : ListRow → Data
list_row_data (row.Name name) = name_data name
list_row_data (row.Sub s) = sub_row_data s
list_row_data (row.Limit l) = limit_row_data l
list_row_data (row.Host h) = host_row_data h
list_row_data (row.Job j) = job_row_data j
list_row_data (row.Layer l) = layer_row_data l
list_row_data (row.Frame x) = frame_row_data x
list_row_data (row.Depend d) = depend_row_data d
list_row_data (row.Proc p) = proc_row_data p

-- ---- the reply

abbrev pub list_rows_data : List ListRow → Data
list_rows_data rows = array (items_of (map list_row_data rows))

unfoldable pub list_data : List ListRow → ℕ → Data
list_data rows total = object (member (codes "ok") (boolean true) (member (codes "rows") (list_rows_data rows) (member (codes "total") (whole total) no_members)))
