-- The rows of lists are read back.
use Rattle.std.proofs.Common.{◌≡◌, ℕ, List, Ok, refl, arith}
use Rattle.std.specs.Prelude.{codes}
use Rattle.serde_json.specs.Find.{as_object}
use Rattle.cue_json.specs.Items.{item_at}
use Rattle.farm_types.specs.Forms.{is_name_or_empty}
use Rattle.farm_types.specs.declared.limits.TheConstants.{LAST_BOOT, LAST_DEPEND, LAST_SLOT, LAST_VERSION, LEAST_CORES, LEAST_MEMORY, MOST_BURST, MOST_CORES, MOST_FRAMES, MOST_MEMORY, MOST_PRIORITY, MOST_RETRIES, MOST_RUNNING, SLOT_LIMIT}
use Rattle.state_names.specs.Words.{host_state_of, host_word, job_state_of, job_word, kind_of, kind_word, lock_of, lock_word, state_of, state_word}
use Rattle.farm_lines.specs.declared.limits.TheConstants.{MOST_BOOKED}
use Rattle.farm_lines.specs.declared.list_row.ListRow.{ListRow}
use Rattle.farm_lines.specs.declared.list_row.ListRow.TheVariants as row
use Rattle.farm_lines.specs.declared.list_row.ShownDepend.{ShownDepend}
use Rattle.farm_lines.specs.declared.list_row.ShownFrame.{ShownFrame}
use Rattle.farm_lines.specs.declared.list_row.ShownHost.{ShownHost}
use Rattle.farm_lines.specs.declared.list_row.ShownJob.{ShownJob}
use Rattle.farm_lines.specs.declared.list_row.ShownLayer.{ShownLayer}
use Rattle.farm_lines.specs.declared.list_row.ShownLimit.{ShownLimit}
use Rattle.farm_lines.specs.declared.list_row.ShownProc.{ShownProc}
use Rattle.farm_lines.specs.declared.list_row.ShownSub.{ShownSub}
use Rattle.farm_lines.specs.FormedLines.{IsFormedHostRow, IsFormedJobRow, IsFormedLayerRow, IsFormedLimitRow, IsFormedProcRow, IsFormedRow, IsFormedSubRow, IsName}
use Rattle.farm_lines.specs.ListReplies.{depend_row_data, frame_row_data, host_row_data, job_row_data, layer_row_data, limit_row_data, list_row_data, name_data, proc_row_data, sub_row_data}
use Rattle.farm_lines.specs.ReplyRows.{depend_row_at, frame_row_at, host_row_at, job_row_at, kind_of_row_at, layer_row_at, limit_row_at, name_row_at, proc_row_at, row_at, sub_row_at}
use Rattle.farm_lines.specs.RowKinds.{kind_of_row}
use Rattle.object_writer.proofs.DataBack.{Fits}
use Rattle.client_codec.proofs.FieldsBack.{fields_in, form_back, name_back, whole_back, word_back}
use Rattle.client_codec.proofs.AskedLemmas.TextsFit.{name_fits, name_or_empty_fits, text_fits}
use Rattle.state_names.proofs.WordsBack.{host_back, host_utf8, job_back, job_utf8, kind_back, kind_utf8, lock_back, lock_utf8, state_back, state_utf8}

-- ---- name

name_row_fits : (name : List ℕ) → IsName name → Fits 1 (name_data name)
unfolding name_data
name_row_fits name h = (refl, name_fits name h, tt)

name_row_read : (name : List ℕ) → IsName name → name_row_at (fields_in (name_data name)) ≡ Ok (row.Name name)
unfolding name_data name_row_at
name_row_read name h = rw (name_back (codes "name") (fields_in (name_data name)) name refl h) refl

-- ---- sub

sub_fits : (s : ShownSub) → IsFormedSubRow s → Fits 1 (sub_row_data s)
unfolding sub_row_data
sub_fits s h = (refl, name_fits s.alloc h.alloc_name, (refl, omega (arith, h.booked_within), (refl, omega (arith, h.burst_within), (refl, name_fits s.show h.show_name, (refl, omega (arith, h.size_within), tt)))))

sub_read : (s : ShownSub) → IsFormedSubRow s → sub_row_at (fields_in (sub_row_data s)) ≡ Ok (row.Sub s)
unfolding sub_row_data sub_row_at
sub_read s h =
    let ms = fields_in (sub_row_data s) in
    rw (name_back (codes "alloc") ms s.alloc refl h.alloc_name, whole_back (codes "booked") ms 0 MOST_BOOKED s.booked refl (omega arith, h.booked_within), whole_back (codes "burst") ms 0 MOST_BURST s.burst refl (omega arith, h.burst_within), name_back (codes "show") ms s.show refl h.show_name, whole_back (codes "size") ms 0 MOST_BURST s.size refl (omega arith, h.size_within)) refl

-- ---- limit

limit_fits : (l : ShownLimit) → IsFormedLimitRow l → Fits 1 (limit_row_data l)
unfolding limit_row_data
limit_fits l h = (refl, omega (arith, h.most_within), (refl, name_fits l.name h.limit_name, (refl, omega (arith, h.running_within), tt)))

limit_read : (l : ShownLimit) → IsFormedLimitRow l → limit_row_at (fields_in (limit_row_data l)) ≡ Ok (row.Limit l)
unfolding limit_row_data limit_row_at
limit_read l h =
    let ms = fields_in (limit_row_data l) in
    rw (whole_back (codes "most") ms 0 MOST_RUNNING l.most refl (omega arith, h.most_within), name_back (codes "name") ms l.name refl h.limit_name, whole_back (codes "running") ms 0 SLOT_LIMIT l.running refl (omega arith, h.running_within)) refl

-- ---- host

host_fits : (x : ShownHost) → IsFormedHostRow x → Fits 1 (host_row_data x)
unfolding host_row_data
host_fits x h = (refl, name_fits x.alloc h.alloc_name, (refl, omega (arith, h.boot_within.1), (refl, omega (arith, h.cores_within.1), (refl, h.heard_within, (refl, lock_utf8 x.lock, (refl, omega (arith, h.memory_within.1), (refl, name_fits x.name h.host_name, (refl, host_utf8 x.state, (refl, omega (arith, h.used_cores_within), (refl, omega (arith, h.used_memory_within), tt))))))))))

host_read : (x : ShownHost) → IsFormedHostRow x → host_row_at (fields_in (host_row_data x)) ≡ Ok (row.Host x)
unfolding host_row_data host_row_at
host_read x h =
    let ms = fields_in (host_row_data x) in
    rw (name_back (codes "alloc") ms x.alloc refl h.alloc_name, whole_back (codes "boot") ms 1 LAST_BOOT x.boot refl h.boot_within, whole_back (codes "cores") ms LEAST_CORES MOST_CORES x.cores refl h.cores_within, whole_back (codes "heard") ms 0 18446744073709551615 x.heard refl (omega arith, omega (arith, h.heard_within)), word_back (codes "lock") ms lock_of (lock_word x.lock) x.lock refl (lock_back x.lock), whole_back (codes "memory") ms LEAST_MEMORY MOST_MEMORY x.memory refl h.memory_within, name_back (codes "name") ms x.name refl h.host_name, word_back (codes "state") ms host_state_of (host_word x.state) x.state refl (host_back x.state), whole_back (codes "used_cores") ms 0 MOST_CORES x.used_cores refl (omega arith, h.used_cores_within), whole_back (codes "used_memory") ms 0 MOST_MEMORY x.used_memory refl (omega arith, h.used_memory_within)) refl

-- ---- job

job_fits : (j : ShownJob) → IsFormedJobRow j → Fits 1 (job_row_data j)
unfolding job_row_data
job_fits j h = (refl, omega (arith, h.counts.dead_within), (refl, omega (arith, h.counts.depend_within), (refl, omega (arith, h.counts.eaten_within), (refl, name_fits j.name h.job_name, (refl, tt, (refl, omega (arith, h.priority_within.1), (refl, omega (arith, h.counts.running_within), (refl, name_fits j.show h.show_name, (refl, job_utf8 j.state, (refl, omega (arith, h.counts.succeeded_within), (refl, omega (arith, h.counts.waiting_within), tt)))))))))))

job_read : (j : ShownJob) → IsFormedJobRow j → job_row_at (fields_in (job_row_data j)) ≡ Ok (row.Job j)
unfolding job_row_data job_row_at
job_read j h =
    let ms = fields_in (job_row_data j) in
    rw (whole_back (codes "dead") ms 0 MOST_FRAMES j.dead refl (omega arith, h.counts.dead_within), whole_back (codes "depend") ms 0 MOST_FRAMES j.depend refl (omega arith, h.counts.depend_within), whole_back (codes "eaten") ms 0 MOST_FRAMES j.eaten refl (omega arith, h.counts.eaten_within), name_back (codes "name") ms j.name refl h.job_name, whole_back (codes "priority") ms 1 MOST_PRIORITY j.priority refl h.priority_within, whole_back (codes "running") ms 0 MOST_FRAMES j.running refl (omega arith, h.counts.running_within), name_back (codes "show") ms j.show refl h.show_name, word_back (codes "state") ms job_state_of (job_word j.state) j.state refl (job_back j.state), whole_back (codes "succeeded") ms 0 MOST_FRAMES j.succeeded refl (omega arith, h.counts.succeeded_within), whole_back (codes "waiting") ms 0 MOST_FRAMES j.waiting refl (omega arith, h.counts.waiting_within)) refl

-- ---- layer

layer_fits : (l : ShownLayer) → IsFormedLayerRow l → Fits 1 (layer_row_data l)
unfolding layer_row_data
layer_fits l h = (refl, omega (arith, h.cores_within.1), (refl, omega (arith, h.counts.dead_within), (refl, omega (arith, h.counts.depend_within), (refl, omega (arith, h.counts.eaten_within), (refl, name_or_empty_fits l.limit h.limit_name, (refl, omega (arith, h.memory_within.1), (refl, name_fits l.name h.layer_name, (refl, text_fits l.range h.range_text, (refl, omega (arith, h.counts.running_within), (refl, omega (arith, h.counts.succeeded_within), (refl, omega (arith, h.counts.waiting_within), tt)))))))))))

layer_read : (l : ShownLayer) → IsFormedLayerRow l → layer_row_at (fields_in (layer_row_data l)) ≡ Ok (row.Layer l)
unfolding layer_row_data layer_row_at
layer_read l h =
    let ms = fields_in (layer_row_data l) in
    rw (whole_back (codes "cores") ms LEAST_CORES MOST_CORES l.cores refl h.cores_within, whole_back (codes "dead") ms 0 MOST_FRAMES l.dead refl (omega arith, h.counts.dead_within), whole_back (codes "depend") ms 0 MOST_FRAMES l.depend refl (omega arith, h.counts.depend_within), whole_back (codes "eaten") ms 0 MOST_FRAMES l.eaten refl (omega arith, h.counts.eaten_within), form_back (codes "limit") ms is_name_or_empty l.limit refl h.limit_name, whole_back (codes "memory") ms LEAST_MEMORY MOST_MEMORY l.memory refl h.memory_within, name_back (codes "name") ms l.name refl h.layer_name, whole_back (codes "running") ms 0 MOST_FRAMES l.running refl (omega arith, h.counts.running_within), whole_back (codes "succeeded") ms 0 MOST_FRAMES l.succeeded refl (omega arith, h.counts.succeeded_within), whole_back (codes "waiting") ms 0 MOST_FRAMES l.waiting refl (omega arith, h.counts.waiting_within)) refl

-- ---- frame

frame_fits : (x : ShownFrame) → IsFormedRow (row.Frame x) → Fits 1 (frame_row_data x)
unfolding frame_row_data
frame_fits x h = (refl, text_fits x.frame h.0, (refl, omega (arith, h.1), (refl, state_utf8 x.state, (refl, omega (arith, h.2), tt))))

frame_read : (x : ShownFrame) → IsFormedRow (row.Frame x) → frame_row_at (fields_in (frame_row_data x)) ≡ Ok (row.Frame x)
unfolding frame_row_data frame_row_at
frame_read x h =
    let ms = fields_in (frame_row_data x) in
    rw (whole_back (codes "retries") ms 0 MOST_RETRIES x.retries refl (omega arith, h.1), word_back (codes "state") ms state_of (state_word x.state) x.state refl (state_back x.state), whole_back (codes "version") ms 0 LAST_VERSION x.version refl (omega arith, h.2)) refl

-- ---- depend

depend_fits : (d : ShownDepend) → IsFormedRow (row.Depend d) → Fits 1 (depend_row_data d)
unfolding depend_row_data
depend_fits d h = (refl, omega (arith, h.1), (refl, kind_utf8 d.kind, (refl, tt, tt)))

depend_read : (d : ShownDepend) → IsFormedRow (row.Depend d) → depend_row_at (fields_in (depend_row_data d)) ≡ Ok (row.Depend d)
unfolding depend_row_data depend_row_at
depend_read d h =
    let ms = fields_in (depend_row_data d) in
    rw (whole_back (codes "depend") ms 1 LAST_DEPEND d.depend refl h, word_back (codes "kind") ms kind_of (kind_word d.kind) d.kind refl (kind_back d.kind)) refl

-- ---- proc

proc_fits : (p : ShownProc) → IsFormedProcRow p → Fits 1 (proc_row_data p)
unfolding proc_row_data
proc_fits p h = (refl, omega (arith, h.cores_within.1), (refl, text_fits p.frame h.frame_text, (refl, name_fits p.host h.host_name, (refl, name_fits p.job h.job_name, (refl, omega (arith, h.memory_within.1), (refl, omega (arith, h.slot_within), (refl, omega (arith, h.version_within), tt)))))))

proc_read : (p : ShownProc) → IsFormedProcRow p → proc_row_at (fields_in (proc_row_data p)) ≡ Ok (row.Proc p)
unfolding proc_row_data proc_row_at
proc_read p h =
    let ms = fields_in (proc_row_data p) in
    rw (whole_back (codes "cores") ms LEAST_CORES MOST_CORES p.cores refl h.cores_within, name_back (codes "host") ms p.host refl h.host_name, name_back (codes "job") ms p.job refl h.job_name, whole_back (codes "memory") ms LEAST_MEMORY MOST_MEMORY p.memory refl h.memory_within, whole_back (codes "slot") ms 0 LAST_SLOT p.slot refl (omega arith, h.slot_within), whole_back (codes "version") ms 0 LAST_VERSION p.version refl (omega arith, h.version_within)) refl

-- ---- any row

pub row_fits : (r : ListRow) → IsFormedRow r → Fits 1 (list_row_data r)
row_fits (row.Name name) h = name_row_fits name h
row_fits (row.Sub s) h = sub_fits s h
row_fits (row.Limit l) h = limit_fits l h
row_fits (row.Host x) h = host_fits x h
row_fits (row.Job j) h = job_fits j h
row_fits (row.Layer l) h = layer_fits l h
row_fits (row.Frame x) h = frame_fits x h
row_fits (row.Depend d) h = depend_fits d h
row_fits (row.Proc p) h = proc_fits p h

pub row_read : (field : List ℕ) (r : ListRow) → IsFormedRow r → item_at field (row_at (kind_of_row r)) (list_row_data r) ≡ Ok r
unfolding name_data sub_row_data limit_row_data host_row_data job_row_data layer_row_data frame_row_data depend_row_data proc_row_data
row_read field (row.Name name) h = name_row_read name h
row_read field (row.Sub s) h = sub_read s h
row_read field (row.Limit l) h = limit_read l h
row_read field (row.Host x) h = host_read x h
row_read field (row.Job j) h = job_read j h
row_read field (row.Layer l) h = layer_read l h
row_read field (row.Frame x) h = frame_read x h
row_read field (row.Depend d) h = depend_read d h
row_read field (row.Proc p) h = proc_read p h

pub kind_read : (r : ListRow) → kind_of_row_at (as_object (list_row_data r)) ≡ kind_of_row r
unfolding name_data sub_row_data limit_row_data host_row_data job_row_data layer_row_data frame_row_data depend_row_data proc_row_data
kind_read (row.Name name) = refl
kind_read (row.Sub s) = refl
kind_read (row.Limit l) = refl
kind_read (row.Host x) = refl
kind_read (row.Job j) = refl
kind_read (row.Layer l) = refl
kind_read (row.Frame x) = refl
kind_read (row.Depend d) = refl
kind_read (row.Proc p) = refl
