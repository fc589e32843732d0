-- The fields of a row that the types can hold have values that are read back, and their keys rise.
use Rattle.std.proofs.Common.{◌≡◌, ◌==◌, Bool, false, cond, ℕ, ℤ, ◌<◌, ◌≤◌, ◌^◌, pos, negsuc, true, List, [], ◌∷◌, Option, Some, None, refl, arith, leb-true, IsUtf8}
use Rattle.std.specs.Prelude.{codes, map, option_map, IfSome}
use Rattle.std.specs.List.{AllByRecursion}
use Rattle.std.proofs.lemmas.Bool.{and_parts}
use Rattle.std.proofs.lemmas.Str.{IsUtf8-from_is_utf8}
use Rattle.json.proofs.Printed.Utf8.{IsUtf8-are_ascii}
use Rattle.serde_json.specs.Data.{Data, string, array, Members, no_members, member, boolean}
use Rattle.serde_json.specs.View.{items_of}
use Rattle.farm_types.specs.declared.depend.DependRow.{DependRow}
use Rattle.farm_types.specs.declared.rows.HostRow.{HostRow}
use Rattle.farm_types.specs.declared.rows.JobRow.{JobRow}
use Rattle.farm_types.specs.declared.rows.LayerRow.{LayerRow}
use Rattle.farm_rows.specs.declared.farm_row.FarmRow.{FarmRow}
use Rattle.farm_rows.specs.declared.farm_row.FarmRow.TheVariants as row
use Rattle.farm_rows.specs.declared.head_row.TheConstants.{ROW_FORMAT}
use Rattle.farm_rows.specs.declared.frame_row.StoredFrame.{StoredFrame}
use Rattle.farm_rows.specs.declared.frame_row.StoredState.{StoredState}
use Rattle.farm_rows.specs.declared.frame_row.StoredState.TheVariants as stored
use Rattle.state_names.specs.Words.{kind_word}
use Rattle.state_names.proofs.WordsBack.{host_utf8, job_utf8, kind_utf8, lock_utf8}
use Rattle.row_codec.specs.RowFields.{alloc_fields, depend_fields, field_if, fields_in_state, frame_word, free_fields, head_fields, host_fields, job_fields, layer_fields, limit_fields, limit_mark, met_fields, resting_fields, row_fields, running_fields, show_fields, signed, slot_fields, sub_fields, whole}
use Rattle.row_codec.specs.RowLaws.{DependFits, Fits, FrameNamed, HostFits, IsSigned, IsText, JobFits, LayerFits, LayerNamed, SlotFits, StateFits, StoredFits}
use Rattle.row_codec.proofs.Objects.{are_keys, FieldsFit, ItemsFit, ValueFits}

-- ---- values

utf8 : (text : List ℕ) → IsText text → IsUtf8 text
utf8 text h = IsUtf8-from_is_utf8 text h

texts_fit : (ts : List (List ℕ)) → AllByRecursion IsText ts → ItemsFit (items_of (map string ts))
texts_fit [] h = tt
texts_fit (t ∷ ts) h = (utf8 t h.0, texts_fit ts h.1)

signed_fits : (z : ℤ) → IsSigned z → ValueFits (signed z)
signed_fits (pos n) h = let most : n ≤ 2147483647 = leb-true n 2147483647 h in omega (arith, most)
signed_fits (negsuc n) h = let p = and_parts _ _ h in let most : n ≤ 2147483647 = leb-true n 2147483647 p.0 in omega (arith, most)

frame_utf8 : (s : StoredState) → IsUtf8 (frame_word s)
frame_utf8 stored.Waiting = IsUtf8-are_ascii (codes "WAITING") refl
frame_utf8 stored.Setup = IsUtf8-are_ascii (codes "SETUP") refl
frame_utf8 (stored.Running boot host since) = IsUtf8-are_ascii (codes "RUNNING") refl
frame_utf8 stored.Succeeded = IsUtf8-are_ascii (codes "SUCCEEDED") refl
frame_utf8 stored.Depend = IsUtf8-are_ascii (codes "DEPEND") refl
frame_utf8 stored.Dead = IsUtf8-are_ascii (codes "DEAD") refl
frame_utf8 stored.Eaten = IsUtf8-are_ascii (codes "EATEN") refl

-- ---- fields

host_fit : (r : HostRow) → HostFits r → FieldsFit (host_fields r)
unfolding host_fields
host_fit r h =
    (omega (arith, h.alloc), (omega (arith, h.boot), (omega (arith, h.cores), (h.heard, (lock_utf8 r.lock, (h.memory, (utf8 r.name h.name, (h.nonce, (h.seq, (host_utf8 r.state, (texts_fit r.tags h.tags, tt)))))))))))

job_fit : (r : JobRow) → JobFits r → FieldsFit (job_fields r)
unfolding job_fields
job_fit r h =
    (tt, (omega (arith, h.eaten), (utf8 r.facility h.facility, (h.finish, (omega (arith, h.frames), (omega (arith, h.max_retries), (utf8 r.name h.name, (tt, (omega (arith, h.priority), (utf8 r.shot h.shot, (omega (arith, h.show), (job_utf8 r.state, (omega (arith, h.succeeded), (utf8 r.user h.user, tt))))))))))))))

mark_fits : (limit : Option ℕ) → IfSome limit (λ n. n < 2 ^ 8) → ValueFits (whole (limit_mark limit))
mark_fits None h = omega arith
mark_fits (Some n) h = omega (arith, h)

limit_if_fits : (b : Bool) (limit : Option ℕ) (rest : Members) → IfSome limit (λ n. n < 2 ^ 8) → FieldsFit rest
    → FieldsFit (field_if (codes "limit") (cond b (Some (whole (limit_mark limit))) None) rest)
limit_if_fits true limit rest h more = (mark_fits limit h, more)
limit_if_fits false limit rest h more = more

layer_fit : (format : ℕ) (r : LayerRow) → LayerFits r → FieldsFit (layer_fields format r)
unfolding layer_fields
layer_fit format r h =
    (utf8 r.command h.command, (omega (arith, h.cores), limit_if_fits (format == ROW_FORMAT) r.limit _ h.limit (h.memory, (utf8 r.name h.name, (utf8 r.range h.range, (texts_fit r.tags h.tags, tt))))))

resting_fit : (version : ℕ) (x : StoredFrame) → version < 2 ^ 32 → StoredFits x → FieldsFit (resting_fields version x)
unfolding resting_fields
resting_fit version x v h =
    (omega (arith, h.job), (omega (arith, h.layer), (signed_fits x.number h.number, (omega (arith, h.retries), (frame_utf8 x.state, (omega (arith, v), tt))))))

running_fit : (version : ℕ) (x : StoredFrame) (boot host since : ℕ) → version < 2 ^ 32 → StoredFits x → StateFits (stored.Running boot host since) → FieldsFit (running_fields version x boot host since)
unfolding running_fields
running_fit version x boot host since v h a =
    (omega (arith, a.0), (omega (arith, a.1), (omega (arith, h.job), (omega (arith, h.layer), (signed_fits x.number h.number, (omega (arith, h.retries), (a.2, (IsUtf8-are_ascii (codes "RUNNING") refl, (omega (arith, v), tt)))))))))

state_fit : (version : ℕ) (x : StoredFrame) (s : StoredState) → version < 2 ^ 32 → StoredFits x → StateFits s → FieldsFit (fields_in_state version x s)
state_fit version x (stored.Running boot host since) v h a = running_fit version x boot host since v h a
state_fit version x stored.Waiting v h a = resting_fit version x v h
state_fit version x stored.Setup v h a = resting_fit version x v h
state_fit version x stored.Succeeded v h a = resting_fit version x v h
state_fit version x stored.Depend v h a = resting_fit version x v h
state_fit version x stored.Dead v h a = resting_fit version x v h
state_fit version x stored.Eaten v h a = resting_fit version x v h

slot_fit : (version : ℕ) (frame : Option StoredFrame) → version < 2 ^ 32 → SlotFits frame → FieldsFit (slot_fields version frame)
unfolding free_fields
slot_fit version None v h = (IsUtf8-are_ascii (codes "FREE") refl, (omega (arith, v), tt))
slot_fit version (Some x) v h = state_fit version x x.state v h h.state

layer_if_fits : (key : List ℕ) (o : Option (List ℕ)) (rest : Members) → LayerNamed o → FieldsFit rest → FieldsFit (field_if key (option_map string o) rest)
layer_if_fits key None rest h more = more
layer_if_fits key (Some name) rest h more = (utf8 name h, more)

frame_if_fits : (key : List ℕ) (o : Option ℤ) (rest : Members) → FrameNamed o → FieldsFit rest → FieldsFit (field_if key (option_map signed o) rest)
frame_if_fits key None rest h more = more
frame_if_fits key (Some number) rest h more = (signed_fits number h, more)

depend_fit : (r : DependRow) → DependFits r → FieldsFit (depend_fields r)
unfolding depend_fields
depend_fit r h = (
  tt,
  frame_if_fits (codes "frame") r.waiter.frame _ h.waiter.frame (
    omega (arith, h.waiter.job),
    (
      kind_utf8 r.kind,
      layer_if_fits (codes "layer") r.waiter.layer _ h.waiter.layer (
        tt,
        frame_if_fits (codes "on_frame") r.target.frame _ h.target.frame (omega (arith, h.target.job), layer_if_fits (codes "on_layer") r.target.layer no_members h.target.layer tt),
      ),
    ),
  ),
)

pub fields_fit : (format : ℕ) (r : FarmRow) → Fits r → FieldsFit (row_fields format r)
unfolding head_fields show_fields alloc_fields sub_fields met_fields limit_fields
fields_fit format (row.Head r) h = (h.depends, (h.finishes, (h.format, (h.jobs, (h.moment, tt)))))
fields_fit format (row.Show show r) h = (utf8 r.name h.1, tt)
fields_fit format (row.Alloc alloc r) h = (utf8 r.facility h.1, (utf8 r.tag h.2, tt))
fields_fit format (row.Sub r) h = (omega (arith, h.burst), (omega (arith, h.size), tt))
fields_fit format (row.Host host r) h = host_fit r h.1
fields_fit format (row.Job r) h = job_fit r h
fields_fit format (row.Layer r) h = layer_fit format r h
fields_fit format (row.Frame r) h = slot_fit r.version r.frame h.version h.frame
fields_fit format (row.Depend r) h = depend_fit r h
fields_fit format (row.Met r) h = (tt, tt)
fields_fit format (row.Limit limit r) h = (omega (arith, h.most), (utf8 r.name h.name, tt))

-- ---- keys

state_keys : (version : ℕ) (x : StoredFrame) (s : StoredState) → are_keys [] (fields_in_state version x s) ≡ true
unfolding resting_fields running_fields
state_keys version x (stored.Running boot host since) = refl
state_keys version x stored.Waiting = refl
state_keys version x stored.Setup = refl
state_keys version x stored.Succeeded = refl
state_keys version x stored.Depend = refl
state_keys version x stored.Dead = refl
state_keys version x stored.Eaten = refl

slot_keys : (version : ℕ) (frame : Option StoredFrame) → are_keys [] (slot_fields version frame) ≡ true
unfolding free_fields
slot_keys version None = refl
slot_keys version (Some x) = state_keys version x x.state

-- whichever of the fields are there that may be left out
depend_keys : (any job kind met_all on_job : Data) (frame layer on_frame on_layer : Option Data)
    → are_keys [] (member (codes "any") any (field_if (codes "frame") frame (member (codes "job") job (member (codes "kind") kind (field_if (codes "layer") layer
    (member (codes "met_all") met_all (field_if (codes "on_frame") on_frame (member (codes "on_job") on_job (field_if (codes "on_layer") on_layer no_members))))))))) ≡ true
depend_keys any job kind met_all on_job None None None None = refl
depend_keys any job kind met_all on_job None None None (Some m) = refl
depend_keys any job kind met_all on_job None None (Some g) None = refl
depend_keys any job kind met_all on_job None None (Some g) (Some m) = refl
depend_keys any job kind met_all on_job None (Some l) None None = refl
depend_keys any job kind met_all on_job None (Some l) None (Some m) = refl
depend_keys any job kind met_all on_job None (Some l) (Some g) None = refl
depend_keys any job kind met_all on_job None (Some l) (Some g) (Some m) = refl
depend_keys any job kind met_all on_job (Some f) None None None = refl
depend_keys any job kind met_all on_job (Some f) None None (Some m) = refl
depend_keys any job kind met_all on_job (Some f) None (Some g) None = refl
depend_keys any job kind met_all on_job (Some f) None (Some g) (Some m) = refl
depend_keys any job kind met_all on_job (Some f) (Some l) None None = refl
depend_keys any job kind met_all on_job (Some f) (Some l) None (Some m) = refl
depend_keys any job kind met_all on_job (Some f) (Some l) (Some g) None = refl
depend_keys any job kind met_all on_job (Some f) (Some l) (Some g) (Some m) = refl

-- with a limit and without one
layer_keys : (b : Bool) (r : LayerRow)
    → are_keys [] (member (codes "command") (string r.command) (member (codes "cores") (whole r.cores) (field_if (codes "limit") (cond b (Some (whole (limit_mark r.limit))) None)
    (member (codes "memory") (whole r.memory) (member (codes "name") (string r.name) (member (codes "range") (string r.range) (member (codes "tags") (array (items_of (map string r.tags))) no_members))))))) ≡ true
layer_keys true r = refl
layer_keys false r = refl

pub keys_rise : (format : ℕ) (r : FarmRow) → are_keys [] (row_fields format r) ≡ true
unfolding head_fields show_fields alloc_fields sub_fields host_fields job_fields layer_fields depend_fields met_fields limit_fields
keys_rise format (row.Head r) = refl
keys_rise format (row.Show show r) = refl
keys_rise format (row.Alloc alloc r) = refl
keys_rise format (row.Sub r) = refl
keys_rise format (row.Host host r) = refl
keys_rise format (row.Job r) = refl
keys_rise format (row.Layer r) = layer_keys (format == ROW_FORMAT) r
keys_rise format (row.Frame r) = slot_keys r.version r.frame
keys_rise format (row.Depend r) = depend_keys (boolean r.any) (whole r.waiter.job) (string (kind_word r.kind)) (boolean r.met_all) (whole r.target.job) (option_map signed r.waiter.frame) (option_map string r.waiter.layer) (option_map signed r.target.frame) (option_map string r.target.layer)
keys_rise format (row.Met r) = refl
keys_rise format (row.Limit limit r) = refl
