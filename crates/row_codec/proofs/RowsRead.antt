-- Each row's fields are read as that row.
use Rattle.std.proofs.Common.{◌≡◌, ◌≤◌, ◌<◌, ◌+◌, ◌⊎◌, inl, inr, ◌==◌, ◌^◌, ℕ, suc, Bool, true, false, Option, None, Some, Ok, cond, refl, sym, ap, ◌∙◌, arith}
use Rattle.std.proofs.lemmas.Bool.{eq-eqb, false≢true}
use Rattle.serde_json.specs.Data.{string, Members, no_members, member}
use Rattle.std.specs.Prelude.{codes, IfSome}
use Rattle.farm_types.specs.declared.rows.AllocRow.{AllocRow}
use Rattle.farm_types.specs.declared.rows.HostRow.{HostRow}
use Rattle.farm_types.specs.declared.rows.JobRow.{JobRow}
use Rattle.farm_types.specs.declared.rows.LayerRow.{LayerRow}
use Rattle.farm_types.specs.declared.rows.LimitRow.{LimitRow}
use Rattle.farm_types.specs.declared.rows.ShowRow.{ShowRow}
use Rattle.farm_types.specs.declared.rows.SubRow.{SubRow}
use Rattle.farm_rows.specs.declared.head_row.HeadRow.{HeadRow}
use Rattle.farm_rows.specs.declared.head_row.TheConstants.{ROW_FORMAT}
use Rattle.state_names.specs.Words.{host_state_of, host_word, job_state_of, job_word, lock_of, lock_word}
use Rattle.state_names.proofs.WordsBack.{host_back, job_back, lock_back}
use Rattle.row_codec.specs.RowFields.{alloc_fields, field_if, head_fields, host_fields, job_fields, layer_fields, limit_fields, limit_mark, show_fields, sub_fields, texts, whole}
use Rattle.row_codec.specs.RowLaws.{HeadFits, HostFits, JobFits, LayerFits, LimitFits, SubFits}
use Rattle.row_codec.specs.RowReading.{alloc_at, head_at, host_at, job_at, layer_at, limit_marked, limit_row_at, show_at, sub_at}
use Rattle.row_codec.proofs.FieldsRead.{texts_read, u16_read, u32_read, u64_read, whole_read, word_read}

pub head_read : (r : HeadRow) → HeadFits r → head_at (head_fields r) ≡ Ok r
unfolding head_at head_fields
head_read r h =
    rw (
      u64_read (codes "depends") (head_fields r) r.depends refl h.depends,
      u64_read (codes "finishes") (head_fields r) r.finishes refl h.finishes,
      u64_read (codes "format") (head_fields r) r.format refl h.format,
      u64_read (codes "jobs") (head_fields r) r.jobs refl h.jobs,
      u64_read (codes "moment") (head_fields r) r.moment refl h.moment,
    ) refl

pub show_read : (r : ShowRow) → show_at (show_fields r) ≡ Ok r
unfolding show_at show_fields
show_read r = refl

pub alloc_read : (r : AllocRow) → alloc_at (alloc_fields r) ≡ Ok r
unfolding alloc_at alloc_fields
alloc_read r = refl

pub sub_read : (r : SubRow) → SubFits r → sub_at r.sub (sub_fields r) ≡ Ok r
unfolding sub_at sub_fields
sub_read r h =
    rw (
      u32_read (codes "burst") (sub_fields r) r.burst refl h.burst,
      u32_read (codes "size") (sub_fields r) r.size refl h.size,
    ) refl

pub host_read : (r : HostRow) → HostFits r → host_at (host_fields r) ≡ Ok r
unfolding host_at host_fields
host_read r h =
    rw (
      u16_read (codes "alloc") (host_fields r) r.alloc refl h.alloc,
      u32_read (codes "boot") (host_fields r) r.boot refl h.boot,
      u32_read (codes "cores") (host_fields r) r.cores refl h.cores,
      u64_read (codes "heard") (host_fields r) r.heard refl h.heard,
      word_read (codes "lock") (host_fields r) lock_of (lock_word r.lock) r.lock refl (lock_back r.lock),
      u64_read (codes "memory") (host_fields r) r.memory refl h.memory,
      u64_read (codes "nonce") (host_fields r) r.nonce refl h.nonce,
      u64_read (codes "seq") (host_fields r) r.seq refl h.seq,
      word_read (codes "state") (host_fields r) host_state_of (host_word r.state) r.state refl (host_back r.state),
      texts_read (codes "tags") (host_fields r) r.tags refl,
    ) refl

pub job_read : (r : JobRow) → JobFits r → job_at r.job (job_fields r) ≡ Ok r
unfolding job_at job_fields
job_read r h =
    rw (
      u32_read (codes "eaten") (job_fields r) r.eaten refl h.eaten,
      u64_read (codes "finish") (job_fields r) r.finish refl h.finish,
      u32_read (codes "frames") (job_fields r) r.frames refl h.frames,
      u32_read (codes "max_retries") (job_fields r) r.max_retries refl h.max_retries,
      u32_read (codes "priority") (job_fields r) r.priority refl h.priority,
      u16_read (codes "show") (job_fields r) r.show refl h.show,
      word_read (codes "state") (job_fields r) job_state_of (job_word r.state) r.state refl (job_back r.state),
      u32_read (codes "succeeded") (job_fields r) r.succeeded refl h.succeeded,
    ) refl

mark_within : (limit : Option ℕ) → IfSome limit (λ n. n < 2 ^ 8) → limit_mark limit ≤ 256
mark_within None h = omega arith
mark_within (Some n) h = omega (arith, h)

mark_back : (limit : Option ℕ) → limit_marked (limit_mark limit) ≡ limit
mark_back None = refl
mark_back (Some n) = ap limit_marked (plus_one n)
  where
    plus_one : (n : ℕ) → n + 1 ≡ suc n
    plus_one n = omega arith

-- the fields of a layer, with a limit or without one
abbrev fields_by : Bool → LayerRow → Members
fields_by b r =
    member (codes "command") (string r.command) (member (codes "cores") (whole r.cores) (field_if (codes "limit") (cond b (Some (whole (limit_mark r.limit))) None)
    (member (codes "memory") (whole r.memory) (member (codes "name") (string r.name) (member (codes "range") (string r.range) (member (codes "tags") (texts r.tags) no_members))))))

layer_read_by : (format : ℕ) (r : LayerRow) → LayerFits r → (b : Bool) → (format == ROW_FORMAT) ≡ b → (format ≡ ROW_FORMAT) ⊎ (r.limit ≡ None) → layer_at format r.job r.place (fields_by b r) ≡ Ok r
unfolding layer_at
layer_read_by format r h true is which =
    rw (
      is,
      u32_read (codes "cores") (fields_by true r) r.cores refl h.cores,
      whole_read (codes "limit") (fields_by true r) (limit_mark r.limit) 256 refl (mark_within r.limit h.limit),
      mark_back r.limit,
      u64_read (codes "memory") (fields_by true r) r.memory refl h.memory,
      texts_read (codes "tags") (fields_by true r) r.tags refl,
    ) refl
layer_read_by format r h false is (inl new) = absurd (false≢true (sym is ∙ eq-eqb format ROW_FORMAT new))
layer_read_by format r h false is (inr none) =
    let read : layer_at format r.job r.place (fields_by false r) ≡ Ok (record r { limit = None }) =
    rw (
      is,
      u32_read (codes "cores") (fields_by false r) r.cores refl h.cores,
      u64_read (codes "memory") (fields_by false r) r.memory refl h.memory,
      texts_read (codes "tags") (fields_by false r) r.tags refl,
    ) refl in
    read ∙ ap (λ (limit : Option ℕ). Ok (record r { limit = limit })) (sym none)

-- a layer is read as it was written; in format 1 it has no limit
pub layer_read : (format : ℕ) (r : LayerRow) → LayerFits r → (format ≡ ROW_FORMAT) ⊎ (r.limit ≡ None) → layer_at format r.job r.place (layer_fields format r) ≡ Ok r
unfolding layer_fields
layer_read format r h which = layer_read_by format r h (format == ROW_FORMAT) refl which

pub limit_row_read : (limit : ℕ) (r : LimitRow) → LimitFits limit r → limit_row_at (limit_fields r) ≡ Ok r
unfolding limit_row_at limit_fields
limit_row_read limit r h = rw (u32_read (codes "most") (limit_fields r) r.most refl h.most) refl
