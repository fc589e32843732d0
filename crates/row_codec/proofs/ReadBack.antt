-- Each row is read back from its bytes.
use Rattle.std.proofs.Common.{◌≡◌, ◌<◌, ◌+◌, ◌*◌, ◌/◌, ◌%◌, ◌^◌, ℕ, true, List, None, Some, Result, Ok, Err, refl, sym, ◌∙◌, arith, lt-ltb}
use Rattle.std.proofs.lemmas.Bool.{eq-eqb}
use Rattle.std.proofs.lemmas.Slice.Eq.{bytes_eq-Decides}
use Rattle.serde_json.specs.Data.{Members}
use Rattle.cue_json.specs.Lines.{object_in}
use Rattle.farm_rows.specs.declared.farm_row.FarmRow.{FarmRow}
use Rattle.farm_rows.specs.declared.farm_row.FarmRow.TheVariants as row
use Rattle.farm_rows.specs.Rows.{row_id, row_kind}
use Rattle.row_codec.specs.RowFields.{row_fields, text_in}
use Rattle.row_codec.specs.RowLaws.{FitsIn, IsDecoded, IsExact, IsNoSpelling}
use Rattle.row_codec.specs.declared.fault.RowFault.{RowFault}
use Rattle.row_codec.specs.declared.fault.RowFault.TheVariants as row_fault
use Rattle.row_codec.specs.RowReading.{is_spelled, row_from, row_in}
use Rattle.row_codec.proofs.DependsRead.{depend_read}
use Rattle.row_codec.proofs.FramesRead.{frame_read}
use Rattle.row_codec.proofs.Objects.{object_back}
use Rattle.row_codec.proofs.RowsFit.{fields_fit, keys_rise}
use Rattle.row_codec.proofs.Spellings.{read_is_spelled}
use Rattle.row_codec.proofs.RowsRead.{alloc_read, head_read, host_read, job_read, layer_read, limit_row_read, show_read, sub_read}

-- ---- the fields of a row, under its kind and id

-- an id gives back its number and its place
layer_number : (job place : ℕ) → place < 64 → (64 * job + place) / 64 ≡ job
layer_number job place h = omega (arith, h)

layer_place : (job place : ℕ) → place < 64 → (64 * job + place) % 64 ≡ place
layer_place job place h = omega (arith, h)

group_number : (depend position : ℕ) → position < 16384 → (16384 * depend + position) / 16384 ≡ depend
group_number depend position h = omega (arith, h)

group_place : (depend position : ℕ) → position < 16384 → (16384 * depend + position) % 16384 ≡ position
group_place depend position h = omega (arith, h)

row_back : (format : ℕ) (r : FarmRow) → FitsIn format r → row_in format (row_kind r) (row_id r) (row_fields format r) ≡ Some r
row_back format (row.Head r) h = rw (head_read r h.0) refl
row_back format (row.Show show r) h = rw (lt-ltb show (2 ^ 16) h.0.0, show_read r) refl
row_back format (row.Alloc alloc r) h = rw (lt-ltb alloc (2 ^ 16) h.0.0, alloc_read r) refl
row_back format (row.Sub r) h = rw (lt-ltb r.sub (2 ^ 16) h.0.sub, sub_read r h.0) refl
row_back format (row.Host host r) h = rw (lt-ltb host (2 ^ 16) h.0.0, host_read r h.0.1) refl
row_back format (row.Job r) h = rw (lt-ltb r.job (2 ^ 32) h.0.job, job_read r h.0) refl
row_back format (row.Layer r) h =
    rw (layer_number r.job r.place h.0.place, layer_place r.job r.place h.0.place, lt-ltb r.job (2 ^ 32) h.0.job, layer_read format r h.0 h.1) refl
row_back format (row.Frame r) h = rw (lt-ltb r.slot (2 ^ 32) h.0.slot, frame_read r h.0) refl
row_back format (row.Depend r) h = rw (lt-ltb r.depend (2 ^ 32) h.0.depend, depend_read r h.0) refl
row_back format (row.Met r) h =
    rw (group_number r.depend r.position h.0.1, group_place r.depend r.position h.0.1, lt-ltb r.depend (2 ^ 32) h.0.0) refl
row_back format (row.Limit limit r) h = rw (lt-ltb limit (2 ^ 8) h.0.limit, limit_row_read limit r h.0) refl

-- ---- its bytes

module _ (format : ℕ) where
  spelled_so : (r : FarmRow) → is_spelled format (row_kind r) (row_id r) (text_in format r) r ≡ true
  spelled_so r =
      rw (eq-eqb (row_kind r) (row_kind r) refl, eq-eqb (row_id r) (row_id r) refl, (bytes_eq-Decides (text_in format r) (text_in format r)).1 refl) refl

  found : (kind id : ℕ) (bytes : List ℕ) (fields : Members) (r : FarmRow) → object_in bytes ≡ Some fields → row_in format kind id fields ≡ Some r
      → is_spelled format kind id bytes r ≡ true → row_from format kind id bytes ≡ Some r
  unfolding row_from
  found kind id bytes fields r object read is = rw (object, read, is) refl

  pub read_back : (r : FarmRow) → FitsIn format r → row_from format (row_kind r) (row_id r) (text_in format r) ≡ Some r
  read_back r h =
      found (row_kind r) (row_id r) (text_in format r) (row_fields format r) r (object_back (row_fields format r) (fields_fit format r h.0) (keys_rise format r))
      (row_back format r h) (spelled_so r)

  same : {X : Type 0} (x y : X) → Some x ≡ Some y → x ≡ y
  same x y e = cc

  -- bytes and ids that are the same are read as the same
  both : (k l i j : ℕ) (xs ys : List ℕ) → k ≡ l → i ≡ j → xs ≡ ys → row_from format k i xs ≡ row_from format l j ys
  both k l i j xs ys kind id text = rw (kind, id, text) refl

  pub spelled_once : (r s : FarmRow) → FitsIn format r → FitsIn format s → row_kind r ≡ row_kind s → row_id r ≡ row_id s → text_in format r ≡ text_in format s → r ≡ s
  spelled_once r s h g kind id text =
      same r s (sym (read_back r h) ∙ both (row_kind r) (row_kind s) (row_id r) (row_id s) (text_in format r) (text_in format s) kind id text ∙ read_back s g)

  -- where nothing is read, no row is spelled so
  none_spelled : (kind id : ℕ) (bytes : List ℕ) → row_from format kind id bytes ≡ None → IsNoSpelling format kind id bytes
  none_spelled kind id bytes none r h is =
      let some : row_from format kind id bytes ≡ Some r = both kind (row_kind r) id (row_id r) bytes (text_in format r) (sym is.0) (sym is.1) (sym is.2) ∙ read_back r h in
      let wrong : None ≡ Some r = sym none ∙ some in
      cc

  pub exact : (kind id : ℕ) (bytes : List ℕ) (result : Result FarmRow RowFault) → IsDecoded kind id result (row_from format kind id bytes) → IsExact format kind id bytes result
  exact kind id bytes (Ok r) h = read_is_spelled format kind id bytes r h
  exact kind id bytes (Err (row_fault.BadBytes k i)) h = (h.1, h.2, none_spelled kind id bytes h.0)
  exact kind id bytes (Err row_fault.NoMemory) h = tt
