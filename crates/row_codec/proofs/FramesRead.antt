-- A slot's fields are read as its row.
use Rattle.std.proofs.Common.{◌≡◌, ℕ, ◌<◌, ◌^◌, Option, Some, None, Ok, refl, sym, ap, subst, ◌∙◌}
use Rattle.std.specs.Prelude.{codes}
use Rattle.serde_json.specs.Data.{Members}
use Rattle.cue_json.specs.Fields.{◌>>=◌}
use Rattle.farm_rows.specs.declared.frame_row.FrameRow.{FrameRow}
use Rattle.farm_rows.specs.declared.frame_row.StoredFrame.{StoredFrame}
use Rattle.farm_rows.specs.declared.frame_row.StoredState.{StoredState}
use Rattle.farm_rows.specs.declared.frame_row.StoredState.TheVariants as stored
use Rattle.row_codec.specs.RowFields.{fields_in_state, frame_fields, frame_word, free_fields, resting_fields, running_fields, slot_fields}
use Rattle.row_codec.specs.RowLaws.{FrameFits, SlotFits, StateFits, StoredFits}
use Rattle.row_codec.specs.RowReading.{frame_at, running_at, state_at, stored_at, stored_if}
use Rattle.row_codec.proofs.FieldsRead.{i32_read, u16_read, u32_read, u64_read}

abbrev slot_row : ℕ → ℕ → Option StoredFrame → FrameRow
slot_row slot version frame = record { slot = slot; version = version; frame = frame }

free_read : (slot version : ℕ) → version < 2 ^ 32 → frame_at slot (free_fields version) ≡ Ok (slot_row slot version None)
unfolding frame_at free_fields stored_if
free_read slot version h = rw (u32_read (codes "version") (free_fields version) version refl h) refl

-- ---- a frame without an attempt

abbrev IsResting : StoredState → Type 0
IsResting (stored.Running boot host since) = ⊥
IsResting other = Unit {0}

-- its word isn't that of a free slot, and is that of its state
not_free : (s : StoredState) (ms : Members) → stored_if (frame_word s) ms ≡ (stored_at (frame_word s) ms >>= λ x. Ok (Some x))
unfolding stored_if
not_free stored.Waiting ms = refl
not_free stored.Setup ms = refl
not_free (stored.Running boot host since) ms = refl
not_free stored.Succeeded ms = refl
not_free stored.Depend ms = refl
not_free stored.Dead ms = refl
not_free stored.Eaten ms = refl

state_back : (s : StoredState) (ms : Members) → IsResting s → state_at (frame_word s) ms ≡ Ok s
state_back stored.Waiting ms h = refl
state_back stored.Setup ms h = refl
state_back (stored.Running boot host since) ms h = absurd h
state_back stored.Succeeded ms h = refl
state_back stored.Depend ms h = refl
state_back stored.Dead ms h = refl
state_back stored.Eaten ms h = refl

resting_stored : (version : ℕ) (x : StoredFrame) → StoredFits x → IsResting x.state → stored_at (frame_word x.state) (resting_fields version x) ≡ Ok x
unfolding stored_at resting_fields
resting_stored version x h rests =
    rw (
      u32_read (codes "job") (resting_fields version x) x.job refl h.job,
      u32_read (codes "layer") (resting_fields version x) x.layer refl h.layer,
      i32_read (codes "number") (resting_fields version x) x.number refl h.number,
      u32_read (codes "retries") (resting_fields version x) x.retries refl h.retries,
      state_back x.state (resting_fields version x) rests,
    ) refl

resting_read : (slot version : ℕ) (x : StoredFrame) → version < 2 ^ 32 → StoredFits x → IsResting x.state → frame_at slot (resting_fields version x) ≡ Ok (slot_row slot version (Some x))
unfolding frame_at resting_fields
resting_read slot version x v h rests =
    rw (u32_read (codes "version") (resting_fields version x) version refl v, not_free x.state (resting_fields version x), resting_stored version x h rests) refl

-- ---- a running frame

running_read : (slot version : ℕ) (x : StoredFrame) (boot host since : ℕ) → version < 2 ^ 32 → StoredFits x → StateFits (stored.Running boot host since) → x.state ≡ stored.Running boot host since
    → frame_at slot (running_fields version x boot host since) ≡ Ok (slot_row slot version (Some x))
unfolding frame_at stored_if stored_at running_at running_fields
running_read slot version x boot host since v h attempt is =
    let fields : Members = running_fields version x boot host since in
    let read : frame_at slot fields ≡ Ok (slot_row slot version (Some (record x { state = stored.Running boot host since }))) =
    rw (
      u32_read (codes "version") fields version refl v,
      u32_read (codes "job") fields x.job refl h.job,
      u32_read (codes "layer") fields x.layer refl h.layer,
      i32_read (codes "number") fields x.number refl h.number,
      u32_read (codes "retries") fields x.retries refl h.retries,
      u32_read (codes "boot") fields boot refl attempt.0,
      u16_read (codes "host") fields host refl attempt.1,
      u64_read (codes "since") fields since refl attempt.2,
    ) refl in
    read ∙ ap (λ s. Ok (slot_row slot version (Some (record x { state = s })))) (sym is)

-- ---- every slot

in_state : (slot version : ℕ) (x : StoredFrame) (s : StoredState) → x.state ≡ s → version < 2 ^ 32 → StoredFits x → StateFits s → frame_at slot (fields_in_state version x s) ≡ Ok (slot_row slot version (Some x))
in_state slot version x (stored.Running boot host since) is v h attempt = running_read slot version x boot host since v h attempt is
in_state slot version x stored.Waiting is v h attempt = resting_read slot version x v h (subst IsResting (sym is) tt)
in_state slot version x stored.Setup is v h attempt = resting_read slot version x v h (subst IsResting (sym is) tt)
in_state slot version x stored.Succeeded is v h attempt = resting_read slot version x v h (subst IsResting (sym is) tt)
in_state slot version x stored.Depend is v h attempt = resting_read slot version x v h (subst IsResting (sym is) tt)
in_state slot version x stored.Dead is v h attempt = resting_read slot version x v h (subst IsResting (sym is) tt)
in_state slot version x stored.Eaten is v h attempt = resting_read slot version x v h (subst IsResting (sym is) tt)

slot_read : (slot version : ℕ) (frame : Option StoredFrame) → version < 2 ^ 32 → SlotFits frame → frame_at slot (slot_fields version frame) ≡ Ok (slot_row slot version frame)
slot_read slot version None v h = free_read slot version v
slot_read slot version (Some x) v h = in_state slot version x x.state refl v h h.state

pub frame_read : (r : FrameRow) → FrameFits r → frame_at r.slot (frame_fields r) ≡ Ok r
frame_read r h = slot_read r.slot r.version r.frame h.version h.frame
