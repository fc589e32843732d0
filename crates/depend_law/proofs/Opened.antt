-- The slots of a farm that is settled, or whose waiting frames are blocked: which frames are where, and that as many are done.
use Rattle.std.proofs.Common.{◌≡◌, ℕ, suc, zero, ◌+◌, Bool, true, false, cond, ◌&&◌, not, List, [], ◌∷◌, Option, Some, None, refl, sym, subst, ◌∙◌, arith, option_map}
use Rattle.std.specs.List.{slice_get}
use Rattle.std.proofs.lemmas.Bool.{false≢true}
use Rattle.std.proofs.lemmas.Option.{none-some, same_Some}
use Rattle.farm_types.specs.declared.slot_row.Frame.{Frame}
use Rattle.farm_types.specs.declared.slot_row.SlotRow.{SlotRow}
use Rattle.farm_types.specs.declared.states.FrameState.{FrameState}
use Rattle.farm_types.specs.declared.states.FrameState.TheVariants as frame_state
use Rattle.farm_types.specs.Booking.{is_waiting}
use Rattle.farm_types.specs.Depends.{is_done, is_done_state, is_open}
use Rattle.farm_types.specs.Farm.{Farm, for_some}
use Rattle.farm_types.specs.Settle.{blocked_from, blocked_row, blocks, in_state, is_blocked, opened_from, opens}
use Rattle.farm_types.proofs.Lists.{and_both}

-- in the same slots frames are done
abbrev pub SameDone : List SlotRow → List SlotRow → Type 0
SameDone olds news = (slot : ℕ) → is_done news slot ≡ is_done olds slot

-- the slot's frame is done
abbrev has_done : SlotRow → Bool
has_done s = for_some s.frame (λ x. is_done_state x.state)

-- no state that passes the test is a done one
abbrev IsUndone : (FrameState → Bool) → Type 0
IsUndone test = (state : FrameState) → test state ≡ true → is_done_state state ≡ false

blocked_undone : IsUndone is_blocked
blocked_undone frame_state.Succeeded is = absurd (false≢true is)
blocked_undone frame_state.Eaten is = absurd (false≢true is)
blocked_undone state is = refl

waiting_undone : IsUndone is_waiting
waiting_undone frame_state.Succeeded is = absurd (false≢true is)
waiting_undone frame_state.Eaten is = absurd (false≢true is)
waiting_undone state is = refl

frame_undone : (test : FrameState → Bool) → IsUndone test → (new : FrameState) → is_done_state new ≡ false → (frame : Option Frame) (other : Bool) → (for_some frame (λ x. test x.state) && other) ≡ true
    → for_some (option_map (λ (x : Frame). record x { state = new }) frame) (λ x. is_done_state x.state) ≡ for_some frame (λ x. is_done_state x.state)
frame_undone test undone new undone_then None other is = refl
frame_undone test undone new undone_then (Some x) other is = undone_then ∙ sym (undone x.state (and_both (test x.state) other is).0)

-- a frame that goes from such a state to another that isn't done
state_undone : (test : FrameState → Bool) → IsUndone test → (new : FrameState) → is_done_state new ≡ false → (s : SlotRow) (version : ℕ) (b other : Bool) → (for_some s.frame (λ x. test x.state) && other) ≡ b
    → has_done (cond b (record (in_state new s) { version = version }) s) ≡ has_done s
state_undone test undone new undone_then s version true other is = frame_undone test undone new undone_then s.frame other is
state_undone test undone new undone_then s version false other is = refl

-- ---- opened slots

module _ (f : Farm) where
  -- the slot from which the one at a place came
  opened_at : (from : ℕ) (ss : List SlotRow) (slot : ℕ) (s : SlotRow) → slice_get (opened_from f from ss) slot ≡ Some s
      → (old : SlotRow) × (slice_get ss slot ≡ Some old) × (cond (opens f (from + slot) old) (in_state frame_state.Waiting old) old ≡ s)
  opened_at from [] slot s at = absurd (none-some s at)
  opened_at from (x ∷ xs) zero s at =
      let here : from ≡ from + 0 = omega arith in
      (x, refl, subst (λ (n : ℕ). cond (opens f n x) (in_state frame_state.Waiting x) x ≡ s) here (same_Some _ s at))
  opened_at from (x ∷ xs) (suc slot) s at =
      let next : from + 1 + slot ≡ from + suc slot = omega arith in
      let later = opened_at (from + 1) xs slot s at in
      (later.0, later.1, subst (λ (n : ℕ). cond (opens f n later.0) (in_state frame_state.Waiting later.0) later.0 ≡ s) next later.2)

  -- and so in a whole list
  pub opened_slot : (ss : List SlotRow) (slot : ℕ) (s : SlotRow) → slice_get (opened_from f 0 ss) slot ≡ Some s
      → (old : SlotRow) × (slice_get ss slot ≡ Some old) × (cond (opens f slot old) (in_state frame_state.Waiting old) old ≡ s)
  opened_slot ss slot s at =
      let whole : 0 + slot ≡ slot = omega arith in
      let from = opened_at 0 ss slot s at in
      (from.0, from.1, subst (λ (n : ℕ). cond (opens f n from.0) (in_state frame_state.Waiting from.0) from.0 ≡ s) whole from.2)

  pub opened_done : (from : ℕ) (ss : List SlotRow) → SameDone ss (opened_from f from ss)
  opened_done from [] slot = refl
  opened_done from (x ∷ xs) zero = state_undone is_blocked blocked_undone frame_state.Waiting refl x x.version (opens f from x) (is_open f from) refl
  opened_done from (x ∷ xs) (suc slot) = opened_done (from + 1) xs slot

-- ---- blocked slots

module _ (change : ℕ → ℕ) (f : Farm) where
  blocked_at : (from : ℕ) (ss : List SlotRow) (slot : ℕ) (s : SlotRow) → slice_get (blocked_from change f from ss) slot ≡ Some s
      → (old : SlotRow) × (slice_get ss slot ≡ Some old) × (cond (blocks f (from + slot) old) (blocked_row change old) old ≡ s)
  blocked_at from [] slot s at = absurd (none-some s at)
  blocked_at from (x ∷ xs) zero s at =
      let here : from ≡ from + 0 = omega arith in
      (x, refl, subst (λ (n : ℕ). cond (blocks f n x) (blocked_row change x) x ≡ s) here (same_Some _ s at))
  blocked_at from (x ∷ xs) (suc slot) s at =
      let next : from + 1 + slot ≡ from + suc slot = omega arith in
      let later = blocked_at (from + 1) xs slot s at in
      (later.0, later.1, subst (λ (n : ℕ). cond (blocks f n later.0) (blocked_row change later.0) later.0 ≡ s) next later.2)

  pub blocked_slot : (ss : List SlotRow) (slot : ℕ) (s : SlotRow) → slice_get (blocked_from change f 0 ss) slot ≡ Some s
      → (old : SlotRow) × (slice_get ss slot ≡ Some old) × (cond (blocks f slot old) (blocked_row change old) old ≡ s)
  blocked_slot ss slot s at =
      let whole : 0 + slot ≡ slot = omega arith in
      let from = blocked_at 0 ss slot s at in
      (from.0, from.1, subst (λ (n : ℕ). cond (blocks f n from.0) (blocked_row change from.0) from.0 ≡ s) whole from.2)

  pub blocked_done : (from : ℕ) (ss : List SlotRow) → SameDone ss (blocked_from change f from ss)
  blocked_done from [] slot = refl
  blocked_done from (x ∷ xs) zero = state_undone is_waiting waiting_undone frame_state.Depend refl x (change x.version) (blocks f from x) (not (is_open f from)) refl
  blocked_done from (x ∷ xs) (suc slot) = blocked_done (from + 1) xs slot
