-- The slots after what follows: frames stay at their places, and the same ones are done.
use Rattle.std.proofs.Common.{◌≡◌, ◌≢◌, ℕ, Bool, true, false, ◌||◌, List, [], ◌∷◌, Option, Some, None, All, IsSomeAnd, refl, ap, sym, ◌∙◌, ◌⊎◌, inl, inr}
use Rattle.std.specs.List.{AllByRecursion, slice_get}
use Rattle.std.proofs.lemmas.Bool.{false≢true}
use Rattle.std.proofs.lemmas.List.Elements.{All-weaker, recursion_from_All}
use Rattle.farm_types.specs.declared.slot_row.Frame.{Frame}
use Rattle.farm_types.specs.declared.slot_row.SlotRow.{SlotRow}
use Rattle.farm_types.specs.declared.states.FrameState.{FrameState}
use Rattle.farm_types.specs.declared.states.FrameState.TheVariants as frame_state
use Rattle.farm_types.specs.Booking.{is_waiting}
use Rattle.farm_types.specs.Depends.{is_done, is_done_state}
use Rattle.farm_types.specs.Farm.{changed_at, for_some}
use Rattle.farm_types.specs.Settle.{blocked_row, in_state, is_blocked}
use Rattle.farm_types.proofs.Changed.{changed_at_other, places}
use Rattle.depend_law.proofs.Among.{each_weaker}
use Rattle.depend_law.proofs.Shapes.{SameFrames, frames_then}
use Rattle.farm_depends.specs.declared.follow.Follow.{Follow}
use Rattle.farm_depends.specs.Follow.{IsMovable, change_of, is_moved, put_blocked, put_opened, slots_after}
use Rattle.farm_depends.proofs.MovingLemmas.Movable.{movable_blocked, movable_opened, movable_put_opened}
use Rattle.farm_depends.proofs.MovingLemmas.PutSlots.{blocked_stand, opened_stand}

moved_state : (state : FrameState) → (is_waiting state || is_blocked state) ≡ true → is_done_state state ≡ false
moved_state frame_state.Succeeded moved = absurd (false≢true moved)
moved_state frame_state.Eaten moved = absurd (false≢true moved)
moved_state other moved = refl

moved_frame : (frame : Option Frame) → for_some frame (λ x. is_waiting x.state || is_blocked x.state) ≡ true → for_some frame (λ x. is_done_state x.state) ≡ false
moved_frame None moved = refl
moved_frame (Some x) moved = moved_state x.state moved

moved_slot : (o : Option SlotRow) → IsSomeAnd o (λ s. (is_moved s ≡ true) × (s.proc ≡ None)) → for_some o (λ (s : SlotRow). for_some s.frame (λ x. is_done_state x.state)) ≡ false
moved_slot None moved = refl
moved_slot (Some s) moved = moved_frame s.frame moved.0

-- a frame that waits or is blocked isn't done
not_done : (slots : List SlotRow) (k : ℕ) → IsMovable slots k → is_done slots k ≡ false
not_done slots k moved = moved_slot (slice_get slots k) moved

module _ (change : SlotRow → SlotRow) (slots : List SlotRow) (n : ℕ) (before : IsMovable slots n) (after : IsMovable (changed_at slots n change) n) where
  done_by : (k : ℕ) → (k ≡ n) ⊎ (k ≢ n) → is_done (changed_at slots n change) k ≡ is_done slots k
  done_by k (inl e) = ap (is_done (changed_at slots n change)) e ∙ (not_done (changed_at slots n change) n after ∙ sym (ap (is_done slots) e ∙ not_done slots n before))
  done_by k (inr apart) = ap (λ (o : Option SlotRow). for_some o (λ (s : SlotRow). for_some s.frame (λ x. is_done_state x.state))) (changed_at_other slots n k change apart)

opened_done : (list : List ℕ) (slots : List SlotRow) → AllByRecursion (IsMovable slots) list → (k : ℕ) → is_done (put_opened list slots) k ≡ is_done slots k
opened_done [] slots moved k = refl
opened_done (n ∷ ns) slots moved k =
    let next = changed_at slots n (in_state frame_state.Waiting) in
    opened_done ns next (each_weaker (IsMovable slots) (IsMovable next) (movable_opened slots n) ns moved.1) k
    ∙ done_by (in_state frame_state.Waiting) slots n moved.0 (movable_opened slots n n moved.0) k (places k n)

blocked_done : (raises : Bool) (list : List ℕ) (slots : List SlotRow) → AllByRecursion (IsMovable slots) list → (k : ℕ) → is_done (put_blocked raises list slots) k ≡ is_done slots k
blocked_done raises [] slots moved k = refl
blocked_done raises (n ∷ ns) slots moved k =
    let next = changed_at slots n (blocked_row (change_of raises)) in
    blocked_done raises ns next (each_weaker (IsMovable slots) (IsMovable next) (movable_blocked (change_of raises) slots n) ns moved.1) k
    ∙ done_by (blocked_row (change_of raises)) slots n moved.0 (movable_blocked (change_of raises) slots n n moved.0) k (places k n)

-- what opens or is blocked wasn't done, and isn't
pub follow_done : (slots : List SlotRow) (w : Follow) → All (IsMovable slots) w.opened → All (IsMovable slots) w.blocked → (k : ℕ) → is_done (slots_after slots w) k ≡ is_done slots k
follow_done slots w opened blocked k =
    let mid = put_opened w.opened slots in
    let still = All-weaker (IsMovable slots) (IsMovable mid) (movable_put_opened w.opened slots) w.blocked blocked in
    blocked_done w.raises w.blocked mid (recursion_from_All (IsMovable mid) w.blocked still) k
    ∙ opened_done w.opened slots (recursion_from_All (IsMovable slots) w.opened opened) k

-- frames stay at their places
pub follow_stand : (slots : List SlotRow) (w : Follow) → SameFrames slots (slots_after slots w)
follow_stand slots w =
    let mid = put_opened w.opened slots in
    frames_then slots mid (slots_after slots w) (opened_stand w.opened slots) (blocked_stand w.raises w.blocked mid)
