-- Slots whose frames are put into another state: each keeps its attempt and all of its frame but the state, and those that have a frame without an
-- attempt that waits or is blocked stay so.
use Rattle.std.proofs.Common.{◌≡◌, ◌≢◌, ℕ, Bool, true, ◌||◌, List, [], ◌∷◌, Option, Some, None, IsSomeAnd, refl, sym, subst, ◌∙◌, ◌⊎◌, inl, inr, option_map}
use Rattle.std.specs.List.{AllZip, slice_get}
use Rattle.std.proofs.lemmas.Bool.{false≢true}
use Rattle.farm_types.specs.declared.slot_row.Frame.{Frame}
use Rattle.farm_types.specs.declared.slot_row.SlotRow.{SlotRow}
use Rattle.farm_types.specs.declared.states.FrameState.{FrameState}
use Rattle.farm_types.specs.declared.states.FrameState.TheVariants as frame_state
use Rattle.farm_types.specs.Booking.{is_waiting}
use Rattle.farm_types.specs.Farm.{changed_at, for_some}
use Rattle.farm_types.specs.Settle.{blocked_row, in_state, is_blocked}
use Rattle.farm_types.proofs.Changed.{changed_at_other, changed_at_same, places}
use Rattle.farm_law.proofs.KeptJobsZip.{zip_changed_at, zip_same, zip_then}
use Rattle.farm_depends.specs.Follow.{IsMovable, change_of, is_moved, put_blocked, put_opened}

-- ---- what is kept

-- the slot keeps its attempt, and its frame but for the state
pub record Moves (s t : SlotRow) : Type 0 where
  pub proc : t.proc ≡ s.proc
  pub frame : option_map (λ (x : Frame). record x { state = frame_state.Waiting }) t.frame ≡ option_map (λ (x : Frame). record x { state = frame_state.Waiting }) s.frame

moves_not : (s : SlotRow) → Moves s s
moves_not s = record { proc = refl; frame = refl }

moves_then : (s t u : SlotRow) → Moves s t → Moves t u → Moves s u
moves_then s t u first second = record { proc = second.proc ∙ first.proc; frame = second.frame ∙ first.frame }

state_apart : (state : FrameState) (o : Option Frame) → option_map (λ (x : Frame). record x { state = frame_state.Waiting }) (option_map (λ (x : Frame). record x { state = state }) o) ≡ option_map (λ (x : Frame). record x { state = frame_state.Waiting }) o
state_apart state None = refl
state_apart state (Some x) = refl

pub opened_keeps : (s : SlotRow) → Moves s (in_state frame_state.Waiting s)
opened_keeps s = record { proc = refl; frame = state_apart frame_state.Waiting s.frame }

pub blocked_keeps : (change : ℕ → ℕ) (s : SlotRow) → Moves s (blocked_row change s)
blocked_keeps change s = record { proc = refl; frame = state_apart frame_state.Depend s.frame }

-- each slot, where frames open
pub opened_moves : (list : List ℕ) (slots : List SlotRow) → AllZip Moves slots (put_opened list slots)
opened_moves [] slots = zip_same Moves moves_not slots
opened_moves (n ∷ ns) slots =
    let next = changed_at slots n (in_state frame_state.Waiting) in
    zip_then Moves moves_then slots next (put_opened ns next) (zip_changed_at Moves moves_not (in_state frame_state.Waiting) slots n (λ s at. opened_keeps s)) (opened_moves ns next)

-- and where they are blocked
pub blocked_moves : (raises : Bool) (list : List ℕ) (slots : List SlotRow) → AllZip Moves slots (put_blocked raises list slots)
blocked_moves raises [] slots = zip_same Moves moves_not slots
blocked_moves raises (n ∷ ns) slots =
    let next = changed_at slots n (blocked_row (change_of raises)) in
    zip_then Moves moves_then slots next (put_blocked raises ns next)
    (zip_changed_at Moves moves_not (blocked_row (change_of raises)) slots n (λ s at. blocked_keeps (change_of raises) s)) (blocked_moves raises ns next)

-- ---- slots without an attempt

there : {X : Type 0} (P : X → Type 0) (o : Option X) → IsSomeAnd o P → (x : X) × (o ≡ Some x) × P x
there P None h = absurd h
there P (Some x) h = (x, refl, h)

module _ (change : SlotRow → SlotRow) (moved : (s : SlotRow) → is_moved s ≡ true → is_moved (change s) ≡ true) (kept : (s : SlotRow) → (change s).proc ≡ s.proc) (slots : List SlotRow) (n k : ℕ) where
  by_place : (s : SlotRow) → slice_get slots k ≡ Some s → (is_moved s ≡ true) × (s.proc ≡ None) → (k ≡ n) ⊎ (k ≢ n) → IsMovable (changed_at slots n change) k
  by_place s at can (inl e) =
      subst (λ (o : Option SlotRow). IsSomeAnd o (λ t. (is_moved t ≡ true) × (t.proc ≡ None)))
      (sym (subst (λ (m : ℕ). slice_get (changed_at slots n change) m ≡ Some (change s)) (sym e) (changed_at_same slots n change s (subst (λ (m : ℕ). slice_get slots m ≡ Some s) e at))))
      (moved s can.0, kept s ∙ can.1)
  by_place s at can (inr apart) =
      subst (λ (o : Option SlotRow). IsSomeAnd o (λ t. (is_moved t ≡ true) × (t.proc ≡ None))) (sym (changed_at_other slots n k change apart ∙ at)) can

  one_movable : IsMovable slots k → IsMovable (changed_at slots n change) k
  one_movable h = let s = there (λ t. (is_moved t ≡ true) × (t.proc ≡ None)) (slice_get slots k) h in by_place s.0 s.1 s.2 (places k n)

waits_now : (o : Option Frame) → for_some o (λ x. is_waiting x.state || is_blocked x.state) ≡ true
    → for_some (option_map (λ (x : Frame). record x { state = frame_state.Waiting }) o) (λ x. is_waiting x.state || is_blocked x.state) ≡ true
waits_now None h = absurd (false≢true h)
waits_now (Some x) h = refl

blocked_now : (o : Option Frame) → for_some o (λ x. is_waiting x.state || is_blocked x.state) ≡ true
    → for_some (option_map (λ (x : Frame). record x { state = frame_state.Depend }) o) (λ x. is_waiting x.state || is_blocked x.state) ≡ true
blocked_now None h = absurd (false≢true h)
blocked_now (Some x) h = refl

-- after one frame opened or was blocked
pub movable_opened : (slots : List SlotRow) (n k : ℕ) → IsMovable slots k → IsMovable (changed_at slots n (in_state frame_state.Waiting)) k
movable_opened slots n k h = one_movable (in_state frame_state.Waiting) (λ s moved. waits_now s.frame moved) (λ s. refl) slots n k h

pub movable_blocked : (change : ℕ → ℕ) (slots : List SlotRow) (n k : ℕ) → IsMovable slots k → IsMovable (changed_at slots n (blocked_row change)) k
movable_blocked change slots n k h = one_movable (blocked_row change) (λ s moved. blocked_now s.frame moved) (λ s. refl) slots n k h

-- after all of a list
pub movable_put_opened : (list : List ℕ) (slots : List SlotRow) (k : ℕ) → IsMovable slots k → IsMovable (put_opened list slots) k
movable_put_opened [] slots k h = h
movable_put_opened (n ∷ ns) slots k h = movable_put_opened ns (changed_at slots n (in_state frame_state.Waiting)) k (movable_opened slots n k h)

pub movable_put_blocked : (raises : Bool) (list : List ℕ) (slots : List SlotRow) (k : ℕ) → IsMovable slots k → IsMovable (put_blocked raises list slots) k
movable_put_blocked raises [] slots k h = h
movable_put_blocked raises (n ∷ ns) slots k h =
    movable_put_blocked raises ns (changed_at slots n (blocked_row (change_of raises))) k (movable_blocked (change_of raises) slots n k h)
