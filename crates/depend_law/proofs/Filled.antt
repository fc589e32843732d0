-- Slots that a new job fills: each stays as it was, or had no frame and has one that waits. Frames of other jobs are found where they were.
use Rattle.std.proofs.Common.{◌≡◌, ℕ, suc, zero, ◌+◌, Bool, true, false, cond, eqb, not, List, [], ◌∷◌, map, Option, Some, None, ℤ, refl, sym, ap, ◌∙◌, ◌⊎◌, inl, inr}
use Rattle.std.specs.Prelude.{is_none, is_some}
use Rattle.std.specs.List.{list_all, slice_get}
use Rattle.std.specs.Cmp.Derive.{both_true}
use Rattle.std.proofs.lemmas.Bool.{false≢true}
use Rattle.std.proofs.lemmas.List.Folds.{list_all-append}
use Rattle.farm_types.specs.declared.job.LayerSpec.{LayerSpec}
use Rattle.farm_types.specs.declared.slot_row.Frame.{Frame}
use Rattle.farm_types.specs.declared.slot_row.SlotRow.{SlotRow}
use Rattle.farm_types.specs.declared.states.FrameState.{FrameState}
use Rattle.farm_types.specs.declared.states.FrameState.TheVariants.{Waiting, Setup, Running, Succeeded, Depend, Dead, Eaten}
use Rattle.farm_types.specs.Booking.{is_waiting}
use Rattle.farm_types.specs.Depends.{is_done_state}
use Rattle.farm_types.specs.Farm.{for_some, is_placed, slot_from}
use Rattle.farm_types.specs.Jobs.{frames_from, frames_of, fresh_slot, is_free, place_frames, slot_with}
use Rattle.farm_types.specs.Settle.{is_blocked}
use Rattle.farm_types.proofs.Lists.{and_both}
use Rattle.farm_law.proofs.Placed.{free_none, waits}
use Rattle.depend_law.proofs.Turns.{on_frame, on_slot}

-- ---- slots that are filled

-- there is a frame
abbrev pub has_frame : Option SlotRow → Bool
has_frame o = for_some o (λ (s : SlotRow). is_some s.frame)

-- A slot stays as it was, or had no frame and has one that waits.
abbrev pub Fills : Option SlotRow → Option SlotRow → Type 0
Fills o n = (n ≡ o) ⊎ ((has_frame o ≡ false) × (on_slot is_waiting n ≡ true))

empty_frame : (frame : Option Frame) → is_none frame ≡ true → is_some frame ≡ false
empty_frame None h = refl
empty_frame (Some x) h = absurd (false≢true h)

fresh_fills : (xs : List Frame) → list_all waits xs ≡ true → (slot : ℕ) → Fills None (slice_get (map fresh_slot xs) slot)
fresh_fills [] all slot = inl refl
fresh_fills (x ∷ xs) all zero = inr (refl, (and_both (waits x) (list_all waits xs) all).0)
fresh_fills (x ∷ xs) all (suc slot) = fresh_fills xs (and_both (waits x) (list_all waits xs) all).1 slot

fills_first : (y : SlotRow) (ys : List SlotRow) (x : Frame) (xs : List Frame) (b : Bool) → is_free y ≡ b → waits x ≡ true → ((slot : ℕ) → Fills (slice_get ys slot) (slice_get (place_frames ys xs) slot))
    → ((slot : ℕ) → Fills (slice_get ys slot) (slice_get (place_frames ys (x ∷ xs)) slot))
    → (slot : ℕ) → Fills (slice_get (y ∷ ys) slot) (slice_get (cond b (slot_with x y ∷ place_frames ys xs) (y ∷ place_frames ys (x ∷ xs))) slot)
fills_first y ys x xs true free w used kept zero = inr (empty_frame y.frame (free_none y free), w)
fills_first y ys x xs true free w used kept (suc slot) = used slot
fills_first y ys x xs false free w used kept zero = inl refl
fills_first y ys x xs false free w used kept (suc slot) = kept slot

pub placed_fills : (ss : List SlotRow) (xs : List Frame) → list_all waits xs ≡ true → (slot : ℕ) → Fills (slice_get ss slot) (slice_get (place_frames ss xs) slot)
placed_fills [] xs all slot = fresh_fills xs all slot
placed_fills (y ∷ ys) [] all slot = inl refl
placed_fills (y ∷ ys) (x ∷ xs) all slot =
    fills_first y ys x xs (is_free y) refl (and_both (waits x) (list_all waits xs) all).0
    (placed_fills ys xs (and_both (waits x) (list_all waits xs) all).1) (placed_fills ys (x ∷ xs) all) slot

empty_fails : (test : FrameState → Bool) (frame : Option Frame) → is_some frame ≡ false → on_frame test frame ≡ false
empty_fails test None h = refl
empty_fails test (Some x) h = absurd (false≢true (sym h))

-- a slot without a frame passes no test
pub none_fails : (test : FrameState → Bool) (o : Option SlotRow) → has_frame o ≡ false → on_slot test o ≡ false
none_fails test None h = refl
none_fails test (Some s) h = empty_fails test s.frame h

waiting_state : (state : FrameState) → is_waiting state ≡ true → (is_done_state state ≡ false) × (is_blocked state ≡ false)
waiting_state Waiting h = (refl, refl)
waiting_state Setup h = absurd (false≢true h)
waiting_state Running h = absurd (false≢true h)
waiting_state Succeeded h = absurd (false≢true h)
waiting_state Depend h = absurd (false≢true h)
waiting_state Dead h = absurd (false≢true h)
waiting_state Eaten h = absurd (false≢true h)

waiting_frame : (frame : Option Frame) → on_frame is_waiting frame ≡ true → (on_frame is_done_state frame ≡ false) × (on_frame is_blocked frame ≡ false)
waiting_frame None h = absurd (false≢true h)
waiting_frame (Some x) h = waiting_state x.state h

-- one that waits is neither done nor blocked
pub waiting_slot : (o : Option SlotRow) → on_slot is_waiting o ≡ true → (on_slot is_done_state o ≡ false) × (on_slot is_blocked o ≡ false)
waiting_slot None h = absurd (false≢true h)
waiting_slot (Some s) h = waiting_frame s.frame h

-- ---- frames of other jobs

-- no frame passes
abbrev NonePass : (Frame → Bool) → List Frame → Type 0
NonePass test xs = list_all (λ x. not (test x)) xs ≡ true

fails_by : (b : Bool) → not b ≡ true → b ≡ false
fails_by true h = absurd (false≢true h)
fails_by false h = refl

none_fresh : (test : Frame → Bool) (place : ℕ) (xs : List Frame) → NonePass test xs → slot_from place test (map fresh_slot xs) ≡ None
none_fresh test place [] none = refl
none_fresh test place (x ∷ xs) none =
    let both = and_both (not (test x)) (list_all (λ y. not (test y)) xs) none in
    ap (λ (b : Bool). cond b (Some place) (slot_from (place + 1) test (map fresh_slot xs))) (fails_by (test x) both.0) ∙ none_fresh test (place + 1) xs both.1

no_frame_fails : (test : Frame → Bool) (frame : Option Frame) → is_none frame ≡ true → for_some frame test ≡ false
no_frame_fails test None h = refl
no_frame_fails test (Some x) h = absurd (false≢true h)

found_first : (test : Frame → Bool) (place : ℕ) (y : SlotRow) (ys : List SlotRow) (x : Frame) (xs : List Frame) (b : Bool) → is_free y ≡ b → test x ≡ false
    → slot_from (place + 1) test (place_frames ys xs) ≡ slot_from (place + 1) test ys → slot_from (place + 1) test (place_frames ys (x ∷ xs)) ≡ slot_from (place + 1) test ys
    → slot_from place test (cond b (slot_with x y ∷ place_frames ys xs) (y ∷ place_frames ys (x ∷ xs))) ≡ slot_from place test (y ∷ ys)
found_first test place y ys x xs true free fails used kept =
    ap (λ (b : Bool). cond b (Some place) (slot_from (place + 1) test (place_frames ys xs))) fails
    ∙ (used ∙ sym (ap (λ (b : Bool). cond b (Some place) (slot_from (place + 1) test ys)) (no_frame_fails test y.frame (free_none y free))))
found_first test place y ys x xs false free fails used kept = ap (cond (for_some y.frame test) (Some place)) kept

-- what is found is found where it was
pub found_placed : (test : Frame → Bool) (place : ℕ) (ss : List SlotRow) (xs : List Frame) → NonePass test xs → slot_from place test (place_frames ss xs) ≡ slot_from place test ss
found_placed test place [] xs none = none_fresh test place xs none
found_placed test place (y ∷ ys) [] none = refl
found_placed test place (y ∷ ys) (x ∷ xs) none =
    let both = and_both (not (test x)) (list_all (λ z. not (test z)) xs) none in
    found_first test place y ys x xs (is_free y) refl (fails_by (test x) both.0) (found_placed test (place + 1) ys xs both.1) (found_placed test (place + 1) ys (x ∷ xs) none)

module _ (next job layer position : ℕ) (apart : eqb next job ≡ false) where
  from_apart : (place low : ℕ) (ns : List ℤ) → NonePass (is_placed job layer position) (frames_from next place low ns)
  from_apart place low [] = refl
  from_apart place low (n ∷ ns) = both_true (rw apart refl) (from_apart place (low + 1) ns)

  pub of_apart : (place : ℕ) (ls : List LayerSpec) → NonePass (is_placed job layer position) (frames_of next place ls)
  of_apart place [] = refl
  of_apart place (l ∷ ls) =
      list_all-append (λ x. not (is_placed job layer position x)) (frames_from next place 0 l.numbers) (frames_of next (place + 1) ls)
      ∙ both_true (from_apart place 0 l.numbers) (of_apart (place + 1) ls)
