-- What becomes of slots: which frames are done, blocked and active, that is waiting or running, before and after.
use Rattle.std.proofs.Common.{◌≡◌, ◌≢◌, ℕ, Bool, true, false, cond, ◌||◌, List, map, Option, Some, None, refl, sym, subst, ◌⊎◌, inl, inr, option_map}
use Rattle.std.specs.List.{slice_get}
use Rattle.std.proofs.lemmas.Bool.{false≢true}
use Rattle.std.proofs.lemmas.Option.{none-some, slice_get-map}
use Rattle.farm_types.specs.declared.attempt.ProcRow.{ProcRow}
use Rattle.farm_types.specs.declared.slot_row.Frame.{Frame}
use Rattle.farm_types.specs.declared.slot_row.SlotRow.{SlotRow}
use Rattle.farm_types.specs.declared.states.FrameState.{FrameState}
use Rattle.farm_types.specs.declared.states.FrameState.TheVariants.{Waiting, Setup, Running, Succeeded, Depend, Dead, Eaten}
use Rattle.farm_types.specs.Booking.{is_waiting}
use Rattle.farm_types.specs.DependActs.{is_running}
use Rattle.farm_types.specs.Depends.{is_done_state}
use Rattle.farm_types.specs.Farm.{changed_at, for_some}
use Rattle.farm_types.specs.Lost.{lose_on, lost_row, runs_on}
use Rattle.farm_types.specs.Run.{HasItsAttempt}
use Rattle.farm_types.specs.Settle.{is_blocked}
use Rattle.farm_types.proofs.Changed.{changed_at_other, changed_at_same, places}
use Rattle.farm_types.proofs.Lists.{for_some_true}
use Rattle.farm_law.proofs.RunningFrames.{state_runs}

-- what a test says of the state of the frame that there is
abbrev pub on_frame : (FrameState → Bool) → Option Frame → Bool
on_frame test o = for_some o (λ x. test x.state)

abbrev pub on_slot : (FrameState → Bool) → Option SlotRow → Bool
on_slot test o = for_some o (λ s. on_frame test s.frame)

abbrev pub is_active : FrameState → Bool
is_active state = is_waiting state || is_running state

-- What is done stays so, and nothing else is; and only what was blocked or active is.
pub record Turns (o n : Option SlotRow) : Type 0 where
  pub done : on_slot is_done_state n ≡ on_slot is_done_state o
  pub blocked : on_slot is_blocked n ≡ true → on_slot is_blocked o ≡ true
  pub active : on_slot is_active n ≡ true → on_slot is_active o ≡ true

pub turns_same : (o : Option SlotRow) → Turns o o
turns_same o = record { done = refl; blocked = λ h. h; active = λ h. h }

turns_as : (o n p q : Option SlotRow) → o ≡ p → n ≡ q → Turns p q → Turns o n
turns_as o n p q first second h = subst (λ (x : Option SlotRow). Turns x n) (sym first) (subst (λ (x : Option SlotRow). Turns p x) (sym second) h)

-- ---- lists

mapped_turn : (change : SlotRow → SlotRow) (o : Option SlotRow) → ((s : SlotRow) → o ≡ Some s → Turns (Some s) (Some (change s))) → Turns o (option_map change o)
mapped_turn change None each = turns_same None
mapped_turn change (Some s) each = each s refl

-- each slot changed
pub turns_map : (change : SlotRow → SlotRow) (slots : List SlotRow) (slot : ℕ) → ((s : SlotRow) → slice_get slots slot ≡ Some s → Turns (Some s) (Some (change s))) → Turns (slice_get slots slot) (slice_get (map change slots) slot)
turns_map change slots slot each =
    subst (λ (n : Option SlotRow). Turns (slice_get slots slot) n) (sym (slice_get-map change slots slot)) (mapped_turn change (slice_get slots slot) each)

-- one slot changed
pub turns_changed : (slots : List SlotRow) (i : ℕ) (change : SlotRow → SlotRow) (s : SlotRow) → slice_get slots i ≡ Some s → Turns (Some s) (Some (change s)) → (slot : ℕ) → Turns (slice_get slots slot) (slice_get (changed_at slots i change) slot)
turns_changed slots i change s at turn slot = by_place (places slot i)
  where
    by_place : (slot ≡ i) ⊎ (slot ≢ i) → Turns (slice_get slots slot) (slice_get (changed_at slots i change) slot)
    by_place (inl e) =
        turns_as (slice_get slots slot) (slice_get (changed_at slots i change) slot) (Some s) (Some (change s))
        (subst (λ (k : ℕ). slice_get slots k ≡ Some s) (sym e) at)
        (subst (λ (k : ℕ). slice_get (changed_at slots i change) k ≡ Some (change s)) (sym e) (changed_at_same slots i change s at)) turn
    by_place (inr apart) =
        subst (λ (n : Option SlotRow). Turns (slice_get slots slot) n) (sym (changed_at_other slots i slot change apart)) (turns_same (slice_get slots slot))

-- ---- lost attempts

-- a frame that has an attempt runs
pub runs_frame : (place version : ℕ) (frame : Option Frame) (proc : Option ProcRow) (p : ProcRow) → proc ≡ Some p → HasItsAttempt place version frame proc → on_frame is_running frame ≡ true
runs_frame place version frame None p is h = absurd (none-some p is)
runs_frame place version None (Some q) p is h = absurd h
runs_frame place version (Some x) (Some q) p is h = (state_runs place version x.state q h).0

not_done : (state : FrameState) → is_running state ≡ true → (is_done_state state ≡ false) × (is_active state ≡ true)
not_done Running h = (refl, refl)
not_done Waiting h = absurd (false≢true h)
not_done Setup h = absurd (false≢true h)
not_done Succeeded h = absurd (false≢true h)
not_done Depend h = absurd (false≢true h)
not_done Dead h = absurd (false≢true h)
not_done Eaten h = absurd (false≢true h)

-- a running frame is active
pub running_active : (frame : Option Frame) → on_frame is_running frame ≡ true → on_frame is_active frame ≡ true
running_active None h = absurd (false≢true h)
running_active (Some x) h = (not_done x.state h).1

-- a running frame that waits again
waits_again : (frame : Option Frame) → on_frame is_running frame ≡ true
    → (on_frame is_done_state (option_map (λ (x : Frame). record x { state = Waiting }) frame) ≡ on_frame is_done_state frame)
    × (on_frame is_blocked (option_map (λ (x : Frame). record x { state = Waiting }) frame) ≡ true → on_frame is_blocked frame ≡ true)
waits_again None h = absurd (false≢true h)
waits_again (Some x) h = (sym (not_done x.state h).0, λ b. absurd (false≢true b))

lost_turn : (s : SlotRow) → on_frame is_running s.frame ≡ true → Turns (Some s) (Some (lost_row s))
lost_turn s h = let w = waits_again s.frame h in record { done = w.0; blocked = w.1; active = λ _. running_active s.frame h }

lose_turn : (test : ℕ → Bool) (slot : ℕ) (s : SlotRow) (b : Bool) → runs_on test s ≡ b → HasItsAttempt slot s.version s.frame s.proc → Turns (Some s) (Some (cond b (lost_row s) s))
lose_turn test slot s false is has = turns_same (Some s)
lose_turn test slot s true is has =
    let p = for_some_true s.proc (λ (q : ProcRow). test q.host) is in
    lost_turn s (runs_frame slot s.version s.frame s.proc p.0 p.1 has)

-- the frames of lost attempts wait
pub turns_lost : (test : ℕ → Bool) (slots : List SlotRow) → ((i : ℕ) (s : SlotRow) → slice_get slots i ≡ Some s → HasItsAttempt i s.version s.frame s.proc) → (slot : ℕ) → Turns (slice_get slots slot) (slice_get (lose_on test slots) slot)
turns_lost test slots attempts slot =
    turns_map (λ (s : SlotRow). cond (runs_on test s) (lost_row s) s) slots slot (λ s at. lose_turn test slot s (runs_on test s) refl (attempts slot s at))
