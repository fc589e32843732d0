-- Frames that open once others are done.
use Rattle.std.proofs.Common.{◌≡◌, ℕ, true, false, ◌||◌, List, [], Option, Some, None, All, eqb, IsSomeAnd, refl, sym, ap, subst, ◌∙◌}
use Rattle.std.specs.List.{filter, slice_get}
use Rattle.std.proofs.lemmas.Bool.{false≢true, or_right}
use Rattle.std.proofs.lemmas.List.Elements.{All-weaker, filter_passes}
use Rattle.farm_types.specs.declared.attempt.ProcRow.{ProcRow}
use Rattle.farm_types.specs.declared.slot_row.Frame.{Frame}
use Rattle.farm_types.specs.declared.slot_row.SlotRow.{SlotRow}
use Rattle.farm_types.specs.declared.states.FrameState.{FrameState}
use Rattle.farm_types.specs.declared.states.FrameState.TheVariants as frame_state
use Rattle.farm_types.specs.Booking.{is_waiting}
use Rattle.farm_types.specs.Depends.{is_open}
use Rattle.farm_types.specs.Farm.{Farm, for_some}
use Rattle.farm_types.specs.Run.{HasItsAttempt, IsAttemptOf, IsSound}
use Rattle.farm_types.specs.Settle.{is_blocked, opened_from, opens, settle, with_met}
use Rattle.farm_types.proofs.Lists.{for_some_true}
use Rattle.depend_graph.specs.Graph.{GraphLists, opened_between, unmet_of, with_all_done}
use Rattle.depend_book.specs.Book.{DependLists, all_done_in, joined}
use Rattle.farm_depends.specs.declared.follow.Follow.{Follow}
use Rattle.farm_depends.specs.Follow.{IsMovable, after_follow, is_listed, is_moved, put_blocked, put_opened, with_all, without}
use Rattle.farm_depends.proofs.CompletionLemmas.Completed.{Completes, completed_book, completed_farm, completed_fits, completed_graph}
use Rattle.farm_depends.proofs.CompletionLemmas.Listed.{blocked_waits, listed_opens}
use Rattle.depend_book.proofs.OpenUnmet.{open_unmet}
use Rattle.farm_depends.proofs.MovingLemmas.PutSlots.{opened_list}
pub use Rattle.farm_depends.proofs.CompletionLemmas.Listed.{blocked_in}

-- the blocked frames that wait in no unmet group once these are done
abbrev pub opening : Farm → DependLists → List ℕ → List ℕ
opening f b done = filter (blocked_in f.slots) (opened_between b.graph.depends (with_all_done b.graph done).depends)

-- ---- blocked frames

no_attempt : (place version : ℕ) (state : FrameState) (proc : Option ProcRow) → is_blocked state ≡ true → IsAttemptOf place version state proc → proc ≡ None
no_attempt place version frame_state.Depend None is a = refl
no_attempt place version frame_state.Depend (Some p) is a = absurd a
no_attempt place version other proc is a = absurd (false≢true is)

blocked_free : (f : Farm) → IsSound f → (slot : ℕ) → blocked_in f.slots slot ≡ true → IsMovable f.slots slot
blocked_free f sound slot h =
    let s = for_some_true (slice_get f.slots slot) (λ (t : SlotRow). for_some t.frame (λ x. is_blocked x.state)) h in
    let x = for_some_true s.0.frame (λ (y : Frame). is_blocked y.state) s.2 in
    let has : HasItsAttempt slot s.0.version (Some x.0) s.0.proc = subst (λ (o : Option Frame). HasItsAttempt slot s.0.version o s.0.proc) x.1 (sound.attempts slot s.0 s.1) in
    let moved : is_moved s.0 ≡ true = ap (λ (o : Option Frame). for_some o (λ y. is_waiting y.state || is_blocked y.state)) x.1 ∙ or_right (is_waiting x.0.state) (is_blocked x.0.state) x.2 in
    subst (λ (o : Option SlotRow). IsSomeAnd o (λ t. (is_moved t ≡ true) × (t.proc ≡ None))) (sym s.1) (moved, no_attempt slot s.0.version x.0.state s.0.proc x.2 has)

-- a blocked frame has no attempt
pub blocked_movable : (f : Farm) → IsSound f → (list : List ℕ) → All (IsMovable f.slots) (filter (blocked_in f.slots) list)
blocked_movable f sound list =
    All-weaker (λ slot. blocked_in f.slots slot ≡ true) (IsMovable f.slots) (blocked_free f sound) (filter (blocked_in f.slots) list) (filter_passes (blocked_in f.slots) list)

-- ---- settled farms

-- with the frames opened that open, the farm is settled
pub settled_by : (f : Farm) (slots : List SlotRow) → slots ≡ opened_from (with_met f) 0 f.slots → record (with_met f) { slots = slots } ≡ settle f
unfolding settle
settled_by f slots same = ap (λ (ss : List SlotRow). record (with_met f) { slots = ss }) same

-- what follows where no depend comes, and no frame is blocked
pub only_opened : (f : Farm) (w : Follow) (drop : Option ℕ) (opened : List ℕ) → w.depends ≡ [] → w.dropped ≡ drop → w.blocked ≡ [] → w.opened ≡ opened
    → after_follow f w ≡ record (with_met (without f drop)) { slots = put_opened opened f.slots }
only_opened f w drop opened depends dropped blocked listed =
    λ i. record (with_met (without (with_all f (depends i)) (dropped i))) { slots = put_blocked w.raises (blocked i) (put_opened (listed i) f.slots) }

-- ---- frames that open

module _ (f0 f : Farm) (b : DependLists) (done : List ℕ) (c : Completes f0 f b done)
    (closed : (slot : ℕ) (s : SlotRow) → slice_get f0.slots slot ≡ Some s → opens (joined f0 b) slot s ≡ false)
    (before : (slot : ℕ) → blocked_in f.slots slot ≡ true → blocked_in f0.slots slot ≡ true) where
  open_then : (slot : ℕ) → is_open (with_met (joined f b)) slot ≡ eqb (unmet_of (with_all_done b.graph done).depends slot) 0
  open_then slot =
      ap (λ (k : Farm). is_open k slot) (sym (completed_farm f0 f b done c))
      ∙ (open_unmet f (all_done_in b done) (completed_book f0 f b done c) (completed_fits f0 f b done c) slot
      ∙ ap (λ (g : GraphLists). eqb (unmet_of g.depends slot) 0) (completed_graph f0 f b done c))

  -- they are those that open
  pub opening_listed : (slot : ℕ) (s : SlotRow) → slice_get f.slots slot ≡ Some s → is_listed (opening f b done) slot ≡ opens (with_met (joined f b)) slot s
  opening_listed =
      listed_opens f.slots b.graph.depends (with_all_done b.graph done).depends (with_met (joined f b))
      (λ slot h. blocked_waits f0 b c.book c.fits closed slot (before slot h)) open_then c.slots

  -- opened, they leave the farm settled
  pub opening_farm : (w : Follow) → w.depends ≡ [] → w.dropped ≡ None → w.blocked ≡ [] → w.opened ≡ opening f b done → after_follow (joined f b) w ≡ settle (joined f b)
  opening_farm w depends dropped blocked opened =
      only_opened (joined f b) w None (opening f b done) depends dropped blocked opened
      ∙ settled_by (joined f b) (put_opened (opening f b done) f.slots) (opened_list (with_met (joined f b)) (opening f b done) f.slots opening_listed)
