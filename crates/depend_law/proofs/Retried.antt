-- A frame that is retried waits again: it may not be done any more, and nothing else of depends changes. So exactly what is met stays marked.
use Rattle.std.proofs.Common.{◌≡◌, ℕ, Bool, true, false, ◌||◌, List, Option, Some, None, refl, sym, ap, ◌∙◌, arith, option_map}
use Rattle.std.specs.List.{slice_get}
use Rattle.std.proofs.lemmas.Option.{same_Some, slice_get-map}
use Rattle.farm_types.specs.declared.depend.DependRow.{DependRow}
use Rattle.farm_types.specs.declared.depend.Group.{Group}
use Rattle.farm_types.specs.declared.entry.FramePlace.{FramePlace}
use Rattle.farm_types.specs.declared.slot_row.Frame.{Frame}
use Rattle.farm_types.specs.declared.slot_row.SlotRow.{SlotRow}
use Rattle.farm_types.specs.declared.states.FrameState.{FrameState}
use Rattle.farm_types.specs.declared.states.FrameState.TheVariants.{Waiting}
use Rattle.farm_types.specs.DependActs.{is_running}
use Rattle.farm_types.specs.Depends.{are_done, groups_of, is_done, is_done_state, is_met}
use Rattle.farm_types.specs.Farm.{Farm, changed_at}
use Rattle.farm_types.specs.Kept.{KeepsDepends}
use Rattle.farm_types.specs.Operators.{retried_row, slot_named, with_frame, with_row_at}
use Rattle.farm_types.specs.Settle.{is_blocked, is_met_now, settled_row, with_met}
use Rattle.depend_law.proofs.Carries.{blocked_shut, running_free}
use Rattle.depend_law.proofs.Fewer.{are_done_more}
use Rattle.depend_law.proofs.MetAgain.{met_is}
use Rattle.depend_law.proofs.Settled.{Settled}
use Rattle.depend_law.proofs.Shapes.{SameFrames, SamePlace, changed_frames, frame_stays, frames_same}
use Rattle.depend_law.proofs.Stable.{SameGroups, left_same, marks_stay, met_same, same_groups, self_same}
use Rattle.depend_law.proofs.Stops.{changed_passed}
use Rattle.depend_law.proofs.Turns.{on_frame, on_slot}

-- ---- marks

-- where a mark says all, fewer that are done change nothing
marked_alike : (met fewer done : Bool) → (fewer ≡ true → done ≡ true) → (met || done) ≡ met → (met || fewer) ≡ (met || done)
marked_alike true fewer done more marked = refl
marked_alike false true done more marked = sym (more refl)
marked_alike false false done more marked = sym marked

module _ (f : Farm) (k : KeepsDepends f) where
  -- a depend is settled
  row_kept : (n : ℕ) (d : DependRow) → slice_get f.depends n ≡ Some d → settled_row f d ≡ d
  row_kept n d at =
      same_Some (settled_row f d) d
      (sym (slice_get-map (settled_row f) f.depends n ∙ ap (option_map (settled_row f)) at) ∙ (ap (λ (h : Farm). slice_get h.depends n) k.met ∙ at))

  -- exactly what is met is marked, where the depend isn't satisfied
  marked_now : (n : ℕ) (d : DependRow) → slice_get f.depends n ≡ Some d → d.met_all ≡ false → (i : ℕ) (b : Group) → slice_get (groups_of f d) i ≡ Some b → is_met_now f d b ≡ is_met f d b
  marked_now n d at unmet i b there =
      let row = row_kept n d at in
      let again : is_met (with_met f) (settled_row f d) b ≡ ((settled_row f d).met_all || is_met_now f d b) = met_is f f.next_depend k.rise n d at i b there in
      sym
      (ap (λ (h : Farm). is_met h d b) (sym k.met)
      ∙ (ap (λ (e : DependRow). is_met (with_met f) e b) (sym row)
      ∙ (again
      ∙ (ap (λ (e : DependRow). e.met_all || is_met_now f d b) row
      ∙ ap (λ (all : Bool). all || is_met_now f d b) unmet))))

  -- and stays so where no more is done
  pub met_less : (g : Farm) → SameGroups f g → ((slot : ℕ) → is_done g.slots slot ≡ true → is_done f.slots slot ≡ true) → with_met g ≡ g
  met_less g same less =
      marks_stay f g same
      (λ n d at unmet i b there.
      ap (λ (met : Bool). met || are_done (is_done g.slots) b) (met_same f g same d b)
      ∙ marked_alike (is_met f d b) (are_done (is_done g.slots) b) (are_done (is_done f.slots) b) (are_done_more (is_done g.slots) (is_done f.slots) b less) (marked_now n d at unmet i b there))
      k.met

-- ---- the frame that is retried

-- a state that doesn't pass the test, whatever the retries
again_other : (test : FrameState → Bool) → test Waiting ≡ false → (frame : Option Frame) → on_frame test (option_map (λ (x : Frame). record x { state = Waiting; retries = 0 }) frame) ≡ false
again_other test fails None = refl
again_other test fails (Some x) = fails

pub again_stays : (s : SlotRow) → SamePlace s (retried_row s)
again_stays s = frame_stays (λ (x : Frame). record x { state = Waiting; retries = 0 }) (λ x job layer position. refl) s.frame

module _ (f : Farm) (k : KeepsDepends f) where
  -- frames stay where they are, and wait or are as they were
  module _ (slots : List SlotRow) (frames : SameFrames f.slots slots) (only : (test : FrameState → Bool) → test Waiting ≡ false → (n : ℕ) → on_slot test (slice_get slots n) ≡ true → on_slot test (slice_get f.slots n) ≡ true) where
    abbrev again : Farm
    again = record f { slots = slots }

    again_same : SameGroups f again
    again_same = same_groups f again refl refl refl frames

    again_settled : Settled again
    again_settled =
        record {
          next_within = k.next_within;
          rise = k.rise;
          count = k.count;
          groups_within = omega (arith, left_same f again again_same, k.groups_within);
          formed = k.formed;
          ends_there = k.ends_there;
          no_self_depends = self_same f again again_same ∙ k.no_self_depends;
          met = met_less f k again again_same (only is_done_state refl);
          blocked = blocked_shut f k again again_same (only is_blocked refl);
          running_open = running_free f k again again_same (only is_running refl);
        }

  pub again_leaves : (o : Option ℕ) → Settled (with_row_at f retried_row o)
  again_leaves None = again_settled f.slots (frames_same f.slots) (λ test fails n h. h)
  again_leaves (Some slot) =
      again_settled (changed_at f.slots slot retried_row) (changed_frames retried_row again_stays f.slots slot)
      (λ test fails. changed_passed test retried_row (λ s. again_other test fails s.frame) f.slots slot)

  -- before what follows of it
  pub retry_leaves : (p : FramePlace) → Settled (with_frame f p retried_row)
  retry_leaves p = again_leaves (slot_named f p)
