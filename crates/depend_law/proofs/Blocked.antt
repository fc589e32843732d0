-- A settled farm keeps all once each frame is blocked that waits and isn't open.
use Rattle.std.proofs.Common.{◌≡◌, ℕ, Bool, true, false, cond, ◌&&◌, ◌||◌, not, refl, ap, subst, ◌∙◌, arith}
use Rattle.std.proofs.lemmas.Bool.{and_left, and_right, not-true}
use Rattle.farm_types.specs.declared.slot_row.SlotRow.{SlotRow}
use Rattle.farm_types.specs.declared.states.FrameState.TheVariants as frame_state
use Rattle.farm_types.specs.Booking.{is_waiting}
use Rattle.farm_types.specs.DependActs.{is_running}
use Rattle.farm_types.specs.Depends.{is_open}
use Rattle.farm_types.specs.Farm.{Farm}
use Rattle.farm_types.specs.Kept.{KeepsDepends, runs_unmet}
use Rattle.farm_types.specs.Settle.{blocked_from, blocked_row, blocks, is_blocked, opens, settle, with_blocked}
use Rattle.depend_law.proofs.Opened.{blocked_done, blocked_slot}
use Rattle.depend_law.proofs.Shapes.{blocked_frames}
use Rattle.depend_law.proofs.Stable.{SameGroups, left_same, met_stays, open_same, same_groups, self_same}
use Rattle.depend_law.proofs.Turns.{on_frame}
use Rattle.depend_law.specs.Unsettled.{Unsettled}
use Rattle.farm_types.proofs.Lists.{and_both}
use Rattle.depend_law.proofs.Settled.{Settled, for_either, in_other_state, settle_settles}

module _ (change : ℕ → ℕ) (f : Farm) where
  abbrev stopped : Farm
  stopped = record f { slots = blocked_from change f 0 f.slots }

  block_makes : stopped ≡ with_blocked change f
  unfolding with_blocked
  block_makes = refl

  stopped_same : SameGroups f stopped
  stopped_same = same_groups f stopped refl refl refl (blocked_frames change f 0 f.slots)

  stopped_open : (slot : ℕ) → is_open stopped slot ≡ is_open f slot
  stopped_open = open_same f stopped stopped_same

  stays_open : (state : Bool) (slot : ℕ) → (state && not (is_open f slot)) ≡ false → (state && not (is_open stopped slot)) ≡ false
  stays_open state slot h = ap (λ (b : Bool). state && not b) (stopped_open slot) ∙ h

  -- a blocked frame isn't open
  stopped_row : (slot : ℕ) (old : SlotRow) (b : Bool) → blocks f slot old ≡ b → opens f slot old ≡ false → opens stopped slot (cond b (blocked_row change old) old) ≡ false
  stopped_row slot old true is shut = and_right _ _ (stopped_open slot ∙ not-true (is_open f slot) (and_both (on_frame is_waiting old.frame) (not (is_open f slot)) is).1)
  stopped_row slot old false is shut = ap (λ (b : Bool). on_frame is_blocked old.frame && b) (stopped_open slot) ∙ shut

  -- each frame that still waits or runs is
  free_row : (slot : ℕ) (old : SlotRow) (b : Bool) → blocks f slot old ≡ b → (on_frame is_running old.frame && not (is_open f slot)) ≡ false → runs_unmet stopped slot (cond b (blocked_row change old) old) ≡ false
  free_row slot old true is running = and_left _ _ (in_other_state (λ state. is_waiting state || is_running state) frame_state.Depend refl old.frame)
  free_row slot old false is running = for_either old.frame (not (is_open stopped slot)) (stays_open (on_frame is_waiting old.frame) slot is) (stays_open (on_frame is_running old.frame) slot running)

  pub blocks_keep : Settled f → KeepsDepends (with_blocked change f)
  blocks_keep k =
      subst KeepsDepends block_makes
      (record {
        next_within = k.next_within;
        rise = k.rise;
        count = k.count;
        groups_within = omega (arith, left_same f stopped stopped_same, k.groups_within);
        formed = k.formed;
        ends_there = k.ends_there;
        no_self_depends = self_same f stopped stopped_same ∙ k.no_self_depends;
        met = met_stays f stopped stopped_same (blocked_done change f 0 f.slots) k.met;
        blocked = λ slot s at.
            let old = blocked_slot change f f.slots slot s at in
            subst (λ x. opens stopped slot x ≡ false) old.2 (stopped_row slot old.0 (blocks f slot old.0) refl (k.blocked slot old.0 old.1));
        free_to_run = λ slot s at.
            let old = blocked_slot change f f.slots slot s at in
            subst (λ x. runs_unmet stopped slot x ≡ false) old.2 (free_row slot old.0 (blocks f slot old.0) refl (k.running_open slot old.0 old.1));
      })

-- a farm that is settled, where frames that wait and aren't open are blocked
pub block_keeps : (change : ℕ → ℕ) (f : Farm) → Unsettled f → KeepsDepends (with_blocked change (settle f))
block_keeps change f k = blocks_keep change (settle f) (settle_settles f k)
