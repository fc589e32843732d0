-- A farm that is settled: what is met is marked, and no blocked frame is open.
use Rattle.std.proofs.Common.{◌≡◌, ◌≤◌, ℕ, suc, ◌+◌, Bool, true, false, cond, ◌&&◌, ◌||◌, not, List, [], ◌∷◌, map, length, Option, Some, None, refl, ap, sym, subst, ◌∙◌, arith, option_map}
use Rattle.std.specs.List.{list_all, slice_get}
use Rattle.std.specs.Option.{is_none}
use Rattle.std.proofs.lemmas.Bool.{and_left, and_right, not_from_true, true≢false}
use Rattle.std.proofs.lemmas.List.{length-map}
use Rattle.std.proofs.lemmas.List.Folds.{list_all-map}
use Rattle.farm_types.specs.declared.depend.DependRow.{DependRow}
use Rattle.farm_types.specs.declared.depend.Group.{Group}
use Rattle.farm_types.specs.declared.slot_row.Frame.{Frame}
use Rattle.farm_types.specs.declared.slot_row.SlotRow.{SlotRow}
use Rattle.farm_types.specs.declared.states.FrameState.{FrameState}
use Rattle.farm_types.specs.declared.states.FrameState.TheVariants as frame_state
use Rattle.farm_types.specs.declared.limits.TheConstants.{LAST_DEPEND, MOST_DEPENDS, MOST_GROUPS}
use Rattle.farm_types.specs.Booking.{is_waiting}
use Rattle.farm_types.specs.DependActs.{is_running, waits_for_itself}
use Rattle.farm_types.specs.Depends.{groups_left, groups_of, is_open}
use Rattle.farm_types.specs.Farm.{Farm, for_some}
use Rattle.farm_types.specs.Kept.{KeepsDepends, has_no_self_depend, is_end_there, is_formed_depend, is_kept_depend}
use Rattle.farm_types.specs.Rising.{IsRising, depend_key}
use Rattle.farm_types.specs.Settle.{in_state, is_blocked, is_met_now, opened_from, opens, settle, settled_row, with_met, with_opened}
use Rattle.depend_law.proofs.Fewer.{kept_more, left_less, rising-map, sum_by-map-less, there_more}
use Rattle.depend_law.proofs.MetAgain.{groups_met, met_again, open_met}
use Rattle.depend_law.proofs.Opened.{opened_done, opened_slot}
use Rattle.depend_law.proofs.Shapes.{opened_frames}
use Rattle.depend_law.proofs.Stable.{SameGroups, left_same, met_stays, open_same, same_groups, self_same}
use Rattle.depend_law.proofs.Turns.{on_frame}
use Rattle.depend_law.specs.Unsettled.{Unsettled, WaitingOpen}
use Rattle.farm_types.proofs.Lists.{and_both}
use Rattle.farm_law.proofs.KeptLists.{list_all-weaker}

-- What a settled farm keeps, whose frames may wait while they aren't open.
pub record Settled (f : Farm) : Type 0 where
  pub next_within : f.next_depend ≤ LAST_DEPEND + 1
  pub rise : IsRising depend_key 1 f.depends f.next_depend
  pub count : length f.depends ≤ MOST_DEPENDS
  pub groups_within : groups_left f ≤ MOST_GROUPS
  pub formed : list_all is_formed_depend f.depends ≡ true
  pub ends_there : list_all (is_kept_depend f) f.depends ≡ true
  pub no_self_depends : list_all (has_no_self_depend f) f.depends ≡ true
  pub met : with_met f ≡ f
  pub blocked : (slot : ℕ) (s : SlotRow) → slice_get f.slots slot ≡ Some s → opens f slot s ≡ false
  pub running_open : (slot : ℕ) (s : SlotRow) → slice_get f.slots slot ≡ Some s → (for_some s.frame (λ x. is_running x.state) && not (is_open f slot)) ≡ false

either_open : (waits runs unmet : Bool) → (waits && unmet) ≡ false → (runs && unmet) ≡ false → ((waits || runs) && unmet) ≡ false
either_open true runs unmet waiting running = waiting
either_open false runs unmet waiting running = running

pub for_either : (frame : Option Frame) (unmet : Bool) → (for_some frame (λ x. is_waiting x.state) && unmet) ≡ false → (for_some frame (λ x. is_running x.state) && unmet) ≡ false → (for_some frame (λ x. is_waiting x.state || is_running x.state) && unmet) ≡ false
for_either None unmet waiting running = refl
for_either (Some x) unmet waiting running = either_open (is_waiting x.state) (is_running x.state) unmet waiting running

-- where what waits is open too, all is kept
pub kept_settled : (f : Farm) → Settled f → WaitingOpen f → KeepsDepends f
kept_settled f k waiting =
    record {
      next_within = k.next_within;
      rise = k.rise;
      count = k.count;
      groups_within = k.groups_within;
      formed = k.formed;
      ends_there = k.ends_there;
      no_self_depends = k.no_self_depends;
      met = k.met;
      blocked = k.blocked;
      free_to_run = λ slot s at. for_either s.frame (not (is_open f slot)) (waiting slot s at) (k.running_open slot s at);
    }

-- ---- marks

module _ (f : Farm) (k : Unsettled f) where
  left_met : groups_left (with_met f) ≤ groups_left f
  left_met =
      sum_by-map-less (λ (d : DependRow). cond d.met_all 0 (length (groups_of (with_met f) d))) (λ (d : DependRow). cond d.met_all 0 (length (groups_of f d))) (settled_row f)
      (λ d. left_less d.met_all (list_all (is_met_now f d) (groups_of f d)) (length (groups_of (with_met f) (settled_row f d))) (length (groups_of f d)) (ap length (groups_met f d))) f.depends

  ends_met : list_all (is_kept_depend f) (map (settled_row f) f.depends) ≡ true
  ends_met =
      list_all-map (is_kept_depend f) (settled_row f) f.depends
      ∙ list_all-weaker (is_kept_depend f) (λ d. is_kept_depend f (settled_row f d))
      (λ d. there_more (is_end_there f d.waiter) d.met_all (list_all (is_met_now f d) (groups_of f d)) (is_end_there f d.target)) f.depends k.ends_there

  self_met : (d : DependRow) → has_no_self_depend f d ≡ true → has_no_self_depend (with_met f) (settled_row f d) ≡ true
  self_met d has =
      ap (λ (gs : List Group). (settled_row f d).met_all || is_none (waits_for_itself gs)) (groups_met f d)
      ∙ kept_more d.met_all (list_all (is_met_now f d) (groups_of f d)) (is_none (waits_for_itself (groups_of f d))) has

  selfs_met : list_all (has_no_self_depend (with_met f)) (map (settled_row f) f.depends) ≡ true
  selfs_met =
      list_all-map (has_no_self_depend (with_met f)) (settled_row f) f.depends
      ∙ list_all-weaker (has_no_self_depend f) (λ d. has_no_self_depend (with_met f) (settled_row f d)) self_met f.depends k.no_self_depends

  -- what is open stays open
  opens_more : (state slot_open more_open : Bool) → (slot_open ≡ true → more_open ≡ true) → (state && not slot_open) ≡ false → (state && not more_open) ≡ false
  opens_more true true more_open more h = not_from_true more_open (more refl)
  opens_more true false more_open more h = absurd (true≢false h)
  opens_more false slot_open more_open more h = refl

  still_open : (state : Bool) (slot : ℕ) → (state && not (is_open f slot)) ≡ false → (state && not (is_open (with_met f) slot)) ≡ false
  still_open state slot = opens_more state (is_open f slot) (is_open (with_met f) slot) (open_met f f.next_depend k.rise slot)

-- ---- opened frames

-- a frame in a state that doesn't pass the test
pub in_other_state : (test : FrameState → Bool) (state : FrameState) → test state ≡ false → (frame : Option Frame) → for_some (option_map (λ (x : Frame). record x { state = state }) frame) (λ x. test x.state) ≡ false
in_other_state test state fails None = refl
in_other_state test state fails (Some x) = fails

module _ (f : Farm) where
  abbrev settled : Farm
  settled = record (with_met f) { slots = opened_from (with_met f) 0 f.slots }

  settle_makes : settled ≡ settle f
  unfolding settle
  settle_makes = refl

  settled_same : SameGroups (with_met f) settled
  settled_same = same_groups (with_met f) settled refl refl refl (opened_frames (with_met f) 0 f.slots)

  settled_open : (slot : ℕ) → is_open settled slot ≡ is_open (with_met f) slot
  settled_open = open_same (with_met f) settled settled_same

  as_open : (state : Bool) (slot : ℕ) → (state && not (is_open (with_met f) slot)) ≡ false → (state && not (is_open settled slot)) ≡ false
  as_open state slot h = ap (λ (b : Bool). state && not b) (settled_open slot) ∙ h

  -- an opened frame isn't blocked, and each other one isn't open
  opened_blocked : (slot : ℕ) (old : SlotRow) (b : Bool) → opens (with_met f) slot old ≡ b → opens settled slot (cond b (in_state frame_state.Waiting old) old) ≡ false
  opened_blocked slot old true is = and_left _ _ (in_other_state is_blocked frame_state.Waiting refl old.frame)
  opened_blocked slot old false is = ap (λ (b : Bool). on_frame is_blocked old.frame && b) (settled_open slot) ∙ is

  -- no frame runs that didn't
  opened_running : (slot : ℕ) (old : SlotRow) (b : Bool) → (on_frame is_running old.frame && not (is_open (with_met f) slot)) ≡ false → (on_frame is_running (cond b (in_state frame_state.Waiting old) old).frame && not (is_open settled slot)) ≡ false
  opened_running slot old true open_old = and_left _ _ (in_other_state is_running frame_state.Waiting refl old.frame)
  opened_running slot old false open_old = as_open (on_frame is_running old.frame) slot open_old

  -- an opened frame is open
  opened_waiting : (slot : ℕ) (old : SlotRow) (b : Bool) → opens (with_met f) slot old ≡ b → (on_frame is_waiting old.frame && not (is_open (with_met f) slot)) ≡ false
      → (on_frame is_waiting (cond b (in_state frame_state.Waiting old) old).frame && not (is_open settled slot)) ≡ false
  opened_waiting slot old true is open_old = and_right _ _ (not_from_true (is_open settled slot) (settled_open slot ∙ (and_both (on_frame is_blocked old.frame) (is_open (with_met f) slot) is).1))
  opened_waiting slot old false is open_old = as_open (on_frame is_waiting old.frame) slot open_old

  module _ (k : Unsettled f) where
    settled_running : (slot : ℕ) (s : SlotRow) → slice_get settled.slots slot ≡ Some s → (on_frame is_running s.frame && not (is_open settled slot)) ≡ false
    settled_running slot s at =
        let old = opened_slot (with_met f) f.slots slot s at in
        subst (λ x. (on_frame is_running x.frame && not (is_open settled slot)) ≡ false) old.2
        (opened_running slot old.0 (opens (with_met f) slot old.0) (still_open f k (on_frame is_running old.0.frame) slot (k.running_open slot old.0 old.1)))

    settled_blocked : (slot : ℕ) (s : SlotRow) → slice_get settled.slots slot ≡ Some s → opens settled slot s ≡ false
    settled_blocked slot s at =
        let old = opened_slot (with_met f) f.slots slot s at in
        subst (λ x. opens settled slot x ≡ false) old.2 (opened_blocked slot old.0 (opens (with_met f) slot old.0) refl)

    settled_waiting : WaitingOpen f → (slot : ℕ) (s : SlotRow) → slice_get settled.slots slot ≡ Some s → (on_frame is_waiting s.frame && not (is_open settled slot)) ≡ false
    settled_waiting waiting slot s at =
        let old = opened_slot (with_met f) f.slots slot s at in
        subst (λ x. (on_frame is_waiting x.frame && not (is_open settled slot)) ≡ false) old.2
        (opened_waiting slot old.0 (opens (with_met f) slot old.0) refl (still_open f k (on_frame is_waiting old.0.frame) slot (waiting slot old.0 old.1)))

    is_settled : Settled settled
    is_settled =
        record {
          next_within = k.next_within;
          rise = rising-map depend_key (settled_row f) (λ d. refl) 1 f.depends f.next_depend k.rise;
          count = omega (arith, k.count, length-map f.depends (settled_row f));
          groups_within = omega (arith, left_same (with_met f) settled settled_same, left_met f k, k.groups_within);
          formed = list_all-map is_formed_depend (settled_row f) f.depends ∙ k.formed;
          ends_there = ends_met f k;
          no_self_depends = self_same (with_met f) settled settled_same ∙ selfs_met f k;
          met = met_stays (with_met f) settled settled_same (opened_done (with_met f) 0 f.slots) (met_again f f.next_depend k.rise);
          blocked = settled_blocked;
          running_open = settled_running;
        }

    pub settle_settles : Settled (settle f)
    settle_settles = subst Settled settle_makes is_settled

    -- a farm whose waiting frames are open, settled
    pub settle_keeps : WaitingOpen f → KeepsDepends (settle f)
    settle_keeps waiting = subst KeepsDepends settle_makes (kept_settled settled is_settled (settled_waiting waiting))

-- ---- what is settled stays

none_open : (f : Farm) (from : ℕ) (ss : List SlotRow) → ((slot : ℕ) (s : SlotRow) → slice_get ss slot ≡ Some s → opens f (from + slot) s ≡ false) → opened_from f from ss ≡ ss
none_open f from [] shut = refl
none_open f from (s ∷ ss) shut =
    let here : from + 0 ≡ from = omega arith in
    ap (λ (b : Bool). cond b (in_state frame_state.Waiting s) s ∷ opened_from f (from + 1) ss) (subst (λ (n : ℕ). opens f n s ≡ false) here (shut 0 s refl))
    ∙ ap (λ xs. s ∷ xs)
    (none_open f (from + 1) ss (λ slot x at.
    let next : from + suc slot ≡ from + 1 + slot = omega arith in
    subst (λ (n : ℕ). opens f n x ≡ false) next (shut (suc slot) x at)))

pub settled_is : (f : Farm) → KeepsDepends f → settle f ≡ f
settled_is f k =
    let shut = none_open f 0 f.slots (λ slot s at. let whole : slot ≡ 0 + slot = omega arith in subst (λ (n : ℕ). opens f n s ≡ false) whole (k.blocked slot s at)) in
    sym (settle_makes f) ∙ (ap with_opened k.met ∙ ap (λ xs. record f { slots = xs }) shut)
