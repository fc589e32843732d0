-- What an act leaves of depends, and what of it the farm keeps.
use Rattle.std.proofs.Common.{◌≡◌, ℕ, ◌+◌, ◌≤◌, Bool, true, false, ◌&&◌, not, List, length, Option, Some, None, refl, sym, ap, subst, ◌∙◌, arith, ◌⊎◌, inl, inr}
use Rattle.std.specs.List.{list_all, slice_get}
use Rattle.std.proofs.lemmas.Bool.{false≢true, or_left, or_right}
use Rattle.farm_types.specs.declared.depend.DependRow.{DependRow}
use Rattle.farm_types.specs.declared.rows.JobRow.{JobRow}
use Rattle.farm_types.specs.declared.rows.LayerRow.{LayerRow}
use Rattle.farm_types.specs.declared.slot_row.Frame.{Frame}
use Rattle.farm_types.specs.declared.slot_row.SlotRow.{SlotRow}
use Rattle.farm_types.specs.declared.states.FrameState.{FrameState}
use Rattle.farm_types.specs.Booking.{is_waiting}
use Rattle.farm_types.specs.DependActs.{is_running}
use Rattle.farm_types.specs.Depends.{is_done_state, is_open}
use Rattle.farm_types.specs.Farm.{Farm}
use Rattle.farm_types.specs.Kept.{KeepsDepends, has_no_self_depend, is_formed_depend, is_kept_depend}
use Rattle.farm_types.specs.Rising.{IsRising, depend_key}
use Rattle.farm_types.specs.Settle.{is_blocked}
use Rattle.farm_types.specs.declared.limits.TheConstants.{LAST_DEPEND, MOST_DEPENDS}
use Rattle.farm_types.proofs.Lists.{for_some_true, list_all-at, list_all-from_at}
use Rattle.depend_law.specs.Unsettled.{Unsettled, WaitingOpen}
use Rattle.depend_law.proofs.Shapes.{SameFrames, frames_same}
use Rattle.depend_law.proofs.Stable.{SameGroups, left_same, met_stays, open_same, same_groups, same_groups_then, self_same}
use Rattle.depend_law.proofs.Turns.{Turns, is_active, on_frame, on_slot, turns_same}

-- Depends stay with their groups and ends, and a frame is active only where one was, or where it is open.
pub record Carries (f g : Farm) : Type 0 where
  pub same : SameGroups f g
  pub next : g.next_depend ≡ f.next_depend
  pub ends : (n : ℕ) (d : DependRow) → slice_get f.depends n ≡ Some d → is_kept_depend f d ≡ true → is_kept_depend g d ≡ true
  pub active : (slot : ℕ) → on_slot is_active (slice_get g.slots slot) ≡ true → (on_slot is_active (slice_get f.slots slot) ≡ true) ⊎ (is_open f slot ≡ true)

-- and what is done stays so, nothing else is, and only what was blocked is
pub record CarriesAll (f g : Farm) : Type 0 where
  pub carries : Carries f g
  pub done : (slot : ℕ) → on_slot is_done_state (slice_get g.slots slot) ≡ on_slot is_done_state (slice_get f.slots slot)
  pub blocked : (slot : ℕ) → on_slot is_blocked (slice_get g.slots slot) ≡ true → on_slot is_blocked (slice_get f.slots slot) ≡ true

-- ---- how they come

-- An act that leaves the farm's depends, jobs and layers, and changes slots one by one.
pub carries_turns : (f g : Farm) → g.depends ≡ f.depends → g.met ≡ f.met → g.next_depend ≡ f.next_depend → g.jobs ≡ f.jobs → g.layers ≡ f.layers → SameFrames f.slots g.slots
    → ((slot : ℕ) → on_slot is_active (slice_get g.slots slot) ≡ true → on_slot is_active (slice_get f.slots slot) ≡ true) → Carries f g
carries_turns f g depends met next jobs layers frames active =
    record {
      same = same_groups f g depends met layers frames;
      next = next;
      ends = λ n d at there.
          let by_jobs : is_kept_depend g d ≡ is_kept_depend (record g { jobs = f.jobs }) d = ap (λ (js : List JobRow). is_kept_depend (record g { jobs = js }) d) jobs in
          let by_layers : is_kept_depend (record g { jobs = f.jobs }) d ≡ is_kept_depend f d = ap (λ (ls : List LayerRow). is_kept_depend (record f { layers = ls }) d) layers in
          by_jobs ∙ (by_layers ∙ there);
      active = λ slot h. inl (active slot h);
    }

pub all_turns : (f g : Farm) → g.depends ≡ f.depends → g.met ≡ f.met → g.next_depend ≡ f.next_depend → g.jobs ≡ f.jobs → g.layers ≡ f.layers → SameFrames f.slots g.slots
    → ((slot : ℕ) → Turns (slice_get f.slots slot) (slice_get g.slots slot)) → CarriesAll f g
all_turns f g depends met next jobs layers frames turns =
    record {
      carries = carries_turns f g depends met next jobs layers frames (λ slot. (turns slot).active);
      done = λ slot. (turns slot).done;
      blocked = λ slot. (turns slot).blocked;
    }

-- An act that leaves all that depends speak of.
pub all_same : (f g : Farm) → g.depends ≡ f.depends → g.met ≡ f.met → g.next_depend ≡ f.next_depend → g.jobs ≡ f.jobs → g.layers ≡ f.layers → g.slots ≡ f.slots → CarriesAll f g
all_same f g depends met next jobs layers slots =
    all_turns f g depends met next jobs layers (subst (SameFrames f.slots) (sym slots) (frames_same f.slots))
    (λ slot. subst (λ (rows : List SlotRow). Turns (slice_get f.slots slot) (slice_get rows slot)) (sym slots) (turns_same (slice_get f.slots slot)))

-- one after the other
pub carries_then : (f g k : Farm) → Carries f g → Carries g k → Carries f k
carries_then f g k first second =
    record {
      same = same_groups_then f g k first.same second.same;
      next = second.next ∙ first.next;
      ends = λ n d at there. second.ends n d (ap (λ (ds : List DependRow). slice_get ds n) first.same.depends ∙ at) (first.ends n d at there);
      active = λ slot h. joined slot (second.active slot h);
    }
  where
    joined : (slot : ℕ) → (on_slot is_active (slice_get g.slots slot) ≡ true) ⊎ (is_open g slot ≡ true) → (on_slot is_active (slice_get f.slots slot) ≡ true) ⊎ (is_open f slot ≡ true)
    joined slot (inl h) = first.active slot h
    joined slot (inr open_now) = inr (sym (open_same f g first.same slot) ∙ open_now)

-- ---- what the farm keeps

-- a test that isn't passed beside one that is
right_false : (a b : Bool) → a ≡ true → (a && b) ≡ false → b ≡ false
right_false true b is h = h
right_false false b is h = absurd (false≢true is)

and_false : (a b : Bool) → (a ≡ true → b ≡ false) → (a && b) ≡ false
and_false true b h = h refl
and_false false b h = refl

is_true : (b : Bool) → not b ≡ false → b ≡ true
is_true true h = refl
is_true false h = absurd (false≢true (sym h))

not_true : (b : Bool) → b ≡ true → not b ≡ false
not_true b h = rw h refl

waiting_active : (frame : Option Frame) → on_frame is_waiting frame ≡ true → on_frame is_active frame ≡ true
waiting_active None h = h
waiting_active (Some x) h = or_left (is_waiting x.state) (is_running x.state) h

running_is_active : (frame : Option Frame) → on_frame is_running frame ≡ true → on_frame is_active frame ≡ true
running_is_active None h = h
running_is_active (Some x) h = or_right (is_waiting x.state) (is_running x.state) h

-- what a test says of the slot at a place
at_slot : (test : FrameState → Bool) (slots : List SlotRow) (slot : ℕ) (s : SlotRow) → slice_get slots slot ≡ Some s → on_slot test (slice_get slots slot) ≡ on_frame test s.frame
at_slot test slots slot s at = ap (on_slot test) at

running_slot : (o : Option SlotRow) → on_slot is_running o ≡ true → on_slot is_active o ≡ true
running_slot None h = h
running_slot (Some s) h = running_is_active s.frame h

module _ (f : Farm) (k : KeepsDepends f) where
  -- a frame that was active is open
  was_open : (slot : ℕ) → on_slot is_active (slice_get f.slots slot) ≡ true → is_open f slot ≡ true
  was_open slot h =
      let s = for_some_true (slice_get f.slots slot) (λ (t : SlotRow). on_frame is_active t.frame) h in
      is_true (is_open f slot) (right_false (on_frame is_active s.0.frame) (not (is_open f slot)) s.2 (k.free_to_run slot s.0 s.1))

  module _ (g : Farm) (same : SameGroups f g) where
    -- each frame that runs is open, where only what ran does
    pub running_free : ((slot : ℕ) → on_slot is_running (slice_get g.slots slot) ≡ true → on_slot is_running (slice_get f.slots slot) ≡ true)
        → (slot : ℕ) (s : SlotRow) → slice_get g.slots slot ≡ Some s → (on_frame is_running s.frame && not (is_open g slot)) ≡ false
    running_free ran slot s at =
        and_false (on_frame is_running s.frame) (not (is_open g slot))
        (λ h. not_true (is_open g slot) (open_same f g same slot ∙ was_open slot (running_slot (slice_get f.slots slot) (ran slot (at_slot is_running g.slots slot s at ∙ h)))))

    -- no blocked frame is open, where only what was blocked is
    pub blocked_shut : ((slot : ℕ) → on_slot is_blocked (slice_get g.slots slot) ≡ true → on_slot is_blocked (slice_get f.slots slot) ≡ true)
        → (slot : ℕ) (s : SlotRow) → slice_get g.slots slot ≡ Some s → (on_frame is_blocked s.frame && is_open g slot) ≡ false
    blocked_shut blocked slot s at = and_false (on_frame is_blocked s.frame) (is_open g slot) shut
      where
        shut : on_frame is_blocked s.frame ≡ true → is_open g slot ≡ false
        shut h =
            let old = for_some_true (slice_get f.slots slot) (λ (t : SlotRow). on_frame is_blocked t.frame) (blocked slot (at_slot is_blocked g.slots slot s at ∙ h)) in
            open_same f g same slot ∙ right_false (on_frame is_blocked old.0.frame) (is_open f slot) old.2 (k.blocked slot old.0 old.1)

module _ (f g : Farm) (k : KeepsDepends f) (c : Carries f g) where
  by_active : (slot : ℕ) → (on_slot is_active (slice_get f.slots slot) ≡ true) ⊎ (is_open f slot ≡ true) → is_open f slot ≡ true
  by_active slot (inl h) = was_open f k slot h
  by_active slot (inr now) = now

  -- a frame that is active is open
  pub active_open : (slot : ℕ) (s : SlotRow) → slice_get g.slots slot ≡ Some s → on_frame is_active s.frame ≡ true → is_open g slot ≡ true
  active_open slot s at h = open_same f g c.same slot ∙ by_active slot (c.active slot (at_slot is_active g.slots slot s at ∙ h))

  carried_rise : IsRising depend_key 1 g.depends g.next_depend
  carried_rise =
      subst (IsRising depend_key 1 g.depends) (sym c.next) (subst (λ (ds : List DependRow). IsRising depend_key 1 ds f.next_depend) (sym c.same.depends) k.rise)

  carried_count : length g.depends ≤ MOST_DEPENDS
  carried_count = subst (λ (ds : List DependRow). length ds ≤ MOST_DEPENDS) (sym c.same.depends) k.count

  carried_next : g.next_depend ≤ LAST_DEPEND + 1
  carried_next = subst (λ (n : ℕ). n ≤ LAST_DEPEND + 1) (sym c.next) k.next_within

  carried_ends : list_all (is_kept_depend g) g.depends ≡ true
  carried_ends =
      ap (list_all (is_kept_depend g)) c.same.depends
      ∙ list_all-from_at (is_kept_depend g) f.depends (λ n d at. c.ends n d at (list_all-at (is_kept_depend f) f.depends n d k.ends_there at))

  carried_forms : list_all is_formed_depend g.depends ≡ true
  carried_forms = ap (list_all is_formed_depend) c.same.depends ∙ k.formed

  carried_selfs : list_all (has_no_self_depend g) g.depends ≡ true
  carried_selfs = self_same f g c.same ∙ k.no_self_depends

  -- what stands before anything is settled
  pub unsettled_by : Unsettled g
  unsettled_by =
      record {
        next_within = carried_next;
        rise = carried_rise;
        count = carried_count;
        groups_within = omega (arith, left_same f g c.same, k.groups_within);
        formed = carried_forms;
        ends_there = carried_ends;
        no_self_depends = carried_selfs;
        running_open = λ slot s at.
            and_false (on_frame is_running s.frame) (not (is_open g slot)) (λ h. not_true (is_open g slot) (active_open slot s at (running_is_active s.frame h)));
      }

  pub waiting_by : WaitingOpen g
  waiting_by slot s at =
      and_false (on_frame is_waiting s.frame) (not (is_open g slot)) (λ h. not_true (is_open g slot) (active_open slot s at (waiting_active s.frame h)))

module _ (f g : Farm) (k : KeepsDepends f) (c : CarriesAll f g) where
  -- the farm keeps its depends
  pub kept_by : KeepsDepends g
  kept_by =
      record {
        next_within = carried_next f g k c.carries;
        rise = carried_rise f g k c.carries;
        count = carried_count f g k c.carries;
        groups_within = omega (arith, left_same f g c.carries.same, k.groups_within);
        formed = carried_forms f g k c.carries;
        ends_there = carried_ends f g k c.carries;
        no_self_depends = carried_selfs f g k c.carries;
        met = met_stays f g c.carries.same c.done k.met;
        blocked = blocked_shut f k g c.carries.same c.blocked;
        free_to_run = λ slot s at.
            and_false (on_frame is_active s.frame) (not (is_open g slot)) (λ h. not_true (is_open g slot) (active_open f g k c.carries slot s at h));
      }
