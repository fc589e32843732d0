-- A job that finishes keeps what the farm keeps of depends.
use Rattle.std.proofs.Common.{◌≡◌, ℕ, suc, ◌+◌, Bool, true, false, cond, ◌&&◌, ◌||◌, not, eqb, List, [], ◌∷◌, map, Option, Some, None, refl, sym, ap, subst, ◌∙◌, arith, option_map}
use Rattle.std.specs.Cmp.Derive.{both_true}
use Rattle.std.specs.List.{list_all, list_any, slice_get}
use Rattle.std.specs.Option.{is_none}
use Rattle.std.proofs.lemmas.Bool.{eq-eqb, eqb-true, false≢true, ne_eqb, not-false, not-true, not_from_false, or_left, or_right}
use Rattle.std.proofs.lemmas.Option.{slice_get-map}
use Rattle.farm_types.specs.declared.depend.DependEnd.{DependEnd}
use Rattle.farm_types.specs.declared.depend.DependRow.{DependRow}
use Rattle.farm_types.specs.declared.depend.Group.{Group}
use Rattle.farm_types.specs.declared.rows.LayerRow.{LayerRow}
use Rattle.farm_types.specs.declared.slot_row.Frame.{Frame}
use Rattle.farm_types.specs.declared.slot_row.SlotRow.{SlotRow}
use Rattle.farm_types.specs.Depends.{groups_of, is_done, is_done_state, is_met, is_open, waits_in}
use Rattle.farm_types.specs.Farm.{Farm, for_some, is_placed, layers_of, slot_from}
use Rattle.farm_types.specs.Finish.{freed_row, is_frame_of, waits_by}
use Rattle.farm_types.specs.Kept.{KeepsDepends, KeepsRows, has_no_self_depend, has_part, is_end_there, is_formed_depend, is_kept_depend, is_of_pending}
use Rattle.farm_types.specs.Operators.{is_left_of}
use Rattle.farm_types.specs.Rising.{depend_key}
use Rattle.farm_types.specs.Settle.{is_blocked, is_met_now}
use Rattle.farm_types.specs.Booking.{is_waiting}
use Rattle.farm_types.specs.DependActs.{is_running, waits_for_itself}
use Rattle.farm_types.specs.Step.{finish_one}
use Rattle.farm_types.proofs.Changed.{mapped_each}
use Rattle.farm_types.proofs.Lists.{and_both, list_all-at, list_all-from_at}
use Rattle.farm_law.proofs.Filtered.{at_kept, fewer_kept, list_all-filter, rising-filter}
use Rattle.farm_law.proofs.Finished.{free_row}
use Rattle.farm_law.proofs.FinishedRows.{frame_other, layers_stay, not_placed, pending_still}
use Rattle.depend_law.proofs.JobDone.{other_target}
use Rattle.depend_law.proofs.NewJob.{ends_of, none_any, unmet_holds}
use Rattle.depend_law.proofs.Placed.{HoldsOf, holds_one}
use Rattle.depend_law.proofs.Shapes.{SameSlots, groups_by_shapes, shape_found}
use Rattle.depend_law.proofs.Stable.{SameGroups, is_open_in, left_same, list_all-same, marks_stay, open_in_satisfied, open_same, self_same}
use Rattle.depend_law.proofs.Without.{groups_without, left, left_without, met_stays, open_without, without}

-- ---- slots that are freed

module _ (job : ℕ) where
  place_step : (n layer position : ℕ) → eqb n job ≡ false → (s : SlotRow) (b : Bool) → is_frame_of job s ≡ b → for_some (cond b (free_row s) s).frame (is_placed n layer position) ≡ for_some s.frame (is_placed n layer position)
  place_step n layer position other s true is = sym (not_placed job [] n layer position other s.frame is)
  place_step n layer position other s false is = refl

  found_from : (n layer position place : ℕ) → eqb n job ≡ false → (slots : List SlotRow) → slot_from place (is_placed n layer position) (map (freed_row job) slots) ≡ slot_from place (is_placed n layer position) slots
  found_from n layer position place other [] = refl
  found_from n layer position place other (s ∷ ss) =
      ap (λ (b : Bool). cond b (Some place) (slot_from (place + 1) (is_placed n layer position) (map (freed_row job) ss))) (place_step n layer position other s (is_frame_of job s) refl)
      ∙ ap (cond (for_some s.frame (is_placed n layer position)) (Some place)) (found_from n layer position (place + 1) other ss)

  -- the frames of another job are found where they were
  slots_found : (n : ℕ) → eqb n job ≡ false → (slots : List SlotRow) → SameSlots slots (map (freed_row job) slots) n
  slots_found n other slots layer position = found_from n layer position 0 other slots

  -- a slot with a frame of another job stays
  held_stays : (n : ℕ) → eqb n job ≡ false → (slots : List SlotRow) (slot : ℕ) → HoldsOf slots n slot → slice_get (map (freed_row job) slots) slot ≡ slice_get slots slot
  held_stays n other slots slot h =
      let apart : eqb h.0.job job ≡ false = subst (λ (m : ℕ). eqb m job ≡ false) (sym h.2) other in
      let kept : is_frame_of job h.1.row ≡ false = ap (λ (o : Option Frame). for_some o (λ (x : Frame). eqb x.job job)) h.1.frame_is ∙ apart in
      let same : freed_row job h.1.row ≡ h.1.row = ap (λ (b : Bool). cond b (free_row h.1.row) h.1.row) kept in
      slice_get-map (freed_row job) slots slot ∙ (ap (option_map (freed_row job)) h.1.at ∙ (ap Some same ∙ sym h.1.at))

any_same : (p q : ℕ → Bool) (xs : List ℕ) → ((m x : ℕ) → slice_get xs m ≡ Some x → p x ≡ q x) → list_any p xs ≡ list_any q xs
any_same p q [] same = refl
any_same p q (x ∷ xs) same = ap (λ (b : Bool). b || list_any p xs) (same 0 x refl) ∙ ap (λ (b : Bool). q x || b) (any_same p q xs (λ m y at. same (suc m) y at))

group_same : (p q : ℕ → Bool) (xs : List ℕ) (any : Bool) → ((m x : ℕ) → slice_get xs m ≡ Some x → p x ≡ q x) → cond any (list_any p xs) (list_all p xs) ≡ cond any (list_any q xs) (list_all q xs)
group_same p q xs true same = any_same p q xs same
group_same p q xs false same = list_all-same p q xs same

-- ---- the farm with the job finished

module _ (f : Farm) (rows : KeepsRows f) (k : KeepsDepends f) (job : ℕ) (pending : is_of_pending f.jobs job ≡ true) (none_left : list_any (is_left_of job) f.slots ≡ false) where
  -- whether another job waits in the depend
  abbrev stays : DependRow → Bool
  stays d = not (waits_by job d)

  -- the farm without the depends in which the job waits, and then with the job finished
  abbrev fewer : Farm
  fewer = without f stays

  abbrev now : Farm
  now = finish_one job f

  -- both jobs of a depend that stays unsatisfied are others
  others : (n : ℕ) (d : DependRow) → slice_get (left f stays) n ≡ Some d → d.met_all ≡ false → (eqb d.waiter.job job ≡ false) × (eqb d.target.job job ≡ false)
  others n d at unmet =
      let was = at_kept stays f.depends n d at in
      (not-true (waits_by job d) was.2, other_target f rows k job none_left was.0 d was.1 unmet)

  pub groups_kept : (n : ℕ) (d : DependRow) → slice_get (left f stays) n ≡ Some d → d.met_all ≡ false → groups_of now d ≡ groups_of fewer d
  unfolding groups_of
  groups_kept n d at unmet =
      let other = others n d at unmet in
      groups_by_shapes f.layers now.layers f.slots now.slots d
      (shape_found f.layers now.layers f.slots now.slots d.waiter.job (layers_stay job f.layers d.waiter.job other.0) (slots_found job d.waiter.job other.0 f.slots))
      (shape_found f.layers now.layers f.slots now.slots d.target.job (layers_stay job f.layers d.target.job other.1) (slots_found job d.target.job other.1 f.slots))

  same : SameGroups fewer now
  same = record { depends = refl; met = refl; groups = groups_kept }

  pub fewer_groups : (d : DependRow) → groups_of fewer d ≡ groups_of f d
  unfolding groups_of
  fewer_groups d = refl

  -- the targets of those that stay are done as they were
  done_same : (n : ℕ) (d : DependRow) → slice_get (left f stays) n ≡ Some d → d.met_all ≡ false → (m : ℕ) (g : Group) → slice_get (groups_of fewer d) m ≡ Some g → is_met_now now d g ≡ is_met_now fewer d g
  done_same n d at unmet m g there =
      let was = at_kept stays f.depends n d at in
      let other = others n d at unmet in
      let holds = unmet_holds f rows k was.0 d was.1 unmet in
      let in_f : slice_get (groups_of f d) m ≡ Some g = subst (λ (gs : List Group). slice_get gs m ≡ Some g) (fewer_groups d) there in
      ap (λ (b : Bool). is_met fewer d g || b)
      (group_same (is_done now.slots) (is_done f.slots) g.targets g.any
      (λ i t here.
      ap (λ (o : Option SlotRow). for_some o (λ (s : SlotRow). for_some s.frame (λ x. is_done_state x.state)))
      (held_stays job d.target.job other.1 f.slots t ((holds.targets m g in_f).hold i t here))))

  -- ---- open frames

  -- a frame of another job waits in none of the depends that go
  waits_not : (slot : ℕ) (s : SlotRow) (x : Frame) → slice_get f.slots slot ≡ Some s → s.frame ≡ Some x → eqb x.job job ≡ false → (n : ℕ) (d : DependRow) → slice_get f.depends n ≡ Some d → stays d ≡ false → (b : Bool) → d.met_all ≡ b → is_open_in f slot d ≡ true
  waits_not slot s x at_s is_x other n d at goes true is = open_in_satisfied f slot d is
  waits_not slot s x at_s is_x other n d at goes false is =
      let holds = unmet_holds f rows k n d at is in
      let mine : d.waiter.job ≡ job = eqb-true d.waiter.job job (not-false (waits_by job d) goes) in
      list_all-from_at (λ g. is_met f d g || not (waits_in slot g)) (groups_of f d)
      (λ m g there.
      or_right (is_met f d g) (not (waits_in slot g))
      (not_from_false (waits_in slot g)
      (none_any (λ w. eqb w slot) g.waiters
      (λ i w here.
      ne_eqb w slot
      (λ e.
      let h : HoldsOf f.slots d.waiter.job slot = subst (HoldsOf f.slots d.waiter.job) e ((holds.waiters m g there).hold i w here) in
      let one = holds_one f.slots slot h.0 x h.1 (record { row = s; at = at_s; frame_is = is_x }) in
      false≢true (sym other ∙ eq-eqb x.job job (ap (λ (y : Frame). y.job) (sym one) ∙ (h.2 ∙ mine))))))))

  -- so that it is open as it was
  open_is : (slot : ℕ) (s : SlotRow) (x : Frame) → slice_get f.slots slot ≡ Some s → s.frame ≡ Some x → eqb x.job job ≡ false → is_open now slot ≡ is_open f slot
  open_is slot s x at_s is_x other =
      open_same fewer now same slot ∙ open_without f stays slot (λ n d at goes. waits_not slot s x at_s is_x other n d at goes d.met_all refl)

  -- what a test says of frames and whether they are open is false of each slot still
  module _ (test : Frame → Bool) (shut : Bool → Bool) (was : (slot : ℕ) (s : SlotRow) → slice_get f.slots slot ≡ Some s → (for_some s.frame test && shut (is_open f slot)) ≡ false) where
    slot_step : (slot : ℕ) (s : SlotRow) (b : Bool) (o : Option Frame) → is_frame_of job s ≡ b → s.frame ≡ o → slice_get f.slots slot ≡ Some s → (for_some (cond b (free_row s) s).frame test && shut (is_open now slot)) ≡ false
    slot_step slot s true o is is_o at = refl
    slot_step slot s false None is is_o at = ap (λ (p : Option Frame). for_some p test && shut (is_open now slot)) is_o
    slot_step slot s false (Some x) is is_o at =
        ap (λ (open_now : Bool). for_some s.frame test && shut open_now) (open_is slot s x at is_o (frame_other job s.frame x is is_o)) ∙ was slot s at

    each_slot : (slot : ℕ) (t : SlotRow) → slice_get now.slots slot ≡ Some t → (for_some t.frame test && shut (is_open now slot)) ≡ false
    each_slot =
        mapped_each (λ slot t. (for_some t.frame test && shut (is_open now slot)) ≡ false) f.slots (freed_row job) (λ slot s at. slot_step slot s (is_frame_of job s) s.frame refl refl at)

  -- ---- ends

  end_stays : (e : DependEnd) → eqb e.job job ≡ false → is_end_there f e ≡ true → is_end_there now e ≡ true
  end_stays e other there =
      let parts = and_both (is_of_pending f.jobs e.job) (has_part (layers_of f.layers e.job) e.layer e.frame) there in
      both_true (pending_still job f.slots f.next_finish f.jobs e.job other parts.0)
      (ap (λ (ls : List LayerRow). has_part ls e.layer e.frame) (layers_stay job f.layers e.job other) ∙ parts.1)

  depend_stays : (n : ℕ) (d : DependRow) → slice_get (left f stays) n ≡ Some d → (b : Bool) → d.met_all ≡ b → is_kept_depend f d ≡ true → is_kept_depend now d ≡ true
  depend_stays n d at true is kept =
      let was = at_kept stays f.depends n d at in
      let waits = (and_both (is_end_there f d.waiter) (d.met_all || is_end_there f d.target) kept).0 in
      both_true (end_stays d.waiter (not-true (waits_by job d) was.2) waits) (or_left d.met_all (is_end_there now d.target) is)
  depend_stays n d at false is kept =
      let ends = ends_of f d kept is in
      let other = others n d at is in
      both_true (end_stays d.waiter other.0 ends.0) (or_right d.met_all (is_end_there now d.target) (end_stays d.target other.1 ends.1))

  fewer_selfs : list_all (has_no_self_depend fewer) (left f stays) ≡ true
  fewer_selfs =
      ap (λ (groups : DependRow → List Group). list_all (λ (d : DependRow). d.met_all || is_none (waits_for_itself (groups d))) (left f stays)) (groups_without f stays)
      ∙ list_all-filter (has_no_self_depend f) stays f.depends k.no_self_depends

  pub finish_keeps : KeepsDepends now
  finish_keeps =
      record {
        next_within = k.next_within;
        rise = rising-filter depend_key stays 1 f.depends f.next_depend k.rise;
        count = omega (arith, fewer_kept stays f.depends, k.count);
        groups_within = omega (arith, left_same fewer now same, left_without f stays, k.groups_within);
        formed = list_all-filter is_formed_depend stays f.depends k.formed;
        ends_there =
            list_all-from_at (is_kept_depend now) (left f stays)
            (λ n d at. let was = at_kept stays f.depends n d at in depend_stays n d at d.met_all refl (list_all-at (is_kept_depend f) f.depends was.0 d k.ends_there was.1));
        no_self_depends = self_same fewer now same ∙ fewer_selfs;
        met = marks_stay fewer now same done_same (met_stays f stays f.next_depend k.rise k.met);
        blocked = each_slot (λ x. is_blocked x.state) (λ b. b) k.blocked;
        free_to_run = each_slot (λ x. is_waiting x.state || is_running x.state) not k.free_to_run;
      }
