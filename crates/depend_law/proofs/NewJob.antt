-- A job that is submitted keeps the farm's depends: its frames wait in slots that had none, so that no depend that was there speaks of them.
use Rattle.std.proofs.Common.{◌≡◌, ℕ, suc, ◌<◌, Bool, true, false, eqb, ◌||◌, not, List, [], ◌∷◌, ◌++◌, Option, Some, None, refl, sym, ap, subst, ◌∙◌, arith, append-nil, ◌⊎◌, inl, inr}
use Rattle.std.specs.Prelude.{is_some}
use Rattle.std.specs.List.{find, list_any, position_or_len, slice_get}
use Rattle.std.specs.Cmp.Derive.{both_true}
use Rattle.std.proofs.lemmas.Bool.{eqb-true, false≢true, ne_eqb, or_left, or_right}
use Rattle.std.proofs.lemmas.List.Elements.{filter-append}
use Rattle.std.proofs.lemmas.List.Folds.{find_at}
use Rattle.farm_types.specs.declared.depend.DependEnd.{DependEnd}
use Rattle.farm_types.specs.declared.depend.DependRow.{DependRow}
use Rattle.farm_types.specs.declared.depend.Group.{Group}
use Rattle.farm_types.specs.declared.job.JobSpec.{JobSpec}
use Rattle.farm_types.specs.declared.rows.JobRow.{JobRow}
use Rattle.farm_types.specs.declared.rows.LayerRow.{LayerRow}
use Rattle.farm_types.specs.declared.slot_row.SlotRow.{SlotRow}
use Rattle.farm_types.specs.Depends.{groups_of, is_done_state, is_met, is_open, waits_in}
use Rattle.farm_types.specs.Farm.{Farm, is_placed, layers_of}
use Rattle.farm_types.specs.Jobs.{frames_of, job_row, layer_rows}
use Rattle.farm_types.specs.Kept.{KeepsDepends, KeepsRows, has_part, is_end_there, is_kept_depend, is_of_pending, is_pending_job}
use Rattle.farm_types.specs.Rising.{job_key}
use Rattle.farm_types.specs.Settle.{is_blocked}
use Rattle.farm_types.specs.Step.{after_submit, limits_of}
use Rattle.farm_types.proofs.Lists.{and_both, for_some_true, found_is, list_all-at, list_all-from_at}
use Rattle.farm_law.proofs.KeptJobsLayers.{none_of_other}
use Rattle.farm_types.proofs.Passes.{for_some-there}
use Rattle.farm_law.proofs.KeptJobsLists.{rising_below}
use Rattle.farm_law.proofs.Placed.{added_jobs_stay, job_waits}
use Rattle.depend_law.proofs.Carries.{CarriesAll, kept_by}
use Rattle.depend_law.proofs.Placed.{HoldsOf}
use Rattle.depend_law.proofs.Shapes.{SameSlots, groups_by_shapes, shape_found}
use Rattle.depend_law.proofs.Stable.{is_open_in, open_in_satisfied}
use Rattle.depend_law.proofs.Turns.{is_active, on_slot}
use Rattle.depend_law.proofs.Waiters.{DependHolds, depend_holds, end_pending}
use Rattle.depend_law.proofs.Filled.{Fills, found_placed, has_frame, none_fails, of_apart, placed_fills, waiting_slot}

-- ---- who waits in a depend

pub none_any : {X : Type 0} (test : X → Bool) (xs : List X) → ((n : ℕ) (x : X) → slice_get xs n ≡ Some x → test x ≡ false) → list_any test xs ≡ false
none_any test [] fails = refl
none_any test (x ∷ xs) fails = ap (λ (b : Bool). b || list_any test xs) (fails 0 x refl) ∙ none_any test xs (λ n y at. fails (suc n) y at)

-- the ends of a depend that isn't satisfied
pub ends_of : (f : Farm) (d : DependRow) → is_kept_depend f d ≡ true → d.met_all ≡ false → (is_end_there f d.waiter ≡ true) × (is_end_there f d.target ≡ true)
ends_of f d kept unmet = and_both (is_end_there f d.waiter) (is_end_there f d.target) (rw unmet at kept)

module _ (f : Farm) (rows : KeepsRows f) (k : KeepsDepends f) where
  -- a depend that isn't satisfied has what its groups ask
  pub unmet_holds : (n : ℕ) (d : DependRow) → slice_get f.depends n ≡ Some d → d.met_all ≡ false → DependHolds f d (groups_of f d)
  unmet_holds n d at unmet =
      let ends = ends_of f d (list_all-at (is_kept_depend f) f.depends n d k.ends_there at) unmet in
      depend_holds f rows d ends.0 ends.1

  module _ (slot : ℕ) (empty : has_frame (slice_get f.slots slot) ≡ false) where
    holds_none : (job : ℕ) → HoldsOf f.slots job slot → ⊥
    holds_none job h =
        let row : has_frame (slice_get f.slots slot) ≡ is_some h.1.row.frame = ap has_frame h.1.at in
        false≢true (sym empty ∙ (row ∙ ap is_some h.1.frame_is))

    not_waiting : (d : DependRow) → DependHolds f d (groups_of f d) → (n : ℕ) (g : Group) → slice_get (groups_of f d) n ≡ Some g → waits_in slot g ≡ false
    not_waiting d holds n g at =
        none_any (λ w. eqb w slot) g.waiters
        (λ m w here. ne_eqb w slot (λ e. holds_none d.waiter.job (subst (HoldsOf f.slots d.waiter.job) e ((holds.waiters n g at).hold m w here))))

    open_in : (n : ℕ) (d : DependRow) → slice_get f.depends n ≡ Some d → (b : Bool) → d.met_all ≡ b → is_open_in f slot d ≡ true
    open_in n d at true is = open_in_satisfied f slot d is
    open_in n d at false is =
        list_all-from_at (λ g. is_met f d g || not (waits_in slot g)) (groups_of f d)
        (λ m g here. or_right (is_met f d g) (not (waits_in slot g)) (ap not (not_waiting d (unmet_holds n d at is) m g here)))

    -- a slot without a frame is open: nothing waits there
    pub empty_open : is_open f slot ≡ true
    empty_open = list_all-from_at (is_open_in f slot) f.depends (λ n d at. open_in n d at d.met_all refl)

  -- ---- the farm with the job

  -- a pending job was there before
  pub pending_before : (job : ℕ) → is_of_pending f.jobs job ≡ true → job < f.next_job
  pending_before job pending =
      let wanted : JobRow → Bool = λ (j : JobRow). eqb j.job job in
      let j = for_some_true (find wanted f.jobs) is_pending_job pending in
      let below = rising_below job_key 1 f.jobs f.next_job (position_or_len wanted f.jobs) j.0 rows.jobs.jobs_rise (sym (find_at wanted f.jobs) ∙ j.1) in
      let number : j.0.job ≡ job = eqb-true j.0.job job (found_is wanted f.jobs j.0 j.1) in
      omega (arith, below, number)

  module _ (spec : JobSpec) (show : ℕ) where
    abbrev with_it : Farm
    with_it = after_submit f spec (Some show)

    next_apart : (job : ℕ) → is_of_pending f.jobs job ≡ true → eqb f.next_job job ≡ false
    next_apart job pending = ne_eqb f.next_job job (λ e. absurd (omega (arith, e, pending_before job pending)))

    -- another job keeps its layers
    own_layers : (job : ℕ) → is_of_pending f.jobs job ≡ true → layers_of with_it.layers job ≡ layers_of f.layers job
    own_layers job pending =
        filter-append (λ (l : LayerRow). eqb l.job job) f.layers (layer_rows f.next_job (limits_of f.limits spec.layers) 0 spec.layers)
        ∙ (ap (λ (more : List LayerRow). layers_of f.layers job ++ more) (none_of_other f.next_job job (limits_of f.limits spec.layers) 0 spec.layers (next_apart job pending)) ∙ append-nil (layers_of f.layers job))

    own_slots : (job : ℕ) → is_of_pending f.jobs job ≡ true → SameSlots f.slots with_it.slots job
    own_slots job pending layer position =
        found_placed (is_placed job layer position) 0 f.slots (frames_of f.next_job 0 spec.layers) (of_apart f.next_job job layer position (next_apart job pending) 0 spec.layers)

    pub groups_kept : (n : ℕ) (d : DependRow) → slice_get f.depends n ≡ Some d → d.met_all ≡ false → groups_of with_it d ≡ groups_of f d
    unfolding groups_of
    groups_kept n d at unmet =
        let ends = ends_of f d (list_all-at (is_kept_depend f) f.depends n d k.ends_there at) unmet in
        let waits = end_pending f rows d.waiter ends.0 in
        let waited = end_pending f rows d.target ends.1 in
        groups_by_shapes f.layers with_it.layers f.slots with_it.slots d
        (shape_found f.layers with_it.layers f.slots with_it.slots d.waiter.job (own_layers d.waiter.job waits) (own_slots d.waiter.job waits))
        (shape_found f.layers with_it.layers f.slots with_it.slots d.target.job (own_layers d.target.job waited) (own_slots d.target.job waited))

    -- a pending job is so
    still_pending : (job : ℕ) → is_of_pending f.jobs job ≡ true → is_of_pending with_it.jobs job ≡ true
    still_pending job pending =
        let test = λ (j : JobRow). eqb j.job job in
        let old = for_some_true (find test f.jobs) is_pending_job pending in
        let now = added_jobs_stay f.jobs (job_row f.next_job show spec ∷ []) spec.name job old.0 old.1 old.2 in
        for_some-there (find test with_it.jobs) is_pending_job now.0 now.1 now.4

    -- an end that was there is
    end_stays : (e : DependEnd) → is_end_there f e ≡ true → is_end_there with_it e ≡ true
    end_stays e there =
        let parts = and_both (is_of_pending f.jobs e.job) (has_part (layers_of f.layers e.job) e.layer e.frame) there in
        both_true (still_pending e.job parts.0)
        (ap (λ (ls : List LayerRow). has_part ls e.layer e.frame) (own_layers e.job parts.0) ∙ parts.1)

    depend_stays : (d : DependRow) (b : Bool) → d.met_all ≡ b → is_kept_depend f d ≡ true → is_kept_depend with_it d ≡ true
    depend_stays d true is kept =
        let waits = (and_both (is_end_there f d.waiter) (d.met_all || is_end_there f d.target) kept).0 in
        both_true (end_stays d.waiter waits) (or_left d.met_all (is_end_there with_it d.target) is)
    depend_stays d false is kept =
        let ends = ends_of f d kept is in
        both_true (end_stays d.waiter ends.0) (or_right d.met_all (is_end_there with_it d.target) (end_stays d.target ends.1))

    fills : (slot : ℕ) → Fills (slice_get f.slots slot) (slice_get with_it.slots slot)
    fills slot = placed_fills f.slots (frames_of f.next_job 0 spec.layers) (job_waits f.next_job 0 spec.layers) slot

    filled_active : (slot : ℕ) (n : Option SlotRow) → Fills (slice_get f.slots slot) n → on_slot is_active n ≡ true → (on_slot is_active (slice_get f.slots slot) ≡ true) ⊎ (is_open f slot ≡ true)
    filled_active slot n (inl e) h = inl (ap (on_slot is_active) (sym e) ∙ h)
    filled_active slot n (inr new) h = inr (empty_open slot new.0)

    filled_done : (o n : Option SlotRow) → Fills o n → on_slot is_done_state n ≡ on_slot is_done_state o
    filled_done o n (inl e) = ap (on_slot is_done_state) e
    filled_done o n (inr new) = (waiting_slot n new.1).0 ∙ sym (none_fails is_done_state o new.0)

    filled_blocked : (o n : Option SlotRow) → Fills o n → on_slot is_blocked n ≡ true → on_slot is_blocked o ≡ true
    filled_blocked o n (inl e) h = ap (on_slot is_blocked) (sym e) ∙ h
    filled_blocked o n (inr new) h = absurd (false≢true (sym (waiting_slot n new.1).1 ∙ h))

    pub job_carries : CarriesAll f with_it
    job_carries =
        record {
          carries =
              record {
                same = record { depends = refl; met = refl; groups = groups_kept };
                next = refl;
                ends = λ n d at. depend_stays d d.met_all refl;
                active = λ slot. filled_active slot (slice_get with_it.slots slot) (fills slot);
              };
          done = λ slot. filled_done (slice_get f.slots slot) (slice_get with_it.slots slot) (fills slot);
          blocked = λ slot. filled_blocked (slice_get f.slots slot) (slice_get with_it.slots slot) (fills slot);
        }

  -- the farm with a job more
  pub submit_keeps : (spec : JobSpec) (o : Option ℕ) → KeepsDepends (after_submit f spec o)
  submit_keeps spec None = k
  submit_keeps spec (Some show) = kept_by f (after_submit f spec (Some show)) k (job_carries spec show)
