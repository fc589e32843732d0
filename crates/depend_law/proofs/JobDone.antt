-- A job of which no frame is left: each depend that waits for it is satisfied.
use Rattle.std.proofs.Common.{◌≡◌, ◌≤◌, ℕ, Bool, true, false, cond, ◌&&◌, not, eqb, List, [], ◌∷◌, length, Option, Some, refl, sym, ap, subst, ◌∙◌, arith, option_map}
use Rattle.std.specs.List.{list_all, list_any, slice_get}
use Rattle.std.proofs.lemmas.Bool.{eq-eqb, false≢true, ne_eqb, or_left, or_right}
use Rattle.std.proofs.lemmas.Option.{same_Some, slice_get-map}
use Rattle.farm_types.specs.declared.depend.DependRow.{DependRow}
use Rattle.farm_types.specs.declared.slot_row.Frame.{Frame}
use Rattle.farm_types.specs.declared.slot_row.SlotRow.{SlotRow}
use Rattle.farm_types.specs.Depends.{are_done, groups_of, is_done, is_done_state, is_met}
use Rattle.farm_types.specs.Farm.{Farm, for_some}
use Rattle.farm_types.specs.Kept.{KeepsDepends, KeepsRows, is_kept_depend}
use Rattle.farm_types.specs.Operators.{is_left_of}
use Rattle.farm_types.specs.Settle.{is_met_now, settled_row}
use Rattle.farm_types.proofs.Lists.{list_all-at, list_all-from_at}
use Rattle.farm_types.proofs.Passes.{for_some-there}
use Rattle.farm_law.proofs.KeptJobsLists.{any_fails}
use Rattle.depend_law.proofs.Among.{each_at}
use Rattle.depend_law.proofs.NewJob.{ends_of, unmet_holds}
use Rattle.depend_law.proofs.Placed.{HoldsOf}
use Rattle.depend_law.proofs.Targets.{HasTarget, groups_targets}

done_by : (mine done : Bool) → mine ≡ true → (mine && not done) ≡ false → done ≡ true
done_by true true is h = refl
done_by true false is h = absurd (false≢true (sym h))
done_by false done is h = absurd (false≢true is)

-- all targets of a group are done, of which there is one
targets_done : (done : ℕ → Bool) (targets : List ℕ) (any : Bool) → 1 ≤ length targets → ((m t : ℕ) → slice_get targets m ≡ Some t → done t ≡ true) → cond any (list_any done targets) (list_all done targets) ≡ true
targets_done done [] any some each = absurd (omega (arith, some))
targets_done done (t ∷ ts) true some each = or_left (done t) (list_any done ts) (each 0 t refl)
targets_done done (t ∷ ts) false some each = list_all-from_at done (t ∷ ts) each

module _ (f : Farm) (rows : KeepsRows f) (k : KeepsDepends f) (job : ℕ) (none_left : list_any (is_left_of job) f.slots ≡ false) where
  -- each of its frames is done
  done_at : (slot : ℕ) → HoldsOf f.slots job slot → is_done f.slots slot ≡ true
  done_at slot h =
      let left : is_left_of job h.1.row ≡ false = any_fails (is_left_of job) f.slots slot h.1.row none_left h.1.at in
      let frame : (eqb h.0.job job && not (is_done_state h.0.state)) ≡ false =
      subst (λ (o : Option Frame). for_some o (λ (x : Frame). eqb x.job job && not (is_done_state x.state)) ≡ false) h.1.frame_is left in
      let mine : eqb h.0.job job ≡ true = eq-eqb h.0.job job h.2 in
      for_some-there (slice_get f.slots slot) (λ (s : SlotRow). for_some s.frame (λ x. is_done_state x.state)) h.1.row h.1.at
      (for_some-there h.1.row.frame (λ x. is_done_state x.state) h.0 h.1.frame_is (done_by (eqb h.0.job job) (is_done_state h.0.state) mine frame))

  settled_one : (n : ℕ) (d : DependRow) → slice_get f.depends n ≡ Some d → settled_row f d ≡ d
  settled_one n d at =
      same_Some (settled_row f d) d
      (sym (slice_get-map (settled_row f) f.depends n ∙ ap (option_map (settled_row f)) at) ∙ (ap (λ (g : Farm). slice_get g.depends n) k.met ∙ at))

  waits_not : (n : ℕ) (d : DependRow) → slice_get f.depends n ≡ Some d → d.met_all ≡ false → d.target.job ≡ job → ⊥
  waits_not n d at unmet same =
      let ends = ends_of f d (list_all-at (is_kept_depend f) f.depends n d k.ends_there at) unmet in
      let holds = unmet_holds f rows k n d at unmet in
      let targets = groups_targets f rows d ends.1 in
      let all : list_all (is_met_now f d) (groups_of f d) ≡ true =
      list_all-from_at (is_met_now f d) (groups_of f d)
      (λ m g there.
      or_right (is_met f d g) (are_done (is_done f.slots) g)
      (targets_done (is_done f.slots) g.targets g.any (each_at HasTarget (groups_of f d) m g targets there)
      (λ i t here. done_at t (subst (λ (j : ℕ). HoldsOf f.slots j t) same ((holds.targets m g there).hold i t here))))) in
      false≢true (sym unmet ∙ (sym (ap (λ (e : DependRow). e.met_all) (settled_one n d at)) ∙ or_right d.met_all (list_all (is_met_now f d) (groups_of f d)) all))

  -- a depend that isn't satisfied waits for another job
  pub other_target : (n : ℕ) (d : DependRow) → slice_get f.depends n ≡ Some d → d.met_all ≡ false → eqb d.target.job job ≡ false
  other_target n d at unmet = ne_eqb d.target.job job (λ same. waits_not n d at unmet same)
