-- After its last row a farm that is kept has no row at fault.
use Rattle.std.proofs.Common.{◌≡◌, ◌≤◌, ◌<◌, ℕ, ℤ, suc, ◌+◌, ◌*◌, eqb, Bool, true, false, not, cond, ◌&&◌, ◌||◌, List, [], ◌∷◌, length, is_some, Option, None, Some, option_map, refl, ap, sym, subst, ◌∙◌, arith}
use Rattle.std.specs.List.{list_all, list_any, slice_get}
use Rattle.std.proofs.lemmas.Bool.{eq-eqb, false_from_ne_true, le-leb, not-true, not_from_true, or_from, or_left, or_parts, true≢false}
use Rattle.std.proofs.lemmas.Option.{same_Some, slice_get-map}
use Rattle.farm_types.specs.declared.depend.DependRow.{DependRow}
use Rattle.farm_types.specs.declared.depend.Group.{Group}
use Rattle.farm_types.specs.declared.rows.JobRow.{JobRow}
use Rattle.farm_types.specs.declared.rows.LayerRow.{LayerRow}
use Rattle.farm_types.specs.declared.slot_row.SlotRow.{SlotRow}
use Rattle.farm_types.specs.DependActs.{or_else}
use Rattle.farm_types.specs.Depends.{groups_of, is_met}
use Rattle.farm_types.specs.Farm.{Farm, is_placed, layers_of, slot_from}
use Rattle.farm_types.specs.Finish.{finishes}
use Rattle.farm_types.specs.Kept.{IsKeptFarm, frames_said, has_its_limit, is_pending_job, runs_unmet}
use Rattle.farm_types.specs.Ranges.{range_numbers}
use Rattle.farm_types.specs.Settle.{is_met_now, opens, settled_row, with_met}
use Rattle.farm_types.proofs.Lists.{list_all-at}
use Rattle.farm_law.proofs.KeptJobsLists.{find_none}
use Rattle.farm_law.proofs.KeptLists.{list_all-weaker}
use Rattle.depend_law.proofs.MetAgain.{met_is}
use Rattle.farm_rows.specs.Recovery.{end_fault, first_slot, is_wrongly_marked, lacks_frames, lacks_limit, lacks_number, lacks_slots}

-- ---- nothing is found

neither : {X : Type 0} (a b : Option X) → a ≡ None → b ≡ None → or_else a b ≡ None
neither a b first second = ap (λ (o : Option _). or_else o b) first ∙ second

pub none_pass : {X : Type 0} (test : X → Bool) (xs : List X) → ((n : ℕ) (x : X) → slice_get xs n ≡ Some x → test x ≡ false) → list_any test xs ≡ false
none_pass test [] fails = refl
none_pass test (x ∷ xs) fails = or_from (test x) (list_any test xs) (fails 0 x refl) (none_pass test xs (λ n y at. fails (suc n) y at))

no_slot : (test : ℕ → SlotRow → Bool) (place : ℕ) (ss : List SlotRow) → ((n : ℕ) (s : SlotRow) → slice_get ss n ≡ Some s → test (place + n) s ≡ false) → first_slot test place ss ≡ None
no_slot test place [] fails = refl
no_slot test place (s ∷ ss) fails =
    let here : place + 0 ≡ place = omega arith in
    ap (λ (b : Bool). cond b (Some (8, place)) (first_slot test (place + 1) ss)) (subst (λ (n : ℕ). test n s ≡ false) here (fails 0 s refl))
    ∙ no_slot test (place + 1) ss (λ n t at.
    let next : place + suc n ≡ place + 1 + n = omega arith in
    subst (λ (m : ℕ). test m t ≡ false) next (fails (suc n) t at))

none_of : (test : ℕ → SlotRow → Bool) (ss : List SlotRow) → ((n : ℕ) (s : SlotRow) → slice_get ss n ≡ Some s → test n s ≡ false) → first_slot test 0 ss ≡ None
none_of test ss fails =
    no_slot test 0 ss (λ n s at.
    let same : n ≡ 0 + n = omega arith in
    subst (λ (m : ℕ). test m s ≡ false) same (fails n s at))

-- ---- frames

no_number : (f : Farm) (l : LayerRow) (position : ℕ) (ns : List ℤ) → ((p : ℕ) → position ≤ p → p < position + length ns → is_some (slot_from 0 (is_placed l.job l.place p) f.slots) ≡ true)
    → lacks_number f l position ns ≡ false
no_number f l position [] there = refl
no_number f l position (n ∷ ns) there =
    or_from _ _ (not_from_true _ (there position (omega arith) (omega arith)))
    (no_number f l (position + 1) ns (λ p low high. there p (omega (arith, low)) (omega (arith, high))))

-- ---- marks

wrong_by : (all m now : Bool) → m ≡ (all || now) → all ≡ false → (not m && now) ≡ false
wrong_by true m now is fails = absurd (true≢false fails)
wrong_by false true now is fails = refl
wrong_by false false now is fails = sym is

module _ (f : Farm) (k : IsKeptFarm f) where
  lacks_none : (n : ℕ) (j : JobRow) → slice_get f.jobs n ≡ Some j → lacks_frames f j ≡ false
  lacks_none n j at = by (is_pending_job j) refl
    where
      by : (b : Bool) → is_pending_job j ≡ b → (b && not (eqb (frames_said (layers_of f.layers j.job)) j.frames)) ≡ false
      by true is = not_from_true _ (eq-eqb _ _ (k.rows.jobs.jobs_layered n j at is).frames)
      by false is = refl

  -- a depend is as it is once what is met now is marked
  pub settled_at : (n : ℕ) (d : DependRow) → slice_get f.depends n ≡ Some d → settled_row f d ≡ d
  settled_at n d at =
      let same = ap (λ (g : Farm). slice_get g.depends n) k.depends.met in
      same_Some (settled_row f d) d (sym (ap (option_map (settled_row f)) at) ∙ sym (slice_get-map (settled_row f) f.depends n) ∙ same ∙ at)

  marked_at : (n : ℕ) (d : DependRow) → slice_get f.depends n ≡ Some d → (m : ℕ) (g : Group) → slice_get (groups_of f d) m ≡ Some g → is_met f d g ≡ (d.met_all || is_met_now f d g)
  marked_at n d at m g there =
      ap (λ (h : Farm). is_met h d g) (sym k.depends.met) ∙ ap (λ (e : DependRow). is_met (with_met f) e g) (sym (settled_at n d at))
      ∙ met_is f f.next_depend k.depends.rise n d at m g there ∙ ap (λ (e : DependRow). e.met_all || is_met_now f d g) (settled_at n d at)

  -- of a depend that isn't satisfied some group isn't met
  pub unmet_left : (n : ℕ) (d : DependRow) → slice_get f.depends n ≡ Some d → d.met_all ≡ false → list_all (is_met_now f d) (groups_of f d) ≡ false
  unmet_left n d at is = (or_parts d.met_all _ (ap (λ (e : DependRow). e.met_all) (settled_at n d at) ∙ is)).1

  rightly_marked : (n : ℕ) (d : DependRow) → slice_get f.depends n ≡ Some d → is_wrongly_marked f d ≡ false
  rightly_marked n d at = by d.met_all refl
    where
      by : (b : Bool) → d.met_all ≡ b → (not b && (list_all (is_met f d) (groups_of f d) || list_any (λ (g : Group). not (is_met f d g) && is_met_now f d g) (groups_of f d))) ≡ false
      by true is = refl
      by false is =
          or_from _ _
          (false_from_ne_true _ (λ all. true≢false (sym (list_all-weaker (is_met f d) (is_met_now f d) (λ g met. or_left _ _ met) (groups_of f d) all) ∙ unmet_left n d at is)))
          (none_pass (λ (g : Group). not (is_met f d g) && is_met_now f d g) (groups_of f d) (λ m g there. wrong_by d.met_all (is_met f d g) (is_met_now f d g) (marked_at n d at m g there) is))

  pub none_at_fault : end_fault f ≡ None
  none_at_fault =
      neither _ _ (ap (option_map (λ (l : LayerRow). (7, 64 * l.job + l.place))) (find_none (lacks_limit f) f.layers (λ n l at. ap not (list_all-at (has_its_limit (length f.limits)) f.layers n l k.rows.limits.there at))))
      (neither _ _ (ap (λ (b : Bool). cond b None (Some (1, 0))) (le-leb _ _ k.rows.jobs.finish_within))
      (neither _ _ (ap (option_map (λ (j : JobRow). (6, j.job))) (find_none (lacks_frames f) f.jobs lacks_none))
      (neither _ _ (ap (option_map (λ (l : LayerRow). (7, 64 * l.job + l.place))) (find_none (lacks_slots f) f.layers (λ n l at. no_number f l 0 (range_numbers l.range) (λ p low high. k.rows.jobs.frames_there n l at p (omega (arith, high))))))
      (neither _ _ (ap (option_map (λ (j : JobRow). (6, j.job))) (find_none (finishes f.slots) f.jobs (λ n j at. not-true _ (list_all-at (λ (j : JobRow). not (finishes f.slots j)) f.jobs n j k.work at))))
      (neither _ _ (ap (option_map (λ (d : DependRow). (9, d.depend))) (find_none (is_wrongly_marked f) f.depends rightly_marked))
      (neither _ _ (none_of (runs_unmet f) f.slots k.depends.free_to_run)
      (none_of (opens f) f.slots k.depends.blocked)))))))
