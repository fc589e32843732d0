-- The slots where a layer's frames stand: they are those of its shape, and no more than a job has frames.
use Rattle.std.specs.Bool.{◌==◌}
use Rattle.std.proofs.Common.{◌≡◌, ℕ, zero, suc, ◌≤◌, Bool, true, false, cond, List, [], ◌∷◌, length, length-append, map, Some, refl, sym, ap, subst, ◌∙◌, arith}
use Rattle.std.specs.List.{filter, slice_get}
use Rattle.std.proofs.lemmas.Bool.{eq-eqb, eqb-true}
use Rattle.std.proofs.lemmas.Option.{none-some, same_Some}
use Rattle.farm_types.specs.declared.rows.LayerRow.{LayerRow}
use Rattle.farm_types.specs.declared.limits.TheConstants.{MOST_FRAMES}
use Rattle.farm_types.specs.Depends.{layer_shape}
use Rattle.farm_types.specs.Farm.{Farm, is_placed, layers_of, slot_from}
use Rattle.farm_types.specs.Groups.{all_slots}
use Rattle.farm_types.specs.Jobs.{JobLists}
use Rattle.farm_types.specs.Kept.{IsKeptFarm, is_of_pending}
use Rattle.farm_types.specs.Step.{lists_of}
use Rattle.farm_types.proofs.Lists.{list_all-at}
use Rattle.depend_law.proofs.Among.{In, in_later, kept_from}
use Rattle.depend_law.proofs.Placed.{shape_holds}
use Rattle.farm_places.proofs.KeptShapes.{slots_are}
use Rattle.cue_query.specs.Queries.{IsLayerOf}

-- an item that passes a test is kept by it
stays_in : {X : Type 0} (test : X → Bool) (xs : List X) (n : ℕ) (x : X) → slice_get xs n ≡ Some x → test x ≡ true → In (filter test xs) x
stays_in test [] n x at passes = absurd (none-some x at)
stays_in test (y ∷ ys) zero x at passes = (0, ap (λ (b : Bool). slice_get (cond b (y ∷ filter test ys) (filter test ys)) 0) (ap test (same_Some y x at) ∙ passes) ∙ at)
stays_in test (y ∷ ys) (suc n) x at passes = by (test y) (stays_in test ys n x at passes)
  where
    by : (b : Bool) → In (filter test ys) x → In (cond b (y ∷ filter test ys) (filter test ys)) x
    by true later = in_later y (filter test ys) x later
    by false later = later

module _ (f : Farm) where
  -- a layer of a job is one of the farm's
  pub layer_there : (job : ℕ) (ls : List LayerRow) → ls ≡ layers_of f.layers job → (n : ℕ) (l : LayerRow) → slice_get ls n ≡ Some l → IsLayerOf f l
  layer_there job ls is n l at = (kept_from (λ (k : LayerRow). k.job == job) f.layers n l (sym (ap (λ (ks : List LayerRow). slice_get ks n) is) ∙ at)).0

  -- the slots of the frames of these layers
  abbrev pub slots_of : List LayerRow → List ℕ
  slots_of layers = all_slots (map (layer_shape f.slots) layers)

  -- those of one of the layers are among them
  of_one : (layers : List LayerRow) (n : ℕ) (l : LayerRow) → slice_get layers n ≡ Some l → length (layer_shape f.slots l).slots ≤ length (slots_of layers)
  of_one [] n l at = absurd (none-some l at)
  of_one (k ∷ ks) zero l at =
      let here : length (layer_shape f.slots k).slots ≡ length (layer_shape f.slots l).slots = ap (λ (r : LayerRow). length (layer_shape f.slots r).slots) (same_Some k l at) in
      omega (arith, here, length-append (layer_shape f.slots k).slots (slots_of ks))
  of_one (k ∷ ks) (suc n) l at = let later = of_one ks n l at in omega (arith, later, length-append (layer_shape f.slots k).slots (slots_of ks))

  module _ (kept : IsKeptFarm f) where
    owned : (n : ℕ) (l : LayerRow) → slice_get f.layers n ≡ Some l → is_of_pending f.jobs l.job ≡ true
    owned n l at = list_all-at (λ (k : LayerRow). is_of_pending f.jobs k.job) f.layers n l kept.rows.jobs.layers_owned at

    -- the layers of a job have no more frames together than a job has
    pub job_slots : (job n : ℕ) (l : LayerRow) → slice_get (layers_of f.layers job) n ≡ Some l → length (slots_of (layers_of f.layers job)) ≤ MOST_FRAMES
    job_slots job n l at =
        let there = kept_from (λ (k : LayerRow). k.job == job) f.layers n l at in
        let pending = subst (λ (k : ℕ). is_of_pending f.jobs k ≡ true) (eqb-true l.job job there.1) (owned there.0.0 l there.0.1) in
        (shape_holds (lists_of f) (length f.shows) kept.rows.jobs job pending).most

    module _ (l : LayerRow) (its : IsLayerOf f l) (b : JobLists) (slots : List ℕ) (is : b ≡ lists_of f) (stand : (position : ℕ) → slot_from 0 (is_placed l.job l.place position) b.slots ≡ slice_get slots position) where
      pub own_slots : slots ≡ (layer_shape f.slots l).slots
      own_slots =
          slots_are (lists_of f) (length f.shows) kept.rows.jobs its.0 l its.1 slots
          (λ position. sym (ap (λ (c : JobLists). slot_from 0 (is_placed l.job l.place position) c.slots) is) ∙ stand position)

      pub own_count : length slots ≤ MOST_FRAMES
      own_count =
          let there = stays_in (λ (k : LayerRow). k.job == l.job) f.layers its.0 l its.1 (eq-eqb l.job l.job refl) in
          let count : length slots ≡ length (layer_shape f.slots l).slots = ap (λ (ns : List ℕ). length ns) own_slots in
          omega (arith, count, of_one (layers_of f.layers l.job) there.0 l there.1, job_slots l.job there.0 l there.1)
