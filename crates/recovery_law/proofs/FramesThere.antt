-- The frames that depends name have slots, and so have all frames of a layer: the groups of a depend are those of the rows so far.
use Rattle.std.proofs.Common.{◌≡◌, ℕ, ℤ, suc, zero, ◌+◌, ◌*◌, eqb, leb, Bool, true, false, cond, ◌&&◌, ◌||◌, List, [], ◌∷◌, is_some, Option, Some, None, refl, ap, sym, subst, ◌∙◌, arith}
use Rattle.std.specs.Prelude.{bytes_eq}
use Rattle.std.specs.List.{find, list_any, position_or_len, slice_get}
use Rattle.std.specs.Ordering.{int_eq}
use Rattle.std.proofs.lemmas.Bool.{eq-eqb, eqb-true, false≢true}
use Rattle.std.proofs.lemmas.Bool.Decides.{Decides-int_eq}
use Rattle.std.proofs.lemmas.List.Folds.{find_at}
use Rattle.std.proofs.lemmas.Option.{none-some, same_Some, slice_get_within}
use Rattle.std.specs.Cmp.Derive.{both_true}
use Rattle.farm_types.specs.declared.depend.DependEnd.{DependEnd}
use Rattle.farm_types.specs.declared.depend.DependRow.{DependRow}
use Rattle.farm_types.specs.declared.rows.LayerRow.{LayerRow}
use Rattle.farm_types.specs.declared.slot_row.Frame.{Frame}
use Rattle.farm_types.specs.declared.slot_row.SlotRow.{SlotRow}
use Rattle.farm_types.specs.declared.limits.TheConstants.{LAST_VERSION, MOST_LAYERS}
use Rattle.farm_types.specs.DependActs.{has_number}
use Rattle.farm_types.specs.Depends.{groups_of}
use Rattle.farm_types.specs.Farm.{Farm, for_some, is_placed, layers_of, slot_from, for_any, layer_in}
use Rattle.farm_types.specs.Kept.{KeepsRows, has_frame_in, has_part, is_end_there, is_kept_frame, is_kept_slot, is_of_pending}
use Rattle.farm_types.specs.Ranges.{range_numbers}
use Rattle.farm_types.specs.Rising.{IsRising, layer_key}
use Rattle.farm_types.proofs.Lists.{and_both, for_some_true, list_all-at}
use Rattle.farm_types.proofs.Passes.{for_some-there}
use Rattle.farm_law.proofs.Filtered.{at_kept}
use Rattle.farm_law.proofs.KeptJobsCounts.{StandsAt, stands_at}
use Rattle.depend_law.proofs.Among.{rising_above}
use Rattle.farm_rows.specs.Recovery.{end_is_there, groups_so_far, is_frame_in, is_part_in}
use Rattle.farm_rows.proofs.Faultless as faultless
use Rattle.recovery_law.proofs.Parts.{upto_depends}
use Rattle.recovery_law.proofs.SlotBack.{Stands, stands}

-- ---- what is found

-- an item is the one that is found where only it has its key
find_by : {X : Type 0} (test : X → Bool) (b : Bool) (y x : X) (ys : List X) → test y ≡ b → (b ≡ true → ⊥) → find test ys ≡ Some x → find test (y ∷ ys) ≡ Some x
find_by test true y x ys is fails later = absurd (fails refl)
find_by test false y x ys is fails later = ap (λ (b : Bool). cond b (Some y) (find test ys)) is ∙ later

pub find_itself : {X : Type 0} (key : X → ℕ) (test : X → Bool) (low : ℕ) (xs : List X) (high n : ℕ) (x : X) → IsRising key low xs high → slice_get xs n ≡ Some x → ((y : X) → test y ≡ true → key y ≡ key x) → test x ≡ true → find test xs ≡ Some x
find_itself key test low [] high n x rise at only itself = absurd (none-some x at)
find_itself key test low (y ∷ ys) high zero x rise at only itself =
    let same = same_Some y x at in
    ap (λ (b : Bool). cond b (Some y) (find test ys)) (ap test same ∙ itself) ∙ ap (λ z. Some z) same
find_itself key test low (y ∷ ys) high (suc n) x rise at only itself =
    let above = rising_above key (key y + 1) ys high n x rise.1 at in
    find_by test (test y) y x ys refl (λ passes. let same = only y passes in absurd (omega (arith, above, same))) (find_itself key test (key y + 1) ys high n x rise.1 at only itself)

any_by : {X : Type 0} (test : X → Bool) (b : Bool) (y : X) (ys : List X) → test y ≡ b → (list_any test ys ≡ true → (n : ℕ) × (x : X) × (slice_get ys n ≡ Some x) × (test x ≡ true)) → (b || list_any test ys) ≡ true
    → (n : ℕ) × (x : X) × (slice_get (y ∷ ys) n ≡ Some x) × (test x ≡ true)
any_by test true y ys is later h = (0, y, refl, is)
any_by test false y ys is later h = let there = later h in (suc there.0, there.1, there.2, there.3)

any_place : {X : Type 0} (test : X → Bool) (xs : List X) → list_any test xs ≡ true → (n : ℕ) × (x : X) × (slice_get xs n ≡ Some x) × (test x ≡ true)
any_place test [] h = absurd (false≢true h)
any_place test (y ∷ ys) h = any_by test (test y) y ys refl (any_place test ys) h

-- ---- slots

some_step : (test : Frame → Bool) (place : ℕ) (b : Bool) (ss : List SlotRow) → (b ≡ false → is_some (slot_from (place + 1) test ss) ≡ true) → is_some (cond b (Some place) (slot_from (place + 1) test ss)) ≡ true
some_step test place true ss later = refl
some_step test place false ss later = later refl

from_at : (test : Frame → Bool) (place : ℕ) (ss : List SlotRow) (n : ℕ) (s : SlotRow) → slice_get ss n ≡ Some s → for_some s.frame test ≡ true → is_some (slot_from place test ss) ≡ true
from_at test place [] n s at passes = absurd (none-some s at)
from_at test place (t ∷ ts) zero s at passes =
    ap (λ (b : Bool). is_some (cond b (Some place) (slot_from (place + 1) test ts))) (ap (λ (u : SlotRow). for_some u.frame test) (same_Some t s at) ∙ passes)
from_at test place (t ∷ ts) (suc n) s at passes = some_step test place (for_some t.frame test) ts (λ fails. from_at test (place + 1) ts n s at passes)

at_by : (test : Frame → Bool) (place : ℕ) (b : Bool) (t : SlotRow) (ts : List SlotRow) → for_some t.frame test ≡ b → (is_some (slot_from (place + 1) test ts) ≡ true → (n : ℕ) × (s : SlotRow) × (slice_get ts n ≡ Some s) × (for_some s.frame test ≡ true))
    → is_some (cond b (Some place) (slot_from (place + 1) test ts)) ≡ true → (n : ℕ) × (s : SlotRow) × (slice_get (t ∷ ts) n ≡ Some s) × (for_some s.frame test ≡ true)
at_by test place true t ts is later h = (0, t, refl, is)
at_by test place false t ts is later h = let there = later h in (suc there.0, there.1, there.2, there.3)

at_from : (test : Frame → Bool) (place : ℕ) (ss : List SlotRow) → is_some (slot_from place test ss) ≡ true → (n : ℕ) × (s : SlotRow) × (slice_get ss n ≡ Some s) × (for_some s.frame test ≡ true)
at_from test place [] h = absurd (false≢true h)
at_from test place (t ∷ ts) h = at_by test place (for_some t.frame test) t ts refl (at_from test (place + 1) ts) h

-- ---- numbers

numbers_meet : (own named at number : ℤ) → int_eq own named ≡ true → own ≡ at → int_eq number at ≡ true → named ≡ number
numbers_meet own named at number same is wanted = sym ((Decides-int_eq own named).0 same) ∙ is ∙ sym ((Decides-int_eq number at).0 wanted)

module _ (f : Farm) (k : KeepsRows f) where
  layer_itself : (n : ℕ) (l : LayerRow) → slice_get f.layers n ≡ Some l → layer_in f.layers l.job l.place ≡ Some l
  layer_itself n l at =
      find_itself layer_key (λ (m : LayerRow). eqb m.job l.job && eqb m.place l.place) 0 f.layers (MOST_LAYERS * f.next_job) n l k.jobs.layers_rise at
      (λ m passes.
      let both = and_both (eqb m.job l.job) (eqb m.place l.place) passes in
      let job = eqb-true m.job l.job both.0 in
      let place = eqb-true m.place l.place both.1 in
      omega (arith, job, place))
      (both_true (eq-eqb l.job l.job refl) (eq-eqb l.place l.place refl))

  -- the frame at a position of a layer has the number that is there
  number_is : (n : ℕ) (l : LayerRow) (position : ℕ) (own number : ℤ) (x : Frame) → slice_get f.layers n ≡ Some l → slice_get (range_numbers l.range) position ≡ Some own → int_eq number own ≡ true
      → StandsAt l.job l.place position x → Stands f x → x.number ≡ number
  number_is n l position own number x at there wanted placed h =
      let itself : layer_in f.layers x.job x.layer ≡ Some l =
      ap (λ (job : ℕ). layer_in f.layers job x.layer) placed.job_is ∙ ap (λ (place : ℕ). layer_in f.layers l.job place) placed.layer_is ∙ layer_itself n l at in
      let same_layer : h.layer ≡ l = same_Some h.layer l (sym h.there ∙ itself) in
      let same_number : h.number ≡ own =
      same_Some h.number own (sym h.at ∙ ap (λ (m : LayerRow). slice_get (range_numbers m.range) x.position) same_layer ∙ ap (λ (p : ℕ). slice_get (range_numbers l.range) p) placed.position_is ∙ there) in
      numbers_meet h.number x.number own number h.same same_number wanted

  frame_stands : (n : ℕ) (s : SlotRow) (x : Frame) → slice_get f.slots n ≡ Some s → s.frame ≡ Some x → Stands f x
  frame_stands n s x at here =
      let kept = and_both (leb s.version LAST_VERSION) (for_any s.frame (is_kept_frame f.layers)) (list_all-at (is_kept_slot f.layers) f.slots n s k.jobs.slots_kept at) in
      stands f x (subst (λ (o : Option Frame). for_any o (is_kept_frame f.layers) ≡ true) here kept.1)

  number_found : (l : LayerRow) (number : ℤ) (n : ℕ) (s : SlotRow) (x : Frame) → slice_get f.slots n ≡ Some s → s.frame ≡ Some x → (x.job ≡ l.job) × (x.layer ≡ l.place) × (x.number ≡ number)
      → is_some (slot_from 0 (λ (x : Frame). (eqb x.job l.job && eqb x.layer l.place) && int_eq x.number number) f.slots) ≡ true
  number_found l number n s x at here same =
      let test : Frame → Bool = λ (x : Frame). (eqb x.job l.job && eqb x.layer l.place) && int_eq x.number number in
      from_at test 0 f.slots n s at
      (for_some-there s.frame test x here (both_true (both_true (eq-eqb x.job l.job same.0) (eq-eqb x.layer l.place same.1)) ((Decides-int_eq x.number number).1 same.2)))

  number_there : (n : ℕ) (l : LayerRow) (number : ℤ) → slice_get f.layers n ≡ Some l → has_number number l ≡ true
      → is_some (slot_from 0 (λ (x : Frame). (eqb x.job l.job && eqb x.layer l.place) && int_eq x.number number) f.slots) ≡ true
  number_there n l number at has =
      let own = any_place (int_eq number) (range_numbers l.range) has in
      let within = slice_get_within (range_numbers l.range) own.0 own.1 own.2 in
      let slot = at_from (is_placed l.job l.place own.0) 0 f.slots (k.jobs.frames_there n l at own.0 within) in
      let x = for_some_true slot.1.frame (is_placed l.job l.place own.0) slot.3 in
      let placed = stands_at l.job l.place own.0 x.0 x.2 in
      number_found l number slot.0 slot.1 x.0 slot.2 x.1
      (placed.job_is, placed.layer_is, number_is n l own.0 own.1 number x.0 at own.2 own.3 placed (frame_stands slot.0 slot.1 x.0 slot.2 x.1))

  module _ (done : List DependRow) where
    frame_there : (n : ℕ) (l : LayerRow) (frame : Option ℤ) → slice_get f.layers n ≡ Some l → has_frame_in frame l ≡ true → is_frame_in (upto_depends f done) l frame ≡ true
    frame_there n l None at has = refl
    frame_there n l (Some number) at has = number_there n l number at has

    part_there : (job : ℕ) (layer : Option (List ℕ)) (frame : Option ℤ) → has_part (layers_of f.layers job) layer frame ≡ true → is_part_in (upto_depends f done) job layer frame ≡ true
    part_there job None frame has = refl
    part_there job (Some name) frame has =
        let wanted : LayerRow → Bool = λ (l : LayerRow). bytes_eq l.name name in
        let own = layers_of f.layers job in
        let l = for_some_true (find wanted own) (has_frame_in frame) has in
        let there = at_kept (λ (l : LayerRow). eqb l.job job) f.layers (position_or_len wanted own) l.0 (sym (find_at wanted own) ∙ l.1) in
        for_some-there (find wanted own) _ l.0 l.1 (frame_there there.0 l.0 frame there.1 l.2)

    -- an end is there by the rows so far
    pub end_there : (e : DependEnd) → is_end_there f e ≡ true → end_is_there (upto_depends f done) e ≡ true
    end_there e there =
        let both = and_both (is_of_pending f.jobs e.job) (has_part (layers_of f.layers e.job) e.layer e.frame) there in
        both_true both.0 (part_there e.job e.layer e.frame both.1)

    -- the groups are those of the rows so far
    pub groups_alike : (d : DependRow) → groups_so_far (upto_depends f done) d ≡ groups_of f d
    unfolding groups_of
    groups_alike d = faultless.groups_alike (upto_depends f done) k.jobs.frames_there d
