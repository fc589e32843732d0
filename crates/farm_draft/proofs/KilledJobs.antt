-- What is left of a job stands in the slots of its layers: layer by layer it is eaten, and then there is nothing left.
use Rattle.std.proofs.Common.{◌≡◌, ℕ, suc, zero, ◌+◌, ◌<◌, ◌≤◌, ◌&&◌, Bool, true, false, not, cond, eqb, leb, filter, List, [], ◌∷◌, length, map, Option, Some, None, option_map, refl, sym, ap, subst, ◌∙◌, ◌⊎◌, inl, inr, arith}
use Rattle.std.specs.List.{find, slice_get}
use Rattle.std.specs.Ordering.{int_eq}
use Rattle.std.specs.Cmp.Derive.{both_true}
use Rattle.std.proofs.lemmas.Bool.{and_right, cases_lt, eq-eqb, eqb-true, false≢true}
use Rattle.std.proofs.lemmas.Option.{none-some, same_Some, slice_get_within}
use Rattle.farm_types.specs.declared.limits.TheConstants.{LAST_VERSION, MOST_RETRIES}
use Rattle.farm_types.specs.declared.rows.LayerRow.{LayerRow}
use Rattle.farm_types.specs.declared.slot_row.Frame.{Frame}
use Rattle.farm_types.specs.declared.slot_row.SlotRow.{SlotRow}
use Rattle.farm_types.specs.declared.states.FrameState.TheVariants as frame_state
use Rattle.farm_types.specs.Depends.{is_done_state}
use Rattle.farm_types.specs.Farm.{Farm, changed_at, for_some, is_placed, layers_of, slot_from, for_any, layer_in}
use Rattle.farm_types.specs.Kept.{EachOnce, KeepsRows, is_kept_frame, is_kept_slot, is_setup}
use Rattle.farm_types.specs.Operators.{is_left_of, killed_row, stopped_row}
use Rattle.farm_types.specs.Ranges.{range_numbers}
use Rattle.farm_types.proofs.ChangedLists.{changed_at_kept}
use Rattle.farm_types.proofs.Lists.{and_both, for_some_true, found_is, list_all-at}
use Rattle.farm_types.proofs.Passes.{for_some-there}
use Rattle.job_book.proofs.LayerSlots.{from_slot}
use Rattle.farm_draft.specs.InTurn.{changed_each}
use Rattle.farm_draft.proofs.ChangedRows.{ChangesSome, StaysAt, all_stay, stays_each, some_each, some_same, some_then}

-- ---- what is eaten isn't left

eaten_by : (job : ℕ) (o : Option Frame) → for_some (option_map (λ (x : Frame). record x { state = frame_state.Eaten }) o) (λ (x : Frame). eqb x.job job && not (is_done_state x.state)) ≡ false
eaten_by job None = refl
eaten_by job (Some x) = and_right (eqb x.job job) false refl

once_by : (job : ℕ) (s : SlotRow) (b : Bool) → is_left_of job s ≡ b → killed_row job (cond b (stopped_row frame_state.Eaten s) s) ≡ cond b (stopped_row frame_state.Eaten s) s
once_by job s true is = ap (λ b. cond b (stopped_row frame_state.Eaten (stopped_row frame_state.Eaten s)) (stopped_row frame_state.Eaten s)) (eaten_by job s.frame)
once_by job s false is = ap (λ b. cond b (stopped_row frame_state.Eaten s) s) is

pub killed_once : (job : ℕ) (s : SlotRow) → killed_row job (killed_row job s) ≡ killed_row job s
killed_once job s = once_by job s (is_left_of job s) refl

-- a slot stays if nothing in it is left of the job
killed_off : (job : ℕ) (s : SlotRow) → is_left_of job s ≡ false → killed_row job s ≡ s
killed_off job s off = ap (λ b. cond b (stopped_row frame_state.Eaten s) s) off

pub killed_kept : (job : ℕ) (slots : List SlotRow) (slot : ℕ) (s : SlotRow) → slice_get slots slot ≡ Some s → is_left_of job s ≡ false → changed_at slots slot (killed_row job) ≡ slots
killed_kept job slots slot s at off = changed_at_kept slots slot (killed_row job) (λ x here. subst (λ (y : SlotRow). killed_row job y ≡ y) (same_Some s x (sym at ∙ here)) (killed_off job s off))

-- ---- what is found is among those that pass another test

among_behind : {X : Type 0} (b : Bool) (y x : X) (fs : List X) → (n : ℕ) × (slice_get fs n ≡ Some x) → (n : ℕ) × (slice_get (cond b (y ∷ fs) fs) n ≡ Some x)
among_behind true y x fs there = (suc there.0, there.1)
among_behind false y x fs there = there

among_step : {X : Type 0} (wanted test : X → Bool) (b : Bool) (y x : X) (ys : List X) → wanted y ≡ b → test x ≡ true → (find wanted ys ≡ Some x → (n : ℕ) × (slice_get (filter test ys) n ≡ Some x))
    → find wanted (y ∷ ys) ≡ Some x → (n : ℕ) × (slice_get (filter test (y ∷ ys)) n ≡ Some x)
among_step wanted test true y x ys is passes later at =
    let same : y ≡ x = same_Some y x (rw is at at) in
    (0, ap (λ b. slice_get (cond b (y ∷ filter test ys) (filter test ys)) 0) (ap test same ∙ passes) ∙ ap Some same)
among_step wanted test false y x ys is passes later at = among_behind (test y) y x (filter test ys) (later (rw is at at))

found_among : {X : Type 0} (wanted test : X → Bool) (xs : List X) (x : X) → find wanted xs ≡ Some x → test x ≡ true → (n : ℕ) × (slice_get (filter test xs) n ≡ Some x)
found_among wanted test [] x at passes = absurd (none-some x at)
found_among wanted test (y ∷ ys) x at passes = among_step wanted test (wanted y) y x ys refl passes (λ later. found_among wanted test ys x later passes) at

-- ---- where a frame stands it is found

first_unfound : (b : Bool) (place : ℕ) (o : Option ℕ) → cond b (Some place) o ≡ None → (b ≡ false) × (o ≡ None)
first_unfound true place o none = absurd (none-some place (sym none))
first_unfound false place o none = (refl, none)

unfound : (place : ℕ) (test : Frame → Bool) (slots : List SlotRow) (i : ℕ) (s : SlotRow) → slot_from place test slots ≡ None → slice_get slots i ≡ Some s → for_some s.frame test ≡ true → ⊥
unfound place test [] i s none at passes = none-some s at
unfound place test (r ∷ rs) zero s none at passes =
    let first = first_unfound (for_some r.frame test) place (slot_from (place + 1) test rs) none in
    false≢true (sym first.0 ∙ (ap (λ (t : SlotRow). for_some t.frame test) (same_Some r s at) ∙ passes))
unfound place test (r ∷ rs) (suc i) s none at passes =
    unfound (place + 1) test rs i s (first_unfound (for_some r.frame test) place (slot_from (place + 1) test rs) none).1 at passes

module _ (slots : List SlotRow) (once : EachOnce slots) (i : ℕ) (s : SlotRow) (x : Frame) (at : slice_get slots i ≡ Some s) (is : s.frame ≡ Some x) where
  itself : is_placed x.job x.layer x.position x ≡ true
  itself = both_true (both_true (eq-eqb x.job x.job refl) (eq-eqb x.layer x.layer refl)) (eq-eqb x.position x.position refl)

  found_by : (o : Option ℕ) → slot_from 0 (is_placed x.job x.layer x.position) slots ≡ o → o ≡ Some i
  found_by None none = absurd (unfound 0 (is_placed x.job x.layer x.position) slots i s none at (for_some-there s.frame (is_placed x.job x.layer x.position) x is itself))
  found_by (Some k) found =
      let there = from_slot (is_placed x.job x.layer x.position) slots k found in
      ap Some (sym (once i k s there.row x there.frame at is there.at there.is there.passes))

  found_here : slot_from 0 (is_placed x.job x.layer x.position) slots ≡ Some i
  found_here = found_by (slot_from 0 (is_placed x.job x.layer x.position) slots) refl

-- ---- what is left of a job stands in one of its layers

-- the slot has the frame at a position of the layer at a place among those of the job
pub record StandsIn (f : Farm) (job slot : ℕ) : Type 0 where
  pub place : ℕ
  pub layer : LayerRow
  pub position : ℕ
  pub there : slice_get (layers_of f.layers job) place ≡ Some layer
  pub found : slot_from 0 (is_placed job layer.place position) f.slots ≡ Some slot

-- the layer has the frame's number at its position
abbrev is_numbered : Frame → LayerRow → Bool
is_numbered x l = for_some (slice_get (range_numbers l.range) x.position) (λ number. int_eq number x.number)

left_stands : (f : Farm) → KeepsRows f → (job i : ℕ) (s : SlotRow) → slice_get f.slots i ≡ Some s → is_left_of job s ≡ true → StandsIn f job i
left_stands f keeps job i s at left =
    let its = for_some_true s.frame (λ (x : Frame). eqb x.job job && not (is_done_state x.state)) left in
    let x = its.0 in
    let own : x.job ≡ job = eqb-true x.job job (and_both (eqb x.job job) (not (is_done_state x.state)) its.2).0 in
    let row : is_kept_slot f.layers s ≡ true = list_all-at (is_kept_slot f.layers) f.slots i s keeps.jobs.slots_kept at in
    let kept = (and_both (leb s.version LAST_VERSION) (for_any s.frame (is_kept_frame f.layers)) row).1 in
    let frame : is_kept_frame f.layers x ≡ true = subst (λ (o : Option Frame). for_any o (is_kept_frame f.layers) ≡ true) its.1 kept in
    let numbered = (and_both (for_some (layer_in f.layers x.job x.layer) (is_numbered x)) (leb x.retries MOST_RETRIES && not (is_setup x.state)) frame).0 in
    let layer = for_some_true (layer_in f.layers x.job x.layer) (is_numbered x) numbered in
    let l = layer.0 in
    let both = and_both (eqb l.job x.job) (eqb l.place x.layer) (found_is (λ (k : LayerRow). eqb k.job x.job && eqb k.place x.layer) f.layers l layer.1) in
    let place : l.place ≡ x.layer = eqb-true l.place x.layer both.1 in
    let among = found_among (λ (k : LayerRow). eqb k.job x.job && eqb k.place x.layer) (λ (k : LayerRow). eqb k.job job) f.layers l layer.1 (eq-eqb l.job job (eqb-true l.job x.job both.0 ∙ own)) in
    record {
      place = among.0;
      layer = l;
      position = x.position;
      there = among.1;
      found = ap (λ (j : ℕ). slot_from 0 (is_placed j l.place x.position) f.slots) (sym own)
          ∙ (ap (λ (n : ℕ). slot_from 0 (is_placed x.job n x.position) f.slots) place ∙ found_here f.slots keeps.jobs.frames_once i s x at its.1);
    }

-- ---- layer by layer

-- some slots are killed: those of the job's first layers among them
pub record KillsBelow (f : Farm) (job count : ℕ) (slots : List SlotRow) : Type 0 where
  pub some : ChangesSome (killed_row job) f.slots slots
  pub layers : (n : ℕ) (l : LayerRow) → n < count → slice_get (layers_of f.layers job) n ≡ Some l → (position i : ℕ) → slot_from 0 (is_placed job l.place position) f.slots ≡ Some i → StaysAt (killed_row job) slots i

pub kills_none : (f : Farm) (job : ℕ) → KillsBelow f job 0 f.slots
kills_none f job = record { some = some_same (killed_row job) f.slots; layers = λ n l below. absurd (omega (arith, below)) }

-- one layer more
module _ (f : Farm) (job count : ℕ) (slots : List SlotRow) (so_far : KillsBelow f job count slots) (l : LayerRow) (there : slice_get (layers_of f.layers job) count ≡ Some l) (places : List ℕ) (stand : (position : ℕ) → slot_from 0 (is_placed job l.place position) f.slots ≡ slice_get places position) where
  next_stays : (n : ℕ) (k : LayerRow) → (n < count) ⊎ (count ≤ n) → n < count + 1 → slice_get (layers_of f.layers job) n ≡ Some k → (position i : ℕ) → slot_from 0 (is_placed job k.place position) f.slots ≡ Some i
      → StaysAt (killed_row job) (changed_each (killed_row job) slots places) i
  next_stays n k (inl before) below at position i found = (some_each (killed_row job) (killed_once job) slots places).stays i (so_far.layers n k before at position i found)
  next_stays n k (inr last) below at position i found =
      let here : count ≡ n = omega (arith, last, below) in
      let same : l ≡ k = same_Some l k (sym there ∙ (ap (slice_get (layers_of f.layers job)) here ∙ at)) in
      stays_each (killed_row job) (killed_once job) slots places position i
      (sym (stand position) ∙ (ap (λ (m : LayerRow). slot_from 0 (is_placed job m.place position) f.slots) same ∙ found))

  pub kills_next : KillsBelow f job (count + 1) (changed_each (killed_row job) slots places)
  kills_next = record {
    some = some_then (killed_row job) f.slots slots (changed_each (killed_row job) slots places) so_far.some (some_each (killed_row job) (killed_once job) slots places);
    layers = λ n k below at position i found. next_stays n k (cases_lt n count) below at position i found;
  }

-- all layers
module _ (f : Farm) (keeps : KeepsRows f) (job count : ℕ) (slots : List SlotRow) (all : length (layers_of f.layers job) ≤ count) (kills : KillsBelow f job count slots) where
  stays_by : (i : ℕ) (s : SlotRow) (b : Bool) → slice_get f.slots i ≡ Some s → is_left_of job s ≡ b → StaysAt (killed_row job) slots i
  stays_by i s true at left =
      let stands = left_stands f keeps job i s at left in
      let within = slice_get_within (layers_of f.layers job) stands.place stands.layer stands.there in
      kills.layers stands.place stands.layer (omega (arith, all, within)) stands.there stands.position i stands.found
  stays_by i s false at off = kills.some.stays i (λ x here. subst (λ (y : SlotRow). killed_row job y ≡ y) (same_Some s x (sym at ∙ here)) (killed_off job s off))

  each_by : (i : ℕ) (o : Option SlotRow) → slice_get f.slots i ≡ o → StaysAt (killed_row job) slots i
  each_by i None past = kills.some.stays i (λ x here. absurd (none-some x (sym past ∙ here)))
  each_by i (Some s) at = stays_by i s (is_left_of job s) at refl

  pub kills_all : slots ≡ map (killed_row job) f.slots
  kills_all = sym (all_stay (killed_row job) slots (λ i. each_by i (slice_get f.slots i) refl)) ∙ kills.some.same
