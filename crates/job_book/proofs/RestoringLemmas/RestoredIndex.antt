-- Where the frames of layers stand, as slots are noted one after another.
use Rattle.std.proofs.Common.{◌≡◌, ◌≢◌, ℕ, zero, suc, ◌+◌, ◌<◌, ◌≤◌, ◌&&◌, Bool, true, false, cond, eqb, List, [], ◌∷◌, length, map, replicate, Option, Some, None, is_some, option_map, refl, sym, ap, subst, ◌∙◌, ◌⊎◌, inl, inr, arith}
use Rattle.std.specs.Prelude.{nat_le}
use Rattle.std.specs.List.{list_all, slice_get, slice_set}
use Rattle.std.specs.Option.{option_and_then}
use Rattle.std.proofs.lemmas.Bool.{cases_lt, true≢false, eqb-true, eq-eqb, and_from}
use Rattle.std.proofs.lemmas.List.{length-map}
use Rattle.std.proofs.lemmas.List.Folds.{find_at}
use Rattle.std.proofs.lemmas.Option.{none-some, same_Some, slice_get_past, slice_get_within, slice_get-map}
use Rattle.farm_types.specs.declared.limits.TheConstants.{LAST_VERSION}
use Rattle.farm_types.specs.declared.rows.LayerRow.{LayerRow}
use Rattle.farm_types.specs.declared.slot_row.Frame.{Frame}
use Rattle.farm_types.specs.declared.slot_row.SlotRow.{SlotRow}
use Rattle.farm_types.specs.Booking.{is_waiting}
use Rattle.farm_types.specs.Farm.{for_some, is_placed, slot_from, for_any, layer_in}
use Rattle.farm_types.specs.Kept.{EachOnce, EachThere, is_kept_frame, is_kept_slot}
use Rattle.farm_types.specs.Ranges.{range_numbers}
use Rattle.farm_types.specs.Rising.{IsRising}
use Rattle.farm_types.proofs.Changed.{changed_at_each, length-changed_at, slice_get-set_other, slice_get-set_same}
use Rattle.farm_types.proofs.Lists.{and_both, for_some_true, found_is, list_all-at, slice_get_below}
use Rattle.farm_law.proofs.KeptJobsRows.{frame_kept}
use Rattle.job_book.specs.Index.{waits_in}
use Rattle.job_book.specs.Inside.{layer_key}
use Rattle.job_book.specs.Layers.{KeepsLayers, KeepsWaiting, place_in, slots_of}
use Rattle.job_entries.specs.Entries.{layer_position}
use Rattle.job_index.specs.Places.{LayerPlaces, with_slot}
use Rattle.job_entries.specs.Restored.{noted_frame, noted_from, range_length, unplaced}
use Rattle.job_book.proofs.LayerSlots.{at_row, from_slot}

-- ---- lists

length-slice_set : {X : Type 0} (xs : List X) (i : ℕ) (x : X) → length (slice_set xs i x) ≡ length xs
length-slice_set [] i x = refl
length-slice_set (y ∷ ys) zero x = refl
length-slice_set (y ∷ ys) (suc i) x = ap suc (length-slice_set ys i x)

length-same : {X : Type 0} (n : ℕ) (x : X) → length (replicate n x) ≡ n
length-same zero x = refl
length-same (suc n) x = ap suc (length-same n x)

-- a list of marks that says of each item what a test says
marks_by : (f : ℕ → Bool) (marks : List Bool) (ns : List ℕ) → length marks ≡ length ns → ((k n : ℕ) → slice_get ns k ≡ Some n → slice_get marks k ≡ Some (f n)) → marks ≡ map f ns
marks_by f [] [] same each = refl
marks_by f [] (n ∷ ns) same each = absurd (omega (arith, same))
marks_by f (b ∷ bs) [] same each = absurd (omega (arith, same))
marks_by f (b ∷ bs) (n ∷ ns) same each =
    λ i. same_Some b (f n) (each 0 n refl) i ∷ marks_by f bs ns (omega (arith, same)) (λ k m at. each (suc k) m at) i

-- ---- frames that stand in slots

none_found : (p : ℕ) (test : Frame → Bool) (slots : List SlotRow) (k : ℕ) (s : SlotRow) (x : Frame) → slot_from p test slots ≡ None → slice_get slots k ≡ Some s → s.frame ≡ Some x → test x ≡ true → ⊥
none_found p test [] k s x none at is passes = none-some s at
none_found p test (r ∷ rs) zero s x none at is passes =
    let here : for_some r.frame test ≡ true = ap (λ (t : SlotRow). for_some t.frame test) (same_Some r s at) ∙ ap (λ (o : Option Frame). for_some o test) is ∙ passes in
    none-some p (sym none ∙ ap (λ b. cond b (Some p) (slot_from (p + 1) test rs)) here)
none_found p test (r ∷ rs) (suc k) s x none at is passes = by (for_some r.frame test) refl (λ later. none_found (p + 1) test rs k s x later at is passes)
  where
    by : (b : Bool) → for_some r.frame test ≡ b → (slot_from (p + 1) test rs ≡ None → ⊥) → ⊥
    by true here later = none-some p (sym none ∙ ap (λ b. cond b (Some p) (slot_from (p + 1) test rs)) here)
    by false here later = later (sym (ap (λ b. cond b (Some p) (slot_from (p + 1) test rs)) here) ∙ none)

record IsPlaced (job layer position : ℕ) (x : Frame) : Type 0 where
  job_is : x.job ≡ job
  layer_is : x.layer ≡ layer
  position_is : x.position ≡ position

placed_parts : (job layer position : ℕ) (x : Frame) → is_placed job layer position x ≡ true → IsPlaced job layer position x
placed_parts job layer position x is =
    let first = and_both (eqb x.job job && eqb x.layer layer) (eqb x.position position) is in
    let rest = and_both (eqb x.job job) (eqb x.layer layer) first.0 in
    record { job_is = eqb-true x.job job rest.0; layer_is = eqb-true x.layer layer rest.1; position_is = eqb-true x.position position first.1 }

parts_placed : (job layer position : ℕ) (x : Frame) → IsPlaced job layer position x → is_placed job layer position x ≡ true
parts_placed job layer position x is = and_from _ _ (and_from _ _ (eq-eqb x.job job is.job_is) (eq-eqb x.layer layer is.layer_is)) (eq-eqb x.position position is.position_is)

-- ---- what is noted

-- a layer has the slots of the frames that stand in so many slots, and says which of those frames wait
record IsNoted (slots : List SlotRow) (count : ℕ) (l : LayerRow) (x : LayerPlaces) : Type 0 where
  slots_long : length x.slots ≡ range_length l
  marks_long : length x.waiting ≡ range_length l
  stands : (slot : ℕ) (s : SlotRow) (y : Frame) → slot < count → slice_get slots slot ≡ Some s → s.frame ≡ Some y → y.job ≡ l.job → y.layer ≡ l.place
      → (slice_get x.slots y.position ≡ Some slot) × (slice_get x.waiting y.position ≡ Some (is_waiting y.state))

record AreNoted (slots : List SlotRow) (count : ℕ) (layers : List LayerRow) (index : List LayerPlaces) : Type 0 where
  as_many : length index ≡ length layers
  each : (n : ℕ) (l : LayerRow) (x : LayerPlaces) → slice_get layers n ≡ Some l → slice_get index n ≡ Some x → IsNoted slots count l x

unplaced_at : (layers : List LayerRow) (n : ℕ) (l : LayerRow) (x : LayerPlaces) → slice_get layers n ≡ Some l → slice_get (map unplaced layers) n ≡ Some x → unplaced l ≡ x
unplaced_at [] n l x at there = absurd (none-some l at)
unplaced_at (k ∷ ks) zero l x at there = sym (ap unplaced (same_Some k l at)) ∙ same_Some (unplaced k) x there
unplaced_at (k ∷ ks) (suc n) l x at there = unplaced_at ks n l x at there

none_noted : (slots : List SlotRow) (layers : List LayerRow) → AreNoted slots 0 layers (map unplaced layers)
none_noted slots layers =
    record {
      as_many = length-map layers unplaced;
      each = λ n l x at there. subst (IsNoted slots 0 l) (unplaced_at layers n l x at there) (record {
        slots_long = length-same (range_length l) 0;
        marks_long = length-same (range_length l) true;
        stands = λ slot s y within. absurd (omega (arith, within));
      });
    }

-- the frame's layer, at its place among all
record HasLayer (layers : List LayerRow) (y : Frame) : Type 0 where
  layer : LayerRow
  at : slice_get layers (layer_position y.job y.layer layers) ≡ Some layer
  job_is : layer.job ≡ y.job
  place_is : layer.place ≡ y.layer
  within : y.position < range_length layer

has_layer : (layers : List LayerRow) (y : Frame) → is_kept_frame layers y ≡ true → HasLayer layers y
has_layer layers y kept =
    let test : LayerRow → Bool = λ (l : LayerRow). eqb l.job y.job && eqb l.place y.layer in
    let layer = for_some_true (layer_in layers y.job y.layer) _ (frame_kept layers y kept).number in
    let number = for_some_true (slice_get (range_numbers layer.0.range) y.position) _ layer.2 in
    let own = and_both (eqb layer.0.job y.job) (eqb layer.0.place y.layer) (found_is test layers layer.0 layer.1) in
    record {
      layer = layer.0;
      at = sym (find_at test layers) ∙ layer.1;
      job_is = eqb-true layer.0.job y.job own.0;
      place_is = eqb-true layer.0.place y.layer own.1;
      within = slice_get_within (range_numbers layer.0.range) y.position number.0 number.1;
    }

module _ (layers : List LayerRow) (high : ℕ) (rise : IsRising layer_key 0 layers high) (slots : List SlotRow) (kept : list_all (is_kept_slot layers) slots ≡ true) (once : EachOnce slots) where
  frame_at : (i : ℕ) (s : SlotRow) (y : Frame) → slice_get slots i ≡ Some s → s.frame ≡ Some y → is_kept_frame layers y ≡ true
  frame_at i s y at is =
      let both = and_both (nat_le s.version LAST_VERSION) (for_any s.frame (is_kept_frame layers)) (list_all-at (is_kept_slot layers) slots i s kept at) in
      sym (ap (λ (o : Option Frame). for_any o (is_kept_frame layers)) is) ∙ both.1

  -- one slot more
  module _ (i : ℕ) (s : SlotRow) (at : slice_get slots i ≡ Some s) where
    without : s.frame ≡ None → (l : LayerRow) (x : LayerPlaces) → IsNoted slots i l x → IsNoted slots (i + 1) l x
    without none l x was =
        record {
          slots_long = was.slots_long;
          marks_long = was.marks_long;
          stands = λ slot t z less there is job layer. by slot t z less there is job layer (cases_lt slot i);
        }
      where
        by : (slot : ℕ) (t : SlotRow) (z : Frame) → slot < i + 1 → slice_get slots slot ≡ Some t → t.frame ≡ Some z → z.job ≡ l.job → z.layer ≡ l.place → (slot < i) ⊎ (i ≤ slot)
            → (slice_get x.slots z.position ≡ Some slot) × (slice_get x.waiting z.position ≡ Some (is_waiting z.state))
        by slot t z less there is job layer (inl before) = was.stands slot t z before there is job layer
        by slot t z less there is job layer (inr behind) =
            let same : slot ≡ i = omega (arith, less, behind) in
            let row : s ≡ t = same_Some s t (sym at ∙ ap (slice_get slots) (sym same) ∙ there) in
            absurd (none-some z (sym none ∙ ap (λ (r : SlotRow). r.frame) row ∙ is))

    module _ (y : Frame) (framed : s.frame ≡ Some y) where
      -- the frame at the slot is this one
      its_frame : (slot : ℕ) (t : SlotRow) (z : Frame) → slot ≡ i → slice_get slots slot ≡ Some t → t.frame ≡ Some z → y ≡ z
      its_frame slot t z same there is =
          let row : s ≡ t = same_Some s t (sym at ∙ ap (slice_get slots) (sym same) ∙ there) in
          same_Some y z (sym framed ∙ ap (λ (r : SlotRow). r.frame) row ∙ is)

      -- another layer
      elsewhere : (l : LayerRow) (x : LayerPlaces) → (y.job ≡ l.job → y.layer ≡ l.place → ⊥) → IsNoted slots i l x → IsNoted slots (i + 1) l x
      elsewhere l x apart was =
          record {
            slots_long = was.slots_long;
            marks_long = was.marks_long;
            stands = λ slot t z less there is job layer. by slot t z less there is job layer (cases_lt slot i);
          }
        where
          by : (slot : ℕ) (t : SlotRow) (z : Frame) → slot < i + 1 → slice_get slots slot ≡ Some t → t.frame ≡ Some z → z.job ≡ l.job → z.layer ≡ l.place → (slot < i) ⊎ (i ≤ slot)
              → (slice_get x.slots z.position ≡ Some slot) × (slice_get x.waiting z.position ≡ Some (is_waiting z.state))
          by slot t z less there is job layer (inl before) = was.stands slot t z before there is job layer
          by slot t z less there is job layer (inr behind) =
              let same = its_frame slot t z (omega (arith, less, behind)) there is in
              absurd (apart (ap (λ (f : Frame). f.job) same ∙ job) (ap (λ (f : Frame). f.layer) same ∙ layer))

      -- the frame's own layer
      here : (l : LayerRow) (x : LayerPlaces) → y.job ≡ l.job → y.layer ≡ l.place → y.position < range_length l → IsNoted slots i l x → IsNoted slots (i + 1) l (with_slot y.position i (is_waiting y.state) x)
      here l x own its_place within was =
          record {
            slots_long = length-slice_set x.slots y.position i ∙ was.slots_long;
            marks_long = length-slice_set x.waiting y.position (is_waiting y.state) ∙ was.marks_long;
            stands = λ slot t z less there is job layer. by slot t z less there is job layer (cases_lt slot i);
          }
        where
          old_slot : (n : ℕ) × (slice_get x.slots y.position ≡ Some n)
          old_slot = slice_get_below x.slots y.position (omega (arith, within, was.slots_long))

          old_mark : (b : Bool) × (slice_get x.waiting y.position ≡ Some b)
          old_mark = slice_get_below x.waiting y.position (omega (arith, within, was.marks_long))

          other : (slot : ℕ) (t : SlotRow) (z : Frame) → slot < i → slice_get slots slot ≡ Some t → t.frame ≡ Some z → z.job ≡ l.job → z.layer ≡ l.place → z.position ≢ y.position
          other slot t z before there is job layer same =
              absurd (omega (arith, before, once slot i t s z y there is at framed (parts_placed z.job z.layer z.position y (record { job_is = own ∙ sym job; layer_is = its_place ∙ sym layer; position_is = sym same }))))

          by : (slot : ℕ) (t : SlotRow) (z : Frame) → slot < i + 1 → slice_get slots slot ≡ Some t → t.frame ≡ Some z → z.job ≡ l.job → z.layer ≡ l.place → (slot < i) ⊎ (i ≤ slot)
              → (slice_get (slice_set x.slots y.position i) z.position ≡ Some slot) × (slice_get (slice_set x.waiting y.position (is_waiting y.state)) z.position ≡ Some (is_waiting z.state))
          by slot t z less there is job layer (inl before) =
              let apart = other slot t z before there is job layer in
              let had = was.stands slot t z before there is job layer in
              (slice_get-set_other x.slots y.position z.position i apart ∙ had.0, slice_get-set_other x.waiting y.position z.position (is_waiting y.state) apart ∙ had.1)
          by slot t z less there is job layer (inr behind) =
              let number : slot ≡ i = omega (arith, less, behind) in
              let same = its_frame slot t z number there is in
              let set = slice_get-set_same x.slots y.position old_slot.0 i old_slot.1 in
              let mark = slice_get-set_same x.waiting y.position old_mark.0 (is_waiting y.state) old_mark.1 in (
                ap (λ (f : Frame). slice_get (slice_set x.slots y.position i) f.position) (sym same) ∙ set ∙ ap Some (sym number),
                ap (λ (f : Frame). slice_get (slice_set x.waiting y.position (is_waiting y.state)) f.position) (sym same) ∙ mark ∙ ap (λ (f : Frame). Some (is_waiting f.state)) same,
              )

      with_frame : (index : List LayerPlaces) → AreNoted slots i layers index → AreNoted slots (i + 1) layers (noted_frame i layers (Some y) index)
      with_frame index was =
          let own = has_layer layers y (frame_at i s y at framed) in
          let place : ℕ = layer_position y.job y.layer layers in
          let change : LayerPlaces → LayerPlaces = with_slot y.position i (is_waiting y.state) in
          record {
            as_many = length-changed_at index place change ∙ was.as_many;
            each = λ n l x there is. changed_at_each (λ (m : ℕ) (z : LayerPlaces). (k : LayerRow) → slice_get layers m ≡ Some k → IsNoted slots (i + 1) k z) index place change
                (λ z stood k row.
                let same : own.layer ≡ k = same_Some own.layer k (sym own.at ∙ row) in
                here k z (sym own.job_is ∙ ap (λ (r : LayerRow). r.job) same) (sym own.place_is ∙ ap (λ (r : LayerRow). r.place) same) (subst (λ (r : LayerRow). y.position < range_length r) same own.within) (was.each place k z row stood))
                (λ m z apart stood k row.
                elsewhere k z (λ job layer. apart (sym (at_row layers 0 high m k rise row) ∙ ap (λ (j : ℕ). layer_position j k.place layers) (sym job) ∙ ap (λ (p : ℕ). layer_position y.job p layers) (sym layer))) (was.each m k z row stood))
                n x is l there;
          }

    one_more : (frame : Option Frame) → s.frame ≡ frame → (index : List LayerPlaces) → AreNoted slots i layers index → AreNoted slots (i + 1) layers (noted_frame i layers frame index)
    one_more None none index was = record { as_many = was.as_many; each = λ n l x there is. without none l x (was.each n l x there is) }
    one_more (Some y) framed index was = with_frame y framed index was

  all_from : (i : ℕ) (rest : List SlotRow) (index : List LayerPlaces) → ((k : ℕ) → slice_get slots (i + k) ≡ slice_get rest k) → AreNoted slots i layers index → AreNoted slots (i + length rest) layers (noted_from i layers rest index)
  all_from i [] index same was = let e : i ≡ i + 0 = omega arith in subst (λ (n : ℕ). AreNoted slots n layers index) e was
  all_from i (s ∷ ss) index same was =
      let first : slice_get slots i ≡ Some s = (let e : i ≡ i + 0 = omega arith in ap (slice_get slots) e) ∙ same 0 in
      let e : i + 1 + length ss ≡ i + suc (length ss) = omega arith in
      subst (λ (n : ℕ). AreNoted slots n layers (noted_from (i + 1) layers ss (noted_frame i layers s.frame index))) e
      (all_from (i + 1) ss (noted_frame i layers s.frame index) (λ k. (let on : i + 1 + k ≡ i + suc k = omega arith in ap (slice_get slots) on) ∙ same (suc k)) (one_more i s first s.frame refl index was))

  abbrev noted : List LayerPlaces
  noted = noted_from 0 layers slots (map unplaced layers)

  all_noted : AreNoted slots (0 + length slots) layers noted
  all_noted = all_from 0 slots (map unplaced layers) (λ k. let e : 0 + k ≡ k = omega arith in ap (slice_get slots) e) (none_noted slots layers)

  pub noted_count : length noted ≡ length layers
  noted_count = all_noted.as_many

  its_stand : (n : ℕ) (l : LayerRow) (x : LayerPlaces) → slice_get layers n ≡ Some l → slice_get noted n ≡ Some x → (slot : ℕ) (s : SlotRow) (y : Frame) → slice_get slots slot ≡ Some s → s.frame ≡ Some y → y.job ≡ l.job → y.layer ≡ l.place
      → (slice_get x.slots y.position ≡ Some slot) × (slice_get x.waiting y.position ≡ Some (is_waiting y.state))
  its_stand n l x at there slot s y row is job layer = (all_noted.each n l x at there).stands slot s y (omega (arith, slice_get_within slots slot s row)) row is job layer

  first_is : (slot : ℕ) (row : SlotRow) (x : Frame) → slice_get slots slot ≡ Some row → row.frame ≡ Some x → slot_from 0 (is_placed x.job x.layer x.position) slots ≡ Some slot
  first_is slot row x at is = by (slot_from 0 (is_placed x.job x.layer x.position) slots) refl
    where
      by : (o : Option ℕ) → slot_from 0 (is_placed x.job x.layer x.position) slots ≡ o → slot_from 0 (is_placed x.job x.layer x.position) slots ≡ Some slot
      by None none = absurd (none_found 0 (is_placed x.job x.layer x.position) slots slot row x none at is (parts_placed x.job x.layer x.position x (record { job_is = refl; layer_is = refl; position_is = refl })))
      by (Some m) found =
          let its = from_slot (is_placed x.job x.layer x.position) slots m found in
          found ∙ ap Some (sym (once slot m row its.row x its.frame at is its.at its.is its.passes))

  module _ (there : EachThere layers slots) where
    -- a layer that is there
    module _ (n : ℕ) (l : LayerRow) (x : LayerPlaces) (at : slice_get layers n ≡ Some l) (has : slice_get noted n ≡ Some x) where
      at_position : (position : ℕ) (o : Option ℕ) → slot_from 0 (is_placed l.job l.place position) slots ≡ o → o ≡ slice_get x.slots position
      at_position position (Some slot) found =
          let its = from_slot (is_placed l.job l.place position) slots slot found in
          let parts = placed_parts l.job l.place position its.frame its.passes in
          sym (sym (ap (slice_get x.slots) parts.position_is) ∙ (its_stand n l x at has slot its.row its.frame its.at its.is parts.job_is parts.layer_is).0)
      at_position position None none = sym (slice_get_past x.slots position (by (cases_lt position (length x.slots))))
        where
          by : (position < length x.slots) ⊎ (length x.slots ≤ position) → length x.slots ≤ position
          by (inr past) = past
          by (inl within) =
              absurd (true≢false (sym (there n l at position (omega (arith, within, (all_noted.each n l x at has).slots_long))) ∙ ap (λ (o : Option ℕ). is_some o) none))

      mark_at : (k m : ℕ) → slice_get x.slots k ≡ Some m → slice_get x.waiting k ≡ Some (waits_in slots m)
      mark_at k m stands = by (slot_from 0 (is_placed l.job l.place k) slots) refl
        where
          by : (o : Option ℕ) → slot_from 0 (is_placed l.job l.place k) slots ≡ o → slice_get x.waiting k ≡ Some (waits_in slots m)
          by None none = absurd (none-some m (at_position k None none ∙ stands))
          by (Some slot) found =
              let its = from_slot (is_placed l.job l.place k) slots slot found in
              let parts = placed_parts l.job l.place k its.frame its.passes in
              let mark = (its_stand n l x at has slot its.row its.frame its.at its.is parts.job_is parts.layer_is).1 in
              let same : slot ≡ m = same_Some slot m (at_position k (Some slot) found ∙ stands) in
              let waits : waits_in slots m ≡ is_waiting its.frame.state = rw (sym same) (rw its.at (rw its.is refl)) in
              sym (ap (slice_get x.waiting) parts.position_is) ∙ mark ∙ ap Some (sym waits)

      marks_are : x.waiting ≡ map (waits_in slots) x.slots
      marks_are =
          let long = all_noted.each n l x at has in
          marks_by (waits_in slots) x.waiting x.slots (long.marks_long ∙ sym long.slots_long) mark_at

    found_at : (job layer position : ℕ) → slot_from 0 (is_placed job layer position) slots ≡ place_in (map slots_of noted) (layer_position job layer layers) position
    found_at job layer position = by (slice_get layers (layer_position job layer layers)) refl
      where
        by : (o : Option LayerRow) → slice_get layers (layer_position job layer layers) ≡ o → slot_from 0 (is_placed job layer position) slots ≡ place_in (map slots_of noted) (layer_position job layer layers) position
        by (Some l) at =
            let x = slice_get_below noted (layer_position job layer layers) (omega (arith, noted_count, slice_get_within layers (layer_position job layer layers) l at)) in
            let own = and_both (eqb l.job job) (eqb l.place layer) (found_is (λ (k : LayerRow). eqb k.job job && eqb k.place layer) layers l (find_at (λ (k : LayerRow). eqb k.job job && eqb k.place layer) layers ∙ at)) in
            let read : slice_get (map slots_of noted) (layer_position job layer layers) ≡ Some x.0.slots = slice_get-map slots_of noted (layer_position job layer layers) ∙ ap (option_map slots_of) x.1 in
            let stands = at_position (layer_position job layer layers) l x.0 at x.1 position (slot_from 0 (is_placed l.job l.place position) slots) refl in
            ap (λ (j : ℕ). slot_from 0 (is_placed j layer position) slots) (sym (eqb-true l.job job own.0))
            ∙ ap (λ (p : ℕ). slot_from 0 (is_placed l.job p position) slots) (sym (eqb-true l.place layer own.1))
            ∙ stands
            ∙ sym (ap (option_and_then (λ (ns : List ℕ). slice_get ns position)) read)
        by None none =
            let past : slice_get (map slots_of noted) (layer_position job layer layers) ≡ None = slice_get-map slots_of noted (layer_position job layer layers) ∙ ap (option_map slots_of) (none_alike layers noted noted_count (layer_position job layer layers) none) in
            nowhere (slot_from 0 (is_placed job layer position) slots) refl ∙ sym (ap (option_and_then (λ (ns : List ℕ). slice_get ns position)) past)
          where
            none_alike : {X Y : Type 0} (xs : List X) (ys : List Y) → length ys ≡ length xs → (n : ℕ) → slice_get xs n ≡ None → slice_get ys n ≡ None
            none_alike [] [] same n none = refl
            none_alike [] (y ∷ ys) same n none = absurd (omega (arith, same))
            none_alike (x ∷ xs) [] same n none = refl
            none_alike (x ∷ xs) (y ∷ ys) same zero none = absurd (none-some x (sym none))
            none_alike (x ∷ xs) (y ∷ ys) same (suc n) none = none_alike xs ys (omega (arith, same)) n none

            nowhere : (o : Option ℕ) → slot_from 0 (is_placed job layer position) slots ≡ o → slot_from 0 (is_placed job layer position) slots ≡ None
            nowhere None is = is
            nowhere (Some slot) is =
                let its = from_slot (is_placed job layer position) slots slot is in
                let parts = placed_parts job layer position its.frame its.passes in
                let own = has_layer layers its.frame (frame_at slot its.row its.frame its.at its.is) in
                absurd (none-some own.layer (sym none ∙ ap (λ (j : ℕ). slice_get layers (layer_position j layer layers)) (sym parts.job_is) ∙ ap (λ (p : ℕ). slice_get layers (layer_position its.frame.job p layers)) (sym parts.layer_is) ∙ own.at))

    pub noted_layers : KeepsLayers layers slots (map slots_of noted)
    noted_layers = record { as_many = length-map noted slots_of ∙ noted_count; found = found_at; first = first_is }

    pub noted_waiting : KeepsWaiting slots noted
    noted_waiting = record {
      marks = λ place x at.
          let l = slice_get_below layers place (omega (arith, noted_count, slice_get_within noted place x at)) in
          marks_are place l.0 x l.1 at;
    }
