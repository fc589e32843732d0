-- Where the frame at a position of a layer stands, and whether it waits, when one slot's row is set.
use Rattle.std.proofs.Common.{◌≡◌, ◌≢◌, ℕ, zero, suc, ◌+◌, ◌<◌, ◌&&◌, Bool, true, false, eqb, List, [], ◌∷◌, map, get_or, Option, Some, option_map, refl, sym, ap, subst, ◌∙◌, ◌⊎◌, inl, inr, arith}
use Rattle.std.specs.List.{slice_get, slice_set}
use Rattle.std.specs.Option.{option_and_then}
use Rattle.std.proofs.lemmas.Bool.{eqb-true, eq-eqb}
use Rattle.std.proofs.lemmas.List.Sums.{position_or_len_is}
use Rattle.std.proofs.lemmas.Option.{none-some, same_Some, slice_get_within, get_or_from_slice_get, slice_get-map}
use Rattle.farm_types.specs.declared.rows.LayerRow.{LayerRow}
use Rattle.farm_types.specs.declared.slot_row.Frame.{Frame}
use Rattle.farm_types.specs.declared.slot_row.SlotRow.{SlotRow}
use Rattle.farm_types.specs.declared.states.FrameState.{FrameState}
use Rattle.farm_types.specs.Booking.{is_waiting}
use Rattle.farm_types.specs.Farm.{for_some, changed_at, is_placed, slot_from}
use Rattle.farm_types.specs.Rising.{IsRising}
use Rattle.farm_types.proofs.Changed.{places, changed_at_each, changed_at_other, changed_at_same}
use Rattle.farm_types.proofs.ChangedLists.{map-changed_at_kept}
use Rattle.farm_types.proofs.Lists.{and_both, for_some_true, slice_get_below}
use Rattle.job_book.specs.Index.{waits_in}
use Rattle.job_book.specs.Inside.{layer_key}
use Rattle.job_book.specs.Layers.{KeepsLayers, KeepsWaiting, place_in, slots_of}
use Rattle.job_entries.specs.Entries.{layer_position}
use Rattle.job_index.specs.Places.{LayerPlaces, marked}
use Rattle.job_book.proofs.InState.{IsInState, read_same, with_row}
use Rattle.farm_types.proofs.Searched.{rises}

-- ---- where a frame is found

-- the slot at a place has a frame that passes
pub record IsAt (slots : List SlotRow) (test : Frame → Bool) (place : ℕ) : Type 0 where
  pub row : SlotRow
  pub frame : Frame
  pub at : slice_get slots place ≡ Some row
  pub is : row.frame ≡ Some frame
  pub passes : test frame ≡ true

from_step : (b : Bool) (p : ℕ) (test : Frame → Bool) (s : SlotRow) (ss : List SlotRow) (i : ℕ) → for_some s.frame test ≡ b
    → (slot_from (p + 1) test ss ≡ Some i → (k : ℕ) × (i ≡ p + 1 + k) × IsAt ss test k) → slot_from p test (s ∷ ss) ≡ Some i → (k : ℕ) × (i ≡ p + k) × IsAt (s ∷ ss) test k
from_step true p test s ss i is later found =
    let here : p ≡ i = same_Some p i (rw is at found) in
    let its = for_some_true s.frame test is in
    (0, omega (arith, here), record { row = s; frame = its.0; at = refl; is = its.1; passes = its.2 })
from_step false p test s ss i is later found =
    let there = later (rw is at found) in
    let at = there.2 in
    (suc there.0, omega (arith, there.1), record { row = at.row; frame = at.frame; at = at.at; is = at.is; passes = at.passes })

slot_from_is : (p : ℕ) (test : Frame → Bool) (slots : List SlotRow) (i : ℕ) → slot_from p test slots ≡ Some i → (k : ℕ) × (i ≡ p + k) × IsAt slots test k
slot_from_is p test [] i found = absurd (none-some i found)
slot_from_is p test (s ∷ ss) i found = from_step (for_some s.frame test) p test s ss i refl (slot_from_is (p + 1) test ss i) found

pub from_slot : (test : Frame → Bool) (slots : List SlotRow) (i : ℕ) → slot_from 0 test slots ≡ Some i → IsAt slots test i
from_slot test slots i found =
    let there = slot_from_is 0 test slots i found in
    let same : there.0 ≡ i = omega (arith, there.1) in
    subst (IsAt slots test) same there.2

-- slots of which the test says the same
slot_from_alike : (p : ℕ) (test : Frame → Bool) (new old : List SlotRow) → map (λ (s : SlotRow). for_some s.frame test) new ≡ map (λ (s : SlotRow). for_some s.frame test) old → slot_from p test new ≡ slot_from p test old
slot_from_alike p test [] [] same = refl
slot_from_alike p test [] (s ∷ ss) same = absurd (cc)
slot_from_alike p test (r ∷ rs) [] same = absurd (cc)
slot_from_alike p test (r ∷ rs) (s ∷ ss) same =
    let first : for_some r.frame test ≡ for_some s.frame test = cc in
    let others : map (λ (s : SlotRow). for_some s.frame test) rs ≡ map (λ (s : SlotRow). for_some s.frame test) ss = cc in
    rw (first, slot_from_alike (p + 1) test rs ss others) refl

-- ---- the layer at a place

-- a layer is found at its place, since the keys rise
pub at_row : (layers : List LayerRow) (low high m : ℕ) (l : LayerRow) → IsRising layer_key low layers high → slice_get layers m ≡ Some l → layer_position l.job l.place layers ≡ m
at_row layers low high m l rise at =
    let within = slice_get_within layers m l at in
    let here : get_or layers m l ≡ l = get_or_from_slice_get layers m l l at in
    position_or_len_is (λ (r : LayerRow). eqb r.job l.job && eqb r.place l.place) layers m l (omega (arith, within))
    (λ k less. apart (get_or layers k l) (subst (λ (r : LayerRow). layer_key (get_or layers k l) < layer_key r) here (rises layer_key low layers high k m l rise less within)))
    (λ _. rw here (rw (eq-eqb l.job l.job refl, eq-eqb l.place l.place refl) refl))
  where
    apart : (r : LayerRow) → layer_key r < layer_key l → (eqb r.job l.job && eqb r.place l.place) ≡ false
    apart r less = by (eqb r.job l.job) (eqb r.place l.place) refl refl
      where
        by : (a b : Bool) → eqb r.job l.job ≡ a → eqb r.place l.place ≡ b → (a && b) ≡ false
        by false b j p = refl
        by true false j p = refl
        by true true j p = absurd (omega (arith, less, eqb-true r.job l.job j, eqb-true r.place l.place p))

-- what stands in a list is where the frame at that position of a layer is found
pub record IsListed (layers : List LayerRow) (slots : List SlotRow) (place position slot : ℕ) : Type 0 where
  pub layer : LayerRow
  pub at : slice_get layers place ≡ Some layer
  pub there : layer_position layer.job layer.place layers ≡ place
  pub found : slot_from 0 (is_placed layer.job layer.place position) slots ≡ Some slot

pub listed : (layers : List LayerRow) (slots : List SlotRow) (index : List LayerPlaces) (high m k i : ℕ) (x : LayerPlaces) → IsRising layer_key 0 layers high → KeepsLayers layers slots (map slots_of index)
    → slice_get index m ≡ Some x → slice_get x.slots k ≡ Some i → IsListed layers slots m k i
listed layers slots index high m k i x rise keeps at there =
    let read : slice_get (map slots_of index) m ≡ Some x.slots = slice_get-map slots_of index m ∙ ap (option_map slots_of) at in
    let row = slice_get_below layers m (omega (arith, slice_get_within (map slots_of index) m x.slots read, keeps.as_many)) in
    let its_place = at_row layers 0 high m row.0 rise row.1 in
    record {
      layer = row.0;
      at = row.1;
      there = its_place;
      found =
          keeps.found row.0.job row.0.place k ∙ ap (λ (n : ℕ). place_in (map slots_of index) n k) its_place
          ∙ ap (option_and_then (λ (ns : List ℕ). slice_get ns k)) read ∙ there;
    }

-- ---- marks

abbrev frame_waits : Option SlotRow → Bool
frame_waits o = for_some o (λ (s : SlotRow). for_some s.frame (λ z. is_waiting z.state))

pub map_same : (f g : ℕ → Bool) (ns : List ℕ) → ((j n : ℕ) → slice_get ns j ≡ Some n → g n ≡ f n) → map g ns ≡ map f ns
map_same f g [] same = refl
map_same f g (n ∷ ns) same = λ j. same 0 n refl j ∷ map_same f g ns (λ k m at. same (suc k) m at) j

map_set_at : (f g : ℕ → Bool) (ns : List ℕ) (k : ℕ) (b : Bool) → ((j n : ℕ) → slice_get ns j ≡ Some n → j ≢ k → g n ≡ f n) → ((n : ℕ) → slice_get ns k ≡ Some n → g n ≡ b)
    → map g ns ≡ slice_set (map f ns) k b
map_set_at f g [] k b others here = refl
map_set_at f g (n ∷ ns) zero b others here = λ j. here n refl j ∷ map_same f g ns (λ i m at. others (suc i) m at (λ e. absurd (omega (arith, e)))) j
map_set_at f g (n ∷ ns) (suc k) b others here =
    λ j. others 0 n refl (λ e. absurd (omega (arith, e))) j ∷ map_set_at f g ns k b (λ i m at apart. others (suc i) m at (λ e. apart (omega (arith, e)))) (λ m at. here m at) j

-- ---- one slot's row is set, its frame in any state

module _ (layers : List LayerRow) (slots : List SlotRow) (index : List LayerPlaces) (high : ℕ) (rise : IsRising layer_key 0 layers high) (keeps : KeepsLayers layers slots (map slots_of index)) (waiting : KeepsWaiting slots index)
    (i : ℕ) (row : SlotRow) (y : Frame) (state : FrameState) (r : IsInState slots i row y state) where
  abbrev new : List SlotRow
  new = with_row slots i row

  abbrev place : ℕ
  place = layer_position y.job y.layer layers

  -- each frame is found where it was
  found_same : (job layer k : ℕ) → slot_from 0 (is_placed job layer k) new ≡ slot_from 0 (is_placed job layer k) slots
  found_same job layer k = slot_from_alike 0 (is_placed job layer k) new slots (read_same slots i row y state r (λ (s : SlotRow). for_some s.frame (is_placed job layer k)) (rw (r.is, r.was) refl))

  its_slot : slot_from 0 (is_placed y.job y.layer y.position) slots ≡ Some i
  its_slot = keeps.first i r.old y r.at r.was

  pub kept_layers : KeepsLayers layers new (map slots_of (changed_at index place (marked y.position (is_waiting state))))
  kept_layers =
      rw (map-changed_at_kept slots_of (marked y.position (is_waiting state)) (λ x. refl) index place) (record {
        as_many = keeps.as_many;
        found = λ job layer k. found_same job layer k ∙ keeps.found job layer k;
        first = λ n s x there is.
            changed_at_each (λ (m : ℕ) (t : SlotRow). (z : Frame) → t.frame ≡ Some z → slot_from 0 (is_placed z.job z.layer z.position) new ≡ Some m) slots i (λ _. row)
            (λ t was z e. found_same z.job z.layer z.position ∙ subst (λ (f : Frame). slot_from 0 (is_placed f.job f.layer f.position) slots ≡ Some i) (same_Some (record y { state = state; retries = r.retries }) z (sym r.is ∙ e)) its_slot)
            (λ m t apart was z e. found_same z.job z.layer z.position ∙ keeps.first m t z was e) n s there x is;
      })

  elsewhere_same : (n : ℕ) → n ≢ i → waits_in new n ≡ waits_in slots n
  elsewhere_same n apart = ap frame_waits (changed_at_other slots i n (λ _. row) apart)

  waits : waits_in new i ≡ is_waiting state
  waits = ap frame_waits (changed_at_same slots i (λ _. row) r.old r.at) ∙ rw r.is refl

  -- the slot stands in the list of its frame's layer, at its frame's position, or nowhere
  its_place : (m k : ℕ) (x : LayerPlaces) → slice_get index m ≡ Some x → slice_get x.slots k ≡ Some i → (m ≡ place) × (k ≡ y.position)
  its_place m k x here there =
      let found = listed layers slots index high m k i x rise keeps here there in
      let its = from_slot (is_placed found.layer.job found.layer.place k) slots i found.found in
      let old : its.row ≡ r.old = same_Some its.row r.old (sym its.at ∙ r.at) in
      let frame : its.frame ≡ y = same_Some its.frame y (sym its.is ∙ ap (λ (s : SlotRow). s.frame) old ∙ r.was) in
      let passes : is_placed found.layer.job found.layer.place k y ≡ true = subst (λ (z : Frame). is_placed found.layer.job found.layer.place k z ≡ true) frame its.passes in
      let split = and_both (eqb y.job found.layer.job && eqb y.layer found.layer.place) (eqb y.position k) passes in
      let rest = and_both (eqb y.job found.layer.job) (eqb y.layer found.layer.place) split.0 in
      let job : found.layer.job ≡ y.job = sym (eqb-true y.job found.layer.job rest.0) in
      let layer : found.layer.place ≡ y.layer = sym (eqb-true y.layer found.layer.place rest.1) in
      (sym found.there ∙ ap (λ (n : ℕ). layer_position n found.layer.place layers) job ∙ ap (λ (n : ℕ). layer_position y.job n layers) layer, sym (eqb-true y.position k split.1))

  others_same : (m : ℕ) (x : LayerPlaces) → slice_get index m ≡ Some x → ((k : ℕ) → slice_get x.slots k ≡ Some i → ⊥) → map (waits_in new) x.slots ≡ map (waits_in slots) x.slots
  others_same m x here none = map_same (waits_in slots) (waits_in new) x.slots (λ j n there. by j n there (places n i))
    where
      by : (j n : ℕ) → slice_get x.slots j ≡ Some n → (n ≡ i) ⊎ (n ≢ i) → waits_in new n ≡ waits_in slots n
      by j n there (inl e) = absurd (none j (there ∙ ap Some e))
      by j n there (inr apart) = elsewhere_same n apart

  here_marked : (x : LayerPlaces) → slice_get index place ≡ Some x → slice_set x.waiting y.position (is_waiting state) ≡ map (waits_in new) x.slots
  here_marked x here =
      let read : slice_get (map slots_of index) place ≡ Some x.slots = slice_get-map slots_of index place ∙ ap (option_map slots_of) here in
      let stands : slice_get x.slots y.position ≡ Some i = sym (ap (option_and_then (λ (ns : List ℕ). slice_get ns y.position)) read) ∙ sym (keeps.found y.job y.layer y.position) ∙ its_slot in
      ap (λ bs. slice_set bs y.position (is_waiting state)) (waiting.marks place x here) ∙ sym (map_set_at (waits_in slots) (waits_in new) x.slots y.position (is_waiting state)
      (λ j m there apart. other j m there apart (places m i))
      (λ m there. ap (waits_in new) (same_Some m i (sym there ∙ stands)) ∙ waits))
    where
      other : (j m : ℕ) → slice_get x.slots j ≡ Some m → j ≢ y.position → (m ≡ i) ⊎ (m ≢ i) → waits_in new m ≡ waits_in slots m
      other j m there apart (inl e) = absurd (apart (its_place place j x here (there ∙ ap Some e)).1)
      other j m there apart (inr far) = elsewhere_same m far

  -- the frame's mark is set where it waits, and taken where it doesn't
  pub marked_waiting : KeepsWaiting new (changed_at index place (marked y.position (is_waiting state)))
  marked_waiting = record {
    marks = changed_at_each (λ (m : ℕ) (x : LayerPlaces). x.waiting ≡ map (waits_in new) x.slots) index place (marked y.position (is_waiting state))
        (λ x here. here_marked x here)
        (λ m x apart here. waiting.marks m x here ∙ sym (others_same m x here (λ k there. apart (its_place m k x here there).0)));
  }
