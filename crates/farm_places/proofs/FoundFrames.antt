-- The frame of a number in a layer, found by the numbers of the frames in the layer's slots, is the one that a place names.
use Rattle.std.proofs.Common.{◌≡◌, ◌∙◌, ℕ, ℤ, zero, suc, Bool, true, false, cond, List, [], ◌∷◌, length, map, Option, Some, None, Ok, Err, option_map, refl, sym, ap, subst, arith}
use Rattle.std.specs.Prelude.{is_some}
use Rattle.std.specs.List.{AllByRecursion, IsDistinct, find, list_any, slice_get}
use Rattle.std.specs.Ordering.{int_eq}
use Rattle.std.proofs.lemmas.Bool.{false≢true, false_from_ne_true}
use Rattle.std.proofs.lemmas.Bool.Decides.{Decides-int_eq}
use Rattle.std.proofs.lemmas.Map.Keys.{IsDistinct-head, IsDistinct-tail}
use Rattle.std.proofs.lemmas.Option.{none-some, same_Some, slice_get-map}
use Rattle.farm_types.specs.declared.depend.LayerShape.{LayerShape}
use Rattle.farm_types.specs.declared.entry.FramePlace.{FramePlace}
use Rattle.farm_types.specs.declared.fault.FarmFault.{FarmFault}
use Rattle.farm_types.specs.declared.fault.FarmFault.TheVariants.{Refused, NoMemory}
use Rattle.farm_types.specs.declared.refusal.Refusal.{Refusal}
use Rattle.farm_types.specs.declared.refusal.Refusal.TheVariants.{Unknown}
use Rattle.farm_types.specs.declared.rows.JobRow.{JobRow}
use Rattle.farm_types.specs.declared.rows.LayerRow.{LayerRow}
use Rattle.farm_types.specs.declared.slot_row.SlotRow.{SlotRow}
use Rattle.farm_types.specs.DependActs.{has_number, layer_of_name, layer_refusal, pending_named, place_refusal}
use Rattle.farm_types.specs.Depends.{layer_shape, slots_placed}
use Rattle.farm_types.specs.Farm.{Farm, for_some, is_placed, layers_of, slot_from}
use Rattle.farm_types.specs.Faults.{IsRefusal}
use Rattle.farm_types.specs.Groups.{or_no_layer, slot_numbered, slots_of_part}
use Rattle.farm_types.specs.Jobs.{JobLists}
use Rattle.farm_types.specs.Kept.{KeepsJobs, KeepsRows}
use Rattle.farm_types.specs.Names.{frame_name}
use Rattle.farm_types.specs.Operators.{first_of, place_of, slot_in_job, slot_named}
use Rattle.farm_types.specs.Ranges.{range_numbers}
use Rattle.farm_types.specs.Step.{lists_of}
use Rattle.farm_types.proofs.Ranges.{range_distinct}
use Rattle.job_book.specs.Book.{has_frame}
use Rattle.farm_places.specs.Ends.{number_at}
use Rattle.farm_places.specs.Frames.{FindsFrame, has_number_at}
use Rattle.farm_places.proofs.KeptShapes.{length-placed, named_at, numbers_are, slots_are}
use Rattle.farm_places.proofs.ShownParts.{find_shapes, found_there, pending_is}

-- ---- the search by the numbers of the frames in the slots

found_by : (b : Bool) (slot : ℕ) (found : Option ℕ) (rest : List ℕ) → found ≡ first_of rest → cond b (Some slot) found ≡ first_of (cond b (slot ∷ []) rest)
found_by true slot found rest is = refl
found_by false slot found rest is = is

-- it finds what the list of the numbers does
found_slot : (slots : List SlotRow) (number : ℤ) (ss : List ℕ) → find (has_number_at slots number) ss ≡ first_of (slot_numbered number (map (number_at slots) ss) ss)
found_slot slots number [] = refl
found_slot slots number (s ∷ ss) =
    found_by (int_eq (number_at slots s) number) s (find (has_number_at slots number) ss) (slot_numbered number (map (number_at slots) ss) ss) (found_slot slots number ss)

other_at : (n number : ℤ) (ns : List ℤ) (place : ℕ) → AllByRecursion (λ (m : ℤ). int_eq n m ≡ false) ns → slice_get ns place ≡ Some number → int_eq n number ≡ false
other_at n number [] place apart at = absurd (none-some number at)
other_at n number (m ∷ ns) zero apart at = ap (int_eq n) (sym (same_Some m number at)) ∙ apart.0
other_at n number (m ∷ ns) (suc place) apart at = other_at n number ns place apart.1 at

-- where no number stands twice, it finds the slot whose frame has the number
pub found_apart : (slots : List SlotRow) (number : ℤ) (ss : List ℕ) (slot place : ℕ) → IsDistinct int_eq (map (number_at slots) ss) → slice_get ss place ≡ Some slot → number_at slots slot ≡ number
    → find (has_number_at slots number) ss ≡ Some slot
found_apart slots number [] slot place apart at is = absurd (none-some slot at)
found_apart slots number (s ∷ ss) slot zero apart at is =
    ap (λ (b : Bool). cond b (Some s) (find (has_number_at slots number) ss)) ((Decides-int_eq (number_at slots s) number).1 (ap (number_at slots) (same_Some s slot at) ∙ is)) ∙ at
found_apart slots number (s ∷ ss) slot (suc place) apart at is =
    let ns = map (number_at slots) ss in
    let there : slice_get ns place ≡ Some number = slice_get-map (number_at slots) ss place ∙ (ap (option_map (number_at slots)) at ∙ ap Some is) in
    ap (λ (b : Bool). cond b (Some s) (find (has_number_at slots number) ss)) (other_at (number_at slots s) number ns place (IsDistinct-head int_eq (number_at slots s) ns apart) there)
    ∙ found_apart slots number ss slot place (IsDistinct-tail int_eq (number_at slots s) ns apart) at is

-- the slots of a layer's frames
module _ (b : JobLists) (shows : ℕ) (keeps : KeepsJobs b shows) (place : ℕ) (l : LayerRow) (at : slice_get b.layers place ≡ Some l) (ss : List ℕ)
    (stand : (position : ℕ) → slot_from 0 (is_placed l.job l.place position) b.slots ≡ slice_get ss position) where
  pub numbers_apart : IsDistinct int_eq (map (number_at b.slots) ss)
  numbers_apart = subst (IsDistinct int_eq) (sym (numbers_are b shows keeps place l at ss stand)) (range_distinct l.range)

  -- the slot that is found among them is that of the layer's shape
  pub layer_found : (number : ℤ) → find (has_number_at b.slots number) ss ≡ first_of (slots_of_part (layer_shape b.slots l) (Some number))
  layer_found number =
      found_slot b.slots number ss
      ∙ (ap (λ (ns : List ℤ). first_of (slot_numbered number ns ss)) (numbers_are b shows keeps place l at ss stand)
      ∙ ap (λ (found : List ℕ). first_of (slot_numbered number (range_numbers l.range) found)) (slots_are b shows keeps place l at ss stand))

-- ---- a number of the layer has a slot

passed_over : (number n : ℤ) (ns : List ℤ) → int_eq n number ≡ false → list_any (int_eq number) (n ∷ ns) ≡ true → list_any (int_eq number) ns ≡ true
passed_over number n ns other there = rw apart at there
  where
    apart : int_eq number n ≡ false
    apart = false_from_ne_true (int_eq number n) (λ h. absurd (false≢true (sym other ∙ (Decides-int_eq n number).1 (sym ((Decides-int_eq number n).0 h)))))

numbered_there : (number : ℤ) (ns : List ℤ) (ss : List ℕ) → length ss ≡ length ns → list_any (int_eq number) ns ≡ true → is_some (first_of (slot_numbered number ns ss)) ≡ true
numbered_there number [] ss long there = absurd (false≢true there)
numbered_there number (n ∷ ns) [] long there = absurd (omega (arith, long))
numbered_there number (n ∷ ns) (s ∷ ss) long there = step (int_eq n number) refl (λ other. numbered_there number ns ss (omega (arith, long)) (passed_over number n ns other there))
  where
    step : (b : Bool) → int_eq n number ≡ b → (int_eq n number ≡ false → is_some (first_of (slot_numbered number ns ss)) ≡ true) → is_some (first_of (slot_numbered number (n ∷ ns) (s ∷ ss))) ≡ true
    step true is later = rw is refl
    step false is later = rw is (later is)

-- the place of a number in a layer's lists, with its slot
record StandsAt (number : ℤ) (ns : List ℤ) (ss : List ℕ) (slot : ℕ) : Type 0 where
  place : ℕ
  slot_there : slice_get ss place ≡ Some slot
  number_there : slice_get ns place ≡ Some number

numbered_at : (number : ℤ) (ns : List ℤ) (ss : List ℕ) (slot : ℕ) → first_of (slot_numbered number ns ss) ≡ Some slot → StandsAt number ns ss slot
numbered_at number [] ss slot is = absurd (none-some slot is)
numbered_at number (n ∷ ns) [] slot is = absurd (none-some slot is)
numbered_at number (n ∷ ns) (s ∷ ss) slot is = step (int_eq n number) refl (λ later. numbered_at number ns ss slot later)
  where
    step : (b : Bool) → int_eq n number ≡ b → (first_of (slot_numbered number ns ss) ≡ Some slot → StandsAt number ns ss slot) → StandsAt number (n ∷ ns) (s ∷ ss) slot
    step true same later = record { place = 0; slot_there = rw same at is; number_there = ap Some ((Decides-int_eq n number).0 same) }
    step false other later = let l = later (rw other at is) in record { place = suc l.place; slot_there = l.slot_there; number_there = l.number_there }

any_at : (number : ℤ) (ns : List ℤ) (place : ℕ) → slice_get ns place ≡ Some number → list_any (int_eq number) ns ≡ true
any_at number [] place at = absurd (none-some number at)
any_at number (n ∷ ns) zero at = let same : int_eq number n ≡ true = (Decides-int_eq number n).1 (sym (same_Some n number at)) in rw same refl
any_at number (n ∷ ns) (suc place) at = step (int_eq number n) refl (any_at number ns place at)
  where
    step : (b : Bool) → int_eq number n ≡ b → list_any (int_eq number) ns ≡ true → list_any (int_eq number) (n ∷ ns) ≡ true
    step true is later = rw is refl
    step false is later = rw is later

-- a layer has a number where its shape has a slot for it
has_it : (slots : List SlotRow) (l : LayerRow) (number : ℤ) (slot : ℕ) → first_of (slots_of_part (layer_shape slots l) (Some number)) ≡ Some slot → has_number number l ≡ true
has_it slots l number slot is =
    let numbers = range_numbers l.range in
    let s = numbered_at number numbers (slots_placed slots l.job l.place 0 numbers) slot is in
    any_at number numbers s.place s.number_there

-- and else it hasn't
hasnt_it : (slots : List SlotRow) (l : LayerRow) (number : ℤ) → first_of (slots_of_part (layer_shape slots l) (Some number)) ≡ None → has_number number l ≡ false
hasnt_it slots l number none =
    let numbers = range_numbers l.range in
    let placed = slots_placed slots l.job l.place 0 numbers in
    false_from_ne_true (has_number number l) (λ has. absurd (false≢true (sym (ap is_some none) ∙ numbered_there number numbers placed (length-placed slots l.job l.place 0 numbers) has)))

-- ---- the frame that a place names

-- a refusal, as it is told
pub refused_finds : (f : Farm) (p : FramePlace) (refusal : Refusal) (fault : FarmFault) → place_refusal f (place_of p) ≡ Some refusal → IsRefusal refusal fault → FindsFrame f p (Err fault)
refused_finds f p refusal (Refused why) is same = is ∙ ap Some (sym same)
refused_finds f p refusal NoMemory is same = tt

slot_in_found : (f : Farm) (p : FramePlace) (job : ℕ) (l : LayerRow) (o : Option JobRow) → Some job ≡ option_map (λ (j : JobRow). j.job) o → layer_of_name f job p.layer ≡ Some l
    → slot_in_job f p o ≡ first_of (slots_of_part (layer_shape f.slots l) (Some p.frame))
slot_in_found f p job l None is found = absurd (none-some job (sym is))
slot_in_found f p job l (Some j) is found =
    let own : layer_of_name f j.job p.layer ≡ Some l = ap (λ (k : ℕ). layer_of_name f k p.layer) (sym (same_Some job j.job is)) ∙ found in
    ap (λ (o : Option LayerShape). first_of (slots_of_part (or_no_layer o) (Some p.frame))) (find_shapes f.slots p.layer (layers_of f.layers j.job) ∙ ap (option_map (layer_shape f.slots)) own)

-- of a pending job of that number
module _ (f : Farm) (p : FramePlace) (job : ℕ) (pending : Some job ≡ option_map (λ (j : JobRow). j.job) (pending_named f p.job)) where
  refusal_by : (o : Option LayerRow) → layer_of_name f job p.layer ≡ o → place_refusal f (place_of p) ≡ layer_refusal p.layer (Some p.frame) o
  refusal_by o is = (pending_is f (place_of p) job pending).refusal ∙ ap (layer_refusal p.layer (Some p.frame)) is

  -- without the layer, the place is refused by its name
  pub layer_unknown : layer_of_name f job p.layer ≡ None → place_refusal f (place_of p) ≡ Some (Unknown p.layer)
  layer_unknown none = refusal_by None none

  -- without the frame in the layer, by the frame's
  pub frame_unknown : (l : LayerRow) → layer_of_name f job p.layer ≡ Some l → first_of (slots_of_part (layer_shape f.slots l) (Some p.frame)) ≡ None
      → place_refusal f (place_of p) ≡ Some (Unknown (frame_name p.frame l.name))
  frame_unknown l found none = refusal_by (Some l) found ∙ ap (λ (b : Bool). cond b None (Some (Unknown (frame_name p.frame l.name)))) (hasnt_it f.slots l p.frame none)

  -- else the slot of the layer's shape is that of the frame
  pub frame_found : (l : LayerRow) (slot : ℕ) → layer_of_name f job p.layer ≡ Some l → first_of (slots_of_part (layer_shape f.slots l) (Some p.frame)) ≡ Some slot → FindsFrame f p (Ok slot)
  unfolding slot_named
  frame_found l slot found is = (
    refusal_by (Some l) found ∙ ap (λ (b : Bool). cond b None (Some (Unknown (frame_name p.frame l.name)))) (has_it f.slots l p.frame slot is),
    slot_in_found f p job l (pending_named f p.job) pending found ∙ is,
  )

-- ---- a slot that is found has a frame

layer_holds : (f : Farm) (job : ℕ) (name : List ℕ) (number : ℤ) (slot : ℕ) → KeepsRows f → (o : Option LayerRow) → layer_of_name f job name ≡ o
    → first_of (slots_of_part (or_no_layer (option_map (layer_shape f.slots) o)) (Some number)) ≡ Some slot → has_frame (lists_of f) slot ≡ true
layer_holds f job name number slot kept None found is = absurd (none-some slot is)
layer_holds f job name number slot kept (Some l) found is =
    let numbers = range_numbers l.range in
    let s = numbered_at number numbers (slots_placed f.slots l.job l.place 0 numbers) slot is in
    let there = found_there (lists_of f) job name l found in
    let n = named_at (lists_of f) (length f.shows) kept.jobs there.0 l there.1 s.place slot number s.slot_there s.number_there in
    ap (λ (o : Option SlotRow). for_some o (λ (s : SlotRow). is_some s.frame)) n.at_slot ∙ ap is_some n.is

job_holds : (f : Farm) (p : FramePlace) (slot : ℕ) → KeepsRows f → (o : Option JobRow) → slot_in_job f p o ≡ Some slot → has_frame (lists_of f) slot ≡ true
job_holds f p slot kept None is = absurd (none-some slot is)
job_holds f p slot kept (Some j) is =
    layer_holds f j.job p.layer p.frame slot kept (layer_of_name f j.job p.layer) refl
    (sym (ap (λ (o : Option LayerShape). first_of (slots_of_part (or_no_layer o) (Some p.frame))) (find_shapes f.slots p.layer (layers_of f.layers j.job))) ∙ is)

pub slot_holds : (f : Farm) (p : FramePlace) (slot : ℕ) → KeepsRows f → slot_named f p ≡ Some slot → has_frame (lists_of f) slot ≡ true
unfolding slot_named
slot_holds f p slot kept is = job_holds f p slot kept (pending_named f p.job) is
