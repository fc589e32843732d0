-- The slots of a layer's frames, and the frames' numbers, are those of its shape.
use Rattle.std.proofs.Common.{◌≡◌, ℕ, ℤ, zero, suc, ◌+◌, ◌<◌, ◌≤◌, ◌&&◌, true, false, eqb, List, [], ◌∷◌, length, map, Option, Some, None, option_map, refl, sym, ap, subst, ◌∙◌, ◌⊎◌, inl, inr, arith}
use Rattle.std.specs.Prelude.{is_some, leb}
use Rattle.std.specs.List.{slice_get}
use Rattle.std.specs.Ordering.{int_eq}
use Rattle.std.proofs.lemmas.Bool.{cases_lt, eq-eqb, eqb-true, false≢true, false_from_ne_true}
use Rattle.std.proofs.lemmas.Bool.Decides.{Decides-int_eq}
use Rattle.std.proofs.lemmas.Option.{none-some, same_Some, slice_get-map, slice_get_past, slice_get_within}
use Rattle.farm_types.specs.declared.depend.LayerShape.{LayerShape}
use Rattle.farm_types.specs.declared.rows.LayerRow.{LayerRow}
use Rattle.farm_types.specs.declared.slot_row.Frame.{Frame}
use Rattle.farm_types.specs.declared.slot_row.SlotRow.{SlotRow}
use Rattle.farm_types.specs.declared.limits.TheConstants.{LAST_VERSION}
use Rattle.farm_types.specs.Depends.{layer_shape, or_first, slot_placed, slots_placed}
use Rattle.farm_types.specs.Farm.{for_some, is_placed, slot_from, for_any, layer_in}
use Rattle.farm_types.specs.Jobs.{JobLists}
use Rattle.farm_types.specs.Kept.{KeepsJobs, is_kept_frame, is_kept_slot}
use Rattle.farm_types.specs.Ranges.{range_numbers}
use Rattle.farm_types.specs.Rising.{IsRising, layer_key}
use Rattle.farm_types.proofs.Lists.{and_both, for_some_true, list_all-at}
use Rattle.farm_law.proofs.KeptJobsCounts.{stands_at}
use Rattle.farm_law.proofs.KeptJobsRows.{frame_kept, has_number}
use Rattle.depend_law.proofs.Among.{rising_above}
use Rattle.job_book.proofs.LayerSlots.{from_slot}
use Rattle.farm_places.specs.Ends.{number_at, number_of_frame, number_of_row}

-- ---- lists of which each place has the same

pub same_lists : {X : Type 0} (xs ys : List X) → ((k : ℕ) → slice_get xs k ≡ slice_get ys k) → xs ≡ ys
same_lists [] [] same = refl
same_lists [] (y ∷ ys) same = absurd (none-some y (same 0))
same_lists (x ∷ xs) [] same = absurd (none-some x (sym (same 0)))
same_lists (x ∷ xs) (y ∷ ys) same = ap (λ z. z ∷ xs) (same_Some x y (same 0)) ∙ ap (λ zs. y ∷ zs) (same_lists xs ys (λ k. same (suc k)))

-- ---- a layer is found by its job and place

own_layer : (low high : ℕ) (layers : List LayerRow) (n : ℕ) (l : LayerRow) → IsRising layer_key low layers high → slice_get layers n ≡ Some l → layer_in layers l.job l.place ≡ Some l
own_layer low high [] n l rise at = absurd (none-some l at)
own_layer low high (x ∷ xs) zero l rise at =
    subst (λ (k : LayerRow). layer_in (x ∷ xs) k.job k.place ≡ Some k) (same_Some x l at) (rw (eq-eqb x.job x.job refl, eq-eqb x.place x.place refl) refl)
own_layer low high (x ∷ xs) (suc n) l rise at = rw apart (own_layer (layer_key x + 1) high xs n l rise.1 at)
  where
    apart : (eqb x.job l.job && eqb x.place l.place) ≡ false
    apart = false_from_ne_true (eqb x.job l.job && eqb x.place l.place) (λ h.
        let both = and_both (eqb x.job l.job) (eqb x.place l.place) h in
        absurd (omega (arith, rising_above layer_key (layer_key x + 1) xs high n l rise.1 at, eqb-true x.job l.job both.0, eqb-true x.place l.place both.1)))

-- ---- the slots of a layer's positions

placed_get : (slots : List SlotRow) (job layer p k q : ℕ) (ns : List ℤ) → q ≡ p + k → k < length ns → slice_get (slots_placed slots job layer p ns) k ≡ Some (slot_placed slots job layer q)
placed_get slots job layer p k q [] is within = absurd (omega arith)
placed_get slots job layer p zero q (n ∷ ns) is within = let e : p ≡ q = omega (arith, is) in ap (λ (m : ℕ). Some (slot_placed slots job layer m)) e
placed_get slots job layer p (suc k) q (n ∷ ns) is within = placed_get slots job layer (p + 1) k q ns (omega (arith, is)) (omega arith)

pub length-placed : (slots : List SlotRow) (job layer p : ℕ) (ns : List ℤ) → length (slots_placed slots job layer p ns) ≡ length ns
length-placed slots job layer p [] = refl
length-placed slots job layer p (n ∷ ns) = ap suc (length-placed slots job layer (p + 1) ns)

module _ (b : JobLists) (shows : ℕ) (keeps : KeepsJobs b shows) (place : ℕ) (l : LayerRow) (at : slice_get b.layers place ≡ Some l) where
  abbrev numbers : List ℤ
  numbers = range_numbers l.range

  abbrev found : ℕ → Option ℕ
  found position = slot_from 0 (is_placed l.job l.place position) b.slots

  numbered : (x : Frame) → x.job ≡ l.job → x.layer ≡ l.place → has_number b.layers x ≡ true → slice_get numbers x.position ≡ Some x.number
  numbered x job layer has =
      let own = ap (λ (j : ℕ). layer_in b.layers j x.layer) job ∙ (ap (layer_in b.layers l.job) layer ∙ own_layer 0 _ b.layers place l keeps.layers_rise at) in
      let here : for_some (slice_get numbers x.position) (λ number. int_eq number x.number) ≡ true =
      subst (λ (o : Option LayerRow). for_some o (λ (k : LayerRow). for_some (slice_get (range_numbers k.range) x.position) (λ number. int_eq number x.number)) ≡ true) own has in
      let number = for_some_true (slice_get numbers x.position) (λ number. int_eq number x.number) here in
      number.1 ∙ ap Some ((Decides-int_eq number.0 x.number).0 number.2)

  -- the frame that stands at a position has the number there
  number_there : (position slot : ℕ) → found position ≡ Some slot → slice_get numbers position ≡ Some (number_at b.slots slot)
  number_there position slot is =
      let r = from_slot (is_placed l.job l.place position) b.slots slot is in
      let stands = stands_at l.job l.place position r.frame r.passes in
      let kept = (and_both (leb r.row.version LAST_VERSION) (for_any r.row.frame (is_kept_frame b.layers)) (list_all-at (is_kept_slot b.layers) b.slots slot r.row keeps.slots_kept r.at)).1 in
      let frame : is_kept_frame b.layers r.frame ≡ true = subst (λ (o : Option Frame). for_any o (is_kept_frame b.layers) ≡ true) r.is kept in
      let number : number_at b.slots slot ≡ r.frame.number = ap number_of_row r.at ∙ ap number_of_frame r.is in
      sym (ap (slice_get numbers) stands.position_is) ∙ (numbered r.frame stands.job_is stands.layer_is (frame_kept b.layers r.frame frame).number ∙ ap Some (sym number))

  -- no frame stands past the last number
  found_within : (position slot : ℕ) → found position ≡ Some slot → position < length numbers
  found_within position slot is = slice_get_within numbers position (number_at b.slots slot) (number_there position slot is)

  found_past : (position : ℕ) (o : Option ℕ) → found position ≡ o → length numbers ≤ position → found position ≡ None
  found_past position None is past = is
  found_past position (Some slot) is past = absurd (omega (arith, past, found_within position slot is))

  found_first : (position : ℕ) (o : Option ℕ) → found position ≡ o → position < length numbers → found position ≡ Some (or_first o)
  found_first position None is within = absurd (false≢true (sym (ap is_some is) ∙ keeps.frames_there place l at position within))
  found_first position (Some slot) is within = is

  -- the slots where the frames stand are those of the shape
  pub slots_are : (slots : List ℕ) → ((position : ℕ) → found position ≡ slice_get slots position) → slots ≡ slots_placed b.slots l.job l.place 0 numbers
  slots_are slots stand = same_lists slots (slots_placed b.slots l.job l.place 0 numbers) (λ k. by k (cases_lt k (length numbers)))
    where
      by : (k : ℕ) → (k < length numbers) ⊎ (length numbers ≤ k) → slice_get slots k ≡ slice_get (slots_placed b.slots l.job l.place 0 numbers) k
      by k (inl within) = sym (stand k) ∙ (found_first k (found k) refl within ∙ sym (placed_get b.slots l.job l.place 0 k k numbers (omega arith) within))
      by k (inr past) = sym (stand k) ∙ (found_past k (found k) refl past ∙ sym (slice_get_past (slots_placed b.slots l.job l.place 0 numbers) k (omega (arith, length-placed b.slots l.job l.place 0 numbers, past))))

  -- and their numbers are the layer's
  pub numbers_are : (slots : List ℕ) → ((position : ℕ) → found position ≡ slice_get slots position) → map (number_at b.slots) slots ≡ numbers
  numbers_are slots stand = same_lists (map (number_at b.slots) slots) numbers (λ k. slice_get-map (number_at b.slots) slots k ∙ (ap (option_map (number_at b.slots)) (sym (stand k)) ∙ by k (found k) refl))
    where
      missing : (k : ℕ) → found k ≡ None → (k < length numbers) ⊎ (length numbers ≤ k) → None ≡ slice_get numbers k
      missing k is (inl within) = absurd (none-some _ (sym is ∙ found_first k None is within))
      missing k is (inr past) = sym (slice_get_past numbers k past)

      by : (k : ℕ) (o : Option ℕ) → found k ≡ o → option_map (number_at b.slots) (found k) ≡ slice_get numbers k
      by k None is = ap (option_map (number_at b.slots)) is ∙ missing k is (cases_lt k (length numbers))
      by k (Some slot) is = ap (option_map (number_at b.slots)) is ∙ sym (number_there k slot is)

  -- the shape of the layer
  pub layer_shape_is : (slots : List ℕ) → ((position : ℕ) → found position ≡ slice_get slots position) → (shape : LayerShape) → shape.name ≡ l.name → shape.numbers ≡ map (number_at b.slots) slots → shape.slots ≡ slots
      → shape ≡ layer_shape b.slots l
  layer_shape_is slots stand shape name ns ss = λ i. record { name = name i; numbers = (ns ∙ numbers_are slots stand) i; slots = (ss ∙ slots_are slots stand) i }

  -- the frame in a slot of the shape has the number at its place, and the layer
  pub record NamedAt (slot : ℕ) (n : ℤ) : Type 0 where
    pub row : SlotRow
    pub frame : Frame
    pub at_slot : slice_get b.slots slot ≡ Some row
    pub is : row.frame ≡ Some frame
    pub number_is : frame.number ≡ n
    pub layer_is : layer_in b.layers frame.job frame.layer ≡ Some l

  pub named_at : (k slot : ℕ) (n : ℤ) → slice_get (slots_placed b.slots l.job l.place 0 numbers) k ≡ Some slot → slice_get numbers k ≡ Some n → NamedAt slot n
  named_at k slot n here number =
      let within = slice_get_within numbers k n number in
      let first = same_Some (slot_placed b.slots l.job l.place k) slot (sym (placed_get b.slots l.job l.place 0 k k numbers (omega arith) within) ∙ here) in
      let is = found_first k (found k) refl within ∙ ap Some first in
      let r = from_slot (is_placed l.job l.place k) b.slots slot is in
      let stands = stands_at l.job l.place k r.frame r.passes in
      let own = ap (λ (j : ℕ). layer_in b.layers j r.frame.layer) stands.job_is ∙ (ap (layer_in b.layers l.job) stands.layer_is ∙ own_layer 0 _ b.layers place l keeps.layers_rise at) in
      record {
        row = r.row;
        frame = r.frame;
        at_slot = r.at;
        is = r.is;
        number_is = sym (ap number_of_row r.at ∙ ap number_of_frame r.is) ∙ same_Some (number_at b.slots slot) n (sym (number_there k slot is) ∙ number);
        layer_is = own;
      }
