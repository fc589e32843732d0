-- One job finishes: its layers go, and those of the others have their frames where they stood.
use Rattle.std.proofs.Common.{◌≡◌, ℕ, zero, suc, ◌+◌, ◌&&◌, not, Bool, true, false, eqb, List, [], ◌∷◌, map, filter, length, Some, None, option_map, refl, sym, ap, ◌∙◌, arith}
use Rattle.std.specs.List.{slice_get}
use Rattle.std.specs.Option.{option_and_then}
use Rattle.std.proofs.lemmas.Bool.{eqb-true, eqb-false, ne_eqb}
use Rattle.std.proofs.lemmas.List.{length-map}
use Rattle.std.proofs.lemmas.Option.{none-some, slice_get-map, slice_get_past}
use Rattle.farm_types.specs.declared.rows.LayerRow.{LayerRow}
use Rattle.farm_types.specs.declared.slot_row.Frame.{Frame}
use Rattle.farm_types.specs.declared.slot_row.SlotRow.{SlotRow}
use Rattle.farm_types.specs.declared.states.FrameState.TheVariants.{Waiting}
use Rattle.farm_types.specs.Farm.{is_placed, slot_from}
use Rattle.farm_types.specs.Finish.{freed_row, is_frame_of}
use Rattle.farm_types.proofs.Changed.{mapped_each}
use Rattle.job_book.specs.Book.{count_in}
use Rattle.job_entries.specs.Entries.{beside, layer_position}
use Rattle.job_book.specs.Index.{waits_in}
use Rattle.job_book.specs.Layers.{KeepsLayers, KeepsWaiting, place_in, slots_of}
use Rattle.job_index.specs.Places.{LayerPlaces}
use Rattle.job_book.proofs.EndingLemmas.FreedJob.{from_none, from_same, waits_same}
use Rattle.job_book.proofs.LayerSlots.{map_same}

module _ (job : ℕ) where
  abbrev stays : LayerRow → Bool
  stays l = not (eqb l.job job)

  -- ---- the lists of those that stay

  length-beside : (ls : List LayerRow) (xs : List LayerPlaces) → length xs ≡ length ls → length (beside stays ls xs) ≡ length (filter stays ls)
  length-beside [] xs long = refl
  length-beside (l ∷ ls) [] long = absurd (omega (arith, long))
  length-beside (l ∷ ls) (x ∷ xs) long = by (eqb l.job job) refl (length-beside ls xs (omega (arith, long)))
    where
      by : (b : Bool) → eqb l.job job ≡ b → length (beside stays ls xs) ≡ length (filter stays ls) → length (beside stays (l ∷ ls) (x ∷ xs)) ≡ length (filter stays (l ∷ ls))
      by true is later = rw is later
      by false is later = rw is (ap suc later)

  -- each was there
  was_there : (ls : List LayerRow) (xs : List LayerPlaces) (p : ℕ) (x : LayerPlaces) → slice_get (beside stays ls xs) p ≡ Some x → (m : ℕ) × (slice_get xs m ≡ Some x)
  was_there [] xs p x at = absurd (none-some x at)
  was_there (l ∷ ls) [] p x at = absurd (none-some x at)
  was_there (l ∷ ls) (y ∷ ys) p x at = by (eqb l.job job) p refl at (λ q there. was_there ls ys q x there)
    where
      next : (m : ℕ) × (slice_get ys m ≡ Some x) → (m : ℕ) × (slice_get (y ∷ ys) m ≡ Some x)
      next found = (suc found.0, found.1)

      by : (b : Bool) (p : ℕ) → eqb l.job job ≡ b → slice_get (beside stays (l ∷ ls) (y ∷ ys)) p ≡ Some x → ((q : ℕ) → slice_get (beside stays ls ys) q ≡ Some x → (m : ℕ) × (slice_get ys m ≡ Some x))
          → (m : ℕ) × (slice_get (y ∷ ys) m ≡ Some x)
      by true p is at later = next (later p (rw is at at))
      by false zero is at later = (0, rw is at at)
      by false (suc p) is at later = next (later p (rw is at at))

  -- a layer of another job has its places as before
  place_kept : (k layer : ℕ) → eqb job k ≡ false → (ls : List LayerRow) (xs : List LayerPlaces) → length xs ≡ length ls
      → slice_get (beside stays ls xs) (layer_position k layer (filter stays ls)) ≡ slice_get xs (layer_position k layer ls)
  place_kept k layer apart [] [] long = refl
  place_kept k layer apart [] (x ∷ xs) long = absurd (omega (arith, long))
  place_kept k layer apart (l ∷ ls) [] long = absurd (omega (arith, long))
  place_kept k layer apart (l ∷ ls) (x ∷ xs) long = by (eqb l.job job) (eqb l.job k && eqb l.place layer) refl refl (place_kept k layer apart ls xs (omega (arith, long)))
    where
      by : (a b : Bool) → eqb l.job job ≡ a → (eqb l.job k && eqb l.place layer) ≡ b → slice_get (beside stays ls xs) (layer_position k layer (filter stays ls)) ≡ slice_get xs (layer_position k layer ls)
          → slice_get (beside stays (l ∷ ls) (x ∷ xs)) (layer_position k layer (filter stays (l ∷ ls))) ≡ slice_get (x ∷ xs) (layer_position k layer (l ∷ ls))
      by true b is its later =
          let other : eqb l.job k ≡ false = ap (λ (n : ℕ). eqb n k) (eqb-true l.job job is) ∙ apart in
          let next : 1 + layer_position k layer ls ≡ suc (layer_position k layer ls) = omega arith in
          rw (is, other, next) later
      by false true is its later = rw (is, its) refl
      by false false is its later =
          let next : 1 + layer_position k layer ls ≡ suc (layer_position k layer ls) = omega arith in
          let left : 1 + layer_position k layer (filter stays ls) ≡ suc (layer_position k layer (filter stays ls)) = omega arith in
          rw (is, its, next, left) later

  -- the job has no layer any more
  none_left : (layer : ℕ) (ls : List LayerRow) → layer_position job layer (filter stays ls) ≡ length (filter stays ls)
  none_left layer [] = refl
  none_left layer (l ∷ ls) = by (eqb l.job job) refl (none_left layer ls)
    where
      by : (b : Bool) → eqb l.job job ≡ b → layer_position job layer (filter stays ls) ≡ length (filter stays ls) → layer_position job layer (filter stays (l ∷ ls)) ≡ length (filter stays (l ∷ ls))
      by true is later = rw is later
      by false is later = rw (is, is) (omega (arith, later))

  module _ (layers : List LayerRow) (slots : List SlotRow) (index : List LayerPlaces) (keeps : KeepsLayers layers slots (map slots_of index)) where
    abbrev left : List LayerRow
    left = filter stays layers

    abbrev kept : List LayerPlaces
    kept = beside stays layers index

    abbrev freed : List SlotRow
    freed = map (freed_row job) slots

    long : length index ≡ length layers
    long = omega (arith, keeps.as_many, length-map index slots_of)

    as_many : length (map slots_of kept) ≡ length left
    as_many = omega (arith, length-map kept slots_of, length-beside layers index long)

    another : (k layer position : ℕ) → eqb job k ≡ false → (x : Frame) → eqb x.job job ≡ true → is_placed k layer position x ≡ false
    another k layer position apart x its =
        let other : eqb x.job k ≡ false = ap (λ (n : ℕ). eqb n k) (eqb-true x.job job its) ∙ apart in
        rw other refl

    found_by : (b : Bool) (k layer position : ℕ) → eqb job k ≡ b → slot_from 0 (is_placed k layer position) freed ≡ place_in (map slots_of kept) (layer_position k layer left) position
    found_by true k layer position is =
        let same : job ≡ k = eqb-true job k is in
        let none : slice_get (map slots_of kept) (layer_position job layer left) ≡ None =
        ap (slice_get (map slots_of kept)) (none_left layer layers) ∙ slice_get_past (map slots_of kept) (length left) (omega (arith, as_many)) in
        ap (λ (n : ℕ). slot_from 0 (is_placed n layer position) freed) (sym same) ∙ from_none job 0 (is_placed job layer position) (λ x other. rw other refl) slots
        ∙ sym (ap (option_and_then (λ (ns : List ℕ). slice_get ns position)) none) ∙ ap (λ (n : ℕ). place_in (map slots_of kept) (layer_position n layer left) position) same
    found_by false k layer position is =
        let read : slice_get (map slots_of kept) (layer_position k layer left) ≡ slice_get (map slots_of index) (layer_position k layer layers) =
        slice_get-map slots_of kept (layer_position k layer left) ∙ ap (option_map slots_of) (place_kept k layer is layers index long) ∙ sym (slice_get-map slots_of index (layer_position k layer layers)) in
        from_same job 0 (is_placed k layer position) (another k layer position is) slots ∙ keeps.found k layer position ∙ sym (ap (option_and_then (λ (ns : List ℕ). slice_get ns position)) read)

    first_by : (k : ℕ) (s : SlotRow) → slice_get slots k ≡ Some s → (b : Bool) → is_frame_of job s ≡ b → (x : Frame) → (freed_row job s).frame ≡ Some x → slot_from 0 (is_placed x.job x.layer x.position) freed ≡ Some k
    first_by k s at true is x e = absurd (none-some x (rw is at e))
    first_by k s at false is x e =
        let framed : s.frame ≡ Some x = rw is at e in
        let other : eqb x.job job ≡ false = rw framed at is in
        let apart : eqb job x.job ≡ false = ne_eqb job x.job (λ same. eqb-false x.job job other (sym same)) in
        from_same job 0 (is_placed x.job x.layer x.position) (another x.job x.layer x.position apart) slots ∙ keeps.first k s x at framed

    pub finished_layers : KeepsLayers left freed (map slots_of kept)
    finished_layers = record {
      as_many = as_many;
      found = λ k layer position. found_by (eqb job k) k layer position refl;
      first = λ slot row x at is.
          mapped_each (λ (k : ℕ) (r : SlotRow). (y : Frame) → r.frame ≡ Some y → slot_from 0 (is_placed y.job y.layer y.position) freed ≡ Some k) slots (freed_row job)
          (λ k s there. first_by k s there (is_frame_of job s) refl) slot row at x is;
    }

    pub finished_waiting : count_in job Waiting slots ≡ 0 → KeepsWaiting slots index → KeepsWaiting freed kept
    finished_waiting none waiting = record {
      marks = λ place x at.
          let was = was_there layers index place x at in
          waiting.marks was.0 x was.1 ∙ sym (map_same (waits_in slots) (waits_in freed) x.slots (λ j n there. waits_same job slots none n));
    }
