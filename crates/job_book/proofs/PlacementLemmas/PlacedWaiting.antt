-- Which frames wait once a job is placed: those that did, and all of its own.
use Rattle.std.proofs.Common.{◌≡◌, ℕ, zero, suc, ◌+◌, ◌-◌, ◌*◌, ◌<◌, ◌≤◌, ◌&&◌, not, Bool, true, false, eqb, List, [], ◌∷◌, ◌++◌, length, map, replicate, Option, Some, None, refl, sym, ap, subst, ◌∙◌, ◌⊎◌, inl, inr, arith}
use Rattle.std.specs.Prelude.{nat_le}
use Rattle.std.specs.List.{concat, list_all, slice_get}
use Rattle.std.proofs.lemmas.List.{length-map, map-append}
use Rattle.std.proofs.lemmas.Bool.{false≢true, cases_lt, eq-eqb, eqb-true, ne_eqb, leb-false, and_from}
use Rattle.std.proofs.lemmas.Option.{none-some, same_Some}
use Rattle.farm_types.specs.declared.job.LayerSpec.{LayerSpec}
use Rattle.farm_types.specs.declared.rows.LayerRow.{LayerRow}
use Rattle.farm_types.specs.declared.slot_row.Frame.{Frame}
use Rattle.farm_types.specs.declared.slot_row.SlotRow.{SlotRow}
use Rattle.farm_types.specs.Booking.{is_waiting}
use Rattle.farm_types.specs.Farm.{for_some, is_placed}
use Rattle.farm_types.specs.Jobs.{is_free, place_frames, frames_of, layer_rows}
use Rattle.farm_types.specs.Rising.{IsRising}
use Rattle.farm_types.proofs.Lists.{and_both, list_all-at}
use Rattle.job_book.specs.Index.{waits_in}
use Rattle.job_book.specs.Inside.{is_below, layer_key}
use Rattle.job_book.specs.Layers.{KeepsLayers, KeepsWaiting, count_of, fresh_places, marks_of, put_places, slots_of}
use Rattle.job_index.specs.Places.{LayerPlaces}
use Rattle.job_book.proofs.LayerSlots.{from_slot, listed, map_same}
use Rattle.job_book.proofs.PlacementLemmas.Placed.{no_frame, all_placed, all_of}
use Rattle.job_book.proofs.PlacementLemmas.PlacedLayers.{placed_layers, slice_get-front, slice_get-back}
use Rattle.job_book.specs.declared.jobs.TheConstants.{PLACE_LIMIT}

kept_first : (b : Bool) (s : SlotRow) (ss : List SlotRow) (x : Frame) (xs : List Frame) (row : SlotRow) (y : Frame) → is_free s ≡ b → Some s ≡ Some row → row.frame ≡ Some y
    → slice_get (place_frames (s ∷ ss) (x ∷ xs)) 0 ≡ Some row
kept_first true s ss x xs row y free at is = absurd (none-some y (sym (no_frame s free) ∙ ap (λ (r : SlotRow). r.frame) (same_Some s row at) ∙ is))
kept_first false s ss x xs row y free at is = rw free at

kept_step : (b : Bool) (s : SlotRow) (ss : List SlotRow) (x : Frame) (xs : List Frame) (n : ℕ) (row : SlotRow) → is_free s ≡ b → slice_get (place_frames ss xs) n ≡ Some row → slice_get (place_frames ss (x ∷ xs)) n ≡ Some row
    → slice_get (place_frames (s ∷ ss) (x ∷ xs)) (suc n) ≡ Some row
kept_step true s ss x xs n row free here later = rw free here
kept_step false s ss x xs n row free here later = rw free later

-- a slot with a frame stays as it is
kept_row : (slots : List SlotRow) (frames : List Frame) (n : ℕ) (row : SlotRow) (y : Frame) → slice_get slots n ≡ Some row → row.frame ≡ Some y → slice_get (place_frames slots frames) n ≡ Some row
kept_row [] frames n row y at is = absurd (none-some row at)
kept_row (s ∷ ss) [] n row y at is = at
kept_row (s ∷ ss) (x ∷ xs) zero row y at is = kept_first (is_free s) s ss x xs row y refl at is
kept_row (s ∷ ss) (x ∷ xs) (suc n) row y at is = kept_step (is_free s) s ss x xs n row refl (kept_row ss xs n row y at is) (kept_row ss (x ∷ xs) n row y at is)

-- the marks of a layer whose frames all wait
all_marked : (more : List LayerPlaces) (ls : List LayerSpec) (q : ℕ) (x : LayerPlaces) → map marks_of more ≡ map marks_of (map fresh_places ls) → map count_of more ≡ map (λ (l : LayerSpec). length l.numbers) ls
    → slice_get more q ≡ Some x → x.waiting ≡ replicate (length x.slots) true
all_marked [] ls q x marks counts at = absurd (none-some x at)
all_marked (y ∷ ys) [] q x marks counts at = absurd (cc)
all_marked (y ∷ ys) (l ∷ ls) zero x marks counts at =
    let mark : y.waiting ≡ replicate (length l.numbers) true = cc in
    let count : length y.slots ≡ length l.numbers = cc in
    subst (λ (z : LayerPlaces). z.waiting ≡ replicate (length z.slots) true) (same_Some y x at) (mark ∙ ap (λ (n : ℕ). replicate n true) (sym count))
all_marked (y ∷ ys) (l ∷ ls) (suc q) x marks counts at =
    let others : map marks_of ys ≡ map marks_of (map fresh_places ls) = cc in
    let rest : map count_of ys ≡ map (λ (m : LayerSpec). length m.numbers) ls = cc in
    all_marked ys ls q x others rest at

all_wait : (f : ℕ → Bool) (ns : List ℕ) → ((j n : ℕ) → slice_get ns j ≡ Some n → f n ≡ true) → map f ns ≡ replicate (length ns) true
all_wait f [] each = refl
all_wait f (n ∷ ns) each = λ j. each 0 n refl j ∷ all_wait f ns (λ k m at. each (suc k) m at) j

rows_of_job : (layer_limits : List (Option ℕ)) (next p : ℕ) (ls : List LayerSpec) → list_all (λ (l : LayerRow). eqb l.job next) (layer_rows next layer_limits p ls) ≡ true
rows_of_job layer_limits next p [] = refl
rows_of_job layer_limits next p (l ∷ ls) = and_from _ _ (eq-eqb next next refl) (rows_of_job layer_limits next (p + 1) ls)

-- no frame of the job that doesn't wait
abbrev is_idle : ℕ → Frame → Bool
is_idle next x = eqb x.job next && not (is_waiting x.state)

abbrev none_idle : ℕ → Option Frame → Bool
none_idle next o = not (for_some o (is_idle next))

idle_old : (next : ℕ) (slots : List SlotRow) → list_all (is_below next) slots ≡ true → list_all (λ (s : SlotRow). none_idle next s.frame) slots ≡ true
idle_old next [] below = refl
idle_old next (s ∷ ss) below =
    let both = and_both (is_below next s) (list_all (is_below next) ss) below in
    and_from _ _ (one s.frame both.0) (idle_old next ss both.1)
  where
    not_true : (b : Bool) → not b ≡ true → b ≡ false
    not_true true h = absurd (false≢true h)
    not_true false h = refl

    one : (o : Option Frame) → not (for_some o (λ x. nat_le next x.job)) ≡ true → none_idle next o ≡ true
    one None h = refl
    one (Some x) h = let apart : eqb x.job next ≡ false = ne_eqb x.job next (λ e. absurd (omega (arith, leb-false next x.job (not_true (nat_le next x.job) h), e))) in rw apart refl

idle_none : (next : ℕ) (slots : List SlotRow) (ls : List LayerSpec) → list_all (is_below next) slots ≡ true → list_all (λ (s : SlotRow). none_idle next s.frame) (place_frames slots (frames_of next 0 ls)) ≡ true
idle_none next slots ls below = all_placed (none_idle next) slots (frames_of next 0 ls) (idle_old next slots below) (all_of (none_idle next) next 0 ls (λ l q n. rw (eq-eqb next next refl) refl))

module _ (layers : List LayerRow) (slots : List SlotRow) (index more : List LayerPlaces) (next : ℕ) (layer_limits : List (Option ℕ)) (ls : List LayerSpec) (rise : IsRising layer_key 0 layers (PLACE_LIMIT * next))
    (later : IsRising layer_key 0 (layers ++ layer_rows next layer_limits 0 ls) (PLACE_LIMIT * (next + 1))) (below : list_all (is_below next) slots ≡ true) (keeps : KeepsLayers layers slots (map slots_of index)) (waiting : KeepsWaiting slots index)
    (went : concat (map slots_of more) ≡ put_places 0 slots (frames_of next 0 ls)) (counts : map count_of more ≡ map (λ (l : LayerSpec). length l.numbers) ls) (marks : map marks_of more ≡ map marks_of (map fresh_places ls)) where
  abbrev new : List SlotRow
  new = place_frames slots (frames_of next 0 ls)

  list_counts : (xs : List LayerPlaces) → map (λ (ns : List ℕ). length ns) (map slots_of xs) ≡ map count_of xs
  list_counts [] = refl
  list_counts (x ∷ xs) = λ j. length x.slots ∷ list_counts xs j

  pub more_layers : KeepsLayers (layers ++ layer_rows next layer_limits 0 ls) new (map slots_of (index ++ more))
  more_layers =
      subst (KeepsLayers (layers ++ layer_rows next layer_limits 0 ls) new) (sym (map-append slots_of index more))
      (placed_layers layers slots (map slots_of index) (map slots_of more) next layer_limits ls rise below keeps went (list_counts more ∙ counts))

  -- of the layers that were there
  old_marks : (m : ℕ) (x : LayerPlaces) → slice_get index m ≡ Some x → x.waiting ≡ map (waits_in new) x.slots
  old_marks m x at = waiting.marks m x at ∙ sym (map_same (waits_in slots) (waits_in new) x.slots (λ j n there. same j n there))
    where
      same : (j n : ℕ) → slice_get x.slots j ≡ Some n → waits_in new n ≡ waits_in slots n
      same j n there =
          let found = listed layers slots index (PLACE_LIMIT * next) m j n x rise keeps at there in
          let its = from_slot (is_placed found.layer.job found.layer.place j) slots n found.found in
          ap (λ (o : Option SlotRow). for_some o (λ (r : SlotRow). for_some r.frame (λ z. is_waiting z.state))) (kept_row slots (frames_of next 0 ls) n its.row its.frame its.at its.is ∙ sym its.at)

  -- of the new ones
  new_marks : (m q : ℕ) (x : LayerPlaces) → m ≡ length index + q → slice_get (index ++ more) m ≡ Some x → slice_get more q ≡ Some x → x.waiting ≡ map (waits_in new) x.slots
  new_marks m q x behind at there = all_marked more ls q x marks counts there ∙ sym (all_wait (waits_in new) x.slots (λ j n stands. waits j n stands))
    where
      frame_waits : (y : Frame) → y.job ≡ next → none_idle next (Some y) ≡ true → is_waiting y.state ≡ true
      frame_waits y job none = by (is_waiting y.state) refl
        where
          by : (w : Bool) → is_waiting y.state ≡ w → w ≡ true
          by true is = refl
          by false is = absurd (false≢true (rw (eq-eqb y.job next job, is) at none))

      waits : (j n : ℕ) → slice_get x.slots j ≡ Some n → waits_in new n ≡ true
      waits j n stands =
          let found = listed (layers ++ layer_rows next layer_limits 0 ls) new (index ++ more) (PLACE_LIMIT * (next + 1)) m j n x later more_layers at stands in
          let its = from_slot (is_placed found.layer.job found.layer.place j) new n found.found in
          let counted : length index ≡ length layers = sym (length-map index slots_of) ∙ keeps.as_many in
          let row : slice_get (layer_rows next layer_limits 0 ls) q ≡ Some found.layer = sym (slice_get-back layers (layer_rows next layer_limits 0 ls) m q (omega (arith, behind, counted))) ∙ found.at in
          let of_job : found.layer.job ≡ next = eqb-true found.layer.job next (list_all-at (λ (l : LayerRow). eqb l.job next) (layer_rows next layer_limits 0 ls) q found.layer (rows_of_job layer_limits next 0 ls) row) in
          let first = and_both (eqb its.frame.job found.layer.job && eqb its.frame.layer found.layer.place) (eqb its.frame.position j) its.passes in
          let job = eqb-true its.frame.job found.layer.job (and_both (eqb its.frame.job found.layer.job) (eqb its.frame.layer found.layer.place) first.0).0 in
          let none : none_idle next its.row.frame ≡ true = list_all-at (λ (s : SlotRow). none_idle next s.frame) new n its.row (idle_none next slots ls below) its.at in
          ap (λ (o : Option SlotRow). for_some o (λ (r : SlotRow). for_some r.frame (λ z. is_waiting z.state))) its.at
          ∙ ap (λ (o : Option Frame). for_some o (λ z. is_waiting z.state)) its.is ∙ frame_waits its.frame (job ∙ of_job) (subst (λ (o : Option Frame). none_idle next o ≡ true) its.is none)

  pub more_waiting : KeepsWaiting new (index ++ more)
  more_waiting = record { marks = λ m x at. by m x at (cases_lt m (length index)) }
    where
      by : (m : ℕ) (x : LayerPlaces) → slice_get (index ++ more) m ≡ Some x → (m < length index) ⊎ (length index ≤ m) → x.waiting ≡ map (waits_in new) x.slots
      by m x at (inl front) = old_marks m x (sym (slice_get-front index more m front) ∙ at)
      by m x at (inr back) =
          let e : m ≡ length index + (m - length index) = omega (arith, back) in
          new_marks m (m - length index) x e at (sym (slice_get-back index more m (m - length index) e) ∙ at)
