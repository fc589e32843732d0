-- Placing frames in slots: what is counted of frames, how many slots there are, and what holds of each slot.
use Rattle.std.proofs.Common.{◌≡◌, ℕ, ◌+◌, ◌-◌, Bool, true, false, cond, leb, List, [], ◌∷◌, length, map, Option, Some, None, refl, ap, ◌∙◌, arith}
use Rattle.std.specs.Prelude.{is_none}
use Rattle.std.specs.List.{sum_by, list_all}
use Rattle.std.specs.Cmp.Derive.{both_true}
use Rattle.std.proofs.lemmas.Bool.{false≢true}
use Rattle.std.proofs.lemmas.List.{length-map}
use Rattle.std.proofs.lemmas.List.Sums.{sum_by-cons}
use Rattle.farm_types.specs.declared.rows.LayerRow.{LayerRow}
use Rattle.farm_types.specs.declared.slot_row.Frame.{Frame}
use Rattle.farm_types.specs.declared.slot_row.SlotRow.{SlotRow}
use Rattle.farm_types.specs.declared.limits.TheConstants.{LAST_VERSION}
use Rattle.farm_types.specs.Jobs.{is_free, free_among, slot_with, fresh_slot, place_frames}
use Rattle.farm_types.specs.Farm.{for_any}
use Rattle.farm_types.specs.Kept.{EndsUsed, is_kept_frame, is_kept_slot, is_used}
use Rattle.farm_types.proofs.Lists.{and_both}
use Rattle.farm_law.proofs.Placed.{free_none}

-- ---- what is counted of frames

none_is : {X : Type 0} (o : Option X) → is_none o ≡ true → o ≡ None
none_is None h = refl
none_is (Some x) h = absurd (false≢true h)

-- a free slot has no frame
no_frame : (s : SlotRow) → is_free s ≡ true → s.frame ≡ None
no_frame s free = none_is s.frame (free_none s free)

module _ (weight : Option Frame → ℕ) (nothing : weight None ≡ 0) where
  -- the weight of the frames in slots, and of frames
  abbrev weighs : List SlotRow → ℕ
  weighs slots = sum_by (λ (r : SlotRow). weight r.frame) slots

  abbrev weigh : List Frame → ℕ
  weigh frames = sum_by (λ (y : Frame). weight (Some y)) frames

  sum_step : (b : Bool) (s : SlotRow) (ss : List SlotRow) (x : Frame) (xs : List Frame) → is_free s ≡ b → weighs (place_frames ss xs) ≡ weighs ss + weigh xs
      → weighs (place_frames ss (x ∷ xs)) ≡ weighs ss + weigh (x ∷ xs) → weighs (cond b (slot_with x s ∷ place_frames ss xs) (s ∷ place_frames ss (x ∷ xs))) ≡ weighs (s ∷ ss) + weigh (x ∷ xs)
  sum_step true s ss x xs free here later =
      let had : weight s.frame ≡ 0 = ap weight (no_frame s free) ∙ nothing in
      omega (arith, sum_by-cons (λ (r : SlotRow). weight r.frame) (slot_with x s) (place_frames ss xs), sum_by-cons (λ (r : SlotRow). weight r.frame) s ss, sum_by-cons (λ (y : Frame). weight (Some y)) x xs, had, here)
  sum_step false s ss x xs free here later =
      omega (arith, sum_by-cons (λ (r : SlotRow). weight r.frame) s (place_frames ss (x ∷ xs)), sum_by-cons (λ (r : SlotRow). weight r.frame) s ss, later)

  sum_fresh : (frames : List Frame) → weighs (map fresh_slot frames) ≡ weigh frames
  sum_fresh [] = refl
  sum_fresh (x ∷ xs) =
      omega (arith, sum_by-cons (λ (r : SlotRow). weight r.frame) (fresh_slot x) (map fresh_slot xs), sum_by-cons (λ (y : Frame). weight (Some y)) x xs, sum_fresh xs)

  -- the placed frames weigh beside those that were there
  pub sum_placed : (slots : List SlotRow) (frames : List Frame) → weighs (place_frames slots frames) ≡ weighs slots + weigh frames
  sum_placed [] frames = omega (arith, sum_fresh frames)
  sum_placed (s ∷ ss) [] = omega arith
  sum_placed (s ∷ ss) (x ∷ xs) = sum_step (is_free s) s ss x xs refl (sum_placed ss xs) (sum_placed ss (x ∷ xs))

-- ---- how many slots there are

free_cons : (b : Bool) (s : SlotRow) (ss : List SlotRow) → is_free s ≡ b → free_among (s ∷ ss) ≡ cond b 1 0 + free_among ss
free_cons b s ss is = sum_by-cons (λ (r : SlotRow). cond (is_free r) 1 0) s ss ∙ ap (λ (t : Bool). cond t 1 0 + free_among ss) is

long_step : (b : Bool) (s : SlotRow) (ss : List SlotRow) (x : Frame) (xs : List Frame) → is_free s ≡ b → length (place_frames ss xs) ≡ length ss + (length xs - free_among ss)
    → length (place_frames ss (x ∷ xs)) ≡ length ss + (length (x ∷ xs) - free_among ss)
    → length (cond b (slot_with x s ∷ place_frames ss xs) (s ∷ place_frames ss (x ∷ xs))) ≡ length (s ∷ ss) + (length (x ∷ xs) - free_among (s ∷ ss))
long_step true s ss x xs is here later = omega (arith, free_cons true s ss is, here)
long_step false s ss x xs is here later = omega (arith, free_cons false s ss is, later)

-- the slots are as many, and as many more as there are frames beyond the free ones
pub length-place_frames : (slots : List SlotRow) (frames : List Frame) → length (place_frames slots frames) ≡ length slots + (length frames - free_among slots)
length-place_frames [] frames = omega (arith, length-map frames fresh_slot)
length-place_frames (s ∷ ss) [] = omega arith
length-place_frames (s ∷ ss) (x ∷ xs) = long_step (is_free s) s ss x xs refl (length-place_frames ss xs) (length-place_frames ss (x ∷ xs))

-- ---- each slot is kept

module _ (layers : List LayerRow) where
  kept_step : (b : Bool) (s : SlotRow) (ss : List SlotRow) (x : Frame) (xs : List Frame) → is_kept_slot layers s ≡ true → is_kept_frame layers x ≡ true
      → list_all (is_kept_slot layers) (place_frames ss xs) ≡ true → list_all (is_kept_slot layers) (place_frames ss (x ∷ xs)) ≡ true
      → list_all (is_kept_slot layers) (cond b (slot_with x s ∷ place_frames ss xs) (s ∷ place_frames ss (x ∷ xs))) ≡ true
  kept_step true s ss x xs was is here later = both_true (both_true (and_both (leb s.version LAST_VERSION) (for_any s.frame (is_kept_frame layers)) was).0 is) here
  kept_step false s ss x xs was is here later = both_true was later

  kept_fresh : (frames : List Frame) → list_all (is_kept_frame layers) frames ≡ true → list_all (is_kept_slot layers) (map fresh_slot frames) ≡ true
  kept_fresh [] new = refl
  kept_fresh (x ∷ xs) new =
      let both = and_both (is_kept_frame layers x) (list_all (is_kept_frame layers) xs) new in
      both_true both.0 (kept_fresh xs both.1)

  -- kept frames in kept slots
  pub kept_placed : (slots : List SlotRow) (frames : List Frame) → list_all (is_kept_slot layers) slots ≡ true → list_all (is_kept_frame layers) frames ≡ true
      → list_all (is_kept_slot layers) (place_frames slots frames) ≡ true
  kept_placed [] frames old new = kept_fresh frames new
  kept_placed (s ∷ ss) [] old new = old
  kept_placed (s ∷ ss) (x ∷ xs) old new =
      let was = and_both (is_kept_slot layers s) (list_all (is_kept_slot layers) ss) old in
      let is = and_both (is_kept_frame layers x) (list_all (is_kept_frame layers) xs) new in
      kept_step (is_free s) s ss x xs was.0 is.0 (kept_placed ss xs was.1 is.1) (kept_placed ss (x ∷ xs) was.1 new)

-- ---- the last slot was used

-- the last slot was used also where this one comes before
ends_cons : (s : SlotRow) (ss : List SlotRow) → is_used s ≡ true → EndsUsed ss → EndsUsed (s ∷ ss)
ends_cons s [] used ends = used
ends_cons s (t ∷ ts) used ends = ends

-- a list with an item more at its front that ends with a used slot
ends_tail : (s : SlotRow) (ss : List SlotRow) → EndsUsed (s ∷ ss) → EndsUsed ss
ends_tail s [] ends = tt
ends_tail s (t ∷ ts) ends = ends

-- frames are left to place, or the slots are some and end with a used one
ends_before : (s : SlotRow) (ss : List SlotRow) (x : Frame) (xs : List Frame) → EndsUsed (s ∷ ss) → EndsUsed (place_frames ss (x ∷ xs)) → EndsUsed (s ∷ place_frames ss (x ∷ xs))
ends_before s [] x xs ends later = later
ends_before s (t ∷ ts) x xs ends later = ends_some (is_free t) later
  where
    ends_some : (b : Bool) → EndsUsed (cond b (slot_with x t ∷ place_frames ts xs) (t ∷ place_frames ts (x ∷ xs))) → EndsUsed (s ∷ cond b (slot_with x t ∷ place_frames ts xs) (t ∷ place_frames ts (x ∷ xs)))
    ends_some true h = h
    ends_some false h = h

ends_step : (b : Bool) (s : SlotRow) (ss : List SlotRow) (x : Frame) (xs : List Frame) → EndsUsed (s ∷ ss) → EndsUsed (place_frames ss xs) → EndsUsed (place_frames ss (x ∷ xs))
    → EndsUsed (cond b (slot_with x s ∷ place_frames ss xs) (s ∷ place_frames ss (x ∷ xs)))
ends_step true s ss x xs ends here later = ends_cons (slot_with x s) (place_frames ss xs) refl here
ends_step false s ss x xs ends here later = ends_before s ss x xs ends later

ends_fresh : (frames : List Frame) → EndsUsed (map fresh_slot frames)
ends_fresh [] = tt
ends_fresh (x ∷ xs) = ends_cons (fresh_slot x) (map fresh_slot xs) refl (ends_fresh xs)

-- placing keeps a used slot at the end
pub ends_placed : (slots : List SlotRow) (frames : List Frame) → EndsUsed slots → EndsUsed (place_frames slots frames)
ends_placed [] frames ends = ends_fresh frames
ends_placed (s ∷ ss) [] ends = ends
ends_placed (s ∷ ss) (x ∷ xs) ends = ends_step (is_free s) s ss x xs ends (ends_placed ss xs (ends_tail s ss ends)) (ends_placed ss (x ∷ xs) (ends_tail s ss ends))
