-- Changes of slots that keep their frames where they are keep what the farm keeps of its jobs.
use Rattle.std.proofs.Common.{◌≡◌, ℕ, true, List, [], ◌∷◌, refl, arith}
use Rattle.std.specs.List.{AllZip}
use Rattle.std.proofs.lemmas.List.Elements.{length_all_zip}
use Rattle.farm_types.specs.declared.rows.LayerRow.{LayerRow}
use Rattle.farm_types.specs.declared.slot_row.SlotRow.{SlotRow}
use Rattle.farm_types.specs.Farm.{for_some, is_placed}
use Rattle.farm_types.specs.Jobs.{JobLists}
use Rattle.farm_types.specs.Kept.{EachOnce, EachThere, EndsUsed, KeepsJobs, is_kept_slot, is_used}
use Rattle.farm_law.proofs.KeptJobsCounts.{count_at, counts_frame, count_from_once, once_from_count, count_there, there_counts}
use Rattle.farm_law.proofs.KeptJobsZip.{zip_all, zip_sum}

-- Two rows of a slot have frames of one position, or none. Where the first is kept, so is the second, and a used slot stays used.
pub record SlotKeeps (layers : List LayerRow) (s t : SlotRow) : Type 0 where
  pub places : (job layer position : ℕ) → for_some t.frame (is_placed job layer position) ≡ for_some s.frame (is_placed job layer position)
  pub kept : is_kept_slot layers s ≡ true → is_kept_slot layers t ≡ true
  pub used : is_used s ≡ true → is_used t ≡ true

-- a row that stays
pub slot_keeps : (layers : List LayerRow) (s : SlotRow) → SlotKeeps layers s s
slot_keeps layers s = record { places = λ job layer position. refl; kept = λ h. h; used = λ h. h }

module _ (layers : List LayerRow) where
  -- as many slots have the frame of a position
  counts_stay : (old new : List SlotRow) → AllZip (SlotKeeps layers) old new → (job layer position : ℕ) → count_at job layer position new ≡ count_at job layer position old
  counts_stay old new zip job layer position =
      zip_sum (SlotKeeps layers) (λ (s : SlotRow). counts_frame job layer position s.frame) (λ s t same. rw (same.places job layer position) refl) old new zip

  -- each frame stands once
  once_stays : (old new : List SlotRow) → AllZip (SlotKeeps layers) old new → EachOnce old → EachOnce new
  once_stays old new zip once =
      once_from_count new (λ job layer position. omega (arith, counts_stay old new zip job layer position, count_from_once old once job layer position))

  -- each is there
  there_stays : (old new : List SlotRow) → AllZip (SlotKeeps layers) old new → EachThere layers old → EachThere layers new
  there_stays old new zip there n l at position within =
      let some = there_counts (is_placed l.job l.place position) 0 old (there n l at position within) in
      count_there (is_placed l.job l.place position) 0 new (omega (arith, counts_stay old new zip l.job l.place position, some))

  -- the last slot was used
  ends_stay : (old new : List SlotRow) → AllZip (SlotKeeps layers) old new → EndsUsed old → EndsUsed new
  ends_stay [] [] zip ends = tt
  ends_stay [] (t ∷ ts) zip ends = absurd zip
  ends_stay (s ∷ ss) [] zip ends = absurd zip
  ends_stay (s ∷ []) (t ∷ []) zip ends = zip.0.used ends
  ends_stay (s ∷ []) (t ∷ (t' ∷ ts)) zip ends = absurd zip.1
  ends_stay (s ∷ (s' ∷ ss)) (t ∷ []) zip ends = absurd zip.1
  ends_stay (s ∷ (s' ∷ ss)) (t ∷ (t' ∷ ts)) zip ends = ends_stay (s' ∷ ss) (t' ∷ ts) zip.1 ends

-- slots whose frames stay where they are
pub slots_keep : (b : JobLists) (slots : List SlotRow) (shows : ℕ) → AllZip (SlotKeeps b.layers) b.slots slots → KeepsJobs b shows → KeepsJobs (record b { slots = slots }) shows
slots_keep b slots shows zip kept =
    record {
      next_within = kept.next_within;
      finish_from = kept.finish_from;
      finish_within = kept.finish_within;
      finished_count = kept.finished_count;
      finishes_within = kept.finishes_within;
      finishes_differ = kept.finishes_differ;
      jobs_counted = kept.jobs_counted;
      jobs_rise = kept.jobs_rise;
      jobs_formed = kept.jobs_formed;
      jobs_differ = kept.jobs_differ;
      jobs_layered = kept.jobs_layered;
      layers_rise = kept.layers_rise;
      layers_formed = kept.layers_formed;
      layers_owned = kept.layers_owned;
      slot_count = omega (arith, length_all_zip (SlotKeeps b.layers) b.slots slots zip, kept.slot_count);
      slots_kept = zip_all (SlotKeeps b.layers) (is_kept_slot b.layers) (λ s t same. same.kept) b.slots slots zip kept.slots_kept;
      frames_once = once_stays b.layers b.slots slots zip kept.frames_once;
      frames_there = there_stays b.layers b.slots slots zip kept.frames_there;
      ends_used = ends_stay b.layers b.slots slots zip kept.ends_used;
    }
