-- One job finishes: the lists of the book then.
use Rattle.std.proofs.Common.{◌≡◌, ℕ, zero, suc, ◌+◌, ◌≤◌, ◌&&◌, ◌||◌, not, Bool, true, false, cond, eqb, List, [], ◌∷◌, map, filter, Some, refl, sym, ap, ◌∙◌, arith}
use Rattle.std.specs.Prelude.{nat_le, nat_lt}
use Rattle.std.specs.List.{list_any, position_or_len, slice_get, sum_by}
use Rattle.std.proofs.lemmas.Bool.{eq-eqb, eqb-true, eqb-false, leb-true, ne_eqb}
use Rattle.std.proofs.lemmas.List.{length-map}
use Rattle.std.proofs.lemmas.List.Folds.{find_at}
use Rattle.std.proofs.lemmas.List.Sums.{sum_by-cons}
use Rattle.std.proofs.lemmas.Option.{none-some, same_Some}
use Rattle.farm_types.specs.declared.rows.JobRow.{JobRow}
use Rattle.farm_types.specs.declared.rows.LayerRow.{LayerRow}
use Rattle.farm_types.specs.declared.slot_row.SlotRow.{SlotRow}
use Rattle.farm_types.specs.Booking.{is_pending}
use Rattle.farm_types.specs.Finish.{freed_row}
use Rattle.farm_types.specs.Jobs.{JobLists}
use Rattle.farm_types.specs.Rising.{IsRising}
use Rattle.farm_types.proofs.Lists.{and_both, list_all-at}
use Rattle.farm_types.proofs.ListSums.{sum_by-map_le}
use Rattle.job_entries.specs.declared.counts.Counts.{Counts}
use Rattle.job_entries.specs.Entries.{finished_by}
use Rattle.job_book.specs.Inside.{IsBook, frames_left, has_layers_if, has_slots, layer_key, taken_by}
use Rattle.job_book.proofs.EndingLemmas.FinishedRows.{IsThere, all_rows, rows_rise}
use Rattle.job_book.proofs.EndingLemmas.FreedJob.{below_freed, free_more, taken_here, taken_other}
use Rattle.farm_law.proofs.KeptJobsLists.{rising_lower}

module _ (job : ℕ) where
  abbrev stays : LayerRow → Bool
  stays l = not (eqb l.job job)

  layers_rise : (low : ℕ) (ls : List LayerRow) (high : ℕ) → IsRising layer_key low ls high → IsRising layer_key low (filter stays ls) high
  layers_rise low [] high rise = rise
  layers_rise low (l ∷ ls) high rise = by (eqb l.job job) refl (layers_rise (layer_key l + 1) ls high rise.1)
    where
      by : (b : Bool) → eqb l.job job ≡ b → IsRising layer_key (layer_key l + 1) (filter stays ls) high → IsRising layer_key low (filter stays (l ∷ ls)) high
      by true is later = rw is (rising_lower layer_key low (layer_key l + 1) (filter stays ls) high (omega (arith, rise.0)) later)
      by false is later = rw is (rise.0, later)

  none_of : (ls : List LayerRow) → list_any (λ (l : LayerRow). eqb l.job job) (filter stays ls) ≡ false
  none_of [] = refl
  none_of (l ∷ ls) = by (eqb l.job job) refl (none_of ls)
    where
      by : (b : Bool) → eqb l.job job ≡ b → list_any (λ (k : LayerRow). eqb k.job job) (filter stays ls) ≡ false → list_any (λ (k : LayerRow). eqb k.job job) (filter stays (l ∷ ls)) ≡ false
      by true is later = rw is later
      by false is later = rw (is, is) later

  same_of : (k : ℕ) → eqb job k ≡ false → (ls : List LayerRow) → list_any (λ (l : LayerRow). eqb l.job k) (filter stays ls) ≡ list_any (λ (l : LayerRow). eqb l.job k) ls
  same_of k apart [] = refl
  same_of k apart (l ∷ ls) = by (eqb l.job job) refl (same_of k apart ls)
    where
      by : (b : Bool) → eqb l.job job ≡ b → list_any (λ (m : LayerRow). eqb m.job k) (filter stays ls) ≡ list_any (λ (m : LayerRow). eqb m.job k) ls
          → list_any (λ (m : LayerRow). eqb m.job k) (filter stays (l ∷ ls)) ≡ list_any (λ (m : LayerRow). eqb m.job k) (l ∷ ls)
      by true is later =
          let other : eqb l.job k ≡ false = ap (λ (n : ℕ). eqb n k) (eqb-true l.job job is) ∙ apart in
          rw (is, other) later
      by false is later = rw is (ap (λ (b : Bool). eqb l.job k || b) later)

  apart_from : (k : ℕ) → eqb k job ≡ false → eqb job k ≡ false
  apart_from k is = ne_eqb job k (λ e. eqb-false k job is (sym e))

  module _ (finish : ℕ) (c : Counts) where
    abbrev row : JobRow → JobRow
    row = finished_by job finish c

    layered : (layers : List LayerRow) (j : JobRow) → has_layers_if layers j ≡ true → has_layers_if (filter stays layers) (row j) ≡ true
    layered layers j has = by (eqb j.job job) refl
      where
        by : (b : Bool) → eqb j.job job ≡ b → has_layers_if (filter stays layers) (row j) ≡ true
        by true is = rw is (ap not (ap (λ (n : ℕ). list_any (λ (l : LayerRow). eqb l.job n) (filter stays layers)) (eqb-true j.job job is) ∙ none_of layers))
        by false is = rw is (ap (λ (b : Bool). is_pending j.state || not b) (same_of j.job (apart_from j.job is) layers) ∙ has)

    slotted : (slots : List SlotRow) (j : JobRow) → has_slots slots j ≡ true → has_slots (map (freed_row job) slots) (row j) ≡ true
    slotted slots j has = by (eqb j.job job) refl
      where
        by : (b : Bool) → eqb j.job job ≡ b → has_slots (map (freed_row job) slots) (row j) ≡ true
        by true is = rw is (eq-eqb (taken_by j.job (map (freed_row job) slots)) 0 (ap (λ (n : ℕ). taken_by n (map (freed_row job) slots)) (eqb-true j.job job is) ∙ taken_here job slots))
        by false is =
            rw is (ap (λ (k : ℕ). cond (is_pending j.state) (nat_lt 0 j.frames && nat_le k j.frames) (eqb k 0)) (taken_other job j.job (apart_from j.job is) slots) ∙ has)

    fewer_left : (j : JobRow) → frames_left (row j) ≤ frames_left j
    fewer_left j = by (eqb j.job job) refl
      where
        by : (b : Bool) → eqb j.job job ≡ b → frames_left (row j) ≤ frames_left j
        by true is = rw is (omega arith)
        by false is = rw is (omega arith)

    -- the job's frames aren't counted any more
    sum_left : (js : List JobRow) (i : ℕ) (j : JobRow) → slice_get js i ≡ Some j → j.job ≡ job → is_pending j.state ≡ true → sum_by frames_left (map row js) + j.frames ≤ sum_by frames_left js
    sum_left [] i j at same pending = absurd (none-some j at)
    sum_left (r ∷ rs) zero j at same pending =
        let it : r ≡ j = same_Some r j at in
        let its : eqb r.job job ≡ true = eq-eqb r.job job (ap (λ (k : JobRow). k.job) it ∙ same) in
        let none : frames_left (row r) ≡ 0 = rw its refl in
        let busy : is_pending r.state ≡ true = ap (λ (k : JobRow). is_pending k.state) it ∙ pending in
        let all : frames_left r ≡ r.frames = rw busy refl in
        omega (arith, sum_by-cons frames_left (row r) (map row rs), sum_by-cons frames_left r rs, none, all, ap (λ (k : JobRow). k.frames) it, sum_by-map_le frames_left row fewer_left rs)
    sum_left (r ∷ rs) (suc i) j at same pending =
        omega (arith, sum_by-cons frames_left (row r) (map row rs), sum_by-cons frames_left r rs, fewer_left r, sum_left rs i j at same pending)

    had : (slots : List SlotRow) (j : JobRow) → is_pending j.state ≡ true → has_slots slots j ≡ true → taken_by j.job slots ≤ j.frames
    had slots j pending has =
        let both = and_both (nat_lt 0 j.frames) (nat_le (taken_by j.job slots) j.frames) (rw pending at has) in
        leb-true (taken_by j.job slots) j.frames both.1

    pub finished_book : (b : JobLists) → IsThere b.jobs job → IsBook b
        → IsBook (record { jobs = map row b.jobs; layers = filter stays b.layers; slots = map (freed_row job) b.slots; next_job = b.next_job; next_finish = b.next_finish + 1 })
    finished_book b there ok =
        let long = length-map b.slots (freed_row job) in
        let place = position_or_len (λ (j : JobRow). eqb j.job job) b.jobs in
        let at : slice_get b.jobs place ≡ Some there.row = sym (find_at (λ (j : JobRow). eqb j.job job) b.jobs) ∙ there.found in
        let few = had b.slots there.row there.pending (list_all-at (has_slots b.slots) b.jobs place there.row ok.slots_had at) in
        let taken : taken_by there.row.job b.slots ≡ taken_by job b.slots = ap (λ (n : ℕ). taken_by n b.slots) there.number in
        record {
          slot_count = omega (arith, ok.slot_count, long);
          next_within = ok.next_within;
          jobs_rise = rows_rise job finish c 0 b.jobs b.next_job ok.jobs_rise;
          layers_rise = layers_rise 0 b.layers _ ok.layers_rise;
          layers_owned = all_rows job finish c (has_layers_if b.layers) (has_layers_if (filter stays b.layers)) (layered b.layers) b.jobs ok.layers_owned;
          frames_below = below_freed job b.next_job b.slots ok.frames_below;
          slots_had = all_rows job finish c (has_slots b.slots) (has_slots (map (freed_row job) b.slots)) (slotted b.slots) b.jobs ok.slots_had;
          jobs_fit = omega (arith, ok.jobs_fit, sum_left b.jobs place there.row at there.number there.pending, free_more job b.slots, few, taken, long);
        }
