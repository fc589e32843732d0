-- The counts of a job of which no frame is left: each of its frames was eaten or succeeded, and there are as many as its layers' ranges say.
use Rattle.std.proofs.Common.{◌≡◌, ◌<◌, ℕ, suc, zero, ◌+◌, Bool, true, false, cond, not, ◌&&◌, eqb, leb, List, [], ◌∷◌, length, Option, Some, None, ◌⊎◌, inl, inr, refl, sym, ap, subst, ◌∙◌, arith}
use Rattle.std.specs.List.{filter, find, list_all, list_any, slice_get, sum_by}
use Rattle.std.proofs.lemmas.Bool.{cases_eq, eqb-false, eqb-true, false_from_ne_true, true≢false}
use Rattle.std.proofs.lemmas.List.Sums.{sum_by-cons}
use Rattle.std.proofs.lemmas.Option.{none-some, same_Some, slice_get_within}
use Rattle.farm_types.specs.declared.limits.TheConstants.{LAST_VERSION}
use Rattle.farm_types.specs.declared.rows.LayerRow.{LayerRow}
use Rattle.farm_types.specs.declared.slot_row.Frame.{Frame}
use Rattle.farm_types.specs.declared.slot_row.SlotRow.{SlotRow}
use Rattle.farm_types.specs.declared.states.FrameState.{FrameState}
use Rattle.farm_types.specs.declared.states.FrameState.TheVariants.{Waiting, Setup, Running, Succeeded, Depend, Dead, Eaten}
use Rattle.farm_types.specs.Depends.{is_done_state}
use Rattle.farm_types.specs.Farm.{for_some, is_placed, layers_of, for_any, layer_in}
use Rattle.farm_types.specs.Finish.{count_where, has_succeeded, is_frame_of, was_eaten}
use Rattle.farm_types.specs.Kept.{AreAtPlaces, EachOnce, EachThere, frames_said, is_kept_frame, is_kept_slot}
use Rattle.farm_types.specs.Operators.{is_left_of}
use Rattle.farm_types.specs.Ranges.{range_numbers}
use Rattle.farm_types.proofs.Lists.{and_both, for_some_true, list_all-at}
use Rattle.farm_types.proofs.ListSums.{sum_by-each_zero}
use Rattle.farm_law.proofs.Filtered.{at_kept}
use Rattle.farm_law.proofs.KeptJobsCounts.{StandsAt, at_stands, count_at, count_from_once, counts_frame, stands_at, there_counts}
use Rattle.farm_law.proofs.KeptJobsLists.{any_fails}
use Rattle.farm_law.proofs.KeptJobsRows.{frame_kept}
use Rattle.farm_law.proofs.KeptJobsZip.{sum_alike}

-- ---- lists

module _ {X : Type 0} where
  -- two weights that are a third together
  sum_both : (first second both : X → ℕ) (xs : List X) → ((i : ℕ) (x : X) → slice_get xs i ≡ Some x → first x + second x ≡ both x) → sum_by first xs + sum_by second xs ≡ sum_by both xs
  sum_both first second both [] each = refl
  sum_both first second both (x ∷ xs) each =
      omega (arith, sum_by-cons first x xs, sum_by-cons second x xs, sum_by-cons both x xs, each 0 x refl, sum_both first second both xs (λ i y at. each (suc i) y at))

  -- what is found among the items that pass
  find_within : (keep test : X → Bool) (xs : List X) → find test (filter keep xs) ≡ find (λ x. keep x && test x) xs
  find_within keep test [] = refl
  find_within keep test (x ∷ xs) = by (keep x) (find_within keep test xs)
    where
      by : (b : Bool) → find test (filter keep xs) ≡ find (λ y. keep y && test y) xs → find test (cond b (x ∷ filter keep xs) (filter keep xs)) ≡ cond (b && test x) (Some x) (find (λ y. keep y && test y) xs)
      by true rest = ap (cond (test x) (Some x)) rest
      by false rest = rest

-- ---- the positions at which a frame stands

counts_none : (job layer position : ℕ) (x : Frame) → (StandsAt job layer position x → ⊥) → counts_frame job layer position (Some x) ≡ 0
counts_none job layer position x apart =
    let fails : is_placed job layer position x ≡ false = false_from_ne_true (is_placed job layer position x) (λ h. apart (stands_at job layer position x h)) in
    rw fails refl

counts_one : (job layer position : ℕ) (x : Frame) → StandsAt job layer position x → counts_frame job layer position (Some x) ≡ 1
counts_one job layer position x stands =
    let passes : is_placed job layer position x ≡ true = at_stands job layer position x stands in
    rw passes refl

module _ (job layer : ℕ) where
  -- at how many of the first positions of a layer
  abbrev in_first : ℕ → Option Frame → ℕ
  in_first zero frame = 0
  in_first (suc n) frame = in_first n frame + counts_frame job layer n frame

  first_zero : (n : ℕ) (frame : Option Frame) → ((k : ℕ) → k < n → counts_frame job layer k frame ≡ 0) → in_first n frame ≡ 0
  first_zero zero frame none = refl
  first_zero (suc n) frame none = omega (arith, none n (omega arith), first_zero n frame (λ k within. none k (omega (arith, within))))

  -- at one, where it stands at one of them
  first_one : (n k : ℕ) (x : Frame) → k < n → StandsAt job layer k x → in_first n (Some x) ≡ 1
  first_one zero k x within stands = absurd (omega (arith, within))
  first_one (suc n) k x within stands = by (cases_eq k n) (λ less. first_one n k x less stands)
    where
      by : (k ≡ n) ⊎ (k ≡ n → ⊥) → (k < n → in_first n (Some x) ≡ 1) → in_first (suc n) (Some x) ≡ 1
      by (inl same) earlier =
          let here = counts_one job layer n x (subst (λ (m : ℕ). StandsAt job layer m x) same stands) in
          let before = first_zero n (Some x) (λ m below. counts_none job layer m x (λ at. omega (arith, below, at.position_is, stands.position_is, same))) in
          omega (arith, here, before)
      by (inr apart) earlier =
          let here = counts_none job layer n x (λ at. apart (sym stands.position_is ∙ at.position_is)) in
          omega (arith, here, earlier (below_other apart))
        where
          below_other : (k ≡ n → ⊥) → k < n
          below_other other = omega (arith, within, other)

module _ (job : ℕ) where
  -- at how many positions of layers
  abbrev in_layers : List LayerRow → Option Frame → ℕ
  in_layers [] frame = 0
  in_layers (l ∷ ls) frame = in_first job l.place (length (range_numbers l.range)) frame + in_layers ls frame

  -- a frame that stands at no position of them
  layers_zero : (ls : List LayerRow) (frame : Option Frame) → ((n : ℕ) (l : LayerRow) → slice_get ls n ≡ Some l → (k : ℕ) → counts_frame job l.place k frame ≡ 0) → in_layers ls frame ≡ 0
  layers_zero [] frame none = refl
  layers_zero (l ∷ ls) frame none =
      omega (arith, first_zero job l.place (length (range_numbers l.range)) frame (λ k within. none 0 l refl k), layers_zero ls frame (λ n m at k. none (suc n) m at k))

  other_zero : (ls : List LayerRow) (x : Frame) → (x.job ≡ job → ⊥) → in_layers ls (Some x) ≡ 0
  other_zero ls x apart = layers_zero ls (Some x) (λ n l at k. counts_none job l.place k x (λ stands. apart stands.job_is))

  -- the layers come later
  later_zero : (low : ℕ) (ls : List LayerRow) (x : Frame) → AreAtPlaces low ls → x.layer < low → in_layers ls (Some x) ≡ 0
  later_zero low [] x places less = refl
  later_zero low (l ∷ ls) x places less =
      let first = first_zero job l.place (length (range_numbers l.range)) (Some x) (λ k within. counts_none job l.place k x (λ stands. omega (arith, stands.layer_is, places.0, less))) in
      omega (arith, first, later_zero (low + 1) ls x places.1 (omega (arith, less)))

  -- a frame of the job stands at one position of its layers
  layers_one : (low : ℕ) (ls : List LayerRow) (x : Frame) (l : LayerRow) → x.job ≡ job → AreAtPlaces low ls → find (λ (k : LayerRow). eqb k.place x.layer) ls ≡ Some l → x.position < length (range_numbers l.range) → in_layers ls (Some x) ≡ 1
  layers_one low [] x l own places at within = absurd (none-some l at)
  layers_one low (k ∷ ks) x l own places at within = by (eqb k.place x.layer) refl (λ later. layers_one (low + 1) ks x l own places.1 later within) at
    where
      by : (b : Bool) → eqb k.place x.layer ≡ b → (find (λ (m : LayerRow). eqb m.place x.layer) ks ≡ Some l → in_layers ks (Some x) ≡ 1)
          → cond b (Some k) (find (λ (m : LayerRow). eqb m.place x.layer) ks) ≡ Some l → in_layers (k ∷ ks) (Some x) ≡ 1
      by true is rest found =
          let here : k.place ≡ x.layer = eqb-true k.place x.layer is in
          let in_it : x.position < length (range_numbers k.range) = subst (λ (m : LayerRow). x.position < length (range_numbers m.range)) (sym (same_Some k l found)) within in
          let first = first_one job k.place (length (range_numbers k.range)) x.position x in_it (record { job_is = own; layer_is = sym here; position_is = refl }) in
          omega (arith, first, later_zero (low + 1) ks x places.1 (omega (arith, here, places.0)))
      by false is rest found =
          let first = first_zero job k.place (length (range_numbers k.range)) (Some x) (λ m less. counts_none job k.place m x (λ stands. eqb-false k.place x.layer is (sym stands.layer_is))) in
          omega (arith, first, rest found)

  -- ---- one slot

  module _ (layers : List LayerRow) (places : AreAtPlaces 0 (layers_of layers job)) where
    own_one : (x : Frame) → x.job ≡ job → is_kept_frame layers x ≡ true → in_layers (layers_of layers job) (Some x) ≡ 1
    own_one x own kept =
        let layer = for_some_true (layer_in layers x.job x.layer) _ (frame_kept layers x kept).number in
        let number = for_some_true (slice_get (range_numbers layer.0.range) x.position) _ layer.2 in
        let found = find_within (λ (l : LayerRow). eqb l.job job) (λ (l : LayerRow). eqb l.place x.layer) layers ∙ subst (λ (n : ℕ). layer_in layers n x.layer ≡ Some layer.0) own layer.1 in
        layers_one 0 (layers_of layers job) x layer.0 own places found (slice_get_within (range_numbers layer.0.range) x.position number.0 number.1)

    frame_counted : (frame : Option Frame) → for_any frame (is_kept_frame layers) ≡ true → in_layers (layers_of layers job) frame ≡ cond (for_some frame (λ (x : Frame). eqb x.job job)) 1 0
    frame_counted None kept = layers_zero (layers_of layers job) None (λ n l at k. refl)
    frame_counted (Some x) kept = by (eqb x.job job) refl
      where
        by : (b : Bool) → eqb x.job job ≡ b → in_layers (layers_of layers job) (Some x) ≡ cond b 1 0
        by true is = own_one x (eqb-true x.job job is) kept
        by false is = other_zero (layers_of layers job) x (eqb-false x.job job is)

  -- ---- all slots

  module _ (slots : List SlotRow) where
    first_all : (layer n : ℕ) → ((k : ℕ) → k < n → count_at job layer k slots ≡ 1) → sum_by (λ (s : SlotRow). in_first job layer n s.frame) slots ≡ n
    first_all layer zero once = sum_by-each_zero (λ (s : SlotRow). in_first job layer zero s.frame) slots (λ i s at. refl)
    first_all layer (suc n) once =
        let both = sum_both (λ (s : SlotRow). in_first job layer n s.frame) (λ (s : SlotRow). counts_frame job layer n s.frame) (λ (s : SlotRow). in_first job layer (suc n) s.frame) slots (λ i s at. refl) in
        omega (arith, both, first_all layer n (λ k within. once k (omega (arith, within))), once n (omega arith))

    layers_all : (ls : List LayerRow) → ((n : ℕ) (l : LayerRow) → slice_get ls n ≡ Some l → (k : ℕ) → k < length (range_numbers l.range) → count_at job l.place k slots ≡ 1)
        → sum_by (λ (s : SlotRow). in_layers ls s.frame) slots ≡ frames_said ls
    layers_all [] once = sum_by-each_zero (λ (s : SlotRow). in_layers [] s.frame) slots (λ i s at. refl)
    layers_all (l ∷ ls) once =
        let count = length (range_numbers l.range) in
        let both = sum_both (λ (s : SlotRow). in_first job l.place count s.frame) (λ (s : SlotRow). in_layers ls s.frame) (λ (s : SlotRow). in_layers (l ∷ ls) s.frame) slots (λ i s at. refl) in
        omega (arith, both, first_all l.place count (λ k within. once 0 l refl k within), layers_all ls (λ n m at k within. once (suc n) m at k within), sum_by-cons (λ (m : LayerRow). length (range_numbers m.range)) l ls)

    module _ (layers : List LayerRow) (places : AreAtPlaces 0 (layers_of layers job)) (kept : list_all (is_kept_slot layers) slots ≡ true) (once : EachOnce slots) (there : EachThere layers slots) where
      position_once : (n : ℕ) (l : LayerRow) → slice_get (layers_of layers job) n ≡ Some l → (k : ℕ) → k < length (range_numbers l.range) → count_at job l.place k slots ≡ 1
      position_once n l at k within =
          let was = at_kept (λ (m : LayerRow). eqb m.job job) layers n l at in
          let some = there_counts (is_placed l.job l.place k) 0 slots (there was.0 l was.1 k within) in
          subst (λ (j : ℕ). count_at j l.place k slots ≡ 1) (eqb-true l.job job was.2) (omega (arith, some, count_from_once slots once l.job l.place k))

      -- as many slots have a frame of the job as its layers' ranges say
      pub own_frames : sum_by (λ (s : SlotRow). cond (is_frame_of job s) 1 0) slots ≡ frames_said (layers_of layers job)
      own_frames =
          sym
          (sum_alike (λ (s : SlotRow). in_layers (layers_of layers job) s.frame) (λ (s : SlotRow). cond (is_frame_of job s) 1 0) slots
          (λ i s at. frame_counted layers places s.frame (and_both (leb s.version LAST_VERSION) (for_any s.frame (is_kept_frame layers)) (list_all-at (is_kept_slot layers) slots i s kept at)).1))
          ∙ layers_all (layers_of layers job) position_once

-- ---- frames that are done

-- what is done was eaten or succeeded
state_done : (own : Bool) (state : FrameState) → (own && not (is_done_state state)) ≡ false → cond (own && was_eaten state) 1 0 + cond (own && has_succeeded state) 1 0 ≡ cond own 1 0
state_done false state none = refl
state_done true Waiting none = absurd (true≢false none)
state_done true Setup none = absurd (true≢false none)
state_done true Running none = absurd (true≢false none)
state_done true Succeeded none = refl
state_done true Depend none = absurd (true≢false none)
state_done true Dead none = absurd (true≢false none)
state_done true Eaten none = refl

module _ (job : ℕ) where
  frame_done : (frame : Option Frame) → for_some frame (λ (x : Frame). eqb x.job job && not (is_done_state x.state)) ≡ false
      → cond (for_some frame (λ (x : Frame). eqb x.job job && was_eaten x.state)) 1 0 + cond (for_some frame (λ (x : Frame). eqb x.job job && has_succeeded x.state)) 1 0
      ≡ cond (for_some frame (λ (x : Frame). eqb x.job job)) 1 0
  frame_done None none = refl
  frame_done (Some x) none = state_done (eqb x.job job) x.state none

  -- where none is left, those that were eaten and those that succeeded are all
  pub all_done : (slots : List SlotRow) → list_any (is_left_of job) slots ≡ false → count_where job was_eaten slots + count_where job has_succeeded slots ≡ sum_by (λ (s : SlotRow). cond (is_frame_of job s) 1 0) slots
  all_done slots none =
      sum_both (λ (s : SlotRow). cond (for_some s.frame (λ (x : Frame). eqb x.job job && was_eaten x.state)) 1 0)
      (λ (s : SlotRow). cond (for_some s.frame (λ (x : Frame). eqb x.job job && has_succeeded x.state)) 1 0)
      (λ (s : SlotRow). cond (is_frame_of job s) 1 0) slots
      (λ i s at. frame_done s.frame (any_fails (is_left_of job) slots i s none at))
