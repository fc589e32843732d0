-- One slot whose row is set, its frame in any state: what is free, and what is counted.
use Rattle.std.proofs.Common.{◌≡◌, ℕ, ◌+◌, ◌-◌, ◌≤◌, ◌&&◌, Bool, true, false, cond, eqb, List, length, map, drop, sum, Option, Some, None, refl, sym, ap, subst, ◌∙◌, arith}
use Rattle.std.specs.Option.{IfSome}
use Rattle.std.specs.List.{list_all, slice_get, position_or_len}
use Rattle.std.proofs.lemmas.Option.{slice_get_within, get_or_from_slice_get, same_Some}
use Rattle.std.proofs.lemmas.List.{drop-map}
use Rattle.std.proofs.lemmas.List.Sums.{get_or-le-sum_by, count_by-le-length, sum-map}
use Rattle.std.proofs.lemmas.Bool.{eqb-true, eq-eqb}
use Rattle.farm_types.specs.declared.rows.JobRow.{JobRow}
use Rattle.farm_types.specs.declared.slot_row.Frame.{Frame}
use Rattle.farm_types.specs.declared.slot_row.SlotRow.{SlotRow}
use Rattle.farm_types.specs.declared.states.FrameState.{FrameState}
use Rattle.farm_types.specs.declared.states.FrameState.TheVariants.{Waiting, Setup, Running, Succeeded, Depend, Dead, Eaten}
use Rattle.farm_types.specs.Booking.{is_pending}
use Rattle.farm_types.specs.Farm.{for_some, changed_at}
use Rattle.farm_types.specs.Finish.{is_frame_of}
use Rattle.std.specs.Prelude.{nat_le, nat_lt}
use Rattle.farm_types.specs.Jobs.{JobLists, is_free, free_among, free_in}
use Rattle.job_entries.specs.declared.counts.Counts.{Counts}
use Rattle.job_book.specs.Book.{is_in, count_in, counts_of, IsSameFrame, KeepsFrame}
use Rattle.job_entries.specs.Counting.{number_of, one, part, moved, CanMove}
use Rattle.farm_types.specs.Rising.{IsRising, job_key}
use Rattle.job_book.specs.Inside.{IsBook, KeepsFree, is_below, counts_for, has_slots, taken_by}
use Rattle.farm_types.proofs.Changed.{changed_at_sum, length-changed_at}
use Rattle.farm_types.proofs.Lists.{list_all-at, list_all-from_at}
use Rattle.farm_types.proofs.ChangedLists.{list_all-changed_at, map-changed_at, changed_at_kept}
use Rattle.job_book.proofs.JobPlaces.{recounted, at_place}
use Rattle.farm_types.specs.declared.limits.TheConstants.{SLOT_LIMIT}

same_made : (a0 a1 a2 a3 a4 a5 a6 b0 b1 b2 b3 b4 b5 b6 : ℕ) → a0 ≡ b0 → a1 ≡ b1 → a2 ≡ b2 → a3 ≡ b3 → a4 ≡ b4 → a5 ≡ b5 → a6 ≡ b6
    → ◌≡◌ {A = Counts} (record { waiting = a0; setup = a1; running = a2; succeeded = a3; depend = a4; dead = a5; eaten = a6 }) (record { waiting = b0; setup = b1; running = b2; succeeded = b3; depend = b4; dead = b5; eaten = b6 })
same_made a0 a1 a2 a3 a4 a5 a6 b0 b1 b2 b3 b4 b5 b6 e0 e1 e2 e3 e4 e5 e6 = cc

-- counts are equal where each state's are
pub same_counts : (a b : Counts) → ((state : FrameState) → part state a ≡ part state b) → a ≡ b
same_counts a b each =
    same_made a.waiting a.setup a.running a.succeeded a.depend a.dead a.eaten b.waiting b.setup b.running b.succeeded b.depend b.dead b.eaten
    (each Waiting) (each Setup) (each Running) (each Succeeded) (each Depend) (each Dead) (each Eaten)

-- each state's count
pub part_is : (job : ℕ) (slots : List SlotRow) (state : FrameState) → part state (counts_of job slots) ≡ count_in job state slots
part_is job slots Waiting = refl
part_is job slots Setup = refl
part_is job slots Running = refl
part_is job slots Succeeded = refl
part_is job slots Depend = refl
part_is job slots Dead = refl
part_is job slots Eaten = refl

-- each state's count after a move
part_moved : (old new : FrameState) (c : Counts) (state : FrameState) → part state (moved old new c) ≡ part state c - one old (number_of state) + one new (number_of state)
part_moved old new c Waiting = refl
part_moved old new c Setup = refl
part_moved old new c Running = refl
part_moved old new c Succeeded = refl
part_moved old new c Depend = refl
part_moved old new c Dead = refl
part_moved old new c Eaten = refl

where_some : {X : Type 0} (o : Option X) (P : X → Type 0) → ((x : X) → o ≡ Some x → P x) → IfSome o P
where_some None P h = tt
where_some (Some x) P h = h x refl

difference : (t s a b : ℕ) → t + a ≡ s + b → a ≤ s → t ≡ s - a + b
difference t s a b e h = omega arith

-- ---- the slot's row is set

abbrev pub with_row : List SlotRow → ℕ → SlotRow → List SlotRow
with_row slots i row = changed_at slots i (λ _. row)

-- the frame stands in the slot, and the row has it in that state
pub record IsInState (slots : List SlotRow) (i : ℕ) (row : SlotRow) (x : Frame) (state : FrameState) : Type 0 where
  pub old : SlotRow
  pub retries : ℕ
  pub at : slice_get slots i ≡ Some old
  pub was : old.frame ≡ Some x
  pub is : row.frame ≡ Some (record x { state = state; retries = retries })

-- that is so of a row that keeps the frame
pub in_state : (inside b : JobLists) (i : ℕ) (old row : SlotRow) (x y : Frame) → inside ≡ b → slice_get b.slots i ≡ Some old → old.frame ≡ Some x → row.frame ≡ Some y → KeepsFrame (slice_get b.slots i) row
    → IsInState inside.slots i row x y.state
in_state inside b i old row x y view at was is keeps =
    let framed : IsSameFrame old.frame row.frame = subst (λ (o : Option SlotRow). KeepsFrame o row) at keeps in
    let from_old : IsSameFrame (Some x) row.frame = subst (λ (o : Option Frame). IsSameFrame o row.frame) was framed in
    let same : IsSameFrame (Some x) (Some y) = subst (IsSameFrame (Some x)) is from_old in
    record { old = old; retries = y.retries; at = ap (λ (l : JobLists). slice_get l.slots i) view ∙ at; was = was; is = is ∙ ap Some same }

module _ (slots : List SlotRow) (i : ℕ) (row : SlotRow) (x : Frame) (state : FrameState) (r : IsInState slots i row x state) where
  abbrev new : List SlotRow
  new = with_row slots i row

  -- what is read of the row as of the old one is read of all slots as before
  pub read_same : {Y : Type 0} (read : SlotRow → Y) → read row ≡ read r.old → map read new ≡ map read slots
  read_same read same =
      map-changed_at read (λ _. row) slots i (λ y. y) (λ s at. same ∙ ap read (same_Some r.old s (sym r.at ∙ at)))
      ∙ changed_at_kept (map read slots) i (λ y. y) (λ y at. refl)

  -- as many slots are free, from each place on
  pub same_free : (k : ℕ) → free_among (drop k new) ≡ free_among (drop k slots)
  same_free k =
      let weight = λ (s : SlotRow). cond (is_free s) 1 0 in
      let same : map weight new ≡ map weight slots = read_same weight (rw (r.is, r.was) refl) in
      sym (sum-map weight (drop k new)) ∙ ap sum (sym (drop-map weight k new) ∙ ap (drop k) same ∙ drop-map weight k slots) ∙ sum-map weight (drop k slots)

  weight_within : (job : ℕ) (st : FrameState) → cond (is_in job st x) 1 0 ≤ count_in job st slots
  weight_within job st =
      let h = get_or-le-sum_by (λ (s : SlotRow). cond (for_some s.frame (is_in job st)) 1 0) slots i r.old (slice_get_within slots i r.old r.at) in
      rw r.was at (rw (get_or_from_slice_get slots i r.old r.old r.at) at h)

  count_in_state : (job : ℕ) (st : FrameState) → count_in job st new + cond (eqb x.job job && eqb (number_of x.state) (number_of st)) 1 0 ≡ count_in job st slots + cond (eqb x.job job && eqb (number_of state) (number_of st)) 1 0
  count_in_state job st =
      let weight = λ (o : Option Frame). cond (for_some o (is_in job st)) 1 0 in
      let e = changed_at_sum (λ (s : SlotRow). weight s.frame) slots i (λ _. row) r.old r.at in
      ap (λ (n : ℕ). count_in job st new + n) (sym (ap weight r.was)) ∙ e ∙ ap (λ (n : ℕ). count_in job st slots + n) (ap weight r.is)

  -- each job has as many slots
  pub same_taken : (job : ℕ) → taken_by job new ≡ taken_by job slots
  same_taken job =
      let weight = λ (s : SlotRow). cond (is_frame_of job s) 1 0 in
      let same : map weight new ≡ map weight slots = read_same weight (rw (r.is, r.was) refl) in
      sym (sum-map weight new) ∙ ap sum same ∙ sum-map weight slots

  -- the frame's job has a slot
  taken_here : 1 ≤ taken_by x.job slots
  taken_here =
      let h = get_or-le-sum_by (λ (s : SlotRow). cond (is_frame_of x.job s) 1 0) slots i r.old (slice_get_within slots i r.old r.at) in
      let itself : eqb x.job x.job ≡ true = eq-eqb x.job x.job refl in
      rw itself at (rw r.was at (rw (get_or_from_slice_get slots i r.old r.old r.at) at h))

  -- so it is pending, where it is there
  pub begun_here : (jobs : List JobRow) (n : ℕ) (j : JobRow) → list_all (has_slots slots) jobs ≡ true → slice_get jobs n ≡ Some j → j.job ≡ x.job → is_pending j.state ≡ true
  begun_here jobs n j all at same = by (is_pending j.state) refl (list_all-at (has_slots slots) jobs n j all at)
    where
      by : (b : Bool) → is_pending j.state ≡ b → has_slots slots j ≡ true → is_pending j.state ≡ true
      by true is had = is
      by false is had =
          let none : taken_by j.job slots ≡ 0 = eqb-true (taken_by j.job slots) 0 (rw is at had) in
          absurd (omega (arith, taken_here, none, ap (λ (n : ℕ). taken_by n slots) same))

  -- the counts of the other jobs stay
  pub counts_other : (job : ℕ) → eqb x.job job ≡ false → counts_of job new ≡ counts_of job slots
  counts_other job apart =
      same_counts (counts_of job new) (counts_of job slots) (λ st.
      let e = rw apart at (count_in_state job st) in
      let same : count_in job st new ≡ count_in job st slots = omega (arith, e) in
      part_is job new st ∙ same ∙ sym (part_is job slots st))

  -- those of the frame's job move
  counts_here : counts_of x.job new ≡ moved x.state state (counts_of x.job slots)
  counts_here =
      let itself : eqb x.job x.job ≡ true = eq-eqb x.job x.job refl in
      same_counts (counts_of x.job new) (moved x.state state (counts_of x.job slots)) (λ st.
      let e = rw itself at (count_in_state x.job st) in
      let within = rw itself at (weight_within x.job st) in
      let d = difference (count_in x.job st new) (count_in x.job st slots) (one x.state (number_of st)) (one state (number_of st)) e within in
      part_is x.job new st ∙ d ∙ sym (part_moved x.state state (counts_of x.job slots) st ∙ ap (λ n. n - one x.state (number_of st) + one state (number_of st)) (part_is x.job slots st)))

  -- and so do those of all jobs, at the place of the frame's job alone
  pub counts_in_state : (jobs : List JobRow) (high : ℕ) → IsRising job_key 0 jobs high
      → counts_for jobs new ≡ changed_at (counts_for jobs slots) (position_or_len (λ (j : JobRow). eqb j.job x.job) jobs) (moved x.state state)
  counts_in_state jobs high rise = recounted (λ job. counts_of job slots) (λ job. counts_of job new) x.job (moved x.state state) (λ job apart. counts_other job apart) counts_here 0 jobs high rise

  -- the frame's job can lose it in its state, and have it in another
  moves : length slots ≤ SLOT_LIMIT → CanMove x.state state (counts_of x.job slots)
  moves within =
      let itself : eqb x.job x.job ≡ true = eq-eqb x.job x.job refl in
      let its_state : eqb (number_of x.state) (number_of x.state) ≡ true = eq-eqb (number_of x.state) (number_of x.state) refl in
      let some : 1 ≤ count_in x.job x.state slots = rw its_state at (rw itself at (weight_within x.job x.state)) in
      let most : count_in x.job state slots ≤ length slots = count_by-le-length (λ (s : SlotRow). for_some s.frame (is_in x.job state)) slots in
      (omega (arith, part_is x.job slots x.state, some), omega (arith, part_is x.job slots state, most))

  pub can_move : (jobs : List JobRow) (counts : List Counts) (place : ℕ) → counts ≡ counts_for jobs slots
      → place ≡ position_or_len (λ (j : JobRow). eqb j.job x.job) jobs → length slots ≤ SLOT_LIMIT → IfSome (slice_get counts place) (CanMove x.state state)
  can_move jobs counts place are there within =
      where_some (slice_get counts place) (CanMove x.state state) (λ c e.
      subst (CanMove x.state state) (sym (at_place (λ job. counts_of job slots) x.job jobs c (sym (ap (λ k. slice_get (counts_for jobs slots) k) there) ∙ sym (ap (λ cs. slice_get cs place) are) ∙ e))) (moves within))

pub in_state_book : (b : JobLists) (i : ℕ) (row : SlotRow) (x : Frame) (state : FrameState) → IsInState b.slots i row x state → IsBook b → IsBook (record b { slots = with_row b.slots i row })
in_state_book b i row x state r ok =
    let long : length (with_row b.slots i row) ≡ length b.slots = length-changed_at b.slots i (λ _. row) in
    let free : free_in (with_row b.slots i row) ≡ free_in b.slots = omega (arith, long, same_free b.slots i row x state r 0) in
    let below : is_below b.next_job row ≡ is_below b.next_job r.old = rw (r.is, r.was) refl in
    record {
      slot_count = rw long ok.slot_count;
      next_within = ok.next_within;
      jobs_rise = ok.jobs_rise;
      layers_rise = ok.layers_rise;
      layers_owned = ok.layers_owned;
      frames_below = list_all-changed_at (is_below b.next_job) b.slots i (λ _. row) ok.frames_below (λ s at. below ∙ list_all-at (is_below b.next_job) b.slots i r.old ok.frames_below r.at);
      jobs_fit = rw free ok.jobs_fit;
      slots_had = list_all-from_at (has_slots (with_row b.slots i row)) b.jobs (λ n j at.
          ap (λ (k : ℕ). cond (is_pending j.state) (nat_lt 0 j.frames && nat_le k j.frames) (eqb k 0)) (same_taken b.slots i row x state r j.job) ∙ list_all-at (has_slots b.slots) b.jobs n j ok.slots_had at);
    }

pub in_state_free : (free lowest : ℕ) (slots : List SlotRow) (i : ℕ) (row : SlotRow) (x : Frame) (state : FrameState) → IsInState slots i row x state → KeepsFree free lowest slots → KeepsFree free lowest (with_row slots i row)
in_state_free free lowest slots i row x state r keeps =
    let long : length (with_row slots i row) ≡ length slots = length-changed_at slots i (λ _. row) in
    let all = same_free slots i row x state r 0 in
    record {
      free_is = keeps.free_is ∙ omega (arith, long, all);
      within = omega (arith, keeps.within, long);
      none_below = same_free slots i row x state r lowest ∙ keeps.none_below ∙ sym all;
    }
