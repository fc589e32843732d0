-- The slots of a job that finishes become free: which they are, and what is found and counted in them then.
use Rattle.std.proofs.Common.{◌≡◌, ◌≢◌, ℕ, zero, suc, ◌+◌, ◌≤◌, Bool, true, false, cond, eqb, List, [], ◌∷◌, map, Option, Some, None, option_map, refl, sym, ap, ◌∙◌, arith}
use Rattle.std.specs.List.{list_all, slice_get, sum_by}
use Rattle.std.specs.Option.{option_and_then}
use Rattle.std.proofs.lemmas.Bool.{and_from, eqb-true, false≢true}
use Rattle.std.proofs.lemmas.List.Sums.{get_or-le-sum_by, sum_by-cons}
use Rattle.std.proofs.lemmas.Option.{get_or_from_slice_get, none-some, option_and_then_some, slice_get-map, slice_get_within}
use Rattle.farm_types.specs.declared.rows.LayerRow.{LayerRow}
use Rattle.farm_types.specs.declared.slot_row.Frame.{Frame}
use Rattle.farm_types.specs.declared.slot_row.SlotRow.{SlotRow}
use Rattle.farm_types.specs.declared.states.FrameState.{FrameState}
use Rattle.farm_types.specs.declared.states.FrameState.TheVariants.{Waiting, Setup, Running, Succeeded, Depend, Dead, Eaten}
use Rattle.farm_types.specs.Booking.{is_waiting}
use Rattle.farm_types.specs.Farm.{changed_at, for_some, slot_from}
use Rattle.farm_types.specs.Finish.{count_where, freed_row, has_succeeded, is_frame_of, was_eaten}
use Rattle.farm_types.specs.Jobs.{free_among, is_free}
use Rattle.farm_types.proofs.Changed.{changed_at_each}
use Rattle.farm_types.proofs.ChangedLists.{map-changed_at_kept}
use Rattle.farm_types.proofs.Lists.{and_both, for_some_true}
use Rattle.farm_types.proofs.ListSums.{sum_by-map_zero}
use Rattle.job_book.specs.Book.{count_in, counts_of, is_in}
use Rattle.job_entries.specs.Counting.{number_of, new_counts, part}
use Rattle.job_book.specs.Freed.{freed_all, freed_at}
use Rattle.job_book.specs.Index.{waits_in}
use Rattle.job_book.specs.Inside.{is_below, taken_by}
use Rattle.job_book.specs.Layers.{KeepsLayers, place_in, slots_of}
use Rattle.job_entries.specs.Entries.{layer_position}
use Rattle.job_index.specs.Places.{LayerPlaces}
use Rattle.job_book.proofs.InState.{part_is, same_counts}

-- ---- states

eaten_as : (state : FrameState) → eqb (number_of state) 6 ≡ was_eaten state
eaten_as Waiting = refl
eaten_as Setup = refl
eaten_as Running = refl
eaten_as Succeeded = refl
eaten_as Depend = refl
eaten_as Dead = refl
eaten_as Eaten = refl

succeeded_as : (state : FrameState) → eqb (number_of state) 3 ≡ has_succeeded state
succeeded_as Waiting = refl
succeeded_as Setup = refl
succeeded_as Running = refl
succeeded_as Succeeded = refl
succeeded_as Depend = refl
succeeded_as Dead = refl
succeeded_as Eaten = refl

waiting_as : (state : FrameState) → eqb (number_of state) 0 ≡ is_waiting state
waiting_as Waiting = refl
waiting_as Setup = refl
waiting_as Running = refl
waiting_as Succeeded = refl
waiting_as Depend = refl
waiting_as Dead = refl
waiting_as Eaten = refl

-- the counts are those by which the job finishes
pub eaten_is : (job : ℕ) (slots : List SlotRow) → count_in job Eaten slots ≡ count_where job was_eaten slots
eaten_is job slots = ap (λ (test : FrameState → Bool). count_where job test slots) (λ i state. eaten_as state i)

pub succeeded_is : (job : ℕ) (slots : List SlotRow) → count_in job Succeeded slots ≡ count_where job has_succeeded slots
succeeded_is job slots = ap (λ (test : FrameState → Bool). count_where job test slots) (λ i state. succeeded_as state i)

none_in : (state : FrameState) → part state (new_counts 0) ≡ 0
none_in Waiting = refl
none_in Setup = refl
none_in Running = refl
none_in Succeeded = refl
none_in Depend = refl
none_in Dead = refl
none_in Eaten = refl

module _ (job : ℕ) where
  -- ---- one slot

  -- a test that fails of the job's frames says the same
  pub reads_same : (test : Frame → Bool) → ((x : Frame) → eqb x.job job ≡ true → test x ≡ false) → (s : SlotRow) → for_some (freed_row job s).frame test ≡ for_some s.frame test
  reads_same test off s = by (is_frame_of job s) refl
    where
      by : (b : Bool) → is_frame_of job s ≡ b → for_some (freed_row job s).frame test ≡ for_some s.frame test
      by false is = rw is refl
      by true is =
          let its = for_some_true s.frame (λ (x : Frame). eqb x.job job) is in
          rw is (sym (ap (λ (o : Option Frame). for_some o test) its.1 ∙ off its.0 its.2))

  -- one that fails of all other frames is met by none
  pub reads_none : (test : Frame → Bool) → ((x : Frame) → eqb x.job job ≡ false → test x ≡ false) → (s : SlotRow) → for_some (freed_row job s).frame test ≡ false
  reads_none test off s = by (is_frame_of job s) refl
    where
      none : (o : Option Frame) → for_some o (λ (x : Frame). eqb x.job job) ≡ false → for_some o test ≡ false
      none None is = refl
      none (Some x) is = off x is

      by : (b : Bool) → is_frame_of job s ≡ b → for_some (freed_row job s).frame test ≡ false
      by true is = rw is refl
      by false is = rw is (none s.frame is)

  pub freed_none : (s : SlotRow) → is_frame_of job (freed_row job s) ≡ false
  freed_none s = reads_none (λ (x : Frame). eqb x.job job) (λ x is. is) s

  freed_same : (s : SlotRow) → is_frame_of job s ≡ false → freed_row job s ≡ s
  freed_same s is = rw is refl

  -- ---- the job's slots

  stays_at : (n : ℕ) (slots : List SlotRow) (k : ℕ) (s : SlotRow) → slice_get (changed_at slots n (freed_row job)) k ≡ Some s → is_frame_of job s ≡ true → (slice_get slots k ≡ Some s) × (k ≢ n)
  stays_at n slots =
      changed_at_each (λ (k : ℕ) (s : SlotRow). is_frame_of job s ≡ true → (slice_get slots k ≡ Some s) × (k ≢ n)) slots n (freed_row job)
      (λ s at has. absurd (false≢true (sym (freed_none s) ∙ has)))
      (λ k s apart at has. (at, apart))

  -- a frame that is left stood there, and at none of the places
  left_at : (ns : List ℕ) (slots : List SlotRow) (k : ℕ) (s : SlotRow) → slice_get (freed_at job ns slots) k ≡ Some s → is_frame_of job s ≡ true
      → (slice_get slots k ≡ Some s) × ((p : ℕ) → slice_get ns p ≡ Some k → ⊥)
  left_at [] slots k s at has = (at, λ p there. none-some k there)
  left_at (n ∷ ns) slots k s at has =
      let later = left_at ns (changed_at slots n (freed_row job)) k s at has in
      let first = stays_at n slots k s later.0 has in
      (first.0, λ p there. by p there first.1 later.1)
    where
      by : (p : ℕ) → slice_get (n ∷ ns) p ≡ Some k → k ≢ n → ((p : ℕ) → slice_get ns p ≡ Some k → ⊥) → ⊥
      by zero there apart none = apart (cc)
      by (suc p) there apart none = none p there

  left_all : (lists : List (List ℕ)) (slots : List SlotRow) (k : ℕ) (s : SlotRow) → slice_get (freed_all job lists slots) k ≡ Some s → is_frame_of job s ≡ true
      → (slice_get slots k ≡ Some s) × ((m p : ℕ) (ns : List ℕ) → slice_get lists m ≡ Some ns → slice_get ns p ≡ Some k → ⊥)
  left_all [] slots k s at has = (at, λ m p ns here there. none-some ns here)
  left_all (ms ∷ lists) slots k s at has =
      let later = left_all lists (freed_at job ms slots) k s at has in
      let first = left_at ms slots k s later.0 has in
      (first.0, λ m p ns here there. by m p ns here there first.1 later.1)
    where
      by : (m p : ℕ) (ns : List ℕ) → slice_get (ms ∷ lists) m ≡ Some ns → slice_get ns p ≡ Some k → ((p : ℕ) → slice_get ms p ≡ Some k → ⊥)
          → ((m p : ℕ) (ns : List ℕ) → slice_get lists m ≡ Some ns → slice_get ns p ≡ Some k → ⊥) → ⊥
      by zero p ns here there none others = none p (cc)
      by (suc m) p ns here there none others = others m p ns here there

  -- what is free already stays so
  freed_twice : (s : SlotRow) → freed_row job (freed_row job s) ≡ freed_row job s
  freed_twice s = freed_same (freed_row job s) (freed_none s)

  same_at : (ns : List ℕ) (slots : List SlotRow) → map (freed_row job) (freed_at job ns slots) ≡ map (freed_row job) slots
  same_at [] slots = refl
  same_at (n ∷ ns) slots = same_at ns (changed_at slots n (freed_row job)) ∙ map-changed_at_kept (freed_row job) (freed_row job) freed_twice slots n

  same_all : (lists : List (List ℕ)) (slots : List SlotRow) → map (freed_row job) (freed_all job lists slots) ≡ map (freed_row job) slots
  same_all [] slots = refl
  same_all (ns ∷ lists) slots = same_all lists (freed_at job ns slots) ∙ same_at ns slots

  untouched : (slots : List SlotRow) → ((k : ℕ) (s : SlotRow) → slice_get slots k ≡ Some s → is_frame_of job s ≡ false) → map (freed_row job) slots ≡ slots
  untouched [] none = refl
  untouched (s ∷ ss) none =
      let first = freed_same s (none 0 s refl) in
      let rest = untouched ss (λ k r at. none (suc k) r at) in
      λ i. first i ∷ rest i

  -- the slots at the places of the job's layers are all that have its frames
  pub freed_is : (layers : List LayerRow) (slots : List SlotRow) (index own : List LayerPlaces) → KeepsLayers layers slots (map slots_of index)
      → ((layer : ℕ) → slice_get own layer ≡ slice_get index (layer_position job layer layers)) → freed_all job (map slots_of own) slots ≡ map (freed_row job) slots
  freed_is layers slots index own keeps its = sym (untouched (freed_all job (map slots_of own) slots) none) ∙ same_all (map slots_of own) slots
    where
      read : (layer position : ℕ) → place_in (map slots_of own) layer position ≡ place_in (map slots_of index) (layer_position job layer layers) position
      read layer position =
          ap (option_and_then (λ (ns : List ℕ). slice_get ns position))
          (slice_get-map slots_of own layer ∙ ap (option_map slots_of) (its layer) ∙ sym (slice_get-map slots_of index (layer_position job layer layers)))

      listed : (k : ℕ) (s : SlotRow) (x : Frame) → slice_get slots k ≡ Some s → s.frame ≡ Some x → eqb x.job job ≡ true → place_in (map slots_of own) x.layer x.position ≡ Some k
      listed k s x at is same =
          read x.layer x.position ∙ ap (λ (n : ℕ). place_in (map slots_of index) (layer_position n x.layer layers) x.position) (sym (eqb-true x.job job same))
          ∙ sym (keeps.found x.job x.layer x.position) ∙ keeps.first k s x at is

      by : (k : ℕ) (s : SlotRow) → slice_get (freed_all job (map slots_of own) slots) k ≡ Some s → (b : Bool) → is_frame_of job s ≡ b → is_frame_of job s ≡ false
      by k s at false is = is
      by k s at true is =
          let left = left_all (map slots_of own) slots k s at is in
          let has = for_some_true s.frame (λ (x : Frame). eqb x.job job) is in
          absurd (option_and_then_some (λ (ns : List ℕ). slice_get ns has.0.position) (slice_get (map slots_of own) has.0.layer) k (listed k s has.0 left.0 has.1 has.2)
          (λ ns here there. left.1 has.0.layer has.0.position ns here there))

      none : (k : ℕ) (s : SlotRow) → slice_get (freed_all job (map slots_of own) slots) k ≡ Some s → is_frame_of job s ≡ false
      none k s at = by k s at (is_frame_of job s) refl

  -- ---- what is found

  pub from_same : (p : ℕ) (test : Frame → Bool) → ((x : Frame) → eqb x.job job ≡ true → test x ≡ false) → (slots : List SlotRow) → slot_from p test (map (freed_row job) slots) ≡ slot_from p test slots
  from_same p test off [] = refl
  from_same p test off (s ∷ ss) = rw (reads_same test off s, from_same (p + 1) test off ss) refl

  pub from_none : (p : ℕ) (test : Frame → Bool) → ((x : Frame) → eqb x.job job ≡ false → test x ≡ false) → (slots : List SlotRow) → slot_from p test (map (freed_row job) slots) ≡ None
  from_none p test off [] = refl
  from_none p test off (s ∷ ss) = rw (reads_none test off s) (from_none (p + 1) test off ss)

  -- ---- what is counted

  sum_same : (weight : SlotRow → ℕ) → ((s : SlotRow) → weight (freed_row job s) ≡ weight s) → (slots : List SlotRow) → sum_by weight (map (freed_row job) slots) ≡ sum_by weight slots
  sum_same weight same [] = refl
  sum_same weight same (s ∷ ss) = omega (arith, sum_by-cons weight (freed_row job s) (map (freed_row job) ss), sum_by-cons weight s ss, same s, sum_same weight same ss)

  counts_same : (test : Frame → Bool) → ((x : Frame) → eqb x.job job ≡ true → test x ≡ false) → (slots : List SlotRow)
      → sum_by (λ (s : SlotRow). cond (for_some s.frame test) 1 0) (map (freed_row job) slots) ≡ sum_by (λ (s : SlotRow). cond (for_some s.frame test) 1 0) slots
  counts_same test off slots = sum_same (λ (s : SlotRow). cond (for_some s.frame test) 1 0) (λ s. ap (λ (b : Bool). cond b 1 0) (reads_same test off s)) slots

  counts_none : (test : Frame → Bool) → ((x : Frame) → eqb x.job job ≡ false → test x ≡ false) → (slots : List SlotRow)
      → sum_by (λ (s : SlotRow). cond (for_some s.frame test) 1 0) (map (freed_row job) slots) ≡ 0
  counts_none test off slots = sum_by-map_zero (λ (s : SlotRow). cond (for_some s.frame test) 1 0) (freed_row job) (λ s. ap (λ (b : Bool). cond b 1 0) (reads_none test off s)) slots

  -- a frame of the job is of no other
  its_own : (k : ℕ) → eqb job k ≡ false → (x : Frame) → eqb x.job job ≡ true → eqb x.job k ≡ false
  its_own k apart x is = ap (λ (n : ℕ). eqb n k) (eqb-true x.job job is) ∙ apart

  pub count_other : (k : ℕ) (state : FrameState) → eqb job k ≡ false → (slots : List SlotRow) → count_in k state (map (freed_row job) slots) ≡ count_in k state slots
  count_other k state apart slots = counts_same (is_in k state) (λ x is. rw (its_own k apart x is) refl) slots

  count_here : (state : FrameState) (slots : List SlotRow) → count_in job state (map (freed_row job) slots) ≡ 0
  count_here state slots = counts_none (is_in job state) (λ x is. rw is refl) slots

  pub counts_other : (slots : List SlotRow) (k : ℕ) → eqb job k ≡ false → counts_of k (map (freed_row job) slots) ≡ counts_of k slots
  counts_other slots k apart =
      same_counts (counts_of k (map (freed_row job) slots)) (counts_of k slots) (λ state. part_is k (map (freed_row job) slots) state ∙ count_other k state apart slots ∙ sym (part_is k slots state))

  pub counts_here : (slots : List SlotRow) → counts_of job (map (freed_row job) slots) ≡ new_counts 0
  counts_here slots =
      same_counts (counts_of job (map (freed_row job) slots)) (new_counts 0) (λ state. part_is job (map (freed_row job) slots) state ∙ count_here state slots ∙ sym (none_in state))

  pub taken_other : (k : ℕ) → eqb job k ≡ false → (slots : List SlotRow) → taken_by k (map (freed_row job) slots) ≡ taken_by k slots
  taken_other k apart slots = counts_same (λ (x : Frame). eqb x.job k) (λ x is. its_own k apart x is) slots

  pub taken_here : (slots : List SlotRow) → taken_by job (map (freed_row job) slots) ≡ 0
  taken_here slots = counts_none (λ (x : Frame). eqb x.job job) (λ x is. is) slots

  -- as many more are free as the job had, at most
  pub free_more : (slots : List SlotRow) → free_among (map (freed_row job) slots) ≤ free_among slots + taken_by job slots
  free_more [] = omega arith
  free_more (s ∷ ss) =
      omega (arith, sum_by-cons free (freed_row job s) (map (freed_row job) ss), sum_by-cons free s ss, sum_by-cons its s ss, by (is_frame_of job s) refl, free_more ss)
    where
      free : SlotRow → ℕ
      free r = cond (is_free r) 1 0

      its : SlotRow → ℕ
      its r = cond (is_frame_of job r) 1 0

      one : (b : Bool) → cond b 1 0 ≤ 1
      one true = omega arith
      one false = omega arith

      by : (b : Bool) → is_frame_of job s ≡ b → free (freed_row job s) ≤ free s + its s
      by true is = let all : its s ≡ 1 = ap (λ (c : Bool). cond c 1 0) is in omega (arith, all, one (is_free (freed_row job s)))
      by false is = let same : free (freed_row job s) ≡ free s = ap free (freed_same s is) in omega (arith, same)

  pub below_freed : (next : ℕ) (slots : List SlotRow) → list_all (is_below next) slots ≡ true → list_all (is_below next) (map (freed_row job) slots) ≡ true
  below_freed next [] all = refl
  below_freed next (s ∷ ss) all =
      let both = and_both (is_below next s) (list_all (is_below next) ss) all in
      and_from (is_below next (freed_row job s)) (list_all (is_below next) (map (freed_row job) ss)) (by (is_frame_of job s) refl both.0) (below_freed next ss both.1)
    where
      by : (b : Bool) → is_frame_of job s ≡ b → is_below next s ≡ true → is_below next (freed_row job s) ≡ true
      by true is below = rw is refl
      by false is below = rw is below

  -- ---- what waits

  -- none of the job's frames waits, so that each slot's frame waits as before
  pub waits_same : (slots : List SlotRow) → count_in job Waiting slots ≡ 0 → (n : ℕ) → waits_in (map (freed_row job) slots) n ≡ waits_in slots n
  waits_same slots none n =
      ap (λ (o : Option SlotRow). for_some o (λ (s : SlotRow). for_some s.frame (λ (x : Frame). is_waiting x.state))) (slice_get-map (freed_row job) slots n) ∙ by (slice_get slots n) refl
    where
      weight : SlotRow → ℕ
      weight s = cond (for_some s.frame (is_in job Waiting)) 1 0

      alone : Frame → ℕ
      alone x = cond (is_in job Waiting x) 1 0

      idle : (x : Frame) → eqb x.job job ≡ true → (b : Bool) → is_waiting x.state ≡ b → alone x ≡ 0 → is_waiting x.state ≡ false
      idle x its false is counted = is
      idle x its true is counted =
          let all : is_in job Waiting x ≡ true = and_from (eqb x.job job) (eqb (number_of x.state) 0) its (waiting_as x.state ∙ is) in
          let one : alone x ≡ 1 = ap (λ (b : Bool). cond b 1 0) all in
          absurd (omega (arith, one, counted))

      freed : (s : SlotRow) → slice_get slots n ≡ Some s → (b : Bool) → is_frame_of job s ≡ b → for_some (freed_row job s).frame (λ (x : Frame). is_waiting x.state) ≡ for_some s.frame (λ (x : Frame). is_waiting x.state)
      freed s at false is = rw is refl
      freed s at true is =
          let has = for_some_true s.frame (λ (x : Frame). eqb x.job job) is in
          let most = get_or-le-sum_by weight slots n s (slice_get_within slots n s at) in
          let here : weight s ≤ count_in job Waiting slots = rw (get_or_from_slice_get slots n s s at) at most in
          let its : weight s ≡ alone has.0 = ap (λ (o : Option Frame). cond (for_some o (is_in job Waiting)) 1 0) has.1 in
          let not_it = idle has.0 has.2 (is_waiting has.0.state) refl (omega (arith, here, its, none)) in
          rw is (sym (ap (λ (o : Option Frame). for_some o (λ (x : Frame). is_waiting x.state)) has.1 ∙ not_it))

      by : (o : Option SlotRow) → slice_get slots n ≡ o
          → for_some (option_map (freed_row job) o) (λ (s : SlotRow). for_some s.frame (λ (x : Frame). is_waiting x.state)) ≡ for_some o (λ (s : SlotRow). for_some s.frame (λ (x : Frame). is_waiting x.state))
      by None at = refl
      by (Some s) at = freed s at (is_frame_of job s) refl
