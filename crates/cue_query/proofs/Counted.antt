-- Frames counted by their states: what the book counts of a job is what a list shows of it, and a layer's frames are counted one by one.
use Rattle.std.proofs.Common.{◌≡◌, ℕ, ◌+◌, ◌≤◌, Bool, true, false, cond, eqb, List, [], ◌∷◌, ◌++◌, length, take, Option, Some, None, option_map, append-nil, refl, sym, ap, ◌∙◌, arith}
use Rattle.std.specs.Prelude.{filter_map}
use Rattle.std.specs.List.{slice_get}
use Rattle.std.proofs.lemmas.List.{length-take, take_all, take_more}
use Rattle.std.proofs.lemmas.List.Elements.{filter_map-append}
use Rattle.std.proofs.lemmas.List.Sums.{sum_by-append, sum_by-cons}
use Rattle.std.proofs.lemmas.Option.{get_or_from_slice_get, none-some, slice_get_within}
use Rattle.farm_types.specs.declared.rows.JobRow.{JobRow}
use Rattle.farm_types.specs.declared.slot_row.Frame.{Frame}
use Rattle.farm_types.specs.declared.slot_row.SlotRow.{SlotRow}
use Rattle.farm_types.specs.declared.states.FrameState.{FrameState}
use Rattle.farm_types.specs.declared.states.FrameState.TheVariants.{Waiting, Setup, Running, Succeeded, Depend, Dead, Eaten}
use Rattle.farm_types.specs.Booking.{is_pending, is_waiting}
use Rattle.farm_types.specs.DependActs.{is_running}
use Rattle.farm_types.specs.Farm.{Farm, for_some}
use Rattle.farm_types.specs.Finish.{count_where, has_succeeded, was_eaten}
use Rattle.farm_types.specs.Kept.{is_setup}
use Rattle.farm_types.specs.Settle.{is_blocked}
use Rattle.farm_lines.specs.Lists.{count_among, is_dead}
use Rattle.job_entries.specs.declared.counts.Counts.{Counts}
use Rattle.job_book.specs.Book.{counts_of, number_of, state_in}
use Rattle.job_entries.specs.Counting.{one, part, counted_in}
use Rattle.cue_query.specs.Counts.{counts_among, job_counts}
use Rattle.cue_query.proofs.InTurn.{kept_within}

-- ---- states by their numbers

each_state : (P : FrameState → Type 0) → P Waiting → P Setup → P Running → P Succeeded → P Depend → P Dead → P Eaten → (state : FrameState) → P state
each_state P waiting setup running succeeded blocked dead eaten Waiting = waiting
each_state P waiting setup running succeeded blocked dead eaten Setup = setup
each_state P waiting setup running succeeded blocked dead eaten Running = running
each_state P waiting setup running succeeded blocked dead eaten Succeeded = succeeded
each_state P waiting setup running succeeded blocked dead eaten Depend = blocked
each_state P waiting setup running succeeded blocked dead eaten Dead = dead
each_state P waiting setup running succeeded blocked dead eaten Eaten = eaten

-- the state is the one of that number where it passes the test
abbrev IsTestOf : ℕ → (FrameState → Bool) → Type 0
IsTestOf number test = (state : FrameState) → eqb (number_of state) number ≡ test state

waiting_is : IsTestOf 0 is_waiting
waiting_is = each_state (λ s. eqb (number_of s) 0 ≡ is_waiting s) refl refl refl refl refl refl refl

setup_is : IsTestOf 1 is_setup
setup_is = each_state (λ s. eqb (number_of s) 1 ≡ is_setup s) refl refl refl refl refl refl refl

running_is : IsTestOf 2 is_running
running_is = each_state (λ s. eqb (number_of s) 2 ≡ is_running s) refl refl refl refl refl refl refl

succeeded_is : IsTestOf 3 has_succeeded
succeeded_is = each_state (λ s. eqb (number_of s) 3 ≡ has_succeeded s) refl refl refl refl refl refl refl

blocked_is : IsTestOf 4 is_blocked
blocked_is = each_state (λ s. eqb (number_of s) 4 ≡ is_blocked s) refl refl refl refl refl refl refl

dead_is : IsTestOf 5 is_dead
dead_is = each_state (λ s. eqb (number_of s) 5 ≡ is_dead s) refl refl refl refl refl refl refl

eaten_is : IsTestOf 6 was_eaten
eaten_is = each_state (λ s. eqb (number_of s) 6 ≡ was_eaten s) refl refl refl refl refl refl refl

-- ---- a job

module _ (f : Farm) (j : JobRow) where
  -- of a job whose frames are counted, or not
  abbrev counts_if : Bool → Counts
  counts_if there =
      record {
        waiting = cond there (count_where j.job is_waiting f.slots) 0;
        setup = cond there (count_where j.job is_setup f.slots) 0;
        running = cond there (count_where j.job is_running f.slots) 0;
        succeeded = cond there (count_where j.job has_succeeded f.slots) j.succeeded;
        depend = cond there (count_where j.job is_blocked f.slots) 0;
        dead = cond there (count_where j.job is_dead f.slots) 0;
        eaten = cond there (count_where j.job was_eaten f.slots) j.eaten;
      }

  same_count : (number : ℕ) (test : FrameState → Bool) → IsTestOf number test → count_where j.job (λ state. eqb (number_of state) number) f.slots ≡ count_where j.job test f.slots
  same_count number test is = ap (λ (t : FrameState → Bool). count_where j.job t f.slots) (λ i state. is state i)

  pub pending_counts : is_pending j.state ≡ true → counts_of j.job f.slots ≡ job_counts f j
  pending_counts pending =
      (λ i. record {
        waiting = same_count 0 is_waiting waiting_is i;
        setup = same_count 1 is_setup setup_is i;
        running = same_count 2 is_running running_is i;
        succeeded = same_count 3 has_succeeded succeeded_is i;
        depend = same_count 4 is_blocked blocked_is i;
        dead = same_count 5 is_dead dead_is i;
        eaten = same_count 6 was_eaten eaten_is i;
      })
      ∙ sym (ap counts_if pending)

-- ---- frames one by one

abbrev if_counted : Bool → ℕ
if_counted b = cond b 1 0

abbrev weight : (FrameState → Bool) → SlotRow → ℕ
weight test s = if_counted (for_some s.frame (λ (x : Frame). test x.state))

abbrev state_of : SlotRow → Option FrameState
state_of s = option_map (λ (x : Frame). x.state) s.frame

weight_is : (test : FrameState → Bool) (o : Option Frame) → if_counted (for_some o (λ (x : Frame). test x.state)) ≡ if_counted (for_some (option_map (λ (x : Frame). x.state) o) test)
weight_is test None = refl
weight_is test (Some x) = refl

-- one frame more among those that are counted by a test
one_among : (number : ℕ) (test : FrameState → Bool) → IsTestOf number test → (slots : List SlotRow) (s : SlotRow) (state : FrameState) → state_of s ≡ Some state → count_among test (slots ++ s ∷ []) ≡ count_among test slots + one state number
one_among number test tested slots s state is =
    let weighs : weight test s ≡ one state number = weight_is test s.frame ∙ (ap (λ (o : Option FrameState). if_counted (for_some o test)) is ∙ ap if_counted (sym (tested state))) in
    omega (arith, sum_by-append (weight test) slots (s ∷ []), sum_by-cons (weight test) s [], weighs)

none_among : (test : FrameState → Bool) (slots : List SlotRow) (s : SlotRow) → state_of s ≡ None → count_among test (slots ++ s ∷ []) ≡ count_among test slots
none_among test slots s is =
    let weighs : weight test s ≡ 0 = weight_is test s.frame ∙ ap (λ (o : Option FrameState). if_counted (for_some o test)) is in
    omega (arith, sum_by-append (weight test) slots (s ∷ []), sum_by-cons (weight test) s [], weighs)

pub one_counted : (slots : List SlotRow) (s : SlotRow) (state : FrameState) → state_of s ≡ Some state → counted_in state (counts_among slots) ≡ counts_among (slots ++ s ∷ [])
one_counted slots s state is =
    sym (λ i. record {
      waiting = one_among 0 is_waiting waiting_is slots s state is i;
      setup = one_among 1 is_setup setup_is slots s state is i;
      running = one_among 2 is_running running_is slots s state is i;
      succeeded = one_among 3 has_succeeded succeeded_is slots s state is i;
      depend = one_among 4 is_blocked blocked_is slots s state is i;
      dead = one_among 5 is_dead dead_is slots s state is i;
      eaten = one_among 6 was_eaten eaten_is slots s state is i;
    })

pub none_counted : (slots : List SlotRow) (s : SlotRow) → state_of s ≡ None → counts_among slots ≡ counts_among (slots ++ s ∷ [])
none_counted slots s is =
    sym (λ i. record {
      waiting = none_among is_waiting slots s is i;
      setup = none_among is_setup slots s is i;
      running = none_among is_running slots s is i;
      succeeded = none_among has_succeeded slots s is i;
      depend = none_among is_blocked slots s is i;
      dead = none_among is_dead slots s is i;
      eaten = none_among was_eaten slots s is i;
    })

-- no count is more than the slots
if_counted_within : (b : Bool) → if_counted b ≤ 1
if_counted_within true = omega arith
if_counted_within false = omega arith

among_within : (test : FrameState → Bool) (slots : List SlotRow) → count_among test slots ≤ length slots
among_within test [] = omega arith
among_within test (s ∷ ss) = omega (arith, sum_by-cons (weight test) s ss, if_counted_within (for_some s.frame (λ (x : Frame). test x.state)), among_within test ss)

part_within : (slots : List SlotRow) (state : FrameState) → part state (counts_among slots) ≤ length slots
part_within slots =
    each_state (λ state. part state (counts_among slots) ≤ length slots)
    (among_within is_waiting slots)
    (among_within is_setup slots)
    (among_within is_running slots)
    (among_within has_succeeded slots)
    (among_within is_blocked slots)
    (among_within is_dead slots)
    (among_within was_eaten slots)

-- ---- the slots of a list of numbers

-- the state of what stands in a slot
abbrev pub state_there : Option SlotRow → Option FrameState
state_there o = (state_in o).0

rows_there : (slots : List SlotRow) (ns : List ℕ) (n : ℕ) → filter_map (slice_get slots) (ns ++ n ∷ []) ≡ filter_map (slice_get slots) ns ++ filter_map (slice_get slots) (n ∷ [])
rows_there slots ns n = filter_map-append (slice_get slots) ns (n ∷ [])

row_there : (slots : List SlotRow) (n : ℕ) (s : SlotRow) → slice_get slots n ≡ Some s → filter_map (slice_get slots) (n ∷ []) ≡ s ∷ []
row_there slots n s at = rw at refl

no_row_there : (slots : List SlotRow) (n : ℕ) → slice_get slots n ≡ None → filter_map (slice_get slots) (n ∷ []) ≡ []
no_row_there slots n at = rw at refl

module _ (slots : List SlotRow) (ns : List ℕ) (i n : ℕ) (at : slice_get ns i ≡ Some n) where
  abbrev counts_to : ℕ → Counts
  counts_to k = counts_among (filter_map (slice_get slots) (take k ns))

  one_longer : counts_to (i + 1) ≡ counts_among (filter_map (slice_get slots) (take i ns) ++ filter_map (slice_get slots) (n ∷ []))
  one_longer =
      ap (λ (ks : List ℕ). counts_among (filter_map (slice_get slots) ks)) (take_more ns i n (slice_get_within ns i n at) ∙ ap (λ (k : ℕ). take i ns ++ k ∷ []) (get_or_from_slice_get ns i n n at))
      ∙ ap counts_among (rows_there slots (take i ns) n)

  -- the frame in the next slot is counted
  pub next_counted : (state : FrameState) → state_there (slice_get slots n) ≡ Some state → counted_in state (counts_to i) ≡ counts_to (i + 1)
  next_counted state is = by (slice_get slots n) refl is
    where
      by : (o : Option SlotRow) → slice_get slots n ≡ o → state_there o ≡ Some state → counted_in state (counts_to i) ≡ counts_to (i + 1)
      by None here has = absurd (none-some state has)
      by (Some s) here has =
          one_counted (filter_map (slice_get slots) (take i ns)) s state has
          ∙ sym (one_longer ∙ ap (λ (rows : List SlotRow). counts_among (filter_map (slice_get slots) (take i ns) ++ rows)) (row_there slots n s here))

  -- there is none in it
  pub next_passed : state_there (slice_get slots n) ≡ None → counts_to i ≡ counts_to (i + 1)
  next_passed is = by (slice_get slots n) refl is
    where
      by : (o : Option SlotRow) → slice_get slots n ≡ o → state_there o ≡ None → counts_to i ≡ counts_to (i + 1)
      by None here has =
          ap counts_among (sym (append-nil (filter_map (slice_get slots) (take i ns))))
          ∙ sym (one_longer ∙ ap (λ (rows : List SlotRow). counts_among (filter_map (slice_get slots) (take i ns) ++ rows)) (no_row_there slots n here))
      by (Some s) here has =
          none_counted (filter_map (slice_get slots) (take i ns)) s has
          ∙ sym (one_longer ∙ ap (λ (rows : List SlotRow). counts_among (filter_map (slice_get slots) (take i ns) ++ rows)) (row_there slots n s here))

-- no count is more than the numbers
pub part_below : (slots : List SlotRow) (ns : List ℕ) (i : ℕ) (state : FrameState) → part state (counts_among (filter_map (slice_get slots) (take i ns))) ≤ length ns
part_below slots ns i state =
    let rows = filter_map (slice_get slots) (take i ns) in
    let front : length (take i ns) ≤ length ns = omega (arith, length-take i ns) in
    omega (arith, part_within rows state, kept_within (slice_get slots) (take i ns), front)

-- all are counted
pub all_counted : (slots : List SlotRow) (ns own : List ℕ) (i : ℕ) → length ns ≤ i → ns ≡ own → counts_among (filter_map (slice_get slots) (take i ns)) ≡ counts_among (filter_map (slice_get slots) own)
all_counted slots ns own i past is = ap (λ (ks : List ℕ). counts_among (filter_map (slice_get slots) ks)) (take_all i ns past ∙ is)
