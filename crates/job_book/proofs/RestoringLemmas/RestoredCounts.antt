-- The counts of jobs, as slots are counted one after another.
use Rattle.std.proofs.Common.{◌≡◌, ℕ, zero, suc, ◌+◌, ◌≤◌, true, false, cond, eqb, List, [], ◌∷◌, ◌++◌, length, replicate, Option, Some, None, refl, sym, ap, subst, ◌∙◌, arith}
use Rattle.std.specs.List.{slice_get}
use Rattle.std.proofs.lemmas.Bool.{eq-eqb}
use Rattle.std.proofs.lemmas.List.Sums.{count_by-le-length, sum_by-append, sum_by-cons}
use Rattle.std.proofs.lemmas.Option.{none-some, same_Some}
use Rattle.farm_types.specs.declared.limits.TheConstants.{SLOT_LIMIT}
use Rattle.farm_types.specs.declared.rows.JobRow.{JobRow}
use Rattle.farm_types.specs.declared.slot_row.Frame.{Frame}
use Rattle.farm_types.specs.declared.slot_row.SlotRow.{SlotRow}
use Rattle.farm_types.specs.declared.states.FrameState.{FrameState}
use Rattle.farm_types.specs.declared.states.FrameState.TheVariants.{Waiting, Setup, Running, Succeeded, Depend, Dead, Eaten}
use Rattle.farm_types.specs.Farm.{for_some}
use Rattle.farm_types.specs.Rising.{IsRising, job_key}
use Rattle.job_entries.specs.declared.counts.Counts.{Counts}
use Rattle.job_book.specs.Book.{count_in, counts_of, is_in}
use Rattle.job_entries.specs.Counting.{number_of, new_counts, one, part, counted_in}
use Rattle.job_book.specs.Inside.{counts_for}
use Rattle.job_book.specs.Restored.{HasFew, counted_frame}
use Rattle.job_book.proofs.InState.{part_is, same_counts}
use Rattle.job_book.proofs.JobPlaces.{recounted}

few_of : (job : ℕ) (slots : List SlotRow) → length slots ≤ SLOT_LIMIT → HasFew (counts_of job slots)
few_of job slots within =
    λ state.
    let most : count_in job state slots ≤ length slots = count_by-le-length (λ (s : SlotRow). for_some s.frame (is_in job state)) slots in
    omega (arith, part_is job slots state, most, within)

-- no state counts more than there are slots
pub few_counts : (js : List JobRow) (slots : List SlotRow) → length slots ≤ SLOT_LIMIT → (n : ℕ) (c : Counts) → slice_get (counts_for js slots) n ≡ Some c → HasFew c
few_counts [] slots within n c at = absurd (none-some c at)
few_counts (j ∷ js) slots within zero c at = subst HasFew (same_Some (counts_of j.job slots) c at) (few_of j.job slots within)
few_counts (j ∷ js) slots within (suc n) c at = few_counts js slots within n c at

-- of no slots
pub none_counted : (js : List JobRow) → replicate (length js) (new_counts 0) ≡ counts_for js []
none_counted [] = refl
none_counted (j ∷ js) = ap (λ (cs : List Counts). new_counts 0 ∷ cs) (none_counted js)

part_counted_in : (state : FrameState) (c : Counts) (other : FrameState) → part other (counted_in state c) ≡ part other c + one state (number_of other)
part_counted_in state c Waiting = refl
part_counted_in state c Setup = refl
part_counted_in state c Running = refl
part_counted_in state c Succeeded = refl
part_counted_in state c Depend = refl
part_counted_in state c Dead = refl
part_counted_in state c Eaten = refl

module _ (slots : List SlotRow) (s : SlotRow) where
  abbrev more : List SlotRow
  more = slots ++ s ∷ []

  count_with : (frame : Option Frame) → s.frame ≡ frame → (job : ℕ) (state : FrameState) → count_in job state more ≡ count_in job state slots + cond (for_some frame (is_in job state)) 1 0
  count_with frame is job state =
      let weight : SlotRow → ℕ = λ (r : SlotRow). cond (for_some r.frame (is_in job state)) 1 0 in
      let last : weight s ≡ cond (for_some frame (is_in job state)) 1 0 = ap (λ (o : Option Frame). cond (for_some o (is_in job state)) 1 0) is in
      omega (arith, sum_by-append weight slots (s ∷ []), sum_by-cons weight s [], last)

  none_more : s.frame ≡ None → (job : ℕ) → counts_of job more ≡ counts_of job slots
  none_more is job =
      same_counts (counts_of job more) (counts_of job slots) (λ state. part_is job more state ∙ omega (arith, count_with None is job state) ∙ sym (part_is job slots state))

  all_none : s.frame ≡ None → (js : List JobRow) → counts_for js more ≡ counts_for js slots
  all_none is [] = refl
  all_none is (j ∷ js) = λ i. none_more is j.job i ∷ all_none is js i

  other_more : (x : Frame) → s.frame ≡ Some x → (job : ℕ) → eqb x.job job ≡ false → counts_of job more ≡ counts_of job slots
  other_more x is job apart =
      same_counts (counts_of job more) (counts_of job slots) (λ state.
      let none : ◌≡◌ {A = ℕ} (cond (is_in job state x) 1 0) 0 = rw apart refl in
      part_is job more state ∙ omega (arith, count_with (Some x) is job state, none) ∙ sym (part_is job slots state))

  one_more : (x : Frame) → s.frame ≡ Some x → counts_of x.job more ≡ counted_in x.state (counts_of x.job slots)
  one_more x is =
      same_counts (counts_of x.job more) (counted_in x.state (counts_of x.job slots)) (λ state.
      let itself : eqb x.job x.job ≡ true = eq-eqb x.job x.job refl in
      let here : cond (is_in x.job state x) 1 0 ≡ one x.state (number_of state) = rw itself refl in
      part_is x.job more state ∙ omega (arith, count_with (Some x) is x.job state, here, part_is x.job slots state) ∙ sym (part_counted_in x.state (counts_of x.job slots) state))

  -- one slot more is its frame more
  pub count_more : (js : List JobRow) (high : ℕ) → IsRising job_key 0 js high → counts_for js more ≡ counted_frame js s.frame (counts_for js slots)
  count_more js high rise = by s.frame refl
    where
      by : (frame : Option Frame) → s.frame ≡ frame → counts_for js more ≡ counted_frame js frame (counts_for js slots)
      by None is = all_none is js
      by (Some x) is = recounted (λ job. counts_of job slots) (λ job. counts_of job more) x.job (counted_in x.state) (λ job apart. other_more x is job apart) (one_more x is) 0 js high rise
