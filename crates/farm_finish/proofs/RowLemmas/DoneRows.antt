-- How many frames of a job are done once rows of slots are put in.
use Rattle.std.proofs.Common.{◌≡◌, ℕ, zero, suc, ◌+◌, ◌-◌, ◌≤◌, Bool, true, false, cond, eqb, ◌&&◌, List, [], ◌∷◌, ◌++◌, take, map, length, Some, refl, sym, ap, ◌∙◌, arith}
use Rattle.std.specs.Prelude.{nat_eq}
use Rattle.std.specs.List.{AllByRecursion, IsDistinct, slice_get, slice_set, sum_by}
use Rattle.std.proofs.lemmas.Bool.{eqb-false}
use Rattle.std.proofs.lemmas.List.{take_more}
use Rattle.std.proofs.lemmas.List.Sums.{get_or-le-sum_by, sum_by-cons}
use Rattle.std.proofs.lemmas.Map.Keys.{IsDistinct-head, IsDistinct-tail}
use Rattle.std.proofs.lemmas.Option.{get_or_from_slice_get, none-some, same_Some, slice_get_within}
use Rattle.farm_types.specs.declared.slot_row.Frame.{Frame}
use Rattle.farm_types.specs.declared.slot_row.SlotRow.{SlotRow}
use Rattle.farm_types.specs.declared.states.FrameState.{FrameState}
use Rattle.farm_types.specs.Farm.{changed_at, for_some}
use Rattle.farm_types.specs.Finish.{count_where, has_succeeded, was_eaten}
use Rattle.farm_types.proofs.Changed.{changed_at_is, changed_at_sum, slice_get-set_other}
use Rattle.farm_draft.specs.declared.slot_change.SlotChange.{SlotChange}
use Rattle.farm_draft.specs.Rows.{put_slots, slot_of}
use Rattle.farm_depends.proofs.CompletionLemmas.NewlyDone.{length-put_slots}
use Rattle.farm_finish.specs.Versions.{CanMove, done_in, moved_done}
use Rattle.farm_finish.specs.declared.rows_job.Done.{Done}
use Rattle.farm_finish.proofs.CountLemmas.LaidRows.{put_more}

-- ---- the slot of a row that comes

apart_at : (n : ℕ) (rows : List SlotChange) (i : ℕ) (e : SlotChange) → AllByRecursion (λ m. nat_eq n m ≡ false) (map slot_of rows) → slice_get rows i ≡ Some e → eqb n e.slot ≡ false
apart_at n [] i e apart at = absurd (none-some e at)
apart_at n (r ∷ rs) zero e apart at = sym (ap (λ (x : SlotChange). eqb n x.slot) (same_Some r e at)) ∙ apart.0
apart_at n (r ∷ rs) (suc i) e apart at = apart_at n rs i e apart.1 at

-- those before it leave it as it was
pub row_kept : (slots : List SlotRow) (rows : List SlotChange) (i : ℕ) (e : SlotChange) → IsDistinct nat_eq (map slot_of rows) → slice_get rows i ≡ Some e → slice_get (put_slots slots (take i rows)) e.slot ≡ slice_get slots e.slot
row_kept slots [] i e differ at = absurd (none-some e at)
row_kept slots (r ∷ rs) zero e differ at = refl
row_kept slots (r ∷ rs) (suc i) e differ at =
    let apart = apart_at r.slot rs i e (IsDistinct-head nat_eq r.slot (map slot_of rs) differ) at in
    row_kept (slice_set slots r.slot r.row) rs i e (IsDistinct-tail nat_eq r.slot (map slot_of rs) differ) at
    ∙ slice_get-set_other slots r.slot e.slot r.row (λ (is : e.slot ≡ r.slot). eqb-false r.slot e.slot apart (sym is))

-- ---- counts

module _ (job : ℕ) (test : FrameState → Bool) where
  abbrev weight : SlotRow → ℕ
  weight s = cond (for_some s.frame (λ (x : Frame). eqb x.job job && test x.state)) 1 0

  light : (s : SlotRow) → weight s ≤ 1
  light s = by (for_some s.frame (λ (x : Frame). eqb x.job job && test x.state)) where
    by : (b : Bool) → cond {A = ℕ} b 1 0 ≤ 1
    by true = omega arith
    by false = omega arith

  one : (s : SlotRow) → sum_by weight (s ∷ []) ≡ weight s
  one s = omega (arith, sum_by-cons weight s [])

  -- one slot counts once at most
  pub at_most_one : (s : SlotRow) → count_where job test (s ∷ []) ≤ 1
  at_most_one s = omega (arith, one s, light s)

  pub at_most_all : (slots : List SlotRow) → count_where job test slots ≤ length slots
  at_most_all [] = omega arith
  at_most_all (s ∷ ss) = omega (arith, sum_by-cons weight s ss, light s, at_most_all ss)

  -- each slot is counted
  pub is_counted : (slots : List SlotRow) (n : ℕ) (s : SlotRow) → slice_get slots n ≡ Some s → count_where job test (s ∷ []) ≤ count_where job test slots
  is_counted slots n s at = omega (arith, one s, ap weight (get_or_from_slice_get slots n s s at), get_or-le-sum_by weight slots n s (slice_get_within slots n s at))

  counted_more : (slots : List SlotRow) (es : List SlotChange) (e : SlotChange) (s : SlotRow) → slice_get (put_slots slots es) e.slot ≡ Some s
      → count_where job test (put_slots slots (es ++ e ∷ [])) ≡ count_where job test (put_slots slots es) - count_where job test (s ∷ []) + count_where job test (e.row ∷ [])
  counted_more slots es e s at =
      let set = λ (old : SlotRow). e.row in
      let is : put_slots slots (es ++ e ∷ []) ≡ changed_at (put_slots slots es) e.slot set = put_more slots es e ∙ sym (changed_at_is (put_slots slots es) e.slot set s at) in
      omega (arith, ap (sum_by weight) is, changed_at_sum weight (put_slots slots es) e.slot set s at, one s, one e.row, is_counted (put_slots slots es) e.slot s at)

-- one row more
pub done_more : (job : ℕ) (slots : List SlotRow) (es : List SlotChange) (e : SlotChange) (s : SlotRow) → slice_get (put_slots slots es) e.slot ≡ Some s
    → done_in job (put_slots slots (es ++ e ∷ [])) ≡ moved_done (done_in job (put_slots slots es)) (done_in job (s ∷ [])) (done_in job (e.row ∷ []))
done_more job slots es e s at i = record { eaten = counted_more job was_eaten slots es e s at i; succeeded = counted_more job has_succeeded slots es e s at i }

-- ---- as far as the rows are put in

module _ (job : ℕ) (slots : List SlotRow) (rows : List SlotChange) (differ : IsDistinct nat_eq (map slot_of rows)) (i : ℕ) (e : SlotChange) (here : slice_get rows i ≡ Some e) (done : Done) (so_far : done ≡ done_in job (put_slots slots (take i rows)))
    (s : SlotRow) (there : slice_get slots e.slot ≡ Some s) where
  abbrev put : List SlotRow
  put = put_slots slots (take i rows)

  at : slice_get put e.slot ≡ Some s
  at = row_kept slots rows i e differ here ∙ there

  pub can_move : length slots ≤ 65536 → CanMove done (done_in job (s ∷ [])) (done_in job (e.row ∷ []))
  can_move few =
      let eaten : done.eaten ≡ count_where job was_eaten put = ap (λ (d : Done). d.eaten) so_far in
      let succeeded : done.succeeded ≡ count_where job has_succeeded put = ap (λ (d : Done). d.succeeded) so_far in
      let long = length-put_slots slots (take i rows) in
      record {
        eaten = omega (arith, eaten, is_counted job was_eaten put e.slot s at);
        succeeded = omega (arith, succeeded, is_counted job has_succeeded put e.slot s at);
        eaten_room = omega (arith, eaten, at_most_all job was_eaten put, long, few, at_most_one job was_eaten e.row);
        succeeded_room = omega (arith, succeeded, at_most_all job has_succeeded put, long, few, at_most_one job has_succeeded e.row);
      }

  pub one_more : (next : Done) → next ≡ moved_done done (done_in job (s ∷ [])) (done_in job (e.row ∷ [])) → next ≡ done_in job (put_slots slots (take (i + 1) rows))
  one_more next is =
      let within = slice_get_within rows i e here in
      let more : take (i + 1) rows ≡ take i rows ++ e ∷ [] = take_more rows i e within ∙ ap (λ (x : SlotChange). take i rows ++ x ∷ []) (get_or_from_slice_get rows i e e here) in
      is
      ∙ (ap (λ (d : Done). moved_done d (done_in job (s ∷ [])) (done_in job (e.row ∷ []))) so_far
      ∙ (sym (done_more job slots (take i rows) e s at) ∙ ap (λ (es : List SlotChange). done_in job (put_slots slots es)) (sym more)))
