-- The book of depends fits the books still, once jobs have finished in both.
use Rattle.std.proofs.Common.{◌≡◌, ℕ, suc, ◌+◌, Bool, true, false, cond, ◌&&◌, not, List, [], ◌∷◌, map, Option, Some, None, refl, sym, ap, subst, ◌∙◌, arith, option_map}
use Rattle.std.specs.List.{AllZip, filter, slice_get}
use Rattle.std.proofs.lemmas.Option.{slice_get-map}
use Rattle.farm_types.specs.declared.depend.DependRow.{DependRow}
use Rattle.farm_types.specs.declared.slot_row.Frame.{Frame}
use Rattle.farm_types.specs.declared.slot_row.SlotRow.{SlotRow}
use Rattle.farm_types.specs.Depends.{groups_of, is_done, is_done_state}
use Rattle.farm_types.specs.Farm.{Farm, for_some}
use Rattle.farm_types.specs.Finish.{freed_row, is_frame_of, waits_by, without_waiter}
use Rattle.farm_types.specs.Step.{finish_one}
use Rattle.farm_law.proofs.Finished.{free_row}
use Rattle.farm_law.proofs.FinishedKept.{kept_one, number}
use Rattle.farm_law.proofs.KeptJobsLists.{rising_lower}
use Rattle.depend_law.specs.Ending.{CanEnd, Ends, IsSettled}
use Rattle.depend_law.proofs.Finishes.{fewer_groups, finish_keeps, groups_kept}
use Rattle.depend_law.proofs.FinishesAll.{later_ends}
use Rattle.depend_graph.specs.Graph.{is_flagged}
use Rattle.depend_book.specs.Book.{DependLists, IsBook, is_kept_by, joined, waits_in_one}
use Rattle.depend_book.proofs.Forgotten.{one_waits}
use Rattle.depend_book.specs.Fits.{Fits}
use Rattle.depend_book.proofs.Pairs.{IsPair, groups_joined, pairs}
use Rattle.depend_book.proofs.Zips.{zip_at}
use Rattle.farm_finish.specs.Finishing.{books_finished, depends_finished, depends_without, finished_books}
use Rattle.farm_books.specs.Cleared.{undone_flags}
use Rattle.farm_books.proofs.ClearedFlags.{flag_of}
use Rattle.farm_finish.proofs.TurnLemmas.Finished.{book_after, joined_one}

-- ---- two lists of which alike items stay

module _ {X Y : Type 0} (R : X → Y → Type 0) (p : X → Bool) (q : Y → Bool) where
  zip_step : (x : X) (y : Y) (xs : List X) (ys : List Y) (b c : Bool) → p x ≡ b → q y ≡ c → b ≡ c → R x y → AllZip R (filter p xs) (filter q ys) → AllZip R (filter p (x ∷ xs)) (filter q (y ∷ ys))
  zip_step x y xs ys b c is_p is_q same here later =
      subst (λ (d : Bool). AllZip R (cond d (x ∷ filter p xs) (filter p xs)) (filter q (y ∷ ys))) (sym (is_p ∙ same))
      (subst (λ (d : Bool). AllZip R (cond c (x ∷ filter p xs) (filter p xs)) (cond d (y ∷ filter q ys) (filter q ys))) (sym is_q) (both c))
    where
      both : (d : Bool) → AllZip R (cond d (x ∷ filter p xs) (filter p xs)) (cond d (y ∷ filter q ys) (filter q ys))
      both true = (here, later)
      both false = later

  zip_filter : (xs : List X) (ys : List Y) → AllZip R xs ys → ((i : ℕ) (x : X) (y : Y) → slice_get xs i ≡ Some x → slice_get ys i ≡ Some y → R x y → p x ≡ q y) → AllZip R (filter p xs) (filter q ys)
  zip_filter [] [] zip same = tt
  zip_filter [] (y ∷ ys) zip same = absurd zip
  zip_filter (x ∷ xs) [] zip same = absurd zip
  zip_filter (x ∷ xs) (y ∷ ys) zip same =
      zip_step x y xs ys (p x) (q y) refl refl (same 0 x y refl refl zip.0) zip.0 (zip_filter xs ys zip.1 (λ i z w left right. same (suc i) z w left right))

-- ---- flags

done_kept : (job : ℕ) (s : SlotRow) (b : Bool) → is_frame_of job s ≡ b
    → (for_some s.frame (λ (x : Frame). is_done_state x.state) && not (is_frame_of job s)) ≡ for_some (cond b (free_row s) s).frame (λ (x : Frame). is_done_state x.state)
done_kept job s true is = ap (λ (b : Bool). for_some s.frame (λ (x : Frame). is_done_state x.state) && not b) is ∙ off (for_some s.frame (λ (x : Frame). is_done_state x.state)) where
  off : (b : Bool) → (b && false) ≡ false
  off true = refl
  off false = refl
done_kept job s false is = ap (λ (b : Bool). for_some s.frame (λ (x : Frame). is_done_state x.state) && not b) is ∙ on (for_some s.frame (λ (x : Frame). is_done_state x.state)) where
  on : (b : Bool) → (b && true) ≡ b
  on true = refl
  on false = refl

row_kept : (job : ℕ) (o : Option SlotRow)
    → (for_some o (λ (s : SlotRow). for_some s.frame (λ (x : Frame). is_done_state x.state)) && not (for_some o (is_frame_of job)))
    ≡ for_some (option_map (freed_row job) o) (λ (s : SlotRow). for_some s.frame (λ (x : Frame). is_done_state x.state))
row_kept job None = refl
row_kept job (Some s) = done_kept job s (is_frame_of job s) refl

-- what is done is so still, but for frames of the job
done_freed : (job : ℕ) (slots : List SlotRow) (flags : List Bool) (slot : ℕ) → is_flagged flags slot ≡ is_done slots slot → is_flagged (undone_flags job slots flags) slot ≡ is_done (map (freed_row job) slots) slot
done_freed job slots flags slot same =
    flag_of job slots flags slot
    ∙ (ap (λ (b : Bool). b && not (for_some (slice_get slots slot) (is_frame_of job))) same
    ∙ (row_kept job (slice_get slots slot)
    ∙ ap (λ (o : Option SlotRow). for_some o (λ (s : SlotRow). for_some s.frame (λ (x : Frame). is_done_state x.state))) (sym (slice_get-map (freed_row job) slots slot))))

-- ---- one job

module _ (f : Farm) (b : DependLists) (job : ℕ) (settled : IsSettled (joined f b)) (ends : Ends (joined f b) job) (fits : Fits f b) (book : IsBook b) where
  abbrev old : Farm
  old = joined f b

  abbrev books : Farm
  books = finished_books job f

  abbrev depends : DependLists
  depends = depends_without job f.slots b

  -- the rows that stay are those of the depends of the graph that do
  pairs_left : AllZip (IsPair f) (without_waiter job b.rows) depends.graph.depends
  pairs_left =
      zip_filter (IsPair f) (λ (d : DependRow). not (waits_by job d)) (is_kept_by job b.rows) b.rows b.graph.depends (pairs f b book fits)
      (λ i d w row watch pair. sym (ap not (ap (waits_in_one job b.rows) (sym pair.number) ∙ one_waits job 1 b.rows b.next i d book.rise row)))

  -- and keep their groups
  groups_left : (i : ℕ) (d : DependRow) → slice_get (without_waiter job b.rows) i ≡ Some d → d.met_all ≡ false → groups_of books d ≡ groups_of f d
  groups_left i d at unmet =
      sym (groups_joined books depends d)
      ∙ (ap (λ (g : Farm). groups_of g d) (joined_one f b job book)
      ∙ (groups_kept old settled.rows settled.depends job ends.0 ends.1 i d at unmet ∙ (fewer_groups old settled.rows settled.depends job ends.0 ends.1 d ∙ groups_joined f b d)))

  pub fits_one : Fits books depends
  fits_one =
      record {
        done = λ slot. done_freed job f.slots b.graph.done slot (fits.done slot);
        groups = λ i d w row watch unmet. (zip_at (IsPair f) (without_waiter job b.rows) depends.graph.depends pairs_left i d w row watch).groups unmet ∙ sym (groups_left i d row unmet);
      }

  -- the farm is settled then too
  settled_one : IsSettled (finish_one job old)
  settled_one = record { rows = kept_one job old settled.rows ends; depends = finish_keeps old settled.rows settled.depends job ends.0 ends.1 }

-- the others may end then
can_after : (job : ℕ) (jobs : List ℕ) (f : Farm) (b : DependLists) → CanEnd (joined f b) (job ∷ jobs) → Fits f b → IsBook b → CanEnd (joined (finished_books job f) (depends_without job f.slots b)) jobs
can_after job jobs f b can fits book =
    subst (λ (g : Farm). CanEnd g jobs) (sym (joined_one f b job book))
    (record {
      settled = settled_one f b job can.settled can.ends.0 fits book;
      rise = rising_lower number 1 (job + 1) jobs f.next_job (omega arith) can.rise.1;
      ends = later_ends job (joined f b) (job + 1) jobs f.next_job (omega arith) can.rise.1 can.ends.1;
    })

-- ---- each in turn

pub fits_all : (jobs : List ℕ) (f : Farm) (b : DependLists) → CanEnd (joined f b) jobs → Fits f b → IsBook b → Fits (books_finished jobs f) (depends_finished jobs f b)
fits_all [] f b can fits book = fits
fits_all (job ∷ jobs) f b can fits book =
    fits_all jobs (finished_books job f) (depends_without job f.slots b) (can_after job jobs f b can fits book) (fits_one f b job can.settled can.ends.0 fits book) (book_after job f.slots b book)
