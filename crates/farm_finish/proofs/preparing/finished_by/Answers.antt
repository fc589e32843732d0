use Rattle.std.proofs.Common.{◌≡◌, ◌∙◌, ℕ, ◌+◌, ◌++◌, ◌∷◌, [], Some, List, nat_eq, take, true, false, sym, ap, subst, arith}
use Rattle.std.specs.Prelude.{All}
use Rattle.std.specs.List.{slice_get}
use Rattle.std.proofs.lemmas.List.{take_all, take_more}
use Rattle.std.proofs.lemmas.List.Elements.{All-get_or, recursion_from_All}
use Rattle.std.proofs.lemmas.List.Sorted.{IsNonDecreasingBy-from_sort}
use Rattle.std.proofs.lemmas.Option.{slice_get-get_or}
use Rattle.indexmap.specs.IndexMap.{get}
use Rattle.job_book.specs.Book.{has_job}
use Rattle.farm_draft.specs.Rows.{Stood}
use Rattle.farm_draft.specs.declared.slot_change.SlotChange.{SlotChange}
use Rattle.farm_depends.specs.Completing.{completes, newly_done}
use Rattle.farm_finish.specs.Closing.{HasItsJob, left_in}
use Rattle.farm_finish.proofs.CountLemmas.CountedDown.{IsCounted, step_counted}
use Rattle.farm_finish.proofs.CountLemmas.CountedRows.{done_at, job_stood, job_was, jobs_done, jobs_more, jobs_past, jobs_stood}
use Rattle.farm_finish.proofs.CountLemmas.InOrder.{in_order_is}
use Rattle.farm_finish.proofs.preparing.finished_by.Goals as goal

pub count_down-requires : goal.count_down-requires
count_down-requires c =
    let b = c.args.jobs.now in
    let rows = c.args.rows.now in
    let index = c.loop-change.change-index in
    let e = c.change-item.result in
    let at : slice_get rows index ≡ Some e = slice_get-get_or rows index e (omega arith) ∙ ap Some (sym c.change-item.is) in
    let stood : Stood b.slots e = subst (Stood b.slots) (sym c.change-item.is) (All-get_or (Stood b.slots) rows index e (omega arith) c.requires.stood) in
    let done : completes e ≡ true = sym c.completes.ensures ∙ c.if-not-completes.false in
    let its = done_at (HasItsJob b) rows index e (recursion_from_All (HasItsJob b) (newly_done rows) c.requires.there) at done in
    subst (λ (job : ℕ). has_job b job ≡ true) (job_stood b.slots e stood ∙ sym c.job_of.ensures) its.owned

pub loop-change-preserved : goal.loop-change-preserved
loop-change-preserved c =
    let l = c.loop-change in
    let rows = c.args.rows.now in
    let slots = c.args.jobs.now.slots in
    let e = c.change-item.result in
    let done : completes e ≡ true = sym c.completes.ensures ∙ c.if-not-completes.false in
    let more : take (l.change-index + 1) rows ≡ take l.change-index rows ++ e ∷ [] = take_more rows l.change-index e (omega arith) ∙ ap (λ (x : SlotChange). take l.change-index rows ++ x ∷ []) (sym c.change-item.is) in
    let jobs : jobs_done (take (l.change-index + 1) rows) ≡ jobs_done (take l.change-index rows) ++ c.job_of.result ∷ [] =
    ap jobs_done more ∙ (jobs_more (take l.change-index rows) e done ∙ ap (λ (n : ℕ). jobs_done (take l.change-index rows) ++ n ∷ []) (sym c.job_of.ensures)) in
    subst (λ (js : List ℕ). IsCounted (λ job. left_in job slots) js (get nat_eq c.count_down.new.left) c.count_down.new.finished.items) (sym jobs)
    (step_counted (λ job. left_in job slots) (jobs_done (take l.change-index rows)) (get nat_eq l.left) (get nat_eq c.count_down.new.left) l.finished.items c.count_down.new.finished.items c.job_of.result l.invariant c.in_ok-count_down.ensures)

pub loop-change-preserved-then-not-completes : goal.loop-change-preserved-then-not-completes
loop-change-preserved-then-not-completes c =
    let l = c.loop-change in
    let rows = c.args.rows.now in
    let slots = c.args.jobs.now.slots in
    let e = c.change-item.result in
    let off : completes e ≡ false = sym c.completes.ensures ∙ c.if-not-completes.true in
    let more : take (l.change-index + 1) rows ≡ take l.change-index rows ++ e ∷ [] = take_more rows l.change-index e (omega arith) ∙ ap (λ (x : SlotChange). take l.change-index rows ++ x ∷ []) (sym c.change-item.is) in
    subst (λ (js : List ℕ). IsCounted (λ job. left_in job slots) js (get nat_eq l.left) l.finished.items) (sym (ap jobs_done more ∙ jobs_past (take l.change-index rows) e off)) l.invariant

pub returns : goal.returns
returns c =
    let l = c.loop-change in
    let b = c.args.jobs.now in
    let rows = c.args.rows.now in
    let all : jobs_done (take l.change-index rows) ≡ jobs_done rows = ap jobs_done (take_all l.change-index rows (omega arith)) in
    let counted = subst (λ (js : List ℕ). IsCounted (λ job. left_in job b.slots) js (get nat_eq l.left) l.finished.items) (all ∙ jobs_stood b.slots rows c.requires.stood) l.invariant in
    c.from_vec.ensures
    ∙ in_order_is b (newly_done rows) (get nat_eq l.left) l.finished.items c.sort_unstable.new.self.items c.requires.rise c.requires.there counted
    (IsNonDecreasingBy-from_sort (λ n. n) c.sort_unstable.new.self.items c.sort_unstable.ensures.sorted) c.sort_unstable.ensures.permutation
