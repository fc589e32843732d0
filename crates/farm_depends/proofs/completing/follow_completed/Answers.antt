use Rattle.std.proofs.Common.{◌≡◌, ◌∙◌, ℕ, List, ap, refl, sym, subst, All, false}
use Rattle.std.specs.Prelude.{nat_eq}
use Rattle.std.specs.List.{IsDistinct}
use Rattle.depend_graph.specs.Graph.{HasMet, is_flagged, opened_between, with_all_done}
use Rattle.depend_book.specs.Book.{DependLists}
use Rattle.farm_books.specs.Books.{depends_of}
use Rattle.farm_books.proofs.WholeBooks.{whole_beside}
use Rattle.farm_changes.specs.Change.{after_change}
use Rattle.farm_draft.specs.Rows.{Stood}
use Rattle.farm_depends.specs.Completing.{left_blocked, newly_done}
use Rattle.farm_depends.proofs.CompletionLemmas.CompletedFollows.{completed_differ, completed_follows, completed_undone}
use Rattle.farm_depends.proofs.Wholes.{changed_farm, follows_of}
use Rattle.farm_depends.proofs.completing.follow_completed.Goals as goal

pub would_complete-requires-clause-differ : goal.would_complete-requires-clause-differ
would_complete-requires-clause-differ c =
    let v = c.args.books.now in
    let done = c.as_slice.ensures ∙ (c.in_ok-done.ensures ∙ ap newly_done c.slot_rows-rows.ensures) in
    subst (IsDistinct nat_eq) (sym done) (completed_differ v.farm (depends_of v) c.args.entry.now c.args.change.now (whole_beside v c.requires.whole) c.requires.made c.requires.completing)

pub would_complete-requires-clause-undone : goal.would_complete-requires-clause-undone
would_complete-requires-clause-undone c =
    let v = c.args.books.now in
    let done = c.as_slice.ensures ∙ (c.in_ok-done.ensures ∙ ap newly_done c.slot_rows-rows.ensures) in
    subst (λ (b : DependLists). All (λ slot. is_flagged b.graph.done slot ≡ false) c.as_slice.result.now) (sym c.depends-depends.ensures)
    (subst (All (λ slot. is_flagged v.graph.done slot ≡ false)) (sym done)
    (completed_undone v.farm (depends_of v) c.args.entry.now c.args.change.now (whole_beside v c.requires.whole) c.requires.made c.requires.completing))

pub left_blocked-requires-clause-few : goal.left_blocked-requires-clause-few
left_blocked-requires-clause-few c = c.requires.whole.kept.rows.jobs.slot_count

pub left_blocked-requires-clause-stood : goal.left_blocked-requires-clause-stood
left_blocked-requires-clause-stood c =
    let slots = c.args.books.now.farm.slots in
    subst (All (Stood slots)) (sym c.slot_rows-rows.ensures) c.requires.made.ready.rows.slots_stood

pub returns-clause-prepares : goal.returns-clause-prepares
returns-clause-prepares c =
    let v = c.args.books.now in
    let f = v.farm in
    let b = depends_of v in
    let change = c.args.change.now in
    let done = c.in_ok-done.ensures ∙ ap newly_done c.slot_rows-rows.ensures in
    let would = ap (λ (x : DependLists). opened_between x.graph.depends (with_all_done x.graph c.as_slice.result.now).depends) c.depends-depends.ensures in
    let between = c.in_ok-completion.ensures.opened ∙ (would ∙ ap (λ (list : List ℕ). opened_between b.graph.depends (with_all_done b.graph list).depends) (c.as_slice.ensures ∙ done)) in
    follows_of v c.requires.whole (after_change f change) c.args.entry.now.act _ (changed_farm v c.requires.whole change)
    (completed_follows f b c.args.entry.now change (whole_beside v c.requires.whole) c.requires.made c.requires.completing c.kept.ensures.book _
    c.new.ensures c.new-2.ensures refl done refl
    (c.in_ok-opened.ensures ∙ λ i. left_blocked f.slots (newly_done (c.slot_rows-rows.ensures i)) ((c.as_slice-2.ensures ∙ between) i)) c.new-3.ensures)

pub returns-clause-marks : goal.returns-clause-marks
returns-clause-marks c =
    let v = c.args.books.now in
    let marks = c.in_ok-completion.completion.marks in
    subst (λ (slots : List ℕ). HasMet v.graph.depends (with_all_done v.graph slots).depends marks) c.as_slice.ensures
    (subst (λ (b : DependLists). HasMet b.graph.depends (with_all_done b.graph c.as_slice.result.now).depends marks) c.depends-depends.ensures c.in_ok-completion.ensures.marks)
