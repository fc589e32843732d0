use Rattle.std.proofs.Common.{◌∙◌, All, List, ap, sym, subst}
use Rattle.std.proofs.lemmas.Result.{IfOk-weaker}
use Rattle.farm_types.specs.declared.entry.Entry.{Entry}
use Rattle.farm_types.specs.Jobs.{JobLists}
use Rattle.farm_types.specs.Farm.{Farm}
use Rattle.farm_types.specs.Step.{finishing, lists_of}
use Rattle.depend_book.specs.Book.{DependLists, joined}
use Rattle.depend_book.specs.Fits.{IsBeside}
use Rattle.farm_books.specs.Books.{depends_of}
use Rattle.farm_books.proofs.WholeBooks.{whole_beside}
use Rattle.farm_changes.specs.Change.{Makes, after_change}
use Rattle.farm_changes.specs.declared.change.Change.{Change}
use Rattle.farm_draft.specs.Rows.{Stood}
use Rattle.farm_draft.specs.declared.slot_change.SlotChange.{SlotChange}
use Rattle.farm_depends.specs.Completing.{IsCompleting, newly_done}
use Rattle.farm_depends.specs.Follow.{after_follow}
use Rattle.farm_depends.proofs.CompletionLemmas.CompletedFollows.{completed_differ, done_is}
use Rattle.farm_depends.proofs.CompletionLemmas.NewlyDone.{newly_undone}
use Rattle.farm_depends.proofs.Wholes.{changed_farm, follows_beside}
use Rattle.farm_finish.specs.Closing.{HasItsJob, finished_by}
use Rattle.farm_finish.proofs.CountLemmas.CompletedJobs.{AreCompleted, completed_finish, listed_there}
use Rattle.farm_finish.proofs.preparing.completed.Goals as goal

-- the frames that the change completes are done now and weren't
are_completed : (f : Farm) (b : DependLists) (e : Entry) (change : Change) → IsBeside f b → Makes f e change → IsCompleting e.act
    → AreCompleted f.slots (joined (after_change f change) b).slots (newly_done change.rows.slots.items)
are_completed f b e change whole made c =
    record {
      differ = completed_differ f b e change whole made c;
      undone = newly_undone f.slots change.rows.slots.items made.ready.rows.slots_stood;
      done_are = done_is f b e change whole made c;
    }

pub finished_by-requires-clause-stood : goal.finished_by-requires-clause-stood
finished_by-requires-clause-stood c =
    let f = c.args.books.now.farm in
    subst (λ (b : JobLists). All (Stood b.slots) c.slot_rows.result.now) (sym c.jobs.ensures)
    (subst (All (Stood f.slots)) (sym c.slot_rows.ensures) c.requires.made.ready.rows.slots_stood)

pub finished_by-requires-clause-there : goal.finished_by-requires-clause-there
finished_by-requires-clause-there c =
    let v = c.args.books.now in
    let change = c.args.change.now in
    let beside = whole_beside v c.requires.whole in
    let same = changed_farm v c.requires.whole change in
    let follows = follows_beside v c.requires.whole (after_change v.farm change) c.args.entry.now.act c.args.follow.now same c.requires.follows in
    let there =
    listed_there v.farm (depends_of v) c.args.entry.now change c.args.follow.now beside c.requires.made follows c.requires.completing (newly_done change.rows.slots.items)
    (are_completed v.farm (depends_of v) c.args.entry.now change beside c.requires.made c.requires.completing) in
    subst (λ (b : JobLists). All (HasItsJob b) (newly_done c.slot_rows.result.now)) (sym c.jobs.ensures)
    (subst (λ (rows : List SlotChange). All (HasItsJob (lists_of v.farm)) (newly_done rows)) (sym c.slot_rows.ensures) there)

pub returns : goal.returns
returns c =
    let v = c.args.books.now in
    let change = c.args.change.now in
    let beside = whole_beside v c.requires.whole in
    let same = changed_farm v c.requires.whole change in
    let follows = follows_beside v c.requires.whole (after_change v.farm change) c.args.entry.now.act c.args.follow.now same c.requires.follows in
    let finish =
    completed_finish v.farm (depends_of v) c.args.entry.now change c.args.follow.now beside c.requires.made follows c.requires.completing (newly_done change.rows.slots.items)
    (are_completed v.farm (depends_of v) c.args.entry.now change beside c.requires.made c.requires.completing) in
    IfOk-weaker c.finished_by.result _ _
    (λ jobs is. is ∙ ((λ i. finished_by (c.jobs.ensures i) (newly_done (c.slot_rows.ensures i))) ∙ (finish ∙ ap (λ (f : Farm). finishing (after_follow f c.args.follow.now)) same))) c.finished_by.ensures
