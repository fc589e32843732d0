-- A change that is ready and reserved can be applied to the books, and leaves the farm after it.
use Rattle.std.proofs.Common.{◌≡◌, ◌≤◌, length, sym, ◌∙◌, ap, subst}
use Rattle.farm_types.specs.Farm.{Farm}
use Rattle.farm_types.specs.Kept.{IsKeptFarm}
use Rattle.farm_types.specs.Step.{finish_each, lists_of}
use Rattle.farm_types.specs.declared.limits.TheConstants.{SLOT_LIMIT}
use Rattle.depend_law.specs.Ending.{CanEnd}
use Rattle.farm_changes.specs.Change as books
use Rattle.depend_book.specs.Book.{DependLists, IsBook, joined}
use Rattle.depend_book.specs.Fits.{IsBeside}
use Rattle.farm_books.specs.Books.{FarmBooks, IsWhole, depends_of, with_depends, with_farm}
use Rattle.farm_books.proofs.WholeBooks.{beside_whole, own_lists, to_whole, whole_beside, whole_farm}
use Rattle.farm_depends.specs.Follow.{CanFollow, FollowFits, after_follow, books_after, depends_after, follow_reserved, slots_after}
use Rattle.farm_depends.proofs.Applied.{book_then, can_follow, fits_then, joined_then}
use Rattle.farm_depends.proofs.Beside.{depends_stay, joined_change}
use Rattle.farm_finish.specs.Finishing.{CanFinishAll, all_finished, books_finished, depends_finished}
use Rattle.farm_finish.proofs.TurnLemmas.Finished.{all_beside, joined_all}
use Rattle.farm_finish.proofs.TurnLemmas.FinishedFits.{fits_all}
use Rattle.farm_finish.proofs.TurnLemmas.MayLaw.{can_finish}
use Rattle.farm_core.specs.declared.change.Change.{Change}
use Rattle.farm_core.specs.Change.{IsReady, IsReserved, after_change, followed_by, reserved_of}

module _ (f : Farm) (b : DependLists) (change : Change) (whole : IsBeside f b) (kept_book : IsBook b) (ready : IsReady (joined f b) change) where
  -- the books after the act
  abbrev pub acted_books : Farm
  acted_books = books.after_change f change.act

  same : books.after_change (joined f b) change.act ≡ joined acted_books b
  same = sym (joined_change f b change.act)

  follows : FollowFits (joined f b) (joined acted_books b) change.follow
  follows = subst (λ (g : Farm). FollowFits (joined f b) g change.follow) same ready.follows

  count : length (slots_after acted_books.slots change.follow) ≤ SLOT_LIMIT
  count = subst (λ (g : Farm). length (slots_after g.slots change.follow) ≤ SLOT_LIMIT) same ready.ends.settled.rows.jobs.slot_count

  -- the books can take what follows
  pub can : IsReserved change → CanFollow acted_books.slots b change.follow
  can reserved =
      let taken : follow_reserved change.follow ≡ change.follow = λ i. record change.follow { spares = sym reserved.follow i } in
      subst (CanFollow acted_books.slots b) taken (can_follow f acted_books b change.follow whole kept_book follows count)

  -- the books after it, before jobs finish
  abbrev pub then_books : Farm
  then_books = record acted_books { slots = slots_after acted_books.slots change.follow }

  abbrev pub depends_then : DependLists
  depends_then = depends_after b change.follow

  book : IsBook depends_then
  book = book_then f acted_books b change.follow whole kept_book follows count

  farm_then : joined then_books depends_then ≡ followed_by (joined f b) change
  farm_then = joined_then f acted_books b change.follow whole kept_book follows count ∙ ap (λ (g : Farm). after_follow g change.follow) (sym same)

  ends : CanEnd (joined then_books depends_then) change.finish
  ends = subst (λ (g : Farm). CanEnd g change.finish) (sym farm_then) ready.ends

  -- the jobs may finish
  pub can_end : CanFinishAll (lists_of then_books) change.finish
  can_end = can_finish (joined then_books depends_then) change.finish ends

  -- the books after all
  abbrev pub last_books : Farm
  last_books = books_finished change.finish then_books

  abbrev pub depends_last : DependLists
  depends_last = depends_finished change.finish then_books depends_then

  pub farm_after : joined last_books depends_last ≡ after_change (joined f b) change
  farm_after = joined_all change.finish then_books depends_then book ∙ ap (finish_each change.finish) farm_then

  pub whole_after : IsBeside last_books depends_last
  whole_after =
      record {
        kept = subst IsKeptFarm (sym farm_after) ready.kept;
        fits = fits_all change.finish then_books depends_then ends (fits_then f acted_books b change.follow whole kept_book follows count) book;
      }

-- ---- the books

module _ (v : FarmBooks) (change : Change) (whole : IsWhole v) (kept_book : IsBook (depends_of v)) (ready : IsReady v.farm change) where
  abbrev pub farm_here : Farm
  farm_here = books.after_change v.farm change.act

  own_here : depends_of v ≡ depends_of (with_farm v farm_here)
  own_here = own_lists v whole farm_here (depends_stay v.farm change.act)

  ready_beside : IsReady (joined v.farm (depends_of v)) change
  ready_beside = to_whole v whole (λ (f : Farm). IsReady f change) ready

  -- after the act the books can take what follows
  pub can_take : IsReserved change → CanFollow farm_here.slots (depends_of (with_farm v farm_here)) change.follow
  can_take reserved = subst (λ (b : DependLists). CanFollow farm_here.slots b change.follow) own_here (can v.farm (depends_of v) change (whole_beside v whole) kept_book ready_beside reserved)

  abbrev moved_farm : Farm
  moved_farm = record farm_here { slots = slots_after farm_here.slots change.follow }

  abbrev moved_book : DependLists
  moved_book = depends_after (depends_of v) change.follow

  -- the books after what follows
  then_is : books_after (with_farm v farm_here) change.follow ≡ record { farm = joined moved_farm moved_book; graph = moved_book.graph }
  then_is = ap (λ (b : DependLists). with_depends (with_farm v moved_farm) (depends_after b change.follow)) (sym own_here)

  -- the jobs may finish
  pub can_end_then : CanFinishAll (lists_of (books_after (with_farm v farm_here) change.follow).farm) change.finish
  can_end_then = can_end v.farm (depends_of v) change (whole_beside v whole) kept_book ready_beside

  abbrev last_farm : Farm
  last_farm = books_finished change.finish moved_farm

  abbrev last_book : DependLists
  last_book = depends_finished change.finish moved_farm moved_book

  last_is : all_finished change.finish (books_after (with_farm v farm_here) change.follow) ≡ record { farm = joined last_farm last_book; graph = last_book.graph }
  last_is = ap (all_finished change.finish) then_is ∙ all_beside change.finish moved_farm moved_book

  -- after all the books are whole, and the farm is the one after the change
  pub whole_last : IsWhole (all_finished change.finish (books_after (with_farm v farm_here) change.follow))
  whole_last = subst IsWhole (sym last_is) (beside_whole last_farm last_book (whole_after v.farm (depends_of v) change (whole_beside v whole) kept_book ready_beside))

  pub farm_last : (all_finished change.finish (books_after (with_farm v farm_here) change.follow)).farm ≡ after_change v.farm change
  farm_last =
      ap (λ (w : FarmBooks). w.farm) last_is
      ∙ (farm_after v.farm (depends_of v) change (whole_beside v whole) kept_book ready_beside ∙ ap (λ (f : Farm). after_change f change) (whole_farm v whole))

-- a change is ready whether or not its memory was taken
pub ready_reserved : (f : Farm) (change : Change) → IsReady f change → IsReady f (reserved_of change)
ready_reserved f change ready =
    record {
      fits = record { rows = ready.fits.rows; more = ready.fits.more };
      follows =
          record {
            groups_stay = ready.follows.groups_stay;
            one_kind = ready.follows.one_kind;
            room = ready.follows.room;
            drop_there = ready.follows.drop_there;
            done_differ = ready.follows.done_differ;
            undone = ready.follows.undone;
            done_are = ready.follows.done_are;
            opened_movable = ready.follows.opened_movable;
            blocked_movable = ready.follows.blocked_movable;
          };
      ends = ready.ends;
      kept = ready.kept;
    }
