-- A change is applied: the books can take what follows, and with the book of depends they are the farm after it.
use Rattle.std.proofs.Common.{◌≡◌, ◌≤◌, ℕ, length, Bool, true, false, eqb, ◌||◌, ◌&&◌, not, List, [], ◌∷◌, Option, Some, None, refl, ap, sym, subst, ◌∙◌, inl, inr, arith}
use Rattle.std.specs.List.{list_any, slice_get}
use Rattle.std.proofs.lemmas.Bool.{and_parts, or_left}
use Rattle.std.proofs.lemmas.List.Folds.{list_any-append}
use Rattle.farm_types.specs.declared.depend.DependRow.{DependRow}
use Rattle.farm_types.specs.Depends.{groups_of, is_done}
use Rattle.farm_types.specs.Farm.{Farm}
use Rattle.farm_types.specs.Settle.{with_met}
use Rattle.farm_types.specs.declared.limits.TheConstants.{SLOT_LIMIT}
use Rattle.farm_types.proofs.Changed.{places}
use Rattle.depend_law.proofs.MetAgain.{met_again}
use Rattle.depend_law.proofs.Retried.{met_less}
use Rattle.depend_law.proofs.Shapes.{SamePlace, groups_stay}
use Rattle.depend_law.proofs.Stable.{met_stays}
use Rattle.depend_graph.specs.Graph.{Watch, has_depend, watch_of}
use Rattle.depend_book.specs.declared.new_depend.NewDepend.{NewDepend}
use Rattle.depend_book.specs.Book.{DependLists, IsBook, all_done_in, joined, with_new}
use Rattle.farm_depends.specs.declared.follow.Follow.{Follow}
use Rattle.depend_book.specs.Fits.{Fits, IsBeside}
use Rattle.farm_depends.specs.Follow.{CanAddAll, CanFollow, FollowFits, HasDrop, IsDropThere, IsOneKind, NoneCome, after_follow, depends_after, drop_in, follow_reserved, is_listed, is_one, reopened_in, slots_after, with_all, with_new_all, with_row, without}
use Rattle.farm_depends.proofs.ComingLemmas.Added.{Takes, takes_all}
use Rattle.farm_depends.proofs.CompletionLemmas.Completed.{Completes, completed_book, completed_farm, completed_fits}
use Rattle.farm_depends.proofs.CompletionLemmas.Dropped.{dropped_book, dropped_farm, dropped_fits}
use Rattle.farm_depends.proofs.CompletionLemmas.MetDropped.{met_before_drop}
use Rattle.depend_book.proofs.OpenUnmet.{depend_there}
use Rattle.depend_book.proofs.Pairs.{groups_joined}
use Rattle.farm_depends.proofs.CompletionLemmas.Reopened.{done_listed}
use Rattle.depend_book.proofs.OneCleared.{and_one, cleared_book, cleared_is, flag_cleared}
use Rattle.farm_depends.proofs.ComingLemmas.WithRow.{Numbered, numbered_kept, numbered_row}
use Rattle.depend_book.proofs.Zips.{or_none, zip_length}
use Rattle.farm_depends.proofs.FollowSlots.{follow_done, follow_stand}

-- ---- depends that come

numbered_all : (f : Farm) (ns : List NewDepend) → Numbered f → Numbered (with_all f ns)
numbered_all f [] k = k
numbered_all f (n ∷ ns) k = numbered_all (with_row f n) ns (numbered_row f n k)

-- a depend that is there stays
still_there : (b : DependLists) (ns : List NewDepend) (depend : ℕ) → has_depend b.graph depend ≡ true → has_depend (with_new_all b ns).graph depend ≡ true
still_there b [] depend there = there
still_there b (n ∷ ns) depend there =
    let here : Watch → Bool = λ (w : Watch). eqb w.depend depend in
    let last = watch_of b.graph.done b.next n.groups in
    still_there (with_new b n) ns depend
    (list_any-append here b.graph.depends (last ∷ []) ∙ or_left (list_any here b.graph.depends) (list_any here (last ∷ [])) there)

-- ---- the book of depends

-- The book takes what follows, fits the farm after the act, and is the farm with what follows, marked.
record Applies (f : Farm) (b : DependLists) (w : Follow) : Type 0 where
  can : CanFollow f.slots b (follow_reserved w)
  farm : joined f (depends_after b w) ≡ with_met (without (with_all (joined f b) w.depends) w.dropped)
  fits : Fits f (depends_after b w)
  book : IsBook (depends_after b w)

module _ (f0 f : Farm) (b : DependLists) (w : Follow) (whole : IsBeside f0 b) (book : IsBook b)
    (follows : FollowFits (joined f0 b) (joined f b) w) (count : length (slots_after f.slots w) ≤ SLOT_LIMIT) where
  abbrev beside : Farm
  beside = joined f b

  groups_here : (i : ℕ) (d : DependRow) → slice_get b.rows i ≡ Some d → d.met_all ≡ false → groups_of f d ≡ groups_of f0 d
  groups_here i d at unmet = sym (groups_joined f b d) ∙ (follows.groups_stay i d at unmet ∙ groups_joined f0 b d)

  -- ---- frames are done

  module _ (none_come : NoneCome w) (none_back : w.reopened ≡ None) where
    completes : Completes f0 f b w.done
    completes =
        record {
          book = book;
          fits = whole.fits;
          slots = omega (arith, zip_length SamePlace f.slots (slots_after f.slots w) (follow_stand f.slots w), count);
          met = whole.kept.depends.met;
          groups_stay = groups_here;
          done_are = λ slot. follows.done_are slot ∙ sym (done_listed (is_done f0.slots slot) w.done w slot refl none_back);
        }

    only_done : depends_after b w ≡ all_done_in b w.done
    only_done i = all_done_in (reopened_in (drop_in (with_new_all b (none_come.0 i)) (none_come.1 i)) (none_back i)) w.done

    with_done_applies : Applies f b w
    with_done_applies =
        record {
          can =
              record {
                reserved = refl;
                adds = subst (CanAddAll b) (sym none_come.0) tt;
                drop_there = subst (HasDrop (with_new_all b w.depends)) (sym none_come.1) tt;
                opened_movable = follows.opened_movable;
                blocked_movable = follows.blocked_movable;
              };
          farm = ap (joined f) only_done ∙ (completed_farm f0 f b w.done completes ∙ λ i. with_met (without (with_all beside (sym none_come.0 i)) (sym none_come.1 i)));
          fits = subst (Fits f) (sym only_done) (completed_fits f0 f b w.done completes);
          book = subst IsBook (sym only_done) (completed_book f0 f b w.done completes);
        }

  -- ---- depends come or go

  module _ (none_done : w.done ≡ []) (none_back : w.reopened ≡ None) where
    done_same : (slot : ℕ) → is_done f.slots slot ≡ is_done f0.slots slot
    done_same slot = follows.done_are slot ∙ (sym (done_listed (is_done f0.slots slot) [] w slot none_done none_back) ∙ or_none (is_done f0.slots slot))

    fits_now : Fits f b
    fits_now =
        record {
          done = λ slot. whole.fits.done slot ∙ sym (done_same slot);
          groups = λ i d v row watch unmet. whole.fits.groups i d v row watch unmet ∙ sym (groups_here i d row unmet);
        }

    met_now : with_met beside ≡ beside
    met_now = met_stays (joined f0 b) beside (record { depends = refl; met = refl; groups = follows.groups_stay }) done_same whole.kept.depends.met

    abbrev more : DependLists
    more = with_new_all b w.depends

    pub takes : Takes f b w.depends
    takes = takes_all f b w.depends fits_now book met_now follows.room

    numbered : Numbered (with_all beside w.depends)
    numbered = numbered_all beside w.depends (numbered_kept beside book.rise met_now)

    met_more : with_met (joined f more) ≡ joined f more
    met_more = ap with_met takes.farm ∙ (met_again (with_all beside w.depends) (with_all beside w.depends).next_depend numbered.rise ∙ sym takes.farm)

    dropped_there : (o : Option ℕ) → IsDropThere beside o → HasDrop more o
    dropped_there None there = tt
    dropped_there (Some n) there = still_there b w.depends n (sym (depend_there f b book fits_now n) ∙ there)

    farm_dropped : (o : Option ℕ) → joined f (drop_in more o) ≡ with_met (without (with_all beside w.depends) o)
    farm_dropped None = takes.farm
    farm_dropped (Some n) =
        dropped_farm f more n takes.book takes.fits met_more
        ∙ (ap (λ (g : Farm). with_met (without g (Some n))) takes.farm ∙ met_before_drop (with_all beside w.depends) n (with_all beside w.depends).next_depend numbered.rise)

    fits_dropped : (o : Option ℕ) → Fits f (drop_in more o)
    fits_dropped None = takes.fits
    fits_dropped (Some n) = dropped_fits f more n takes.book takes.fits met_more

    book_dropped : (o : Option ℕ) → IsBook (drop_in more o)
    book_dropped None = takes.book
    book_dropped (Some n) = dropped_book f more n takes.book takes.fits met_more

    only_depends : depends_after b w ≡ drop_in more w.dropped
    only_depends i = all_done_in (reopened_in (drop_in more w.dropped) (none_back i)) (none_done i)

    with_depends_applies : Applies f b w
    with_depends_applies =
        record {
          can =
              record {
                reserved = refl;
                adds = takes.adds;
                drop_there = dropped_there w.dropped follows.drop_there;
                opened_movable = follows.opened_movable;
                blocked_movable = follows.blocked_movable;
              };
          farm = ap (joined f) only_depends ∙ farm_dropped w.dropped;
          fits = subst (Fits f) (sym only_depends) (fits_dropped w.dropped);
          book = subst IsBook (sym only_depends) (book_dropped w.dropped);
        }

  -- ---- a frame isn't done any more

  module _ (none_come : NoneCome w) (none_done : w.done ≡ []) where
    done_but : (slot : ℕ) → is_done f.slots slot ≡ (is_done f0.slots slot && not (is_one w.reopened slot))
    done_but slot =
        follows.done_are slot
        ∙ (ap (λ (list : List ℕ). (is_done f0.slots slot && not (is_one w.reopened slot)) || is_listed list slot) none_done ∙ or_none (is_done f0.slots slot && not (is_one w.reopened slot)))

    -- what was met is met
    met_kept : with_met beside ≡ beside
    met_kept =
        met_less (joined f0 b) whole.kept.depends beside (record { depends = refl; met = refl; groups = follows.groups_stay })
        (λ slot h. (and_parts (is_done f0.slots slot) (not (is_one w.reopened slot)) (sym (done_but slot) ∙ h)).0)

    farm_reopened : (o : Option ℕ) → joined f (reopened_in b o) ≡ beside
    farm_reopened None = refl
    farm_reopened (Some n) = ap (joined f) (cleared_is b n book)

    book_reopened : (o : Option ℕ) → IsBook (reopened_in b o)
    book_reopened None = book
    book_reopened (Some n) = subst IsBook (sym (cleared_is b n book)) (cleared_book b n book)

    fits_reopened : (o : Option ℕ) → ((slot : ℕ) → is_done f.slots slot ≡ (is_done f0.slots slot && not (is_one o slot))) → Fits f (reopened_in b o)
    fits_reopened None same =
        record {
          done = λ slot. whole.fits.done slot ∙ sym (same slot ∙ and_one (is_done f0.slots slot));
          groups = λ i d v row watch unmet. whole.fits.groups i d v row watch unmet ∙ sym (groups_here i d row unmet);
        }
    fits_reopened (Some n) same =
        subst (Fits f) (sym (cleared_is b n book))
        (record {
          done = λ slot. flag_cleared b.graph.done n slot (places slot n) ∙ (ap (λ (was : Bool). was && not (eqb n slot)) (whole.fits.done slot) ∙ sym (same slot));
          groups = λ i d v row watch unmet. whole.fits.groups i d v row watch unmet ∙ sym (groups_here i d row unmet);
        })

    only_reopened : depends_after b w ≡ reopened_in b w.reopened
    only_reopened i = all_done_in (reopened_in (drop_in (with_new_all b (none_come.0 i)) (none_come.1 i)) w.reopened) (none_done i)

    with_reopened_applies : Applies f b w
    with_reopened_applies =
        record {
          can =
              record {
                reserved = refl;
                adds = subst (CanAddAll b) (sym none_come.0) tt;
                drop_there = subst (HasDrop (with_new_all b w.depends)) (sym none_come.1) tt;
                opened_movable = follows.opened_movable;
                blocked_movable = follows.blocked_movable;
              };
          farm = ap (joined f) only_reopened ∙ (farm_reopened w.reopened ∙ (sym met_kept ∙ λ i. with_met (without (with_all beside (sym none_come.0 i)) (sym none_come.1 i))));
          fits = subst (Fits f) (sym only_reopened) (fits_reopened w.reopened done_but);
          book = subst IsBook (sym only_reopened) (book_reopened w.reopened);
        }

  -- ---- any of them

  by_kind : IsOneKind w → Applies f b w
  by_kind (inl none) = with_done_applies none.0 none.1
  by_kind (inr (inl none)) = with_depends_applies none.0 none.1
  by_kind (inr (inr none)) = with_reopened_applies none.0 none.1

  applies : Applies f b w
  applies = by_kind follows.one_kind

  -- the books can take what follows
  pub can_follow : CanFollow f.slots b (follow_reserved w)
  can_follow = applies.can

  -- the other books after it
  abbrev pub books_then : Farm
  books_then = record f { slots = slots_after f.slots w }

  pub book_then : IsBook (depends_after b w)
  book_then = applies.book

  -- with the book of depends they are the farm after it
  pub joined_then : joined books_then (depends_after b w) ≡ after_follow (joined f b) w
  joined_then = ap (λ (g : Farm). record g { slots = slots_after f.slots w }) applies.farm

  groups_then : (d : DependRow) → groups_of books_then d ≡ groups_of f d
  groups_then d = groups_stay f books_then d refl (follow_stand f.slots w)

  -- and fit it
  pub fits_then : Fits books_then (depends_after b w)
  fits_then =
      record {
        done = λ slot. applies.fits.done slot ∙ sym (follow_done f.slots w follows.opened_movable follows.blocked_movable slot);
        groups = λ i d v row watch unmet. applies.fits.groups i d v row watch unmet ∙ sym (groups_then d);
      }
