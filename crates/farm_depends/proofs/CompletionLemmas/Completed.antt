-- Frames are done: the book of depends after them is that of the farm in which each group is marked that is met then.
use Rattle.std.proofs.Common.{◌≡◌, ℕ, ◌<◌, ◌≤◌, ◌||◌, Bool, true, false, eqb, List, map, length, Some, refl, sym, ap, subst, ◌∙◌, arith}
use Rattle.std.specs.List.{AllZip, slice_get}
use Rattle.std.proofs.lemmas.Bool.{eq-eqb, or_right}
use Rattle.std.proofs.lemmas.List.Folds.{list_all-map}
use Rattle.std.proofs.lemmas.Option.{slice_get_within}
use Rattle.farm_types.specs.declared.depend.DependRow.{DependRow}
use Rattle.farm_types.specs.declared.depend.Group.{Group}
use Rattle.farm_types.specs.declared.limits.TheConstants.{SLOT_LIMIT}
use Rattle.farm_types.specs.declared.slot_row.SlotRow.{SlotRow}
use Rattle.farm_types.specs.Depends.{groups_of, is_done, is_done_state}
use Rattle.farm_types.specs.Farm.{Farm, for_some}
use Rattle.farm_types.specs.Settle.{is_met_now, with_met}
use Rattle.farm_types.proofs.Lists.{for_some_true, list_all-from_at}
use Rattle.depend_law.proofs.Fewer.{are_done_more}
use Rattle.depend_graph.specs.Graph.{GraphLists, Watch, Watched, is_flagged, is_met, with_all_done}
use Rattle.depend_book.specs.Book.{DependLists, IsBook, all_done_in, joined}
use Rattle.depend_book.specs.Fits.{Fits, group_in}
use Rattle.farm_depends.specs.Follow.{is_listed}
use Rattle.farm_depends.proofs.BookChanges.{Advances, all_done_is, book_after, groups_after}
use Rattle.farm_depends.proofs.CompletionLemmas.Flags.{are_done_alike, depends_after, done_after, flags_after, flags_are, length-flags_after, met_after_is, met_stays, watch_after, watched_after}
use Rattle.farm_depends.proofs.CompletionLemmas.MetNow.{Settles, Tells, done_is_met, settled_farm}
use Rattle.depend_book.proofs.OpenUnmet.{each_met, met_is}
use Rattle.depend_book.proofs.Pairs.{IsPair, groups_joined, pairs}
use Rattle.depend_book.proofs.Zips.{list_any-at, map_in_turn, zip_beside, zip_both, zip_made}

-- Beside the book `b`, exactly what was met in `f0` was marked; `f` is the farm after an act, in which these frames are done too.
pub record Completes (f0 f : Farm) (b : DependLists) (done : List ℕ) : Type 0 where
  pub book : IsBook b
  pub fits : Fits f0 b
  pub slots : length f.slots ≤ SLOT_LIMIT
  pub met : with_met (joined f0 b) ≡ joined f0 b
  pub groups_stay : (i : ℕ) (d : DependRow) → slice_get b.rows i ≡ Some d → d.met_all ≡ false → groups_of f d ≡ groups_of f0 d
  pub done_are : (slot : ℕ) → is_done f.slots slot ≡ (is_done f0.slots slot || is_listed done slot)

-- a frame that is done stands in one of the slots
done_within : (slots : List SlotRow) (slot : ℕ) → is_done slots slot ≡ true → slot < length slots
done_within slots slot h =
    let s = for_some_true (slice_get slots slot) (λ (t : SlotRow). for_some t.frame (λ x. is_done_state x.state)) h in
    slice_get_within slots slot s.0 s.1

-- a depend keeps its number and groups, and stays satisfied
advance : (flags : List Bool) (done : List ℕ) (w : Watch) → Advances w (watch_after flags done w)
advance flags done w =
    record {
      number = refl;
      groups = sym (map_in_turn group_in (watched_after flags done) group_in (λ x. refl) w.groups);
      satisfied = λ all.
          list_all-map is_met (watched_after flags done) w.groups
          ∙ list_all-from_at (λ (x : Watched). is_met (watched_after flags done x)) w.groups (λ k x at. met_stays flags done x.group x.met (each_met w all k x at));
    }

module _ (f0 f : Farm) (b : DependLists) (done : List ℕ) (c : Completes f0 f b done) where
  -- ---- the graph and the book

  -- the graph of the book
  pub completed_graph : (all_done_in b done).graph ≡ with_all_done b.graph done
  completed_graph = ap (λ (k : DependLists). k.graph) (all_done_is b done c.book)

  pub completed_flags : length (all_done_in b done).graph.done ≡ SLOT_LIMIT
  completed_flags =
      ap (λ (g : GraphLists). length g.done) completed_graph
      ∙ (ap length (done_after b.graph done) ∙ (length-flags_after b.graph.done done ∙ c.book.flags))

  advances : AllZip Advances b.graph.depends (with_all_done b.graph done).depends
  advances =
      subst (AllZip Advances b.graph.depends) (sym (depends_after b.graph done)) (zip_made Advances (watch_after b.graph.done done) (advance b.graph.done done) b.graph.depends)

  pub completed_book : IsBook (all_done_in b done)
  completed_book = subst IsBook (sym (all_done_is b done c.book)) (book_after b (with_all_done b.graph done) c.book advances (ap length (done_after b.graph done) ∙ (length-flags_after b.graph.done done ∙ c.book.flags)))

  within : (k s : ℕ) → slice_get done k ≡ Some s → s < length b.graph.done
  within k s at =
      let now = c.done_are s ∙ or_right (is_done f0.slots s) (is_listed done s) (list_any-at (λ n. eqb n s) done k s at (eq-eqb s s refl)) in
      omega (arith, done_within f.slots s now, c.slots, c.book.flags)

  flags_now : (slot : ℕ) → is_flagged (flags_after b.graph.done done) slot ≡ is_done f.slots slot
  flags_now slot =
      flags_are b.graph.done done slot within ∙ (ap (λ (t : Bool). t || is_listed done slot) (c.fits.done slot) ∙ sym (c.done_are slot))

  pub completed_fits : Fits f (all_done_in b done)
  completed_fits =
      subst (Fits f) (sym (all_done_is b done c.book))
      (record {
        done = λ slot. ap (λ (flags : List Bool). is_flagged flags slot) (done_after b.graph done) ∙ flags_now slot;
        groups = groups_after f0 f b (with_all_done b.graph done) c.book c.fits c.groups_stay advances;
      })

  -- ---- the farm

  module _ (i : ℕ) (d : DependRow) (w : Watch) (row : slice_get b.rows i ≡ Some d) (watch : slice_get b.graph.depends i ≡ Some w) (pair : IsPair f0 d w) where
    groups_now : d.met_all ≡ false → groups_of (joined f b) d ≡ map group_in w.groups
    groups_now unmet = groups_joined f b d ∙ (c.groups_stay i d row unmet ∙ sym (pair.groups unmet))

    -- a group is met then where it was met, or its targets are done
    met_then : d.met_all ≡ false → (k : ℕ) (x : Watched) → slice_get w.groups k ≡ Some x → (watched_after b.graph.done done x).met ≡ is_met_now (joined f b) d x.group
    met_then unmet k x group =
        met_after_is b.graph.done done x.group x.met
        (λ h. done_is_met f0 b c.book c.fits c.met i k d w x row watch group unmet (are_done_more (is_flagged b.graph.done) (is_done f0.slots) x.group (λ slot is. sym (c.fits.done slot) ∙ is) h))
        ∙ λ j. sym (met_is f0 b c.book c.fits i k d w x row watch group unmet) j
        || are_done_alike (is_flagged (flags_after b.graph.done done)) (is_done f.slots) x.group (λ n t at. flags_now t) j

    told : d.met_all ≡ false → AllZip (Tells (joined f b) d) (groups_of (joined f b) d) (watch_after b.graph.done done w).groups
    told unmet =
        subst (λ (gs : List Group). AllZip (Tells (joined f b) d) gs (map (watched_after b.graph.done done) w.groups)) (sym (groups_now unmet))
        (zip_both (Tells (joined f b) d) group_in (watched_after b.graph.done done) w.groups (λ k x group. record { group = refl; met = met_then unmet k x group }))

    settles : Settles (joined f b) d (watch_after b.graph.done done w)
    settles =
        record { number = sym pair.number; satisfied = λ is. (advance b.graph.done done w).satisfied (sym pair.all ∙ is); groups = told }

  all_settle : AllZip (Settles (joined f b)) b.rows (with_all_done b.graph done).depends
  all_settle =
      subst (AllZip (Settles (joined f b)) b.rows) (sym (depends_after b.graph done))
      (zip_beside (IsPair f0) (Settles (joined f b)) (watch_after b.graph.done done) b.rows b.graph.depends (pairs f0 b c.book c.fits) settles)

  pub completed_farm : joined f (all_done_in b done) ≡ with_met (joined f b)
  completed_farm = ap (joined f) (all_done_is b done c.book) ∙ settled_farm (joined f b) (with_all_done b.graph done).depends all_settle
