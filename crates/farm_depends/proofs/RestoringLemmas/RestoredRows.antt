-- Depends that are put back one after the other, as the farm has them.
use Rattle.std.proofs.Common.{◌≡◌, ◌≤◌, ℕ, zero, suc, ◌+◌, Bool, true, false, cond, ◌||◌, List, [], ◌∷◌, ◌++◌, map, length, drop, take, get_or, option_map, Some, All, refl, sym, ap, subst, ◌∙◌, arith}
use Rattle.std.specs.List.{filter, list_all, list_any, slice_get, sum_by}
use Rattle.std.proofs.lemmas.Bool.{false≢true}
use Rattle.std.proofs.lemmas.List.{drop_all, drop_more, length-map, length-take, map-append, take_all, take_more}
use Rattle.std.proofs.lemmas.List.Elements.{All-nil}
use Rattle.std.proofs.lemmas.List.Folds.{list_all-map}
use Rattle.std.proofs.lemmas.List.Sums.{sum_by-cons}
use Rattle.std.proofs.lemmas.Option.{get_or_from_slice_get, none-some, same_Some, slice_get-get_or, slice_get-map, slice_get_within}
use Rattle.farm_types.specs.declared.depend.DependRow.{DependRow}
use Rattle.farm_types.specs.declared.depend.Group.{Group}
use Rattle.farm_types.specs.declared.depend.MetRow.{MetRow}
use Rattle.farm_types.specs.Depends.{are_done, groups_of, is_done, is_marked, is_met}
use Rattle.farm_types.specs.Farm.{Farm}
use Rattle.farm_types.specs.Kept.{IsKeptFarm, is_end_there, is_kept_depend}
use Rattle.farm_types.specs.Rising.{IsRising, depend_key}
use Rattle.farm_types.specs.Settle.{is_met_now, met_row, met_rows, met_rows_of, settled_row}
use Rattle.farm_types.proofs.Lists.{and_both, list_all-at}
use Rattle.farm_types.proofs.Passes.{option_map-from}
use Rattle.farm_law.proofs.KeptJobsLists.{rising_within}
use Rattle.depend_law.proofs.Waiters.{depend_holds}
use Rattle.depend_graph.specs.Graph.{IsGroup, Watch, is_flagged, is_met as is_met_in, is_satisfied, watched}
use Rattle.farm_rows.specs.Changes.{beside}
use Rattle.depend_graph.specs.Graph as graph
use Rattle.depend_graph.specs.Marked.{marked_watch, marked_with}
use Rattle.depend_book.specs.Book.{DependLists, joined, mark_of, marks_in, marks_of}
use Rattle.depend_book.specs.Restored.{CanRestore, skipped, with_restored}
use Rattle.depend_book.specs.Fits.{group_in}
use Rattle.farm_depends.specs.Restored.{IsFlagged, IsRestored, IsRestoring, groups_for, is_mark_of, marks_along, rest_along, watch_in, watched_in}
use Rattle.farm_depends.proofs.Agree.{done_agree}
use Rattle.farm_depends.proofs.RestoringLemmas.RestoredMarks.{IsAlong, along}

-- ---- a row of a farm in which exactly what is met is marked

module _ (w : Farm) where
  abbrev IsSettled : DependRow → Type 0
  IsSettled d = settled_row w d ≡ d

  abbrev weight : DependRow → ℕ
  weight d = cond d.met_all 0 (length (groups_of w d))

  some_unmet : (d : DependRow) → IsSettled d → d.met_all ≡ false → list_all (is_met_now w d) (groups_of w d) ≡ false
  some_unmet d settled unmet =
      ap (λ b. b || list_all (is_met_now w d) (groups_of w d)) (sym unmet) ∙ (ap (λ (x : DependRow). x.met_all) settled ∙ unmet)

  -- the depend is satisfied where its row says so
  satisfied_by : (b : Bool) (d : DependRow) → IsSettled d → d.met_all ≡ b → is_satisfied (watch_in w d) ≡ b
  satisfied_by true d settled is = ap (λ c. list_all is_met_in (map (watched_in w d) (cond c [] (groups_of w d)))) is
  satisfied_by false d settled is =
      ap (λ c. list_all is_met_in (map (watched_in w d) (cond c [] (groups_of w d)))) is ∙ (list_all-map is_met_in (watched_in w d) (groups_of w d) ∙ some_unmet d settled is)

  satisfied_is : (d : DependRow) → IsSettled d → is_satisfied (watch_in w d) ≡ d.met_all
  satisfied_is d settled = satisfied_by d.met_all d settled refl

  marks_then : (d : DependRow) (gs : List Group) → map (mark_of d.depend) (filter is_met_in (map (watched_in w d) gs)) ≡ map (met_row d) (filter (is_met_now w d) gs)
  marks_then d [] = refl
  marks_then d (g ∷ gs) = by_mark (is_met_now w d g) (marks_then d gs) where
    by_mark : (b : Bool) → map (mark_of d.depend) (filter is_met_in (map (watched_in w d) gs)) ≡ map (met_row d) (filter (is_met_now w d) gs)
        → map (mark_of d.depend) (cond b (watched_in w d g ∷ filter is_met_in (map (watched_in w d) gs)) (filter is_met_in (map (watched_in w d) gs))) ≡ map (met_row d) (cond b (g ∷ filter (is_met_now w d) gs) (filter (is_met_now w d) gs))
    by_mark true more = ap (λ (ms : List MetRow). met_row d g ∷ ms) more
    by_mark false more = more

  -- its marks are those of its groups that are met
  rows_by : (b : Bool) (d : DependRow) → IsSettled d → d.met_all ≡ b → met_rows_of w d ≡ map (met_row d) (filter (is_met_now w d) (groups_for w d))
  rows_by true d settled is =
      ap (λ c. cond c [] (map (met_row d) (filter (is_met_now w d) (groups_of w d)))) (ap (λ (x : DependRow). x.met_all) settled ∙ is)
      ∙ ap (λ c. map (met_row d) (filter (is_met_now w d) (cond c [] (groups_of w d)))) (sym is)
  rows_by false d settled is =
      ap (λ c. cond c [] (map (met_row d) (filter (is_met_now w d) (groups_of w d)))) (ap (λ (x : DependRow). x.met_all) settled ∙ is)
      ∙ ap (λ c. map (met_row d) (filter (is_met_now w d) (cond c [] (groups_of w d)))) (sym is)

  rows_are : (d : DependRow) → IsSettled d → met_rows_of w d ≡ map (met_row d) (filter (is_met_now w d) (groups_for w d))
  rows_are d settled = rows_by d.met_all d settled refl

  -- and those of the depend as it is put back
  marks_by : (b : Bool) (d : DependRow) → IsSettled d → d.met_all ≡ b → marks_in (watch_in w d) ≡ met_rows_of w d
  marks_by b d settled is =
      ap (λ c. cond c [] (map (mark_of d.depend) (filter is_met_in (map (watched_in w d) (groups_for w d))))) (satisfied_is d settled ∙ is)
      ∙ (by_flag b is ∙ sym (ap (λ c. cond c [] (map (met_row d) (filter (is_met_now w d) (groups_of w d)))) (ap (λ (x : DependRow). x.met_all) settled ∙ is)))
    where
      by_flag : (c : Bool) → d.met_all ≡ c → cond c [] (map (mark_of d.depend) (filter is_met_in (map (watched_in w d) (groups_for w d)))) ≡ cond c [] (map (met_row d) (filter (is_met_now w d) (groups_of w d)))
      by_flag true at = refl
      by_flag false at = ap (λ c. map (mark_of d.depend) (filter is_met_in (map (watched_in w d) (cond c [] (groups_of w d))))) at ∙ marks_then d (groups_of w d)

  abbrev AllSettled : List DependRow → Type 0
  AllSettled ds = (n : ℕ) (d : DependRow) → slice_get ds n ≡ Some d → IsSettled d

  pub marks_are : (ds : List DependRow) → AllSettled ds → marks_of (map (watch_in w) ds) ≡ met_rows w ds
  marks_are [] settled = refl
  marks_are (d ∷ ds) settled = λ i. marks_by d.met_all d (settled 0 d refl) refl i ++ marks_are ds (λ n x at. settled (suc n) x at) i

  -- ---- room for its groups

  weight_by : (b : Bool) (d : DependRow) → IsSettled d → d.met_all ≡ b → cond (is_satisfied (watch_in w d)) 0 (length (watch_in w d).groups) ≡ weight d
  weight_by true d settled is = (λ i. cond ((satisfied_is d settled ∙ is) i) 0 (length (watch_in w d).groups)) ∙ sym (ap (λ b. cond b 0 (length (groups_of w d))) is)
  weight_by false d settled is =
      (λ i. cond ((satisfied_is d settled ∙ is) i) 0 (length (map (watched_in w d) (cond (is i) [] (groups_of w d)))))
      ∙ (length-map (groups_of w d) (watched_in w d) ∙ sym (ap (λ b. cond b 0 (length (groups_of w d))) is))

  size_by : (b : Bool) (d : DependRow) → d.met_all ≡ b → length (groups_for w d) ≡ weight d
  size_by true d is = ap (λ b. length (cond b [] (groups_of w d))) is ∙ sym (ap (λ b. cond b 0 (length (groups_of w d))) is)
  size_by false d is = ap (λ b. length (cond b [] (groups_of w d))) is ∙ sym (ap (λ b. cond b 0 (length (groups_of w d))) is)

  room_left : (ds : List DependRow) (n : ℕ) (d : DependRow) → AllSettled ds → slice_get ds n ≡ Some d → graph.groups_left (map (watch_in w) (take n ds)) + length (groups_for w d) ≤ sum_by weight ds
  room_left [] n d settled at = absurd (none-some d at)
  room_left (x ∷ xs) zero d settled at = omega (arith, size_by d.met_all d refl, ap weight (same_Some x d at), sum_by-cons weight x xs)
  room_left (x ∷ xs) (suc n) d settled at =
      let more = room_left xs n d (λ m y there. settled (suc m) y there) at in
      omega (
        arith,
        more,
        sum_by-cons (λ (v : Watch). cond (is_satisfied v) 0 (length v.groups)) (watch_in w x) (map (watch_in w) (take n xs)),
        weight_by x.met_all x (settled 0 x refl) refl,
        sum_by-cons weight x xs,
      )

  -- ---- marks of other groups

  none_of : (test : MetRow → Bool) (ds : List DependRow) (n : ℕ) → list_any test (met_rows w ds) ≡ false → list_any test (met_rows w (drop n ds)) ≡ false
  none_of test ds zero none = none
  none_of test [] (suc n) none = none
  none_of test (d ∷ ds) (suc n) none = none_of test ds n (behind test (met_rows_of w d) (met_rows w ds) none) where
    behind : (p : MetRow → Bool) (xs ys : List MetRow) → list_any p (xs ++ ys) ≡ false → list_any p ys ≡ false
    behind p [] ys off = off
    behind p (x ∷ xs) ys off = behind p xs ys (rest (p x) (list_any p (xs ++ ys)) off) where
      rest : (a b : Bool) → (a || b) ≡ false → b ≡ false
      rest true b is = absurd (false≢true (sym is))
      rest false b is = is

-- ---- groups that are marked

or_again : (a b m : Bool) → a ≡ b → (a || (m || b)) ≡ (m || b)
or_again true b true same = refl
or_again true true false same = refl
or_again true false false same = same
or_again false b m same = refl

module _ (w : Farm) (done : List Bool) (flags : (slot : ℕ) → is_flagged done slot ≡ is_done w.slots slot) (d : DependRow) where
  marked_all : (gs : List Group) → marked_with (map (watched done) gs) (map (is_met_now w d) gs) ≡ map (watched_in w d) gs
  marked_all [] = refl
  marked_all (g ∷ gs) =
      let same = or_again (are_done (is_flagged done) g) (are_done (is_done w.slots) g) (is_met w d g) (done_agree (is_flagged done) (is_done w.slots) flags g) in
      λ i. record { group = g; met = same i } ∷ marked_all gs i

  marked_is : (gs : List Group) (ms : List Bool) → gs ≡ groups_for w d → ms ≡ map (is_met_now w d) gs → marked_watch done d.depend gs ms ≡ watch_in w d
  marked_is gs ms are marks =
      ap (λ (bs : List Bool). marked_watch done d.depend gs bs) marks
      ∙ ((λ i. record { depend = d.depend; groups = marked_all gs i }) ∙ λ i. record { depend = d.depend; groups = map (watched_in w d) (are i) })

-- ---- one depend more

module _ (w : Farm) (kept : IsKeptFarm w) where
  all_settled : (n : ℕ) (d : DependRow) → slice_get w.depends n ≡ Some d → settled_row w d ≡ d
  all_settled n d at =
      let both = sym (slice_get-map (settled_row w) w.depends n) ∙ ap (λ (ds : List DependRow). slice_get ds n) (ap (λ (f : Farm). f.depends) kept.depends.met) ∙ at in
      let x = option_map-from (settled_row w) (slice_get w.depends n) d both in
      ap (settled_row w) (same_Some d x.0 (sym at ∙ x.1)) ∙ x.2

  each_by : (b : Bool) (n : ℕ) (d : DependRow) → slice_get w.depends n ≡ Some d → d.met_all ≡ b → All IsGroup (cond b [] (groups_of w d))
  each_by true n d at is = All-nil IsGroup
  each_by false n d at is = λ k g within.
      let there = and_both (is_end_there w d.waiter) (d.met_all || is_end_there w d.target) (list_all-at (is_kept_depend w) w.depends n d kept.depends.ends_there at) in
      let target : is_end_there w d.target ≡ true = ap (λ b. b || is_end_there w d.target) (sym is) ∙ there.1 in
      let holds = depend_holds w kept.rows d there.0 target in
      let found = slice_get-get_or (groups_of w d) k g within in
      let waits = holds.waiters k (get_or (groups_of w d) k g) found in
      let waited = holds.targets k (get_or (groups_of w d) k g) found in
      record { waiters_differ = waits.differ; targets_differ = waited.differ; waiters_within = waits.within; targets_within = waited.within }

  -- no mark of the depend is of a group that isn't met
  unmarked : (d : DependRow) (n : ℕ) (g : Group) → is_met_now w d g ≡ false → list_any (is_mark_of d.depend g) (met_rows w (drop n w.depends)) ≡ false
  unmarked d n g unmet =
      let off : is_marked w d g ≡ false = parts d.met_all (is_marked w d g) (are_done (is_done w.slots) g) unmet in
      none_of w (is_mark_of d.depend g) w.depends n (ap (list_any (is_mark_of d.depend g)) (ap (λ (f : Farm). f.met) kept.depends.met) ∙ off)
    where
      parts : (a b c : Bool) → ((a || b) || c) ≡ false → b ≡ false
      parts true b c is = absurd (false≢true (sym is))
      parts false true c is = is
      parts false false c is = refl

  module _ (n : ℕ) (b : DependLists) (left : List MetRow) (so_far : IsRestoring w n b left) (d : DependRow) (at : slice_get w.depends n ≡ Some d) where
    abbrev gs : List Group
    gs = groups_for w d

    abbrev ms : List Bool
    ms = marks_along d.depend gs left

    left_from : drop n w.depends ≡ d ∷ drop (n + 1) w.depends
    left_from = drop_more w.depends n d (slice_get_within w.depends n d at) ∙ ap (λ (x : DependRow). x ∷ drop (n + 1) w.depends) (get_or_from_slice_get w.depends n d d at)

    goes : IsAlong d.depend (is_met_now w d) gs (met_rows w (drop (n + 1) w.depends)) left
    goes =
        along d (is_met_now w d) (met_rows w (drop (n + 1) w.depends)) gs left
        (so_far.left_is ∙ (ap (met_rows w) left_from ∙ ap (λ (xs : List MetRow). xs ++ met_rows w (drop (n + 1) w.depends)) (rows_are w d (all_settled n d at))))
        (λ k g found off. ap (list_any (is_mark_of d.depend g)) so_far.left_is ∙ unmarked d n g off)

    rises : (b.next ≤ d.depend) × IsRising depend_key (d.depend + 1) (drop (n + 1) w.depends) w.next_depend
    rises = subst (λ (ds : List DependRow). IsRising depend_key b.next ds w.next_depend) left_from so_far.rise

    pub above : b.next ≤ d.depend
    above = rises.0

    watch_is : marked_watch b.graph.done d.depend gs ms ≡ watch_in w d
    watch_is = marked_is w b.graph.done so_far.flags d gs ms refl goes.marks_are

    can_restore : CanRestore (skipped b d.depend) d gs ms
    can_restore =
        record {
          number = refl;
          number_left = omega (arith, rising_within depend_key (d.depend + 1) (drop (n + 1) w.depends) w.next_depend rises.1, kept.depends.next_within);
          room = omega (arith, ap (λ (ds : List DependRow). length ds) so_far.rows, length-take n w.depends, slice_get_within w.depends n d at, kept.depends.count);
          groups_within = omega (arith, ap (λ (vs : List Watch). graph.groups_left vs) so_far.depends, room_left w w.depends n d all_settled at, kept.depends.groups_within);
          each = each_by d.met_all n d at refl;
          satisfied = ap is_satisfied watch_is ∙ satisfied_is w d (all_settled n d at);
        }

    more_rows : take (n + 1) w.depends ≡ take n w.depends ++ d ∷ []
    more_rows = take_more w.depends n d (slice_get_within w.depends n d at) ∙ ap (λ (x : DependRow). take n w.depends ++ x ∷ []) (get_or_from_slice_get w.depends n d d at)

    restoring_next : IsRestoring w (n + 1) (with_restored (skipped b d.depend) d gs ms) (rest_along d.depend gs left)
    restoring_next =
        record {
          rows = ap (λ (ds : List DependRow). ds ++ d ∷ []) so_far.rows ∙ sym more_rows;
          depends =
              (λ i. so_far.depends i ++ watch_is i ∷ [])
              ∙ (sym (map-append (watch_in w) (take n w.depends) (d ∷ [])) ∙ ap (map (watch_in w)) (sym more_rows));
          flags = so_far.flags;
          rise = rises.1;
          left_is = goes.rest_is;
        }

    -- the same where the groups are known otherwise
    pub can_restore_by : (hs : List Group) → gs ≡ hs → CanRestore (skipped b d.depend) d hs (marks_along d.depend hs left)
    can_restore_by hs same = subst (λ (xs : List Group). CanRestore (skipped b d.depend) d xs (marks_along d.depend xs left)) same can_restore

    pub restoring_by : (hs : List Group) (new : DependLists) (rest : List MetRow) → gs ≡ hs → new ≡ with_restored (skipped b d.depend) d hs (marks_along d.depend hs left) → rest ≡ rest_along d.depend hs left
        → IsRestoring w (n + 1) new rest
    restoring_by hs new rest same is behind =
        subst (λ (x : DependLists). IsRestoring w (n + 1) x rest) (sym is)
        (subst (λ (ms : List MetRow). IsRestoring w (n + 1) (with_restored (skipped b d.depend) d hs (marks_along d.depend hs left)) ms) (sym behind)
        (subst (λ (xs : List Group). IsRestoring w (n + 1) (with_restored (skipped b d.depend) d xs (marks_along d.depend xs left)) (rest_along d.depend xs left)) same restoring_next))

-- ---- the beginning and the end

module _ (f : Farm) (depends : List DependRow) (met : List MetRow) (next : ℕ) (kept : IsKeptFarm (beside f depends met next)) where
  abbrev whole : Farm
  whole = beside f depends met next

  pub restoring_begin : (b : DependLists) → IsFlagged f.slots b → IsRestoring whole 0 b met
  restoring_begin b flagged =
      record {
        rows = flagged.rows;
        depends = flagged.depends;
        flags = flagged.flags;
        rise = subst (λ (low : ℕ). IsRising depend_key low depends next) (sym flagged.next) kept.depends.rise;
        left_is = sym (ap (λ (g : Farm). g.met) kept.depends.met);
      }

  groups_whole : (d : DependRow) → groups_of whole d ≡ groups_of f d
  unfolding groups_of
  groups_whole d = refl

  pub groups_for_whole : (d : DependRow) → groups_for whole d ≡ groups_for f d
  groups_for_whole d = ap (cond d.met_all []) (groups_whole d)

  groups_beside : (b : DependLists) (d : DependRow) → groups_of (joined f b) d ≡ groups_of f d
  unfolding groups_of
  groups_beside b d = refl

  -- the groups, in books with some of the depends
  pub groups_for_joined : (g : Farm) (b : DependLists) (d : DependRow) → g ≡ joined f b → groups_for whole d ≡ groups_for g d
  groups_for_joined g b d is = groups_for_whole d ∙ (sym (ap (cond d.met_all []) (groups_beside b d)) ∙ ap (λ (h : Farm). groups_for h d) (sym is))

  module _ (n : ℕ) (b : DependLists) (left : List MetRow) (so_far : IsRestoring whole n b left) (ended : length depends ≤ n) where
    rows_all : b.rows ≡ depends
    rows_all = so_far.rows ∙ take_all n depends ended

    watches_all : b.graph.depends ≡ map (watch_in whole) depends
    watches_all = so_far.depends ∙ ap (map (watch_in whole)) (take_all n depends ended)

    pub next_below : b.next ≤ next
    next_below = subst (λ (ds : List DependRow). IsRising depend_key b.next ds next) (drop_all n depends ended) so_far.rise

    marks_all : marks_of b.graph.depends ≡ met
    marks_all = ap marks_of watches_all ∙ (marks_are whole depends (all_settled whole kept) ∙ ap (λ (g : Farm). g.met) kept.depends.met)

    bare_groups : (d : DependRow) (gs : List Group) → map group_in (map (watched_in whole d) gs) ≡ gs
    bare_groups d [] = refl
    bare_groups d (g ∷ gs) = ap (λ (hs : List Group). g ∷ hs) (bare_groups d gs)

    pub restored : IsRestored f depends met next (skipped b next)
    restored =
        record {
          joined_is = λ i. record f { depends = rows_all i; met = marks_all i; next_depend = next };
          fits =
              record {
                done = so_far.flags;
                groups = λ k d v at_row at_watch unmet.
                    let here : slice_get depends k ≡ Some d = ap (λ (ds : List DependRow). slice_get ds k) (sym rows_all) ∙ at_row in
                    let there : slice_get (map (watch_in whole) depends) k ≡ Some (watch_in whole d) = slice_get-map (watch_in whole) depends k ∙ ap (option_map (watch_in whole)) here in
                    let same : v ≡ watch_in whole d = same_Some v (watch_in whole d) (sym at_watch ∙ (ap (λ (vs : List Watch). slice_get vs k) watches_all ∙ there)) in
                    ap (λ (x : Watch). map group_in x.groups) same
                    ∙ (bare_groups d (groups_for whole d) ∙ (ap (λ c. cond c [] (groups_of whole d)) unmet ∙ groups_whole d));
              };
        }
