-- The book of depends takes what comes: beside the other books it is the farm with the rows, in which each group is marked that is met now.
use Rattle.std.proofs.Common.{◌≡◌, ℕ, zero, suc, ◌+◌, ◌≤◌, ◌<◌, Bool, true, false, cond, List, [], ◌∷◌, ◌++◌, map, length, Some, refl, ap, sym, subst, ◌∙◌, arith, append_assoc, append-nil, length-append}
use Rattle.std.specs.List.{filter, list_all, slice_get}
use Rattle.std.proofs.lemmas.List.{length-map, map-append}
use Rattle.std.proofs.lemmas.List.Folds.{list_all-map}
use Rattle.std.proofs.lemmas.List.Sums.{sum_by-append, sum_by-cons}
use Rattle.std.proofs.lemmas.Option.{none-some, same_Some}
use Rattle.farm_types.specs.declared.depend.DependRow.{DependRow}
use Rattle.farm_types.specs.declared.depend.Group.{Group}
use Rattle.farm_types.specs.declared.depend.MetRow.{MetRow}
use Rattle.farm_types.specs.declared.limits.TheConstants.{LAST_DEPEND, MOST_DEPENDS, MOST_GROUPS}
use Rattle.farm_types.specs.Depends.{are_done, groups_of}
use Rattle.farm_types.specs.Farm.{Farm}
use Rattle.farm_types.specs.Rising.{depend_key}
use Rattle.farm_types.specs.Settle.{met_row, with_met}
use Rattle.farm_law.proofs.KeptJobsLists.{rising-append}
use Rattle.depend_law.proofs.MetAgain.{met_again}
use Rattle.depend_graph.specs.Graph.{Watch, is_flagged, is_met, is_satisfied, watch_of, watched}
use Rattle.depend_graph.specs.Graph as graph
use Rattle.depend_book.specs.declared.new_depend.NewDepend.{NewDepend}
use Rattle.depend_book.specs.Book.{CanAdd, DependLists, IsBook, added_row, joined, mark_of, marks_in, marks_of, row_of, rows_of, watch_number, with_new}
use Rattle.depend_book.specs.Fits.{Fits, group_in}
use Rattle.farm_depends.specs.Follow.{AreRoomy, CanAddAll, IsRoomy, row_for, with_all, with_new_all, with_row}
use Rattle.depend_book.proofs.OpenUnmet.{left_is}
use Rattle.farm_depends.proofs.ComingLemmas.WithRow.{done_now, marks_now, met_before_all, met_with, new_row, numbered_kept, numbered_row, row_now, with_now}
use Rattle.depend_book.proofs.Zips.{filter-map, map_in_turn}
use Rattle.farm_depends.proofs.ComingLemmas.Roomy.{roomy_met}

-- ---- lists with one item more

rows_more : (ds : List DependRow) (ws : List Watch) (d : DependRow) (w : Watch) → length ds ≡ length ws → rows_of (ds ++ d ∷ []) (ws ++ w ∷ []) ≡ rows_of ds ws ++ row_of d w ∷ []
rows_more [] [] d w same = refl
rows_more [] (v ∷ vs) d w same = absurd (omega arith)
rows_more (e ∷ es) [] d w same = absurd (omega arith)
rows_more (e ∷ es) (v ∷ vs) d w same = ap (λ (rows : List DependRow). row_of e v ∷ rows) (rows_more es vs d w (omega arith))

pub marks_more : (ws : List Watch) (w : Watch) → marks_of (ws ++ w ∷ []) ≡ marks_of ws ++ marks_in w
marks_more [] w = append-nil (marks_in w)
marks_more (v ∷ vs) w = ap (λ (rows : List MetRow). marks_in v ++ rows) (marks_more vs w) ∙ sym (append_assoc (marks_in v) (marks_of vs) (marks_in w))

-- what holds side by side, and of the two at the end
pairs_more : {X Y : Type 0} (P : X → Y → Type 0) (xs : List X) (ys : List Y) (x : X) (y : Y) → length xs ≡ length ys
    → ((i : ℕ) (a : X) (b : Y) → slice_get xs i ≡ Some a → slice_get ys i ≡ Some b → P a b) → P x y
    → (i : ℕ) (a : X) (b : Y) → slice_get (xs ++ x ∷ []) i ≡ Some a → slice_get (ys ++ y ∷ []) i ≡ Some b → P a b
pairs_more P [] [] x y same each here zero a b at_a at_b = subst (λ z. P z b) (same_Some x a at_a) (subst (P x) (same_Some y b at_b) here)
pairs_more P [] [] x y same each here (suc i) a b at_a at_b = absurd (none-some a at_a)
pairs_more P [] (z ∷ zs) x y same each here i a b at_a at_b = absurd (omega arith)
pairs_more P (z ∷ zs) [] x y same each here i a b at_a at_b = absurd (omega arith)
pairs_more P (v ∷ vs) (z ∷ zs) x y same each here zero a b at_a at_b = each 0 a b at_a at_b
pairs_more P (v ∷ vs) (z ∷ zs) x y same each here (suc i) a b at_a at_b =
    pairs_more P vs zs x y (omega arith) (λ j c d at_c at_d. each (suc j) c d at_c at_d) here i a b at_a at_b

groups_watched : (done : List Bool) (gs : List Group) → map group_in (map (watched done) gs) ≡ gs
groups_watched done [] = refl
groups_watched done (g ∷ gs) = ap (λ (hs : List Group). g ∷ hs) (groups_watched done gs)

none_more : (b : Bool) (x : ℕ) → cond b 0 x ≤ x
none_more true x = omega arith
none_more false x = omega arith

-- ---- one depend

module _ (f : Farm) (b : DependLists) (n : NewDepend) where
  abbrev flags : List Bool
  flags = b.graph.done

  abbrev new_watch : Watch
  new_watch = watch_of flags b.next n.groups

  abbrev added : DependRow
  added = added_row b.next n (is_satisfied new_watch)

  groups_new : groups_of (joined f b) (row_for b.next n) ≡ groups_of f added
  unfolding groups_of
  groups_new = refl

  as_many : IsBook b → length b.rows ≡ length b.graph.depends
  as_many book = sym (length-map b.rows depend_key) ∙ (ap length book.numbers ∙ length-map b.graph.depends watch_number)

  module _ (fits : Fits f b) (book : IsBook b) (room : IsRoomy (joined f b) n) where
    pub added_fits : Fits f (with_new b n)
    added_fits =
        record {
          done = fits.done;
          groups = pairs_more (λ (d : DependRow) (w : Watch). d.met_all ≡ false → map group_in w.groups ≡ groups_of f d) b.rows b.graph.depends added new_watch (as_many book)
              fits.groups (λ unmet. groups_watched flags n.groups ∙ (room.groups_are ∙ groups_new));
        }

    left_more : graph.groups_left (b.graph.depends ++ new_watch ∷ []) ≤ graph.groups_left b.graph.depends + length n.groups
    left_more =
        let weight : Watch → ℕ = λ (w : Watch). cond (is_satisfied w) 0 (length w.groups) in
        omega (arith, sum_by-append weight b.graph.depends (new_watch ∷ []), sum_by-cons weight new_watch [], none_more (is_satisfied new_watch) (length new_watch.groups), length-map n.groups (watched flags))

    room_left : graph.groups_left b.graph.depends + length n.groups ≤ MOST_GROUPS
    room_left = subst (λ (left : ℕ). left + length n.groups ≤ MOST_GROUPS) (left_is f b book fits) room.groups_left

    pub added_book : IsBook (with_new b n)
    added_book =
        record {
          flags = book.flags;
          numbers = map-append depend_key b.rows (added ∷ [])
              ∙ (ap (λ (ns : List ℕ). ns ++ b.next ∷ []) book.numbers ∙ sym (map-append watch_number b.graph.depends (new_watch ∷ [])));
          rows_are = rows_more b.rows b.graph.depends added new_watch (as_many book) ∙ ap (λ (rows : List DependRow). rows ++ added ∷ []) book.rows_are;
          rise = rising-append depend_key 1 b.next (b.next + 1) b.rows (added ∷ []) book.rise (omega arith, omega arith);
          next_within = let left : b.next ≤ LAST_DEPEND = room.number_left in omega (arith, left);
          count = let left : length b.rows < MOST_DEPENDS = room.row_left in omega (arith, left, length-append b.rows (added ∷ []));
          groups_within = omega (arith, left_more, room_left);
        }

    pub can_add : CanAdd b n
    can_add = record { number_left = room.number_left; room = room.row_left; groups_within = room_left; each = room.each }

    -- ---- the farm

    abbrev beside : Farm
    beside = joined f b

    done_same : done_now beside ≡ are_done (is_flagged flags)
    done_same i g = are_done (λ slot. sym (fits.done slot) i) g

    all_same : list_all (done_now beside) (groups_of beside (new_row beside n)) ≡ is_satisfied new_watch
    all_same =
        (λ i. list_all (done_same i) (sym room.groups_are i)) ∙ sym (list_all-map is_met (watched flags) n.groups)

    marks_same : marks_now beside n ≡ marks_in new_watch
    marks_same =
        let own : map (mark_of b.next) (filter is_met (map (watched flags) n.groups)) ≡ map (met_row (new_row beside n)) (filter (are_done (is_flagged flags)) n.groups) =
        ap (map (mark_of b.next)) (filter-map (watched flags) is_met (are_done (is_flagged flags)) n.groups (λ k g at. refl))
        ∙ map_in_turn (mark_of b.next) (watched flags) (met_row (new_row beside n)) (λ g. refl) (filter (are_done (is_flagged flags)) n.groups) in
        (λ i. cond (all_same i) [] (map (met_row (new_row beside n)) (filter (done_same i) (sym room.groups_are i))))
        ∙ ap (cond (is_satisfied new_watch) []) (sym own)

    pub added_joined : with_met beside ≡ beside → joined f (with_new b n) ≡ with_met (with_row beside n)
    added_joined met =
        let depends : (with_met beside).depends ++ row_now beside n ∷ [] ≡ b.rows ++ added ∷ [] = λ i. (met i).depends ++ added_row b.next n (all_same i) ∷ [] in
        let marked : (with_met beside).met ++ marks_now beside n ≡ marks_of (b.graph.depends ++ new_watch ∷ []) =
        (λ i. (met i).met ++ marks_same i) ∙ sym (marks_more b.graph.depends new_watch) in
        let now : with_now beside n ≡ joined f (with_new b n) = λ i. record f { depends = depends i; met = marked i; next_depend = b.next + 1 } in
        sym (met_with beside n (numbered_kept beside book.rise met) ∙ now)

-- ---- depends in turn

-- The book takes them, fits the farm, and is the farm with the rows, marked.
pub record Takes (f : Farm) (b : DependLists) (ns : List NewDepend) : Type 0 where
  pub farm : joined f (with_new_all b ns) ≡ with_met (with_all (joined f b) ns)
  pub adds : CanAddAll b ns
  pub fits : Fits f (with_new_all b ns)
  pub book : IsBook (with_new_all b ns)

pub takes_all : (f : Farm) (b : DependLists) (ns : List NewDepend) → Fits f b → IsBook b → with_met (joined f b) ≡ joined f b → AreRoomy (joined f b) ns → Takes f b ns
takes_all f b [] fits book met room = record { farm = sym met; adds = tt; fits = fits; book = book }
takes_all f b (n ∷ ns) fits book met room =
    let beside = joined f b in
    let more = with_row beside n in
    let numbered = numbered_row beside n (numbered_kept beside book.rise met) in
    let one : joined f (with_new b n) ≡ with_met more = added_joined f b n fits book room.0 met in
    let met_more : with_met (joined f (with_new b n)) ≡ joined f (with_new b n) = ap with_met one ∙ (met_again more more.next_depend numbered.rise ∙ sym one) in
    let room_more = subst (λ (g : Farm). AreRoomy g ns) (sym one) (roomy_met more ns room.1) in
    let rest = takes_all f (with_new b n) ns (added_fits f b n fits book room.0) (added_book f b n fits book room.0) met_more room_more in
    record {
      farm = rest.farm ∙ (ap (λ (g : Farm). with_met (with_all g ns)) one ∙ met_before_all more numbered ns);
      adds = (can_add f b n fits book room.0, rest.adds);
      fits = rest.fits;
      book = rest.book;
    }
