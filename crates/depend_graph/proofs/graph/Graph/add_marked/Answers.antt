use Rattle.std.proofs.Common.{rules, ◌≡◌, ◌+◌, ◌∷◌, [], ◌++◌, ℕ, List, cond, eqb, false, length, map, refl, sym, ap, subst, ◌∙◌, arith, length-append}
use Rattle.std.specs.List.{count_by, slice_get}
use Rattle.farm_types.specs.declared.depend.Group.{Group}
use Rattle.depend_edges.specs.Aims.{aims_from}
use Rattle.depend_edges.specs.Listed.{ListedLists, aim_of, is_unmet}
use Rattle.depend_edges.specs.Ways.{KeepsWaysOf, edge_lists, is_ahead_of}
use Rattle.depend_edges.specs.declared.links.Edge.{Edge}
use Rattle.depend_edges.specs.declared.listed.Count.{Count}
use Rattle.depend_edges.proofs.Bared.{length_bare}
use Rattle.depend_edges.proofs.EdgeLists.{edge_lists_long}
use Rattle.depend_edges.proofs.Targets.{targets_small}
use Rattle.depend_edges.proofs.Wanted.{all_places, begin_ahead}
use Rattle.depend_graph.specs.Added.{count_for, held_in}
use Rattle.depend_graph.specs.Graph.{CanAdd, GraphLists, Watch}
use Rattle.depend_graph.specs.Inside.{KeepsDepends, KeepsSums, graph_of, there_of, watches}
use Rattle.depend_graph.specs.Marked.{marked_counts, marked_watch, with_marked}
use Rattle.depend_graph.specs.Spare.{SpareLists, spare_of}
use Rattle.depend_graph.proofs.ComingLemmas.AddedDepend.{added, added_watch, counts_long, edge_lists_push, push_counts, push_depends, push_sums, there_long, there_push}
use Rattle.depend_graph.proofs.ProgressLemmas.Bared.{counts_bare, depends_bare, sums_bare, there_bare}
use Rattle.depend_graph.proofs.GoingLemmas.Thinned.{there_left}
use Rattle.depend_graph.proofs.graph.Graph.add_marked.Goals as goal

groups_reserved : (s : SpareLists) (gs : List Group) → s ≡ spare_of gs → s.groups ≡ length gs
unfolding spare_of
groups_reserved s gs is = ap (λ (x : SpareLists). x.groups) is

aims_reserved : (s : SpareLists) (gs : List Group) → s ≡ spare_of gs → s.aims ≡ aims_from 0 gs
unfolding spare_of
aims_reserved s gs is = ap (λ (x : SpareLists). x.aims) is

pub make_room-requires-clause-few : goal.make_room-requires-clause-few
make_room-requires-clause-few c =
    let can : CanAdd (graph_of c.self.inside) c.args.depend c.args.groups = subst (λ (g : GraphLists). CanAdd g c.args.depend c.args.groups) (sym c.self.view_is) c.requires.can in
    omega (arith, there_long c.self.inside.tally.depends.items, can.room)

pub count_all-requires-clause-counts : goal.count_all-requires-clause-counts
count_all-requires-clause-counts c =
    ap (λ (s : SpareLists). s.groups) c.spare.view_is ∙ (groups_reserved c.args.spare c.args.groups c.requires.reserved ∙ ap (λ (gs : List Group). length gs) (sym c.as_slice.ensures))

pub count_all-requires-clause-targets : goal.count_all-requires-clause-targets
count_all-requires-clause-targets c = λ k g at.
    targets_small c.spare.inside.edges.items c.args.groups (ap (λ (s : SpareLists). s.aims) c.spare.view_is ∙ aims_reserved c.args.spare c.args.groups c.requires.reserved) c.spare.invariant k g
    (ap (λ (gs : List Group). slice_get gs k) (sym c.as_slice.ensures) ∙ at)

pub hold_all-requires : goal.hold_all-requires
hold_all-requires c =
    let done = c.self.inside.done.items in
    let gs = c.args.groups in
    let ms = c.args.marks.now in
    let counts_are : c.mark_all.new.counts.items ≡ marked_counts (map (count_for done) gs) ms = c.mark_all.ensures ∙ ap (λ (ns : List Count). marked_counts ns ms) (c.count_all.ensures ∙ λ i. map (count_for (c.as_slice-2.ensures.value i)) (c.as_slice.ensures i)) in
    ap (λ (ns : List Count). length ns) (c.as_slice-4.ensures.value ∙ counts_are) ∙ (counts_long done gs ms ∙ ap (λ (xs : List Group). length xs) (sym c.as_slice-3.ensures))

pub unmet_among-unmet-requires : goal.unmet_among-unmet-requires
unmet_among-unmet-requires c =
    let done = c.self.inside.done.items in
    let gs = c.args.groups in
    let ms = c.args.marks.now in
    let counts_are : c.mark_all.new.counts.items ≡ marked_counts (map (count_for done) gs) ms = c.mark_all.ensures ∙ ap (λ (ns : List Count). marked_counts ns ms) (c.count_all.ensures ∙ λ i. map (count_for (c.as_slice-2.ensures.value i)) (c.as_slice.ensures i)) in
    let long : length c.as_slice-5.result.now ≡ length gs = ap (λ (ns : List Count). length ns) (c.as_slice-5.ensures.value ∙ counts_are) ∙ counts_long done gs ms in
    omega (arith, long, c.requires.can.groups_within)

pub raised_left-self-inside-requires : goal.raised_left-self-inside-requires
raised_left-self-inside-requires c =
    let a = c.self.inside in
    let can : CanAdd (graph_of a) c.args.depend c.args.groups = subst (λ (g : GraphLists). CanAdd g c.args.depend c.args.groups) (sym c.self.view_is) c.requires.can in
    omega (arith, c.len.ensures, c.self.invariant.tally.sums.left_kept, there_left a.tally.depends.items c.self.invariant.tally.depends, can.groups_within)

pub link-requires-clause-listed : goal.link-requires-clause-listed
link-requires-clause-listed c =
    let a = c.self.inside in
    let done = a.done.items in
    let ds = c.make_room.new.depends.items in
    let gs = c.args.groups in
    let ms = c.args.marks.now in
    let edges = c.spare.inside.edges.items in
    let aims : map aim_of edges ≡ aims_from 0 gs = ap (λ (s : SpareLists). s.aims) c.spare.view_is ∙ aims_reserved c.args.spare gs c.requires.reserved in
    let can : CanAdd (graph_of a) c.args.depend gs = subst (λ (g : GraphLists). CanAdd g c.args.depend gs) (sym c.self.view_is) c.requires.can in
    let can_there : CanAdd (record { done = done; depends = watches (there_of ds) }) c.args.depend gs =
    subst (λ (ws : List Watch). CanAdd (record { done = done; depends = ws }) c.args.depend gs) (sym c.make_room.ensures.watches) can in
    let sums = c.make_room.ensures.sums a.tally.unmet.items a.tally.left c.self.invariant.tally.sums in
    let one = added done c.args.depend gs ms edges aims c.spare.invariant in
    let counts_are : c.mark_all.new.counts.items ≡ marked_counts (map (count_for done) gs) ms = c.mark_all.ensures ∙ ap (λ (ns : List Count). marked_counts ns ms) (c.count_all.ensures ∙ λ i. map (count_for (c.as_slice-2.ensures.value i)) (c.as_slice.ensures i)) in
    let unmet_is : c.unmet_among-unmet.result ≡ count_by is_unmet (marked_counts (map (count_for done) gs) ms) = c.unmet_among-unmet.ensures ∙ ap (count_by is_unmet) (c.as_slice-5.ensures.value ∙ counts_are) in
    let depends_are : c.push_reserved.new.self.items ≡ ds ++ one ∷ [] =
    c.push_reserved.ensures.items ∙ (ap (λ (x : ListedLists). ds ++ x ∷ []) c.new.ensures ∙ λ i. ds ++ record { depend = c.args.depend; groups = gs; counts = counts_are i; edges = edges; unmet = unmet_is i; gone = false } ∷ []) in
    (subst KeepsDepends (sym depends_are) (push_depends done c.args.depend gs ms edges aims c.spare.invariant ds a.tally.unmet.items a.tally.left c.make_room.ensures.depends sums done can_there c.make_room.ensures.room)).listed

pub link-requires-clause-ways : goal.link-requires-clause-ways
link-requires-clause-ways c =
    let a = c.self.inside in
    let done = a.done.items in
    let ds = c.make_room.new.depends.items in
    let gs = c.args.groups in
    let ms = c.args.marks.now in
    let edges = c.spare.inside.edges.items in
    let aims : map aim_of edges ≡ aims_from 0 gs = ap (λ (s : SpareLists). s.aims) c.spare.view_is ∙ aims_reserved c.args.spare gs c.requires.reserved in
    let one = added done c.args.depend gs ms edges aims c.spare.invariant in
    let counts_are : c.mark_all.new.counts.items ≡ marked_counts (map (count_for done) gs) ms = c.mark_all.ensures ∙ ap (λ (ns : List Count). marked_counts ns ms) (c.count_all.ensures ∙ λ i. map (count_for (c.as_slice-2.ensures.value i)) (c.as_slice.ensures i)) in
    let unmet_is : c.unmet_among-unmet.result ≡ count_by is_unmet (marked_counts (map (count_for done) gs) ms) = c.unmet_among-unmet.ensures ∙ ap (count_by is_unmet) (c.as_slice-5.ensures.value ∙ counts_are) in
    let depends_are : c.push_reserved.new.self.items ≡ ds ++ one ∷ [] =
    c.push_reserved.ensures.items ∙ (ap (λ (x : ListedLists). ds ++ x ∷ []) c.new.ensures ∙ λ i. ds ++ record { depend = c.args.depend; groups = gs; counts = counts_are i; edges = edges; unmet = unmet_is i; gone = false } ∷ []) in
    let count : length ds ≡ c.len-place.result = search (rules, arith) in
    subst (λ (xs : List ListedLists). KeepsWaysOf (is_ahead_of c.len-place.result 0) c.make_room.new.first.items (edge_lists xs)) (sym depends_are)
    (subst (λ (ls : List (List Edge)). KeepsWaysOf (is_ahead_of c.len-place.result 0) c.make_room.new.first.items ls) (sym (edge_lists_push ds one))
    (begin_ahead c.make_room.new.first.items (edge_lists ds) edges c.len-place.result (edge_lists_long ds ∙ count) c.make_room.ensures.ways))

pub invariant_of-self : goal.invariant_of-self
invariant_of-self c =
    let a = c.self.inside in
    let kept = c.self.invariant in
    let done = a.done.items in
    let ds = c.make_room.new.depends.items in
    let pushed = c.push_reserved.new.self.items in
    let news = c.link.new.depends.items in
    let gs = c.args.groups in
    let ms = c.args.marks.now in
    let edges = c.spare.inside.edges.items in
    let within = c.spare.invariant in
    let aims : map aim_of edges ≡ aims_from 0 gs = ap (λ (s : SpareLists). s.aims) c.spare.view_is ∙ aims_reserved c.args.spare gs c.requires.reserved in
    let can : CanAdd (graph_of a) c.args.depend gs = subst (λ (g : GraphLists). CanAdd g c.args.depend gs) (sym c.self.view_is) c.requires.can in
    let can_there : CanAdd (record { done = done; depends = watches (there_of ds) }) c.args.depend gs =
    subst (λ (ws : List Watch). CanAdd (record { done = done; depends = ws }) c.args.depend gs) (sym c.make_room.ensures.watches) can in
    let before = c.make_room.ensures.depends in
    let sums = c.make_room.ensures.sums a.tally.unmet.items a.tally.left kept.tally.sums in
    let counts = c.make_room.ensures.counts done kept.counts in
    let room = c.make_room.ensures.room in
    let one = added done c.args.depend gs ms edges aims within in
    let counts_are : c.mark_all.new.counts.items ≡ marked_counts (map (count_for done) gs) ms = c.mark_all.ensures ∙ ap (λ (ns : List Count). marked_counts ns ms) (c.count_all.ensures ∙ λ i. map (count_for (c.as_slice-2.ensures.value i)) (c.as_slice.ensures i)) in
    let unmet_is : c.unmet_among-unmet.result ≡ count_by is_unmet (marked_counts (map (count_for done) gs) ms) = c.unmet_among-unmet.ensures ∙ ap (count_by is_unmet) (c.as_slice-5.ensures.value ∙ counts_are) in
    let depends_are : pushed ≡ ds ++ one ∷ [] =
    c.push_reserved.ensures.items ∙ (ap (λ (x : ListedLists). ds ++ x ∷ []) c.new.ensures ∙ λ i. ds ++ record { depend = c.args.depend; groups = gs; counts = counts_are i; edges = edges; unmet = unmet_is i; gone = false } ∷ []) in
    let held_are : c.hold_all.new.unmet.items ≡ held_in a.tally.unmet.items gs (marked_counts (map (count_for done) gs) ms) = c.hold_all.ensures ∙ λ i. held_in a.tally.unmet.items (c.as_slice-3.ensures i) ((c.as_slice-4.ensures.value ∙ counts_are) i) in
    let left_is : c.raised_left-self-inside.result ≡ cond (eqb (count_by is_unmet (marked_counts (map (count_for done) gs) ms)) 0) a.tally.left (a.tally.left + length gs) =
    c.raised_left-self-inside.ensures ∙ λ i. cond (eqb (unmet_is i) 0) a.tally.left (a.tally.left + c.len.ensures i) in
    let count : length ds ≡ c.len-place.result = search (rules, arith) in
    let long : length (edge_lists news) ≡ length ds + 1 = omega (arith, edge_lists_long news, length_bare pushed news c.link.ensures.bare, ap (λ (xs : List ListedLists). length xs) depends_are, length-append ds (one ∷ [])) in
    record {
      tally =
          record {
            depends = depends_bare pushed news c.link.ensures.bare (subst KeepsDepends (sym depends_are) (push_depends done c.args.depend gs ms edges aims within ds a.tally.unmet.items a.tally.left before sums done can_there room));
            sums =
                sums_bare pushed news c.link.ensures.bare c.hold_all.new.unmet.items c.raised_left-self-inside.result
                (subst (λ (us : List ℕ). KeepsSums us c.raised_left-self-inside.result pushed) (sym held_are)
                (subst (λ (n : ℕ). KeepsSums (held_in a.tally.unmet.items gs (marked_counts (map (count_for done) gs) ms)) n pushed) (sym left_is)
                (subst (λ (xs : List ListedLists). KeepsSums (held_in a.tally.unmet.items gs (marked_counts (map (count_for done) gs) ms)) (cond (eqb (count_by is_unmet (marked_counts (map (count_for done) gs) ms)) 0) a.tally.left (a.tally.left + length gs)) xs) (sym depends_are)
                (push_sums done c.args.depend gs ms edges aims within ds a.tally.unmet.items a.tally.left before sums done can_there room))));
            room = omega (arith, kept.tally.room, c.make_room.ensures.capacity, c.push_reserved.ensures.capacity, c.link.ensures.capacity);
          };
      counts =
          counts_bare pushed news c.link.ensures.bare done
          (λ p d at. push_counts done c.args.depend gs ms edges aims within ds a.tally.unmet.items a.tally.left before sums done can_there room counts p d (ap (λ (xs : List ListedLists). slice_get xs p) (sym depends_are) ∙ at));
      ways = all_places c.link.new.first.items (edge_lists news) (c.len-place.result + 1) (omega (arith, long, count)) c.link.ensures.ways;
      done_counted = kept.done_counted;
      first_counted = c.link.ensures.first;
    }

pub returns : goal.returns
returns c =
    let a = c.self.inside in
    let done = a.done.items in
    let ds = c.make_room.new.depends.items in
    let pushed = c.push_reserved.new.self.items in
    let gs = c.args.groups in
    let ms = c.args.marks.now in
    let edges = c.spare.inside.edges.items in
    let aims : map aim_of edges ≡ aims_from 0 gs = ap (λ (s : SpareLists). s.aims) c.spare.view_is ∙ aims_reserved c.args.spare gs c.requires.reserved in
    let one = added done c.args.depend gs ms edges aims c.spare.invariant in
    let counts_are : c.mark_all.new.counts.items ≡ marked_counts (map (count_for done) gs) ms = c.mark_all.ensures ∙ ap (λ (ns : List Count). marked_counts ns ms) (c.count_all.ensures ∙ λ i. map (count_for (c.as_slice-2.ensures.value i)) (c.as_slice.ensures i)) in
    let unmet_is : c.unmet_among-unmet.result ≡ count_by is_unmet (marked_counts (map (count_for done) gs) ms) = c.unmet_among-unmet.ensures ∙ ap (count_by is_unmet) (c.as_slice-5.ensures.value ∙ counts_are) in
    let depends_are : pushed ≡ ds ++ one ∷ [] =
    c.push_reserved.ensures.items ∙ (ap (λ (x : ListedLists). ds ++ x ∷ []) c.new.ensures ∙ λ i. ds ++ record { depend = c.args.depend; groups = gs; counts = counts_are i; edges = edges; unmet = unmet_is i; gone = false } ∷ []) in
    let watched_are : watches (there_of c.link.new.depends.items) ≡ watches (there_of a.tally.depends.items) ++ marked_watch done c.args.depend gs ms ∷ [] =
    there_bare pushed c.link.new.depends.items c.link.ensures.bare
    ∙ (ap (λ (xs : List ListedLists). watches (there_of xs)) depends_are
    ∙ (there_push ds one refl ∙ λ i. c.make_room.ensures.watches i ++ added_watch done c.args.depend gs ms edges aims c.spare.invariant i ∷ [])) in
    (λ i. record { done = done; depends = watched_are i }) ∙ ap (λ (g : GraphLists). with_marked g c.args.depend gs ms) c.self.view_is
