use Rattle.std.proofs.Common.{◌≡◌, ℕ, List, Some, length, sym, ap, subst, ◌∙◌, arith}
use Rattle.std.specs.List.{slice_get}
use Rattle.depend_edges.specs.Listed.{IsListed, ListedLists}
use Rattle.depend_edges.proofs.Bared.{length_bare}
use Rattle.depend_graph.specs.Inside.{KeepsDepends, KeepsSums, there_of, watches}
use Rattle.depend_graph.specs.Watches.{KeepsCounts}
use Rattle.depend_graph.proofs.ProgressLemmas.Bared.{counts_bare, depends_bare, sums_bare, there_bare}
use Rattle.depend_graph.proofs.GoingLemmas.Closed.{closed_counts, closed_depends, closed_sums, there_again, there_counts}
use Rattle.depend_graph.proofs.going.room.make_room.Goals as goal

pub link_all-requires-clause-listed : goal.link_all-requires-clause-listed
link_all-requires-clause-listed c =
    subst (λ (ds : List ListedLists). (p : ℕ) (d : ListedLists) → slice_get ds p ≡ Some d → IsListed d) (sym c.leave_out.ensures.items) (closed_depends c.args.depends.now.items c.requires.depends).listed

pub link_all-requires-clause-places : goal.link_all-requires-clause-places
link_all-requires-clause-places c =
    omega (arith, ap (λ (ds : List ListedLists). length ds) c.leave_out.ensures.items, there_counts c.args.depends.now.items, c.requires.few)

pub returns-clause-room : goal.returns-clause-room
returns-clause-room c =
    omega (
      arith,
      length_bare c.leave_out.new.depends.items c.link_all.new.depends.items c.link_all.ensures.bare,
      ap (λ (ds : List ListedLists). length ds) c.leave_out.ensures.items,
      there_counts c.args.depends.now.items,
      c.requires.few,
    )

pub returns-clause-watches : goal.returns-clause-watches
returns-clause-watches c =
    let ds = c.args.depends.now.items in
    there_bare c.leave_out.new.depends.items c.link_all.new.depends.items c.link_all.ensures.bare ∙ ap watches (ap there_of c.leave_out.ensures.items ∙ there_again ds)

pub returns-clause-depends : goal.returns-clause-depends
returns-clause-depends c =
    let ds = c.args.depends.now.items in
    depends_bare c.leave_out.new.depends.items c.link_all.new.depends.items c.link_all.ensures.bare (subst KeepsDepends (sym c.leave_out.ensures.items) (closed_depends ds c.requires.depends))

pub returns-clause-sums : goal.returns-clause-sums
returns-clause-sums c = λ unmet left sums.
    let ds = c.args.depends.now.items in
    sums_bare c.leave_out.new.depends.items c.link_all.new.depends.items c.link_all.ensures.bare unmet left (subst (KeepsSums unmet left) (sym c.leave_out.ensures.items) (closed_sums ds c.requires.depends unmet left sums))

pub returns-clause-counts : goal.returns-clause-counts
returns-clause-counts c = λ done counts.
    let ds = c.args.depends.now.items in
    counts_bare c.leave_out.new.depends.items c.link_all.new.depends.items c.link_all.ensures.bare done
    (subst (λ (xs : List ListedLists). (p : ℕ) (d : ListedLists) → slice_get xs p ≡ Some d → KeepsCounts done d) (sym c.leave_out.ensures.items) (closed_counts ds c.requires.depends done counts))
