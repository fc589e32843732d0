use Rattle.std.proofs.Common.{◌≡◌, ◌≤◌, ◌*◌, ◌-◌, ℕ, List, true, not, Some, cond, eqb, length, sym, ap, subst, ◌∙◌}
use Rattle.std.specs.Prelude.{◌&&◌}
use Rattle.std.specs.List.{filter, slice_get}
use Rattle.farm_types.specs.declared.limits.TheConstants.{MOST_DEPENDS}
use Rattle.farm_types.specs.Farm.{changed_at}
use Rattle.farm_types.proofs.Lists.{slice_get_below}
use Rattle.depend_edges.specs.Bare.{Bare}
use Rattle.depend_edges.specs.Listed.{ListedLists, emptied, has_number}
use Rattle.depend_edges.specs.Ways.{KeepsWays, KeepsWaysOf, edge_lists, is_outside}
use Rattle.depend_edges.proofs.Standing.{long_there, there_same}
use Rattle.depend_edges.proofs.Wanted.{emptied_ways}
use Rattle.depend_graph.specs.Added.{released_in}
use Rattle.depend_graph.specs.Graph.{is_not_named}
use Rattle.depend_graph.specs.Inside.{KeepsDepends, KeepsSums, there_of, watches}
use Rattle.depend_graph.specs.Watches.{KeepsCounts}
use Rattle.depend_graph.proofs.ProgressLemmas.Bared.{counts_bare, depends_bare, sums_bare, there_bare}
use Rattle.depend_graph.proofs.GoingLemmas.Forgotten.{forgotten_counts, forgotten_depends, forgotten_sums, forgotten_watches}
use Rattle.depend_graph.proofs.tally.Tally.forget_at.Goals as goal

pub release_at-requires-clause-counted : goal.release_at-requires-clause-counted
release_at-requires-clause-counted c = λ d at. (c.requires.kept.depends.listed c.args.place d (ap (λ (ds : List ListedLists). slice_get ds c.args.place) (sym c.as_slice.ensures.value) ∙ at)).counted

pub left_without-self-requires-clause-within : goal.left_without-self-requires-clause-within
left_without-self-requires-clause-within c = λ d at. (c.requires.kept.depends.listed c.args.place d (ap (λ (ds : List ListedLists). slice_get ds c.args.place) (sym c.as_slice-2.ensures.value) ∙ at)).groups_within

pub returns-clause-watches : goal.returns-clause-watches
returns-clause-watches c = λ depend d at named.
    let olds = c.args.self.now.depends.items in
    let mids = c.unlink.new.depends.items in
    let x = there_same olds mids c.unlink.ensures.bare c.args.place d at in
    let named_too : has_number depend x.0 ≡ true = ap (λ (b : Bare). not b.gone && eqb b.depend depend) x.2 ∙ named in
    ap (λ (ds : List ListedLists). watches (there_of ds)) c.empty_at.ensures.depends
    ∙ (forgotten_watches mids (depends_bare olds mids c.unlink.ensures.bare c.requires.kept.depends) c.args.place x.0 x.1 depend named_too
    ∙ ap (filter (is_not_named depend)) (there_bare olds mids c.unlink.ensures.bare))

pub returns-clause-kept : goal.returns-clause-kept
returns-clause-kept c =
    let olds = c.args.self.now.depends.items in
    let mids = c.unlink.new.depends.items in
    let place = c.args.place in
    let d = slice_get_below olds place c.requires.there in
    let x = there_same olds mids c.unlink.ensures.bare place d.0 d.1 in
    let kept = depends_bare olds mids c.unlink.ensures.bare c.requires.kept.depends in
    let unmet = c.args.self.now.unmet.items in
    let left = c.args.self.now.left in
    let sums = sums_bare olds mids c.unlink.ensures.bare unmet left c.requires.kept.sums in
    let all : KeepsSums (released_in unmet x.0.groups x.0.counts) (cond (eqb x.0.unmet 0) left (left - length x.0.groups)) (changed_at mids place emptied) = forgotten_sums mids kept place x.0 x.1 unmet left sums in
    let unmet_is : c.release_at.new.unmet.items ≡ released_in unmet x.0.groups x.0.counts =
    c.release_at.ensures d.0 (ap (λ (ds : List ListedLists). slice_get ds place) c.as_slice.ensures.value ∙ d.1) ∙ ap (λ (b : Bare). released_in unmet b.groups b.counts) (sym x.2) in
    let left_is : c.left_without-self.result ≡ cond (eqb x.0.unmet 0) left (left - length x.0.groups) =
    c.left_without-self.ensures d.0 (ap (λ (ds : List ListedLists). slice_get ds place) c.as_slice-2.ensures.value ∙ d.1) ∙ ap (λ (b : Bare). cond (eqb b.unmet 0) left (left - length b.groups)) (sym x.2) in
    record {
      depends = subst KeepsDepends (sym c.empty_at.ensures.depends) (forgotten_depends mids kept place x.0 x.1);
      sums =
          subst (λ (us : List ℕ). KeepsSums us c.left_without-self.result c.empty_at.new.depends.items) (sym unmet_is)
          (subst (λ (n : ℕ). KeepsSums (released_in unmet x.0.groups x.0.counts) n c.empty_at.new.depends.items) (sym left_is)
          (subst (KeepsSums (released_in unmet x.0.groups x.0.counts) (cond (eqb x.0.unmet 0) left (left - length x.0.groups))) (sym c.empty_at.ensures.depends) all));
      room = subst (λ (n : ℕ). 2 * MOST_DEPENDS ≤ n) (sym (c.empty_at.ensures.capacity ∙ c.unlink.ensures.capacity)) c.requires.kept.room;
    }

pub returns-clause-counts : goal.returns-clause-counts
returns-clause-counts c = λ done counts.
    let olds = c.args.self.now.depends.items in
    let mids = c.unlink.new.depends.items in
    let d = slice_get_below olds c.args.place c.requires.there in
    let x = there_same olds mids c.unlink.ensures.bare c.args.place d.0 d.1 in
    subst (λ (ds : List ListedLists). (p : ℕ) (e : ListedLists) → slice_get ds p ≡ Some e → KeepsCounts done e) (sym c.empty_at.ensures.depends)
    (forgotten_counts mids (depends_bare olds mids c.unlink.ensures.bare c.requires.kept.depends) c.args.place x.0 x.1 done (counts_bare olds mids c.unlink.ensures.bare done counts))

pub returns-clause-ways : goal.returns-clause-ways
returns-clause-ways c =
    let olds = c.args.self.now.depends.items in
    let mids = c.unlink.new.depends.items in
    let place = c.args.place in
    let d = slice_get_below olds place c.requires.there in
    let long = long_there olds mids c.unlink.ensures.bare place d.0 d.1 in
    let ways = subst (λ (n : ℕ). KeepsWaysOf (is_outside place n) c.unlink.new.first.items (edge_lists mids)) (sym long.2) (c.unlink.ensures.ways d.0 d.1) in
    subst (λ (ds : List ListedLists). KeepsWays c.unlink.new.first.items (edge_lists ds)) (sym c.empty_at.ensures.depends) (emptied_ways c.unlink.new.first.items mids place long.0 long.1 ways)
