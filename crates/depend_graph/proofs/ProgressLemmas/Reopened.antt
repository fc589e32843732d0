-- The way goes on from an edge, and the target's group lacks one more.
use Rattle.std.proofs.Common.{◌≡◌, ◌<◌, ℕ, ◌+◌, ◌-◌, ◌^◌, Bool, true, false, not, List, length, Option, Some, None, refl, sym, ap, subst, ◌∙◌, ◌⊎◌, inl, inr, arith}
use Rattle.std.specs.List.{slice_get, slice_set}
use Rattle.std.proofs.lemmas.Option.{slice_get_within}
use Rattle.farm_types.specs.Farm.{changed_at}
use Rattle.farm_types.proofs.ChangedLists.{map-changed_at_kept}
use Rattle.depend_edges.specs.Counts.{more, raised}
use Rattle.depend_edges.specs.Listed.{AllListed, ListedLists, is_enough}
use Rattle.depend_edges.specs.Places.{IsEdgeAt}
use Rattle.depend_edges.specs.Ways.{IsEdge, IsEdgeOf, IsLast, KeepsNext, edge_lists, is_ahead_of, is_any}
use Rattle.depend_edges.specs.declared.links.Edge.{Edge}
use Rattle.depend_edges.specs.declared.links.EdgeAt.{EdgeAt}
use Rattle.depend_edges.specs.declared.listed.Count.{Count}
use Rattle.depend_edges.proofs.EdgeLists.{edge_found}
use Rattle.depend_edges.proofs.Targets.{enough_fewer}
use Rattle.depend_graph.specs.Graph.{is_flagged}
use Rattle.depend_graph.specs.Inside.{KeepsDepends}
use Rattle.depend_graph.specs.Kept.{Still, still_of}
use Rattle.depend_graph.specs.Passing.{CountsPending, IsReopening, MeetsAll, count_from, is_pending, same}
use Rattle.depend_graph.specs.Watches.{AllCounted}
use Rattle.depend_graph.proofs.CountFrom.{count_from-within}
use Rattle.depend_graph.proofs.ProgressLemmas.Finished.{flag_other, flag_set, length_still, pending_is, start_counts}
use Rattle.depend_graph.proofs.ProgressLemmas.FlowKept.{recount_each, watches_same}
use Rattle.depend_graph.proofs.ProgressLemmas.OnWay.{counts_on, edge_standing, listed_before, of_slot, there_before}
use Rattle.depend_graph.proofs.ProgressLemmas.Pending.{pending_rises}
use Rattle.depend_graph.proofs.ProgressLemmas.Recounted.{IsElsewhere, IsHere, recounted}
use Rattle.depend_graph.proofs.ProgressLemmas.Steps.{steps_fall, steps_left}
use Rattle.depend_graph.proofs.ProgressLemmas.Still.{still_differ, still_empty, there_counted, there_still}

-- ---- the beginning

pub start_reopening : (done : List Bool) (slot : ℕ) (olds : List ListedLists) (first : Option EdgeAt) → IsLast (edge_lists olds) slot is_any first → is_flagged done slot ≡ true → AllListed olds → AllCounted done olds
    → IsReopening done slot olds first olds
start_reopening done slot olds first last flagged listed counted =
    record {
      structure = refl;
      watches_same = refl;
      listed = listed;
      counts = start_counts done slot olds first last same true refl flagged counted;
      meets = λ p k d g c at at_group at_count enough. (counted p d at).met_kept k g c at_group at_count enough;
      on_way = last.one;
    }

-- ---- a step

module _ (done : List Bool) (slot : ℕ) (olds news : List ListedLists) (o : Option EdgeAt) (a : EdgeAt) (at_o : IsReopening done slot olds o news) (is : o ≡ Some a) where
  at_a : IsReopening done slot olds (Some a) news
  at_a = subst (λ (w : Option EdgeAt). IsReopening done slot olds w news) is at_o

  pub standing : IsEdgeAt news a
  standing = edge_standing olds news at_o.structure at_o.listed slot a (at_a.on_way a refl)

  module _ (next : KeepsNext (edge_lists olds)) where
    module _ (d : ListedLists) (x : Edge) (at : slice_get news a.depend ≡ Some d) (at_edge : slice_get d.edges a.edge ≡ Some x) where
      on_way : IsEdgeOf (edge_lists olds) slot a
      on_way = at_a.on_way a refl

      there : IsEdge (edge_lists olds) a.depend a.edge x
      there = there_before slot olds news at_o.structure a on_way d x at at_edge

      on : x.slot ≡ slot
      on = of_slot slot olds news at_o.structure a on_way d x at at_edge

      goes_on : IsLast (edge_lists olds) slot (is_ahead_of a.depend a.edge) x.next
      goes_on = subst (λ (s : ℕ). IsLast (edge_lists olds) s (is_ahead_of a.depend a.edge) x.next) on (next a.depend a.edge x there)

      module _ (c : Count) (at_count : slice_get d.counts x.group ≡ Some c) where
        rises : c.undone + 1 ≡ count_from (is_pending same done slot x.next x.group a.depend) 0 d.edges
        rises = omega (arith, at_a.counts a.depend x.group d c at at_count, pending_rises same done (edge_lists olds) slot a x there on x.next goes_on d.edges (listed_before slot olds news at_o.structure a on_way d x at at_edge) refl refl)

        -- the count can be raised
        pub raised_fits : c.undone < 2 ^ 32 - 1
        raised_fits = omega (arith, rises, count_from-within (is_pending same done slot x.next x.group a.depend) 0 d.edges, (at_o.listed a.depend d at).edges_within)

        case : (p m : ℕ) (e : ListedLists) (n : Count) → slice_get (changed_at news a.depend (raised x.group)) p ≡ Some e → slice_get e.counts m ≡ Some n
            → (IsHere a.depend x.group p m d e c n more) ⊎ (IsElsewhere news a.depend x.group p m e n)
        case p m e n at_e at_n = recounted news a.depend x.group d c (raised x.group) more at at_count refl refl p m e n at_e at_n

        raised_counts : CountsPending same done slot x.next (changed_at news a.depend (raised x.group))
        raised_counts p m e n at_e at_n = counts_on slot olds news at_o.structure a on_way d x at at_edge same done at_a.counts goes_on c more rises p m e n (case p m e n at_e at_n)

        raised_meets : MeetsAll (changed_at news a.depend (raised x.group))
        raised_meets p m e y n at_e at_y at_n enough = by_case (case p m e n at_e at_n) where
          by_case : (IsHere a.depend x.group p m d e c n more) ⊎ (IsElsewhere news a.depend x.group p m e n) → n.met ≡ true
          by_case (inl here) =
              let grown : is_enough y (c.undone + 1) ≡ true = ap (λ (z : Count). is_enough y z.undone) (sym here.count_is) ∙ enough in
              let at_group : slice_get d.groups x.group ≡ Some y = ap (λ (s : Still). slice_get s.groups x.group) here.still ∙ (ap (slice_get e.groups) (sym here.group) ∙ at_y) in
              ap (λ (z : Count). z.met) here.count_is ∙ at_o.meets a.depend x.group d y c at at_group at_count (enough_fewer y c.undone (c.undone + 1) (omega arith) grown)
          by_case (inr other) = at_o.meets p m other.was y n other.was_there (ap (λ (s : Still). slice_get s.groups m) other.still ∙ at_y) other.count_there enough

        raised_passing : IsReopening done slot olds x.next (changed_at news a.depend (raised x.group))
        raised_passing =
            record {
              structure = map-changed_at_kept still_of (raised x.group) (λ y. refl) news a.depend ∙ at_o.structure;
              watches_same = watches_same more (λ y. refl) news a.depend x.group ∙ at_o.watches_same;
              listed = recount_each more (λ y. refl) news a.depend x.group at_o.listed;
              counts = raised_counts;
              meets = raised_meets;
              on_way = goes_on.one;
            }

    -- ---- as the call tells it

    module _ (result : Option EdgeAt) (next_is : (d : ListedLists) (e : Edge) → slice_get news a.depend ≡ Some d → slice_get d.edges a.edge ≡ Some e → result ≡ e.next) where
      result_is : result ≡ standing.edge.next
      result_is = next_is standing.place.listed standing.edge standing.place.listed_there standing.edge_there

      pub step_reopened : (new : List ListedLists)
          → ((d : ListedLists) (e : Edge) → slice_get news a.depend ≡ Some d → slice_get d.edges a.edge ≡ Some e → new ≡ changed_at news a.depend (raised e.group)) → IsReopening done slot olds result new
      step_reopened new new_is =
          let p = standing in
          let w = p.place in
          let all = raised_passing w.listed p.edge w.listed_there p.edge_there w.count w.count_there in
          subst (λ (r : Option EdgeAt). IsReopening done slot olds r new) (sym result_is)
          (subst (λ (ds : List ListedLists). IsReopening done slot olds p.edge.next ds) (sym (new_is w.listed p.edge w.listed_there p.edge_there)) all)

      last_there : IsLast (edge_lists olds) slot (is_ahead_of a.depend a.edge) standing.edge.next
      last_there = goes_on standing.place.listed standing.edge standing.place.listed_there standing.edge_there

      pub reopen_falls : AllListed olds → steps_left result < steps_left o
      reopen_falls listed =
          subst (λ (w : Option EdgeAt). steps_left result < steps_left w) (sym is)
          (steps_fall a result (λ n at_n. last_there.wanted_one n (sym result_is ∙ at_n))
          (λ n at_n.
          let one = last_there.one n (sym result_is ∙ at_n) in
          let d = edge_found olds n.depend n.edge one.edge one.there in
          omega (arith, slice_get_within d.0.edges n.edge one.edge d.2, (listed n.depend d.0 d.1).edges_within)))

-- ---- the end

module _ (done : List Bool) (slot : ℕ) (olds news : List ListedLists) (pass : IsReopening done slot olds None news) where
  pub reopened_counted : slot < length done → AllCounted (slice_set done slot false) news
  reopened_counted within = λ p d at.
      record {
        undone_kept = λ k c at_count.
            pass.counts p k d c at at_count
            ∙ pending_is same done (slice_set done slot false) slot None k p d.edges (λ i e at_e on. ap not (sym (ap (is_flagged (slice_set done slot false)) on ∙ flag_set done slot false within)))
            (λ e off. sym (flag_other done slot e.slot false off));
        met_kept = λ k g c at_group at_count enough. pass.meets p k d g c at at_group at_count enough;
      }

  pub reopened_depends : KeepsDepends olds → KeepsDepends news
  reopened_depends before =
      record {
        listed = pass.listed;
        gone_empty = still_empty olds news pass.structure before.gone_empty;
        numbers_differ = still_differ olds news pass.structure before.numbers_differ;
        count_within = omega (arith, there_counted olds news (there_still olds news pass.structure), before.count_within);
        places_within = omega (arith, length_still olds news pass.structure, before.places_within);
      }
