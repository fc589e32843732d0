-- A trial on its way along the edges of a slot, and from one frame that would be done to the next.
use Rattle.std.proofs.Common.{◌≡◌, ◌<◌, ◌≤◌, ℕ, ◌-◌, Bool, true, false, List, [], ◌∷◌, map, length, Option, Some, None, refl, sym, ap, subst, ◌∙◌, arith}
use Rattle.std.specs.Prelude.{nat_eq, ◌||◌}
use Rattle.std.specs.List.{slice_get, slice_set, count_by, AllByRecursion, IsDistinct}
use Rattle.std.proofs.Math.ListN.{length-set}
use Rattle.std.proofs.lemmas.Bool.{eq-eqb, false≢true}
use Rattle.std.proofs.lemmas.Option.{same_Some, slice_get_within}
use Rattle.farm_types.specs.declared.limits.TheConstants.{SLOT_LIMIT}
use Rattle.farm_types.specs.Sums.{total_at}
use Rattle.farm_types.proofs.Lists.{slice_get_below}
use Rattle.depend_edges.specs.Counts.{becomes_due}
use Rattle.depend_edges.specs.Listed.{AllListed, ListedLists, is_enough}
use Rattle.depend_edges.specs.Places.{AtEdge, AtTarget, IsEdgeAt}
use Rattle.depend_edges.specs.Ways.{IsLast, KeepsNext, edge_lists, is_any}
use Rattle.depend_edges.specs.declared.links.Edge.{Edge}
use Rattle.depend_edges.specs.declared.links.EdgeAt.{EdgeAt}
use Rattle.depend_edges.specs.declared.listed.Count.{Count}
use Rattle.depend_graph.specs.Flow.{flow_of, passed_flow}
use Rattle.depend_graph.specs.Graph.{GraphLists, HasMet, Watch, completed_in, is_flagged, nothing_opened, unmet_of, was_met, was_satisfied, with_done}
use Rattle.depend_graph.specs.Inside.{KeepsDepends, KeepsSums, watches}
use Rattle.depend_graph.specs.Kept.{Still, still_of}
use Rattle.depend_graph.specs.Trial.{IsFollowing, IsHit, IsLaid, IsMetWhere, IsTried, IsUnderWay, MetLists, count_or, is_at, key_of, marks_told, nothing_laid, nothing_met}
use Rattle.depend_graph.specs.Watches.{AllCounted}
use Rattle.depend_graph.proofs.ProgressLemmas.Finished.{completed_all, depends_kept, end_counted, flag_other, start_passing}
use Rattle.depend_graph.proofs.GoingLemmas.Gone.{few_left}
use Rattle.depend_graph.proofs.ProgressLemmas.Still.{edge_lists-still, still_at}
use Rattle.depend_graph.proofs.TrialLemmas.Telling.{start_tells, tells_step}
use Rattle.depend_graph.proofs.TrialLemmas.Tried.{step_agrees}
use Rattle.depend_graph.proofs.ProgressLemmas.Unchanged.{done_already, flag_past}
use Rattle.depend_graph.proofs.ProgressLemmas.Walked.{place_there, way_passed}

module _ (olds : List ListedLists) (unmet : List ℕ) where
  -- ---- the beginning

  pub start_following : (over : ℕ → Option ℕ) (xs : List ℕ) (m : MetLists) (g : GraphLists) (slot : ℕ) (first : Option EdgeAt) (t : IsTried olds unmet over xs m g) → is_flagged g.done slot ≡ false
      → IsLast (edge_lists olds) slot is_any first → IsFollowing olds unmet g.done slot t.news first over xs m
  start_following over xs m g slot first t undone last =
      record {
        flow = flow_of t.news t.unmet_then t.left_then nothing_opened;
        passing =
            start_passing g.done slot t.news first (subst (λ (ls : List (List Edge)). IsLast ls slot is_any first) (sym (edge_lists-still olds t.news t.structure)) last) t.unmet_then t.left_then undone
            t.depends.listed (few_left t.news t.depends) t.sums t.counts;
        agrees = t.agrees;
        tells = t.tells;
      }

  -- ---- one edge

  module _ (over laid : ℕ → Option ℕ) (xs ys : List ℕ) (m l : MetLists) (done : List Bool) (slot : ℕ) (news : List ListedLists) (structure : map still_of news ≡ map still_of olds) (o : Option EdgeAt) (a : EdgeAt)
      (following : IsFollowing olds unmet done slot news o over xs m) (is : o ≡ Some a)
    where
      same : map still_of following.flow.depends ≡ map still_of olds
      same = following.passing.flow.structure ∙ structure

      abbrev place : IsEdgeAt following.flow.depends a
      place = place_there done slot news o a following.flow following.passing is

      pub step_following : slot < length done → AllListed olds
          → KeepsNext (edge_lists olds) → (result : Option EdgeAt)
          → AtEdge olds a (λ d e. result ≡ e.next) → AtTarget olds a (λ d e g c. IsHit (key_of a.depend e.group) g c over laid xs ys)
          → AtTarget olds a (λ d e g c. IsMetWhere (becomes_due g c (count_or c.undone (over (key_of a.depend e.group)))) a.depend d g m l)
          → IsFollowing olds unmet done slot news result laid ys l
      step_following within listed next result next_is hit met =
          let w = place.place in
          let x = place.edge in
          let old = still_at olds following.flow.depends same a.depend w.listed w.listed_there in
          let edge_there : slice_get old.0.edges a.edge ≡ Some x = ap (λ (s : Still). slice_get s.edges a.edge) old.2 ∙ place.edge_there in
          let group_there : slice_get old.0.groups x.group ≡ Some w.one = ap (λ (s : Still). slice_get s.groups x.group) old.2 ∙ w.group_there in
          let c = slice_get_below old.0.counts x.group (omega (arith, slice_get_within old.0.groups x.group w.one group_there, (listed a.depend old.0 old.1).counted)) in
          let lists = edge_lists-still olds news structure in
          let passing =
          way_passed done slot news o a following.flow following.passing is
          (subst (λ (ls : List (List Edge)). KeepsNext ls) (sym lists) next) result
          (λ d e at at_edge.
          let was = still_at olds following.flow.depends same a.depend d at in
          next_is was.0 e was.1 (ap (λ (s : Still). slice_get s.edges a.edge) was.2 ∙ at_edge))
          within
          in
          record {
            flow = passed_flow a.depend x.group w.listed w.one w.count following.flow;
            passing = passing;
            agrees =
                step_agrees olds unmet over laid xs ys following.flow following.agrees listed same a.depend x.group old.0 w.listed w.one c.0 w.count old.1 w.listed_there group_there c.1 w.count_there
                (hit old.0 x old.1 edge_there w.one c.0 group_there c.1);
            tells =
                tells_step olds listed following.flow following.passing.flow.listed m l (over (key_of a.depend x.group)) a.depend x.group old.0 w.listed w.one c.0 w.count old.1 w.listed_there group_there c.1
                w.group_there w.count_there (following.agrees.counts a.depend x.group old.0 w.listed w.one c.0 w.count old.1 w.listed_there group_there c.1 w.count_there)
                (met old.0 x old.1 edge_there w.one c.0 group_there c.1) following.tells;
          }

  -- ---- the end

  pub end_following : (over laid : ℕ → Option ℕ) (xs ys : List ℕ) (m l : MetLists) (g : GraphLists) (slot : ℕ) (t : IsTried olds unmet over xs m g) → IsFollowing olds unmet g.done slot t.news None laid ys l
      → slot < length g.done → IsTried olds unmet laid ys l (with_done g slot true)
  end_following over laid xs ys m l g slot t following within =
      let f = following.flow in
      let pass = following.passing in
      record {
        news = f.depends;
        unmet_then = f.unmet;
        left_then = f.left;
        depends_are = completed_all g.done slot t.news f pass within t.depends.listed ∙ ap (map (completed_in (slice_set g.done slot true) slot)) t.depends_are;
        structure = pass.flow.structure ∙ t.structure;
        depends = depends_kept t.news f pass.flow t.depends;
        sums = pass.flow.sums;
        counts = end_counted g.done slot t.news f pass within t.depends.listed;
        done_counted = length-set g.done slot true ∙ t.done_counted;
        agrees = following.agrees;
        tells = following.tells;
      }

  -- ---- a slot that isn't there

  pub tried_past : (over : ℕ → Option ℕ) (xs : List ℕ) (m : MetLists) (g : GraphLists) (slot : ℕ) → IsTried olds unmet over xs m g → SLOT_LIMIT ≤ slot → IsTried olds unmet over xs m (with_done g slot true)
  tried_past over xs m g slot t past =
      let stays : slice_set g.done slot true ≡ g.done = flag_past g.done slot true (omega (arith, t.done_counted, past)) in
      let same : g ≡ with_done g slot true =
      (λ i. record { done = g.done; depends = sym t.depends_are i })
      ∙ (done_already g.done slot t.news t.depends.listed t.counts true stays ∙ λ i. with_done (record { done = g.done; depends = t.depends_are i }) slot true)
      in
      subst (λ (h : GraphLists). IsTried olds unmet over xs m h) same t

  -- ---- nothing laid over the counts

  pub tried_alike : (over laid : ℕ → Option ℕ) (xs ys : List ℕ) (m l : MetLists) (g : GraphLists) → ((key : ℕ) → laid key ≡ over key) → ys ≡ xs → l ≡ m → IsTried olds unmet over xs m g → IsTried olds unmet laid ys l g
  tried_alike over laid xs ys m l g alike same told t =
      subst (λ (x : MetLists). IsTried olds unmet laid ys x g) (sym told)
      (subst (λ (h : ℕ → Option ℕ). IsTried olds unmet h ys m g) (λ i key. sym (alike key) i) (subst (λ (zs : List ℕ). IsTried olds unmet over zs m g) (sym same) t))

  -- ---- from frame to frame

  apart_undone : (done : List Bool) (slot : ℕ) (slots : List ℕ) → AllByRecursion (λ y. nat_eq slot y ≡ false) slots → AllByRecursion (λ s. is_flagged done s ≡ false) slots
      → AllByRecursion (λ s. is_flagged (slice_set done slot true) s ≡ false) slots
  apart_undone done slot [] apart undone = undone
  apart_undone done slot (s ∷ ss) apart undone =
      (flag_other done slot s true (λ same. false≢true (sym apart.0 ∙ eq-eqb slot s (sym same))) ∙ undone.0, apart_undone done slot ss apart.1 undone.1)

  pub step_under_way : (over laid : ℕ → Option ℕ) (xs ys : List ℕ) (m l : MetLists) (slot : ℕ) (slots : List ℕ) (last : GraphLists) → IsUnderWay olds unmet over xs m (slot ∷ slots) last
      → ((g : GraphLists) → is_flagged g.done slot ≡ false → IsTried olds unmet over xs m g → IsTried olds unmet laid ys l (with_done g slot true))
      → IsUnderWay olds unmet laid ys l slots last
  unfolding IsDistinct
  step_under_way over laid xs ys m l slot slots last way done_too =
      record {
        graph = with_done way.graph slot true;
        tried = done_too way.graph way.undone.0 way.tried;
        leads = way.leads;
        undone = apart_undone way.graph.done slot slots way.differ.0 way.undone.1;
        differ = way.differ.1;
      }

  pub end_under_way : (over : ℕ → Option ℕ) (xs : List ℕ) (m : MetLists) (last : GraphLists) → IsUnderWay olds unmet over xs m [] last → IsTried olds unmet over xs m last
  end_under_way over xs m last way = subst (λ (g : GraphLists). IsTried olds unmet over xs m g) way.leads way.tried

  -- what would be met, and in how many unmet groups each would wait
  pub tried_unmet : (over : ℕ → Option ℕ) (xs : List ℕ) (m : MetLists) (g : GraphLists) → IsTried olds unmet over xs m g → (slot : ℕ) → unmet_of g.depends slot ≡ total_at unmet slot - count_by (is_at slot) xs
  tried_unmet over xs m g t slot = ap (λ (ws : List Watch). unmet_of ws slot) (sym t.depends_are) ∙ (sym (t.sums.unmet_kept slot) ∙ t.agrees.unmet_read slot)

  pub tried_met : (over : ℕ → Option ℕ) (xs : List ℕ) (m : MetLists) (g : GraphLists) → IsTried olds unmet over xs m g → HasMet (watches olds) g.depends (marks_told m)
  tried_met over xs m g t =
      record {
        met = λ n position. t.tells.met n position ∙ ap (λ (ws : List Watch). was_met (watches olds) ws n position) t.depends_are;
        satisfied = λ n. t.tells.satisfied n ∙ ap (λ (ws : List Watch). was_satisfied (watches olds) ws n) t.depends_are;
      }

-- ---- the graph as it is

pub start_tried : (olds : List ListedLists) (unmet : List ℕ) (left : ℕ) (done : List Bool) → KeepsDepends olds → KeepsSums unmet left olds → AllCounted done olds → length done ≡ SLOT_LIMIT
    → IsTried olds unmet nothing_laid [] nothing_met (record { done = done; depends = watches olds })
start_tried olds unmet left done depends sums counted long =
    record {
      news = olds;
      unmet_then = unmet;
      left_then = left;
      depends_are = refl;
      structure = refl;
      depends = depends;
      sums = sums;
      counts = counted;
      done_counted = long;
      agrees =
          record {
            counts = λ p k d e g old new at_d at_e at_g at_old at_new.
                let same : d ≡ e = same_Some d e (sym at_d ∙ at_e) in
                let one : new ≡ old = sym (same_Some old new (sym at_old ∙ (ap (λ (x : ListedLists). slice_get x.counts k) same ∙ at_new))) in
                subst (λ (n : Count). IsLaid None g old n) (sym one) (record { undone = refl; met = met_by old.met (is_enough g old.undone) ((counted p d at_d).met_kept k g old at_g at_old) });
            unmet_read = λ s. omega arith;
          };
      tells = start_tells olds;
    }
  where
    met_by : (was enough : Bool) → (enough ≡ true → was ≡ true) → was ≡ (was || enough)
    met_by true enough meets = refl
    met_by false true meets = meets refl
    met_by false false meets = refl
