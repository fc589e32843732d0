-- The way goes on from an edge, and the target's group lacks one fewer.
use Rattle.std.proofs.Common.{◌≡◌, ◌≤◌, ◌<◌, ℕ, ◌-◌, Bool, true, false, not, cond, eqb, List, length, Option, Some, refl, sym, ap, subst, ◌∙◌, ◌⊎◌, inl, inr, arith}
use Rattle.std.specs.Prelude.{◌||◌}
use Rattle.std.specs.Cmp.Derive.{both_true}
use Rattle.std.specs.List.{slice_get, slice_set, count_by, list_any}
use Rattle.std.proofs.lemmas.Bool.{cases_Bool, eqb-false, eqb-true, false≢true}
use Rattle.std.proofs.lemmas.Option.{same_Some}
use Rattle.farm_types.specs.declared.depend.Group.{Group}
use Rattle.farm_types.specs.Farm.{changed_at, for_some}
use Rattle.farm_types.proofs.Changed.{changed_at_same, slice_get-set_other, slice_get-set_same}
use Rattle.farm_types.proofs.ChangesInTurn.{changed_at_twice}
use Rattle.farm_types.proofs.Lists.{and_both, slice_get_below}
use Rattle.depend_edges.specs.Counts.{fewer, is_due, lowered, met_at, met_count}
use Rattle.depend_edges.specs.Listed.{ListedLists, is_enough}
use Rattle.depend_edges.specs.Ways.{IsEdge, IsEdgeOf, IsLast, edge_lists, is_ahead_of, is_past}
use Rattle.depend_edges.specs.declared.links.Edge.{Edge}
use Rattle.depend_edges.specs.declared.links.EdgeAt.{EdgeAt}
use Rattle.depend_edges.specs.declared.listed.Count.{Count}
use Rattle.depend_edges.proofs.Targets.{are_done_by, edges_counted, enough_fewer, target_of_edge, targets_in}
use Rattle.depend_graph.specs.Flow.{Flow, lowered_flow, met_flow, passed_flow}
use Rattle.depend_graph.specs.Graph.{is_completed, is_flagged}
use Rattle.depend_graph.specs.Kept.{KeepsFlow, Still, still_of}
use Rattle.depend_graph.specs.Passing.{CountsPending, IsMarked, IsPassing, MeetsAll, OnlyCompletes, count_from, is_pending}
use Rattle.depend_graph.specs.Watches.{is_undone}
use Rattle.depend_graph.proofs.CountFrom.{count_from-by, count_from-less}
use Rattle.depend_graph.proofs.ProgressLemmas.FlowKept.{recount_kept}
use Rattle.depend_graph.proofs.ProgressLemmas.GroupMet.{met_kept}
use Rattle.depend_graph.proofs.ProgressLemmas.OnWay.{counts_on, listed_before, of_slot, there_before}
use Rattle.depend_graph.proofs.ProgressLemmas.Pending.{pending_falls}
use Rattle.depend_graph.proofs.ProgressLemmas.Recounted.{IsElsewhere, IsHere, recounted}

-- ---- what becomes of the depend

abbrev pub turned : Bool → Count → Count
turned b c = record { undone = c.undone - 1; met = b || c.met }

abbrev pub stepped : Bool → ℕ → ListedLists → ListedLists
stepped b k d = cond b (met_at k (lowered k d)) (lowered k d)

pub stepped_counts : (b : Bool) (k : ℕ) (d : ListedLists) → (stepped b k d).counts ≡ changed_at d.counts k (turned b)
stepped_counts true k d = changed_at_twice d.counts k fewer met_count
stepped_counts false k d = refl

pub stepped_still : (b : Bool) (k : ℕ) (d : ListedLists) → still_of (stepped b k d) ≡ still_of d
stepped_still true k d = refl
stepped_still false k d = refl

pub flow_depends : (b : Bool) (q k : ℕ) (d : ListedLists) (g : Group) (f : Flow) → (cond b (met_flow q k d g (lowered_flow q k f)) (lowered_flow q k f)).depends ≡ changed_at f.depends q (stepped b k)
flow_depends true q k d g f = changed_at_twice f.depends q (lowered k) (met_at k)
flow_depends false q k d g f = refl

due_by : (b : Bool) (c : Count) (g : Group) → is_due g (fewer c) ≡ b → is_enough g (c.undone - 1) ≡ true → (b || c.met) ≡ true
due_by true c g is enough = refl
due_by false c g is enough = by_mark c.met refl where
  by_mark : (m : Bool) → c.met ≡ m → c.met ≡ true
  by_mark true marked = marked
  by_mark false marked = absurd (false≢true (sym is ∙ both_true (ap not marked) enough))

module _ (done : List Bool) (slot : ℕ) (olds : List ListedLists) (a : EdgeAt) (f : Flow) (pass : IsPassing done slot olds (Some a) f) (within : slot < length done)
    (d : ListedLists) (x : Edge) (g : Group) (c : Count)
    (at : slice_get f.depends a.depend ≡ Some d) (at_edge : slice_get d.edges a.edge ≡ Some x) (at_group : slice_get d.groups x.group ≡ Some g) (at_count : slice_get d.counts x.group ≡ Some c)
    (last : (slot_is : x.slot ≡ slot) → IsLast (edge_lists olds) slot (is_ahead_of a.depend a.edge) x.next)
  where
    on_way : IsEdgeOf (edge_lists olds) slot a
    on_way = pass.on_way a refl

    there : IsEdge (edge_lists olds) a.depend a.edge x
    there = there_before slot olds f.depends pass.flow.structure a on_way d x at at_edge

    on : x.slot ≡ slot
    on = of_slot slot olds f.depends pass.flow.structure a on_way d x at at_edge

    goes_on : IsLast (edge_lists olds) slot (is_ahead_of a.depend a.edge) x.next
    goes_on = last on

    abbrev due : Bool
    due = is_due g (fewer c)

    abbrev new : Flow
    new = passed_flow a.depend x.group d g c f

    new_depends : new.depends ≡ changed_at f.depends a.depend (stepped due x.group)
    new_depends = flow_depends due a.depend x.group (lowered x.group d) g f

    new_kept : KeepsFlow olds new
    new_kept = by_due due refl where
      by_due : (b : Bool) → is_due g (fewer c) ≡ b → KeepsFlow olds (cond b (met_flow a.depend x.group (lowered x.group d) g (lowered_flow a.depend x.group f)) (lowered_flow a.depend x.group f))
      by_due true is =
          met_kept olds (lowered_flow a.depend x.group f) (recount_kept fewer (λ n. refl) olds f a.depend x.group pass.flow) a.depend x.group (lowered x.group d) g (fewer c)
          (changed_at_same f.depends a.depend (lowered x.group) d at) at_group (changed_at_same d.counts x.group fewer c at_count) (unmarked c.met (and_both (not c.met) (is_enough g (c.undone - 1)) is).0)
        where
          unmarked : (m : Bool) → not m ≡ true → m ≡ false
          unmarked true off = absurd (false≢true off)
          unmarked false off = refl
      by_due false is = recount_kept fewer (λ n. refl) olds f a.depend x.group pass.flow

    -- the counts of the group before and after
    was : c.undone ≡ count_from (is_pending not done slot (Some a) x.group a.depend) 0 d.edges
    was = pass.counts a.depend x.group d c at at_count

    falls : c.undone - 1 ≡ count_from (is_pending not done slot x.next x.group a.depend) 0 d.edges
    falls = omega (arith, was, pending_falls not done (edge_lists olds) slot a x there on x.next goes_on d.edges (listed_before slot olds f.depends pass.flow.structure a on_way d x at at_edge) refl refl)

    -- a count of the new depends: that of the group, or another one
    case : (p m : ℕ) (e : ListedLists) (n : Count) → slice_get new.depends p ≡ Some e → slice_get e.counts m ≡ Some n
        → (IsHere a.depend x.group p m d e c n (turned due)) ⊎ (IsElsewhere f.depends a.depend x.group p m e n)
    case p m e n at_e at_n =
        recounted f.depends a.depend x.group d c (stepped due x.group) (turned due) at at_count (stepped_counts due x.group d) (stepped_still due x.group d) p m e n
        (ap (λ (ds : List ListedLists). slice_get ds p) (sym new_depends) ∙ at_e) at_n

    new_counts : CountsPending not done slot x.next new.depends
    new_counts p m e n at_e at_n = counts_on slot olds f.depends pass.flow.structure a on_way d x at at_edge not done pass.counts goes_on c (turned due) falls p m e n (case p m e n at_e at_n)

    group_same : (e : ListedLists) (y : Group) → still_of d ≡ still_of e → slice_get e.groups x.group ≡ Some y → g ≡ y
    group_same e y still at_y = same_Some g y (sym at_group ∙ (ap (λ (s : Still). slice_get s.groups x.group) still ∙ at_y))

    new_meets : MeetsAll new.depends
    new_meets p m e y n at_e at_y at_n enough = by_case (case p m e n at_e at_n) where
      by_case : (IsHere a.depend x.group p m d e c n (turned due)) ⊎ (IsElsewhere f.depends a.depend x.group p m e n) → n.met ≡ true
      by_case (inl here) =
          let same : g ≡ y = group_same e y here.still (ap (slice_get e.groups) (sym here.group) ∙ at_y) in
          let turned_back : turned due c ≡ n = sym here.count_is in
          ap (λ (z : Count). z.met) here.count_is
          ∙ due_by due c g refl ((λ i. is_enough (same i) (turned_back i).undone) ∙ enough)
      by_case (inr other) =
          pass.meets p m other.was y n other.was_there (ap (λ (s : Still). slice_get s.groups m) other.still ∙ at_y) other.count_there enough

    -- ---- a group that is met has its targets done

    abbrev flags : List Bool
    flags = slice_set done slot true

    undone_less : (n : ℕ) (e : Edge) → is_undone flags x.group e ≡ true → is_pending not done slot x.next x.group a.depend n e ≡ true
    undone_less n e undone =
        let both = and_both (eqb e.group x.group) (not (is_flagged flags e.slot)) undone in
        both_true both.0 (by_slot (cases_Bool (eqb e.slot slot)) both.1)
      where
        by_slot : (eqb e.slot slot ≡ true) ⊎ (eqb e.slot slot ≡ false) → not (is_flagged flags e.slot) ≡ true
            → cond (eqb e.slot slot) (not (is_past x.next a.depend n)) (not (is_flagged done e.slot)) ≡ true
        by_slot (inl same) not_done =
            let y = slice_get_below done slot within in
            let flagged : is_flagged flags e.slot ≡ true = ap (λ (s : ℕ). is_flagged flags s) (eqb-true e.slot slot same) ∙ ap (λ (o : Option Bool). for_some o (λ b. b)) (slice_get-set_same done slot y.0 true y.1) in
            absurd (false≢true (sym (ap not flagged) ∙ not_done))
        by_slot (inr other) not_done =
            ap (λ b. cond b (not (is_past x.next a.depend n)) (not (is_flagged done e.slot))) other
            ∙ (ap (λ (o : Option Bool). not (for_some o (λ b. b))) (sym (slice_get-set_other done slot e.slot true (eqb-false e.slot slot other))) ∙ not_done)

    completes : is_enough g (c.undone - 1) ≡ true → is_completed flags slot g ≡ true
    completes enough =
        let one = pass.flow.listed a.depend d at in
        let target : list_any (λ t. eqb t slot) g.targets ≡ true = subst (λ (s : ℕ). list_any (λ t. eqb t s) g.targets ≡ true) on (target_of_edge d.edges d.groups one.aims a.edge x at_edge g at_group) in
        let fewer_left : count_from (λ n e. is_undone flags x.group e) 0 d.edges ≤ count_from (is_pending not done slot x.next x.group a.depend) 0 d.edges =
        count_from-less (λ n e. is_undone flags x.group e) (is_pending not done slot x.next x.group a.depend) 0 d.edges undone_less in
        let lacking : count_by (is_undone flags x.group) d.edges ≡ count_by (λ t. not (is_flagged flags t)) g.targets =
        edges_counted d.edges d.groups x.group (λ t. not (is_flagged flags t)) one.aims ∙ ap (targets_in (λ t. not (is_flagged flags t))) at_group in
        let few : count_by (λ t. not (is_flagged flags t)) g.targets ≤ c.undone - 1 = omega (arith, falls, count_from-by (is_undone flags x.group) 0 d.edges) in
        both_true target (are_done_by (is_flagged flags) g ∙ enough_fewer g (count_by (λ t. not (is_flagged flags t)) g.targets) (c.undone - 1) few enough)

    new_marks : OnlyCompletes flags slot olds new.depends
    new_marks p m b e y old n at_b at_e at_y at_old at_n = by_case (case p m e n at_e at_n) where
      by_case : (IsHere a.depend x.group p m d e c n (turned due)) ⊎ (IsElsewhere f.depends a.depend x.group p m e n) → IsMarked flags slot y old n
      by_case (inl here) =
          let same : g ≡ y = group_same e y here.still (ap (slice_get e.groups) (sym here.group) ∙ at_y) in
          let mark : n.met ≡ (due || c.met) = ap (λ (z : Count). z.met) here.count_is in
          let before = pass.marks a.depend x.group b d g old c (ap (slice_get olds) (sym here.place) ∙ at_b) at at_group (ap (slice_get b.counts) (sym here.group) ∙ at_old) at_count in
          record {
            stays = λ was_met. mark ∙ (ap (λ z. due || z) (before.stays was_met) ∙ or_true due);
            cause = λ was_not now. subst (λ (z : Group). is_completed flags slot z ≡ true) same (by_due due refl (sym mark ∙ now) (λ met. before.cause was_not met));
          }
        where
          or_true : (z : Bool) → (z || true) ≡ true
          or_true true = refl
          or_true false = refl

          by_due : (z : Bool) → is_due g (fewer c) ≡ z → (z || c.met) ≡ true → (c.met ≡ true → is_completed flags slot g ≡ true) → is_completed flags slot g ≡ true
          by_due true is met earlier = completes (and_both (not c.met) (is_enough g (c.undone - 1)) is).1
          by_due false is met earlier = earlier met
      by_case (inr other) =
          pass.marks p m b other.was y old n at_b other.was_there (ap (λ (s : Still). slice_get s.groups m) other.still ∙ at_y) at_old other.count_there

    pub passed : IsPassing done slot olds x.next new
    passed = record { flow = new_kept; counts = new_counts; meets = new_meets; marks = new_marks; on_way = goes_on.one }
