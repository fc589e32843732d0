-- What a trial tells of the groups that would be met, and of the depends that would be satisfied.
use Rattle.std.proofs.Common.{◌≡◌, ℕ, zero, suc, ◌-◌, Bool, true, false, not, cond, eqb, List, [], ◌∷◌, ◌++◌, Option, Some, refl, sym, ap, subst, ◌∙◌}
use Rattle.std.specs.Prelude.{◌&&◌, ◌||◌}
use Rattle.std.specs.List.{slice_get, list_any}
use Rattle.std.proofs.lemmas.Bool.{false≢true}
use Rattle.std.proofs.lemmas.Option.{none-some, same_Some}
use Rattle.farm_types.specs.declared.depend.Group.{Group}
use Rattle.farm_types.specs.Farm.{changed_at}
use Rattle.farm_types.proofs.Changed.{changed_at_each, changed_at_same}
use Rattle.farm_types.proofs.ChangedLists.{changed_at_suc}
use Rattle.farm_types.proofs.Lists.{and_both}
use Rattle.depend_edges.specs.Counts.{becomes_due, fewer, is_due, lowered, met_at, met_count}
use Rattle.depend_edges.specs.Listed.{AllListed, ListedLists, is_enough}
use Rattle.depend_edges.specs.declared.listed.Count.{Count}
use Rattle.depend_graph.specs.Flow.{Flow, lowered_flow, met_flow, passed_flow}
use Rattle.depend_graph.specs.Graph.{Watch, Watched, becomes_met, is_mark, met_between, was_met, was_satisfied}
use Rattle.depend_graph.specs.Inside.{watches}
use Rattle.depend_graph.specs.Trial.{IsLaid, IsMet, IsMetWhere, MetLists, Tells, count_or, nothing_met}
use Rattle.depend_graph.specs.Watches.{mark_for, watched_by, watched_with}
use Rattle.depend_graph.proofs.ProgressLemmas.FlowKept.{never_became, never_satisfied, recount_each, watches_same}
use Rattle.depend_graph.proofs.ProgressLemmas.Satisfied.{any_last, any_where, or_later, satisfied_step}
use Rattle.depend_graph.proofs.TrialLemmas.Tried.{due_by}
use Rattle.depend_graph.proofs.ProgressLemmas.Watches.{satisfied_then, unsatisfied}

-- ---- one group is met

or_group : (here was now later : Bool) → was ≡ false → cond (here && (not was && true)) true later ≡ (cond (here && (not was && now)) true later || here)
or_group here true now later isnt = absurd (false≢true (sym isnt))
or_group true false true later isnt = refl
or_group true false false true isnt = refl
or_group true false false false isnt = refl
or_group false false now true isnt = refl
or_group false false now false isnt = refl

groups_step : (position : ℕ) (gs : List Group) (os : List Count) (hs : List Group) (ns : List Count) (k : ℕ) (g h : Group) (o n : Count) → slice_get gs k ≡ Some g → slice_get os k ≡ Some o
    → slice_get hs k ≡ Some h → slice_get ns k ≡ Some n → o.met ≡ false
    → met_between position (watched_with gs os) (watched_with hs (changed_at ns k met_count)) ≡ (met_between position (watched_with gs os) (watched_with hs ns) || eqb g.position position)
groups_step position [] os hs ns k g h o n at_g at_o at_h at_n isnt = absurd (none-some g at_g)
groups_step position (x ∷ xs) [] hs ns k g h o n at_g at_o at_h at_n isnt = absurd (none-some o at_o)
groups_step position (x ∷ xs) (y ∷ ys) [] ns k g h o n at_g at_o at_h at_n isnt = absurd (none-some h at_h)
groups_step position (x ∷ xs) (y ∷ ys) (z ∷ zs) [] k g h o n at_g at_o at_h at_n isnt = absurd (none-some n at_n)
groups_step position (x ∷ xs) (y ∷ ys) (z ∷ zs) (w ∷ ws) zero g h o n at_g at_o at_h at_n isnt =
    or_group (eqb x.position position) y.met w.met (met_between position (watched_with xs ys) (watched_with zs ws)) (ap (λ (c : Count). c.met) (same_Some y o at_o) ∙ isnt)
    ∙ ap (λ (v : Group). met_between position (watched_with (x ∷ xs) (y ∷ ys)) (watched_with (z ∷ zs) (w ∷ ws)) || eqb v.position position) (same_Some x g at_g)
groups_step position (x ∷ xs) (y ∷ ys) (z ∷ zs) (w ∷ ws) (suc k) g h o n at_g at_o at_h at_n isnt =
    ap (λ (cs : List Count). met_between position (watched_with (x ∷ xs) (y ∷ ys)) (watched_with (z ∷ zs) cs)) (changed_at_suc w ws k met_count)
    ∙ (ap (cond (becomes_met position (watched_by x y) (watched_by z w)) true) (groups_step position xs ys zs ws k g h o n at_g at_o at_h at_n isnt)
    ∙ or_later (becomes_met position (watched_by x y) (watched_by z w)) (met_between position (watched_with xs ys) (watched_with zs ws)) (eqb g.position position))

or_depend : (here met now later : Bool) → cond (here && (met || now)) true later ≡ (cond (here && met) true later || (here && now))
or_depend true true now later = refl
or_depend true false true true = refl
or_depend true false true false = refl
or_depend true false false true = refl
or_depend true false false false = refl
or_depend false met now true = refl
or_depend false met now false = refl

met_step : (olds news : List ListedLists) (q k : ℕ) (old new : ListedLists) (g h : Group) (o c : Count) (n position : ℕ) → slice_get olds q ≡ Some old → slice_get news q ≡ Some new
    → slice_get old.groups k ≡ Some g → slice_get old.counts k ≡ Some o → slice_get new.groups k ≡ Some h → slice_get new.counts k ≡ Some c → o.met ≡ false
    → was_met (watches olds) (watches (changed_at news q (met_at k))) n position ≡ (was_met (watches olds) (watches news) n position || (eqb old.depend n && eqb g.position position))
met_step [] news q k old new g h o c n position at_old at at_g at_o at_h at_c isnt = absurd (none-some old at_old)
met_step (x ∷ xs) [] q k old new g h o c n position at_old at at_g at_o at_h at_c isnt = absurd (none-some new at)
met_step (x ∷ xs) (y ∷ ys) zero k old new g h o c n position at_old at at_g at_o at_h at_c isnt =
    let same_old = same_Some x old at_old in
    let same_new = same_Some y new at in
    let step =
    groups_step position x.groups x.counts y.groups y.counts k g h o c (ap (λ (d : ListedLists). slice_get d.groups k) same_old ∙ at_g) (ap (λ (d : ListedLists). slice_get d.counts k) same_old ∙ at_o)
    (ap (λ (d : ListedLists). slice_get d.groups k) same_new ∙ at_h) (ap (λ (d : ListedLists). slice_get d.counts k) same_new ∙ at_c) isnt
    in
    ap (λ b. cond (eqb x.depend n && b) true (was_met (watches xs) (watches ys) n position)) step
    ∙ (or_depend (eqb x.depend n) (met_between position (watched_with x.groups x.counts) (watched_with y.groups y.counts)) (eqb g.position position) (was_met (watches xs) (watches ys) n position)
    ∙ ap (λ (d : ListedLists). was_met (watches (x ∷ xs)) (watches (y ∷ ys)) n position || (eqb d.depend n && eqb g.position position)) same_old)
met_step (x ∷ xs) (y ∷ ys) (suc q) k old new g h o c n position at_old at at_g at_o at_h at_c isnt =
    let here : Bool = eqb x.depend n && met_between position (watched_with x.groups x.counts) (watched_with y.groups y.counts) in
    ap (λ (ds : List ListedLists). was_met (watches (x ∷ xs)) (watches ds) n position) (changed_at_suc y ys q (met_at k))
    ∙ (ap (cond here true) (met_step xs ys q k old new g h o c n position at_old at at_g at_o at_h at_c isnt)
    ∙ or_later here (was_met (watches xs) (watches ys) n position) (eqb old.depend n && eqb g.position position))

-- ---- what is told

module _ (olds : List ListedLists) where
  lowered_tells : (m : MetLists) (ds : List ListedLists) (p k : ℕ) → Tells olds m ds → Tells olds m (changed_at ds p (lowered k))
  lowered_tells m ds p k tells =
      let same = watches_same fewer (λ c. refl) ds p k in
      record {
        left = λ q x y at_x at_y.
            changed_at_each (λ r z. slice_get olds r ≡ Some x → z.unmet ≡ count_or x.unmet (m.left r)) ds p (lowered k) (λ z at_z at_old. tells.left p x z at_old at_z)
            (λ r z apart at_z at_old. tells.left r x z at_old at_z) q y at_y at_x;
        met = λ n position. tells.met n position ∙ ap (λ (ws : List Watch). was_met (watches olds) ws n position) (sym same);
        satisfied = λ n. tells.satisfied n ∙ ap (λ (ws : List Watch). was_satisfied (watches olds) ws n) (sym same);
      }

  module _ (ds : List ListedLists) (old_listed : AllListed olds) (listed : AllListed ds) (m l : MetLists) (p k : ℕ) (d e : ListedLists) (g h : Group) (c n : Count) (at_d : slice_get olds p ≡ Some d)
      (at_e : slice_get ds p ≡ Some e) (at_g : slice_get d.groups k ≡ Some g) (at_c : slice_get d.counts k ≡ Some c) (at_h : slice_get e.groups k ≡ Some h) (at_n : slice_get e.counts k ≡ Some n)
      (unmet_c : c.met ≡ false) (unmet_n : n.met ≡ false) (hit : IsMet p d g m l) (tells : Tells olds m ds)
    where
      left_here : e.unmet ≡ count_or d.unmet (m.left p)
      left_here = tells.left p d e at_d at_e

      met_tells : Tells olds l (changed_at ds p (met_at k))
      met_tells =
          record {
            left = λ q x y at_x at_y.
                changed_at_each (λ r z. slice_get olds r ≡ Some x → z.unmet ≡ count_or x.unmet (l.left r)) ds p (met_at k)
                (λ z at_z at_old.
                let same : d ≡ x = same_Some d x (sym at_d ∙ at_old) in
                ap (λ (i : ℕ). i - 1) (tells.left p x z at_old at_z)
                ∙ (ap (λ (w : ListedLists). count_or w.unmet (m.left p) - 1) (sym same) ∙ sym (ap (count_or x.unmet) hit.left.here)))
                (λ r z apart at_z at_old. tells.left r x z at_old at_z ∙ sym (ap (count_or x.unmet) (hit.left.elsewhere r apart))) q y at_y at_x;
            met = λ i position.
                ap (list_any (is_mark i position)) hit.met
                ∙ (any_last (is_mark i position) m.met (mark_for d.depend g)
                ∙ (ap (λ b. b || (eqb d.depend i && eqb g.position position)) (tells.met i position)
                ∙ sym (met_step olds ds p k d e g h c n i position at_d at_e at_g at_c at_h at_n unmet_c)));
            satisfied = λ i.
                ap (list_any (λ j. eqb j i)) (hit.satisfied ∙ ap (λ (j : ℕ). cond (eqb j 1) (m.satisfied ++ d.depend ∷ []) m.satisfied) (sym left_here))
                ∙ (any_where (eqb e.unmet 1) m.satisfied d.depend i
                ∙ (ap (λ b. b || (eqb d.depend i && eqb e.unmet 1)) (tells.satisfied i)
                ∙ (ap (λ b. was_satisfied (watches olds) (watches ds) i || (eqb d.depend i && b)) (sym (satisfied_then e k h n at_h at_n unmet_n (listed p e at_e)))
                ∙ sym (satisfied_step olds ds p (met_at k) d e i at_d at_e (unsatisfied d k g c at_g at_c unmet_c (old_listed p d at_d)) (unsatisfied e k h n at_h at_n unmet_n (listed p e at_e))))));
          }

  unmarked : (b : Bool) → not b ≡ true → b ≡ false
  unmarked true off = absurd (false≢true off)
  unmarked false off = refl

  was_unmarked : (was enough : Bool) → (was || enough) ≡ false → was ≡ false
  was_unmarked true enough isnt = isnt
  was_unmarked false enough isnt = refl

  -- one target of a group fewer is undone
  module _ (old_listed : AllListed olds) (f : Flow) (listed : AllListed f.depends) (m l : MetLists) (o : Option ℕ) (p k : ℕ) (d e : ListedLists) (g : Group) (c n : Count)
      (at_d : slice_get olds p ≡ Some d) (at_e : slice_get f.depends p ≡ Some e) (at_g : slice_get d.groups k ≡ Some g) (at_c : slice_get d.counts k ≡ Some c) (at_h : slice_get e.groups k ≡ Some g)
      (at_n : slice_get e.counts k ≡ Some n) (before : IsLaid o g c n) (hit : IsMetWhere (becomes_due g c (count_or c.undone o)) p d g m l) (tells : Tells olds m f.depends)
    where
      due_is : is_due g (fewer n) ≡ becomes_due g c (count_or c.undone o)
      due_is = (λ i. not (before.met i) && is_enough g (n.undone - 1)) ∙ (due_by c.met (is_enough g n.undone) (is_enough g (n.undone - 1)) ∙ λ i. becomes_due g c (before.undone i))

      pub tells_step : Tells olds l (passed_flow p k e g n f).depends
      tells_step = by_due (is_due g (fewer n)) refl (subst (λ b. IsMetWhere b p d g m l) (sym due_is) hit)
        where
          by_due : (b : Bool) → is_due g (fewer n) ≡ b → IsMetWhere b p d g m l → Tells olds l (cond b (met_flow p k (lowered k e) g (lowered_flow p k f)) (lowered_flow p k f)).depends
          by_due true is met =
              let unmet : n.met ≡ false = unmarked n.met (and_both (not n.met) (is_enough g (n.undone - 1)) is).0 in
              met_tells (changed_at f.depends p (lowered k)) old_listed (recount_each fewer (λ x. refl) f.depends p k listed) m l p k d (lowered k e) g g c (fewer n) at_d
              (changed_at_same f.depends p (lowered k) e at_e) at_g at_c at_h (changed_at_same e.counts k fewer n at_n) (was_unmarked c.met (is_enough g n.undone) (sym before.met ∙ unmet)) unmet met
              (lowered_tells m f.depends p k tells)
          by_due false is same = subst (λ (x : MetLists). Tells olds x (changed_at f.depends p (lowered k))) (sym same) (lowered_tells m f.depends p k tells)

-- ---- the graph as it is

never_between : (position : ℕ) (ws : List Watched) → met_between position ws ws ≡ false
never_between position [] = refl
never_between position (w ∷ ws) = ap (λ b. cond b true (met_between position ws ws)) (never_became (eqb w.group.position position) w.met) ∙ never_between position ws

and_none : (b : Bool) → (b && false) ≡ false
and_none true = refl
and_none false = refl

pub never_met : (ws : List Watch) (n position : ℕ) → was_met ws ws n position ≡ false
never_met [] n position = refl
never_met (w ∷ ws) n position =
    ap (λ b. cond (eqb w.depend n && b) true (was_met ws ws n position)) (never_between position w.groups)
    ∙ (ap (λ b. cond b true (was_met ws ws n position)) (and_none (eqb w.depend n)) ∙ never_met ws n position)

pub start_tells : (olds : List ListedLists) → Tells olds nothing_met olds
start_tells olds =
    record {
      left = λ p d e at_d at_e. ap (λ (x : ListedLists). x.unmet) (same_Some e d (sym at_e ∙ at_d));
      met = λ n position. sym (never_met (watches olds) n position);
      satisfied = λ n. sym (never_satisfied (watches olds) n);
    }
