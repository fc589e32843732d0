-- The way along a slot's edges: where it begins, and what there is once it has come to its end.
use Rattle.std.proofs.Common.{◌≡◌, ◌≢◌, ◌≤◌, ◌<◌, ℕ, suc, Bool, true, false, not, cond, eqb, List, [], ◌∷◌, map, length, Option, Some, None, refl, sym, ap, ◌∙◌, ◌⊎◌, inl, inr, arith}
use Rattle.std.specs.Prelude.{◌&&◌}
use Rattle.std.specs.List.{slice_get, slice_set, count_by, list_any}
use Rattle.std.specs.List.Sorted.{IsNonDecreasing, IsPermutation}
use Rattle.std.proofs.lemmas.Bool.{cases_Bool, eqb-false, eqb-true, false≢true, le-ltb}
use Rattle.std.proofs.lemmas.List.{length-map}
use Rattle.std.proofs.lemmas.Option.{same_Some, slice_get_past}
use Rattle.farm_types.specs.declared.depend.Group.{Group}
use Rattle.farm_types.specs.declared.limits.TheConstants.{MOST_DEPENDS, SLOT_LIMIT}
use Rattle.farm_types.specs.Farm.{for_some}
use Rattle.farm_types.specs.Sums.{total_in}
use Rattle.farm_types.proofs.Changed.{slice_get-set_other, slice_get-set_same}
use Rattle.farm_types.proofs.Lists.{and_both, slice_get_below}
use Rattle.depend_edges.specs.Listed.{AllListed, ListedLists, is_enough}
use Rattle.depend_edges.specs.Ways.{IsLast, edge_lists, is_any, is_past}
use Rattle.depend_edges.specs.declared.links.Edge.{Edge}
use Rattle.depend_edges.specs.declared.links.EdgeAt.{EdgeAt}
use Rattle.depend_edges.specs.declared.listed.Count.{Count}
use Rattle.depend_edges.proofs.EdgeLists.{edge_is}
use Rattle.depend_edges.proofs.Targets.{are_done_by, edges_counted, targets_in}
use Rattle.depend_graph.specs.Flow.{Flow, flow_of}
use Rattle.depend_graph.specs.Graph.{HasOpened, OpenedLists, Watch, Watched, completed, completed_in, has_opened, is_completed, is_flagged, nothing_opened, opened_between, unmet_of}
use Rattle.depend_graph.specs.Inside.{KeepsDepends, KeepsSums, watches}
use Rattle.depend_graph.specs.Kept.{KeepsFlow, Still, is_left, still_of}
use Rattle.depend_graph.specs.Passing.{CountsPending, IsMarked, IsPassing, count_from, is_pending}
use Rattle.depend_graph.specs.Watches.{AllCounted, is_undone, watch_by, watched_by, watched_with}
use Rattle.depend_graph.proofs.CountFrom.{count_from-alike, count_from-by}
use Rattle.depend_graph.proofs.ProgressLemmas.FlowKept.{start_kept}
use Rattle.depend_graph.proofs.TrialLemmas.Ordered.{ordered}
use Rattle.depend_graph.proofs.ProgressLemmas.Still.{still_differ, still_empty, still_pair, there_counted, there_still}
use Rattle.farm_types.specs.Depends.{are_done}

-- ---- flags by slot

pub flag_set : (done : List Bool) (slot : ℕ) (flag : Bool) → slot < length done → is_flagged (slice_set done slot flag) slot ≡ flag
flag_set done slot flag within =
    let y = slice_get_below done slot within in
    ap (λ (o : Option Bool). for_some o (λ b. b)) (slice_get-set_same done slot y.0 flag y.1)

pub flag_other : (done : List Bool) (slot s : ℕ) (flag : Bool) → s ≢ slot → is_flagged (slice_set done slot flag) s ≡ is_flagged done s
flag_other done slot s flag apart = ap (λ (o : Option Bool). for_some o (λ b. b)) (slice_get-set_other done slot s flag apart)

-- an edge counts as undone by the flags, where those of the slot's edges do
pub pending_is : (turned : Bool → Bool) (done flags : List Bool) (slot : ℕ) (o : Option EdgeAt) (k p : ℕ) (es : List Edge)
    → ((i : ℕ) (e : Edge) → slice_get es i ≡ Some e → e.slot ≡ slot → turned (is_past o p i) ≡ not (is_flagged flags e.slot)) → ((e : Edge) → e.slot ≢ slot → is_flagged done e.slot ≡ is_flagged flags e.slot)
    → count_from (is_pending turned done slot o k p) 0 es ≡ count_by (is_undone flags k) es
pending_is turned done flags slot o k p es on off =
    count_from-alike (is_pending turned done slot o k p) (λ n e. is_undone flags k e) 0 es (λ n i e is at. ap (λ b. eqb e.group k && b) (by_slot i e (ap (slice_get es) (is ∙ omega arith) ∙ at) (cases_Bool (eqb e.slot slot))))
    ∙ count_from-by (is_undone flags k) 0 es
  where
    by_slot : (i : ℕ) (e : Edge) → slice_get es i ≡ Some e → (eqb e.slot slot ≡ true) ⊎ (eqb e.slot slot ≡ false) → cond (eqb e.slot slot) (turned (is_past o p i)) (not (is_flagged done e.slot)) ≡ not (is_flagged flags e.slot)
    by_slot i e at (inl same) = ap (λ b. cond b (turned (is_past o p i)) (not (is_flagged done e.slot))) same ∙ on i e at (eqb-true e.slot slot same)
    by_slot i e at (inr other) = ap (λ b. cond b (turned (is_past o p i)) (not (is_flagged done e.slot))) other ∙ ap not (off e (eqb-false e.slot slot other))

-- ---- the beginning

module _ (done : List Bool) (slot : ℕ) (olds : List ListedLists) (first : Option EdgeAt) (last : IsLast (edge_lists olds) slot is_any first) where
  pub start_counts : (turned : Bool → Bool) (flag : Bool) → turned false ≡ not flag → is_flagged done slot ≡ flag → AllCounted done olds → CountsPending turned done slot first olds
  start_counts turned flag is flagged counted p k d c at at_count =
      (counted p d at).undone_kept k c at_count
      ∙ sym (pending_is turned done done slot first k p d.edges
      (λ i e at_e on. ap turned (last.last p i e (edge_is olds p i d e at at_e) on refl) ∙ (is ∙ ap not (sym flagged ∙ ap (is_flagged done) (sym on)))) (λ e off. refl))

  pub start_passing : (unmet : List ℕ) (left : ℕ) → is_flagged done slot ≡ false → AllListed olds → count_by is_left olds ≤ MOST_DEPENDS → KeepsSums unmet left olds → AllCounted done olds
      → IsPassing done slot olds first (flow_of olds unmet left nothing_opened)
  start_passing unmet left flagged listed within sums counted =
      record {
        flow = start_kept olds unmet left listed within sums;
        counts = start_counts not false refl flagged counted;
        meets = λ p k d g c at at_group at_count enough. (counted p d at).met_kept k g c at_group at_count enough;
        marks = λ p k d e g old new at_d at_e at_group at_old at_new.
            let same : d ≡ e = same_Some d e (sym at_d ∙ at_e) in
            let one : old ≡ new = same_Some old new (sym at_old ∙ (ap (λ (x : ListedLists). slice_get x.counts k) same ∙ at_new)) in
            record {
              stays = λ met. ap (λ (c : Count). c.met) (sym one) ∙ met;
              cause = λ unmet_then met_now. absurd (false≢true (sym unmet_then ∙ (ap (λ (c : Count). c.met) one ∙ met_now)));
            };
        on_way = last.one;
      }

-- ---- lists of watches that are changed alike

pub watched_changed : (change : Watched → Watched) (gs : List Group) (cs ns : List Count) → length cs ≡ length gs → length ns ≡ length gs
    → ((k : ℕ) (g : Group) (c n : Count) → slice_get gs k ≡ Some g → slice_get cs k ≡ Some c → slice_get ns k ≡ Some n → watched_by g n ≡ change (watched_by g c)) → watched_with gs ns ≡ map change (watched_with gs cs)
watched_changed change [] cs ns long_cs long_ns each = refl
watched_changed change (g ∷ gs) [] ns long_cs long_ns each = absurd (omega arith)
watched_changed change (g ∷ gs) (c ∷ cs) [] long_cs long_ns each = absurd (omega arith)
watched_changed change (g ∷ gs) (c ∷ cs) (n ∷ ns) long_cs long_ns each =
    let rest = watched_changed change gs cs ns (omega arith) (omega arith) (λ k x y z at_x at_y at_z. each (suc k) x y z at_x at_y at_z) in
    λ i. each 0 g c n refl refl refl i ∷ rest i

pub watches_changed : (change : Watch → Watch) (olds news : List ListedLists) → length news ≡ length olds
    → ((p : ℕ) (d e : ListedLists) → slice_get olds p ≡ Some d → slice_get news p ≡ Some e → watch_by e ≡ change (watch_by d)) → watches news ≡ map change (watches olds)
watches_changed change [] [] long each = refl
watches_changed change [] (e ∷ es) long each = absurd (omega arith)
watches_changed change (d ∷ ds) [] long each = absurd (omega arith)
watches_changed change (d ∷ ds) (e ∷ es) long each =
    let rest = watches_changed change ds es (omega arith) (λ p x y at_x at_y. each (suc p) x y at_x at_y) in
    λ i. each 0 d e refl refl i ∷ rest i

pub length_still : (olds news : List ListedLists) → map still_of news ≡ map still_of olds → length news ≡ length olds
length_still olds news same = sym (length-map news still_of) ∙ (ap (λ (xs : List Still). length xs) same ∙ length-map olds still_of)

-- ---- the depends stay in order

pub depends_kept : (olds : List ListedLists) (f : Flow) → KeepsFlow olds f → KeepsDepends olds → KeepsDepends f.depends
depends_kept olds f kept before =
    record {
      listed = kept.listed;
      gone_empty = still_empty olds f.depends kept.structure before.gone_empty;
      numbers_differ = still_differ olds f.depends kept.structure before.numbers_differ;
      count_within = omega (arith, there_counted olds f.depends (there_still olds f.depends kept.structure), before.count_within);
      places_within = omega (arith, length_still olds f.depends kept.structure, before.places_within);
    }

-- ---- what was opened

pub opened_all : (olds : List ListedLists) (f : Flow) (unmet : List ℕ) (left : ℕ) (opened : OpenedLists) → KeepsFlow olds f → KeepsSums unmet left olds
    → IsNonDecreasing opened.slots → IsPermutation f.opened.slots opened.slots → opened.satisfied ≡ f.opened.satisfied → HasOpened (watches olds) (watches f.depends) opened
unfolding opened_between
opened_all olds f unmet left opened kept sums rises moved same =
    record {
      slots = ordered (has_opened (watches olds) (watches f.depends)) SLOT_LIMIT f.opened.slots opened.slots rises moved kept.slots past;
      satisfied = λ n. ap (list_any (λ m. eqb m n)) same ∙ kept.satisfied n;
    }
  where
    past : (s : ℕ) → SLOT_LIMIT ≤ s → has_opened (watches olds) (watches f.depends) s ≡ false
    past s high =
        let none : unmet_of (watches olds) s ≡ 0 = sym (sums.unmet_kept s) ∙ ap total_in (slice_get_past unmet s (omega (arith, sums.unmet_counted))) in
        ap (λ b. b && eqb (unmet_of (watches f.depends) s) 0) (le-ltb 0 (unmet_of (watches olds) s) (omega arith))

-- ---- the end

module _ (done : List Bool) (slot : ℕ) (olds : List ListedLists) (f : Flow) (pass : IsPassing done slot olds None f) (within : slot < length done) (listed : AllListed olds) where
  abbrev flags : List Bool
  flags = slice_set done slot true

  pub end_counted : AllCounted flags f.depends
  end_counted p d at =
      record {
        undone_kept = λ k c at_count.
            pass.counts p k d c at at_count
            ∙ pending_is not done flags slot None k p d.edges (λ i e at_e on. ap not (sym (ap (is_flagged flags) on ∙ flag_set done slot true within))) (λ e off. sym (flag_other done slot e.slot true off));
        met_kept = λ k g c at_group at_count enough. pass.meets p k d g c at at_group at_count enough;
      }

  marked : (g : Group) (c n : Count) → IsMarked flags slot g c n → (is_completed flags slot g ≡ true → n.met ≡ true) → watched_by g n ≡ completed flags slot (watched_by g c)
  marked g c n mark meets = by_done (is_completed flags slot g) refl c.met refl n.met refl where
    by_done : (b : Bool) → is_completed flags slot g ≡ b → (m : Bool) → c.met ≡ m → (w : Bool) → n.met ≡ w → watched_by g n ≡ completed flags slot (watched_by g c)
    by_done true is m was w now = (λ i. record { group = g; met = meets is i }) ∙ ap (λ b. cond b (record { group = g; met = true }) (watched_by g c)) (sym is)
    by_done false is true was w now = (λ i. record { group = g; met = (mark.stays was ∙ sym was) i }) ∙ ap (λ b. cond b (record { group = g; met = true }) (watched_by g c)) (sym is)
    by_done false is false was true now = absurd (false≢true (sym is ∙ mark.cause was now))
    by_done false is false was false now = (λ i. record { group = g; met = (now ∙ sym was) i }) ∙ ap (λ b. cond b (record { group = g; met = true }) (watched_by g c)) (sym is)

  completed_one : (p : ℕ) (d e : ListedLists) → slice_get olds p ≡ Some d → slice_get f.depends p ≡ Some e → watch_by e ≡ completed_in flags slot (watch_by d)
  completed_one p d e at_d at_e =
      let still = still_pair olds f.depends pass.flow.structure p d e at_d at_e in
      let one = listed p d at_d in
      let new = pass.flow.listed p e at_e in
      let groups : d.groups ≡ e.groups = ap (λ (s : Still). s.groups) still in
      let same : watched_with e.groups e.counts ≡ map (completed flags slot) (watched_with e.groups d.counts) =
      watched_changed (completed flags slot) e.groups d.counts e.counts (one.counted ∙ ap (λ (gs : List Group). length gs) groups) new.counted
      (λ k g c n at_g at_c at_n.
      marked g c n (pass.marks p k d e g c n at_d at_e at_g at_c at_n)
      (λ is. (end_counted p e at_e).met_kept k g n at_g at_n
      (ap (is_enough g) ((end_counted p e at_e).undone_kept k n at_n ∙ (edges_counted e.edges e.groups k (λ t. not (is_flagged flags t)) new.aims ∙ ap (targets_in (λ t. not (is_flagged flags t))) at_g))
      ∙ (sym (are_done_by (is_flagged flags) g) ∙ (and_both (list_any (λ t. eqb t slot) g.targets) (are_done (is_flagged flags) g) is).1))))
      in
      let all : watched_with e.groups e.counts ≡ map (completed flags slot) (watched_with d.groups d.counts) = same ∙ ap (λ (gs : List Group). map (completed flags slot) (watched_with gs d.counts)) (sym groups) in
      λ i. record { depend = sym (ap (λ (s : Still). s.depend) still) i; groups = all i }

  pub completed_all : watches f.depends ≡ map (completed_in flags slot) (watches olds)
  completed_all = watches_changed (completed_in flags slot) olds f.depends (length_still olds f.depends pass.flow.structure) completed_one
