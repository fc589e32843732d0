-- Depends without those of which no group is left.
use Rattle.std.proofs.Common.{◌≡◌, ℕ, zero, suc, Bool, true, false, not, cond, eqb, ltb, List, [], ◌∷◌, map, length, Some, refl, sym, ap, subst, ◌∙◌, arith}
use Rattle.std.specs.Prelude.{◌&&◌, ◌||◌}
use Rattle.std.specs.List.{slice_get, slice_set, sum_by, count_by, filter, list_all, list_any}
use Rattle.std.proofs.lemmas.Bool.{eqb-true, ne_eqb, false≢true}
use Rattle.std.proofs.lemmas.List.Sums.{sum_by-cons}
use Rattle.std.proofs.lemmas.Option.{none-some, same_Some, slice_get-map}
use Rattle.farm_types.specs.declared.depend.Group.{Group}
use Rattle.farm_types.specs.declared.limits.TheConstants.{SLOT_LIMIT}
use Rattle.farm_types.specs.declared.depend.MetRow.{MetRow}
use Rattle.farm_types.proofs.Lists.{and_both}
use Rattle.farm_types.proofs.Passes.{option_map-from}
use Rattle.depend_edges.specs.Listed.{ListedLists, has_number, is_there}
use Rattle.depend_edges.specs.declared.listed.Count.{Count}
use Rattle.depend_graph.specs.Graph.{GraphLists, HasMet, HasOpened, OpenedLists, Watch, Watched, became_satisfied, completed, completed_in, group_mark, groups_at, groups_left, holds, is_met, is_satisfied, met_between, met_group, met_where, numbers_from, opened_between, unmet_in, unmet_of, was_met, was_satisfied, with_all_done, with_done}
use Rattle.depend_graph.specs.Inside.{KeepsDepends, there_of, watches}
use Rattle.depend_graph.specs.Watches.{mark_for, watch_by, watched_with}
use Rattle.depend_graph.specs.declared.trials.marks.Marks.{Marks}
use Rattle.depend_graph.proofs.GoingLemmas.Gone.{gone_by}
use Rattle.depend_graph.proofs.ProgressLemmas.Watches.{weight_of}

-- those with a mark
abbrev pub thinned : List Bool → List Watch → List Watch
thinned [] ws = ws
thinned (b ∷ bs) [] = []
thinned (b ∷ bs) (w ∷ ws) = cond b (w ∷ thinned bs ws) (thinned bs ws)

-- no group is left of those without one
abbrev pub AreEmpty : List Bool → List Watch → Type 0
AreEmpty bs ws = (p : ℕ) (w : Watch) → slice_get bs p ≡ Some false → slice_get ws p ≡ Some w → w.groups ≡ []

pub thinned_sum : (weight : Watch → ℕ) → ((w : Watch) → w.groups ≡ [] → weight w ≡ 0) → (bs : List Bool) (ws : List Watch) → AreEmpty bs ws → sum_by weight ws ≡ sum_by weight (thinned bs ws)
thinned_sum weight none [] ws empty = refl
thinned_sum weight none (b ∷ bs) [] empty = refl
thinned_sum weight none (b ∷ bs) (w ∷ ws) empty = by_mark b refl (thinned_sum weight none bs ws (λ p v at_b at. empty (suc p) v at_b at)) where
  by_mark : (m : Bool) → b ≡ m → sum_by weight ws ≡ sum_by weight (thinned bs ws) → sum_by weight (w ∷ ws) ≡ sum_by weight (cond m (w ∷ thinned bs ws) (thinned bs ws))
  by_mark true is more = omega (arith, sum_by-cons weight w ws, sum_by-cons weight w (thinned bs ws), more)
  by_mark false is more = omega (arith, sum_by-cons weight w ws, none w (empty 0 w (ap (λ (x : Bool). Some x) is) refl), more)

none_unmet : (s : ℕ) (w : Watch) → w.groups ≡ [] → unmet_in s w ≡ 0
none_unmet s w none = ap (λ (ws : List Watched). count_by (holds s) ws) none

none_left : (w : Watch) → w.groups ≡ [] → weight_of w ≡ 0
none_left w none = ap (λ (ws : List Watched). cond (list_all is_met ws) 0 (length ws)) none

pub thinned_unmet : (bs : List Bool) (ws : List Watch) → AreEmpty bs ws → (s : ℕ) → unmet_of ws s ≡ unmet_of (thinned bs ws) s
thinned_unmet bs ws empty s = thinned_sum (unmet_in s) (none_unmet s) bs ws empty

pub thinned_left : (bs : List Bool) (ws : List Watch) → AreEmpty bs ws → groups_left ws ≡ groups_left (thinned bs ws)
thinned_left bs ws empty = thinned_sum weight_of none_left bs ws empty

-- ---- a change of each

thinned_map : (f : Watch → Watch) (bs : List Bool) (ws : List Watch) → thinned bs (map f ws) ≡ map f (thinned bs ws)
thinned_map f [] ws = refl
thinned_map f (b ∷ bs) [] = refl
thinned_map f (b ∷ bs) (w ∷ ws) = by_mark b (thinned_map f bs ws) where
  by_mark : (m : Bool) → thinned bs (map f ws) ≡ map f (thinned bs ws) → cond m (f w ∷ thinned bs (map f ws)) (thinned bs (map f ws)) ≡ map f (cond m (w ∷ thinned bs ws) (thinned bs ws))
  by_mark true more = ap (λ (vs : List Watch). f w ∷ vs) more
  by_mark false more = more

empty_map : (f : Watch → Watch) → ((w : Watch) → w.groups ≡ [] → (f w).groups ≡ []) → (bs : List Bool) (ws : List Watch) → AreEmpty bs ws → AreEmpty bs (map f ws)
empty_map f keeps bs ws empty = λ p v at_b at.
    let x = option_map-from f (slice_get ws p) v (sym (slice_get-map f ws p) ∙ at) in
    subst (λ (u : Watch). u.groups ≡ []) x.2 (keeps x.0 (empty p x.0 at_b x.1))

-- ---- what opens

was_none : (n : ℕ) (ws : List Watch) → was_satisfied ws [] n ≡ false
was_none n [] = refl
was_none n (w ∷ ws) = refl

never_became : (n : ℕ) (old new : Watch) → old.groups ≡ [] → became_satisfied n old new ≡ false
never_became n old new none = ap (λ (ws : List Watched). eqb old.depend n && (not (list_all is_met ws) && is_satisfied new)) none ∙ off (eqb old.depend n) where
  off : (b : Bool) → (b && false) ≡ false
  off true = refl
  off false = refl

thinned_was : (n : ℕ) (bs : List Bool) (olds news : List Watch) → AreEmpty bs olds → was_satisfied olds news n ≡ was_satisfied (thinned bs olds) (thinned bs news) n
thinned_was n [] olds news empty = refl
thinned_was n (b ∷ bs) [] news empty = refl
thinned_was n (b ∷ bs) (o ∷ os) [] empty = sym (was_none n (thinned (b ∷ bs) (o ∷ os)))
thinned_was n (b ∷ bs) (o ∷ os) (v ∷ vs) empty = by_mark b refl (thinned_was n bs os vs (λ p w at_b at. empty (suc p) w at_b at)) where
  by_mark : (m : Bool) → b ≡ m → was_satisfied os vs n ≡ was_satisfied (thinned bs os) (thinned bs vs) n
      → was_satisfied (o ∷ os) (v ∷ vs) n ≡ was_satisfied (cond m (o ∷ thinned bs os) (thinned bs os)) (cond m (v ∷ thinned bs vs) (thinned bs vs)) n
  by_mark true is more = ap (λ c. cond (became_satisfied n o v) true c) more
  by_mark false is more = ap (λ c. cond c true (was_satisfied os vs n)) (never_became n o v (empty 0 o (ap (λ (x : Bool). Some x) is) refl)) ∙ more

-- the same of groups that became met
met_none : (n position : ℕ) (ws : List Watch) → was_met ws [] n position ≡ false
met_none n position [] = refl
met_none n position (w ∷ ws) = refl

never_met : (n position : ℕ) (old new : Watch) → old.groups ≡ [] → (eqb old.depend n && met_between position old.groups new.groups) ≡ false
never_met n position old new none = ap (λ (ws : List Watched). eqb old.depend n && met_between position ws new.groups) none ∙ off (eqb old.depend n) where
  off : (b : Bool) → (b && false) ≡ false
  off true = refl
  off false = refl

thinned_met : (n position : ℕ) (bs : List Bool) (olds news : List Watch) → AreEmpty bs olds → was_met olds news n position ≡ was_met (thinned bs olds) (thinned bs news) n position
thinned_met n position [] olds news empty = refl
thinned_met n position (b ∷ bs) [] news empty = refl
thinned_met n position (b ∷ bs) (o ∷ os) [] empty = sym (met_none n position (thinned (b ∷ bs) (o ∷ os)))
thinned_met n position (b ∷ bs) (o ∷ os) (v ∷ vs) empty = by_mark b refl (thinned_met n position bs os vs (λ p w at_b at. empty (suc p) w at_b at)) where
  by_mark : (m : Bool) → b ≡ m → was_met os vs n position ≡ was_met (thinned bs os) (thinned bs vs) n position
      → was_met (o ∷ os) (v ∷ vs) n position ≡ was_met (cond m (o ∷ thinned bs os) (thinned bs os)) (cond m (v ∷ thinned bs vs) (thinned bs vs)) n position
  by_mark true is more = ap (λ c. cond (eqb o.depend n && met_between position o.groups v.groups) true c) more
  by_mark false is more = ap (λ c. cond c true (was_met os vs n position)) (never_met n position o v (empty 0 o (ap (λ (x : Bool). Some x) is) refl)) ∙ more

pub thinned_between : (bs : List Bool) (olds news : List Watch) → AreEmpty bs olds → AreEmpty bs news → opened_between olds news ≡ opened_between (thinned bs olds) (thinned bs news)
unfolding opened_between
thinned_between bs olds news old new = λ i. filter (λ s. ltb 0 (thinned_unmet bs olds old s i) && eqb (thinned_unmet bs news new s i) 0) (numbers_from SLOT_LIMIT 0)

-- ---- frames that are done, one after the other

pub thinned_done : (bs : List Bool) (g : GraphLists) (slots : List ℕ) → AreEmpty bs g.depends
    → ((with_all_done (record { done = g.done; depends = thinned bs g.depends }) slots).depends ≡ thinned bs (with_all_done g slots).depends) × AreEmpty bs (with_all_done g slots).depends
thinned_done bs g [] empty = (refl, empty)
thinned_done bs g (s ∷ ss) empty =
    let f = completed_in (slice_set g.done s true) s in
    let more = thinned_done bs (with_done g s true) ss (empty_map f (λ w none. ap (map (completed (slice_set g.done s true) s)) none) bs g.depends empty) in
    (ap (λ (ws : List Watch). (with_all_done (record { done = slice_set g.done s true; depends = ws }) ss).depends) (sym (thinned_map f bs g.depends)) ∙ more.0, more.1)

-- ---- the depends of the graph

pub there_thinned : (ds : List ListedLists) → watches (there_of ds) ≡ thinned (map is_there ds) (watches ds)
there_thinned [] = refl
there_thinned (d ∷ ds) = by_mark (is_there d) (there_thinned ds) where
  by_mark : (m : Bool) → watches (there_of ds) ≡ thinned (map is_there ds) (watches ds) → watches (cond m (d ∷ there_of ds) (there_of ds)) ≡ cond m (watch_by d ∷ thinned (map is_there ds) (watches ds)) (thinned (map is_there ds) (watches ds))
  by_mark true more = ap (λ (ws : List Watch). watch_by d ∷ ws) more
  by_mark false more = more

pub empty_there : (ds : List ListedLists) → KeepsDepends ds → AreEmpty (map is_there ds) (watches ds)
empty_there ds depends = λ p w at_b at_w.
    let x = option_map-from watch_by (slice_get ds p) w (sym (slice_get-map watch_by ds p) ∙ at_w) in
    let y = option_map-from is_there (slice_get ds p) false (sym (slice_get-map is_there ds p) ∙ at_b) in
    let gone = depends.gone_empty p y.0 y.1 (gone_by y.0 y.2) in
    let same : y.0 ≡ x.0 = same_Some y.0 x.0 (sym y.1 ∙ x.1) in
    let none : x.0.groups ≡ [] = ap (λ (d : ListedLists). d.groups) (sym same) ∙ gone in
    ap (λ (v : Watch). v.groups) (sym x.2) ∙ ap (λ (gs : List Group). watched_with gs x.0.counts) none

module _ (olds news : List ListedLists) (marks : map is_there news ≡ map is_there olds) where
  pub mapped_there : (f : Watch → Watch) → watches news ≡ map f (watches olds) → watches (there_of news) ≡ map f (watches (there_of olds))
  mapped_there f same =
      there_thinned news
      ∙ ((λ i. thinned (marks i) (same i))
      ∙ (thinned_map f (map is_there olds) (watches olds) ∙ ap (map f) (sym (there_thinned olds))))

  pub same_there : watches news ≡ watches olds → watches (there_of news) ≡ watches (there_of olds)
  same_there same = there_thinned news ∙ ((λ i. thinned (marks i) (same i)) ∙ sym (there_thinned olds))

module _ (olds news : List ListedLists) (before : KeepsDepends olds) (after : KeepsDepends news) (marks : map is_there news ≡ map is_there olds) where
  new_empty : AreEmpty (map is_there olds) (watches news)
  new_empty = subst (λ (bs : List Bool). AreEmpty bs (watches news)) marks (empty_there news after)

  new_thinned : watches (there_of news) ≡ thinned (map is_there olds) (watches news)
  new_thinned = there_thinned news ∙ ap (λ (bs : List Bool). thinned bs (watches news)) marks

  pub opened_there : (opened : OpenedLists) → HasOpened (watches olds) (watches news) opened → HasOpened (watches (there_of olds)) (watches (there_of news)) opened
  opened_there opened has =
      record {
        slots =
            has.slots
            ∙ (thinned_between (map is_there olds) (watches olds) (watches news) (empty_there olds before) new_empty
            ∙ λ i. opened_between (sym (there_thinned olds) i) (sym new_thinned i));
        satisfied = λ n.
            has.satisfied n
            ∙ (thinned_was n (map is_there olds) (watches olds) (watches news) (empty_there olds before)
            ∙ λ i. was_satisfied (sym (there_thinned olds) i) (sym new_thinned i) n);
      }

pub there_unmet : (ds : List ListedLists) → KeepsDepends ds → (s : ℕ) → unmet_of (watches ds) s ≡ unmet_of (watches (there_of ds)) s
there_unmet ds depends s = thinned_unmet (map is_there ds) (watches ds) (empty_there ds depends) s ∙ ap (λ (ws : List Watch). unmet_of ws s) (sym (there_thinned ds))

pub there_left : (ds : List ListedLists) → KeepsDepends ds → groups_left (watches ds) ≡ groups_left (watches (there_of ds))
there_left ds depends = thinned_left (map is_there ds) (watches ds) (empty_there ds depends) ∙ ap groups_left (sym (there_thinned ds))

-- ---- what would become of them

pub there_done : (ds : List ListedLists) → KeepsDepends ds → (done : List Bool) (slots : List ℕ) (s : ℕ)
    → unmet_of (with_all_done (record { done = done; depends = watches (there_of ds) }) slots).depends s ≡ unmet_of (with_all_done (record { done = done; depends = watches ds }) slots).depends s
there_done ds depends done slots s =
    let all : GraphLists = record { done = done; depends = watches ds } in
    let more = thinned_done (map is_there ds) all slots (empty_there ds depends) in
    ap (λ (ws : List Watch). unmet_of (with_all_done (record { done = done; depends = ws }) slots).depends s) (there_thinned ds)
    ∙ (ap (λ (ws : List Watch). unmet_of ws s) more.0 ∙ sym (thinned_unmet (map is_there ds) (with_all_done all slots).depends more.1 s))

met_empty : (n : ℕ) (w : Watch) → w.groups ≡ [] → (met_where n w).groups ≡ []
met_empty n w none = by_test (eqb w.depend n) where
  by_test : (b : Bool) → (cond b (record { depend = w.depend; groups = map met_group w.groups }) w).groups ≡ []
  by_test true = ap (map met_group) none
  by_test false = none

pub there_met : (ds : List ListedLists) → KeepsDepends ds → (n s : ℕ) → unmet_of (map (met_where n) (watches (there_of ds))) s ≡ unmet_of (map (met_where n) (watches ds)) s
there_met ds depends n s =
    let bs = map is_there ds in
    ap (λ (ws : List Watch). unmet_of (map (met_where n) ws) s) (there_thinned ds)
    ∙ (ap (λ (ws : List Watch). unmet_of ws s) (sym (thinned_map (met_where n) bs (watches ds)))
    ∙ sym (thinned_unmet bs (map (met_where n) (watches ds)) (empty_map (met_where n) (met_empty n) bs (watches ds) (empty_there ds depends)) s))

-- what would be met, of those that are there
pub there_meets : (ds : List ListedLists) → KeepsDepends ds → (done : List Bool) (slots : List ℕ) (marks : Marks) → HasMet (watches ds) (with_all_done (record { done = done; depends = watches ds }) slots).depends marks
    → HasMet (watches (there_of ds)) (with_all_done (record { done = done; depends = watches (there_of ds) }) slots).depends marks
there_meets ds depends done slots marks has =
    let bs = map is_there ds in
    let all : GraphLists = record { done = done; depends = watches ds } in
    let last = (with_all_done all slots).depends in
    let empty = empty_there ds depends in
    let then : (with_all_done (record { done = done; depends = watches (there_of ds) }) slots).depends ≡ thinned bs last =
    ap (λ (ws : List Watch). (with_all_done (record { done = done; depends = ws }) slots).depends) (there_thinned ds) ∙ (thinned_done bs all slots empty).0 in
    record {
      met = λ n position. has.met n position ∙ (thinned_met n position bs (watches ds) last empty ∙ λ i. was_met (sym (there_thinned ds) i) (sym then i) n position);
      satisfied = λ n. has.satisfied n ∙ (thinned_was n bs (watches ds) last empty ∙ λ i. was_satisfied (sym (there_thinned ds) i) (sym then i) n);
    }

-- ---- the groups of one

-- no two that are there have one number
abbrev AreApart : List ListedLists → Type 0
AreApart ds = (p q : ℕ) (d e : ListedLists) → slice_get ds p ≡ Some d → slice_get ds q ≡ Some e → is_there d ≡ true → is_there e ≡ true → d.depend ≡ e.depend → p ≡ q

pub groups_there : (ds : List ListedLists) → AreApart ds → (p n : ℕ) (d : ListedLists) → slice_get ds p ≡ Some d → has_number n d ≡ true → groups_at (watches (there_of ds)) n ≡ (watch_by d).groups
groups_there [] differ p n d at is = absurd (none-some d at)
groups_there (x ∷ xs) differ zero n d at is =
    let same : x ≡ d = same_Some x d at in
    let both = and_both (is_there x) (eqb x.depend n) (ap (has_number n) same ∙ is) in
    ap (λ b. groups_at (watches (cond b (x ∷ there_of xs) (there_of xs))) n) both.0
    ∙ (ap (λ b. cond b (watch_by x).groups (groups_at (watches (there_of xs)) n)) both.1 ∙ ap (λ (y : ListedLists). (watch_by y).groups) same)
groups_there (x ∷ xs) differ (suc p) n d at is =
    by_mark (is_there x) refl (groups_there xs (λ i j a b at_a at_b there_a there_b same. let e : suc i ≡ suc j = differ (suc i) (suc j) a b at_a at_b there_a there_b same in omega arith) p n d at is)
  where
    both : (is_there d ≡ true) × (eqb d.depend n ≡ true)
    both = and_both (is_there d) (eqb d.depend n) is

    by_mark : (m : Bool) → is_there x ≡ m → groups_at (watches (there_of xs)) n ≡ (watch_by d).groups → groups_at (watches (cond m (x ∷ there_of xs) (there_of xs))) n ≡ (watch_by d).groups
    by_mark true there more = ap (λ b. cond b (watch_by x).groups (groups_at (watches (there_of xs)) n)) other ∙ more where
      other : eqb x.depend n ≡ false
      other = ne_eqb x.depend n (λ e. absurd (let same : 0 ≡ suc p = differ 0 (suc p) x d refl at there both.0 (e ∙ sym (eqb-true d.depend n both.1)) in omega arith))
    by_mark false there more = more

pub no_groups : (ds : List ListedLists) (n : ℕ) → list_any (has_number n) ds ≡ false → groups_at (watches (there_of ds)) n ≡ []
no_groups [] n none = refl
no_groups (x ∷ xs) n none = by_mark (is_there x) refl (no_groups xs n parts.1) where
  parts : (has_number n x ≡ false) × (list_any (has_number n) xs ≡ false)
  parts = neither (has_number n x) (list_any (has_number n) xs) none where
    neither : (a b : Bool) → (a || b) ≡ false → (a ≡ false) × (b ≡ false)
    neither true b isnt = absurd (false≢true (sym isnt))
    neither false b isnt = (refl, isnt)

  by_mark : (m : Bool) → is_there x ≡ m → groups_at (watches (there_of xs)) n ≡ [] → groups_at (watches (cond m (x ∷ there_of xs) (there_of xs))) n ≡ []
  by_mark true there more = ap (λ b. cond b (watch_by x).groups (groups_at (watches (there_of xs)) n)) (sym (ap (λ b. b && eqb x.depend n) there) ∙ parts.0) ∙ more
  by_mark false there more = more

pub marks_watched : (n : ℕ) (gs : List Group) (cs : List Count) → length cs ≡ length gs → map (mark_for n) gs ≡ map (group_mark n) (watched_with gs cs)
marks_watched n [] cs same = refl
marks_watched n (g ∷ gs) [] same = absurd (omega arith)
marks_watched n (g ∷ gs) (c ∷ cs) same = ap (λ (ms : List MetRow). mark_for n g ∷ ms) (marks_watched n gs cs (omega arith))
