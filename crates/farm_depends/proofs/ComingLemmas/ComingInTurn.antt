-- Depends that come in turn: each as in the farm without the others, but for the counts.
use Rattle.std.proofs.Common.{◌≡◌, ℕ, zero, suc, ◌+◌, ◌<◌, cond, List, [], ◌∷◌, ◌++◌, length, map, get_or, take, drop, Option, Some, None, All, refl, sym, ap, subst, ◌∙◌, arith, length-append}
use Rattle.std.specs.List.{slice_get}
use Rattle.std.proofs.lemmas.List.{drop_more, map_push, take_more}
use Rattle.std.proofs.lemmas.List.Sums.{sum_by-append, sum_by-cons}
use Rattle.std.proofs.lemmas.Option.{get_or_from_slice_get, none-some, same_Some, slice_get_within}
use Rattle.farm_types.specs.declared.depend.DependRow.{DependRow}
use Rattle.farm_types.specs.declared.depend.DependSpec.{DependSpec}
use Rattle.farm_types.specs.declared.depend.MetRow.{MetRow}
use Rattle.farm_types.specs.declared.job.JobSpec.{JobSpec}
use Rattle.farm_types.specs.Formed.{IsFormedOwn}
use Rattle.std.proofs.Common.{Err}
use Rattle.farm_types.specs.declared.fault.FarmFault.{FarmFault}
use Rattle.farm_types.specs.declared.fault.FarmFault.TheVariants.{Refused, NoMemory}
use Rattle.farm_types.specs.declared.refusal.Refusal.{Refusal}
use Rattle.farm_types.specs.DependActs.{add_depend, depend_refusal, depends_refusal, new_depend, new_groups, or_else, place_refusal}
use Rattle.farm_types.specs.Depends.{groups_left, groups_of}
use Rattle.farm_types.specs.Farm.{Farm}
use Rattle.depend_book.specs.declared.new_depend.NewDepend.{NewDepend}
use Rattle.depend_graph.specs.Graph.{IsGroup}
use Rattle.farm_depends.specs.declared.new_depends.room.Counts.{Counts}
use Rattle.farm_depends.specs.Coming.{ComeAll, Comes, all_unmet_waiters, unmet_waiters, counts_full, counts_in, counts_more, each_coming, groups_refusal_with, refusal_with, refusal_with_all, self_refusal, started_refusal}
use Rattle.farm_depends.specs.Follow.{AreRoomy, all_coming, coming}
use Rattle.farm_depends.proofs.ComingLemmas.AddedFollows.{accepted_by, roomy_by}
use Rattle.farm_depends.proofs.Agree.{both_none}

-- ---- one depend

-- what isn't refused has its ends and its room
pub record IsAllowed (f : Farm) (c : Counts) (spec : DependSpec) : Type 0 where
  pub waiter : place_refusal f spec.waiter ≡ None
  pub target : place_refusal f spec.target ≡ None
  pub room : counts_full c (length (new_groups f spec)) ≡ None

pub allowed_by : (f : Farm) (c : Counts) (spec : DependSpec) → refusal_with f c spec ≡ None → IsAllowed f c spec
allowed_by f c spec none =
    let groups = new_groups f spec in
    let first = both_none (place_refusal f spec.waiter) (or_else (place_refusal f spec.target) (groups_refusal_with f c groups)) none in
    let second = both_none (place_refusal f spec.target) (groups_refusal_with f c groups) first.1 in
    let third = both_none (self_refusal f groups) (or_else (started_refusal f groups) (counts_full c (length groups))) second.1 in
    let fourth = both_none (started_refusal f groups) (counts_full c (length groups)) third.1 in
    record { waiter = first.0; target = second.0; room = fourth.1 }

pub allowed_each : (f : Farm) (c : Counts) (specs : List DependSpec) → refusal_with_all f c specs ≡ None → (n : ℕ) (spec : DependSpec) → slice_get specs n ≡ Some spec → (d : Counts) × IsAllowed f d spec
allowed_each f c [] none n spec at = absurd (none-some spec at)
allowed_each f c (s ∷ ss) none zero spec at =
    (c, subst (IsAllowed f c) (same_Some s spec at) (allowed_by f c s (both_none (refusal_with f c s) (refusal_with_all f (counts_more c (length (new_groups f s))) ss) none).0))
allowed_each f c (s ∷ ss) none (suc n) spec at =
    allowed_each f (counts_more c (length (new_groups f s))) ss (both_none (refusal_with f c s) (refusal_with_all f (counts_more c (length (new_groups f s))) ss) none).1 n spec at

-- ---- a walk along them

module _ (f : Farm) (specs : List DependSpec) (i : ℕ) (spec : DependSpec) (within : i < length specs) (is : spec ≡ get_or specs i spec) (c : Counts) (total : Option Refusal) (left : refusal_with_all f c (drop i specs) ≡ total) where
  here : or_else (refusal_with f c spec) (refusal_with_all f (counts_more c (length (new_groups f spec))) (drop (i + 1) specs)) ≡ total
  here = sym (ap (refusal_with_all f c) (drop_more specs i spec within ∙ ap (λ (s : DependSpec). s ∷ drop (i + 1) specs) (sym is))) ∙ left

  pub left_fault : (why : Refusal) → refusal_with f c spec ≡ Some why → total ≡ Some why
  left_fault why refused = sym here ∙ ap (λ (o : Option Refusal). or_else o (refusal_with_all f (counts_more c (length (new_groups f spec))) (drop (i + 1) specs))) refused

  pub left_more : (d : Counts) → d ≡ counts_more c (length (new_groups f spec)) → refusal_with f c spec ≡ None → refusal_with_all f d (drop (i + 1) specs) ≡ total
  left_more d more none =
      ap (λ (e : Counts). refusal_with_all f e (drop (i + 1) specs)) more
      ∙ (sym (ap (λ (o : Option Refusal). or_else o (refusal_with_all f (counts_more c (length (new_groups f spec))) (drop (i + 1) specs))) none) ∙ here)

  pub coming_more : each_coming f (take (i + 1) specs) ≡ each_coming f (take i specs) ++ coming f spec ∷ []
  coming_more = ap (map (coming f)) (take_more specs i spec within ∙ ap (λ (s : DependSpec). take i specs ++ s ∷ []) (sym is)) ∙ map_push (coming f) (take i specs) spec

-- ---- the farm with those before

-- what is refused doesn't see the depends
pub refused_alike : (f : Farm) (ds : List DependRow) (ms : List MetRow) (next : ℕ) (c : Counts) (specs : List DependSpec) → refusal_with_all (record f { depends = ds; met = ms; next_depend = next }) c specs ≡ refusal_with_all f c specs
unfolding groups_of
refused_alike f ds ms next c [] = refl
refused_alike f ds ms next c (s ∷ ss) = ap (or_else (refusal_with f c s)) (refused_alike f ds ms next (counts_more c (length (new_groups f s))) ss)

left_added : (f : Farm) (spec : DependSpec) → groups_left (add_depend f spec) ≡ groups_left f + length (new_groups f spec)
unfolding groups_of
left_added f spec =
    let weight : DependRow → ℕ = λ (d : DependRow). cond d.met_all 0 (length (groups_of f d)) in
    sum_by-append weight f.depends (new_depend f spec ∷ []) ∙ omega (arith, sum_by-cons weight (new_depend f spec) [])

counts_added : (f : Farm) (spec : DependSpec) → counts_in (add_depend f spec) ≡ counts_more (counts_in f) (length (new_groups f spec))
counts_added f spec = λ i. record { depends = (length-append f.depends (new_depend f spec ∷ [])) i; groups = (left_added f spec) i; next = f.next_depend + 1 }

-- the refusals of depends in turn, by counts
pub in_turn : (f : Farm) (specs : List DependSpec) → depends_refusal f specs ≡ refusal_with_all f (counts_in f) specs
unfolding depend_refusal groups_of
in_turn f [] = refl
in_turn f (s ∷ ss) =
    ap (or_else (refusal_with f (counts_in f) s))
    (in_turn (add_depend f s) ss ∙ (ap (λ (c : Counts). refusal_with_all (add_depend f s) c ss) (counts_added f s) ∙ refused_alike f (f.depends ++ new_depend f s ∷ []) f.met (f.next_depend + 1) (counts_more (counts_in f) (length (new_groups f s))) ss))

-- the depends as each comes
pub all_are : (f : Farm) (specs : List DependSpec) → all_coming f specs ≡ each_coming f specs
unfolding groups_of
all_are f [] = refl
all_are f (s ∷ ss) = ap (λ (ns : List NewDepend). coming f s ∷ ns) (all_are (add_depend f s) ss)

-- there is room for each in turn
pub all_roomy : (f : Farm) (specs : List DependSpec) → ((n : ℕ) (spec : DependSpec) → slice_get specs n ≡ Some spec → All IsGroup (new_groups f spec)) → depends_refusal f specs ≡ None → AreRoomy f (all_coming f specs)
unfolding groups_of
all_roomy f [] each none = tt
all_roomy f (s ∷ ss) each none =
    let both = both_none (depend_refusal f s) (depends_refusal (add_depend f s) ss) none in
    (roomy_by f s (accepted_by f s both.0) (each 0 s refl), all_roomy (add_depend f s) ss (λ n spec at. each (suc n) spec at) both.1)

-- ---- a job's own depends

-- in each the job itself waits
pub own_each : (job : JobSpec) → All (IsFormedOwn job.name) job.depends → (i : ℕ) (spec : DependSpec) → i < length job.depends → spec ≡ get_or job.depends i spec → spec.waiter.job ≡ job.name
own_each job each i spec within is = subst (λ (s : DependSpec). s.waiter.job ≡ job.name) (sym is) (each i spec within).own

pub own_at : (job : JobSpec) → All (IsFormedOwn job.name) job.depends → (n : ℕ) (d : DependSpec) → slice_get job.depends n ≡ Some d → d.waiter.job ≡ job.name
own_at job each n d at = own_each job each n d (slice_get_within job.depends n d at) (sym (get_or_from_slice_get job.depends n d d at))

-- who waits unmet doesn't hang on the depends before
pub waiters_alike : (f : Farm) (ds : List DependRow) (ms : List MetRow) (next : ℕ) (specs : List DependSpec) → all_unmet_waiters f specs ≡ all_unmet_waiters (record f { depends = ds; met = ms; next_depend = next }) specs
unfolding groups_of
waiters_alike f ds ms next [] = refl
waiters_alike f ds ms next (s ∷ ss) = ap (λ (ns : List ℕ). unmet_waiters f s ++ ns) (waiters_alike f ds ms next ss)

module _ (f : Farm) (specs : List DependSpec) (i : ℕ) (spec : DependSpec) (within : i < length specs) (is : spec ≡ get_or specs i spec) (first c : Counts) (left : refusal_with_all f c (drop i specs) ≡ refusal_with_all f first specs) where
  -- the refusal of one is the first refusal of all
  pub fault_comes : (fault : FarmFault) → Comes f c spec (Err fault) → ComeAll f first specs (Err fault)
  fault_comes (Refused why) refused = left_fault f specs i spec within is c (refusal_with_all f first specs) left why refused
  fault_comes NoMemory refused = tt
