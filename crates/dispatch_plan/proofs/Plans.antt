-- What a plan needs of the law: which jobs are offered, whose they are, and that what is offered is the order.
use Rattle.std.proofs.Common.{◌≡◌, ℕ, zero, suc, ◌+◌, ◌≤◌, ◌<◌, ◌&&◌, true, false, List, [], ◌∷◌, map, take, length, Option, Some, None, refl, sym, ap, ◌∙◌, arith, eqb}
use Rattle.std.specs.Cmp.Derive.{both_true}
use Rattle.std.specs.List.{slice_get, flat_map}
use Rattle.std.specs.Prelude.{nat_lt, nat_le}
use Rattle.std.proofs.lemmas.Bool.{false≢true, le-leb, leb-true, ltb-true}
use Rattle.std.proofs.lemmas.Option.{same_Some, none-some}
use Rattle.farm_types.specs.declared.dispatch.Rank.{Rank}
use Rattle.farm_types.specs.declared.rows.HostRow.{HostRow}
use Rattle.farm_types.specs.declared.rows.JobRow.{JobRow}
use Rattle.farm_types.specs.declared.rows.LayerRow.{LayerRow}
use Rattle.farm_types.specs.declared.rows.SubRow.{SubRow}
use Rattle.farm_types.specs.declared.slot_row.SlotRow.{SlotRow}
use Rattle.farm_types.specs.declared.limits.TheConstants.{CANDIDATES_EACH, LEAST_CORES, LEAST_MEMORY, MOST_ALLOCS, MOST_COMMAND, MOST_CORES, MOST_FRAMES, MOST_LAYERS, MOST_MEMORY, MOST_SHOWS}
use Rattle.farm_types.specs.Booking.{has_capacity}
use Rattle.farm_types.specs.Dispatch.{plan_for, rank_of, ranks_from, sorted_ranks, with_found}
use Rattle.farm_types.specs.Farm.{Farm, job_at, sub_of, layers_of}
use Rattle.farm_types.specs.Forms.{is_between, is_command_text, is_name_text}
use Rattle.farm_types.specs.Kept.{KeepsRows, are_tags, is_formed_job, is_formed_layer}
use Rattle.farm_types.specs.Ranges.{is_range_text, range_numbers}
use Rattle.farm_types.specs.Sums.{used_cores, used_memory}
use Rattle.farm_types.proofs.Lists.{and_both, list_all-at}
use Rattle.farm_law.proofs.KeptJobsCounts.{weight_within}
use Rattle.farm_law.proofs.KeptJobsFormed.{job_formed}
use Rattle.job_book.specs.Index.{ready_of}
use Rattle.farm_types.specs.Step.{lists_of}
use Rattle.dispatch_law.specs.ByIndex.{ranks_in_show, show_of, sorted_subs, subs_to}
use Rattle.dispatch_plan.specs.Offers.{AreBilled, IsBilled, IsPending, IsShowBilled, candidates_of, has_least_free, offered, subs_from}
use Rattle.dispatch_law.proofs.ByIndexLaw.{index_is_sorted}
use Rattle.dispatch_law.proofs.Found.{find_has}
use Rattle.dispatch_law.proofs.InShow.{job_found, ready_job, ready_jobs}
use Rattle.dispatch_law.proofs.RankFacts.{ranked}
use Rattle.dispatch_law.proofs.Strict.{Has}
use Rattle.dispatch_plan.proofs.SubList.{show_below, subs_from_is}
use Rattle.dispatch_law.proofs.Subs.{sub_found, sub_to}

-- ---- ready jobs

mapped_at : {X : Type 0} (g : X → ℕ) (xs : List X) (n y : ℕ) → slice_get (map g xs) n ≡ Some y → (x : X) × (slice_get xs n ≡ Some x) × (g x ≡ y)
mapped_at g [] n y e = absurd (none-some y e)
mapped_at g (x ∷ xs) zero y e = (x, refl, same_Some (g x) y e)
mapped_at g (x ∷ xs) (suc n) y e = mapped_at g xs n y e

-- a ready job is pending, and its attempts are of its show's subscription
pub record IsOffered (f : Farm) (host show sub job : ℕ) : Type 0 where
  pub pending : IsPending f job
  pub billed : IsBilled f host job sub

pub ready_offered : (f : Farm) (host show sub n job : ℕ) → KeepsRows f → IsShowBilled f host show sub → slice_get (ready_of (lists_of f) show) n ≡ Some job → IsOffered f host show sub job
ready_offered f host show sub n job kept billed at =
    let row = mapped_at (λ (j : JobRow). j.job) (ready_jobs f show) n job at in
    let ready = ready_job f host (length f.shows) kept.jobs show row.0 (record { place = n; at = row.1 }) in
    record {
      pending = record { job = row.0; place = ready.there.place; at = ready.there.at; number_is = row.2; pending = ready.pending };
      billed = λ j h found hosted.
          let number : job_at f job ≡ Some row.0 = ap (job_at f) (sym row.2) ∙ job_found f host (length f.shows) kept.jobs row.0 ready.there in
          let same : j ≡ row.0 = same_Some j row.0 (sym found ∙ number) in
          ap (λ (i : JobRow). sub_of i.show h.alloc) same ∙ (ap (λ s. sub_of s h.alloc) ready.show_is ∙ billed h hosted);
    }

-- ---- short layers

-- a layer of a pending job says as many frames at most as a job has
pub layer_short : (f : Farm) (job n : ℕ) (l : LayerRow) → KeepsRows f → IsPending f job → slice_get (layers_of f.layers job) n ≡ Some l → length (range_numbers l.range) ≤ MOST_FRAMES
layer_short f job n l kept it at =
    let layers = kept.jobs.jobs_layered it.place it.job it.at it.pending in
    let there : slice_get (layers_of f.layers it.job.job) n ≡ Some l = ap (λ k. slice_get (layers_of f.layers k) n) it.number_is ∙ at in
    let within = weight_within (λ (m : LayerRow). length (range_numbers m.range)) (layers_of f.layers it.job.job) n l there in
    let said = layers.frames in
    let formed = job_formed (length f.shows) it.job (list_all-at (is_formed_job (length f.shows)) f.jobs it.place it.job kept.jobs.jobs_formed it.at) in
    let most = leb-true it.job.frames MOST_FRAMES (and_both (nat_le 1 it.job.frames) (nat_le it.job.frames MOST_FRAMES) formed.frames).1 in
    omega (arith, within, said, most)

-- a formed layer has the least amounts
layer_formed : (l : LayerRow) → is_formed_layer l ≡ true → (LEAST_CORES ≤ l.cores) × (LEAST_MEMORY ≤ l.memory)
layer_formed l h =
    let tags = are_tags 1 l.tags in
    let memory = is_between LEAST_MEMORY MOST_MEMORY l.memory && tags in
    let cores = is_between LEAST_CORES MOST_CORES l.cores && memory in
    let bytes = is_command_text l.command && cores in
    let command = is_between 1 MOST_COMMAND (length l.command) && bytes in
    let range = is_range_text l.range && command in
    let place = nat_lt l.place MOST_LAYERS && range in
    let h1 = (and_both (is_name_text l.name) place h).1 in
    let h2 = (and_both (nat_lt l.place MOST_LAYERS) range h1).1 in
    let h3 = (and_both (is_range_text l.range) command h2).1 in
    let h4 = (and_both (is_between 1 MOST_COMMAND (length l.command)) bytes h3).1 in
    let h5 = (and_both (is_command_text l.command) cores h4).1 in
    let h6 = and_both (is_between LEAST_CORES MOST_CORES l.cores) memory h5 in
    let h7 = (and_both (is_between LEAST_MEMORY MOST_MEMORY l.memory) tags h6.1).0 in (
      leb-true LEAST_CORES l.cores (and_both (nat_le LEAST_CORES l.cores) (nat_le l.cores MOST_CORES) h6.0).0,
      leb-true LEAST_MEMORY l.memory (and_both (nat_le LEAST_MEMORY l.memory) (nat_le l.memory MOST_MEMORY) h7).0,
    )

-- ---- subscriptions

-- those to the host's allocation
pub subs_billed : (f : Farm) (host : ℕ) (row : HostRow) → KeepsRows f → slice_get f.hosts host ≡ Some row → AreBilled f host (sorted_subs f (subs_to f row.alloc))
subs_billed f host row kept hosted n s at =
    let to = sub_to f kept.shows (length f.allocs) kept.subs row.alloc s (record { place = n; at = at }) in
    let alloc = to.alloc_is in
    record {
      there = sub_found f kept.shows (length f.allocs) kept.subs s to.there;
      show_within = show_below f s kept to.there;
      billed = λ h there.
          let same : h.alloc ≡ row.alloc = ap (λ (r : HostRow). r.alloc) (same_Some h row (sym there ∙ hosted)) in
          omega (arith, same, alloc);
    }

alloc_within : (f : Farm) (host : ℕ) (row : HostRow) → KeepsRows f → slice_get f.hosts host ≡ Some row → row.alloc < MOST_ALLOCS
alloc_within f host row kept hosted =
    let there = ltb-true row.alloc (length f.allocs) (list_all-at (λ (z : HostRow). nat_lt z.alloc (length f.allocs)) f.hosts host row kept.hosts.allocated hosted) in
    let count = kept.allocs.count in
    omega (arith, there, count)

-- as they are read show by show
pub subs_read : (f : Farm) (host : ℕ) (row : HostRow) → KeepsRows f → slice_get f.hosts host ≡ Some row → subs_from f row.alloc 0 MOST_SHOWS ≡ subs_to f row.alloc
subs_read f host row kept hosted = subs_from_is f row.alloc kept (alloc_within f host row kept hosted)

-- ---- the plan

-- what is offered of all subscriptions is the plan
pub plan_is : (f : Farm) (host : ℕ) (row : HostRow) → KeepsRows f → slice_get f.hosts host ≡ Some row
    → offered [] (flat_map (λ (s : SubRow). ranks_in_show f host (show_of s)) (sorted_subs f (subs_from f row.alloc 0 MOST_SHOWS))) ≡ plan_for f host
unfolding offered
plan_is f host row kept hosted =
    ap (λ ss. take CANDIDATES_EACH (candidates_of (flat_map (λ (s : SubRow). ranks_in_show f host (show_of s)) (sorted_subs f ss)))) (subs_read f host row kept hosted)
    ∙ ap (λ rs. take CANDIDATES_EACH (candidates_of rs)) (index_is_sorted f kept host row hosted)

-- no frame may be booked on a host that isn't there, or that has less free than the least of a layer
none_by : (f : Farm) (host place : ℕ) (ss : List SlotRow) (o : Option Rank) → o ≡ None → ranks_from f host (place + 1) ss ≡ [] → with_found o (ranks_from f host (place + 1) ss) ≡ []
none_by f host place ss None e later = later
none_by f host place ss (Some r) e later = absurd (none-some r (sym e))

unranked_by : (o : Option Rank) → ((r : Rank) → o ≡ Some r → ⊥) → o ≡ None
unranked_by None never = refl
unranked_by (Some r) never = absurd (never r refl)

no_ranks : (f : Farm) (host place : ℕ) (ss : List SlotRow) → ((slot : ℕ) (s : SlotRow) (r : Rank) → slice_get f.slots slot ≡ Some s → rank_of f host slot s ≡ Some r → ⊥)
    → ((k : ℕ) → slice_get f.slots (place + k) ≡ slice_get ss k) → ranks_from f host place ss ≡ []
no_ranks f host place [] never same = refl
no_ranks f host place (s ∷ ss) never same =
    let next : (k : ℕ) → slice_get f.slots ((place + 1) + k) ≡ slice_get ss k = λ k. ap (slice_get f.slots) (let e : (place + 1) + k ≡ place + suc k = omega arith in e) ∙ same (suc k) in
    let at : slice_get f.slots place ≡ Some s = ap (slice_get f.slots) (let e : place ≡ place + 0 = omega arith in e) ∙ same 0 in
    none_by f host place ss (rank_of f host place s) (unranked_by (rank_of f host place s) (λ r e. never place s r at e)) (no_ranks f host (place + 1) ss never next)

pub no_plan : (f : Farm) (host : ℕ) → ((slot : ℕ) (s : SlotRow) (r : Rank) → slice_get f.slots slot ≡ Some s → rank_of f host slot s ≡ Some r → ⊥) → plan_for f host ≡ []
no_plan f host never =
    ap (λ rs. take CANDIDATES_EACH (map (λ (r : Rank). r.candidate) (sorted_ranks f rs)))
    (no_ranks f host 0 f.slots never (λ k. ap (slice_get f.slots) (let e : 0 + k ≡ k = omega arith in e)))

pub plan_none : (f : Farm) (host : ℕ) → slice_get f.hosts host ≡ None → plan_for f host ≡ []
plan_none f host none = no_plan f host (λ slot s r at e. let has = ranked f host slot s r at e in none-some has.row (sym none ∙ has.row_is))

-- a layer's amounts are from the least on
pub record HasLeast (l : LayerRow) : Type 0 where
  pub cores : LEAST_CORES ≤ l.cores
  pub memory : LEAST_MEMORY ≤ l.memory

pub has_least : (f : Farm) (l : LayerRow) → KeepsRows f → Has f.layers l → HasLeast l
has_least f l kept h =
    let formed = layer_formed l (list_all-at is_formed_layer f.layers h.place l kept.jobs.layers_formed h.at) in
    record { cores = formed.0; memory = formed.1 }

full_by : (f : Farm) (host : ℕ) (row : HostRow) (l : LayerRow) → HasLeast l → has_capacity f host row l ≡ true → has_least_free f host row ≡ true
full_by f host row l least h =
    let both = and_both (nat_le (used_cores f host + l.cores) row.cores) (nat_le (used_memory f host + l.memory) row.memory) h in
    let cores = leb-true (used_cores f host + l.cores) row.cores both.0 in
    let memory = leb-true (used_memory f host + l.memory) row.memory both.1 in
    let a = least.cores in
    let b = least.memory in
    both_true (le-leb (used_cores f host + LEAST_CORES) row.cores (omega (arith, cores, a))) (le-leb (used_memory f host + LEAST_MEMORY) row.memory (omega (arith, memory, b)))

pub plan_full : (f : Farm) (host : ℕ) (row : HostRow) → KeepsRows f → slice_get f.hosts host ≡ Some row → has_least_free f host row ≡ false → plan_for f host ≡ []
plan_full f host row kept hosted full =
    no_plan f host
    (λ slot s r at e.
    let has = ranked f host slot s r at e in
    let rows : has.row ≡ row = same_Some has.row row (sym has.row_is ∙ hosted) in
    let there = find_has (λ (l : LayerRow). eqb l.job has.frame.job && eqb l.place has.frame.layer) f.layers has.layer has.layer_is in
    let free = full_by f host has.row has.layer (has_least f has.layer kept there) has.capable in
    false≢true (sym full ∙ (ap (has_least_free f host) (sym rows) ∙ free)))
