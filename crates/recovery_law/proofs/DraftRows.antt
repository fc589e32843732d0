-- What rows of shows, allocations, subscriptions, hosts, limits, jobs and layers keep that fit the rows before them.
use Rattle.std.proofs.Common.{◌≡◌, ◌≤◌, ℕ, ◌+◌, ◌-◌, Bool, true, false, cond, ◌&&◌, ◌||◌, not, eqb, leb, ltb, List, [], ◌∷◌, ◌++◌, map, length, refl, sym, ap, subst, ◌∙◌, arith, append-nil}
use Rattle.std.specs.Prelude.{bytes_eq, nat_eq}
use Rattle.std.specs.List.{IsDistinct, filter, list_all, list_any}
use Rattle.std.proofs.lemmas.Bool.{eqb-false, eqb-true, ne_eqb, ltb-true, not-true, or_from, or_parts}
use Rattle.std.proofs.lemmas.Cmp.{nat_eq_equiv, nat_list_eq_equiv}
use Rattle.std.proofs.lemmas.List.{length-append, map_push}
use Rattle.std.proofs.lemmas.List.Elements.{filter-append}
use Rattle.std.proofs.lemmas.Map.Keys.{IsDistinct-push}
use Rattle.farm_types.specs.Booking.{is_pending}
use Rattle.farm_types.specs.declared.limits.TheConstants.{MOST_ALLOCS, MOST_FINISHED, MOST_HOSTS, MOST_LIMITS, MOST_SHOWS}
use Rattle.farm_types.specs.declared.rows.AllocRow.{AllocRow}
use Rattle.farm_types.specs.declared.rows.HostRow.{HostRow}
use Rattle.farm_types.specs.declared.rows.JobRow.{JobRow}
use Rattle.farm_types.specs.declared.rows.LayerRow.{LayerRow}
use Rattle.farm_types.specs.declared.rows.LimitRow.{LimitRow}
use Rattle.farm_types.specs.declared.rows.ShowRow.{ShowRow}
use Rattle.farm_types.specs.Farm.{Farm, layers_of}
use Rattle.farm_types.specs.Finish.{is_finished}
use Rattle.farm_types.specs.Forms.{is_between}
use Rattle.farm_types.specs.Kept.{AllDiffer, AreAtPlaces, KeepsAllocs, KeepsHosts, KeepsShows, alloc_label, finish_of, has_its_counts, has_its_finish, host_label, is_formed_alloc, is_formed_host, is_formed_job, is_formed_layer, is_formed_limit, is_formed_show, is_of_pending, job_label, layer_label, limit_label, show_label}
use Rattle.farm_types.proofs.Lists.{and_both}
use Rattle.farm_law.proofs.KeptJobsLists.{names_none, nothing_differs}
use Rattle.farm_law.proofs.KeptLists.{list_all-more}
use Rattle.farm_rows.specs.declared.head_row.TheConstants.{ROW_FORMAT}
use Rattle.farm_rows.specs.Recovery.{alloc_fits, host_fits, is_new, job_fits, layer_fits, limit_fits, show_fits}

-- ---- names

unlike : {X : Type 0} (label : X → List ℕ) (name : List ℕ) (xs : List X) → list_any (λ x. bytes_eq (label x) name) xs ≡ false → list_any (bytes_eq name) (map label xs) ≡ false
unlike label name [] h = refl
unlike label name (x ∷ xs) h =
    let both = or_parts (bytes_eq (label x) name) (list_any (λ y. bytes_eq (label y) name) xs) h in
    or_from _ _ (nat_list_eq_equiv.symm name (label x) ∙ both.0) (unlike label name xs both.1)

-- a new name is one more that differs
pub new_differs : {X : Type 0} (label : X → List ℕ) (xs : List X) (x : X) → is_new label (label x) xs ≡ true → AllDiffer label xs → AllDiffer label (xs ++ x ∷ [])
new_differs label xs x new differ =
    subst (IsDistinct bytes_eq) (sym (map_push label xs x))
    (IsDistinct-push nat_list_eq_equiv (map label xs) (label x) differ (unlike label (label x) xs (not-true (list_any (λ y. bytes_eq (label y) (label x)) xs) new)))

count_more : {X : Type 0} (xs : List X) (x : X) (n most : ℕ) → eqb n (length xs) ≡ true → ltb n most ≡ true → length (xs ++ x ∷ []) ≤ most
count_more xs x n most at below = omega (arith, length-append xs (x ∷ []), eqb-true n (length xs) at, ltb-true n most below)

-- ---- shows, allocations and hosts

pub show_kept : (f : Farm) (n : ℕ) (r : ShowRow) → show_fits f n r ≡ true → KeepsShows f.shows → KeepsShows (f.shows ++ r ∷ [])
show_kept f n r fits k =
    let at = and_both (eqb n (length f.shows)) _ fits in
    let below = and_both (ltb n MOST_SHOWS) _ at.1 in
    let formed = and_both (is_formed_show r) _ below.1 in
    record { count = count_more f.shows r n MOST_SHOWS at.0 below.0; differ = new_differs show_label f.shows r formed.1 k.differ; formed = list_all-more is_formed_show f.shows r k.formed formed.0 }

pub alloc_kept : (f : Farm) (n : ℕ) (r : AllocRow) → alloc_fits f n r ≡ true → KeepsAllocs f.allocs → KeepsAllocs (f.allocs ++ r ∷ [])
alloc_kept f n r fits k =
    let at = and_both (eqb n (length f.allocs)) _ fits in
    let below = and_both (ltb n MOST_ALLOCS) _ at.1 in
    let formed = and_both (is_formed_alloc r) _ below.1 in
    record { count = count_more f.allocs r n MOST_ALLOCS at.0 below.0; differ = new_differs alloc_label f.allocs r formed.1 k.differ; formed = list_all-more is_formed_alloc f.allocs r k.formed formed.0 }

pub host_kept : (f : Farm) (n : ℕ) (r : HostRow) → host_fits f n r ≡ true → KeepsHosts f.hosts (length f.allocs) f.moment → KeepsHosts (f.hosts ++ r ∷ []) (length f.allocs) f.moment
host_kept f n r fits k =
    let at = and_both (eqb n (length f.hosts)) _ fits in
    let below = and_both (ltb n MOST_HOSTS) _ at.1 in
    let formed = and_both (is_formed_host r) _ below.1 in
    let new = and_both (is_new host_label r.name f.hosts) _ formed.1 in
    let allocated = and_both (ltb r.alloc (length f.allocs)) _ new.1 in
    record {
      count = count_more f.hosts r n MOST_HOSTS at.0 below.0;
      differ = new_differs host_label f.hosts r new.0 k.differ;
      formed = list_all-more is_formed_host f.hosts r k.formed formed.0;
      allocated = list_all-more (λ (row : HostRow). ltb row.alloc (length f.allocs)) f.hosts r k.allocated allocated.0;
      heard = list_all-more (λ (row : HostRow). leb row.heard f.moment) f.hosts r k.heard allocated.1;
    }

-- ---- limits

-- limits, whatever layers have them
pub record DraftLimits (limits : List LimitRow) : Type 0 where
  pub count : length limits ≤ MOST_LIMITS
  pub differ : AllDiffer limit_label limits
  pub formed : list_all is_formed_limit limits ≡ true

pub limit_kept : (format : ℕ) (f : Farm) (n : ℕ) (r : LimitRow) → limit_fits format f n r ≡ true → DraftLimits f.limits → DraftLimits (f.limits ++ r ∷ [])
limit_kept format f n r fits k =
    let formatted = and_both (eqb format ROW_FORMAT) _ fits in
    let at = and_both (eqb n (length f.limits)) _ formatted.1 in
    let below = and_both (ltb n MOST_LIMITS) _ at.1 in
    let formed = and_both (is_formed_limit r) _ below.1 in
    record { count = count_more f.limits r n MOST_LIMITS at.0 below.0; differ = new_differs limit_label f.limits r formed.1 k.differ; formed = list_all-more is_formed_limit f.limits r k.formed formed.0 }

-- ---- jobs

-- jobs of so many shows, below the next number of a job and of one that finishes
pub record DraftJobs (jobs : List JobRow) (shows next_job next_finish : ℕ) : Type 0 where
  pub within : list_all (λ (j : JobRow). is_between 1 (next_job - 1) j.job) jobs ≡ true
  pub formed : list_all (is_formed_job shows) jobs ≡ true
  pub differ : AllDiffer job_label jobs
  pub finishes : list_all (has_its_finish next_finish) jobs ≡ true
  pub counted : list_all has_its_counts jobs ≡ true
  pub finished : length (filter is_finished jobs) ≤ MOST_FINISHED
  pub finishes_differ : IsDistinct nat_eq (map finish_of (filter is_finished jobs))

pub no_jobs_yet : (shows next_job next_finish : ℕ) → DraftJobs [] shows next_job next_finish
no_jobs_yet shows next_job next_finish =
    record { within = refl; formed = refl; differ = names_none; finishes = refl; counted = refl; finished = omega arith; finishes_differ = nothing_differs }

module _ (r : JobRow) where
  unlike_step : (b : Bool) (j : JobRow) (kept : List JobRow) → eqb r.finish j.finish ≡ false → list_any (nat_eq r.finish) (map finish_of kept) ≡ false → list_any (nat_eq r.finish) (map finish_of (cond b (j ∷ kept) kept)) ≡ false
  unlike_step true j kept apart later = or_from _ _ apart later
  unlike_step false j kept apart later = later

  unlike_finishes : (jobs : List JobRow) → list_any (λ (j : JobRow). eqb j.finish r.finish) jobs ≡ false → list_any (nat_eq r.finish) (map finish_of (filter is_finished jobs)) ≡ false
  unlike_finishes [] h = refl
  unlike_finishes (j ∷ js) h =
      let both = or_parts (eqb j.finish r.finish) (list_any (λ (k : JobRow). eqb k.finish r.finish) js) h in
      unlike_step (is_finished j) j (filter is_finished js) (ne_eqb r.finish j.finish (λ e. absurd (eqb-false j.finish r.finish both.0 (sym e)))) (unlike_finishes js both.1)

  pending_or : (b : Bool) (jobs : List JobRow) → is_pending r.state ≡ b → (b || (not (list_any (λ (j : JobRow). eqb j.finish r.finish) jobs) && ltb (length (filter is_finished jobs)) MOST_FINISHED)) ≡ true
      → length (filter is_finished jobs) ≤ MOST_FINISHED → IsDistinct nat_eq (map finish_of (filter is_finished jobs))
      → (length (filter is_finished (jobs ++ r ∷ [])) ≤ MOST_FINISHED) × IsDistinct nat_eq (map finish_of (filter is_finished (jobs ++ r ∷ [])))
  pending_or true jobs is h few differ =
      let same : filter is_finished (jobs ++ r ∷ []) ≡ filter is_finished jobs = filter-append is_finished jobs (r ∷ []) ∙ ap (λ (b : Bool). filter is_finished jobs ++ cond (not b) (r ∷ []) []) is ∙ append-nil (filter is_finished jobs) in
      (subst (λ (js : List JobRow). length js ≤ MOST_FINISHED) (sym same) few, subst (λ (js : List JobRow). IsDistinct nat_eq (map finish_of js)) (sym same) differ)
  pending_or false jobs is h few differ =
      let both = and_both (not (list_any (λ (j : JobRow). eqb j.finish r.finish) jobs)) _ h in
      let more : filter is_finished (jobs ++ r ∷ []) ≡ filter is_finished jobs ++ r ∷ [] = filter-append is_finished jobs (r ∷ []) ∙ ap (λ (b : Bool). filter is_finished jobs ++ cond (not b) (r ∷ []) []) is in
      let one : length (filter is_finished jobs ++ r ∷ []) ≤ MOST_FINISHED = omega (arith, length-append (filter is_finished jobs) (r ∷ []), ltb-true _ _ both.1) in
      let apart = unlike_finishes jobs (not-true _ both.0) in
      let names : IsDistinct nat_eq (map finish_of (filter is_finished jobs ++ r ∷ [])) =
      subst (IsDistinct nat_eq) (sym (map_push finish_of (filter is_finished jobs) r)) (IsDistinct-push nat_eq_equiv (map finish_of (filter is_finished jobs)) r.finish differ apart) in
      (subst (λ (js : List JobRow). length js ≤ MOST_FINISHED) (sym more) one, subst (λ (js : List JobRow). IsDistinct nat_eq (map finish_of js)) (sym more) names)

pub job_kept : (f : Farm) (r : JobRow) → job_fits f r ≡ true → DraftJobs f.jobs (length f.shows) f.next_job f.next_finish → DraftJobs (f.jobs ++ r ∷ []) (length f.shows) f.next_job f.next_finish
job_kept f r fits k =
    let within = and_both (is_between 1 (f.next_job - 1) r.job) _ fits in
    let formed = and_both (is_formed_job (length f.shows) r) _ within.1 in
    let new = and_both (is_new job_label r.name f.jobs) _ formed.1 in
    let finish = and_both (has_its_finish f.next_finish r) _ new.1 in
    let counts = and_both (has_its_counts r) _ finish.1 in
    let ended = pending_or r (is_pending r.state) f.jobs refl counts.1 k.finished k.finishes_differ in
    record {
      within = list_all-more (λ (j : JobRow). is_between 1 (f.next_job - 1) j.job) f.jobs r k.within within.0;
      formed = list_all-more (is_formed_job (length f.shows)) f.jobs r k.formed formed.0;
      differ = new_differs job_label f.jobs r new.0 k.differ;
      finishes = list_all-more (has_its_finish f.next_finish) f.jobs r k.finishes finish.0;
      counted = list_all-more has_its_counts f.jobs r k.counted counts.0;
      finished = ended.0;
      finishes_differ = ended.1;
    }

-- ---- layers

-- a job's layers are at their places, and their names differ
pub record OwnLayers (own : List LayerRow) : Type 0 where
  pub places : AreAtPlaces 0 own
  pub differ : AllDiffer layer_label own

pub record DraftLayers (layers : List LayerRow) (jobs : List JobRow) : Type 0 where
  pub formed : list_all is_formed_layer layers ≡ true
  pub owned : list_all (λ (l : LayerRow). is_of_pending jobs l.job) layers ≡ true
  pub each : (job : ℕ) → OwnLayers (layers_of layers job)

pub no_layers_yet : (jobs : List JobRow) → DraftLayers [] jobs
no_layers_yet jobs = record { formed = refl; owned = refl; each = λ job. record { places = tt; differ = names_none } }

place_more : (place : ℕ) (own : List LayerRow) (r : LayerRow) → r.place ≡ place + length own → AreAtPlaces place own → AreAtPlaces place (own ++ r ∷ [])
place_more place [] r at k = (omega (arith, at), tt)
place_more place (l ∷ ls) r at k = (k.0, place_more (place + 1) ls r (omega (arith, at)) k.1)

own_more : (b : Bool) (r : LayerRow) (own : List LayerRow) → (b ≡ true → OwnLayers (own ++ r ∷ [])) → OwnLayers own → OwnLayers (own ++ cond b (r ∷ []) [])
own_more true r own more same = more refl
own_more false r own more same = subst OwnLayers (sym (append-nil own)) same

pub layer_kept : (f : Farm) (r : LayerRow) → layer_fits f r ≡ true → DraftLayers f.layers f.jobs → DraftLayers (f.layers ++ r ∷ []) f.jobs
layer_kept f r fits k =
    let owned = and_both (is_of_pending f.jobs r.job) _ fits in
    let place = and_both (eqb r.place (length (layers_of f.layers r.job))) _ owned.1 in
    let formed = and_both (is_formed_layer r) _ place.1 in
    let new = and_both (is_new layer_label r.name (layers_of f.layers r.job)) _ formed.1 in
    let own = layers_of f.layers r.job in
    let at : r.place ≡ 0 + length own = omega (arith, eqb-true r.place (length own) place.0) in
    let itself : OwnLayers (own ++ r ∷ []) =
    record { places = place_more 0 own r at (k.each r.job).places; differ = new_differs layer_label own r new.0 (k.each r.job).differ } in
    record {
      formed = list_all-more is_formed_layer f.layers r k.formed formed.0;
      owned = list_all-more (λ (l : LayerRow). is_of_pending f.jobs l.job) f.layers r k.owned owned.0;
      each = λ job.
          subst OwnLayers (sym (filter-append (λ (l : LayerRow). eqb l.job job) f.layers (r ∷ [])))
          (own_more (eqb r.job job) r (layers_of f.layers job) (λ is. subst (λ (n : ℕ). OwnLayers (layers_of f.layers n ++ r ∷ [])) (eqb-true r.job job is) itself) (k.each job));
    }
