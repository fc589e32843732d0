-- What rows of farms, shows, allocations, subscriptions, hosts and jobs keep of what is known.
use Rattle.std.proofs.Common.{◌≡◌, ◌<◌, not, leb, leb-true, ℕ, Bool, true, false, cond, eqb, ltb, suc, zero, List, [], ◌∷◌, ◌++◌, length, map, Option, Some, refl, sym, ap, subst, ◌∙◌, arith}
use Rattle.std.specs.List.{filter, list_all, list_any}
use Rattle.std.specs.Cmp.Derive.{both_true}
use Rattle.std.specs.Str.{bytes_eq}
use Rattle.std.proofs.lemmas.Bool.{not-true}
use Rattle.std.proofs.lemmas.List.{append-nil, length-append, map_push}
use Rattle.std.proofs.lemmas.List.Elements.{filter-append}
use Rattle.farm_types.specs.declared.limits.TheConstants.{MOST_HOSTS, MOST_LIMITS}
use Rattle.farm_types.proofs.Lists.{and_both}
use Rattle.farm_types.specs.declared.rows.HostRow.{HostRow}
use Rattle.farm_types.specs.declared.rows.JobRow.{JobRow}
use Rattle.farm_types.specs.declared.rows.LayerRow.{LayerRow}
use Rattle.farm_types.specs.declared.rows.LimitRow.{LimitRow}
use Rattle.farm_types.specs.declared.slot_row.SlotRow.{SlotRow}
use Rattle.farm_types.specs.Farm.{Farm}
use Rattle.farm_types.specs.Kept.{finish_of, has_its_finish, host_label, is_formed_host, is_formed_job, is_formed_limit, job_label, limit_label}
use Rattle.farm_types.specs.Finish.{is_finished}
use Rattle.farm_types.specs.Sums.{total_at}
use Rattle.farm_types.specs.Forms.{is_between}
use Rattle.farm_types.specs.Rising.{job_key, layer_key}
use Rattle.farm_rows.specs.declared.head_row.HeadRow.{HeadRow}
use Rattle.farm_rows.specs.declared.head_row.TheConstants.{ROW_FORMAT}
use Rattle.farm_rows.specs.declared.farm_row.FarmRow.TheVariants as row
use Rattle.farm_rows.specs.Recovery.{IsFormat, StoredKey, comes_after, end_fits, head_fits, host_fits, is_new, job_fits, limit_fits}
use Rattle.row_index.specs.Index.{HostsKnown, JobsKnown, LayerKnown, known_with}
use Rattle.stored_rows.specs.Known.{KnowsHosts, KnowsSlots, KnowsSubs, KnowsTold, has_left}
use Rattle.stored_rows.specs.Told.{Told, told_with}
use Rattle.stored_rows.proofs.Until.{rises_kept, rises_more, rises_none, until_kept, until_none}

-- ---- what a row that fits says

module _ (f : Farm) where
  pub format_known : (r : HeadRow) → head_fits f r ≡ true → IsFormat r.format
  format_known r fits =
      let format = and_both (is_between 1 ROW_FORMAT r.format) _ (and_both (not f.recorded) _ fits).1 in
      let both = and_both (leb 1 r.format) (leb r.format ROW_FORMAT) format.0 in
      (leb-true 1 r.format both.0, leb-true r.format ROW_FORMAT both.1)

  pub limit_is_new : (format n : ℕ) (r : LimitRow) → limit_fits format f n r ≡ true → list_any (λ (x : LimitRow). bytes_eq (limit_label x) r.name) f.limits ≡ false
  limit_is_new format n r fits =
      let next = and_both (eqb format ROW_FORMAT) _ fits in
      let below = and_both (eqb n (length f.limits)) _ next.1 in
      let formed = and_both (ltb n MOST_LIMITS) _ below.1 in
      not-true _ (and_both (is_formed_limit r) _ formed.1).1

  pub host_is_new : (n : ℕ) (r : HostRow) → host_fits f n r ≡ true → list_any (λ (x : HostRow). bytes_eq (host_label x) r.name) f.hosts ≡ false
  host_is_new n r fits =
      let below = and_both (eqb n (length f.hosts)) _ fits in
      let formed = and_both (ltb n MOST_HOSTS) _ below.1 in
      let new = and_both (is_formed_host r) _ formed.1 in
      not-true _ (and_both (is_new host_label r.name f.hosts) _ new.1).0

  job_parts : (r : JobRow) → job_fits f r ≡ true → (is_new job_label r.name f.jobs ≡ true) × (end_fits f r ≡ true)
  job_parts r fits =
      let formed = and_both (is_between 1 _ r.job) _ fits in
      let new = and_both (is_formed_job (length f.shows) r) _ formed.1 in
      and_both (is_new job_label r.name f.jobs) (end_fits f r) new.1

  pub job_is_new : (r : JobRow) → job_fits f r ≡ true → list_any (λ (x : JobRow). bytes_eq (job_label x) r.name) f.jobs ≡ false
  job_is_new r fits = not-true _ (job_parts r fits).0

  pub job_finish : (r : JobRow) → job_fits f r ≡ true → has_its_finish f.next_finish r ≡ true
  job_finish r fits = (and_both (has_its_finish f.next_finish r) _ (job_parts r fits).1).0

-- ---- lists

total_push : (xs : List ℕ) (n : ℕ) → total_at (xs ++ 0 ∷ []) n ≡ total_at xs n
total_push [] zero = refl
total_push [] (suc n) = refl
total_push (x ∷ xs) zero = refl
total_push (x ∷ xs) (suc n) = total_push xs n

pub all_push : {X : Type 0} (test : X → Bool) (xs : List X) (x : X) → list_all test xs ≡ true → test x ≡ true → list_all test (xs ++ x ∷ []) ≡ true
all_push test [] x all one = both_true one refl
all_push test (y ∷ ys) x all one =
    let both = and_both (test y) (list_all test ys) all in
    both_true both.0 (all_push test ys x both.1 one)

pub none_long : {X : Type 0} (xs : List X) → length xs ≡ 0 → xs ≡ []
none_long [] h = refl
none_long (x ∷ xs) h = absurd (omega (arith, h))

finished_step : (r : JobRow) (b : Bool) (ks : List ℕ) (js : List JobRow) → ks ≡ map finish_of js → cond b (ks ++ r.finish ∷ []) ks ≡ map finish_of (js ++ cond b (r ∷ []) [])
finished_step r true ks js is = ap (λ ns. ns ++ r.finish ∷ []) is ∙ sym (map_push finish_of js r)
finished_step r false ks js is = is ∙ ap (map finish_of) (sym (append-nil js))

-- ---- slots

pub slots_kept : (slots : List SlotRow) (layers : List LayerRow) (last : Option StoredKey) (key : StoredKey) → comes_after last key ≡ true → KnowsSlots slots layers last → KnowsSlots slots layers (Some key)
slots_kept slots layers last key after k = record { few = k.few; until = until_kept last key 8 (length slots) after k.until; stand = k.stand }

module _ (t : Told) (h : HostsKnown) (j : JobsKnown) (l : List LayerKnown) (k : KnowsTold t h j l) where
  -- after a row that leaves hosts, jobs, layers and slots as they are
  pub told_kept : (key : StoredKey) (f : Farm) (format : ℕ) → comes_after t.last key ≡ true → f.hosts ≡ t.farm.hosts → f.jobs ≡ t.farm.jobs → f.layers ≡ t.farm.layers → f.slots ≡ t.farm.slots → f.next_finish ≡ t.farm.next_finish
      → KnowsSubs f.shows f.subs → KnowsTold (record { last = Some key; farm = f; format = format }) h j l
  told_kept key f format after hosts jobs layers slots next subs =
      record {
        of_subs = subs;
        of_hosts = subst (λ (xs : List HostRow). KnowsHosts h xs f.slots) (sym hosts) (subst (KnowsHosts h t.farm.hosts) (sym slots) k.of_hosts);
        of_jobs = rw (jobs, slots, next) k.of_jobs;
        jobs_rise = rw jobs (rises_kept job_key t.farm.jobs t.last key 6 after k.jobs_rise);
        of_layers = rw (layers, slots) k.of_layers;
        layers_rise = rw layers (rises_kept layer_key t.farm.layers t.last key 7 after k.layers_rise);
        of_slots = rw (layers, slots) (slots_kept t.farm.slots t.farm.layers t.last key after k.of_slots);
      }

  -- after the farm's own row
  pub head_kept : (r : HeadRow) → comes_after t.last (1, 0) ≡ true → KnowsTold (told_with t (row.Head r)) h j l
  head_kept r after =
      let none : t.farm.jobs ≡ [] = rises_none job_key t.farm.jobs t.last (1, 0) 6 (omega arith) after k.jobs_rise in
      record {
        of_subs = k.of_subs;
        of_hosts = k.of_hosts;
        of_jobs = record {
          names = k.of_jobs.names;
          finished = k.of_jobs.finished;
          finishes = subst (λ (js : List JobRow). list_all (has_its_finish r.finishes) js ≡ true) (sym none) refl;
          left = k.of_jobs.left;
        };
        jobs_rise = rises_kept job_key t.farm.jobs t.last (1, 0) 6 after k.jobs_rise;
        of_layers = k.of_layers;
        layers_rise = rises_kept layer_key t.farm.layers t.last (1, 0) 7 after k.layers_rise;
        of_slots = slots_kept t.farm.slots t.farm.layers t.last (1, 0) after k.of_slots;
      }

  -- after a host of a new name
  pub host_kept : (n : ℕ) (r : HostRow) → comes_after t.last (5, n) ≡ true
      → KnowsTold (told_with t (row.Host n r)) (record { names = h.names ++ r.name ∷ []; cores = h.cores ++ 0 ∷ []; memory = h.memory ++ 0 ∷ [] }) j l
  host_kept n r after =
      record {
        of_subs = k.of_subs;
        of_hosts = record {
          names = ap (λ ns. ns ++ r.name ∷ []) k.of_hosts.names ∙ sym (map_push host_label t.farm.hosts r);
          cores_count = omega (arith, k.of_hosts.cores_count, length-append h.cores (0 ∷ []), length-append t.farm.hosts (r ∷ []));
          memory_count = omega (arith, k.of_hosts.memory_count, length-append h.memory (0 ∷ []), length-append t.farm.hosts (r ∷ []));
          cores = λ host. total_push h.cores host ∙ k.of_hosts.cores host;
          memory = λ host. total_push h.memory host ∙ k.of_hosts.memory host;
        };
        of_jobs = k.of_jobs;
        jobs_rise = rises_kept job_key t.farm.jobs t.last (5, n) 6 after k.jobs_rise;
        of_layers = k.of_layers;
        layers_rise = rises_kept layer_key t.farm.layers t.last (5, n) 7 after k.layers_rise;
        of_slots = slots_kept t.farm.slots t.farm.layers t.last (5, n) after k.of_slots;
      }

  -- no slots before a row of an earlier kind
  pub slots_none : (key : StoredKey) → key.0 < 8 → comes_after t.last key ≡ true → t.farm.slots ≡ []
  slots_none key early after = none_long t.farm.slots (until_none t.last key 8 (length t.farm.slots) early after k.of_slots.until)

  -- after a job of a new name
  pub job_kept : (r : JobRow) → comes_after t.last (6, r.job) ≡ true → has_its_finish t.farm.next_finish r ≡ true → KnowsTold (told_with t (row.Job r)) h (known_with r j) l
  job_kept r after ends =
      let none = slots_none (6, r.job) (omega arith) after in
      let unleft : has_left t.farm.slots r ≡ false = ap (λ (ss : List SlotRow). has_left ss r) none in
      record {
        of_subs = k.of_subs;
        of_hosts = k.of_hosts;
        of_jobs = record {
          names = ap (λ ns. ns ++ r.name ∷ []) k.of_jobs.names ∙ sym (map_push job_label t.farm.jobs r);
          finished = finished_step r (is_finished r) j.finished (filter is_finished t.farm.jobs) k.of_jobs.finished ∙ ap (map finish_of) (sym (filter-append is_finished t.farm.jobs (r ∷ [])));
          finishes = all_push (has_its_finish t.farm.next_finish) t.farm.jobs r k.of_jobs.finishes ends;
          left = (λ i. k.of_jobs.left i ++ sym unleft i ∷ []) ∙ sym (map_push (has_left t.farm.slots) t.farm.jobs r);
        };
        jobs_rise = rises_more job_key t.farm.jobs r t.last 6 after k.jobs_rise;
        of_layers = k.of_layers;
        layers_rise = rises_kept layer_key t.farm.layers t.last (6, r.job) 7 after k.layers_rise;
        of_slots = slots_kept t.farm.slots t.farm.layers t.last (6, r.job) after k.of_slots;
      }
