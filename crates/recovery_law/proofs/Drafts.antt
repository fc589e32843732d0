-- The farm that rows say that fit: what it keeps before the last row is known.
use Rattle.std.proofs.Common.{◌≡◌, ◌<◌, ◌≤◌, ℕ, ◌+◌, true, not, leb, ltb, List, [], ◌∷◌, ◌++◌, map, length, Option, Some, None, refl, sym, ap, subst, ◌∙◌, arith}
use Rattle.std.specs.Prelude.{◌^◌}
use Rattle.std.specs.List.{list_all}
use Rattle.std.proofs.lemmas.Bool.{false≢true, leb-true, ltb-true}
use Rattle.farm_types.specs.declared.limits.TheConstants.{LAST_DEPEND, LAST_JOB}
use Rattle.farm_types.specs.declared.depend.MetRow.{MetRow}
use Rattle.farm_types.specs.declared.rows.HostRow.{HostRow}
use Rattle.farm_types.specs.declared.rows.JobRow.{JobRow}
use Rattle.farm_types.specs.declared.rows.LayerRow.{LayerRow}
use Rattle.farm_types.specs.declared.rows.SubRow.{SubRow}
use Rattle.farm_types.specs.Farm.{Farm, empty_farm}
use Rattle.farm_types.specs.Forms.{is_between}
use Rattle.farm_types.specs.Kept.{KeepsAllocs, KeepsHosts, KeepsShows, is_kept_sub}
use Rattle.farm_types.proofs.Lists.{and_both}
use Rattle.farm_law.proofs.KeptJobsLists.{names_none}
use Rattle.farm_law.proofs.KeptLists.{list_all-more}
use Rattle.farm_rows.specs.declared.farm_row.FarmRow.{FarmRow}
use Rattle.farm_rows.specs.declared.farm_row.FarmRow.TheVariants as row
use Rattle.farm_rows.specs.declared.head_row.HeadRow.{HeadRow}
use Rattle.farm_rows.specs.declared.head_row.TheConstants.{ROW_FORMAT}
use Rattle.farm_rows.specs.Recovery.{StoredKey, is_before, key_of, met_fits, row_fits, slot_row, with_slot, with_stored}
use Rattle.farm_rows.specs.Rows.{numbered}
use Rattle.recovery_law.proofs.DraftDepends.{DraftDepends, depend_kept, depends_beside, met_beside, met_kept, no_depends_yet}
use Rattle.recovery_law.proofs.DraftRows.{DraftJobs, DraftLayers, DraftLimits, alloc_kept, host_kept, job_kept, layer_kept, limit_kept, no_jobs_yet, no_layers_yet, show_kept}
use Rattle.recovery_law.proofs.DraftSlots.{DraftSlots, no_slots_yet, slot_kept, slots_beside}
use Rattle.recovery_law.proofs.Ordered.{Follow, follow_more}
use Rattle.recovery_law.proofs.RowKinds.{from_hosts, from_jobs, from_layers, from_limits, from_met, from_slots}
use Rattle.recovery_law.proofs.RowsSaid.{SaidBy, kind_before, next_said, no_depends, no_hosts, no_jobs, no_layers, no_met, no_subs, none_yet, said_step, slots_behind, unsaid}
use Rattle.recovery_law.proofs.Steps.{IsStep}

-- what each farm keeps that rows say
pub record Draft (f : Farm) : Type 0 where
  pub moment : f.moment < 2 ^ 64
  pub next_job : f.next_job ≤ LAST_JOB + 1
  pub from_job : 1 ≤ f.next_job
  pub from_finish : 1 ≤ f.next_finish
  pub next_depend : f.next_depend ≤ LAST_DEPEND + 1
  pub from_depend : 1 ≤ f.next_depend
  pub shows : KeepsShows f.shows
  pub allocs : KeepsAllocs f.allocs
  pub limits : DraftLimits f.limits
  pub subs : list_all (is_kept_sub (length f.shows) (length f.allocs)) f.subs ≡ true
  pub hosts : KeepsHosts f.hosts (length f.allocs) f.moment
  pub jobs : DraftJobs f.jobs (length f.shows) f.next_job f.next_finish
  pub layers : DraftLayers f.layers f.jobs
  pub slots : DraftSlots f
  pub depends : DraftDepends f
  pub met : list_all (met_fits f) f.met ≡ true

-- the rows so far are the farm's, one after the other, and it keeps that
abbrev pub IsDraft : ℕ → Option StoredKey → Farm → List FarmRow → Type 0
IsDraft format None f done = (f ≡ empty_farm) × (done ≡ []) × (format ≡ ROW_FORMAT)
IsDraft format (Some key) f done = SaidBy format key f done × Follow (0, 0) done key × Draft f

-- ---- before the first row of a kind

some_none : {X : Type 0} (x : X) (xs : List X) → x ∷ xs ≡ [] → ⊥
some_none x xs e = cc

none_first : {X : Type 0} (xs ys : List X) → xs ++ ys ≡ [] → xs ≡ []
none_first [] ys e = refl
none_first (x ∷ xs) ys e = absurd (some_none x (xs ++ ys) e)

none_mapped : {X Y : Type 0} (make : X → Y) (xs : List X) → map make xs ≡ [] → xs ≡ []
none_mapped make [] e = refl
none_mapped make (x ∷ xs) e = absurd (some_none (make x) (map make xs) e)

none_numbered : {X : Type 0} (make : ℕ → X → FarmRow) (xs : List X) → numbered make 0 xs ≡ [] → xs ≡ []
none_numbered make [] e = refl
none_numbered make (x ∷ xs) e = absurd (some_none (make 0 x) (numbered make 1 xs) e)

none_long : {X : Type 0} (xs : List X) → length xs ≤ 0 → xs ≡ []
none_long [] h = refl
none_long (x ∷ xs) h = absurd (omega (arith, h))

no_hosts_yet : (allocs moment : ℕ) → KeepsHosts [] allocs moment
no_hosts_yet allocs moment = record { count = omega arith; differ = names_none; formed = refl; allocated = refl; heard = refl }

module _ (format : ℕ) (key : StoredKey) (f : Farm) (done : List FarmRow) (k : SaidBy format key f done) where
  subs_none : key.0 ≤ 3 → f.subs ≡ []
  subs_none h = none_mapped row.Sub f.subs (none_first (map row.Sub f.subs) (from_hosts f) (no_subs format key f done k h))

  hosts_none : key.0 ≤ 4 → f.hosts ≡ []
  hosts_none h = none_numbered row.Host f.hosts (none_first (numbered row.Host 0 f.hosts) (from_jobs f) (no_hosts format key f done k h))

  jobs_none : key.0 ≤ 5 → f.jobs ≡ []
  jobs_none h = none_mapped row.Job f.jobs (none_first (map row.Job f.jobs) (from_layers f) (no_jobs format key f done k h))

  layers_none : key.0 ≤ 6 → f.layers ≡ []
  layers_none h = none_mapped row.Layer f.layers (none_first (map row.Layer f.layers) (from_slots f) (no_layers format key f done k h))

  slots_none : key.0 ≤ 7 → f.slots ≡ []
  slots_none h = none_long f.slots (none_yet format key f done k 7 h (omega arith))

  depends_none : key.0 ≤ 8 → f.depends ≡ []
  depends_none h = none_mapped row.Depend f.depends (none_first (map row.Depend f.depends) (from_met f) (no_depends format key f done k h))

  met_none : key.0 ≤ 9 → f.met ≡ []
  met_none h = none_mapped row.Met f.met (none_first (map row.Met f.met) (from_limits f) (no_met format key f done k h))

  -- no met group yet, for any farm
  met_bare : (g : Farm) → key.0 ≤ 9 → list_all (met_fits g) f.met ≡ true
  met_bare g h = subst (λ (ms : List MetRow). list_all (met_fits g) ms ≡ true) (sym (met_none h)) refl

  -- ---- one row more

  next_draft : (d : Draft f) (r : FarmRow) → is_before key (key_of r) ≡ true → row_fits format f r ≡ true → Draft (with_stored f r)
  next_draft d (row.Head x) after fits = absurd (headed (and_both (not f.recorded) _ fits).0)
    where
      headed : not f.recorded ≡ true → ⊥
      headed h = false≢true (ap not (sym k.recorded) ∙ h)
  next_draft d (row.Show n x) after fits =
      let said = and_both f.recorded _ fits in
      let h = kind_before key (key_of (row.Show n x)) after in
      let g : Farm = record f { shows = f.shows ++ x ∷ [] } in
      record {
        moment = d.moment;
        next_job = d.next_job;
        from_job = d.from_job;
        from_finish = d.from_finish;
        next_depend = d.next_depend;
        from_depend = d.from_depend;
        shows = show_kept f n x said.1 d.shows;
        allocs = d.allocs;
        limits = d.limits;
        subs = subst (λ (xs : List SubRow). list_all (is_kept_sub (length g.shows) (length g.allocs)) xs ≡ true) (sym (subs_none (omega (arith, h)))) refl;
        hosts = d.hosts;
        jobs = subst (λ (xs : List JobRow). DraftJobs xs (length g.shows) g.next_job g.next_finish) (sym (jobs_none (omega (arith, h)))) (no_jobs_yet (length g.shows) g.next_job g.next_finish);
        layers = d.layers;
        slots = no_slots_yet g (slots_none (omega (arith, h)));
        depends = no_depends_yet g (depends_none (omega (arith, h)));
        met = met_bare g (omega (arith, h));
      }
  next_draft d (row.Alloc n x) after fits =
      let said = and_both f.recorded _ fits in
      let h = kind_before key (key_of (row.Alloc n x)) after in
      let g : Farm = record f { allocs = f.allocs ++ x ∷ [] } in
      record {
        moment = d.moment;
        next_job = d.next_job;
        from_job = d.from_job;
        from_finish = d.from_finish;
        next_depend = d.next_depend;
        from_depend = d.from_depend;
        shows = d.shows;
        allocs = alloc_kept f n x said.1 d.allocs;
        limits = d.limits;
        subs = subst (λ (xs : List SubRow). list_all (is_kept_sub (length g.shows) (length g.allocs)) xs ≡ true) (sym (subs_none (omega (arith, h)))) refl;
        hosts = subst (λ (xs : List HostRow). KeepsHosts xs (length g.allocs) g.moment) (sym (hosts_none (omega (arith, h)))) (no_hosts_yet (length g.allocs) g.moment);
        jobs = d.jobs;
        layers = d.layers;
        slots = no_slots_yet g (slots_none (omega (arith, h)));
        depends = no_depends_yet g (depends_none (omega (arith, h)));
        met = met_bare g (omega (arith, h));
      }
  next_draft d (row.Sub x) after fits =
      let said = and_both f.recorded _ fits in
      let h = kind_before key (key_of (row.Sub x)) after in
      let g : Farm = record f { subs = f.subs ++ x ∷ [] } in
      record {
        moment = d.moment;
        next_job = d.next_job;
        from_job = d.from_job;
        from_finish = d.from_finish;
        next_depend = d.next_depend;
        from_depend = d.from_depend;
        shows = d.shows;
        allocs = d.allocs;
        limits = d.limits;
        subs = list_all-more (is_kept_sub (length f.shows) (length f.allocs)) f.subs x d.subs said.1;
        hosts = d.hosts;
        jobs = d.jobs;
        layers = d.layers;
        slots = no_slots_yet g (slots_none (omega (arith, h)));
        depends = no_depends_yet g (depends_none (omega (arith, h)));
        met = met_bare g (omega (arith, h));
      }
  next_draft d (row.Host n x) after fits =
      let said = and_both f.recorded _ fits in
      let h = kind_before key (key_of (row.Host n x)) after in
      let g : Farm = record f { hosts = f.hosts ++ x ∷ [] } in
      record {
        moment = d.moment;
        next_job = d.next_job;
        from_job = d.from_job;
        from_finish = d.from_finish;
        next_depend = d.next_depend;
        from_depend = d.from_depend;
        shows = d.shows;
        allocs = d.allocs;
        limits = d.limits;
        subs = d.subs;
        hosts = host_kept f n x said.1 d.hosts;
        jobs = d.jobs;
        layers = d.layers;
        slots = no_slots_yet g (slots_none (omega (arith, h)));
        depends = no_depends_yet g (depends_none (omega (arith, h)));
        met = met_bare g (omega (arith, h));
      }
  next_draft d (row.Job x) after fits =
      let said = and_both f.recorded _ fits in
      let h = kind_before key (key_of (row.Job x)) after in
      let g : Farm = record f { jobs = f.jobs ++ x ∷ [] } in
      record {
        moment = d.moment;
        next_job = d.next_job;
        from_job = d.from_job;
        from_finish = d.from_finish;
        next_depend = d.next_depend;
        from_depend = d.from_depend;
        shows = d.shows;
        allocs = d.allocs;
        limits = d.limits;
        subs = d.subs;
        hosts = d.hosts;
        jobs = job_kept f x said.1 d.jobs;
        layers = subst (λ (xs : List LayerRow). DraftLayers xs g.jobs) (sym (layers_none (omega (arith, h)))) (no_layers_yet g.jobs);
        slots = no_slots_yet g (slots_none (omega (arith, h)));
        depends = no_depends_yet g (depends_none (omega (arith, h)));
        met = met_bare g (omega (arith, h));
      }
  next_draft d (row.Layer x) after fits =
      let said = and_both f.recorded _ fits in
      let h = kind_before key (key_of (row.Layer x)) after in
      let g : Farm = record f { layers = f.layers ++ x ∷ [] } in
      record {
        moment = d.moment;
        next_job = d.next_job;
        from_job = d.from_job;
        from_finish = d.from_finish;
        next_depend = d.next_depend;
        from_depend = d.from_depend;
        shows = d.shows;
        allocs = d.allocs;
        limits = d.limits;
        subs = d.subs;
        hosts = d.hosts;
        jobs = d.jobs;
        layers = layer_kept f x said.1 d.layers;
        slots = no_slots_yet g (slots_none (omega (arith, h)));
        depends = no_depends_yet g (depends_none (omega (arith, h)));
        met = met_bare g (omega (arith, h));
      }
  next_draft d (row.Frame x) after fits =
      let said = and_both f.recorded _ fits in
      let h = kind_before key (key_of (row.Frame x)) after in
      let g : Farm = record f { slots = with_slot f.slots x.slot (slot_row f x) } in
      record {
        moment = d.moment;
        next_job = d.next_job;
        from_job = d.from_job;
        from_finish = d.from_finish;
        next_depend = d.next_depend;
        from_depend = d.from_depend;
        shows = d.shows;
        allocs = d.allocs;
        limits = d.limits;
        subs = d.subs;
        hosts = d.hosts;
        jobs = d.jobs;
        layers = d.layers;
        slots = slot_kept f x said.1 (slots_behind format key f done k x.slot after) d.slots;
        depends = no_depends_yet g (depends_none (omega (arith, h)));
        met = met_bare g (omega (arith, h));
      }
  next_draft d (row.Depend x) after fits =
      let said = and_both f.recorded _ fits in
      let h = kind_before key (key_of (row.Depend x)) after in
      let g : Farm = record f { depends = f.depends ++ x ∷ [] } in
      record {
        moment = d.moment;
        next_job = d.next_job;
        from_job = d.from_job;
        from_finish = d.from_finish;
        next_depend = d.next_depend;
        from_depend = d.from_depend;
        shows = d.shows;
        allocs = d.allocs;
        limits = d.limits;
        subs = d.subs;
        hosts = d.hosts;
        jobs = d.jobs;
        layers = d.layers;
        slots = slots_beside f (f.depends ++ x ∷ []) f.met f.limits d.slots;
        depends = depend_kept f x said.1 d.depends;
        met = met_bare g (omega (arith, h));
      }
  next_draft d (row.Met x) after fits =
      let said = and_both f.recorded _ fits in
      let h = kind_before key (key_of (row.Met x)) after in
      let g : Farm = record f { met = f.met ++ x ∷ [] } in
      record {
        moment = d.moment;
        next_job = d.next_job;
        from_job = d.from_job;
        from_finish = d.from_finish;
        next_depend = d.next_depend;
        from_depend = d.from_depend;
        shows = d.shows;
        allocs = d.allocs;
        limits = d.limits;
        subs = d.subs;
        hosts = d.hosts;
        jobs = d.jobs;
        layers = d.layers;
        slots = slots_beside f f.depends (f.met ++ x ∷ []) f.limits d.slots;
        depends = depends_beside f (f.met ++ x ∷ []) f.limits d.depends;
        met = met_kept f x said.1 d.met;
      }
  next_draft d (row.Limit n x) after fits =
      let said = and_both f.recorded _ fits in
      let limits = f.limits ++ x ∷ [] in
      record {
        moment = d.moment;
        next_job = d.next_job;
        from_job = d.from_job;
        from_finish = d.from_finish;
        next_depend = d.next_depend;
        from_depend = d.from_depend;
        shows = d.shows;
        allocs = d.allocs;
        limits = limit_kept format f n x said.1 d.limits;
        subs = d.subs;
        hosts = d.hosts;
        jobs = d.jobs;
        layers = d.layers;
        slots = slots_beside f f.depends f.met limits d.slots;
        depends = depends_beside f f.met limits d.depends;
        met = met_beside f f.met limits f.met ∙ d.met;
      }

-- ---- the first row, and all

between_parts : (least most n : ℕ) → is_between least most n ≡ true → (least ≤ n) × (n ≤ most)
between_parts least most n h = let both = and_both (leb least n) (leb n most) h in (leb-true least n both.0, leb-true n most both.1)

head_draft : (format : ℕ) (x : HeadRow) → row_fits format empty_farm (row.Head x) ≡ true → Draft (with_stored empty_farm (row.Head x))
head_draft format x fits =
    let g = with_stored empty_farm (row.Head x) in
    let formatted = and_both (is_between 1 ROW_FORMAT x.format) _ fits in
    let moment = and_both (ltb x.moment (2 ^ 64)) _ formatted.1 in
    let depends = and_both (is_between 1 (LAST_DEPEND + 1) x.depends) _ moment.1 in
    let finishes = and_both (is_between 1 (LAST_JOB + 1) x.finishes) _ depends.1 in
    let of_depends = between_parts 1 (LAST_DEPEND + 1) x.depends depends.0 in
    let of_finishes = between_parts 1 (LAST_JOB + 1) x.finishes finishes.0 in
    let of_jobs = between_parts 1 (LAST_JOB + 1) x.jobs finishes.1 in
    record {
      moment = ltb-true x.moment (2 ^ 64) moment.0;
      next_job = of_jobs.1;
      from_job = of_jobs.0;
      from_finish = of_finishes.0;
      next_depend = of_depends.1;
      from_depend = of_depends.0;
      shows = record { count = omega arith; differ = names_none; formed = refl };
      allocs = record { count = omega arith; differ = names_none; formed = refl };
      limits = record { count = omega arith; differ = names_none; formed = refl };
      subs = refl;
      hosts = no_hosts_yet 0 x.moment;
      jobs = no_jobs_yet 0 x.jobs x.finishes;
      layers = no_layers_yet [];
      slots = no_slots_yet g refl;
      depends = no_depends_yet g refl;
      met = refl;
    }

first_draft : (format : ℕ) (f : Farm) (r : FarmRow) → f ≡ empty_farm → row_fits format f r ≡ true → Draft (with_stored f r)
first_draft format f (row.Head x) is fits =
    subst (λ (g : Farm). Draft (with_stored g (row.Head x))) (sym is) (head_draft format x (subst (λ (g : Farm). row_fits format g (row.Head x) ≡ true) is fits))
first_draft format f (row.Show n x) is fits = absurd (unsaid f _ is fits)
first_draft format f (row.Alloc n x) is fits = absurd (unsaid f _ is fits)
first_draft format f (row.Sub x) is fits = absurd (unsaid f _ is fits)
first_draft format f (row.Host n x) is fits = absurd (unsaid f _ is fits)
first_draft format f (row.Job x) is fits = absurd (unsaid f _ is fits)
first_draft format f (row.Layer x) is fits = absurd (unsaid f _ is fits)
first_draft format f (row.Frame x) is fits = absurd (unsaid f _ is fits)
first_draft format f (row.Depend x) is fits = absurd (unsaid f _ is fits)
first_draft format f (row.Met x) is fits = absurd (unsaid f _ is fits)
first_draft format f (row.Limit n x) is fits = absurd (unsaid f _ is fits)

from_first : (r : FarmRow) → is_before (0, 0) (key_of r) ≡ true
from_first (row.Head x) = refl
from_first (row.Show n x) = refl
from_first (row.Alloc n x) = refl
from_first (row.Sub x) = refl
from_first (row.Host n x) = refl
from_first (row.Job x) = refl
from_first (row.Layer x) = refl
from_first (row.Frame x) = refl
from_first (row.Depend x) = refl
from_first (row.Met x) = refl
from_first (row.Limit n x) = refl

-- each row that fits keeps it
pub draft_step : IsStep IsDraft
draft_step format None f done r k after fits = (
  said_step format None f done r k after fits,
  subst (λ (olds : List FarmRow). Follow (0, 0) (olds ++ r ∷ []) (key_of r)) (sym k.1) (from_first r, refl),
  first_draft format f r k.0 fits,
)
draft_step format (Some key) f done r k after fits =
    (next_said format key f done k.0 r after fits, follow_more (0, 0) done key r k.1 after, next_draft format key f done k.0 k.2 r after fits)
