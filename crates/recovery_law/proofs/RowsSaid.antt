-- The rows of a farm that rows say are those rows.
use Rattle.std.proofs.Common.{◌≡◌, ◌<◌, ◌≤◌, ℕ, ◌+◌, Bool, true, false, cond, ◌&&◌, not, eqb, leb, List, [], ◌∷◌, ◌++◌, map, length, Option, Some, None, refl, sym, ap, subst, ◌∙◌, arith, ◌⊎◌, inl, inr}
use Rattle.std.specs.Prelude.{Ok}
use Rattle.std.specs.List.{list_all}
use Rattle.std.proofs.lemmas.Bool.{cases_eq, eq-eqb, ne_eqb, eqb-true, false≢true, le-leb, leb-true, ltb-true}
use Rattle.std.proofs.lemmas.List.{map_push}
use Rattle.std.proofs.lemmas.List.Folds.{list_all-append}
use Rattle.farm_types.specs.declared.depend.DependRow.{DependRow}
use Rattle.farm_types.specs.declared.depend.MetRow.{MetRow}
use Rattle.farm_types.specs.declared.rows.AllocRow.{AllocRow}
use Rattle.farm_types.specs.declared.rows.HostRow.{HostRow}
use Rattle.farm_types.specs.declared.rows.JobRow.{JobRow}
use Rattle.farm_types.specs.declared.rows.LayerRow.{LayerRow}
use Rattle.farm_types.specs.declared.rows.LimitRow.{LimitRow}
use Rattle.farm_types.specs.declared.rows.ShowRow.{ShowRow}
use Rattle.farm_types.specs.declared.rows.SubRow.{SubRow}
use Rattle.farm_types.specs.Farm.{Farm, empty_farm}
use Rattle.farm_types.specs.Forms.{is_between}
use Rattle.farm_types.proofs.Lists.{and_both}
use Rattle.farm_law.proofs.KeptLists.{list_all-more}
use Rattle.farm_rows.specs.declared.farm_row.FarmRow.{FarmRow}
use Rattle.farm_rows.specs.declared.farm_row.FarmRow.TheVariants as row
use Rattle.farm_rows.specs.declared.frame_row.FrameRow.{FrameRow}
use Rattle.farm_rows.specs.declared.frame_row.StoredFrame.{StoredFrame}
use Rattle.farm_rows.specs.declared.frame_row.StoredState.{StoredState}
use Rattle.farm_rows.specs.declared.frame_row.StoredState.TheVariants as stored
use Rattle.farm_rows.specs.declared.head_row.HeadRow.{HeadRow}
use Rattle.farm_rows.specs.Recovery.{Said, StoredKey, is_before, attempt_at, attempt_fits, farm_said, format_after, key_of, row_fits, slot_fits, slot_row, state_of, taken_fits, with_slot, with_stored}
use Rattle.farm_rows.specs.declared.head_row.TheConstants.{ROW_FORMAT}
use Rattle.farm_rows.specs.Rows.{HasRowsIn, head_in, frame_row, is_unused, numbered, recorded_in, row_kind, rows_in, slot_rows, stored_state}
use Rattle.farm_rows.proofs.OneSlotMore.{slots_long}
use Rattle.farm_rows.proofs.RowOrder.{before_parts}
use Rattle.farm_rows.proofs.FrameFits.{attempt_parts, frame_parts, slot_parts}
use Rattle.recovery_law.proofs.RowKinds.{IsUpTo, allocs_are, depends_are, ends_with, from_allocs, from_depends, from_hosts, from_jobs, from_layers, from_limits, from_met, from_shows, from_slots, from_subs, hosts_are, in_front, jobs_are, layers_are, limits_are, met_are, none_between, numbered_next, slot_added, slots_are, subs_are, up_to_more}
use Rattle.recovery_law.proofs.Steps.{IsStep, all_rows}

-- ---- slots

-- a running frame has its attempt
state_back : (f : Farm) (slot version : ℕ) (x : StoredFrame) (state : StoredState) → attempt_fits f version x state ≡ true → stored_state (attempt_at f slot version x state) (state_of state) ≡ state
state_back f slot version x stored.Waiting h = refl
state_back f slot version x stored.Setup h = refl
state_back f slot version x (stored.Running boot host since) h =
    let parts = attempt_parts f version x boot host since h in
    rw (parts.has_job, parts.has_layer, parts.has_host) refl
state_back f slot version x stored.Succeeded h = refl
state_back f slot version x stored.Depend h = refl
state_back f slot version x stored.Dead h = refl
state_back f slot version x stored.Eaten h = refl

frame_back : (f : Farm) (slot version : ℕ) (frame : Option StoredFrame) → taken_fits f version frame ≡ true
    → frame_row slot (slot_row f (record { slot = slot; version = version; frame = frame })) ≡ record { slot = slot; version = version; frame = frame }
frame_back f slot version None h = refl
frame_back f slot version (Some x) h =
    ap (λ (state : StoredState). record { slot = slot; version = version; frame = Some (record x { state = state }) }) (state_back f slot version x x.state (frame_parts f version x h).attempt)

taken_used : (f : Farm) (slot version : ℕ) (frame : Option StoredFrame) → taken_fits f version frame ≡ true → is_unused (slot_row f (record { slot = slot; version = version; frame = frame })) ≡ false
taken_used f slot version None h = ne_eqb version 0 (λ e. absurd (omega (arith, e, ltb-true 0 version h)))
taken_used f slot version (Some x) h = refl

-- ---- each row

-- how many slots rows up to that key say at most
abbrev pub reach : StoredKey → ℕ
reach key = cond (eqb key.0 8) (key.1 + 1) 0

-- The farm that rows up to that key say, in their format: they are its rows, and its slots end with the last of them. Format 1 has no limits.
pub record SaidBy (format : ℕ) (key : StoredKey) (f : Farm) (done : List FarmRow) : Type 0 where
  pub known : is_between 1 ROW_FORMAT format ≡ true
  pub older : format ≡ 1 → f.limits ≡ []
  pub recorded : f.recorded ≡ true
  pub rows : recorded_in format f ≡ done
  pub kinds : IsUpTo key.0 done
  pub slots : key.0 < 9 → length f.slots ≤ reach key

-- before the first row it is the empty one
abbrev pub IsSaid : ℕ → Option StoredKey → Farm → List FarmRow → Type 0
IsSaid format None f done = (f ≡ empty_farm) × (done ≡ []) × (format ≡ ROW_FORMAT)
IsSaid format (Some key) f done = SaidBy format key f done

pub kind_before : (x y : StoredKey) → is_before x y ≡ true → x.0 ≤ y.0
kind_before x y h = elim (before_parts x y h) [ inl less ↦ omega (arith, less) | inr same ↦ omega (arith, same.0) ]

reach_none : (key : StoredKey) → key.0 < 8 → reach key ≡ 0
reach_none key below = ap (λ (b : Bool). cond b (key.1 + 1) 0) (ne_eqb key.0 8 (λ e. absurd (omega (arith, below, e))))

-- one row more at the end
said_more : (format : ℕ) (key : StoredKey) (f g : Farm) (done : List FarmRow) (r : FarmRow) → SaidBy format key f done → is_before key (key_of r) ≡ true → (format ≡ 1 → g.limits ≡ []) → g.recorded ≡ true
    → recorded_in format g ≡ recorded_in format f ++ r ∷ [] → (row_kind r < 9 → length g.slots ≤ reach (key_of r)) → SaidBy format (key_of r) g (done ++ r ∷ [])
said_more format key f g done r k after older recorded rows slots =
    record {
      known = k.known;
      older = older;
      recorded = recorded;
      rows = rows ∙ ap (λ (olds : List FarmRow). olds ++ r ∷ []) k.rows;
      kinds = list_all-more (λ (x : FarmRow). leb (row_kind x) (row_kind r)) done r (up_to_more key.0 (row_kind r) done (kind_before key (key_of r) after) k.kinds) (le-leb (row_kind r) (row_kind r) (omega arith));
      slots = slots;
    }

up_later : (most : ℕ) (xs ys : List FarmRow) → IsUpTo most (xs ++ ys) → IsUpTo most ys
up_later most xs ys h = (and_both (list_all (λ (r : FarmRow). leb (row_kind r) most) xs) _ (sym (list_all-append (λ (r : FarmRow). leb (row_kind r) most) xs ys) ∙ h)).1

module _ (format : ℕ) (key : StoredKey) (f : Farm) (done : List FarmRow) (k : SaidBy format key f done) where
  all_up : (most : ℕ) → key.0 ≤ most → IsUpTo most (from_shows f)
  all_up most h = (and_both (leb 1 most) _ (up_to_more key.0 most (recorded_in format f) h (subst (IsUpTo key.0) (sym k.rows) k.kinds))).1

  allocs_up : (most : ℕ) → key.0 ≤ most → IsUpTo most (from_allocs f)
  allocs_up most h = up_later most (numbered row.Show 0 f.shows) (from_allocs f) (all_up most h)

  subs_up : (most : ℕ) → key.0 ≤ most → IsUpTo most (from_subs f)
  subs_up most h = up_later most (numbered row.Alloc 0 f.allocs) (from_subs f) (allocs_up most h)

  hosts_up : (most : ℕ) → key.0 ≤ most → IsUpTo most (from_hosts f)
  hosts_up most h = up_later most (map row.Sub f.subs) (from_hosts f) (subs_up most h)

  jobs_up : (most : ℕ) → key.0 ≤ most → IsUpTo most (from_jobs f)
  jobs_up most h = up_later most (numbered row.Host 0 f.hosts) (from_jobs f) (hosts_up most h)

  layers_up : (most : ℕ) → key.0 ≤ most → IsUpTo most (from_layers f)
  layers_up most h = up_later most (map row.Job f.jobs) (from_layers f) (jobs_up most h)

  slots_up : (most : ℕ) → key.0 ≤ most → IsUpTo most (from_slots f)
  slots_up most h = up_later most (map row.Layer f.layers) (from_slots f) (layers_up most h)

  depends_up : (most : ℕ) → key.0 ≤ most → IsUpTo most (from_depends f)
  depends_up most h = up_later most (slot_rows 0 f.slots) (from_depends f) (slots_up most h)

  met_up : (most : ℕ) → key.0 ≤ most → IsUpTo most (from_met f)
  met_up most h = up_later most (map row.Depend f.depends) (from_met f) (depends_up most h)

  limits_up : (most : ℕ) → key.0 ≤ most → IsUpTo most (from_limits f)
  limits_up most h = up_later most (map row.Met f.met) (from_limits f) (met_up most h)

  -- ---- what is empty before a row of a kind

  pub no_allocs : key.0 ≤ 2 → from_allocs f ≡ []
  no_allocs h = none_between 2 3 (from_allocs f) (omega arith) (allocs_up 2 h) (allocs_are f)

  pub no_subs : key.0 ≤ 3 → from_subs f ≡ []
  no_subs h = none_between 3 4 (from_subs f) (omega arith) (subs_up 3 h) (subs_are f)

  pub no_hosts : key.0 ≤ 4 → from_hosts f ≡ []
  no_hosts h = none_between 4 5 (from_hosts f) (omega arith) (hosts_up 4 h) (hosts_are f)

  pub no_jobs : key.0 ≤ 5 → from_jobs f ≡ []
  no_jobs h = none_between 5 6 (from_jobs f) (omega arith) (jobs_up 5 h) (jobs_are f)

  pub no_layers : key.0 ≤ 6 → from_layers f ≡ []
  no_layers h = none_between 6 7 (from_layers f) (omega arith) (layers_up 6 h) (layers_are f)

  pub no_slots : key.0 ≤ 7 → from_slots f ≡ []
  no_slots h = none_between 7 8 (from_slots f) (omega arith) (slots_up 7 h) (slots_are f)

  pub no_depends : key.0 ≤ 8 → from_depends f ≡ []
  no_depends h = none_between 8 9 (from_depends f) (omega arith) (depends_up 8 h) (depends_are f)

  pub no_met : key.0 ≤ 9 → from_met f ≡ []
  no_met h = none_between 9 10 (from_met f) (omega arith) (met_up 9 h) (met_are f)

  pub no_limits : key.0 ≤ 10 → from_limits f ≡ []
  no_limits h = none_between 10 11 (from_limits f) (omega arith) (limits_up 10 h) (limits_are f)

  -- a row before those of slots
  pub none_yet : (kind : ℕ) → key.0 ≤ kind → kind < 8 → length f.slots ≤ 0
  none_yet kind h below = omega (arith, h, below, k.slots (omega (arith, h, below)), reach_none key (omega (arith, h, below)))

  -- a slot's row comes behind all slots
  pub slots_behind : (slot : ℕ) → is_before key (8, slot) ≡ true → length f.slots ≤ slot
  slots_behind slot after =
      elim (before_parts key (8, slot) after) [
        | inl less ↦ omega (arith, none_yet key.0 (omega arith) less)
        | inr same ↦ behind same.0 same.1
      ]
    where
      behind : key.0 ≡ 8 → key.1 < slot → length f.slots ≤ slot
      behind is less =
          let here : reach key ≡ key.1 + 1 = ap (λ (b : Bool). cond b (key.1 + 1) 0) (eq-eqb key.0 8 is) in
          omega (arith, less, here, k.slots (omega (arith, is)))

  -- ---- the rows with one more

  show_added : (n : ℕ) (x : ShowRow) → n ≡ length f.shows → key.0 ≤ 2 → recorded_in format (record f { shows = f.shows ++ x ∷ [] }) ≡ recorded_in format f ++ row.Show n x ∷ []
  show_added n x at h =
      in_front (row.Head (head_in format f) ∷ []) (from_shows f) _ (row.Show n x)
      (ends_with (numbered row.Show 0 f.shows) _ (from_allocs f) (row.Show n x) (numbered_next row.Show f.shows n x at) (no_allocs h))

  alloc_added : (n : ℕ) (x : AllocRow) → n ≡ length f.allocs → key.0 ≤ 3 → recorded_in format (record f { allocs = f.allocs ++ x ∷ [] }) ≡ recorded_in format f ++ row.Alloc n x ∷ []
  alloc_added n x at h =
      in_front (row.Head (head_in format f) ∷ []) (from_shows f) _ (row.Alloc n x)
      (in_front (numbered row.Show 0 f.shows) (from_allocs f) _ (row.Alloc n x)
      (ends_with (numbered row.Alloc 0 f.allocs) _ (from_subs f) (row.Alloc n x) (numbered_next row.Alloc f.allocs n x at) (no_subs h)))

  sub_added : (x : SubRow) → key.0 ≤ 4 → recorded_in format (record f { subs = f.subs ++ x ∷ [] }) ≡ recorded_in format f ++ row.Sub x ∷ []
  sub_added x h =
      in_front (row.Head (head_in format f) ∷ []) (from_shows f) _ (row.Sub x)
      (in_front (numbered row.Show 0 f.shows) (from_allocs f) _ (row.Sub x)
      (in_front (numbered row.Alloc 0 f.allocs) (from_subs f) _ (row.Sub x)
      (ends_with (map row.Sub f.subs) _ (from_hosts f) (row.Sub x) (map_push row.Sub f.subs x) (no_hosts h))))

  host_added : (n : ℕ) (x : HostRow) → n ≡ length f.hosts → key.0 ≤ 5 → recorded_in format (record f { hosts = f.hosts ++ x ∷ [] }) ≡ recorded_in format f ++ row.Host n x ∷ []
  host_added n x at h =
      in_front (row.Head (head_in format f) ∷ []) (from_shows f) _ (row.Host n x)
      (in_front (numbered row.Show 0 f.shows) (from_allocs f) _ (row.Host n x)
      (in_front (numbered row.Alloc 0 f.allocs) (from_subs f) _ (row.Host n x)
      (in_front (map row.Sub f.subs) (from_hosts f) _ (row.Host n x)
      (ends_with (numbered row.Host 0 f.hosts) _ (from_jobs f) (row.Host n x) (numbered_next row.Host f.hosts n x at) (no_jobs h)))))

  job_added : (x : JobRow) → key.0 ≤ 6 → recorded_in format (record f { jobs = f.jobs ++ x ∷ [] }) ≡ recorded_in format f ++ row.Job x ∷ []
  job_added x h =
      in_front (row.Head (head_in format f) ∷ []) (from_shows f) _ (row.Job x)
      (in_front (numbered row.Show 0 f.shows) (from_allocs f) _ (row.Job x)
      (in_front (numbered row.Alloc 0 f.allocs) (from_subs f) _ (row.Job x)
      (in_front (map row.Sub f.subs) (from_hosts f) _ (row.Job x)
      (in_front (numbered row.Host 0 f.hosts) (from_jobs f) _ (row.Job x)
      (ends_with (map row.Job f.jobs) _ (from_layers f) (row.Job x) (map_push row.Job f.jobs x) (no_layers h))))))

  layer_added : (x : LayerRow) → key.0 ≤ 7 → recorded_in format (record f { layers = f.layers ++ x ∷ [] }) ≡ recorded_in format f ++ row.Layer x ∷ []
  layer_added x h =
      in_front (row.Head (head_in format f) ∷ []) (from_shows f) _ (row.Layer x)
      (in_front (numbered row.Show 0 f.shows) (from_allocs f) _ (row.Layer x)
      (in_front (numbered row.Alloc 0 f.allocs) (from_subs f) _ (row.Layer x)
      (in_front (map row.Sub f.subs) (from_hosts f) _ (row.Layer x)
      (in_front (numbered row.Host 0 f.hosts) (from_jobs f) _ (row.Layer x)
      (in_front (map row.Job f.jobs) (from_layers f) _ (row.Layer x)
      (ends_with (map row.Layer f.layers) _ (from_slots f) (row.Layer x) (map_push row.Layer f.layers x) (no_slots h)))))))

  frame_added : (r : FrameRow) → length f.slots ≤ r.slot → slot_fits f r ≡ true → key.0 ≤ 8 → recorded_in format (record f { slots = with_slot f.slots r.slot (slot_row f r) }) ≡ recorded_in format f ++ row.Frame r ∷ []
  frame_added r past fits h =
      in_front (row.Head (head_in format f) ∷ []) (from_shows f) _ (row.Frame r)
      (in_front (numbered row.Show 0 f.shows) (from_allocs f) _ (row.Frame r)
      (in_front (numbered row.Alloc 0 f.allocs) (from_subs f) _ (row.Frame r)
      (in_front (map row.Sub f.subs) (from_hosts f) _ (row.Frame r)
      (in_front (numbered row.Host 0 f.hosts) (from_jobs f) _ (row.Frame r)
      (in_front (map row.Job f.jobs) (from_layers f) _ (row.Frame r)
      (in_front (map row.Layer f.layers) (from_slots f) _ (row.Frame r)
      (ends_with (slot_rows 0 f.slots) _ (from_depends f) (row.Frame r) (slot_added f.slots r.slot (slot_row f r) past (taken_used f r.slot r.version r.frame (slot_parts f r fits).taken) ∙ ap (λ (x : FrameRow). slot_rows 0 f.slots ++ row.Frame x ∷ []) (frame_back f r.slot r.version r.frame (slot_parts f r fits).taken)) (no_depends h))))))))

  depend_added : (x : DependRow) → key.0 ≤ 9 → recorded_in format (record f { depends = f.depends ++ x ∷ [] }) ≡ recorded_in format f ++ row.Depend x ∷ []
  depend_added x h =
      in_front (row.Head (head_in format f) ∷ []) (from_shows f) _ (row.Depend x)
      (in_front (numbered row.Show 0 f.shows) (from_allocs f) _ (row.Depend x)
      (in_front (numbered row.Alloc 0 f.allocs) (from_subs f) _ (row.Depend x)
      (in_front (map row.Sub f.subs) (from_hosts f) _ (row.Depend x)
      (in_front (numbered row.Host 0 f.hosts) (from_jobs f) _ (row.Depend x)
      (in_front (map row.Job f.jobs) (from_layers f) _ (row.Depend x)
      (in_front (map row.Layer f.layers) (from_slots f) _ (row.Depend x)
      (in_front (slot_rows 0 f.slots) (from_depends f) _ (row.Depend x)
      (ends_with (map row.Depend f.depends) _ (from_met f) (row.Depend x) (map_push row.Depend f.depends x) (no_met h)))))))))

  met_added : (x : MetRow) → key.0 ≤ 10 → recorded_in format (record f { met = f.met ++ x ∷ [] }) ≡ recorded_in format f ++ row.Met x ∷ []
  met_added x h =
      in_front (row.Head (head_in format f) ∷ []) (from_shows f) _ (row.Met x)
      (in_front (numbered row.Show 0 f.shows) (from_allocs f) _ (row.Met x)
      (in_front (numbered row.Alloc 0 f.allocs) (from_subs f) _ (row.Met x)
      (in_front (map row.Sub f.subs) (from_hosts f) _ (row.Met x)
      (in_front (numbered row.Host 0 f.hosts) (from_jobs f) _ (row.Met x)
      (in_front (map row.Job f.jobs) (from_layers f) _ (row.Met x)
      (in_front (map row.Layer f.layers) (from_slots f) _ (row.Met x)
      (in_front (slot_rows 0 f.slots) (from_depends f) _ (row.Met x)
      (in_front (map row.Depend f.depends) (from_met f) _ (row.Met x)
      (ends_with (map row.Met f.met) _ (from_limits f) (row.Met x) (map_push row.Met f.met x) (no_limits h))))))))))

  limit_added : (n : ℕ) (x : LimitRow) → n ≡ length f.limits → recorded_in format (record f { limits = f.limits ++ x ∷ [] }) ≡ recorded_in format f ++ row.Limit n x ∷ []
  limit_added n x at =
      in_front (row.Head (head_in format f) ∷ []) (from_shows f) _ (row.Limit n x)
      (in_front (numbered row.Show 0 f.shows) (from_allocs f) _ (row.Limit n x)
      (in_front (numbered row.Alloc 0 f.allocs) (from_subs f) _ (row.Limit n x)
      (in_front (map row.Sub f.subs) (from_hosts f) _ (row.Limit n x)
      (in_front (numbered row.Host 0 f.hosts) (from_jobs f) _ (row.Limit n x)
      (in_front (map row.Job f.jobs) (from_layers f) _ (row.Limit n x)
      (in_front (map row.Layer f.layers) (from_slots f) _ (row.Limit n x)
      (in_front (slot_rows 0 f.slots) (from_depends f) _ (row.Limit n x)
      (in_front (map row.Depend f.depends) (from_met f) _ (row.Limit n x)
      (in_front (map row.Met f.met) (from_limits f) _ (row.Limit n x)
      (numbered_next row.Limit f.limits n x at))))))))))

  -- a row that comes after the last one and fits
  pub next_said : (r : FarmRow) → is_before key (key_of r) ≡ true → row_fits format f r ≡ true → SaidBy (format_after format r) (key_of r) (with_stored f r) (done ++ r ∷ [])
  next_said (row.Head x) after fits =
      let new = and_both (not f.recorded) _ fits in
      absurd (false≢true (ap not (sym k.recorded) ∙ new.0))
  next_said (row.Show n x) after fits =
      let said = and_both f.recorded _ fits in
      let at = and_both (eqb n (length f.shows)) _ said.1 in
      said_more format key f _ done (row.Show n x) k after k.older k.recorded (show_added n x (eqb-true n (length f.shows) at.0) (kind_before key (2, n) after)) (λ h. none_yet 2 (kind_before key (2, n) after) (omega arith))
  next_said (row.Alloc n x) after fits =
      let said = and_both f.recorded _ fits in
      let at = and_both (eqb n (length f.allocs)) _ said.1 in
      said_more format key f _ done (row.Alloc n x) k after k.older k.recorded (alloc_added n x (eqb-true n (length f.allocs) at.0) (kind_before key (3, n) after)) (λ h. none_yet 3 (kind_before key (3, n) after) (omega arith))
  next_said (row.Sub x) after fits = said_more format key f _ done (row.Sub x) k after k.older k.recorded (sub_added x (kind_before key (key_of (row.Sub x)) after)) (λ h. none_yet 4 (kind_before key (key_of (row.Sub x)) after) (omega arith))
  next_said (row.Host n x) after fits =
      let said = and_both f.recorded _ fits in
      let at = and_both (eqb n (length f.hosts)) _ said.1 in
      said_more format key f _ done (row.Host n x) k after k.older k.recorded (host_added n x (eqb-true n (length f.hosts) at.0) (kind_before key (5, n) after)) (λ h. none_yet 5 (kind_before key (5, n) after) (omega arith))
  next_said (row.Job x) after fits = said_more format key f _ done (row.Job x) k after k.older k.recorded (job_added x (kind_before key (key_of (row.Job x)) after)) (λ h. none_yet 6 (kind_before key (key_of (row.Job x)) after) (omega arith))
  next_said (row.Layer x) after fits = said_more format key f _ done (row.Layer x) k after k.older k.recorded (layer_added x (kind_before key (key_of (row.Layer x)) after)) (λ h. none_yet 7 (kind_before key (key_of (row.Layer x)) after) (omega arith))
  next_said (row.Frame x) after fits =
      let said = and_both f.recorded _ fits in
      let behind = slots_behind x.slot after in
      said_more format key f _ done (row.Frame x) k after k.older k.recorded (frame_added x behind said.1 (kind_before key (8, x.slot) after)) (λ h. omega (arith, slots_long f.slots x.slot (slot_row f x) behind))
  next_said (row.Depend x) after fits = said_more format key f _ done (row.Depend x) k after k.older k.recorded (depend_added x (kind_before key (key_of (row.Depend x)) after)) (λ h. absurd (omega (arith, h)))
  next_said (row.Met x) after fits = said_more format key f _ done (row.Met x) k after k.older k.recorded (met_added x (kind_before key (key_of (row.Met x)) after)) (λ h. absurd (omega (arith, h)))
  next_said (row.Limit n x) after fits =
      let said = and_both f.recorded _ fits in
      let formatted = and_both (eqb format ROW_FORMAT) _ said.1 in
      let at = and_both (eqb n (length f.limits)) _ formatted.1 in
      said_more format key f _ done (row.Limit n x) k after (λ first. absurd (omega (arith, first, eqb-true format ROW_FORMAT formatted.0))) k.recorded (limit_added n x (eqb-true n (length f.limits) at.0)) (λ h. absurd (omega (arith, h)))

-- ---- the first row, and all

-- the farm's own row
head_said : (format : ℕ) (f : Farm) (x : HeadRow) → f ≡ empty_farm → row_fits format f (row.Head x) ≡ true → SaidBy x.format (1, 0) (with_stored f (row.Head x)) (row.Head x ∷ [])
head_said format f x is fits =
    record {
      known = (and_both (is_between 1 ROW_FORMAT x.format) _ (and_both (not f.recorded) _ fits).1).0;
      older = λ first. subst (λ (g : Farm). g.limits ≡ []) (sym is) refl;
      recorded = refl;
      rows = ap (λ (g : Farm). recorded_in x.format (with_stored g (row.Head x))) is;
      kinds = refl;
      slots = λ h. subst (λ (g : Farm). length g.slots ≤ 0) (sym is) (omega arith);
    }

pub unsaid : (f : Farm) (rest : Bool) → f ≡ empty_farm → (f.recorded && rest) ≡ true → ⊥
unsaid f rest is fits = false≢true (sym (ap (λ (g : Farm). g.recorded) is) ∙ (and_both f.recorded rest fits).0)

first_said : (format : ℕ) (f : Farm) (r : FarmRow) → f ≡ empty_farm → row_fits format f r ≡ true → SaidBy (format_after format r) (key_of r) (with_stored f r) (r ∷ [])
first_said format f (row.Head x) is fits = head_said format f x is fits
first_said format f (row.Show n x) is fits = absurd (unsaid f _ is fits)
first_said format f (row.Alloc n x) is fits = absurd (unsaid f _ is fits)
first_said format f (row.Sub x) is fits = absurd (unsaid f _ is fits)
first_said format f (row.Host n x) is fits = absurd (unsaid f _ is fits)
first_said format f (row.Job x) is fits = absurd (unsaid f _ is fits)
first_said format f (row.Layer x) is fits = absurd (unsaid f _ is fits)
first_said format f (row.Frame x) is fits = absurd (unsaid f _ is fits)
first_said format f (row.Depend x) is fits = absurd (unsaid f _ is fits)
first_said format f (row.Met x) is fits = absurd (unsaid f _ is fits)
first_said format f (row.Limit n x) is fits = absurd (unsaid f _ is fits)

-- each row is one more of the farm's
pub said_step : IsStep IsSaid
said_step format None f done r k after fits =
    subst (λ (olds : List FarmRow). SaidBy (format_after format r) (key_of r) (with_stored f r) (olds ++ r ∷ [])) (sym k.1) (first_said format f r k.0 fits)
said_step format (Some key) f done r k after fits = next_said format key f done k r after fits

-- the format is the one in which rows are written, or the one before it
one_of : (format : ℕ) → is_between 1 ROW_FORMAT format ≡ true → (format ≡ ROW_FORMAT) ⊎ (format ≡ 1)
one_of format known =
    let both = and_both (leb 1 format) (leb format ROW_FORMAT) known in
    elim (cases_eq format ROW_FORMAT) [
      | inl same ↦ inl same
      | inr apart ↦ inr (by apart (leb-true 1 format both.0) (leb-true format ROW_FORMAT both.1))
    ]
  where
    by : (format ≡ ROW_FORMAT → ⊥) → 1 ≤ format → format ≤ ROW_FORMAT → format ≡ 1
    by apart least most = omega (arith, apart, least, most)

has_by : (format : ℕ) (key : StoredKey) (f : Farm) (rows : List FarmRow) → SaidBy format key f rows → (format ≡ ROW_FORMAT) ⊎ (format ≡ 1) → HasRowsIn format f
has_by format key f rows k (inl same) = inl same
has_by format key f rows k (inr first) = inr (first, k.recorded, k.older first)

-- the farm has rows in the format, and they are these
exact_by : (format : ℕ) (end : Option StoredKey) (f : Farm) (rows : List FarmRow) → IsSaid format end f rows → (rows_in format f ≡ rows) × HasRowsIn format f
exact_by format None f rows k = (ap (rows_in format) k.0 ∙ sym k.1, inl k.2)
exact_by format (Some key) f rows k =
    (ap (λ (b : Bool). cond b (recorded_in format f) []) k.recorded ∙ k.rows, has_by format key f rows k (one_of format k.known))

exactly_said : (rows : List FarmRow) (s : Said) → farm_said rows ≡ Ok s → (rows_in s.format s.farm ≡ rows) × HasRowsIn s.format s.farm
exactly_said rows s e =
    let all = all_rows IsSaid said_step ROW_FORMAT None empty_farm [] rows s (refl, refl, refl) e in
    exact_by s.format all.0 s.farm rows all.1

-- the rows of a farm that rows say, in their format, which it has
pub rows_said : (rows : List FarmRow) (s : Said) → farm_said rows ≡ Ok s → rows_in s.format s.farm ≡ rows
rows_said rows s e = (exactly_said rows s e).0

pub format_said : (rows : List FarmRow) (s : Said) → farm_said rows ≡ Ok s → HasRowsIn s.format s.farm
format_said rows s e = (exactly_said rows s e).1
