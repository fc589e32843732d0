-- What the rows say once nothing is at fault: each number has its frame, ends are there, and what the draft keeps is what every farm keeps of its rows.
use Rattle.std.proofs.Common.{◌≡◌, ◌<◌, ◌≤◌, ℕ, ℤ, suc, zero, ◌+◌, ◌-◌, ◌*◌, Bool, true, false, cond, ◌&&◌, not, eqb, leb, ltb, List, [], ◌∷◌, length, Option, Some, None, refl, sym, ap, subst, ◌∙◌, arith}
use Rattle.std.specs.Prelude.{◌/◌, bytes_eq, is_some, slice_get}
use Rattle.std.specs.List.{filter, find, list_all, list_any, position_or_len}
use Rattle.std.specs.Ordering.{int_eq}
use Rattle.std.specs.Cmp.Derive.{both_true}
use Rattle.std.proofs.lemmas.Bool.{eqb-true, false≢true, leb-true, ltb-true, not-false, or_left, or_right}
use Rattle.std.proofs.lemmas.Cmp.{int_eq_equiv}
use Rattle.std.proofs.lemmas.List.Folds.{find_at}
use Rattle.std.proofs.lemmas.Option.{none-some, same_Some}
use Rattle.farm_types.specs.DependActs.{has_number}
use Rattle.farm_types.specs.declared.depend.DependEnd.{DependEnd}
use Rattle.farm_types.specs.declared.depend.DependRow.{DependRow}
use Rattle.farm_types.specs.declared.limits.TheConstants.{LAST_VERSION, MOST_ALLOCS, MOST_LAYERS, SUB_NUMBERS}
use Rattle.farm_types.specs.declared.rows.JobRow.{JobRow}
use Rattle.farm_types.specs.declared.rows.LayerRow.{LayerRow}
use Rattle.farm_types.specs.declared.slot_row.Frame.{Frame}
use Rattle.farm_types.specs.declared.slot_row.SlotRow.{SlotRow}
use Rattle.farm_types.specs.Farm.{Farm, for_some, layers_of, slot_from, for_any, layer_in}
use Rattle.farm_types.specs.Finish.{finishes}
use Rattle.farm_types.specs.Forms.{is_between, is_name_text}
use Rattle.farm_types.specs.Kept.{EachThere, KeepsJobs, KeepsRows, KeepsWork, frames_said, has_frame_in, has_its_limit, has_part, is_end_there, is_formed_layer, is_kept_frame, is_kept_slot, is_kept_sub, is_of_pending, is_pending_job, runs_unmet}
use Rattle.farm_types.specs.Ranges.{range_numbers}
use Rattle.farm_types.specs.Rising.{IsRising, depend_key, job_key, layer_key, sub_key}
use Rattle.farm_types.specs.Settle.{opens}
use Rattle.farm_types.specs.Step.{lists_of}
use Rattle.farm_types.proofs.Lists.{and_both, for_some_true, found_is, list_all-at, list_all-from_at}
use Rattle.farm_types.proofs.Passes.{for_some-there}
use Rattle.farm_law.proofs.KeptJobsRows.{frame_kept}
use Rattle.depend_law.proofs.Among.{In, kept_from, rising_once}
use Rattle.farm_rows.specs.declared.farm_row.FarmRow.TheVariants as row
use Rattle.farm_rows.specs.Recovery.{StoredKey, end_fault, end_is_there, first_depend, first_job, first_layer, first_slot, head_ends, is_frame_in, is_part_in, is_wrongly_marked, lacks_frames, lacks_limit, lacks_slots}
use Rattle.farm_rows.proofs.Faultless.{each_there, first_fails, groups_alike, neither, none_told}
use Rattle.recovery_law.proofs.DraftDepends.{HasAllGroups}
use Rattle.recovery_law.proofs.Drafts.{Draft}
use Rattle.recovery_law.proofs.Ordered.{InOrder, rises}

-- ---- nothing at fault

no_slot : (test : ℕ → SlotRow → Bool) (place : ℕ) (slots : List SlotRow) → first_slot test place slots ≡ None → (n : ℕ) (s : SlotRow) → slice_get slots n ≡ Some s → test (place + n) s ≡ false
no_slot test place [] e n s at = absurd (none-some s at)
no_slot test place (t ∷ ts) e zero s at =
    subst (λ (k : ℕ). test k s ≡ false) (omega arith) (subst (λ (r : SlotRow). test place r ≡ false) (same_Some t s at) (first_fails (test place t) (8, place) (first_slot test (place + 1) ts) e).0)
no_slot test place (t ∷ ts) e (suc n) s at =
    subst (λ (k : ℕ). test k s ≡ false) (omega arith) (no_slot test (place + 1) ts (first_fails (test place t) (8, place) (first_slot test (place + 1) ts) e).1 n s at)

-- what no fault says
pub record NoFault (f : Farm) : Type 0 where
  pub limits : (n : ℕ) (l : LayerRow) → slice_get f.layers n ≡ Some l → lacks_limit f l ≡ false
  pub head : head_ends f ≡ None
  pub frames : (n : ℕ) (j : JobRow) → slice_get f.jobs n ≡ Some j → lacks_frames f j ≡ false
  pub slots : (n : ℕ) (l : LayerRow) → slice_get f.layers n ≡ Some l → lacks_slots f l ≡ false
  pub work : (n : ℕ) (j : JobRow) → slice_get f.jobs n ≡ Some j → finishes f.slots j ≡ false
  pub marked : (n : ℕ) (d : DependRow) → slice_get f.depends n ≡ Some d → is_wrongly_marked f d ≡ false
  pub runs : (n : ℕ) (s : SlotRow) → slice_get f.slots n ≡ Some s → runs_unmet f n s ≡ false
  pub blocked : (n : ℕ) (s : SlotRow) → slice_get f.slots n ≡ Some s → opens f n s ≡ false

pub no_fault : (f : Farm) → end_fault f ≡ None → NoFault f
no_fault f e =
    let limits = neither (first_layer (lacks_limit f) f.layers) _ e in
    let head = neither (head_ends f) _ limits.1 in
    let frames = neither (first_job (lacks_frames f) f.jobs) _ head.1 in
    let slots = neither (first_layer (lacks_slots f) f.layers) _ frames.1 in
    let work = neither (first_job (finishes f.slots) f.jobs) _ slots.1 in
    let marked = neither (first_depend (is_wrongly_marked f) f.depends) _ work.1 in
    let runs = neither (first_slot (runs_unmet f) 0 f.slots) (first_slot (opens f) 0 f.slots) marked.1 in
    record {
      limits = none_told _ (lacks_limit f) f.layers limits.0;
      head = head.0;
      frames = none_told _ (lacks_frames f) f.jobs frames.0;
      slots = none_told _ (lacks_slots f) f.layers slots.0;
      work = none_told _ (finishes f.slots) f.jobs work.0;
      marked = none_told _ (is_wrongly_marked f) f.depends marked.0;
      runs = λ n s at. subst (λ (k : ℕ). runs_unmet f k s ≡ false) (omega arith) (no_slot (runs_unmet f) 0 f.slots runs.0 n s at);
      blocked = λ n s at. subst (λ (k : ℕ). opens f k s ≡ false) (omega arith) (no_slot (opens f) 0 f.slots runs.1 n s at);
    }

-- ---- each number has its frame

pub there : (f : Farm) → NoFault f → EachThere f.layers f.slots
there f fine = each_there f fine.slots

-- so groups so far are all groups
pub all_groups : (f : Farm) → NoFault f → HasAllGroups f
all_groups f fine = groups_alike f (there f fine)

-- ---- ends of depends

pub found_in : {X : Type 0} (test : X → Bool) (xs : List X) (x : X) → find test xs ≡ Some x → In xs x
found_in test xs x e = (position_or_len test xs, sym (find_at test xs) ∙ e)

pub any_there : {X : Type 0} (test : X → Bool) (xs : List X) (n : ℕ) (x : X) → slice_get xs n ≡ Some x → test x ≡ true → list_any test xs ≡ true
any_there test [] n x at h = absurd (none-some x at)
any_there test (y ∷ ys) zero x at h = or_left (test y) (list_any test ys) (subst (λ z. test z ≡ true) (sym (same_Some y x at)) h)
any_there test (y ∷ ys) (suc n) x at h = or_right (test y) (list_any test ys) (any_there test ys n x at h)

equal_by : (a b c : ℤ) → int_eq a b ≡ true → int_eq b c ≡ true → int_eq c a ≡ true
equal_by a b c first second = int_eq_equiv.symm c a ∙ (int_eq_equiv.congr a b c first ∙ second)

at_same : {X : Type 0} (xs : List X) (i k : ℕ) (x y : X) → slice_get xs i ≡ Some x → slice_get xs k ≡ Some y → i ≡ k → x ≡ y
at_same xs i k x y at_i at_k same = same_Some x y (sym at_i ∙ (ap (slice_get xs) same ∙ at_k))

-- the slot that is found
record Found (test : Frame → Bool) (slots : List SlotRow) : Type 0 where
  place : ℕ
  slot : SlotRow
  frame : Frame
  at : slice_get slots place ≡ Some slot
  has : slot.frame ≡ Some frame
  passes : test frame ≡ true

slot_found : (test : Frame → Bool) (place : ℕ) (slots : List SlotRow) → is_some (slot_from place test slots) ≡ true → Found test slots
slot_found test place [] h = absurd (false≢true h)
slot_found test place (s ∷ ss) h = step (for_some s.frame test) refl h (slot_found test (place + 1) ss)
  where
    step : (b : Bool) → for_some s.frame test ≡ b → is_some (cond b (Some place) (slot_from (place + 1) test ss)) ≡ true → (is_some (slot_from (place + 1) test ss) ≡ true → Found test ss) → Found test (s ∷ ss)
    step true is h later =
        let x = for_some_true s.frame test is in
        record { place = 0; slot = s; frame = x.0; at = refl; has = x.1; passes = x.2 }
    step false is h later =
        let k = later h in
        record { place = suc k.place; slot = k.slot; frame = k.frame; at = k.at; has = k.has; passes = k.passes }

module _ (f : Farm) (high : ℕ) (rise : IsRising layer_key 0 f.layers high) (kept : list_all (is_kept_slot f.layers) f.slots ≡ true) where
  frame_in : (l : LayerRow) → In f.layers l → (frame : Option ℤ) → is_frame_in f l frame ≡ true → has_frame_in frame l ≡ true
  frame_in l own None h = refl
  frame_in l own (Some number) h =
      let k = slot_found (λ (x : Frame). (eqb x.job l.job && eqb x.layer l.place) && int_eq x.number number) 0 f.slots h in
      let x = k.frame in
      let test = and_both (eqb x.job l.job && eqb x.layer l.place) (int_eq x.number number) k.passes in
      let placed = and_both (eqb x.job l.job) (eqb x.layer l.place) test.0 in
      let slot = and_both (leb k.slot.version LAST_VERSION) (for_any k.slot.frame (is_kept_frame f.layers)) (list_all-at (is_kept_slot f.layers) f.slots k.place k.slot kept k.at) in
      let frame : is_kept_frame f.layers x ≡ true = subst (λ (o : Option Frame). for_any o (is_kept_frame f.layers) ≡ true) k.has slot.1 in
      let layer = for_some_true (layer_in f.layers x.job x.layer) _ (frame_kept f.layers x frame).number in
      let other = layer.0 in
      let wanted = found_is (λ (m : LayerRow). eqb m.job x.job && eqb m.place x.layer) f.layers other layer.1 in
      let same = and_both (eqb other.job x.job) (eqb other.place x.layer) wanted in
      let key : layer_key other ≡ layer_key l =
      omega (arith, eqb-true x.job l.job placed.0, eqb-true x.layer l.place placed.1, eqb-true other.job x.job same.0, eqb-true other.place x.layer same.1) in
      let stands = found_in (λ (m : LayerRow). eqb m.job x.job && eqb m.place x.layer) f.layers other layer.1 in
      let at = rising_once layer_key 0 f.layers high stands.0 own.0 other l rise stands.1 own.1 key in
      let is = at_same f.layers stands.0 own.0 other l stands.1 own.1 at in
      let n = for_some_true (slice_get (range_numbers other.range) x.position) (λ m. int_eq m x.number) layer.2 in
      let equal = equal_by n.0 x.number number n.2 test.1 in
      subst (λ (m : LayerRow). has_number number m ≡ true) is (any_there (int_eq number) (range_numbers other.range) x.position n.0 n.1 equal)

  part_in : (job : ℕ) (layer : Option (List ℕ)) (frame : Option ℤ) → is_part_in f job layer frame ≡ true → has_part (layers_of f.layers job) layer frame ≡ true
  part_in job None frame h = refl
  part_in job (Some name) frame h =
      let layer = for_some_true (find (λ (l : LayerRow). bytes_eq l.name name) (layers_of f.layers job)) _ h in
      let at = found_in (λ (l : LayerRow). bytes_eq l.name name) (layers_of f.layers job) layer.0 layer.1 in
      let own = kept_from (λ (k : LayerRow). eqb k.job job) f.layers at.0 layer.0 at.1 in
      for_some-there (find (λ (l : LayerRow). bytes_eq l.name name) (layers_of f.layers job)) (has_frame_in frame) layer.0 layer.1 (frame_in layer.0 own.0 frame layer.2)

  -- an end that is there
  pub end_there : (e : DependEnd) → end_is_there f e ≡ true → is_end_there f e ≡ true
  end_there e h =
      let both = and_both (is_of_pending f.jobs e.job) (is_part_in f e.job e.layer e.frame) h in
      both_true both.0 (part_in e.job e.layer e.frame both.1)

-- ---- keys that rise

module _ (f : Farm) (d : Draft f) (o : InOrder f) where
  subs_rise : IsRising sub_key 0 f.subs SUB_NUMBERS
  subs_rise =
      rises row.Sub 4 sub_key (λ x. refl) SUB_NUMBERS 0 f.subs (omega arith)
      (λ n s at.
      let kept = list_all-at (is_kept_sub (length f.shows) (length f.allocs)) f.subs n s d.subs at in
      let show = and_both (ltb (s.sub / MOST_ALLOCS) (length f.shows)) _ kept in
      (omega arith, omega (arith, ltb-true _ _ show.0, d.shows.count)))
      o.subs

  job_between : (n : ℕ) (j : JobRow) → slice_get f.jobs n ≡ Some j → (1 ≤ j.job) × (j.job < f.next_job)
  job_between n j at =
      let within = list_all-at (λ (k : JobRow). is_between 1 (f.next_job - 1) k.job) f.jobs n j d.jobs.within at in
      let both = and_both (leb 1 j.job) (leb j.job (f.next_job - 1)) within in
      (leb-true 1 j.job both.0, omega (arith, leb-true j.job (f.next_job - 1) both.1, d.from_job))

  jobs_rise : IsRising job_key 1 f.jobs f.next_job
  jobs_rise = rises row.Job 6 job_key (λ x. refl) f.next_job 1 f.jobs d.from_job job_between o.jobs

  layer_below : (n : ℕ) (l : LayerRow) → slice_get f.layers n ≡ Some l → (0 ≤ layer_key l) × (layer_key l < MOST_LAYERS * f.next_job)
  layer_below n l at =
      let owned = for_some_true (find (λ (j : JobRow). eqb j.job l.job) f.jobs) is_pending_job (list_all-at (λ (m : LayerRow). is_of_pending f.jobs m.job) f.layers n l d.layers.owned at) in
      let is = eqb-true owned.0.job l.job (found_is (λ (j : JobRow). eqb j.job l.job) f.jobs owned.0 owned.1) in
      let stands = found_in (λ (j : JobRow). eqb j.job l.job) f.jobs owned.0 owned.1 in
      let named = and_both (is_name_text l.name) _ (list_all-at is_formed_layer f.layers n l d.layers.formed at) in
      let place = and_both (ltb l.place MOST_LAYERS) _ named.1 in
      (omega arith, omega (arith, (job_between stands.0 owned.0 stands.1).1, is, ltb-true l.place MOST_LAYERS place.0))

  pub layers_rise : IsRising layer_key 0 f.layers (MOST_LAYERS * f.next_job)
  layers_rise = rises row.Layer 7 layer_key (λ x. refl) (MOST_LAYERS * f.next_job) 0 f.layers (omega arith) layer_below o.layers

  pub depends_rise : IsRising depend_key 1 f.depends f.next_depend
  depends_rise =
      rises row.Depend 9 depend_key (λ x. refl) f.next_depend 1 f.depends d.from_depend
      (λ n e at.
      let both = and_both (leb 1 e.depend) (leb e.depend (f.next_depend - 1)) (list_all-at (λ (x : DependRow). is_between 1 (f.next_depend - 1) x.depend) f.depends n e d.depends.within at) in
      (leb-true 1 e.depend both.0, omega (arith, leb-true e.depend (f.next_depend - 1) both.1, d.from_depend)))
      o.depends

  -- ---- the rows but for depends

  module _ (fine : NoFault f) where
    said_by : (b : Bool) (n : ℕ) (j : JobRow) → is_pending_job j ≡ true → eqb (frames_said (layers_of f.layers j.job)) j.frames ≡ b → lacks_frames f j ≡ false → frames_said (layers_of f.layers j.job) ≡ j.frames
    said_by true n j pending is none = eqb-true _ j.frames is
    said_by false n j pending is none = absurd (false≢true (sym (rw (pending, is) at none)))

    head_by : (b : Bool) → leb (f.next_finish + length (filter is_pending_job f.jobs)) f.next_job ≡ b → ◌≡◌ {A = Option StoredKey} (cond b None (Some (1, 0))) None → f.next_finish + length (filter is_pending_job f.jobs) ≤ f.next_job
    head_by true is e = leb-true _ f.next_job is
    head_by false is e = absurd (none-some (1, 0) (sym e))

    keeps_jobs : KeepsJobs (lists_of f) (length f.shows)
    keeps_jobs =
        record {
          next_within = d.next_job;
          finish_from = d.from_finish;
          finish_within = head_by (leb (f.next_finish + length (filter is_pending_job f.jobs)) f.next_job) refl fine.head;
          finished_count = d.jobs.finished;
          finishes_within = d.jobs.finishes;
          finishes_differ = d.jobs.finishes_differ;
          jobs_counted = d.jobs.counted;
          jobs_rise = jobs_rise;
          jobs_formed = d.jobs.formed;
          jobs_differ = d.jobs.differ;
          jobs_layered = λ n j at pending.
              record {
                places = (d.layers.each j.job).places;
                differ = (d.layers.each j.job).differ;
                frames = said_by (eqb (frames_said (layers_of f.layers j.job)) j.frames) n j pending refl (fine.frames n j at);
              };
          layers_rise = layers_rise;
          layers_formed = d.layers.formed;
          layers_owned = d.layers.owned;
          slot_count = d.slots.count;
          slots_kept = d.slots.kept;
          frames_once = d.slots.once;
          frames_there = there f fine;
          ends_used = d.slots.ends_used;
        }

    pub keeps_rows : KeepsRows f
    keeps_rows =
        record {
          moment_within = d.moment;
          shows = d.shows;
          allocs = d.allocs;
          subs = record { rise = subs_rise; each = d.subs };
          limits =
              record {
                count = d.limits.count;
                differ = d.limits.differ;
                formed = d.limits.formed;
                there = list_all-from_at (has_its_limit (length f.limits)) f.layers (λ n l at. not-false (has_its_limit (length f.limits) l) (fine.limits n l at));
              };
          hosts = d.hosts;
          jobs = keeps_jobs;
          attempts = d.slots.attempts;
          sound = d.slots.sound;
        }

    pub keeps_work : KeepsWork f
    keeps_work = list_all-from_at (λ (j : JobRow). not (finishes f.slots j)) f.jobs (λ n j at. ap not (fine.work n j at))
