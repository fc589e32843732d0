-- A slot's row fits the farm of the slots before it, and gives the slot back.
use Rattle.std.proofs.Common.{◌≡◌, ◌≤◌, ◌<◌, ℕ, ℤ, suc, zero, ◌+◌, eqb, leb, ltb, Bool, true, false, not, cond, ◌&&◌, List, [], ◌∷◌, ◌++◌, length, is_some, Option, Some, None, option_map, sum_by, get_or, refl, ap, sym, subst, ◌∙◌, arith}
use Rattle.std.specs.Option.{option_and_then}
use Rattle.std.specs.List.{IsDistinct, find, list_any, position_or_len, slice_get}
use Rattle.std.specs.Ordering.{int_eq}
use Rattle.std.proofs.lemmas.Bool.{eq-eqb, eqb-true, false_from_ne_true, le-leb, lt-ltb, not-true, true≢false}
use Rattle.std.proofs.lemmas.Bool.Decides.{Decides-int_eq}
use Rattle.std.proofs.lemmas.List.Sums.{position_or_len_is, sum_by-append, sum_by-cons}
use Rattle.std.proofs.lemmas.Map.Keys.{any_passes_from_place, apart_from_distinct}
use Rattle.std.proofs.lemmas.Option.{get_or_from_slice_get, none-some, same_Some, slice_get_within}
use Rattle.std.specs.Cmp.Derive.{both_true}
use Rattle.farm_types.specs.declared.attempt.ProcRow.{ProcRow}
use Rattle.farm_types.specs.declared.rows.HostRow.{HostRow}
use Rattle.farm_types.specs.declared.rows.JobRow.{JobRow}
use Rattle.farm_types.specs.declared.rows.LayerRow.{LayerRow}
use Rattle.farm_types.specs.declared.slot_row.Frame.{Frame}
use Rattle.farm_types.specs.declared.slot_row.SlotRow.{SlotRow}
use Rattle.farm_types.specs.declared.states.FrameState.{FrameState}
use Rattle.farm_types.specs.declared.states.FrameState.TheVariants as frame_state
use Rattle.farm_types.specs.declared.limits.TheConstants.{LAST_VERSION, MOST_RETRIES, SLOT_LIMIT}
use Rattle.farm_types.specs.Booking.{is_up}
use Rattle.farm_types.specs.Farm.{Farm, for_some, is_placed, job_at, layer_at, slot_from, sub_of, for_any, layer_in}
use Rattle.farm_types.specs.Kept.{KeepsRows, is_kept_frame, is_kept_slot, is_setup, is_subscribed}
use Rattle.farm_types.specs.Ranges.{range_numbers}
use Rattle.farm_types.specs.Run.{HasItsAttempt, IsAttemptOf}
use Rattle.farm_types.specs.Sums.{cores_on, memory_on, used_cores, used_memory}
use Rattle.farm_types.proofs.Lists.{and_both, for_some_true, list_all-at}
use Rattle.farm_types.proofs.Passes.{for_some-there}
use Rattle.farm_types.proofs.Ranges.{range_distinct}
use Rattle.farm_law.proofs.KeptAttempts.{Fits, each_fits}
use Rattle.farm_rows.specs.Recovery.{attempt_at, attempt_fits, attempt_of, frame_fits, frame_of, numbers_in, position_of, slot_fits, slot_row, state_of, taken_fits}
use Rattle.farm_rows.specs.Rows.{frame_row, is_unused, stored_frame, stored_state}
use Rattle.recovery_law.proofs.Parts.{upto_slots}

-- ---- lists

-- the position of a number, where none stands twice
position_there : (ns : List ℤ) (i : ℕ) (n number : ℤ) → IsDistinct int_eq ns → slice_get ns i ≡ Some n → int_eq n number ≡ true → position_or_len (λ m. int_eq m number) ns ≡ i
position_there ns i n number distinct at same =
    let within = slice_get_within ns i n at in
    let is : get_or ns i n ≡ number = get_or_from_slice_get ns i n n at ∙ (Decides-int_eq n number).0 same in
    position_or_len_is (λ m. int_eq m number) ns i n (omega (arith, within))
    (λ k below. ap (λ (z : ℤ). int_eq (get_or ns k n) z) (sym is) ∙ apart_from_distinct int_eq ns k i n distinct below within)
    (λ h. (Decides-int_eq (get_or ns i n) number).1 is)

pub at_front : {X : Type 0} (xs ys : List X) (n : ℕ) (x : X) → slice_get xs n ≡ Some x → slice_get (xs ++ ys) n ≡ Some x
at_front [] ys n x at = absurd (none-some x at)
at_front (z ∷ zs) ys zero x at = at
at_front (z ∷ zs) ys (suc n) x at = at_front zs ys n x at

none_from : (test : Frame → Bool) (place : ℕ) (ss : List SlotRow) → ((n : ℕ) (s : SlotRow) → slice_get ss n ≡ Some s → for_some s.frame test ≡ false) → slot_from place test ss ≡ None
none_from test place [] fails = refl
none_from test place (s ∷ ss) fails =
    ap (λ (b : Bool). cond b (Some place) (slot_from (place + 1) test ss)) (fails 0 s refl) ∙ none_from test (place + 1) ss (λ n t at. fails (suc n) t at)

-- a sum over the first ones with the next is within that over all
sum_within : (weight : SlotRow → ℕ) (had between rest : List SlotRow) (s : SlotRow) (most : ℕ) → sum_by weight (had ++ (between ++ s ∷ rest)) ≤ most → sum_by weight had + weight s ≤ most
sum_within weight had between rest s most all =
    let parts = sum_by-append weight had (between ++ s ∷ rest) in
    let more = sum_by-append weight between (s ∷ rest) in
    let own = sum_by-cons weight s rest in
    omega (arith, all, parts, more, own)

-- ---- what is kept of a frame

pub record Stands (f : Farm) (x : Frame) : Type 0 where
  pub layer : LayerRow
  pub there : layer_in f.layers x.job x.layer ≡ Some layer
  pub number : ℤ
  pub at : slice_get (range_numbers layer.range) x.position ≡ Some number
  pub same : int_eq number x.number ≡ true
  pub retries : leb x.retries MOST_RETRIES ≡ true
  pub no_setup : is_setup x.state ≡ false

pub stands : (f : Farm) (x : Frame) → is_kept_frame f.layers x ≡ true → Stands f x
stands f x h =
    let both = and_both _ _ h in
    let rest = and_both (leb x.retries MOST_RETRIES) (not (is_setup x.state)) both.1 in
    let layer = for_some_true (layer_in f.layers x.job x.layer) _ both.0 in
    let number = for_some_true (slice_get (range_numbers layer.0.range) x.position) _ layer.2 in
    record { layer = layer.0; there = layer.1; number = number.0; at = number.1; same = number.2; retries = rest.0; no_setup = not-true _ rest.1 }

-- ---- what is kept of an attempt

record Runs (f : Farm) (place version : ℕ) (x : Frame) (p : ProcRow) : Type 0 where
  pub slot : p.slot ≡ place
  pub of_version : p.version ≡ version
  pub job : JobRow
  pub job_there : job_at f x.job ≡ Some job
  pub layer : LayerRow
  pub layer_there : layer_at f x.job x.layer ≡ Some layer
  pub host : HostRow
  pub host_there : slice_get f.hosts p.host ≡ Some host
  pub up : (is_up host.state && eqb host.boot p.boot) ≡ true
  pub cores : p.cores ≡ layer.cores
  pub memory : p.memory ≡ layer.memory
  pub sub : p.sub ≡ sub_of job.show host.alloc
  pub subscribed : is_subscribed f.subs p ≡ true
  pub since : leb p.since f.moment ≡ true
  pub versioned : ltb 0 p.version ≡ true

runs : (f : Farm) (place version : ℕ) (x : Frame) (p : ProcRow) → Fits f (record { version = version; frame = Some x; proc = Some p }) → (p.slot ≡ place) × (p.version ≡ version) → Runs f place version x p
runs f place version x p fits own =
    let host = for_some_true (slice_get f.hosts p.host) _ fits.hosted in
    let layer = for_some_true (layer_in f.layers x.job x.layer) _ fits.measured in
    let amounts = and_both (eqb p.cores layer.0.cores) (eqb p.memory layer.0.memory) layer.2 in
    let job = for_some_true (job_at f x.job) _ fits.billed in
    let billed = for_some_true (slice_get f.hosts p.host) _ job.2 in
    let sub : p.sub ≡ sub_of job.0.show billed.0.alloc = eqb-true p.sub (sub_of job.0.show billed.0.alloc) billed.2 in
    let one : billed.0 ≡ host.0 = same_Some billed.0 host.0 (sym billed.1 ∙ host.1) in
    record {
      slot = own.0;
      of_version = own.1;
      job = job.0;
      job_there = job.1;
      layer = layer.0;
      layer_there = layer.1;
      host = host.0;
      host_there = host.1;
      up = host.2;
      cores = eqb-true p.cores layer.0.cores amounts.0;
      memory = eqb-true p.memory layer.0.memory amounts.1;
      sub = sub ∙ ap (λ (h : HostRow). sub_of job.0.show h.alloc) one;
      subscribed = fits.subscribed;
      since = fits.since;
      versioned = fits.versioned;
    }

state_back : (proc : Option ProcRow) (state : FrameState) → state_of (stored_state proc state) ≡ state
state_back proc frame_state.Waiting = refl
state_back proc frame_state.Setup = refl
state_back None frame_state.Running = refl
state_back (Some p) frame_state.Running = refl
state_back proc frame_state.Succeeded = refl
state_back proc frame_state.Depend = refl
state_back proc frame_state.Dead = refl
state_back proc frame_state.Eaten = refl

module _ (f : Farm) (had : List SlotRow) where
  position_back : (x : Frame) (proc : Option ProcRow) → Stands f x → position_of (upto_slots f had) (stored_frame proc x) ≡ x.position
  position_back x proc h =
      ap (λ (o : Option LayerRow). position_or_len (λ number. int_eq number x.number) (numbers_in o)) h.there
      ∙ position_there (range_numbers h.layer.range) x.position h.number x.number (range_distinct h.layer.range) h.at h.same

  frame_back : (x : Frame) (proc : Option ProcRow) → Stands f x → frame_of (upto_slots f had) (stored_frame proc x) ≡ x
  frame_back x proc h =
      let position = position_back x proc h in
      let state = state_back proc x.state in
      λ i. record x { position = position i; state = state i }

  run_back : (place version : ℕ) (x : Frame) (p : ProcRow) → Runs f place version x p → attempt_at (upto_slots f had) place version (stored_frame (Some p) x) (stored_state (Some p) frame_state.Running) ≡ Some p
  run_back place version x p r =
      let made : JobRow → LayerRow → Option HostRow → Option ProcRow = λ job layer. option_map (λ (h : HostRow). attempt_of place version p.boot p.host p.since job layer h) in
      let slot = sym r.slot in
      let of_version = sym r.of_version in
      let cores = sym r.cores in
      let memory = sym r.memory in
      let sub = sym r.sub in
      let same : attempt_of place version p.boot p.host p.since r.job r.layer r.host ≡ p = λ i. record p { slot = slot i; version = of_version i; cores = cores i; memory = memory i; sub = sub i } in
      ap (option_and_then (λ (job : JobRow). option_and_then (λ (layer : LayerRow). made job layer (slice_get f.hosts p.host)) (layer_at f x.job x.layer))) r.job_there
      ∙ ap (option_and_then (λ (layer : LayerRow). made r.job layer (slice_get f.hosts p.host))) r.layer_there
      ∙ ap (made r.job r.layer) r.host_there
      ∙ ap (λ (q : ProcRow). Some q) same

  attempt_back : (place version : ℕ) (x : Frame) (state : FrameState) (proc : Option ProcRow) → IsAttemptOf place version state proc → Fits f (record { version = version; frame = Some x; proc = proc })
      → attempt_at (upto_slots f had) place version (stored_frame proc x) (stored_state proc state) ≡ proc
  attempt_back place version x frame_state.Running None own fits = absurd own
  attempt_back place version x frame_state.Running (Some p) own fits = run_back place version x p (runs f place version x p fits own)
  attempt_back place version x state None own fits = refl
  attempt_back place version x state (Some p) own fits = absurd own

  slot_back : (place version : ℕ) (frame : Option Frame) (proc : Option ProcRow) → HasItsAttempt place version frame proc → for_any frame (is_kept_frame f.layers) ≡ true → Fits f (record { version = version; frame = frame; proc = proc })
      → slot_row (upto_slots f had) (frame_row place (record { version = version; frame = frame; proc = proc })) ≡ record { version = version; frame = frame; proc = proc }
  slot_back place version None None own kept fits = refl
  slot_back place version None (Some p) own kept fits = absurd own
  slot_back place version (Some x) proc own kept fits =
      let frame = frame_back x proc (stands f x kept) in
      let attempt = attempt_back place version x x.state proc own fits in
      λ i. record { version = version; frame = Some (frame i); proc = attempt i }

  -- ---- it fits

  module _ (k : KeepsRows f) (between rest : List SlotRow) (s : SlotRow) (is : had ++ (between ++ s ∷ rest) ≡ f.slots) where
    cores_within : (p : ProcRow) (h : HostRow) → s.proc ≡ Some p → slice_get f.hosts p.host ≡ Some h → used_cores (upto_slots f had) p.host + p.cores ≤ h.cores
    cores_within p h proc there =
        let own : cores_on p.host s.proc ≡ p.cores = ap (cores_on p.host) proc ∙ ap (λ (b : Bool). cond b p.cores 0) (eq-eqb p.host p.host refl) in
        let all = sum_within (λ (t : SlotRow). cores_on p.host t.proc) had between rest s h.cores (subst (λ (ss : List SlotRow). sum_by (λ (t : SlotRow). cores_on p.host t.proc) ss ≤ h.cores) (sym is) (k.sound.cores p.host h there)) in
        omega (arith, own, all)

    memory_within : (p : ProcRow) (h : HostRow) → s.proc ≡ Some p → slice_get f.hosts p.host ≡ Some h → used_memory (upto_slots f had) p.host + p.memory ≤ h.memory
    memory_within p h proc there =
        let own : memory_on p.host s.proc ≡ p.memory = ap (memory_on p.host) proc ∙ ap (λ (b : Bool). cond b p.memory 0) (eq-eqb p.host p.host refl) in
        let all = sum_within (λ (t : SlotRow). memory_on p.host t.proc) had between rest s h.memory (subst (λ (ss : List SlotRow). sum_by (λ (t : SlotRow). memory_on p.host t.proc) ss ≤ h.memory) (sym is) (k.sound.memory p.host h there)) in
        omega (arith, own, all)

    run_fit : (place version : ℕ) (x : Frame) (p : ProcRow) → s.proc ≡ Some p → Runs f place version x p → attempt_fits (upto_slots f had) version (stored_frame (Some p) x) (stored_state (Some p) frame_state.Running) ≡ true
    run_fit place version x p proc r =
        let subscribed : is_some (find (λ s. eqb s.sub (sub_of r.job.show r.host.alloc)) f.subs) ≡ true = subst (λ (n : ℕ). is_some (find (λ s. eqb s.sub n) f.subs) ≡ true) r.sub r.subscribed in
        let cores = subst (λ (n : ℕ). used_cores (upto_slots f had) p.host + n ≤ r.host.cores) r.cores (cores_within p r.host proc r.host_there) in
        let memory = subst (λ (n : ℕ). used_memory (upto_slots f had) p.host + n ≤ r.host.memory) r.memory (memory_within p r.host proc r.host_there) in
        both_true (subst (λ (n : ℕ). ltb 0 n ≡ true) r.of_version r.versioned)
        (both_true r.since
        (for_some-there (job_at f x.job) _ r.job r.job_there
        (for_some-there (layer_at f x.job x.layer) _ r.layer r.layer_there
        (for_some-there (slice_get f.hosts p.host) _ r.host r.host_there
        (both_true r.up (both_true subscribed (both_true (le-leb _ r.host.cores cores) (le-leb _ r.host.memory memory))))))))

    attempt_fit : (place version : ℕ) (x : Frame) (state : FrameState) (proc : Option ProcRow) → s.proc ≡ proc → is_setup state ≡ false → IsAttemptOf place version state proc → Fits f (record { version = version; frame = Some x; proc = proc })
        → attempt_fits (upto_slots f had) version (stored_frame proc x) (stored_state proc state) ≡ true
    attempt_fit place version x frame_state.Running None here no_setup own fits = absurd own
    attempt_fit place version x frame_state.Running (Some p) here no_setup own fits = run_fit place version x p here (runs f place version x p fits own)
    attempt_fit place version x frame_state.Setup proc here no_setup own fits = absurd (true≢false no_setup)
    attempt_fit place version x state proc here no_setup own fits = refl

    not_placed : (x : Frame) → s.frame ≡ Some x → slice_get f.slots (length had + length between) ≡ Some s → slot_from 0 (is_placed x.job x.layer x.position) had ≡ None
    not_placed x here at =
        none_from (is_placed x.job x.layer x.position) 0 had (λ n t front. false_from_ne_true _ (λ placed.
        let y = for_some_true t.frame (is_placed x.job x.layer x.position) placed in
        let there : slice_get f.slots n ≡ Some t = subst (λ (ss : List SlotRow). slice_get ss n ≡ Some t) is (at_front had (between ++ s ∷ rest) n t front) in
        let within = slice_get_within had n t front in
        let same = k.jobs.frames_once (length had + length between) n s t x y.0 at here there y.1 y.2 in
        absurd (omega (arith, within, same))))

    frame_fit : (place : ℕ) (x : Frame) → s.frame ≡ Some x → slice_get f.slots (length had + length between) ≡ Some s → is_kept_frame f.layers x ≡ true → IsAttemptOf place s.version x.state s.proc → Fits f (record { version = s.version; frame = Some x; proc = s.proc })
        → frame_fits (upto_slots f had) s.version (stored_frame s.proc x) ≡ true
    frame_fit place x here at kept own fits =
        let h = stands f x kept in
        let numbers = ap (λ (o : Option LayerRow). list_any (λ number. int_eq number x.number) (numbers_in o)) h.there in
        let none = ap (λ (n : ℕ). slot_from 0 (is_placed x.job x.layer n) had) (position_back x s.proc h) ∙ not_placed x here at in
        both_true (numbers ∙ any_passes_from_place (λ number. int_eq number x.number) (range_numbers h.layer.range) x.position h.number h.at h.same)
        (both_true (ap (λ (o : Option ℕ). not (is_some o)) none)
        (both_true h.retries (attempt_fit place s.version x x.state s.proc refl h.no_setup own fits)))

    taken_fit : (place : ℕ) (frame : Option Frame) → s.frame ≡ frame → slice_get f.slots (length had + length between) ≡ Some s → (not (is_some frame) && eqb s.version 0) ≡ false → for_any frame (is_kept_frame f.layers) ≡ true
        → HasItsAttempt place s.version frame s.proc → Fits f (record { version = s.version; frame = frame; proc = s.proc }) → taken_fits (upto_slots f had) s.version (option_map (stored_frame s.proc) frame) ≡ true
    taken_fit place None here at used kept own fits = lt-ltb 0 s.version (above s.version used)
      where
        above : (n : ℕ) → eqb n 0 ≡ false → 0 < n
        above zero h = absurd (true≢false h)
        above (suc n) h = omega arith
    taken_fit place (Some x) here at used kept own fits = frame_fit place x here at kept own fits

    -- the slot's row fits, and gives it back
    pub fit_back : (place : ℕ) → place ≡ length had + length between → slice_get f.slots place ≡ Some s → is_unused s ≡ false → (slot_fits (upto_slots f had) (frame_row place s) ≡ true) × (slot_row (upto_slots f had) (frame_row place s) ≡ s)
    fit_back place place_is at used =
        let kept = and_both (leb s.version LAST_VERSION) (for_any s.frame (is_kept_frame f.layers)) (list_all-at (is_kept_slot f.layers) f.slots place s k.jobs.slots_kept at) in
        let fits = each_fits f k.attempts place s at in
        let own = k.sound.attempts place s at in
        let within = slice_get_within f.slots place s at in
        let count = k.jobs.slot_count in (
          both_true (lt-ltb place SLOT_LIMIT (omega (arith, within, count)))
              (both_true kept.0 (taken_fit place s.frame refl (subst (λ (n : ℕ). slice_get f.slots n ≡ Some s) place_is at) used kept.1 own fits)),
          slot_back place s.version s.frame s.proc own kept.1 fits,
        )
