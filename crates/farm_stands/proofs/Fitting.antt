-- What a kept farm says is within its limits, and fits the bits of a word.
use Rattle.std.proofs.Common.{◌≡◌, ℕ, zero, suc, ◌≤◌, ◌<◌, Bool, true, ◌==◌, ◌&&◌, List, [], ◌∷◌, length, sym, refl, subst, arith, leb, leb-true}
use Rattle.std.specs.Prelude.{Option, Some, None, IfSome, nat_lt, slice_get, find}
use Rattle.std.specs.List.{list_all}
use Rattle.std.proofs.lemmas.Bool.Decides.{nat_tests}
use Rattle.std.proofs.lemmas.Option.{none-some}
use Rattle.farm_types.specs.declared.attempt.ProcRow.{ProcRow}
use Rattle.farm_types.specs.declared.limits.TheConstants.{LAST_VERSION, MOST_BURST, MOST_CORES, MOST_MEMORY, MOST_RUNNING}
use Rattle.farm_types.specs.declared.rows.HostRow.{HostRow}
use Rattle.farm_types.specs.declared.rows.JobRow.{JobRow}
use Rattle.farm_types.specs.declared.rows.LayerRow.{LayerRow}
use Rattle.farm_types.specs.declared.rows.LimitRow.{LimitRow}
use Rattle.farm_types.specs.declared.rows.SubRow.{SubRow}
use Rattle.farm_types.specs.declared.slot_row.Frame.{Frame}
use Rattle.farm_types.specs.declared.slot_row.SlotRow.{SlotRow}
use Rattle.farm_types.specs.declared.states.FrameState.{FrameState}
use Rattle.farm_types.specs.declared.states.FrameState.TheVariants as frame_state
use Rattle.farm_types.specs.Farm.{Farm, for_any, job_at, layer_at, sub_at}
use Rattle.farm_types.specs.Kept.{IsKeptFarm, has_its_limit, is_formed_host, is_formed_job, is_formed_layer, is_formed_limit, is_kept_frame, is_kept_slot, is_kept_sub, is_on_host}
use Rattle.farm_types.proofs.Lists.{and_both, find_passes, for_some_true, list_all-at}
use Rattle.frame_words.specs.Bits.{FitsAmount, FitsFrame}
use Rattle.booking_rule.specs.Link.{cores_in, frame_stand, host_in, host_where, limit_code, limit_of, memory_in, phase_of, show_of}
use Rattle.booking_rule.specs.Rule.{word_of}
use Rattle.farm_stands.specs.Turns.{amounts_in}

-- what is at a place is below the length
pub got_below : {X : Type 0} (xs : List X) (n : ℕ) (x : X) → slice_get xs n ≡ Some x → n < length xs
got_below [] n x at = absurd (none-some x at)
got_below (y ∷ ys) zero x at = omega arith
got_below (y ∷ ys) (suc n) x at = let below = got_below ys n x at in omega (arith, below)

-- ---- subscriptions, limits and hosts

row_sizes : (row : HostRow) → is_formed_host row ≡ true → (row.cores ≤ 1000000) × (row.memory ≤ 1000000000000)
row_sizes row formed = (grind (arith, nat_tests), grind (arith, nat_tests))

row_burst : (shows allocs : ℕ) (row : SubRow) → is_kept_sub shows allocs row ≡ true → row.burst ≤ 2000000000
row_burst shows allocs row kept = grind (arith, nat_tests)

row_most : (row : LimitRow) → is_formed_limit row ≡ true → row.most ≤ 65536
row_most row formed = grind (arith, nat_tests)

-- of a row that was read

pub host_read : (f h : Farm) (host : ℕ) (row : HostRow) → IsKeptFarm f → h ≡ f → Some row ≡ slice_get h.hosts host
    → (row.cores ≤ MOST_CORES) × (row.memory ≤ MOST_MEMORY)
host_read f h host row k same at =
    row_sizes row (list_all-at is_formed_host f.hosts host row k.rows.hosts.formed (subst (λ (g : Farm). slice_get g.hosts host ≡ Some row) same (sym at)))

pub sub_read : (f h : Farm) (sub : ℕ) (row : SubRow) → IsKeptFarm f → h ≡ f → Some row ≡ sub_at h sub → row.burst ≤ MOST_BURST
sub_read f h sub row k same at =
    let kept = is_kept_sub (length f.shows) (length f.allocs) in
    let here : sub_at f sub ≡ Some row = subst (λ (g : Farm). sub_at g sub ≡ Some row) same (sym at) in
    row_burst (length f.shows) (length f.allocs) row (find_passes (λ (s : SubRow). s.sub == sub) kept f.subs row k.rows.subs.each here)

pub limit_read : (f h : Farm) (limit : ℕ) (rows : List LimitRow) (row : LimitRow) → IsKeptFarm f → h ≡ f → rows ≡ h.limits
    → Some row ≡ slice_get rows limit → row.most ≤ MOST_RUNNING
limit_read f h limit rows row k same are at =
    let there : slice_get h.limits limit ≡ Some row = subst (λ (rs : List LimitRow). slice_get rs limit ≡ Some row) are (sym at) in
    let here : slice_get f.limits limit ≡ Some row = subst (λ (g : Farm). slice_get g.limits limit ≡ Some row) same there in
    row_most row (list_all-at is_formed_limit f.limits limit row k.rows.limits.formed here)

-- ---- the frame's layer and job

layer_small : (layers : List LayerRow) (wanted : LayerRow → Bool) → list_all is_formed_layer layers ≡ true → (x : Option LayerRow)
    → find wanted layers ≡ x → (cores_in x ≤ 1000000) × (memory_in x ≤ 1000000000000)
layer_small layers wanted formed None at = (omega arith, omega arith)
layer_small layers wanted formed (Some l) at =
    let k = find_passes wanted is_formed_layer layers l formed at in (grind (arith, nat_tests), grind (arith, nat_tests))

show_small : (shows : ℕ) (jobs : List JobRow) (wanted : JobRow → Bool) → shows ≤ 64 → list_all (is_formed_job shows) jobs ≡ true → (x : Option JobRow)
    → find wanted jobs ≡ x → show_of x < 65536
show_small shows jobs wanted few formed None at = omega arith
show_small shows jobs wanted few formed (Some j) at = let k = find_passes wanted (is_formed_job shows) jobs j formed at in grind (arith, nat_tests)

few_limits : (limits : ℕ) (limit : Option ℕ) → limits ≤ 255 → for_any limit (λ (n : ℕ). nat_lt n limits) ≡ true → IfSome limit (λ n. n < 255)
few_limits limits None few there = tt
few_limits limits (Some n) few there = grind (arith, nat_tests)

-- the limit of a layer is one of the table's
pub limit_within : (f : Farm) (job place : ℕ) (l : LayerRow) → IsKeptFarm f → layer_at f job place ≡ Some l → IfSome l.limit (λ n. n < 255)
limit_within f job place l k at =
    few_limits (length f.limits) l.limit k.rows.limits.count
    (find_passes (λ (r : LayerRow). r.job == job && r.place == place) (has_its_limit (length f.limits)) f.layers l k.rows.limits.there at)

code_small : (limit : Option ℕ) → IfSome limit (λ n. n < 255) → limit_code limit < 256
code_small None within = omega arith
code_small (Some n) within = omega (arith, within)

limit_small : (f : Farm) (job place : ℕ) → IsKeptFarm f → (x : Option LayerRow) → layer_at f job place ≡ x → limit_of x < 256
limit_small f job place k None at = omega arith
limit_small f job place k (Some l) at = code_small l.limit (limit_within f job place l k at)

-- ---- a slot's words

phase_small : (state : FrameState) → phase_of state < 16
phase_small frame_state.Waiting = omega arith
phase_small frame_state.Depend = omega arith
phase_small frame_state.Setup = omega arith
phase_small frame_state.Running = omega arith
phase_small frame_state.Succeeded = omega arith
phase_small frame_state.Dead = omega arith
phase_small frame_state.Eaten = omega arith

host_small : (hosts : List HostRow) (proc : Option ProcRow) → length hosts ≤ 4096 → for_any proc (is_on_host hosts) ≡ true → host_in proc < 65536
host_small hosts None few on = omega arith
host_small hosts (Some p) few on =
    let row = for_some_true (slice_get hosts p.host) _ on in
    let below = got_below hosts p.host row.0 row.1 in
    omega (arith, below, few)

where_small : (hosts : List HostRow) (state : FrameState) (proc : Option ProcRow) → length hosts ≤ 4096 → for_any proc (is_on_host hosts) ≡ true
    → host_where state proc < 65536
where_small hosts frame_state.Waiting proc few on = omega arith
where_small hosts frame_state.Depend proc few on = omega arith
where_small hosts frame_state.Setup proc few on = omega arith
where_small hosts frame_state.Running proc few on = host_small hosts proc few on
where_small hosts frame_state.Succeeded proc few on = omega arith
where_small hosts frame_state.Dead proc few on = omega arith
where_small hosts frame_state.Eaten proc few on = omega arith

frame_in_fits : (f : Farm) (s : SlotRow) → IsKeptFarm f → s.version ≤ 16777215 → for_any s.proc (is_on_host f.hosts) ≡ true → (x : Option Frame)
    → FitsFrame (word_of (frame_stand f s x))
frame_in_fits f s k version on None = (omega arith, omega (arith, version), omega arith, omega arith)
frame_in_fits f s k version on (Some x) =
    let phase = phase_small x.state in
    let host = where_small f.hosts x.state s.proc k.rows.hosts.count on in
    let cores = (layer_small f.layers _ k.rows.jobs.layers_formed (layer_at f x.job x.layer) refl).0 in
    (phase, omega (arith, version), host, omega (arith, cores))

frame_row_fits : (f : Farm) (n : ℕ) (s : SlotRow) → IsKeptFarm f → slice_get f.slots n ≡ Some s → FitsFrame (word_of (frame_stand f s s.frame))
frame_row_fits f n s k at =
    let kept = list_all-at (is_kept_slot f.layers) f.slots n s k.rows.jobs.slots_kept at in
    let both = and_both (leb s.version LAST_VERSION) (for_any s.frame (is_kept_frame f.layers)) kept in
    frame_in_fits f s k (leb-true s.version LAST_VERSION both.0) (list_all-at _ f.slots n s k.rows.attempts.hosted at) s.frame

amounts_in_fit : (f : Farm) (s : SlotRow) → IsKeptFarm f → (x : Option Frame) → FitsAmount (amounts_in (frame_stand f s x))
amounts_in_fit f s k None = (omega arith, omega arith, omega arith)
amounts_in_fit f s k (Some x) =
    let memory = (layer_small f.layers _ k.rows.jobs.layers_formed (layer_at f x.job x.layer) refl).1 in (
      show_small (length f.shows) f.jobs _ k.rows.shows.count k.rows.jobs.jobs_formed (job_at f x.job) refl,
      limit_small f x.job x.layer k (layer_at f x.job x.layer) refl,
      omega (arith, memory),
    )

-- ---- of a slot that was read

pub frame_read : (f h : Farm) (n : ℕ) (s : SlotRow) → IsKeptFarm f → h ≡ f → Some s ≡ slice_get h.slots n → FitsFrame (word_of (frame_stand h s s.frame))
frame_read f h n s k same at =
    subst (λ (g : Farm). FitsFrame (word_of (frame_stand g s s.frame))) (sym same)
    (frame_row_fits f n s k (subst (λ (g : Farm). slice_get g.slots n ≡ Some s) same (sym at)))

pub amounts_read : (f h : Farm) (s : SlotRow) → IsKeptFarm f → h ≡ f → FitsAmount (amounts_in (frame_stand h s s.frame))
amounts_read f h s k same = subst (λ (g : Farm). FitsAmount (amounts_in (frame_stand g s s.frame))) (sym same) (amounts_in_fit f s k s.frame)
