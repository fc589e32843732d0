-- What a legal entry that is no booking does to slots and hosts, and what a kept farm says of them.
use Rattle.std.proofs.Common.{◌≡◌, ◌≢◌, ℕ, ◌<◌, ◌≤◌, true, false, ◌==◌, length, [], refl, sym, ap, ◌∙◌, subst, arith, inl, ⊎_elim}
use Rattle.std.specs.Prelude.{Option, Some, None, IfSome}
use Rattle.std.specs.List.{slice_get}
use Rattle.std.proofs.lemmas.Bool.Decides.{nat_tests}
use Rattle.std.proofs.lemmas.Option.{slice_get_within}
use Rattle.farm_types.specs.declared.attempt.ProcRow.{ProcRow}
use Rattle.farm_types.specs.declared.entry.Act.TheVariants.{Book}
use Rattle.farm_types.specs.declared.entry.Entry.{Entry}
use Rattle.farm_types.specs.declared.rows.HostRow.{HostRow}
use Rattle.farm_types.specs.declared.rows.JobRow.{JobRow}
use Rattle.farm_types.specs.Farm.{Farm, for_any, sub_of}
use Rattle.farm_types.specs.Kept.{IsKeptFarm, is_formed_host, is_formed_job, is_on_host}
use Rattle.farm_types.specs.Run.{IsLegalStep}
use Rattle.farm_types.specs.Step.{after}
use Rattle.farm_types.proofs.Lists.{find_passes, for_some_true, list_all-at}
use Rattle.depend_law.proofs.KeptRuns.{kept_step}
use Rattle.booking_rule.specs.Kept.{no_desk}
use Rattle.booking_rule.specs.Link.{host_alloc, host_cores, host_memory, limit_code, of_host, opening_of, stand_at}
use Rattle.booking_rule.specs.Recorded.{Stand}
use Rattle.booking_rule.specs.Rule.{is_booked}
use Rattle.booking_rule.proofs.Says.{none_setup}
use Rattle.entry_law.proofs.FrameRows.{frame_rows}
use Rattle.entry_law.proofs.HostRows.{alloc_is, alloc_stays}
use Rattle.entry_law.proofs.Rising.{running}
use Rattle.entry_law.proofs.Sizes.{runs_at, sizes}
use Rattle.entry_law.proofs.Stands.{has_frame, stand_is}
use Rattle.recording_core.specs.Machine.{IsBooking}
use Rattle.farm_stands.proofs.Fitting.{limit_within}

-- ---- slots

-- no kept farm has a frame that is half booked
pub no_setup : (f : Farm) → IsKeptFarm f → (slot : ℕ) → (stand_at f slot).phase ≢ 3
no_setup f kept slot = none_setup (opening_of f) [] no_desk kept.rows tt (inl refl) slot

unbooked : (phase : ℕ) → phase ≢ 3 → phase ≢ 4 → is_booked phase ≡ false
unbooked phase three four = grind (arith, nat_tests)

pub booked_runs : (phase : ℕ) → phase ≢ 3 → is_booked phase ≡ true → phase ≡ 4
booked_runs phase three booked = grind (arith, nat_tests)

-- ---- a host that runs frames, or has a size

pub record HasHost (f : Farm) (host : ℕ) : Type 0 where
  pub row : HostRow
  pub there : slice_get f.hosts host ≡ Some row

host_by : (f : Farm) (host : ℕ) (o : Option HostRow) → slice_get f.hosts host ≡ o → of_host (λ (r : HostRow). r.cores) o ≢ 0 → HasHost f host
host_by f host None at size = absurd (size refl)
host_by f host (Some row) at size = record { row = row; there = at }

pub sized_host : (f : Farm) (host : ℕ) → host_cores f host ≢ 0 → HasHost f host
unfolding host_cores
sized_host f host size = host_by f host (slice_get f.hosts host) refl size

pub running_host : (f : Farm) (slot : ℕ) → IsKeptFarm f → (stand_at f slot).phase ≡ 4 → HasHost f (stand_at f slot).host
running_host f slot kept runs =
    let r = runs_at f slot kept.rows runs in
    let on : is_on_host f.hosts r.proc ≡ true =
    ap (λ (o : Option ProcRow). for_any o (is_on_host f.hosts)) (sym r.is) ∙ list_all-at _ f.slots slot r.row kept.rows.attempts.hosted r.at in
    let row = for_some_true (slice_get f.hosts r.proc.host) _ on in
    subst (HasHost f) (sym r.host) (record { row = row.0; there = row.1 })

pub host_below : (f : Farm) (host : ℕ) → IsKeptFarm f → HasHost f host → host < 4096
host_below f host kept h =
    let count : length f.hosts ≤ 4096 = kept.rows.hosts.count in
    let within = slice_get_within f.hosts host h.row h.there in
    omega (arith, count, within)

alloc_row : (f : Farm) (host : ℕ) → IsKeptFarm f → (h : HasHost f host) → h.row.alloc < 16
alloc_row f host kept h =
    let count : length f.allocs ≤ 16 = kept.rows.allocs.count in
    let one = list_all-at _ f.hosts host h.row kept.rows.hosts.allocated h.there in
    grind (arith, nat_tests)

pub alloc_below : (f : Farm) (host : ℕ) → IsKeptFarm f → HasHost f host → host_alloc f host < 16
alloc_below f host kept h = let row = alloc_row f host kept h in let is = alloc_is f host h.row h.there in omega (arith, row, is)

-- ---- a frame's amounts

show_row : (shows : ℕ) (j : JobRow) → shows ≤ 64 → is_formed_job shows j ≡ true → j.show < 64
show_row shows j few formed = grind (arith, nat_tests)

code_small : (limit : Option ℕ) → IfSome limit (λ n. n < 255) → limit_code limit < 256
code_small None within = omega arith
code_small (Some n) within = omega (arith, within)

pub record HasAmounts (s : Stand) : Type 0 where
  pub show : s.show < 64
  pub limit : s.limit < 256

pub stand_amounts : (f : Farm) (slot : ℕ) → IsKeptFarm f → ((stand_at f slot).phase == 0) ≡ false → HasAmounts (stand_at f slot)
stand_amounts f slot kept used =
    let h = has_frame f slot used in
    let r = frame_rows f kept.rows slot h.row h.frame h.at h.is in
    let s = stand_is f slot h.row h.frame r.job_row r.layer_row h.at h.is r.job_is r.layer_is in
    let shows : length f.shows ≤ 64 = kept.rows.shows.count in
    let show = show_row (length f.shows) r.job_row shows
    (find_passes _ (is_formed_job (length f.shows)) f.jobs r.job_row kept.rows.jobs.jobs_formed r.job_is) in
    let limit = code_small r.layer_row.limit (limit_within f h.frame.job h.frame.layer r.layer_row kept r.layer_is) in
    let show_is : (stand_at f slot).show ≡ r.job_row.show = ap (λ (x : Stand). x.show) s in
    let limit_is : (stand_at f slot).limit ≡ limit_code r.layer_row.limit = ap (λ (x : Stand). x.limit) s in
    record { show = omega (arith, show, show_is); limit = omega (arith, limit, limit_is) }

pub sub_below : (show alloc : ℕ) → show < 64 → alloc < 16 → sub_of show alloc < 1024
sub_below show alloc few low = omega (arith, few, low)

-- ---- one entry

row_cores : (row : HostRow) → is_formed_host row ≡ true → row.cores ≢ 0
row_cores row formed none = grind (arith, nat_tests)

none_cores : (f : Farm) (host : ℕ) → slice_get f.hosts host ≡ None → host_cores f host ≡ 0
unfolding host_cores
none_cores f host none = ap (of_host (λ (r : HostRow). r.cores)) none

none_alloc : (f : Farm) (host : ℕ) → slice_get f.hosts host ≡ None → host_alloc f host ≡ 0
unfolding host_alloc
none_alloc f host none = ap (of_host (λ (r : HostRow). r.alloc)) none

cores_there : (f : Farm) (host : ℕ) (row : HostRow) → slice_get f.hosts host ≡ Some row → host_cores f host ≡ row.cores
unfolding host_cores
cores_there f host row at = ap (of_host (λ (r : HostRow). r.cores)) at

-- a host of no size isn't there
alloc_none : (g : Farm) (host : ℕ) → IsKeptFarm g → host_cores g host ≡ 0 → (o : Option HostRow) → slice_get g.hosts host ≡ o → host_alloc g host ≡ 0
alloc_none g host kept none None at = none_alloc g host at
alloc_none g host kept none (Some row) at =
    absurd (row_cores row (list_all-at is_formed_host g.hosts host row kept.rows.hosts.formed at) (sym (cores_there g host row at) ∙ none))

module _ (f : Farm) (e : Entry) (kept : IsKeptFarm f) (legal : IsLegalStep f e) (other : IsBooking e.act → ⊥) where
  keeps : IsKeptFarm (after f e)
  keeps = kept_step f e legal kept

  not_booked : {P : Type 0} → (slot : ℕ) → (host : ℕ) × (e.act ≡ Book slot host) → P
  not_booked slot b = absurd (other (subst IsBooking (sym b.1) tt))

  -- a frame that runs afterwards ran before
  pub ran : (slot : ℕ) → (stand_at (after f e) slot).phase ≡ 4 → stand_at (after f e) slot ≡ stand_at f slot
  ran slot runs =
      ⊎_elim
      (λ (same : stand_at (after f e) slot ≡ stand_at f slot). same)
      (λ (b : (host : ℕ) × (e.act ≡ Book slot host)). not_booked slot b)
      (running f e slot kept legal runs)

  -- a slot that is another one runs no frame
  pub starts_none : (slot : ℕ) → stand_at f slot ≢ stand_at (after f e) slot → is_booked (stand_at (after f e) slot).phase ≡ false
  starts_none slot left = unbooked (stand_at (after f e) slot).phase (no_setup (after f e) keeps slot) (λ runs. left (sym (ran slot runs)))

  -- a host that is there keeps its allocation
  pub same_alloc : (host : ℕ) → HasHost f host → host_alloc (after f e) host ≡ host_alloc f host
  same_alloc host h = (alloc_stays f e host h.row legal h.there).2

  alloc_by : (host : ℕ) → host_cores (after f e) host ≡ host_cores f host → (o : Option HostRow) → slice_get f.hosts host ≡ o
      → host_alloc (after f e) host ≡ host_alloc f host
  alloc_by host same (Some row) at = same_alloc host (record { row = row; there = at })
  alloc_by host same None at =
      alloc_none (after f e) host keeps (same ∙ none_cores f host at) (slice_get (after f e).hosts host) refl ∙ sym (none_alloc f host at)

  -- one that keeps its size does so, too
  pub alloc_same : (host : ℕ) → host_cores (after f e) host ≡ host_cores f host → host_alloc (after f e) host ≡ host_alloc f host
  alloc_same host same = alloc_by host same (slice_get f.hosts host) refl

  abbrev pub SameSize : ℕ → Type 0
  SameSize host = (host_cores (after f e) host ≡ host_cores f host) × (host_memory (after f e) host ≡ host_memory f host)

  -- no frame runs on a host that gets another size
  pub none_runs : (host : ℕ) → (SameSize host → ⊥) → (slot : ℕ) → (stand_at (after f e) slot).phase ≡ 4 → (stand_at (after f e) slot).host ≢ host
  none_runs host another slot runs on =
      let same = ran slot runs in
      let before : (stand_at f slot).phase ≡ 4 = ap (λ (s : Stand). s.phase) (sym same) ∙ runs in
      let h = subst (HasHost f) (ap (λ (s : Stand). s.host) (sym same) ∙ on) (running_host f slot kept before) in
      ⊎_elim (λ (size : SameSize host). another size) (λ boots. boots.3 slot runs on) (sizes f e host kept legal h.row h.there)

  -- the subscription of a slot's show to the allocation of a host that was there
  pub sub_within : (slot host : ℕ) → ((stand_at f slot).phase == 0) ≡ false → HasHost f host
      → sub_of (stand_at f slot).show (host_alloc (after f e) host) < 1024
  sub_within slot host used h =
      let alloc = alloc_below f host kept h in
      let same = same_alloc host h in
      sub_below (stand_at f slot).show (host_alloc (after f e) host) (stand_amounts f slot kept used).show (omega (arith, alloc, same))
