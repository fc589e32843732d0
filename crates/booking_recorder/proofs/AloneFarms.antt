-- What a booking that may be recorded says of a slot that suits: where a step of a seat that is alone is lost, it may not.
use Rattle.std.proofs.Common.{◌≡◌, ℕ, ◌+◌, ◌<◌, ◌≤◌, ◌==◌, ◌&&◌, Bool, true, false, List, [], sym, refl, ap, ◌∙◌, subst, arith, ⊎_elim}
use Rattle.std.specs.Prelude.{Option, Some, None, nat_lt, slice_get}
use Rattle.std.proofs.lemmas.Bool.{eqb-true, ltb-true}
use Rattle.farm_types.specs.declared.limits.TheConstants.{LAST_VERSION, LEAST_CORES, LEAST_MEMORY, MOST_CORES, MOST_MEMORY}
use Rattle.farm_types.specs.declared.rows.HostRow.{HostRow}
use Rattle.farm_types.specs.declared.rows.JobRow.{JobRow}
use Rattle.farm_types.specs.declared.rows.LimitRow.{LimitRow}
use Rattle.farm_types.specs.declared.rows.SubRow.{SubRow}
use Rattle.farm_types.specs.declared.slot_row.Frame.{Frame}
use Rattle.farm_types.specs.declared.slot_row.SlotRow.{SlotRow}
use Rattle.farm_types.specs.Booking.{in_facility, is_pending, may_record, suits, version_of}
use Rattle.farm_types.specs.Farm.{Farm, for_any, for_some, job_at, sub_at, sub_of}
use Rattle.farm_types.specs.Kept.{IsKeptFarm}
use Rattle.farm_types.specs.Limits.{IsBetween}
use Rattle.farm_types.specs.Sums.{booked_in, running_in, used_cores, used_memory}
use Rattle.farm_types.proofs.Lists.{and_both, for_some_true}
use Rattle.farm_law.proofs.CanBook.{CanBook, Rows, can_book}
use Rattle.std.proofs.lemmas.Option.{slice_get_within}
use Rattle.booking_rule.specs.declared.hold.Room.{Room}
use Rattle.booking_rule.specs.declared.hold.Take.{Take}
use Rattle.booking_rule.specs.declared.view.View.{View}
use Rattle.booking_rule.specs.Kept.{farm_in}
use Rattle.booking_rule.specs.Link.{burst_at, burst_in, host_alloc, host_cores, host_memory, limit_code, most_at, most_in, of_host, stand_at}
use Rattle.booking_rule.specs.Recorded.{Stand}
use Rattle.booking_rule.specs.Rule.{cores_in, granted_in, granted_on, in_flight, limit_in_flight, memory_in, on_limit, on_sub}
use Rattle.booking_rule.specs.Totals.{total}
use Rattle.booking_table.specs.declared.burst.BurstFull.{BurstFull}
use Rattle.booking_table.specs.declared.limit.LimitFull.{LimitFull}
use Rattle.booking_table.specs.declared.room.HostShort.{HostShort}
use Rattle.booking_table.specs.declared.room.HostShort.TheVariants as host_short
use Rattle.booking_table.specs.declared.seen.Seen.{Seen}
use Rattle.booking_table.specs.Alone.{SawStand, ShowsFull, ShowsNoPlace, ShowsShort}
use Rattle.booking_table.specs.Calls.{IsShort}
use Rattle.booking_table.specs.Holds.{IsLimit}
use Rattle.entry_law.proofs.Alone.{books_alone}
use Rattle.entry_law.proofs.FrameRows.{frame_rows}
use Rattle.entry_law.proofs.Stands.{stand_is, the_stand, version_is}
use Rattle.recorder.specs.Recording.{booking}
use Rattle.recording_turns.proofs.CarryingFarms.{alloc_below, stand_amounts, sub_below}
use Rattle.recording_turns.proofs.SizesResized.{cores_is, memory_is}
use Rattle.booking_recorder.specs.Alone.{HoldsAlone, IsWanted}
use Rattle.booking_recorder.proofs.Booked.{booking_legal}

-- a booking that can't be recorded may not be
never : (f : Farm) (slot host : ℕ) → (may_record f slot host ≡ true → ⊥) → may_record f slot host ≡ false
never f slot host none = go (may_record f slot host) refl
  where
    go : (b : Bool) → may_record f slot host ≡ b → may_record f slot host ≡ false
    go true is = absurd (none is)
    go false is = is

limit_is : (n : ℕ) (o : Option ℕ) → limit_code (Some n) ≡ limit_code o → o ≡ Some n
limit_is n None e = absurd (omega (arith, e))
limit_is n (Some m) e = let same : m ≡ n = omega (arith, e) in ap Some same

burst_there : (f : Farm) (sub : ℕ) (row : SubRow) → sub_at f sub ≡ Some row → burst_at f sub ≡ row.burst
unfolding burst_at
burst_there f sub row at = ap burst_in at

alloc_there : (f : Farm) (host : ℕ) (row : HostRow) → slice_get f.hosts host ≡ Some row → host_alloc f host ≡ row.alloc
unfolding host_alloc
alloc_there f host row at = ap (of_host (λ (r : HostRow). r.alloc)) at

most_there : (f : Farm) (limit : ℕ) (row : LimitRow) → slice_get f.limits limit ≡ Some row → most_at f limit ≡ row.most
unfolding most_at
most_there f limit row at = ap most_in at

-- ---- a booking that may be recorded

module _ (f : Farm) (slot host version sub : ℕ) (suited : suits f slot version host sub ≡ true) (may : may_record f slot host ≡ true) where
  found : (r : Rows) × CanBook f slot host r
  found = can_book f slot host may

  abbrev rows : Rows
  rows = found.0

  can : CanBook f slot host rows
  can = found.1

  stand : stand_at f slot ≡ the_stand rows.slot rows.frame rows.job.show rows.layer
  stand = stand_is f slot rows.slot rows.frame rows.job rows.layer can.slot_is can.frame_is can.job_is can.layer_is

  made : suits f slot version host sub
      ≡ (rows.slot.version == version
      && (is_pending rows.job.state && (in_facility f rows.host.alloc rows.job.facility && (sub_of rows.job.show rows.host.alloc == sub))))
  made = rw can.slot_is (rw can.frame_is (rw can.job_is (rw can.host_is refl)))

  of_sub : sub_of rows.job.show rows.host.alloc ≡ sub
  of_sub =
      let on = and_both (is_pending rows.job.state) _ (and_both (rows.slot.version == version) _ (sym made ∙ suited)).1 in
      eqb-true _ _ (and_both (in_facility f rows.host.alloc rows.job.facility) _ on.1).1

  waits : (stand_at f slot).phase ≡ 1
  waits = (books_alone f (booking slot host 0) slot host (booking_legal f slot host 0 (omega arith) may) refl).waited

  burst_fits : booked_in f sub + (stand_at f slot).cores ≤ burst_at f sub
  burst_fits =
      let burst = burst_there f (sub_of rows.job.show rows.host.alloc) rows.sub can.sub_is in
      let cores : (stand_at f slot).cores ≡ rows.layer.cores = ap (λ (s : Stand). s.cores) stand in
      let fits = can.burst in
      let all : booked_in f (sub_of rows.job.show rows.host.alloc) + (stand_at f slot).cores ≤ burst_at f (sub_of rows.job.show rows.host.alloc) =
      omega (arith, burst, cores, fits) in
      subst (λ (k : ℕ). booked_in f k + (stand_at f slot).cores ≤ burst_at f k) of_sub all

  cores_fit : used_cores f host + (stand_at f slot).cores ≤ host_cores f host
  cores_fit =
      let cores : (stand_at f slot).cores ≡ rows.layer.cores = ap (λ (s : Stand). s.cores) stand in
      let size = cores_is f host rows.host can.host_is in
      let fits = can.cores in
      omega (arith, cores, size, fits)

  memory_fits : used_memory f host + (stand_at f slot).memory ≤ host_memory f host
  memory_fits =
      let memory : (stand_at f slot).memory ≡ rows.layer.memory = ap (λ (s : Stand). s.memory) stand in
      let size = memory_is f host rows.host can.host_is in
      let fits = can.memory in
      omega (arith, memory, size, fits)

  place_fits : (limit : ℕ) → limit_code (Some limit) ≡ (stand_at f slot).limit → running_in f limit < most_at f limit
  place_fits limit named =
      let has : rows.layer.limit ≡ Some limit = limit_is limit rows.layer.limit (named ∙ ap (λ (s : Stand). s.limit) stand) in
      go rows.layer.limit has can.limit
    where
      go : (o : Option ℕ) → o ≡ Some limit
          → (for_any o (λ n. for_some (slice_get f.limits n) (λ row. nat_lt (running_in f n) row.most))) ≡ true
          → running_in f limit < most_at f limit
      go None is may_run = absurd (none_some is)
        where
          none_some : None ≡ Some limit → ⊥
          none_some e = cc
      go (Some n) is may_run =
          let same : n ≡ limit = some_same is in
          let row = for_some_true (slice_get f.limits n) _ may_run in
          let most = most_there f n row.0 row.1 in
          let less = ltb-true (running_in f n) row.0.most row.2 in
          subst (λ (k : ℕ). running_in f k < most_at f k) same (omega (arith, most, less))
        where
          some_same : Some n ≡ Some limit → n ≡ limit
          some_same e = cc

-- ---- a slot that suits

module _ (f : Farm) (slot host version sub : ℕ) (kept : IsKeptFarm f) (suited : suits f slot version host sub ≡ true) where
  row : (s : SlotRow) × (slice_get f.slots slot ≡ Some s)
      × ((s.version == version && for_some s.frame (λ frame. for_some (job_at f frame.job) (λ job.
      is_pending job.state && for_some (slice_get f.hosts host) (λ row. in_facility f row.alloc job.facility && (sub_of job.show row.alloc == sub))))) ≡ true)
  row = let r = for_some_true (slice_get f.slots slot) _ suited in (r.0, r.1, r.2)

  pub slot_within : slot < 65536
  slot_within =
      let lt = slice_get_within f.slots slot row.0 row.1 in
      let few = kept.rows.jobs.slot_count in
      omega (arith, lt, few)

  pub version_now : (stand_at f slot).version ≡ version
  version_now =
      let is : version_of (slice_get f.slots slot) ≡ row.0.version = ap version_of row.1 in
      version_is f slot ∙ is ∙ eqb-true _ _ (and_both (row.0.version == version) _ row.2).0

  of_frame : (x : Frame) × (row.0.frame ≡ Some x) × (for_some (job_at f x.job) (λ job.
      is_pending job.state && for_some (slice_get f.hosts host) (λ on. in_facility f on.alloc job.facility && (sub_of job.show on.alloc == sub))) ≡ true)
  of_frame = let r = for_some_true row.0.frame _ (and_both (row.0.version == version) _ row.2).1 in (r.0, r.1, r.2)

  of_job : (j : JobRow) × (job_at f of_frame.0.job ≡ Some j)
      × ((is_pending j.state && for_some (slice_get f.hosts host) (λ on. in_facility f on.alloc j.facility && (sub_of j.show on.alloc == sub))) ≡ true)
  of_job = let r = for_some_true (job_at f of_frame.0.job) _ of_frame.2 in (r.0, r.1, r.2)

  on_host : (on : HostRow) × (slice_get f.hosts host ≡ Some on) × ((in_facility f on.alloc of_job.0.facility && (sub_of of_job.0.show on.alloc == sub)) ≡ true)
  on_host = let r = for_some_true (slice_get f.hosts host) _ (and_both (is_pending of_job.0.state) _ of_job.2).1 in (r.0, r.1, r.2)

  pub host_within : host < 4096
  host_within =
      let lt = slice_get_within f.hosts host on_host.0 on_host.1 in
      let few = kept.rows.hosts.count in
      omega (arith, lt, few)

  pub sub_within : (stand_at f slot).phase ≡ 1 → sub < 1024
  sub_within waits =
      let s = row.0 in
      let x = of_frame.0 in
      let r = frame_rows f kept.rows slot s x row.1 of_frame.1 in
      let stand = stand_is f slot s x of_job.0 r.layer_row row.1 of_frame.1 of_job.1 r.layer_is in
      let show : (stand_at f slot).show ≡ of_job.0.show = ap (λ (t : Stand). t.show) stand in
      let few = (stand_amounts f slot kept (ap (λ (k : ℕ). k == 0) waits)).show in
      let low = alloc_below f host kept (record { row = on_host.0; there = on_host.1 }) in
      let alloc = alloc_there f host on_host.0 on_host.1 in
      let is = eqb-true _ _ (and_both (in_facility f on_host.0.alloc of_job.0.facility) _ on_host.2).1 in
      subst (λ (k : ℕ). k < 1024) is (sub_below of_job.0.show on_host.0.alloc (omega (arith, few, show)) (omega (arith, low, alloc)))

  -- it was seen to wait
  pub looked_want : (seen : Seen) → version < LAST_VERSION → seen.slot ≡ slot → SawStand (stand_at f slot) seen → seen.phase ≡ 1 → seen.version ≡ version
      → seen.cores < 1048576 → IsBetween LEAST_CORES MOST_CORES seen.cores → IsBetween LEAST_MEMORY MOST_MEMORY seen.memory → IsLimit seen.limit
      → IsWanted f slot sub host seen
  looked_want seen below at saw waits same few cores memory limit = record {
    at = at;
    saw = subst (λ (n : ℕ). SawStand (stand_at f n) seen) (sym at) saw;
    waits = waits;
    within = subst (λ (n : ℕ). n < 65536) (sym at) slot_within;
    below = subst (λ (n : ℕ). n < LAST_VERSION) (sym same) below;
    few = few;
    cores = cores;
    memory = memory;
    limit = limit;
    suited = subst (λ (x : ℕ × ℕ). suits f x.0 x.1 host sub ≡ true) (λ i. (sym at i, sym same i)) suited;
    of_sub = sub_within (sym saw.phase ∙ waits);
    on_host = host_within;
  }

-- ---- a step that was lost

-- the slot's frame waits at another version, or not at all
pub look_lost : (f : Farm) (slot host version sub : ℕ) (seen : Seen) → suits f slot version host sub ≡ true → IsKeptFarm f → SawStand (stand_at f slot) seen
    → (seen.phase ≡ 1 → seen.version ≡ version → ⊥) → may_record f slot host ≡ false
look_lost f slot host version sub seen suited kept saw other =
    never f slot host
    (λ may. other (saw.phase ∙ waits f slot host version sub suited may) (saw.version ∙ version_now f slot host version sub kept suited))

module _ (f : Farm) (slot host sub : ℕ) (seen : Seen) (want : IsWanted f slot sub host seen) (v : View) (leads : f ≡ farm_in v) where
  abbrev s : Stand
  s = stand_at f seen.slot

  used : (s.phase == 0) ≡ false
  used = ap (λ (k : ℕ). k == 0) (sym want.saw.phase ∙ want.waits)

  pub burst_lost : (full : BurstFull) → HoldsAlone [] [] [] [] v → ShowsFull v sub full → full.burst < full.booked + seen.cores
      → may_record f seen.slot host ≡ false
  burst_lost full h shows less = never f seen.slot host (λ may.
      let fits = burst_fits f seen.slot host seen.version sub want.suited may in
      let cores = want.saw.cores in
      let burst = shows.burst in
      let booked = shows.booked in
      let burst_is : burst_at (farm_in v) sub ≡ burst_at f sub = ap (λ (g : Farm). burst_at g sub) (sym leads) in
      let booked_is : booked_in (farm_in v) sub ≡ booked_in f sub = ap (λ (g : Farm). booked_in g sub) (sym leads) in
      let none : granted_on sub v ≡ 0 = ap (λ (l : List Take). total (on_sub sub) l) h.takes in
      let still : in_flight sub v.ungranted ≡ 0 = ap (in_flight sub) h.burst in
      absurd (omega (arith, fits, cores, burst, booked, burst_is, booked_is, none, still, less)))

  pub place_lost : (ts : List Take) (limit : ℕ) (full : LimitFull) → HoldsAlone ts [] [] [] v → seen.limit ≡ Some limit → ShowsNoPlace v limit full
      → full.most < full.running + 1 → may_record f seen.slot host ≡ false
  place_lost ts limit full h named shows less = never f seen.slot host (λ may.
      let fits = place_fits f seen.slot host seen.version sub want.suited may limit (ap limit_code (sym named) ∙ want.saw.limit used) in
      let most = shows.most in
      let running = shows.running in
      let most_is : most_at (farm_in v) limit ≡ most_at f limit = ap (λ (g : Farm). most_at g limit) (sym leads) in
      let running_is : running_in (farm_in v) limit ≡ running_in f limit = ap (λ (g : Farm). running_in g limit) (sym leads) in
      let none : granted_in limit v ≡ 0 = ap (λ (l : List ℕ). total (on_limit limit) l) h.limits in
      let still : limit_in_flight limit v.ungranted_limit ≡ 0 = ap (limit_in_flight limit) h.place in
      absurd (omega (arith, fits, most, running, most_is, running_is, none, still, less)))

  pub room_lost : (ts : List Take) (ls : List ℕ) (w : View) (short : HostShort) → HoldsAlone ts ls [] [] v → ShowsShort v host short
      → IsShort v host seen.cores seen.memory short w → may_record f seen.slot host ≡ false
  room_lost ts ls w (host_short.Moved expected found) h shows short = absurd shows
  room_lost ts ls w (host_short.NoRoom free_cores free_memory) h shows short = never f seen.slot host (λ may.
      let cores_free = cores_fit f seen.slot host seen.version sub want.suited may in
      let memory_free = memory_fits f seen.slot host seen.version sub want.suited may in
      let cores = want.saw.cores in
      let memory = want.saw.memory used in
      let left = shows.cores in
      let rest = shows.memory in
      let size : host_cores (farm_in v) host ≡ host_cores f host = ap (λ (g : Farm). host_cores g host) (sym leads) in
      let sizes : host_memory (farm_in v) host ≡ host_memory f host = ap (λ (g : Farm). host_memory g host) (sym leads) in
      let run : used_cores (farm_in v) host ≡ used_cores f host = ap (λ (g : Farm). used_cores g host) (sym leads) in
      let fill : used_memory (farm_in v) host ≡ used_memory f host = ap (λ (g : Farm). used_memory g host) (sym leads) in
      let no_cores : total (cores_in host) v.rooms ≡ 0 = ap (λ (l : List Room). total (cores_in host) l) h.rooms in
      let no_memory : total (memory_in host) v.rooms ≡ 0 = ap (λ (l : List Room). total (memory_in host) l) h.rooms in
      ⊎_elim
      (λ (less : free_cores < seen.cores). absurd (omega (arith, cores_free, cores, left, size, run, no_cores, less)))
      (λ (less : free_memory < seen.memory). absurd (omega (arith, memory_free, memory, rest, sizes, fill, no_memory, less)))
      short.3)
