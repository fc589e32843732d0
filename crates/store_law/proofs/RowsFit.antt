-- Each row of a farm is one that the types of rows hold.
use Rattle.std.proofs.Common.{◌≡◌, ◌<◌, ◌^◌, ◌*◌, ℕ, ◌/◌, ◌%◌, ◌&&◌, Bool, true, false, not, eqb, leb, ltb, List, length, Option, Some, None, ap, sym, subst, ◌∙◌, arith, option_map, ◌⊎◌, inl, inr, ◌≤◌, refl}
use Rattle.std.specs.Prelude.{IfSome}
use Rattle.std.specs.List.{All, AllByRecursion, list_all, slice_get}
use Rattle.std.specs.Ordering.{int_eq}
use Rattle.std.proofs.lemmas.Bool.{eqb-true, leb-true, ltb-true}
use Rattle.std.proofs.lemmas.Bool.Decides.{Decides-int_eq}
use Rattle.std.proofs.lemmas.List.Elements.{All-from_recursion}
use Rattle.std.proofs.lemmas.Option.{slice_get_within}
use Rattle.farm_types.specs.declared.attempt.ProcRow.{ProcRow}
use Rattle.farm_types.specs.declared.depend.DependRow.{DependRow}
use Rattle.farm_types.specs.declared.depend.MetRow.{MetRow}
use Rattle.farm_types.specs.declared.limits.TheConstants.{LAST_VERSION, MOST_ALLOCS, MOST_BURST, MOST_FRAMES, MOST_LAYERS, MOST_LIMITS, MOST_RETRIES, MOST_RUNNING, SUB_NUMBERS}
use Rattle.farm_types.specs.declared.rows.AllocRow.{AllocRow}
use Rattle.farm_types.specs.declared.rows.HostRow.{HostRow}
use Rattle.farm_types.specs.declared.rows.JobRow.{JobRow}
use Rattle.farm_types.specs.declared.rows.LayerRow.{LayerRow}
use Rattle.farm_types.specs.declared.rows.LimitRow.{LimitRow}
use Rattle.farm_types.specs.declared.rows.ShowRow.{ShowRow}
use Rattle.farm_types.specs.declared.rows.SubRow.{SubRow}
use Rattle.farm_types.specs.declared.slot_row.Frame.{Frame}
use Rattle.farm_types.specs.declared.slot_row.SlotRow.{SlotRow}
use Rattle.farm_types.specs.Booking.{is_pending, is_up}
use Rattle.farm_types.specs.Depends.{groups_of}
use Rattle.farm_types.specs.Farm.{Farm, for_some, for_any, layer_in}
use Rattle.farm_types.specs.Formed.{names_frame, names_layer, names_target_frame, names_target_layer}
use Rattle.farm_types.specs.Forms.{is_command_byte, is_name_text, is_tag_text}
use Rattle.farm_types.specs.Kept.{IsKeptFarm, has_its_counts, has_its_finish, has_its_limit, is_end_there, is_formed_alloc, is_formed_depend, is_formed_end, is_formed_host, is_formed_job, is_formed_layer, is_formed_limit, is_formed_show, is_kept_depend, is_kept_frame, is_kept_slot, is_kept_sub, is_on_host, is_setup}
use Rattle.farm_types.specs.Ranges.{range_numbers}
use Rattle.farm_types.specs.Rising.{depend_key, job_key, layer_key, sub_key}
use Rattle.farm_types.proofs.Lists.{and_both, for_some_true, found_is, list_all-at}
use Rattle.farm_types.proofs.Ranges.{range_utf8}
use Rattle.farm_types.proofs.Utf8.{name_utf8, tag_utf8}
use Rattle.farm_law.proofs.KeptJobsLists.{rising_below}
use Rattle.depend_law.proofs.Waiters.{depend_holds, group_key}
use Rattle.farm_rows.specs.declared.farm_row.FarmRow.TheVariants as row
use Rattle.farm_rows.specs.declared.farm_row.FarmRow.{FarmRow}
use Rattle.farm_rows.specs.declared.head_row.TheConstants.{ROW_FORMAT}
use Rattle.farm_rows.specs.Rows.{HasRowsIn, frame_row, head_in, is_unused, rows_in, stored_frame}
use Rattle.recovery_law.proofs.SaidDepends.{other_by}
use Rattle.recovery_law.proofs.SaidEnd.{settled_at}
use Rattle.recovery_law.proofs.SaidMet.{mark_of, rows_are}
use Rattle.row_codec.specs.RowLaws.{DependFits, Fits, FitsIn, FrameFits, HasNoLimit, HeadFits, IsSigned, JobFits, LayerFits, SlotFits, StoredFits, SubFits}
use Rattle.store_law.proofs.Members.{all_from_has, has_found, place_of}
use Rattle.store_law.proofs.RangesFit.{range_signed}
use Rattle.store_law.proofs.RowsThere.{EachKind, each_recorded, recorded_has}
use Rattle.store_law.proofs.FieldsFit.{HostParts, LayerParts, ProcFits, are_texts, counts_fit, end_fits, finish_fits, host_parts, job_parts, layer_parts, name_or_empty, state_fits, tested}

-- ---- rows, kind by kind

-- both formats are numbers of 64 bits
format_fits : (format : ℕ) (f : Farm) → HasRowsIn format f → format < 2 ^ 64
format_fits format f (inl same) = omega (arith, same)
format_fits format f (inr old) = omega (arith, old.0)

-- a layer of a farm without limits has none
no_limit : (o : Option ℕ) (count : ℕ) → count ≡ 0 → for_any o (λ limit. ltb limit count) ≡ true → o ≡ None
no_limit None count none has = refl
no_limit (Some limit) count none has = absurd (omega (arith, none, ltb-true limit count has))

few_limits : (o : Option ℕ) (count : ℕ) → count ≤ MOST_LIMITS → for_any o (λ limit. ltb limit count) ≡ true → IfSome o (λ limit. limit < 2 ^ 8)
few_limits None count few has = tt
few_limits (Some limit) count few has = omega (arith, few, ltb-true limit count has)

module _ (format : ℕ) (f : Farm) (k : IsKeptFarm f) (has : HasRowsIn format f) where
  head_fits : HeadFits (head_in format f)
  head_fits =
      let jobs = k.rows.jobs in
      record {
        format = format_fits format f has;
        moment = k.rows.moment_within;
        jobs = omega (arith, jobs.next_within);
        finishes = omega (arith, jobs.finish_within, jobs.next_within);
        depends = omega (arith, k.depends.next_within);
      }

  show_fits : (n : ℕ) (x : ShowRow) → slice_get f.shows n ≡ Some x → Fits (row.Show n x)
  show_fits n x at =
      (omega (arith, k.rows.shows.count, slice_get_within f.shows n x at), name_utf8 x.name (list_all-at is_formed_show f.shows n x k.rows.shows.formed at))

  alloc_fits : (n : ℕ) (x : AllocRow) → slice_get f.allocs n ≡ Some x → Fits (row.Alloc n x)
  alloc_fits n x at =
      let both = and_both (is_tag_text x.facility) (is_tag_text x.tag) (list_all-at is_formed_alloc f.allocs n x k.rows.allocs.formed at) in
      (omega (arith, k.rows.allocs.count, slice_get_within f.allocs n x at), tag_utf8 x.facility both.0, tag_utf8 x.tag both.1)

  sub_fits : (n : ℕ) (x : SubRow) → slice_get f.subs n ≡ Some x → SubFits x
  sub_fits n x at =
      let show = and_both (ltb (x.sub / MOST_ALLOCS) (length f.shows)) _ (list_all-at (is_kept_sub (length f.shows) (length f.allocs)) f.subs n x k.rows.subs.each at) in
      let alloc = and_both (ltb (x.sub % MOST_ALLOCS) (length f.allocs)) _ show.1 in
      let size = and_both (leb x.size MOST_BURST) (leb x.burst MOST_BURST) alloc.1 in
      record {
        sub = omega (arith, rising_below sub_key 0 f.subs SUB_NUMBERS n x k.rows.subs.rise at);
        size = omega (arith, leb-true x.size MOST_BURST size.0);
        burst = omega (arith, leb-true x.burst MOST_BURST size.1);
      }

  host_formed : (n : ℕ) (x : HostRow) → slice_get f.hosts n ≡ Some x → HostParts x
  host_formed n x at = host_parts x (list_all-at is_formed_host f.hosts n x k.rows.hosts.formed at)

  host_fits : (n : ℕ) (x : HostRow) → slice_get f.hosts n ≡ Some x → Fits (row.Host n x)
  host_fits n x at =
      let parts = host_formed n x at in
      let alloc = ltb-true x.alloc (length f.allocs) (list_all-at (λ (y : HostRow). ltb y.alloc (length f.allocs)) f.hosts n x k.rows.hosts.allocated at) in
      let heard = leb-true x.heard f.moment (list_all-at (λ (y : HostRow). leb y.heard f.moment) f.hosts n x k.rows.hosts.heard at) in (
        omega (arith, k.rows.hosts.count, slice_get_within f.hosts n x at),
        record {
          name = name_utf8 x.name parts.name;
          alloc = omega (arith, alloc, k.rows.allocs.count);
          tags = are_texts 0 x.tags parts.tags;
          cores = omega (arith, parts.cores);
          memory = omega (arith, parts.memory);
          boot = omega (arith, parts.boot);
          nonce = parts.nonce;
          seq = parts.seq;
          heard = omega (arith, heard, k.rows.moment_within);
        },
      )

  job_fits : (n : ℕ) (x : JobRow) → slice_get f.jobs n ≡ Some x → JobFits x
  job_fits n x at =
      let jobs = k.rows.jobs in
      let parts = job_parts (length f.shows) x (list_all-at (is_formed_job (length f.shows)) f.jobs n x jobs.jobs_formed at) in
      let counts = counts_fit (is_pending x.state) x.eaten x.succeeded x.frames parts.frames (list_all-at has_its_counts f.jobs n x jobs.jobs_counted at) in
      record {
        job = omega (arith, rising_below job_key 1 f.jobs f.next_job n x jobs.jobs_rise at, jobs.next_within);
        name = name_utf8 x.name parts.name;
        show = omega (arith, parts.show, k.rows.shows.count);
        facility = tag_utf8 x.facility parts.facility;
        shot = name_or_empty x.shot parts.shot;
        user = name_or_empty x.user parts.user;
        priority = omega (arith, parts.priority);
        max_retries = omega (arith, parts.max_retries);
        frames = omega (arith, parts.frames);
        finish = finish_fits (is_pending x.state) x.finish f.next_finish (omega (arith, jobs.finish_within, jobs.next_within))
            (list_all-at (has_its_finish f.next_finish) f.jobs n x jobs.finishes_within at);
        eaten = counts.0;
        succeeded = counts.1;
      }

  layer_formed : (n : ℕ) (x : LayerRow) → slice_get f.layers n ≡ Some x → LayerParts x
  layer_formed n x at = layer_parts x (list_all-at is_formed_layer f.layers n x k.rows.jobs.layers_formed at)

  layer_job : (n : ℕ) (x : LayerRow) → slice_get f.layers n ≡ Some x → x.job < 2 ^ 32
  layer_job n x at = omega (arith, rising_below layer_key 0 f.layers (MOST_LAYERS * f.next_job) n x k.rows.jobs.layers_rise at, k.rows.jobs.next_within)

  layer_row_fits : (n : ℕ) (x : LayerRow) → slice_get f.layers n ≡ Some x → LayerFits x
  layer_row_fits n x at =
      let parts = layer_formed n x at in
      record {
        job = layer_job n x at;
        place = omega (arith, parts.place);
        name = name_utf8 x.name parts.name;
        range = range_utf8 x.range parts.range;
        command = (and_both _ (list_all is_command_byte x.command) parts.command).0;
        cores = omega (arith, parts.cores);
        memory = omega (arith, parts.memory);
        tags = are_texts 1 x.tags parts.tags;
        limit = few_limits x.limit (length f.limits) k.rows.limits.count (list_all-at (has_its_limit (length f.limits)) f.layers n x k.rows.limits.there at);
      }

  -- ---- slots

  proc_fits : (n : ℕ) (s : SlotRow) → slice_get f.slots n ≡ Some s → (p : ProcRow) → s.proc ≡ Some p → ProcFits p
  proc_fits n s at p is =
      let on = tested s.proc (is_on_host f.hosts) p (list_all-at (λ (t : SlotRow). for_any t.proc (is_on_host f.hosts)) f.slots n s k.rows.attempts.hosted at) is in
      let begun = tested s.proc (λ (q : ProcRow). leb q.since f.moment) p (list_all-at (λ (t : SlotRow). for_any t.proc (λ (q : ProcRow). leb q.since f.moment)) f.slots n s k.rows.attempts.since at) is in
      let host = for_some_true (slice_get f.hosts p.host) (λ (x : HostRow). is_up x.state && eqb x.boot p.boot) on in
      let boot = eqb-true host.0.boot p.boot (and_both (is_up host.0.state) (eqb host.0.boot p.boot) host.2).1 in (
        omega (arith, boot, (host_formed p.host host.0 host.1).boot),
        omega (arith, slice_get_within f.hosts p.host host.0 host.1, k.rows.hosts.count),
        omega (arith, leb-true p.since f.moment begun, k.rows.moment_within),
      )

  stored_fits : (n : ℕ) (s : SlotRow) → slice_get f.slots n ≡ Some s → (x : Frame) → is_kept_frame f.layers x ≡ true → StoredFits (stored_frame s.proc x)
  stored_fits n s at x h =
      let wanted : LayerRow → Bool = λ (l : LayerRow). eqb l.job x.job && eqb l.place x.layer in
      let outer = and_both (for_some (layer_in f.layers x.job x.layer) (λ l. for_some (slice_get (range_numbers l.range) x.position) (λ number. int_eq number x.number))) _ h in
      let layer = for_some_true (layer_in f.layers x.job x.layer) (λ l. for_some (slice_get (range_numbers l.range) x.position) (λ number. int_eq number x.number)) outer.0 in
      let number = for_some_true (slice_get (range_numbers layer.0.range) x.position) (λ z. int_eq z x.number) layer.2 in
      let same = and_both (eqb layer.0.job x.job) (eqb layer.0.place x.layer) (found_is wanted f.layers layer.0 layer.1) in
      let place = place_of f.layers layer.0 (has_found wanted f.layers layer.0 layer.1) in
      let retries = and_both (leb x.retries MOST_RETRIES) (not (is_setup x.state)) outer.1 in
      record {
        job = omega (arith, layer_job place.0 layer.0 place.1, eqb-true layer.0.job x.job same.0);
        layer = omega (arith, (layer_formed place.0 layer.0 place.1).place, eqb-true layer.0.place x.layer same.1);
        number = subst IsSigned ((Decides-int_eq number.0 x.number).0 number.2) (range_signed layer.0.range x.position number.0 number.1);
        retries = omega (arith, leb-true x.retries MOST_RETRIES retries.0);
        state = state_fits s.proc (proc_fits n s at) x.state;
      }

  taken_fits : (n : ℕ) (s : SlotRow) → slice_get f.slots n ≡ Some s → (o : Option Frame) → for_any o (is_kept_frame f.layers) ≡ true → SlotFits (option_map (stored_frame s.proc) o)
  taken_fits n s at None h = tt
  taken_fits n s at (Some x) h = stored_fits n s at x h

  slot_fits : (n : ℕ) (s : SlotRow) → slice_get f.slots n ≡ Some s → is_unused s ≡ false → FrameFits (frame_row n s)
  slot_fits n s at used =
      let both = and_both (leb s.version LAST_VERSION) (for_any s.frame (is_kept_frame f.layers)) (list_all-at (is_kept_slot f.layers) f.slots n s k.rows.jobs.slots_kept at) in
      record {
        slot = omega (arith, slice_get_within f.slots n s at, k.rows.jobs.slot_count);
        version = omega (arith, leb-true s.version LAST_VERSION both.0);
        frame = taken_fits n s at s.frame both.1;
      }

  -- ---- depends

  depend_within : (n : ℕ) (d : DependRow) → slice_get f.depends n ≡ Some d → d.depend < 2 ^ 32
  depend_within n d at = omega (arith, rising_below depend_key 1 f.depends f.next_depend n d k.depends.rise at, k.depends.next_within)

  depend_fits : (n : ℕ) (d : DependRow) → slice_get f.depends n ≡ Some d → DependFits d
  depend_fits n d at =
      let both = and_both (is_formed_end (names_layer d.kind) (names_frame d.kind) d.waiter) (is_formed_end (names_target_layer d.kind) (names_target_frame d.kind) d.target)
      (list_all-at is_formed_depend f.depends n d k.depends.formed at) in
      record {
        depend = depend_within n d at;
        waiter = end_fits (names_layer d.kind) (names_frame d.kind) d.waiter both.0;
        target = end_fits (names_target_layer d.kind) (names_target_frame d.kind) d.target both.1;
      }

  -- a mark is of a group, whose position is that of a frame
  met_fits : (n : ℕ) (x : MetRow) → slice_get f.met n ≡ Some x → Fits (row.Met x)
  met_fits n x at =
      let own = mark_of f f.depends n x (ap (λ (rows : List MetRow). slice_get rows n) (rows_are f k) ∙ at) in
      let d = own.1 in
      let mark = own.3 in
      let unmet = sym (ap (λ (e : DependRow). e.met_all) (settled_at f k own.0 d own.2)) ∙ mark.0 in
      let ends = and_both (is_end_there f d.waiter) _ (list_all-at (is_kept_depend f) f.depends own.0 d k.depends.ends_there own.2) in
      let holds = depend_holds f k.rows d ends.0 (other_by d.met_all (is_end_there f d.target) unmet ends.1) in
      subst (λ (m : MetRow). Fits (row.Met m)) mark.4
      (depend_within own.0 d own.2, omega (arith, rising_below group_key 0 (groups_of f d) MOST_FRAMES mark.1 mark.2 holds.rise mark.3))

  -- ---- limits

  limit_fits : (n : ℕ) (x : LimitRow) → slice_get f.limits n ≡ Some x → Fits (row.Limit n x)
  limit_fits n x at =
      let both = and_both (is_name_text x.name) (leb x.most MOST_RUNNING) (list_all-at is_formed_limit f.limits n x k.rows.limits.formed at) in
      record {
        limit = omega (arith, k.rows.limits.count, slice_get_within f.limits n x at);
        name = name_utf8 x.name both.0;
        most = omega (arith, leb-true x.most MOST_RUNNING both.1);
      }

  -- ---- all

  each_fits : EachKind format f Fits
  each_fits =
      record {
        head = head_fits;
        shows = show_fits;
        allocs = alloc_fits;
        subs = sub_fits;
        hosts = host_fits;
        jobs = job_fits;
        layers = layer_row_fits;
        slots = slot_fits;
        depends = depend_fits;
        met = met_fits;
        limits = limit_fits;
      }

  pub fits_each : AllByRecursion Fits (rows_in format f)
  fits_each = all_from_has Fits (rows_in format f) (λ r h. let made = recorded_has format f r h in each_recorded format f Fits each_fits r made.1)

  -- in format 1 there is no layer with a limit
  abbrev IsOf : FarmRow → Type 0
  IsOf r = (format ≡ ROW_FORMAT) ⊎ HasNoLimit r

  layer_of : (n : ℕ) (x : LayerRow) → slice_get f.layers n ≡ Some x → HasRowsIn format f → IsOf (row.Layer x)
  layer_of n x at (inl same) = inl same
  layer_of n x at (inr old) = inr (no_limit x.limit (length f.limits) (ap length old.2) (list_all-at (has_its_limit (length f.limits)) f.layers n x k.rows.limits.there at))

  each_of : EachKind format f IsOf
  each_of =
      record {
        head = inr tt;
        shows = λ n x at. inr tt;
        allocs = λ n x at. inr tt;
        subs = λ n x at. inr tt;
        hosts = λ n x at. inr tt;
        jobs = λ n x at. inr tt;
        layers = λ n x at. layer_of n x at has;
        slots = λ n s at used. inr tt;
        depends = λ n x at. inr tt;
        met = λ n x at. inr tt;
        limits = λ n x at. inr tt;
      }

  fits_in : AllByRecursion (FitsIn format) (rows_in format f)
  fits_in =
      all_from_has (FitsIn format) (rows_in format f)
      (λ r h. let made = recorded_has format f r h in (each_recorded format f Fits each_fits r made.1, each_recorded format f IsOf each_of r made.1))

-- each row of a farm, in a format that it has, is one that the types of rows hold
pub fits_all : (format : ℕ) (f : Farm) → IsKeptFarm f → HasRowsIn format f → All (FitsIn format) (rows_in format f)
fits_all format f k has = All-from_recursion (FitsIn format) (rows_in format f) (fits_in format f k has)
