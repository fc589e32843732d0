-- The rows of lists that are of the whole farm.
use Rattle.std.proofs.Common.{◌≡◌, ℕ, suc, ◌+◌, ◌<◌, ◌≤◌, ◌^◌, ◌/◌, ◌%◌, Bool, true, false, cond, eqb, leb, ltb, List, [], ◌∷◌, length, map, Option, Some, None, refl, sym, ap, subst, ◌∙◌, arith}
use Rattle.std.specs.Prelude.{◌&&◌, ◌||◌, option_map}
use Rattle.std.specs.List.{All, filter_map, slice_get}
use Rattle.std.specs.Option.{IfSome}
use Rattle.std.proofs.lemmas.Bool.{eqb-true, leb-true, ltb-true}
use Rattle.std.proofs.lemmas.List.Elements.{All-cons, All-nil}
use Rattle.std.proofs.lemmas.List.{length-map}
use Rattle.farm_types.specs.declared.attempt.ProcRow.{ProcRow}
use Rattle.farm_types.specs.declared.limits.TheConstants.{MOST_ALLOCS, MOST_BURST, MOST_FRAMES, MOST_PRIORITY, MOST_RUNNING, SUB_NUMBERS}
use Rattle.farm_types.specs.declared.rows.HostRow.{HostRow}
use Rattle.farm_types.specs.declared.rows.JobRow.{JobRow}
use Rattle.farm_types.specs.declared.rows.LimitRow.{LimitRow}
use Rattle.farm_types.specs.declared.rows.ShowRow.{ShowRow}
use Rattle.farm_types.specs.declared.rows.SubRow.{SubRow}
use Rattle.farm_types.specs.declared.slot_row.Frame.{Frame}
use Rattle.farm_types.specs.declared.slot_row.SlotRow.{SlotRow}
use Rattle.farm_types.specs.declared.states.FrameState.{FrameState}
use Rattle.farm_types.specs.Booking.{is_pending, is_waiting}
use Rattle.farm_types.specs.Farm.{Farm}
use Rattle.farm_types.specs.DependActs.{is_running}
use Rattle.farm_types.specs.Finish.{count_where, has_succeeded, was_eaten}
use Rattle.farm_types.specs.Settle.{is_blocked}
use Rattle.farm_types.specs.Forms.{is_name_or_empty, is_name_text, is_tag_text}
use Rattle.farm_types.specs.Kept.{KeepsRows, has_its_counts, is_formed_alloc, is_formed_host, is_formed_job, is_formed_limit, is_formed_show, is_kept_sub}
use Rattle.farm_types.specs.Rising.{IsRising, job_key, sub_key}
use Rattle.farm_types.proofs.Lists.{and_both, list_all-at, slice_get_below}
use Rattle.farm_law.proofs.BookedOnHosts.{booked_within}
use Rattle.farm_law.proofs.FormedParts.{between_is, host_formed}
use Rattle.farm_law.proofs.KeptJobsFormed.{JobFormed, job_formed}
use Rattle.farm_lines.specs.declared.list_row.ListRow.{ListRow}
use Rattle.farm_lines.specs.declared.list_row.RowKind.{RowKind}
use Rattle.farm_lines.specs.declared.list_row.RowKind.TheVariants as kind
use Rattle.farm_lines.specs.FormedLines.{IsFormedRow, IsName}
use Rattle.farm_lines.specs.Lists.{alloc_row, host_name, host_row, host_rows, is_dead, job_of_frame, job_row, limit_name, limit_row, limit_rows, name_of_host, name_of_job, name_of_limit, name_of_show, proc_in, proc_row, show_name, show_row, shown_count, sub_row}
use Rattle.farm_lines.specs.RowKinds.{kind_of_row}
use Rattle.reply_law.proofs.Attempts.{attempt_within, job_of_kept}
use Rattle.reply_law.proofs.Elements.{found_each, found_few, mapped_each}
use Rattle.reply_law.proofs.JobFrames.{count_within}
use Rattle.reply_law.proofs.Limits.{running_within}
use Rattle.reply_law.proofs.Refusals.{alloc_there, alloc_of_host, frame_named, kept_names}
use Rattle.reply_law.proofs.Texts.{alloc_name_is_name}

-- a row of a list: of its keys, and within its forms and limits
abbrev pub IsRowOf : RowKind → ListRow → Type 0
IsRowOf keys row = (kind_of_row row ≡ keys) × IsFormedRow row

-- all rows of a list
pub record AreRows (keys : RowKind) (rows : List ListRow) : Type 0 where
  pub each : All (IsRowOf keys) rows
  pub count : length rows < 2 ^ 64

name_is_so : (name : List ℕ) → IsName name → is_name_or_empty name ≡ true
name_is_so name named = by (eqb (length name) 0) (is_name_text name) named
  where
    by : (a b : Bool) → b ≡ true → (a || b) ≡ true
    by true b h = refl
    by false b h = h

-- ---- keys that rise

pub rising_long : {X : Type 0} (key : X → ℕ) (low : ℕ) (xs : List X) (high : ℕ) → IsRising key low xs high → low + length xs ≤ high
rising_long key low [] high rise = omega (arith, rise)
rising_long key low (x ∷ xs) high rise = omega (arith, rise.0, rising_long key (key x + 1) xs high rise.1)

module _ (f : Farm) (kept : KeepsRows f) where
  -- ---- shows, allocations and subscriptions

  show_there : (show : ℕ) → show < length f.shows → IsName (show_name f show)
  show_there show below =
      let row = slice_get_below f.shows show below in
      subst (λ (o : Option ShowRow). IsName (name_of_show o)) (sym row.1) (list_all-at is_formed_show f.shows show row.0 kept.shows.formed row.1)

  pub shows_formed : AreRows kind.Name (map show_row f.shows)
  shows_formed =
      record {
        each = mapped_each (IsRowOf kind.Name) show_row f.shows (λ n row at. (refl, list_all-at is_formed_show f.shows n row kept.shows.formed at));
        count = omega (arith, length-map f.shows show_row, kept.shows.count);
      }

  pub allocs_formed : AreRows kind.Name (map alloc_row f.allocs)
  allocs_formed =
      record {
        each =
            mapped_each (IsRowOf kind.Name) alloc_row f.allocs
            (λ n row at. let parts = and_both (is_tag_text row.facility) (is_tag_text row.tag) (list_all-at is_formed_alloc f.allocs n row kept.allocs.formed at) in (refl, alloc_name_is_name row.facility row.tag parts.0 parts.1));
        count = omega (arith, length-map f.allocs alloc_row, kept.allocs.count);
      }

  sub_formed : (n : ℕ) (s : SubRow) → slice_get f.subs n ≡ Some s → IsRowOf kind.Sub (sub_row f s)
  sub_formed n s at =
      let shown = and_both (ltb (s.sub / MOST_ALLOCS) (length f.shows)) _ (list_all-at (is_kept_sub (length f.shows) (length f.allocs)) f.subs n s kept.subs.each at) in
      let placed = and_both (ltb (s.sub % MOST_ALLOCS) (length f.allocs)) _ shown.1 in
      let amounts = and_both (leb s.size MOST_BURST) (leb s.burst MOST_BURST) placed.1 in (
        refl,
        record {
          alloc_name = alloc_there f kept (s.sub % MOST_ALLOCS) (ltb-true (s.sub % MOST_ALLOCS) (length f.allocs) placed.0);
          show_name = show_there (s.sub / MOST_ALLOCS) (ltb-true (s.sub / MOST_ALLOCS) (length f.shows) shown.0);
          booked_within = booked_within f kept s.sub;
          burst_within = leb-true s.burst MOST_BURST amounts.1;
          size_within = leb-true s.size MOST_BURST amounts.0;
        },
      )

  pub subs_formed : AreRows kind.Sub (map (sub_row f) f.subs)
  subs_formed =
      record {
        each = mapped_each (IsRowOf kind.Sub) (sub_row f) f.subs sub_formed;
        count = omega (arith, length-map f.subs (sub_row f), rising_long sub_key 0 f.subs SUB_NUMBERS kept.subs.rise);
      }

  -- ---- limits

  limit_label_formed : (n : ℕ) (l : LimitRow) → slice_get f.limits n ≡ Some l → IsName l.name × (l.most ≤ MOST_RUNNING)
  limit_label_formed n l at =
      let parts = and_both (is_name_text l.name) (leb l.most MOST_RUNNING) (list_all-at is_formed_limit f.limits n l kept.limits.formed at) in
      (parts.0, leb-true l.most MOST_RUNNING parts.1)

  limit_formed : (n : ℕ) (l : LimitRow) → slice_get f.limits n ≡ Some l → IsRowOf kind.Limit (limit_row f n l)
  limit_formed n l at =
      let own = limit_label_formed n l at in
      (refl, record { limit_name = own.0; most_within = own.1; running_within = running_within f kept n })

  limits_from : (place : ℕ) (ls : List LimitRow) → ((n : ℕ) → slice_get f.limits (place + n) ≡ slice_get ls n) → All (IsRowOf kind.Limit) (limit_rows f place ls)
  limits_from place [] there = All-nil (IsRowOf kind.Limit)
  limits_from place (l ∷ ls) there =
      let here : place + 0 ≡ place = omega arith in
      All-cons (IsRowOf kind.Limit) (limit_row f place l) (limit_rows f (place + 1) ls) (limit_formed place l (ap (slice_get f.limits) (sym here) ∙ there 0))
      (limits_from (place + 1) ls (λ n. let next : place + 1 + n ≡ place + suc n = omega arith in ap (slice_get f.limits) next ∙ there (suc n)))

  long-limits : (place : ℕ) (ls : List LimitRow) → length (limit_rows f place ls) ≡ length ls
  long-limits place [] = refl
  long-limits place (l ∷ ls) = ap suc (long-limits (place + 1) ls)

  pub limits_formed : AreRows kind.Limit (limit_rows f 0 f.limits)
  limits_formed =
      record {
        each = limits_from 0 f.limits (λ n. let same : 0 + n ≡ n = omega arith in ap (slice_get f.limits) same);
        count = omega (arith, long-limits 0 f.limits, kept.limits.count);
      }

  -- the name of a layer's limit
  pub limit_named_so : (limit : Option ℕ) → is_name_or_empty (limit_name f limit) ≡ true
  limit_named_so None = refl
  limit_named_so (Some limit) = by (slice_get f.limits limit) refl
    where
      by : (o : Option LimitRow) → slice_get f.limits limit ≡ o → is_name_or_empty (name_of_limit o) ≡ true
      by None at = refl
      by (Some l) at = name_is_so l.name (limit_label_formed limit l at).0

  -- ---- hosts

  host_row_formed : (n : ℕ) (h : HostRow) → slice_get f.hosts n ≡ Some h → IsRowOf kind.Host (host_row f n h)
  host_row_formed n h at =
      let own = host_formed h (list_all-at is_formed_host f.hosts n h kept.hosts.formed at) in
      let heard : h.heard ≤ f.moment = leb-true h.heard f.moment (list_all-at (λ (r : HostRow). leb r.heard f.moment) f.hosts n h kept.hosts.heard at) in (
        refl,
        record {
          alloc_name = alloc_there f kept h.alloc (alloc_of_host f kept n h at);
          host_name = own.name;
          boot_within = own.boot;
          cores_within = own.cores;
          heard_within = omega (arith, heard, kept.moment_within);
          memory_within = own.memory;
          used_cores_within = omega (arith, kept.sound.cores n h at, own.cores.1);
          used_memory_within = omega (arith, kept.sound.memory n h at, own.memory.1);
        },
      )

  hosts_from : (place : ℕ) (hs : List HostRow) → ((n : ℕ) → slice_get f.hosts (place + n) ≡ slice_get hs n) → All (IsRowOf kind.Host) (host_rows f place hs)
  hosts_from place [] there = All-nil (IsRowOf kind.Host)
  hosts_from place (h ∷ hs) there =
      let here : place + 0 ≡ place = omega arith in
      All-cons (IsRowOf kind.Host) (host_row f place h) (host_rows f (place + 1) hs) (host_row_formed place h (ap (slice_get f.hosts) (sym here) ∙ there 0))
      (hosts_from (place + 1) hs (λ n. let next : place + 1 + n ≡ place + suc n = omega arith in ap (slice_get f.hosts) next ∙ there (suc n)))

  long-hosts : (place : ℕ) (hs : List HostRow) → length (host_rows f place hs) ≡ length hs
  long-hosts place [] = refl
  long-hosts place (h ∷ hs) = ap suc (long-hosts (place + 1) hs)

  pub hosts_formed : AreRows kind.Host (host_rows f 0 f.hosts)
  hosts_formed =
      record {
        each = hosts_from 0 f.hosts (λ n. let same : 0 + n ≡ n = omega arith in ap (slice_get f.hosts) same);
        count = omega (arith, long-hosts 0 f.hosts, kept.hosts.count);
      }

  -- ---- jobs

  done_of : (eaten succeeded frames : ℕ) → eqb (eaten + succeeded) frames ≡ true → (eaten ≤ frames) × (succeeded ≤ frames)
  done_of eaten succeeded frames is = let all = eqb-true (eaten + succeeded) frames is in (omega (arith, all), omega (arith, all))

  job_formed_row : (n : ℕ) (j : JobRow) → slice_get f.jobs n ≡ Some j → IsRowOf kind.Job (job_row f j)
  job_formed_row n j at = (
    refl,
    record {
      job_name = own.name;
      show_name = show_there j.show own.show;
      priority_within = between_is 1 MOST_PRIORITY j.priority own.priority;
      counts = record {
        dead_within = counted_few is_dead 0 (omega arith);
        depend_within = counted_few is_blocked 0 (omega arith);
        eaten_within = counted_few was_eaten j.eaten kept_counts.0;
        running_within = counted_few is_running 0 (omega arith);
        succeeded_within = counted_few has_succeeded j.succeeded kept_counts.1;
        waiting_within = counted_few is_waiting 0 (omega arith);
      };
    },
  )
    where
      own : JobFormed (length f.shows) j
      own = job_formed (length f.shows) j (list_all-at (is_formed_job (length f.shows)) f.jobs n j kept.jobs.jobs_formed at)

      few : j.frames ≤ MOST_FRAMES
      few = (between_is 1 MOST_FRAMES j.frames own.frames).1

      by_state : (b : Bool) → cond b (eqb j.eaten 0 && eqb j.succeeded 0) (eqb (j.eaten + j.succeeded) j.frames) ≡ true → (j.eaten ≤ MOST_FRAMES) × (j.succeeded ≤ MOST_FRAMES)
      by_state true none = let parts = and_both (eqb j.eaten 0) (eqb j.succeeded 0) none in let eaten = eqb-true j.eaten 0 parts.0 in let done = eqb-true j.succeeded 0 parts.1 in (omega (arith, eaten), omega (arith, done))
      by_state false all = let done = done_of j.eaten j.succeeded j.frames all in (omega (arith, done.0, few), omega (arith, done.1, few))

      kept_counts : (j.eaten ≤ MOST_FRAMES) × (j.succeeded ≤ MOST_FRAMES)
      kept_counts = by_state (is_pending j.state) (list_all-at has_its_counts f.jobs n j kept.jobs.jobs_counted at)

      counted_few : (test : FrameState → Bool) (kept_count : ℕ) → kept_count ≤ MOST_FRAMES → shown_count f j test kept_count ≤ MOST_FRAMES
      counted_few test kept_count less = by (is_pending j.state) refl
        where
          by : (b : Bool) → is_pending j.state ≡ b → cond b (count_where j.job test f.slots) kept_count ≤ MOST_FRAMES
          by true pending = count_within f kept n j at pending test
          by false finished = less

  pub jobs_formed : AreRows kind.Job (map (job_row f) f.jobs)
  jobs_formed =
      record {
        each = mapped_each (IsRowOf kind.Job) (job_row f) f.jobs job_formed_row;
        count = omega (arith, length-map f.jobs (job_row f), rising_long job_key 1 f.jobs f.next_job kept.jobs.jobs_rise, kept.jobs.next_within);
      }

  -- ---- live attempts

  host_there_named : (host : ℕ) → host < length f.hosts → IsName (host_name f host)
  host_there_named host below =
      let row = slice_get_below f.hosts host below in
      subst (λ (o : Option HostRow). IsName (name_of_host o)) (sym row.1) (host_formed row.0 (list_all-at is_formed_host f.hosts host row.0 kept.hosts.formed row.1)).name

  proc_formed : (i : ℕ) (s : SlotRow) (p : ProcRow) → slice_get f.slots i ≡ Some s → s.proc ≡ Some p → IsRowOf kind.Proc (proc_row f s.frame p)
  proc_formed i s p at is =
      let own = attempt_within f kept i s p at is in
      let job = job_of_kept f kept own.frame.0 own.frame.2 in (
        refl,
        record {
          frame_text = frame_named f (kept_names f.layers kept.jobs.layers_formed) s.frame;
          host_name = host_there_named p.host own.host;
          job_name = subst (λ (o : Option Frame). IsName (job_of_frame f o)) (sym own.frame.1) (subst (λ (o : Option JobRow). IsName (name_of_job o)) (sym job.1) job.2);
          cores_within = own.cores;
          memory_within = own.memory;
          slot_within = own.slot;
          version_within = own.version;
        },
      )

  proc_in_formed : (i : ℕ) (s : SlotRow) → slice_get f.slots i ≡ Some s → IfSome (proc_in f s) (IsRowOf kind.Proc)
  proc_in_formed i s at = by s.proc refl
    where
      by : (o : Option ProcRow) → s.proc ≡ o → IfSome (option_map (proc_row f s.frame) o) (IsRowOf kind.Proc)
      by None is = tt
      by (Some p) is = proc_formed i s p at is

  pub procs_formed : AreRows kind.Proc (filter_map (proc_in f) f.slots)
  procs_formed =
      record {
        each = found_each (IsRowOf kind.Proc) (proc_in f) f.slots proc_in_formed;
        count = omega (arith, found_few (proc_in f) f.slots, kept.jobs.slot_count);
      }
