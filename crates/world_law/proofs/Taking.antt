-- What a host keeps as its daemon takes the reply to its latest report: no attempt is started anew.
use Rattle.std.proofs.Common.{◌≡◌, ◌≤◌, ◌||◌, ℕ, Bool, true, false, cond, not, List, [], ◌∷◌, ◌++◌, Some, refl, sym, ap, subst, ◌∙◌, ◌⊎◌, inl, inr, arith, append_assoc, append-nil}
use Rattle.std.specs.List.{AllByRecursion, list_any, slice_get}
use Rattle.std.specs.Prelude.{nat_le}
use Rattle.std.proofs.lemmas.Bool.{false≢true, leb-false}
use Rattle.std.proofs.lemmas.Option.{none-some}
use Rattle.farm_types.specs.declared.attempt.Attempt.{Attempt}
use Rattle.farm_types.specs.declared.attempt.DoneItem.{DoneItem}
use Rattle.farm_types.specs.Run.{AttemptsDiffer, is_same}
use Rattle.farm_lines.specs.declared.launch.Launch.{Launch}
use Rattle.farm_lines.specs.declared.reply.Reply.{Reply}
use Rattle.farm_lines.specs.declared.reply.Reply.TheVariants as reply
use Rattle.farm_lines.specs.declared.reply.ReportReply.{ReportReply}
use Rattle.farm_lines.specs.declared.request.Request.{Request}
use Rattle.farm_lines.specs.declared.request.Request.TheVariants as request
use Rattle.farm_lines.specs.FormedLines.{IsFormedLaunch, IsFormedReportReply}
use Rattle.farm_lines.specs.ReplyLines.{reply_of}
use Rattle.rqd_core.specs.declared.limits.TheConstants.{UNFIT_STATUS}
use Rattle.rqd_core.specs.declared.running.Running.{Running}
use Rattle.rqd_core.specs.declared.sent_line.SentLine.TheVariants as sent_line
use Rattle.rqd_core.specs.declared.taking.Taking.{Taking}
use Rattle.rqd_core.specs.Life.{Life, is_run}
use Rattle.rqd_core.specs.Replies.{after_report, all_launched, answered, first_taking, is_done, launched, not_acked, placed, started, unfit}
use Rattle.rqd_core.proofs.Kept.{taken, taken_within}
use Rattle.world_law.specs.declared.event.Event.TheVariants as event
use Rattle.world_law.specs.declared.lines.Told.{Told}
use Rattle.world_law.specs.Among.{Has}
use Rattle.world_law.specs.Attempts.{IsOwn, IsSpent}
use Rattle.world_law.specs.Hosts.{attempts_in, with_taken}
use Rattle.world_law.specs.KeptWorld.{IsAccounted, IsAwaited, IsDue, IsHeld, IsKeptHost, IsKnownReply, IsKnownRequest, IsKnownTold, IsOfALife, IsToldTo, is_started}
use Rattle.world_law.specs.Promises.{CameFrom}
use Rattle.world_law.specs.Texts.{IsAttemptWithin, IsItemWithin, IsRunningWithin}
use Rattle.world_law.specs.World.{Host, World}
use Rattle.world_law.proofs.Differ.{any_append, any_each, any_last, differ_more, done_left, each_of_all, neither_of, none_in, same_is, same_self, stands_any}
use Rattle.world_law.proofs.Each.{all_has, each_append, each_both, each_filter, each_from}

-- ---- lists

map_more : (ls : List Launch) (l : Launch) → attempts_in (ls ++ l ∷ []) ≡ attempts_in ls ++ l.attempt ∷ []
map_more [] l = refl
map_more (m ∷ ls) l = ap (λ (xs : List Attempt). m.attempt ∷ xs) (map_more ls l)

any_of : {X : Type 0} (test : X → Bool) (xs ys : List X) → list_any test (xs ++ ys) ≡ true → (list_any test xs ≡ true) ⊎ (list_any test ys ≡ true)
any_of test [] ys is = inr is
any_of test (x ∷ xs) ys is = by (test x) refl (any_of test xs ys) is
  where
    by : (b : Bool) → test x ≡ b → (list_any test (xs ++ ys) ≡ true → (list_any test xs ≡ true) ⊎ (list_any test ys ≡ true)) → (b || list_any test (xs ++ ys)) ≡ true
        → ((test x || list_any test xs) ≡ true) ⊎ (list_any test ys ≡ true)
    by true here later all = inl (ap (λ (b : Bool). b || list_any test xs) here)
    by false none later all = turned (later all)
      where
        turned : (list_any test xs ≡ true) ⊎ (list_any test ys ≡ true) → ((test x || list_any test xs) ≡ true) ⊎ (list_any test ys ≡ true)
        turned (inl first) = inl (ap (λ (b : Bool). b || list_any test xs) none ∙ first)
        turned (inr second) = inr second

-- ---- the reply

module _ (w : World) (host : ℕ) (h : Host) (r : ReportReply) (place : ℕ) (told : Told) (came : Has w.events (event.ToHost place)) (there : slice_get w.told place ≡ Some told)
    (of_host : told.host ≡ host) (reads : reply_of told.line ≡ Some (reply.Report r)) (was : IsKeptHost w host h) (awaits : IsAwaited h r) where
  abbrev l : Life
  l = h.life

  abbrev name : List ℕ
  name = h.life.config.name

  told_to : IsToldTo w host (reply.Report r)
  told_to = record { told = told; there = (place, there); of_host = of_host; reads = reads }

  known : IsKnownTold w host h r
  known = was.told (reply.Report r) told_to

  due : IsDue w.now.farm h r
  due = known.due awaits

  formed : IsFormedReportReply r
  formed = was.formed (reply.Report r) told_to

  -- ---- what may be launched

  record CanLaunch (m : Launch) : Type 0 where
    within : IsAttemptWithin m.attempt
    own : IsOwn w.now.farm name m.attempt
    apart : list_any (is_same m.attempt) r.acks ≡ false
    held : is_started h m.attempt → IsHeld h m.attempt
    ordered : Has r.launches m

  launch_within : (m : Launch) → IsFormedLaunch m → IsAttemptWithin m.attempt
  launch_within m f = record { slot = omega (arith, f.attempt.slot_within); version = omega (arith, f.attempt.version_within) }

  can_launch : AllByRecursion CanLaunch r.launches
  can_launch =
      let ls = r.launches in
      let forms = each_of_all IsFormedLaunch ls formed.each_launch in
      let both = each_both IsFormedLaunch (λ (m : Launch). IsOwn w.now.farm name m.attempt) ls forms known.own in
      let three = each_both (λ (m : Launch). IsFormedLaunch m × IsOwn w.now.farm name m.attempt) (λ (m : Launch). list_any (is_same m.attempt) r.acks ≡ false) ls both known.apart in
      let four =
      each_both (λ (m : Launch). (IsFormedLaunch m × IsOwn w.now.farm name m.attempt) × (list_any (is_same m.attempt) r.acks ≡ false))
      (λ (m : Launch). is_started h m.attempt → IsHeld h m.attempt) ls three due.launches in
      let five =
      each_both (λ (m : Launch). ((IsFormedLaunch m × IsOwn w.now.farm name m.attempt) × (list_any (is_same m.attempt) r.acks ≡ false)) × (is_started h m.attempt → IsHeld h m.attempt))
      (Has ls) ls four (all_has ls) in
      each_from
      (λ (m : Launch). (((IsFormedLaunch m × IsOwn w.now.farm name m.attempt) × (list_any (is_same m.attempt) r.acks ≡ false)) × (is_started h m.attempt → IsHeld h m.attempt)) × Has ls m)
      CanLaunch
      (λ m all. record { within = launch_within m all.0.0.0.0; own = all.0.0.0.1; apart = all.0.0.1; held = all.0.1; ordered = all.1 }) ls five

  -- ---- the lists as launches are taken

  record Takes (t : Taking) : Type 0 where
    free : t.free ≤ h.life.config.cores
    running : AllByRecursion IsRunningWithin t.running
    items : AllByRecursion IsItemWithin t.finished
    from : AllByRecursion (CameFrom w host) t.finished
    runs : (a : Attempt) → is_run a h.life.running ≡ true → is_run a t.running ≡ true
    done : (a : Attempt) → is_done a (not_acked r.acks h.life.finished) ≡ true → is_done a t.finished ≡ true
    differ : AttemptsDiffer (h.started ++ attempts_in t.starts)
    news : AllByRecursion (λ (a : Attempt). IsOwn w.now.farm name a × (is_run a t.running ≡ true)) (attempts_in t.starts)

  first_takes : Takes (first_taking h.life r.acks)
  first_takes =
      let kept : DoneItem → Bool = λ (d : DoneItem). not (list_any (is_same d.attempt) r.acks) in
      record {
        free = omega arith;
        running = was.life.running;
        items = each_filter IsItemWithin kept h.life.finished was.life.finished;
        from = each_filter (CameFrom w host) kept h.life.finished was.came;
        runs = λ a is. is;
        done = λ a is. is;
        differ = subst AttemptsDiffer (sym (append-nil h.started)) was.differ;
        news = tt;
      }

  module _ (t : Taking) (m : Launch) (takes : Takes t) (can : CanLaunch m) where
    -- an attempt that this life started is known
    started_known : is_run m.attempt t.running ≡ false → is_done m.attempt t.finished ≡ false → is_started h m.attempt → ⊥
    started_known no_run no_done is = by (can.held is)
      where
        acked : ((b : Attempt) × (is_same b m.attempt ≡ true) × (list_any (is_same b) r.acks ≡ true)) ⊎ (is_done m.attempt (not_acked r.acks h.life.finished) ≡ true) → ⊥
        acked (inl gone) =
            false≢true (sym can.apart ∙ subst (λ (a : Attempt). list_any (is_same a) r.acks ≡ true) (same_is gone.0 m.attempt gone.1) gone.2)
        acked (inr still) = false≢true (sym no_done ∙ takes.done m.attempt still)

        by : IsHeld h m.attempt → ⊥
        by (inl runs) = false≢true (sym no_run ∙ takes.runs m.attempt runs)
        by (inr done) = acked (done_left m.attempt r.acks h.life.finished done)

    new_known : is_run m.attempt t.running ≡ false → list_any (is_same m.attempt) (attempts_in t.starts) ≡ true → ⊥
    new_known no_run is =
        let found = any_each (λ (a : Attempt). IsOwn w.now.farm name a × (is_run a t.running ≡ true)) (is_same m.attempt) (attempts_in t.starts) takes.news is in
        false≢true (sym no_run ∙ subst (λ (a : Attempt). is_run a t.running ≡ true) (sym (same_is m.attempt found.0 found.1)) found.2.1)

    none_known : is_run m.attempt t.running ≡ false → is_done m.attempt t.finished ≡ false → list_any (is_same m.attempt) (h.started ++ attempts_in t.starts) ≡ true → ⊥
    none_known no_run no_done is = by (any_of (is_same m.attempt) h.started (attempts_in t.starts) is)
      where
        by : (list_any (is_same m.attempt) h.started ≡ true) ⊎ (list_any (is_same m.attempt) (attempts_in t.starts) ≡ true) → ⊥
        by (inl old) = started_known no_run no_done old
        by (inr new) = new_known no_run new

    abbrev running_now : Running
    running_now = record { attempt = m.attempt; cores = m.cores }

    starts_takes : is_run m.attempt t.running ≡ false → is_done m.attempt t.finished ≡ false → Takes (started t m)
    starts_takes no_run no_done =
        let more = map_more t.starts m in
        record {
          free = let free = takes.free in omega (arith, free);
          running = each_append IsRunningWithin t.running (running_now ∷ []) takes.running (can.within, tt);
          items = takes.items;
          from = takes.from;
          runs = λ a is. any_append (λ (x : Running). is_same x.attempt a) t.running (running_now ∷ []) (takes.runs a is);
          done = takes.done;
          differ =
              subst AttemptsDiffer (append_assoc h.started (attempts_in t.starts) (m.attempt ∷ []) ∙ ap (λ (xs : List Attempt). h.started ++ xs) (sym more))
              (differ_more (h.started ++ attempts_in t.starts) m.attempt takes.differ
              (none_in m.attempt (h.started ++ attempts_in t.starts) (none_known no_run no_done)));
          news =
              subst (AllByRecursion (λ (a : Attempt). IsOwn w.now.farm name a × (is_run a (t.running ++ running_now ∷ []) ≡ true))) (sym more)
              (each_append (λ (a : Attempt). IsOwn w.now.farm name a × (is_run a (t.running ++ running_now ∷ []) ≡ true)) (attempts_in t.starts) (m.attempt ∷ [])
              (each_from (λ (a : Attempt). IsOwn w.now.farm name a × (is_run a t.running ≡ true))
              (λ (a : Attempt). IsOwn w.now.farm name a × (is_run a (t.running ++ running_now ∷ []) ≡ true))
              (λ a new. (new.0, any_append (λ (x : Running). is_same x.attempt a) t.running (running_now ∷ []) new.1)) (attempts_in t.starts) takes.news)
              ((can.own, any_last (λ (x : Running). is_same x.attempt m.attempt) t.running running_now (same_self m.attempt)), tt));
        }

    abbrev unfit_item : DoneItem
    unfit_item = record { attempt = m.attempt; exit = record { status = UNFIT_STATUS; signal = 0 }; free = Some t.free }

    unfit_takes : nat_le m.cores t.free ≡ false → Takes (unfit t m.attempt)
    unfit_takes large =
        let free = takes.free in
        let cores = was.life.config.cores in
        record {
          free = takes.free;
          running = takes.running;
          items =
              each_append IsItemWithin t.finished (unfit_item ∷ []) takes.items
              (record { attempt = can.within; status = omega arith; signal = omega arith; free = omega (arith, free, cores) }, tt);
          from =
              each_append (CameFrom w host) t.finished (unfit_item ∷ []) takes.from (
                inr (record {
                  line = place;
                  came = came;
                  told = told;
                  there = there;
                  of_host = of_host;
                  replied = r;
                  reads = reads;
                  launch = m;
                  ordered = can.ordered;
                  attempt = refl;
                  free = t.free;
                  tells = refl;
                  too_large = leb-false m.cores t.free large;
                  status = refl;
                  signal = refl;
                }),
                tt,
              );
          runs = takes.runs;
          done = λ a is. any_append (λ (d : DoneItem). is_same d.attempt a) t.finished (unfit_item ∷ []) (takes.done a is);
          differ = takes.differ;
          news = takes.news;
        }

    places_takes : is_run m.attempt t.running ≡ false → is_done m.attempt t.finished ≡ false → Takes (placed t m)
    places_takes no_run no_done = by (nat_le m.cores t.free) refl
      where
        by : (b : Bool) → nat_le m.cores t.free ≡ b → Takes (cond b (started t m) (unfit t m.attempt))
        by true fits = starts_takes no_run no_done
        by false large = unfit_takes large

    launches_takes : Takes (launched t m)
    launches_takes = by (is_run m.attempt t.running || is_done m.attempt t.finished) refl
      where
        by : (b : Bool) → (is_run m.attempt t.running || is_done m.attempt t.finished) ≡ b → Takes (cond b t (placed t m))
        by true old = takes
        by false unknown = let both = neither_of (is_run m.attempt t.running) (is_done m.attempt t.finished) unknown in places_takes both.0 both.1

  all_takes : (t : Taking) (ls : List Launch) → Takes t → AllByRecursion CanLaunch ls → Takes (all_launched t ls)
  all_takes t [] takes can = takes
  all_takes t (m ∷ ls) takes can = all_takes (launched t m) ls (launches_takes t m takes can.0) can.1

  -- ---- the host afterwards

  abbrev end : Taking
  end = all_launched (first_taking h.life r.acks) r.launches

  ends : Takes end
  ends = all_takes (first_taking h.life r.acks) r.launches first_takes can_launch

  abbrev now : Host
  now = with_taken h (after_report (answered h.life) r)

  -- what was acknowledged of the started ones is over
  acked_over : (a b : Attempt) → Has h.started a → b ≡ a → list_any (is_same b) r.acks ≡ true → IsSpent w.now.farm a
  acked_over a b has same is =
      let found =
      any_each (λ (x : Attempt). is_started h x → IsSpent w.now.farm x) (is_same a) r.acks due.acks (subst (λ (x : Attempt). list_any (is_same x) r.acks ≡ true) same is) in
      let here = same_is a found.0 found.1 in
      subst (IsSpent w.now.farm) (sym here) (found.2 (subst (λ (x : Attempt). list_any (is_same x) h.started ≡ true) here (stands_any a h.started has)))

  done_account : (a : Attempt) → Has h.started a
      → ((b : Attempt) × (is_same b a ≡ true) × (list_any (is_same b) r.acks ≡ true)) ⊎ (is_done a (not_acked r.acks h.life.finished) ≡ true)
      → IsHeld now a ⊎ IsSpent w.now.farm a
  done_account a has (inr still) = inl (inr (ends.done a still))
  done_account a has (inl gone) = inr (acked_over a gone.0 has (same_is gone.0 a gone.1) gone.2)

  -- a started attempt runs or is finished still, or it was acknowledged and is over
  held_account : (a : Attempt) → Has h.started a → IsHeld h a ⊎ IsSpent w.now.farm a → IsHeld now a ⊎ IsSpent w.now.farm a
  held_account a has (inl (inl runs)) = inl (inl (ends.runs a runs))
  held_account a has (inl (inr done)) = done_account a has (done_left a r.acks h.life.finished done)
  held_account a has (inr spent) = inr spent

  old_account : (a : Attempt) → Has h.started a → IsAccounted w.now.farm h a → IsAccounted w.now.farm now a
  old_account a has acc = record { own = acc.own; held = held_account a has acc.held }

  new_account : (a : Attempt) → IsOwn w.now.farm name a × (is_run a end.running ≡ true) → IsAccounted w.now.farm now a
  new_account a new = record { own = new.0; held = inl (inl new.1) }

  life_now : (boot seq : ℕ) → IsOfALife w host h boot seq → IsOfALife w host now boot seq
  life_now boot seq of = record { nonce = of.nonce; told = of.told; used = of.used; past = of.past }

  request_now : (q : Request) → IsKnownRequest w host h q → IsKnownRequest w host now q
  request_now (request.Boot line) k = k
  request_now (request.Report q) k = record { name = k.name; life = life_now q.heard.boot q.heard.seq k.life; came = k.came }
  request_now other k = tt

  reply_now : (q : Reply) → IsKnownReply w host h q → IsKnownReply w host now q
  reply_now (reply.Boot boot nonce) k = k
  reply_now (reply.Report q) k =
      record { life = life_now q.boot q.seq k.life; own = k.own; apart = k.apart; due = λ is. absurd (none-some (sent_line.Report q.boot q.seq) is) }
  reply_now other k = tt

  pub host_takes : IsKeptHost w host now
  host_takes =
      record {
        life = record { config = was.life.config; running = ends.running; finished = ends.items; boot = was.life.boot; seq = was.life.seq };
        within = taken_within h.life.running h.life.config.cores end (taken h.life r was.within);
        nonce = was.nonce;
        differ = ends.differ;
        started =
            each_append (IsAccounted w.now.farm now) h.started (attempts_in end.starts)
            (each_from (λ (a : Attempt). IsAccounted w.now.farm h a × Has h.started a) (IsAccounted w.now.farm now) (λ a both. old_account a both.1 both.0) h.started
            (each_both (IsAccounted w.now.farm h) (Has h.started) h.started was.started (all_has h.started)))
            (each_from (λ (a : Attempt). IsOwn w.now.farm name a × (is_run a end.running ≡ true)) (IsAccounted w.now.farm now) new_account (attempts_in end.starts) ends.news);
        came = ends.from;
        boot = was.boot;
        sent = λ s has of q asks. request_now q (was.sent s has of q asks);
        formed = was.formed;
        told = λ q is. reply_now q (was.told q is);
        boots = was.boots;
      }
