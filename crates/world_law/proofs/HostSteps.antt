-- What a host keeps as it sends a line, as an attempt ends on it, and as a new life begins.
use Rattle.std.proofs.Common.{◌≡◌, ◌≢◌, ◌≤◌, ◌<◌, ◌+◌, ◌^◌, ℕ, Bool, true, false, cond, eqb, [], ◌∷◌, Option, None, Some, refl, sym, ap, subst, ◌∙◌, ◌⊎◌, inl, inr, arith}
use Rattle.std.specs.Prelude.{IfSome, not}
use Rattle.std.proofs.lemmas.Bool.{eq-eqb, false≢true}
use Rattle.std.proofs.lemmas.Option.{none-some, same_Some}
use Rattle.farm_types.specs.declared.attempt.Attempt.{Attempt}
use Rattle.farm_types.specs.declared.attempt.DoneItem.{DoneItem}
use Rattle.farm_types.specs.declared.attempt.Exit.{Exit}
use Rattle.farm_types.specs.Run.{is_same}
use Rattle.farm_lines.specs.declared.launch.Launch.{Launch}
use Rattle.farm_lines.specs.declared.reply.Reply.{Reply}
use Rattle.farm_lines.specs.declared.reply.Reply.TheVariants as reply
use Rattle.farm_lines.specs.declared.reply.ReportReply.{ReportReply}
use Rattle.farm_lines.specs.declared.request.Request.{Request}
use Rattle.farm_lines.specs.declared.request.Request.TheVariants as request
use Rattle.rqd_core.specs.declared.limits.TheConstants.{LAST_SEQ}
use Rattle.rqd_core.specs.declared.running.Running.{Running}
use Rattle.rqd_core.specs.declared.sent_line.SentLine.{SentLine}
use Rattle.rqd_core.specs.declared.sent_line.SentLine.TheVariants as sent_line
use Rattle.rqd_core.specs.Life.{Life, is_run, report_boot, sent_with, without}
use Rattle.rqd_core.proofs.Kept.{new_within, within_left}
use Rattle.world_law.specs.declared.event.Event.TheVariants as event
use Rattle.world_law.specs.Among.{Has}
use Rattle.world_law.specs.Attempts.{IsSpent}
use Rattle.world_law.specs.Hosts.{after_exit, after_send, has_used, reborn}
use Rattle.world_law.specs.KeptWorld.{IsAccounted, IsAwaited, IsDue, IsHeld, IsKeptHost, IsKnownReply, IsKnownRequest, IsOfALife, IsToldTo, is_started}
use Rattle.world_law.specs.Promises.{CameFrom}
use Rattle.world_law.specs.Texts.{IsAttemptWithin, IsItemWithin, IsRunningWithin}
use Rattle.world_law.specs.World.{Host, World}
use Rattle.world_law.proofs.Differ.{any_append, any_each, any_last, run_left, same_is}
use Rattle.world_law.proofs.Each.{each_append, each_filter, each_from}

-- ---- a life that goes on: the same lists, another boot number, sequence number or awaited line

abbrev pub gone_on : Host → Option ℕ → ℕ → Option SentLine → Host
gone_on h boot seq awaited = record h { life = record h.life { boot = boot; seq = seq; awaited = awaited } }

pub record GoesOn (w : World) (host : ℕ) (h : Host) (boot : Option ℕ) (seq : ℕ) (awaited : Option SentLine) : Type 0 where
  pub within : IfSome boot (λ n. n < 2 ^ 32)
  pub seq_within : seq < 2 ^ 64
  pub rises : h.life.seq ≤ seq
  pub told : (n : ℕ) → boot ≡ Some n → IsToldTo w host (reply.Boot n h.life.config.nonce)
  pub same : (r : ReportReply) → IsToldTo w host (reply.Report r) → awaited ≡ Some (sent_line.Report r.boot r.seq) → IsAwaited h r

module _ (w : World) (host : ℕ) (h : Host) (boot : Option ℕ) (seq : ℕ) (awaited : Option SentLine) (on : GoesOn w host h boot seq awaited) where
  abbrev now : Host
  now = gone_on h boot seq awaited

  life_on : (b s : ℕ) → IsOfALife w host h b s → IsOfALife w host now b s
  life_on b s of = record { nonce = of.nonce; told = of.told; used = of.used; past = λ same. let past = of.past same in let rises = on.rises in omega (arith, past, rises) }

  request_on : (r : Request) → IsKnownRequest w host h r → IsKnownRequest w host now r
  request_on (request.Boot line) was = was
  request_on (request.Report r) was = record { name = was.name; life = life_on r.heard.boot r.heard.seq was.life; came = was.came }
  request_on other was = tt

  due_on : (r : ReportReply) → IsDue w.now.farm h r → IsDue w.now.farm now r
  due_on r was = record { acks = was.acks; launches = was.launches }

  reply_on : (r : Reply) → IsToldTo w host r → IsKnownReply w host h r → IsKnownReply w host now r
  reply_on (reply.Boot b nonce) told was = was
  reply_on (reply.Report r) told was =
      record { life = life_on r.boot r.seq was.life; own = was.own; apart = was.apart; due = λ awaits. due_on r (was.due (on.same r told awaits)) }
  reply_on other told was = tt

  pub host_on : IsKeptHost w host h → IsKeptHost w host now
  host_on was =
      record {
        life = record { config = was.life.config; running = was.life.running; finished = was.life.finished; boot = on.within; seq = on.seq_within };
        within = was.within;
        nonce = was.nonce;
        differ = was.differ;
        started = each_from (IsAccounted w.now.farm h) (IsAccounted w.now.farm now) (λ a acc. record { own = acc.own; held = acc.held }) h.started was.started;
        came = was.came;
        boot = on.told;
        sent = λ s has of r reads. request_on r (was.sent s has of r reads);
        formed = was.formed;
        told = λ r told. reply_on r told (was.told r told);
        boots = was.boots;
      }

-- ---- a line is sent

-- no reply is there for the line that is sent now
none_replied : (w : World) (host : ℕ) (h : Host) (boot : ℕ) → IsKeptHost w host h → h.life.boot ≡ Some boot → (r : ReportReply) → IsToldTo w host (reply.Report r)
    → boot ≡ r.boot → h.life.seq + 1 ≡ r.seq → ⊥
none_replied w host h boot was is r told same next =
    let of = (was.told (reply.Report r) told).life in
    let mine = was.boot boot is in
    let nonce = was.boots r.boot of.nonce h.life.config.nonce of.told (subst (λ (n : ℕ). IsToldTo w host (reply.Boot n h.life.config.nonce)) same mine) in
    let past = of.past nonce in
    absurd (omega (arith, past, next))

abbrev boot_awaited : Option SentLine → Option ℕ
boot_awaited (Some (sent_line.Report boot seq)) = Some boot
boot_awaited other = None

abbrev seq_awaited : Option SentLine → Option ℕ
seq_awaited (Some (sent_line.Report boot seq)) = Some seq
seq_awaited other = None

pub report_boot_is : (l : Life) (boot : ℕ) (b : Bool) → eqb l.seq LAST_SEQ ≡ b → cond b None l.boot ≡ Some boot → (l.boot ≡ Some boot) × (l.seq ≢ LAST_SEQ)
report_boot_is l boot true last is = absurd (none-some boot is)
report_boot_is l boot false last is = (is, λ same. false≢true (sym last ∙ eq-eqb l.seq LAST_SEQ same))

send_by : (w : World) (host : ℕ) (h : Host) (o : Option ℕ) → IsKeptHost w host h → report_boot h.life ≡ o → IsKeptHost w host (record h { life = sent_with h.life o })
send_by w host h None was is =
    host_on w host h h.life.boot h.life.seq (Some sent_line.Boot)
    (record {
      within = was.life.boot;
      seq_within = was.life.seq;
      rises = omega arith;
      told = was.boot;
      same = λ r told awaits. absurd (none-some r.boot (ap boot_awaited awaits));
    })
    was
send_by w host h (Some boot) was is =
    let reports = report_boot_is h.life boot (eqb h.life.seq LAST_SEQ) refl is in
    let apart = reports.1 in
    let low = was.life.seq in
    host_on w host h h.life.boot (h.life.seq + 1) (Some (sent_line.Report boot (h.life.seq + 1)))
    (record {
      within = was.life.boot;
      seq_within = omega (arith, apart, low);
      rises = omega arith;
      told = was.boot;
      same = λ r told awaits.
          absurd (none_replied w host h boot was reports.0 r told (same_Some boot r.boot (ap boot_awaited awaits)) (same_Some (h.life.seq + 1) r.seq (ap seq_awaited awaits)));
    })
    was

pub host_sends : (w : World) (host : ℕ) (h : Host) → IsKeptHost w host h → IsKeptHost w host (after_send h)
host_sends w host h was = send_by w host h (report_boot h.life) was refl

-- ---- an attempt ends

module _ (w : World) (host : ℕ) (h : Host) (a : Attempt) (exit : Exit) where
  abbrev item : DoneItem
  item = record { attempt = a; exit = exit; free = None }

  held_by : (b : Attempt) → (is_same a b ≡ true) ⊎ (is_run b (without a h.life.running) ≡ true) → IsHeld (after_exit h a exit) b
  held_by b (inl same) = inr (any_last (λ (d : DoneItem). is_same d.attempt b) h.life.finished item same)
  held_by b (inr runs) = inl runs

  held_still : (b : Attempt) → IsHeld h b → IsHeld (after_exit h a exit) b
  held_still b (inl runs) = held_by b (run_left a b h.life.running runs)
  held_still b (inr done) = inr (any_append (λ (d : DoneItem). is_same d.attempt b) h.life.finished (item ∷ []) done)

  account_still : (b : Attempt) → IsAccounted w.now.farm h b → IsAccounted w.now.farm (after_exit h a exit) b
  account_still b was = record { own = was.own; held = by was.held }
    where
      by : IsHeld h b ⊎ IsSpent w.now.farm b → IsHeld (after_exit h a exit) b ⊎ IsSpent w.now.farm b
      by (inl held) = inl (held_still b held)
      by (inr spent) = inr spent

  life_still : (boot seq : ℕ) → IsOfALife w host h boot seq → IsOfALife w host (after_exit h a exit) boot seq
  life_still boot seq of = record { nonce = of.nonce; told = of.told; used = of.used; past = of.past }

  request_still : (r : Request) → IsKnownRequest w host h r → IsKnownRequest w host (after_exit h a exit) r
  request_still (request.Boot line) was = was
  request_still (request.Report r) was = record { name = was.name; life = life_still r.heard.boot r.heard.seq was.life; came = was.came }
  request_still other was = tt

  due_still : (r : ReportReply) → IsDue w.now.farm h r → IsDue w.now.farm (after_exit h a exit) r
  due_still r was =
      record {
        acks = was.acks;
        launches =
            each_from (λ (l : Launch). is_started h l.attempt → IsHeld h l.attempt) (λ (l : Launch). is_started h l.attempt → IsHeld (after_exit h a exit) l.attempt)
            (λ l held started. held_still l.attempt (held started)) r.launches was.launches;
      }

  reply_still : (r : Reply) → IsKnownReply w host h r → IsKnownReply w host (after_exit h a exit) r
  reply_still (reply.Boot boot nonce) was = was
  reply_still (reply.Report r) was =
      record { life = life_still r.boot r.seq was.life; own = was.own; apart = was.apart; due = λ awaits. due_still r (was.due awaits) }
  reply_still other was = tt

  pub host_ends : Has w.events (event.Ended host a exit) → is_run a h.life.running ≡ true → exit.status < 2 ^ 32 → exit.signal < 2 ^ 32 → IsKeptHost w host h
      → IsKeptHost w host (after_exit h a exit)
  host_ends has runs status signal was =
      let found = any_each IsRunningWithin (λ (r : Running). is_same r.attempt a) h.life.running was.life.running runs in
      let of_types : IsAttemptWithin a = subst IsAttemptWithin (same_is found.0.attempt a found.1) found.2 in
      record {
        life =
            record {
              config = was.life.config;
              running = each_filter IsRunningWithin (λ (r : Running). not (is_same r.attempt a)) h.life.running was.life.running;
              finished =
                  each_append IsItemWithin h.life.finished (item ∷ []) was.life.finished (record { attempt = of_types; status = status; signal = signal; free = tt }, tt);
              boot = was.life.boot;
              seq = was.life.seq;
            };
        within = within_left a h.life.running h.life.config.cores was.within;
        nonce = was.nonce;
        differ = was.differ;
        started = each_from (IsAccounted w.now.farm h) (IsAccounted w.now.farm (after_exit h a exit)) account_still h.started was.started;
        came = each_append (CameFrom w host) h.life.finished (item ∷ []) was.came (inl (record { ended = has; untold = refl }), tt);
        boot = was.boot;
        sent = λ s here of r reads. request_still r (was.sent s here of r reads);
        formed = was.formed;
        told = λ r told. reply_still r (was.told r told);
        boots = was.boots;
      }

-- ---- a new life

module _ (w : World) (host : ℕ) (h : Host) (nonce : ℕ) (fresh : has_used h nonce ≡ false) where
  used_still : (n : ℕ) → has_used h n ≡ true → has_used (reborn h nonce) n ≡ true
  used_still n used = any_append (λ m. eqb m n) h.nonces (nonce ∷ []) used

  -- an older life's nonce isn't the new one's
  older : (n : ℕ) → has_used h n ≡ true → n ≡ nonce → ⊥
  older n used same = false≢true (sym fresh ∙ subst (λ (m : ℕ). has_used h m ≡ true) same used)

  life_older : (boot seq : ℕ) → IsOfALife w host h boot seq → IsOfALife w host (reborn h nonce) boot seq
  life_older boot seq of = record { nonce = of.nonce; told = of.told; used = used_still of.nonce of.used; past = λ same. absurd (older of.nonce of.used same) }

  request_older : (r : Request) → IsKnownRequest w host h r → IsKnownRequest w host (reborn h nonce) r
  request_older (request.Boot line) was = (was.0, used_still line.nonce was.1)
  request_older (request.Report r) was = record { name = was.name; life = life_older r.heard.boot r.heard.seq was.life; came = was.came }
  request_older other was = tt

  reply_older : (r : Reply) → IsKnownReply w host h r → IsKnownReply w host (reborn h nonce) r
  reply_older (reply.Boot boot n) was = (was.0, used_still n was.1)
  reply_older (reply.Report r) was =
      record { life = life_older r.boot r.seq was.life; own = was.own; apart = was.apart; due = λ awaits. absurd (none-some (sent_line.Report r.boot r.seq) awaits) }
  reply_older other was = tt

  pub host_begins : nonce < 2 ^ 64 → IsKeptHost w host h → IsKeptHost w host (reborn h nonce)
  host_begins low was =
      let config = was.life.config in
      record {
        life =
            record {
              config = record { name = config.name; alloc = config.alloc; cores = config.cores; memory = config.memory; nonce = low };
              running = tt;
              finished = tt;
              boot = tt;
              seq = omega arith;
            };
        within = new_within h.life.config.cores;
        nonce = any_last (λ m. eqb m nonce) h.nonces nonce (eq-eqb nonce nonce refl);
        differ = tt;
        started = tt;
        came = tt;
        boot = λ boot is. absurd (none-some boot is);
        sent = λ s has of r reads. request_older r (was.sent s has of r reads);
        formed = was.formed;
        told = λ r told. reply_older r (was.told r told);
        boots = was.boots;
      }
