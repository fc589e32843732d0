-- What a host keeps as a line comes to it.
use Rattle.std.proofs.Common.{◌≡◌, ◌≤◌, ◌<◌, ◌^◌, ℕ, Bool, true, false, cond, eqb, List, [], ◌++◌, max, Option, None, Some, Ok, refl, sym, subst, arith, append-nil}
use Rattle.std.specs.List.{slice_get}
use Rattle.std.specs.Prelude.{IfSome}
use Rattle.std.proofs.lemmas.Bool.{eqb-true, false≢true}
use Rattle.std.proofs.lemmas.Option.{none-some, same_Some}
use Rattle.farm_types.specs.declared.attempt.Attempt.{Attempt}
use Rattle.farm_types.specs.declared.refusal.Refusal.{Refusal}
use Rattle.farm_types.specs.declared.refusal.Refusal.TheVariants as refusal
use Rattle.farm_types.proofs.Lists.{and_both}
use Rattle.farm_lines.specs.declared.reply.Reply.{Reply}
use Rattle.farm_lines.specs.declared.reply.Reply.TheVariants as reply
use Rattle.farm_lines.specs.declared.reply.ReportReply.{ReportReply}
use Rattle.farm_lines.specs.FormedLines.{IsFormedRefusal, IsFormedReply}
use Rattle.farm_lines.specs.ReplyLines.{reply_of}
use Rattle.rqd_core.specs.declared.sent_line.SentLine.{SentLine}
use Rattle.rqd_core.specs.declared.sent_line.SentLine.TheVariants as sent_line
use Rattle.rqd_core.specs.Replies.{after_refusal, after_report, after_why, answered, code_of, is_of_boot, is_of_report, no_orders, not_latest, refused_with, take_other, take_read}
use Rattle.world_law.specs.declared.event.Event.TheVariants as event
use Rattle.world_law.specs.declared.lines.Told.{Told}
use Rattle.world_law.specs.Among.{Has}
use Rattle.world_law.specs.Hosts.{after_told, with_taken}
use Rattle.world_law.specs.KeptWorld.{IsKeptHost, IsToldTo}
use Rattle.world_law.specs.World.{Host, World}
use Rattle.world_law.proofs.HostSteps.{GoesOn, gone_on, host_on}
use Rattle.world_law.proofs.Taking.{host_takes}

-- ---- which reply is awaited

awaited_report : (r : ReportReply) (o : Option SentLine) → is_of_report r o ≡ true → o ≡ Some (sent_line.Report r.boot r.seq)
awaited_report r None is = absurd (false≢true is)
awaited_report r (Some sent_line.Boot) is = absurd (false≢true is)
awaited_report r (Some (sent_line.Report boot seq)) is =
    let both = and_both (eqb r.boot boot) (eqb r.seq seq) is in
    let boots = eqb-true r.boot boot both.0 in
    let seqs = eqb-true r.seq seq both.1 in
    λ i. Some (sent_line.Report (sym boots i) (sym seqs i))

awaited_boot : (nonce told : ℕ) (o : Option SentLine) → is_of_boot nonce told o ≡ true → told ≡ nonce
awaited_boot nonce told None is = absurd (false≢true is)
awaited_boot nonce told (Some sent_line.Boot) is = eqb-true told nonce is
awaited_boot nonce told (Some (sent_line.Report boot seq)) is = absurd (false≢true is)

-- ---- options

if_some : (o : Option ℕ) → ((n : ℕ) → o ≡ Some n → n < 2 ^ 32) → IfSome o (λ n. n < 2 ^ 32)
if_some None each = tt
if_some (Some n) each = each n refl

pub some_if : (o : Option ℕ) → IfSome o (λ n. n < 2 ^ 32) → (n : ℕ) → o ≡ Some n → n < 2 ^ 32
some_if None each n is = absurd (none-some n is)
some_if (Some m) each n is = subst (λ (k : ℕ). k < 2 ^ 32) (same_Some m n is) each

-- ---- no start is added

module _ (w : World) (host : ℕ) where
  with_none : (h : Host) → IsKeptHost w host h → IsKeptHost w host (record h { started = h.started ++ [] })
  with_none h was = subst (λ (xs : List Attempt). IsKeptHost w host (record h { started = xs })) (sym (append-nil h.started)) was

  goes_on : (h : Host) (boot : Option ℕ) (seq : ℕ) (line : Option SentLine) → GoesOn w host h boot seq line → IsKeptHost w host h
      → IsKeptHost w host (record (gone_on h boot seq line) { started = h.started ++ [] })
  goes_on h boot seq line on was = with_none (gone_on h boot seq line) (host_on w host h boot seq line on was)

  -- the latest line was replied to: a boot number that isn't there any more, or was told, and a sequence number that is no lower
  answers : (h : Host) (boot : Option ℕ) (seq : ℕ) → ((n : ℕ) → boot ≡ Some n → (n < 2 ^ 32) × IsToldTo w host (reply.Boot n h.life.config.nonce)) → h.life.seq ≤ seq → seq < 2 ^ 64
      → IsKeptHost w host h → IsKeptHost w host (record (gone_on h boot seq None) { started = h.started ++ [] })
  answers h boot seq told rises low was =
      goes_on h boot seq None
      (record {
        within = if_some boot (λ n is. (told n is).0);
        seq_within = low;
        rises = rises;
        told = λ n is. (told n is).1;
        same = λ r is awaits. absurd (none-some (sent_line.Report r.boot r.seq) awaits);
      })
      was

  module _ (h : Host) (was : IsKeptHost w host h) where
    as_before : (n : ℕ) → h.life.boot ≡ Some n → (n < 2 ^ 32) × IsToldTo w host (reply.Boot n h.life.config.nonce)
    as_before n is = (some_if h.life.boot was.life.boot n is, was.boot n is)

    none_before : (n : ℕ) → ◌≡◌ {A = Option ℕ} None (Some n) → (n < 2 ^ 32) × IsToldTo w host (reply.Boot n h.life.config.nonce)
    none_before n is = absurd (none-some n is)

    -- ---- a refusal

    why_takes : (why : Refusal) → IsFormedRefusal why → IsKeptHost w host (record h { life = after_why (answered h.life) why; started = h.started ++ [] })
    why_takes (refusal.Unknown name) formed = answers h None h.life.seq none_before (omega arith) was.life.seq was
    why_takes (refusal.WrongBoot boot) formed = answers h None h.life.seq none_before (omega arith) was.life.seq was
    why_takes (refusal.Stale last) formed =
        let low = was.life.seq in
        let told = formed.1 in
        answers h h.life.boot (max h.life.seq last) as_before (omega arith) (omega (arith, low, told)) was
    why_takes why formed = answers h h.life.boot h.life.seq as_before (omega arith) was.life.seq was

    refusal_takes : (r : Reply) → IsFormedReply r → IsKeptHost w host (record h { life = after_refusal (answered h.life) r; started = h.started ++ [] })
    refusal_takes (reply.Refused why) formed = why_takes why formed
    refusal_takes r formed = answers h h.life.boot h.life.seq as_before (omega arith) was.life.seq was

    refused_takes : (r : Reply) (o : Option SentLine) (code : ℕ) → IsFormedReply r → IsKeptHost w host (with_taken h (refused_with h.life r o code))
    refused_takes r None code formed = with_none h was
    refused_takes r (Some line) code formed = refusal_takes r formed

    other_takes : (r : Reply) (code : Option ℕ) → IsFormedReply r → IsKeptHost w host (with_taken h (take_other h.life r code))
    other_takes r None formed = with_none h was
    other_takes r (Some code) formed = refused_takes r h.life.awaited code formed

    -- ---- a boot

    boot_takes : (boot nonce : ℕ) → IsToldTo w host (reply.Boot boot nonce) → (b : Bool) → is_of_boot h.life.config.nonce nonce h.life.awaited ≡ b
        → IsKeptHost w host (with_taken h (cond b (record { life = record (answered h.life) { boot = Some boot }; told = Ok no_orders }) (not_latest h.life 0)))
    boot_takes boot nonce told true is =
        let same = awaited_boot h.life.config.nonce nonce h.life.awaited is in
        let formed = (was.formed (reply.Boot boot nonce) told).0.1 in
        answers h (Some boot) h.life.seq
        (λ n at.
        let here = same_Some boot n at in
        let low : n < 2 ^ 32 = omega (arith, formed, here) in
        (low, subst (λ (m : ℕ). IsToldTo w host (reply.Boot m h.life.config.nonce)) here (subst (λ (m : ℕ). IsToldTo w host (reply.Boot boot m)) same told)))
        (omega arith) was.life.seq was
    boot_takes boot nonce told false is = with_none h was

    -- ---- any line

    module _ (place : ℕ) (told : Told) (came : Has w.events (event.ToHost place)) (there : slice_get w.told place ≡ Some told) (of_host : told.host ≡ host) where
      told_to : (r : Reply) → reply_of told.line ≡ Some r → IsToldTo w host r
      told_to r reads = record { told = told; there = (place, there); of_host = of_host; reads = reads }

      report_takes : (r : ReportReply) → reply_of told.line ≡ Some (reply.Report r) → (b : Bool) → is_of_report r h.life.awaited ≡ b
          → IsKeptHost w host (with_taken h (cond b (after_report (answered h.life) r) (not_latest h.life r.seq)))
      report_takes r reads true is = host_takes w host h r place told came there of_host reads was (awaited_report r h.life.awaited is)
      report_takes r reads false is = with_none h was

      read_takes : (o : Option Reply) → reply_of told.line ≡ o → IsKeptHost w host (with_taken h (take_read h.life o))
      read_takes None reads = with_none h was
      read_takes (Some (reply.Report r)) reads = report_takes r reads (is_of_report r h.life.awaited) refl
      read_takes (Some (reply.Boot boot nonce)) reads =
          boot_takes boot nonce (told_to (reply.Boot boot nonce) reads) (is_of_boot h.life.config.nonce nonce h.life.awaited) refl
      read_takes (Some r) reads = other_takes r (code_of r) (was.formed r (told_to r reads))

      pub host_is_told : IsKeptHost w host (after_told h told.line)
      host_is_told = read_takes (reply_of told.line) refl
