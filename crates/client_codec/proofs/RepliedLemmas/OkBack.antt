-- Replies to what is done are read back from their text.
use Rattle.std.proofs.Common.{◌≡◌, ℕ, List, Some, refl, arith}
use Rattle.std.specs.Prelude.{codes}
use Rattle.farm_types.specs.declared.limits.TheConstants.{LAST_BOOT, LAST_DEPEND, MOST_BURST, MOST_FRAMES, MOST_HOSTS, MOST_RUNNING, SLOT_LIMIT}
use Rattle.farm_lines.specs.declared.limits.TheConstants.{MOST_BOOKED}
use Rattle.farm_lines.specs.declared.reply.Reply.TheVariants as reply
use Rattle.farm_lines.specs.FormedLines.{IsFormedReply}
use Rattle.farm_lines.specs.Reply.{boot_data, depend_data, done_data, dropped_data, ended_data, limit_data, reply_text, sub_data, submit_data, tick_data}
use Rattle.farm_lines.specs.ReplyLines.{boot_reply, depend_reply, done_reply, drop_reply, ended_reply, limit_reply, reply_of, sub_reply, submit_reply, tick_reply}
use Rattle.client_codec.proofs.FieldsBack.{fields_in, name_back, whole_back}
use Rattle.client_codec.proofs.ReadBack.{back}
use Rattle.client_codec.proofs.AskedLemmas.TextsFit.{name_fits}

pub done_back : reply_of (reply_text reply.Done) ≡ Some reply.Done
unfolding done_data done_reply
done_back = back (fields_in done_data) reply.Done (refl, tt, tt) refl

pub sub_back : (booked burst size : ℕ) → IsFormedReply (reply.Sub booked burst size) → reply_of (reply_text (reply.Sub booked burst size)) ≡ Some (reply.Sub booked burst size)
unfolding sub_data sub_reply
sub_back booked burst size h =
    let ms = fields_in (sub_data booked burst size) in
    back ms (reply.Sub booked burst size) (refl, omega (arith, h.0), (refl, omega (arith, h.1), (refl, tt, (refl, omega (arith, h.2), tt)))) (
    rw (
      whole_back (codes "booked") ms 0 MOST_BOOKED booked refl (omega arith, h.0),
      whole_back (codes "burst") ms 0 MOST_BURST burst refl (omega arith, h.1),
      whole_back (codes "size") ms 0 MOST_BURST size refl (omega arith, h.2),
    ) refl
    )

pub limit_back : (most running : ℕ) → IsFormedReply (reply.Limit most running) → reply_of (reply_text (reply.Limit most running)) ≡ Some (reply.Limit most running)
unfolding limit_data limit_reply
limit_back most running h =
    let ms = fields_in (limit_data most running) in
    back ms (reply.Limit most running) (refl, omega (arith, h.0), (refl, tt, (refl, omega (arith, h.1), tt))) (rw (whole_back (codes "most") ms 0 MOST_RUNNING most refl (omega arith, h.0), whole_back (codes "running") ms 0 SLOT_LIMIT running refl (omega arith, h.1)) refl)

pub boot_back : (boot nonce : ℕ) → IsFormedReply (reply.Boot boot nonce) → reply_of (reply_text (reply.Boot boot nonce)) ≡ Some (reply.Boot boot nonce)
unfolding boot_data boot_reply
boot_back boot nonce h =
    let ms = fields_in (boot_data boot nonce) in
    back ms (reply.Boot boot nonce) (refl, omega (arith, h.0.1), (refl, h.1, (refl, tt, tt))) (rw (whole_back (codes "boot") ms 1 LAST_BOOT boot refl h.0, whole_back (codes "nonce") ms 0 18446744073709551615 nonce refl (omega arith, omega (arith, h.1))) refl)

pub tick_back : (down lost : ℕ) → IsFormedReply (reply.Tick down lost) → reply_of (reply_text (reply.Tick down lost)) ≡ Some (reply.Tick down lost)
unfolding tick_data tick_reply
tick_back down lost h =
    let ms = fields_in (tick_data down lost) in
    back ms (reply.Tick down lost) (refl, omega (arith, h.0), (refl, omega (arith, h.1), (refl, tt, tt))) (rw (whole_back (codes "down") ms 0 MOST_HOSTS down refl (omega arith, h.0), whole_back (codes "lost") ms 0 SLOT_LIMIT lost refl (omega arith, h.1)) refl)

pub submitted_back : (frames : ℕ) (job : List ℕ) → IsFormedReply (reply.Submitted frames job) → reply_of (reply_text (reply.Submitted frames job)) ≡ Some (reply.Submitted frames job)
unfolding submit_data submit_reply
submitted_back frames job h =
    let ms = fields_in (submit_data frames job) in
    back ms (reply.Submitted frames job) (refl, omega (arith, h.0.1), (refl, name_fits job h.1, (refl, tt, tt))) (rw (whole_back (codes "frames") ms 1 MOST_FRAMES frames refl h.0, name_back (codes "job") ms job refl h.1) refl)

pub depend_back : (depend unmet : ℕ) → IsFormedReply (reply.Depend depend unmet) → reply_of (reply_text (reply.Depend depend unmet)) ≡ Some (reply.Depend depend unmet)
unfolding depend_data depend_reply
depend_back depend unmet h =
    let ms = fields_in (depend_data depend unmet) in
    back ms (reply.Depend depend unmet) (refl, omega (arith, h.0.1), (refl, tt, (refl, omega (arith, h.1), tt))) (rw (whole_back (codes "depend") ms 1 LAST_DEPEND depend refl h.0, whole_back (codes "unmet") ms 0 SLOT_LIMIT unmet refl (omega arith, h.1)) refl)

pub dropped_back : (opened : ℕ) → IsFormedReply (reply.Dropped opened) → reply_of (reply_text (reply.Dropped opened)) ≡ Some (reply.Dropped opened)
unfolding dropped_data drop_reply
dropped_back opened h =
    let ms = fields_in (dropped_data opened) in
    back ms (reply.Dropped opened) (refl, tt, (refl, omega (arith, h), tt)) (rw (whole_back (codes "opened") ms 0 SLOT_LIMIT opened refl (omega arith, h)) refl)

pub ended_back : (ended : ℕ) → IsFormedReply (reply.Ended ended) → reply_of (reply_text (reply.Ended ended)) ≡ Some (reply.Ended ended)
unfolding ended_data ended_reply
ended_back ended h =
    let ms = fields_in (ended_data ended) in
    back ms (reply.Ended ended) (refl, omega (arith, h), (refl, tt, tt)) (rw (whole_back (codes "ended") ms 0 SLOT_LIMIT ended refl (omega arith, h)) refl)
