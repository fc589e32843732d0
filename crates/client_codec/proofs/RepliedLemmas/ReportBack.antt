-- The reply to a report is read back from its text.
use Rattle.std.proofs.Common.{◌≡◌, ℕ, List, length, Some, Ok, refl, arith, le-leb}
use Rattle.std.specs.Prelude.{codes}
use Rattle.cue_json.specs.Items.{item_at}
use Rattle.farm_types.specs.declared.limits.TheConstants.{LAST_BOOT, LAST_SLOT, LAST_VERSION, LEAST_CORES, LEAST_MEMORY, MOST_CORES, MOST_MEMORY}
use Rattle.state_names.specs.Words.{cut_of, cut_word}
use Rattle.farm_lines.specs.declared.launch.Launch.{Launch}
use Rattle.farm_lines.specs.declared.limits.TheConstants.{LAUNCHES_EACH}
use Rattle.farm_lines.specs.declared.reply.Reply.TheVariants as reply
use Rattle.farm_lines.specs.declared.reply.ReportReply.{ReportReply}
use Rattle.farm_lines.specs.FormedLines.{IsFormedAttempt, IsFormedLaunch, IsFormedReportReply}
use Rattle.farm_lines.specs.Reply.{attempt_data, launch_data, reply_text, report_data}
use Rattle.farm_lines.specs.ReplyLines.{launch_at, reply_of, report_reply_at}
use Rattle.farm_lines.specs.Request.{attempt_at}
use Rattle.client_codec.proofs.AttemptsBack.{attempt_back, attempt_fits}
use Rattle.object_writer.proofs.DataBack.{Fits}
use Rattle.client_codec.proofs.FieldsBack.{fields_in, name_back, whole_back, word_back}
use Rattle.client_codec.proofs.ItemsBack.{items_back, items_fit}
use Rattle.client_codec.proofs.ReadBack.{back}
use Rattle.client_codec.proofs.AskedLemmas.TextsFit.{name_fits, text_fits}
use Rattle.state_names.proofs.WordsBack.{cut_back, cut_utf8}

-- ---- launches

launch_fits : (l : Launch) → IsFormedLaunch l → Fits 1 (launch_data l)
unfolding launch_data
launch_fits l h = (
  refl,
  text_fits l.command h.command,
  (
    refl,
    omega (arith, h.cores_within.1),
    (
      refl,
      text_fits l.frame h.frame,
      (
        refl,
        name_fits l.job h.job,
        (
          refl,
          name_fits l.layer h.layer,
          (refl, omega (arith, h.memory_within.1), (refl, omega (arith, h.attempt.slot_within), (refl, omega (arith, h.attempt.version_within), tt))),
        ),
      ),
    ),
  ),
)

launch_read : (field : List ℕ) (l : Launch) → IsFormedLaunch l → item_at field launch_at (launch_data l) ≡ Ok l
unfolding launch_data launch_at
launch_read field l h =
    let ms = fields_in (launch_data l) in
    rw (
      whole_back (codes "cores") ms LEAST_CORES MOST_CORES l.cores refl h.cores_within,
      name_back (codes "job") ms l.job refl h.job,
      name_back (codes "layer") ms l.layer refl h.layer,
      whole_back (codes "memory") ms LEAST_MEMORY MOST_MEMORY l.memory refl h.memory_within,
      whole_back (codes "slot") ms 0 LAST_SLOT l.attempt.slot refl (omega arith, h.attempt.slot_within),
      whole_back (codes "version") ms 0 LAST_VERSION l.attempt.version refl (omega arith, h.attempt.version_within),
    ) refl

-- ---- the reply

pub report_back : (r : ReportReply) → IsFormedReportReply r → reply_of (reply_text (reply.Report r)) ≡ Some (reply.Report r)
unfolding report_data report_reply_at
report_back r h =
    let ms = fields_in (report_data r.boot r.seq (cut_word r.cut) r.acks r.kills r.launches) in
    back ms (reply.Report r) (
      refl,
      items_fit attempt_data IsFormedAttempt 1 attempt_fits r.acks h.each_ack,
      (
        refl,
        omega (arith, h.boot_within.1),
        (
          refl,
          cut_utf8 r.cut,
          (
            refl,
            items_fit attempt_data IsFormedAttempt 1 attempt_fits r.kills h.each_kill,
            (refl, items_fit launch_data IsFormedLaunch 1 launch_fits r.launches h.each_launch, (refl, tt, (refl, h.seq_within.1, tt))),
          ),
        ),
      ),
    ) (
    rw (
      items_back attempt_data IsFormedAttempt (codes "acks") attempt_at (attempt_back (codes "acks")) r.acks h.each_ack,
      whole_back (codes "boot") ms 1 LAST_BOOT r.boot refl h.boot_within,
      word_back (codes "cut") ms cut_of (cut_word r.cut) r.cut refl (cut_back r.cut),
      items_back attempt_data IsFormedAttempt (codes "kills") attempt_at (attempt_back (codes "kills")) r.kills h.each_kill,
      items_back launch_data IsFormedLaunch (codes "launches") launch_at (launch_read (codes "launches")) r.launches h.each_launch,
      le-leb (length r.launches) LAUNCHES_EACH h.few,
      whole_back (codes "seq") ms 1 18446744073709551615 r.seq refl (h.seq_within.0, omega (arith, h.seq_within.1)),
    ) refl
    )
