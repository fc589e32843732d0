-- What is replied to a report is within its forms and limits.
use Rattle.std.proofs.Common.{◌≡◌, ℕ, not, cond, eqb, length, Option, Some, None, refl}
use Rattle.std.specs.Prelude.{◌&&◌, option_and_then, option_map}
use Rattle.std.specs.List.{All, filter_map, slice_get}
use Rattle.std.specs.Option.{IfSome}
use Rattle.std.proofs.lemmas.List.Elements.{All-filter, All-map, All-take, All-weaker}
use Rattle.farm_types.specs.declared.attempt.DoneItem.{DoneItem}
use Rattle.farm_types.specs.declared.attempt.ProcRow.{ProcRow}
use Rattle.farm_types.specs.declared.dispatch.Cut.{Cut}
use Rattle.farm_types.specs.declared.rows.JobRow.{JobRow}
use Rattle.farm_types.specs.declared.rows.LayerRow.{LayerRow}
use Rattle.farm_types.specs.declared.slot_row.Frame.{Frame}
use Rattle.farm_types.specs.declared.slot_row.SlotRow.{SlotRow}
use Rattle.farm_types.specs.Farm.{Farm, job_at, layer_at}
use Rattle.farm_types.specs.Formed.{IsFormedDone, IsFormedHeard}
use Rattle.farm_types.specs.Kept.{KeepsRows, is_formed_job, is_formed_layer}
use Rattle.farm_types.specs.Step.{is_live}
use Rattle.farm_types.proofs.Lists.{find_passes}
use Rattle.farm_law.proofs.KeptJobsFormed.{job_formed}
use Rattle.command_text.proofs.ExpandedTexts.{expanded_text}
use Rattle.farm_lines.specs.declared.limits.TheConstants.{LAUNCHES_EACH}
use Rattle.farm_lines.specs.declared.report.Report.{Report}
use Rattle.farm_lines.specs.FormedLines.{IsFormedAttempt, IsFormedLaunch, IsFormedReply}
use Rattle.farm_lines.specs.Reply.{due_in, is_due, launch_for, launch_of, report_reply}
use Rattle.reply_law.proofs.Attempts.{AttemptWithin, attempt_within}
use Rattle.reply_law.proofs.Elements.{found_each, if_one, take_few}
use Rattle.reply_law.proofs.Layers.{layer_within}
use Rattle.reply_law.proofs.Texts.{frame_text, name_text}

module _ (f : Farm) (kept : KeepsRows f) (host : ℕ) (report : Report) where
  module _ (i : ℕ) (s : SlotRow) (at : slice_get f.slots i ≡ Some s) (p : ProcRow) (is : s.proc ≡ Some p) where
    within : AttemptWithin f kept s p
    within = attempt_within f kept i s p at is

    of_layer : (x : Frame) (j : JobRow) (o : Option LayerRow) → job_at f x.job ≡ Some j → layer_at f x.job x.layer ≡ o → IfSome (option_map (λ layer. launch_for p x j layer) o) IsFormedLaunch
    of_layer x j None found none = tt
    of_layer x j (Some l) found there =
        let job = job_formed (length f.shows) j (find_passes (λ (k : JobRow). eqb k.job x.job) (is_formed_job (length f.shows)) f.jobs j kept.jobs.jobs_formed found) in
        let layer = layer_within l (find_passes (λ (k : LayerRow). eqb k.job x.job && eqb k.place x.layer) is_formed_layer f.layers l kept.jobs.layers_formed there) in
        record {
          attempt = record { slot_within = within.slot; version_within = within.version };
          command = expanded_text l.command j.name l.name x.number layer.command (name_text j.name job.name) (name_text l.name layer.name);
          cores_within = within.cores;
          frame = frame_text x.number l.name (name_text l.name layer.name);
          job = job.name;
          layer = layer.name;
          memory_within = within.memory;
        }

    of_job : (x : Frame) (o : Option JobRow) → job_at f x.job ≡ o → IfSome (option_and_then (λ job. option_map (λ layer. launch_for p x job layer) (layer_at f x.job x.layer)) o) IsFormedLaunch
    of_job x None none = tt
    of_job x (Some j) found = of_layer x j (layer_at f x.job x.layer) found refl

    of_frame : (o : Option Frame)
        → IfSome (option_and_then (λ frame. option_and_then (λ job. option_map (λ layer. launch_for p frame job layer) (layer_at f frame.job frame.layer)) (job_at f frame.job)) o) IsFormedLaunch
    of_frame None = tt
    of_frame (Some x) = of_job x (job_at f x.job) refl

  due_formed : (i : ℕ) (s : SlotRow) → slice_get f.slots i ≡ Some s → IfSome (due_in f host report s) IsFormedLaunch
  due_formed i s at = by s.proc refl
    where
      by : (o : Option ProcRow) → s.proc ≡ o → IfSome (option_and_then (λ p. cond (is_due host report p) (launch_of f s p) None) o) IsFormedLaunch
      by None is = tt
      by (Some p) is = if_one IsFormedLaunch (is_due host report p) (launch_of f s p) None (of_frame i s at p is s.frame) tt

  pub report_formed : (ended : Cut) → IsFormedHeard report.heard → All IsFormedAttempt report.running → IsFormedReply (report_reply f host report ended)
  report_formed ended formed running =
      record {
        each_ack =
            All-map IsFormedAttempt (λ (d : DoneItem). d.attempt) report.heard.done
            (All-weaker IsFormedDone (λ (d : DoneItem). IsFormedAttempt d.attempt) (λ d done. record { slot_within = done.slot_within; version_within = done.version_within }) report.heard.done formed.each_done);
        boot_within = formed.boot_within;
        each_kill = All-filter (λ a. not (is_live f host report.heard.boot a.slot a.version)) IsFormedAttempt report.running running;
        few = take_few LAUNCHES_EACH (filter_map (due_in f host report) f.slots);
        each_launch = All-take IsFormedLaunch LAUNCHES_EACH (filter_map (due_in f host report) f.slots) (found_each IsFormedLaunch (due_in f host report) f.slots due_formed);
        seq_within = formed.seq_within;
      }
