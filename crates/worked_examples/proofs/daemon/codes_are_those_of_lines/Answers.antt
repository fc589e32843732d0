use Rattle.std.proofs.Common.{◌≡◌, refl}
use Rattle.std.specs.Prelude.{codes, option_map}
use Rattle.serde_json.specs.Find.{get}
use Rattle.farm_types.specs.declared.refusal.Refusal.{Refusal}
use Rattle.farm_types.specs.declared.refusal.Refusal.TheVariants as refusal
use Rattle.farm_lines.specs.declared.reply.Reply.{Reply}
use Rattle.farm_lines.specs.declared.reply.Reply.TheVariants as reply
use Rattle.farm_lines.specs.ListReplies.{list_data}
use Rattle.farm_lines.specs.Reply.{bad_amount, bad_line, bad_range, boot_data, depend_data, done_data, dropped_data, ended_data, entries_full, limit_data, no_memory, refusal_data, report_data, still_held, store_fault, sub_data, submit_data, tick_data, too_long, reply_data}
use Rattle.farm_lines.specs.Words.{whole}
use Rattle.rqd_core.specs.Replies.{code_of}
use Rattle.worked_examples.proofs.daemon.codes_are_those_of_lines.Goals as goal

refused_code : (why : Refusal) → get (codes "code") (refusal_data why) ≡ option_map whole (code_of (reply.Refused why))
unfolding refusal_data
refused_code (refusal.Unknown name) = refl
refused_code (refusal.Exists name) = refl
refused_code (refusal.Finished name) = refl
refused_code (refusal.WrongBoot boot) = refl
refused_code (refusal.Stale last) = refl
refused_code (refusal.FarmFull free) = refl
refused_code refusal.Satisfied = refl
refused_code (refusal.WrongState state) = refl
refused_code (refusal.VersionSpent frame) = refl
refused_code (refusal.SelfDepend frame) = refl
refused_code (refusal.Started frame) = refl
refused_code (refusal.Full limit what) = refl

told_code : (r : Reply) → get (codes "code") (reply_data r) ≡ option_map whole (code_of r)
unfolding bad_amount bad_line bad_range boot_data depend_data done_data dropped_data ended_data entries_full limit_data no_memory report_data still_held store_fault sub_data submit_data tick_data too_long list_data
told_code reply.Done = refl
told_code (reply.Sub booked burst size) = refl
told_code (reply.Limit most running) = refl
told_code (reply.Boot boot nonce) = refl
told_code (reply.Tick down lost) = refl
told_code (reply.Submitted frames job) = refl
told_code (reply.Depend depend unmet) = refl
told_code (reply.Dropped opened) = refl
told_code (reply.Ended ended) = refl
told_code (reply.Report r) = refl
told_code (reply.List r) = refl
told_code (reply.BadLine field) = refl
told_code reply.TooLong = refl
told_code (reply.BadRange layer fault) = refl
told_code (reply.BadAmount field) = refl
told_code (reply.Refused why) = refused_code why
told_code (reply.StillHeld cores memory) = refl
told_code reply.EntriesFull = refl
told_code reply.Store = refl
told_code reply.NoMemory = refl

pub returns : goal.returns
returns c r = told_code r
