-- Every reply within its forms and limits is read back from its own text.
use Rattle.std.proofs.Common.{◌≡◌, Some}
use Rattle.farm_lines.specs.declared.reply.Reply.{Reply}
use Rattle.farm_lines.specs.declared.reply.Reply.TheVariants as reply
use Rattle.farm_lines.specs.FormedLines.{IsFormedReply}
use Rattle.farm_lines.specs.Reply.{reply_text}
use Rattle.farm_lines.specs.ReplyLines.{reply_of}
use Rattle.client_codec.proofs.RepliedLemmas.LineRefusedBack.{bad_amount_back, bad_line_back, bad_range_back, entries_full_back, no_memory_back, still_held_back, store_back, too_long_back}
use Rattle.client_codec.proofs.RepliedLemmas.ListBack.{list_back}
use Rattle.client_codec.proofs.RepliedLemmas.OkBack.{boot_back, depend_back, done_back, dropped_back, ended_back, limit_back, sub_back, submitted_back, tick_back}
use Rattle.client_codec.proofs.RepliedLemmas.RefusedBack.{refused_back}
use Rattle.client_codec.proofs.RepliedLemmas.ReportBack.{report_back}

pub reply_back : (r : Reply) → IsFormedReply r → reply_of (reply_text r) ≡ Some r
reply_back reply.Done h = done_back
reply_back (reply.Sub booked burst size) h = sub_back booked burst size h
reply_back (reply.Limit most running) h = limit_back most running h
reply_back (reply.Boot boot nonce) h = boot_back boot nonce h
reply_back (reply.Tick down lost) h = tick_back down lost h
reply_back (reply.Submitted frames job) h = submitted_back frames job h
reply_back (reply.Depend depend unmet) h = depend_back depend unmet h
reply_back (reply.Dropped opened) h = dropped_back opened h
reply_back (reply.Ended ended) h = ended_back ended h
reply_back (reply.Report r) h = report_back r h
reply_back (reply.List r) h = list_back r h
reply_back (reply.BadLine field) h = bad_line_back field h
reply_back reply.TooLong h = too_long_back
reply_back (reply.BadRange layer fault) h = bad_range_back layer fault h
reply_back (reply.BadAmount field) h = bad_amount_back field h
reply_back (reply.Refused why) h = refused_back why h
reply_back (reply.StillHeld cores memory) h = still_held_back cores memory h
reply_back reply.EntriesFull h = entries_full_back
reply_back reply.Store h = store_back
reply_back reply.NoMemory h = no_memory_back
