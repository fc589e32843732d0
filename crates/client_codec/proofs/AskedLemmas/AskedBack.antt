-- A request within its forms and limits is read from its own text as the same request.
use Rattle.std.proofs.Common.{◌≡◌, Ok, refl, arith}
use Rattle.std.specs.Prelude.{codes}
use Rattle.json.proofs.Printed.Utf8.{IsUtf8-are_ascii}
use Rattle.farm_lines.specs.declared.request.Request.{Request}
use Rattle.farm_lines.specs.declared.request.Request.TheVariants as request
use Rattle.farm_lines.specs.FormedLines.{IsFormedRequest}
use Rattle.farm_lines.specs.Request.{request_of}
use Rattle.farm_lines.specs.RequestText.{request_data, request_text, tick_line}
use Rattle.client_codec.proofs.AskedLemmas.AskedBoot.{boot_fits, boot_read}
use Rattle.client_codec.proofs.AskedLemmas.AskedDepend.{depend_fits, depend_read}
use Rattle.client_codec.proofs.AskedLemmas.AskedFields.{IsReadAs, line_back}
use Rattle.client_codec.proofs.AskedLemmas.AskedFrames.{eat_read, frame_fits, kill_frame_read, retry_read}
use Rattle.client_codec.proofs.AskedLemmas.AskedLimit.{limit_fits, limit_read}
use Rattle.client_codec.proofs.AskedLemmas.AskedList.{list_fits, list_read}
use Rattle.client_codec.proofs.AskedLemmas.AskedNames.{alloc_fits, alloc_read, drop_fits, drop_read, kill_job_fits, kill_job_read, lock_fits, lock_read, pause_fits, pause_read, show_fits, show_read}
use Rattle.client_codec.proofs.AskedLemmas.AskedReport.{report_fits, report_read}
use Rattle.client_codec.proofs.AskedLemmas.AskedSub.{sub_fits, sub_read}
use Rattle.client_codec.proofs.AskedLemmas.AskedSubmit.{submit_fits, submit_read}
use Rattle.object_writer.proofs.DataBack.{Fits}

tick_read : IsReadAs tick_line request.Tick
unfolding tick_line
tick_read = refl

tick_fits : Fits 1 tick_line
unfolding tick_line
tick_fits = (refl, IsUtf8-are_ascii (codes "tick") refl, tt)

pub request_back : (asked : Request) → IsFormedRequest asked → request_of (request_text asked) ≡ Ok asked
request_back (request.Show name) h = line_back 1 (request_data (request.Show name)) (request.Show name) (show_fits name h) (omega arith) (show_read name h)
request_back (request.Alloc facility tag) h =
    line_back 1 (request_data (request.Alloc facility tag)) (request.Alloc facility tag) (alloc_fits facility tag h.0 h.1) (omega arith) (alloc_read facility tag h.0 h.1)
request_back (request.Sub line) h = line_back 1 (request_data (request.Sub line)) (request.Sub line) (sub_fits line h.0 h.1) (omega arith) (sub_read line h.0)
request_back (request.Limit name most) h = line_back 1 (request_data (request.Limit name most)) (request.Limit name most) (limit_fits name most h.0 h.1) (omega arith) (limit_read name most h.0 h.1)
request_back (request.Boot line) h = line_back 2 (request_data (request.Boot line)) (request.Boot line) (boot_fits line h.0 h.1) (omega arith) (boot_read line h.0)
request_back (request.Report report) h = line_back 3 (request_data (request.Report report)) (request.Report report) (report_fits report h.0 h.1) (omega arith) (report_read report h.0 h.1)
request_back (request.Lock host lock) h = line_back 1 (request_data (request.Lock host lock)) (request.Lock host lock) (lock_fits host lock h) (omega arith) (lock_read host lock h)
request_back (request.Submit spec) h = line_back 5 (request_data (request.Submit spec)) (request.Submit spec) (submit_fits spec h) (omega arith) (submit_read spec h)
request_back (request.Depend spec) h = line_back 1 (request_data (request.Depend spec)) (request.Depend spec) (depend_fits spec h) (omega arith) (depend_read spec h)
request_back (request.Drop depend) h = line_back 1 (request_data (request.Drop depend)) (request.Drop depend) (drop_fits depend h) (omega arith) (drop_read depend h)
request_back (request.Pause job paused) h = line_back 1 (request_data (request.Pause job paused)) (request.Pause job paused) (pause_fits job h paused) (omega arith) (pause_read job h paused)
request_back (request.KillJob job) h = line_back 1 (request_data (request.KillJob job)) (request.KillJob job) (kill_job_fits job h) (omega arith) (kill_job_read job h)
request_back (request.KillFrame p) h =
    line_back 1 (request_data (request.KillFrame p)) (request.KillFrame p) (frame_fits p h.0 h.1 (codes "kill") (IsUtf8-are_ascii (codes "kill") refl)) (omega arith) (kill_frame_read p h.0 h.1)
request_back (request.EatFrame p) h =
    line_back 1 (request_data (request.EatFrame p)) (request.EatFrame p) (frame_fits p h.0 h.1 (codes "eat") (IsUtf8-are_ascii (codes "eat") refl)) (omega arith) (eat_read p h.0 h.1)
request_back (request.RetryFrame p) h =
    line_back 1 (request_data (request.RetryFrame p)) (request.RetryFrame p) (frame_fits p h.0 h.1 (codes "retry") (IsUtf8-are_ascii (codes "retry") refl)) (omega arith) (retry_read p h.0 h.1)
request_back request.Tick h = line_back 1 (request_data request.Tick) request.Tick tick_fits (omega arith) tick_read
request_back (request.List query) h = line_back 1 (request_data (request.List query)) (request.List query) (list_fits query h) (omega arith) (list_read query h)
