-- The life of RQD on a host: what it runs and has finished, what it awaits, and the lines that it sends.
use Rattle.std.specs.Prelude.{ℕ, ◌+◌, ◌==◌, Bool, not, List, [], ◌∷◌, ◌++◌, map, filter, sum_by, Option, None, Some, if◌then◌else◌}
use Rattle.std.specs.List.{list_any}
use Rattle.farm_types.specs.declared.attempt.Attempt.{Attempt}
use Rattle.farm_types.specs.declared.attempt.DoneItem.{DoneItem}
use Rattle.farm_types.specs.declared.attempt.Exit.{Exit}
use Rattle.farm_types.specs.declared.boot.BootLine.{BootLine}
use Rattle.farm_types.specs.Run.{is_same}
use Rattle.farm_lines.specs.declared.report.Report.{Report}
use Rattle.farm_lines.specs.declared.request.Request.{Request}
use Rattle.farm_lines.specs.declared.request.Request.TheVariants as request
use Rattle.farm_lines.specs.RequestText.{request_text}
use Rattle.rqd_core.specs.declared.config.RqdConfig.{RqdConfig}
use Rattle.rqd_core.specs.declared.limits.TheConstants.{LAST_SEQ}
use Rattle.rqd_core.specs.declared.running.Running.{Running}
use Rattle.rqd_core.specs.declared.sent_line.SentLine.{SentLine}
use Rattle.rqd_core.specs.declared.sent_line.SentLine.TheVariants as sent

-- One life. Attempts stand in both lists in the order in which they joined them. `boot` is there once a boot was answered. `seq` is what the next report's
-- number passes: the number of the last report, or a greater one that a refusal told. `awaited` is the latest line, as long as it has had no reply.
pub record Life : Type 0 where
  pub config : RqdConfig
  pub running : List Running
  pub finished : List DoneItem
  pub boot : Option ℕ
  pub seq : ℕ
  pub awaited : Option SentLine

-- a life that begins
abbrev pub new_life : RqdConfig → Life
new_life config = record { config = config; running = []; finished = []; boot = None; seq = 0; awaited = None }

abbrev pub attempts_of : List Running → List Attempt
attempts_of running = map (λ (r : Running). r.attempt) running

-- the cores (hundredths of a core) that attempts take
abbrev pub cores_of : List Running → ℕ
cores_of running = sum_by (λ (r : Running). r.cores) running

-- ---- the lines that it sends

-- The boot number of the next report. There is none where the next line is a boot line: before a boot was answered, and for ever once no greater sequence
-- number is left.
abbrev pub report_boot : Life → Option ℕ
report_boot l = if l.seq == LAST_SEQ then None else l.boot

abbrev pub boot_of : RqdConfig → BootLine
boot_of config = record { host = config.name; nonce = config.nonce; alloc = config.alloc; tags = []; cores = config.cores; memory = config.memory }

abbrev pub report_of : Life → ℕ → Report
report_of l boot = record { heard = record { host = l.config.name; boot = boot; seq = l.seq + 1; done = l.finished }; running = attempts_of l.running }

abbrev pub request_from : Life → Option ℕ → Request
request_from l None = request.Boot (boot_of l.config)
request_from l (Some boot) = request.Report (report_of l boot)

-- the text of its next line, without a newline
abbrev pub line_of : Life → List ℕ
line_of l = request_text (request_from l (report_boot l))

abbrev pub sent_with : Life → Option ℕ → Life
sent_with l None = record l { awaited = Some sent.Boot }
sent_with l (Some boot) = record l { seq = l.seq + 1; awaited = Some (sent.Report boot (l.seq + 1)) }

-- the life once that line is sent
abbrev pub after_line : Life → Life
after_line l = sent_with l (report_boot l)

-- ---- ends

-- whether the attempt is one of these
abbrev pub is_run : Attempt → List Running → Bool
is_run a running = list_any (λ (r : Running). is_same r.attempt a) running

abbrev pub without : Attempt → List Running → List Running
without a running = filter (λ (r : Running). not (is_same r.attempt a)) running

-- the life once a running attempt has ended: it moves to the end of the finished list
abbrev pub after_end : Life → Attempt → Exit → Life
after_end l a exit = record l { running = without a l.running; finished = l.finished ++ record { attempt = a; exit = exit; free = None } ∷ [] }
