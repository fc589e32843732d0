-- Worked examples over the farm of the demonstration.
use Rattle.std.specs.Prelude.{ℕ, ℤ, pos, List, [], ◌∷◌, codes, map, false, Option, option_map, None}
use Rattle.farm_types.specs.declared.attempt.Attempt.{Attempt}
use Rattle.farm_types.specs.declared.attempt.DoneItem.{DoneItem}
use Rattle.farm_types.specs.declared.dispatch.Candidate.{Candidate}
use Rattle.farm_types.specs.declared.job.JobSpec.{JobSpec}
use Rattle.farm_types.specs.declared.job.LayerSpec.{LayerSpec}
use Rattle.farm_lines.specs.declared.launch.Launch.{Launch}
use Rattle.farm_types.specs.declared.attempt.ProcRow.{ProcRow}
use Rattle.farm_types.specs.declared.boot.BootLine.{BootLine}
use Rattle.farm_types.specs.declared.entry.Entry.{Entry}
use Rattle.farm_types.specs.declared.dispatch.Cut.TheVariants as cut
use Rattle.farm_lines.specs.declared.report.Report.{Report}
use Rattle.farm_types.specs.declared.slot_row.Frame.{Frame}
use Rattle.farm_types.specs.declared.slot_row.SlotRow.{SlotRow}
use Rattle.farm_types.specs.declared.states.FrameState.{FrameState}
use Rattle.farm_types.specs.Farm.{Farm}
use Rattle.farm_types.specs.Demo.{demo_farm}
use Rattle.farm_types.specs.Dispatch.{plan_for, round_for}
use Rattle.farm_types.specs.Step.{after}
use Rattle.farm_types.specs.Run.{run_of}
use Rattle.farm_lines.specs.Reply.{launches_of, report_reply, reply_text}
use Rattle.farm_types.specs.declared.entry.Act.TheVariants as act
use Rattle.farm_lines.specs.Asked.{entry_at, heard_entry}

-- a report of the demonstration's host
abbrev pub report : ℕ → List Attempt → List DoneItem → Report
report seq running done = record { heard = record { host = codes "h1"; boot = 1; seq = seq; done = done }; running = running }

-- the farm after a report and its round
abbrev pub after_report : Farm → Report → Farm
after_report f r = run_of (after f (heard_entry r 0)) (round_for (after f (heard_entry r 0)) 0 0)

-- the farm's first three reports: the first finds ten frames waiting; in the second and the third the first frame's attempt is done
abbrev pub first : Report
first = report 1 [] []

abbrev pub attempt : ℕ → ℕ → Attempt
attempt slot version = record { slot = slot; version = version }

abbrev pub done : ℕ → ℕ → ℕ → DoneItem
done slot version status = record { attempt = attempt slot version; exit = record { status = status; signal = 0 }; free = None }

abbrev pub second : Report
second = report 2 (attempt 1 1 ∷ attempt 2 1 ∷ attempt 3 1 ∷ []) (done 0 1 0 ∷ [])

abbrev pub third : Report
third = report 3 (attempt 1 1 ∷ attempt 2 1 ∷ attempt 3 1 ∷ attempt 4 1 ∷ []) (done 0 1 0 ∷ [])

-- the farm before each of them, and after the last
abbrev pub farm_one : Farm
farm_one = demo_farm 0

abbrev pub farm_two : Farm
farm_two = after_report farm_one first

abbrev pub farm_three : Farm
farm_three = after_report farm_two second

abbrev pub farm_four : Farm
farm_four = after_report farm_three third

-- the slots that the reply to a report launches
abbrev pub launched_by : Farm → Report → List ℕ
launched_by f r = map (λ (l : Launch). l.attempt.slot) (launches_of (after_report f r) 0 r)

-- versions by slot
abbrev pub versions_in : Farm → List ℕ
versions_in f = map (λ (s : SlotRow). s.version) f.slots

-- A frame's first attempt exits with status 286, and the same report's round books its second. Then a report says once more that the first
-- is done.
abbrev pub requeued : Report
requeued = report 2 (attempt 1 1 ∷ attempt 2 1 ∷ attempt 3 1 ∷ []) (done 0 1 286 ∷ [])

abbrev pub late_again : Report
late_again = report 3 (attempt 0 2 ∷ attempt 1 1 ∷ attempt 2 1 ∷ attempt 3 1 ∷ []) (done 0 1 0 ∷ [])

-- the text of the reply to a report, where memory lasts
abbrev pub text_for : Farm → Report → List ℕ
text_for f r = reply_text (report_reply (after_report f r) 0 r cut.Whole)

-- ---- a job more

-- three frames, the highest number first, at a higher priority than the demonstration's job
abbrev pub high_layer : LayerSpec
high_layer =
    record {
      name = codes "x";
      range = codes "3-1";
      numbers = pos 3 ∷ pos 2 ∷ pos 1 ∷ [];
      command = codes "echo #FRAME#";
      cores = 100;
      memory = 3355443;
      tags = codes "general" ∷ [];
      limit = [];
    }

abbrev pub high : JobSpec
high =
    record {
      name = codes "hi";
      show = codes "demo";
      facility = codes "farm";
      shot = [];
      user = [];
      priority = 200;
      max_retries = 3;
      auto_eat = false;
      paused = false;
      layers = high_layer ∷ [];
      depends = [];
    }

-- the entry that submits a job
abbrev pub submit : JobSpec → Entry
submit spec = entry_at 0 (act.Submit spec)

abbrev pub farm_with_high : Farm
farm_with_high = after farm_one (submit high)

-- the slots that the first report is offered, in the order of dispatch
abbrev pub offered_by : Farm → Report → List ℕ
offered_by f r = map (λ (c : Candidate). c.slot) (plan_for (after f (heard_entry r 0)) 0)

-- the numbers of the frames, by slot
abbrev pub numbers_in : Farm → List (Option ℤ)
numbers_in f = map (λ (s : SlotRow). option_map (λ (x : Frame). x.number) s.frame) f.slots

-- ---- silent hosts and new lives

-- time is seen to have passed
abbrev pub tick : ℕ → Entry
tick moment = entry_at moment act.Tick

-- the demonstration's host boots, with a nonce
abbrev pub boot_line : ℕ → BootLine
boot_line nonce = record { host = codes "h1"; nonce = nonce; alloc = codes "farm.general"; tags = []; cores = 50; memory = 262144 }

abbrev pub boot : ℕ → ℕ → Entry
boot nonce moment = entry_at moment (act.Boot (boot_line nonce))

-- the hosts of the live attempts, by slot
abbrev pub live_in : Farm → List (Option ℕ)
live_in f = map (λ (s : SlotRow). option_map (λ (p : ProcRow). p.host) s.proc) f.slots

-- the states of the frames, by slot
abbrev pub states_in : Farm → List (Option FrameState)
states_in f = map (λ (s : SlotRow). option_map (λ (x : Frame). x.state) s.frame) f.slots
