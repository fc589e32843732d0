-- What is replied to lines, and the replies as JSON values with their keys in byte order.
use Rattle.std.specs.Prelude.{ℕ, ◌==◌, ◌&&◌, ◌||◌, ◌++◌, ◌∷◌, List, [], map, take, filter, filter_map, codes, Bool, true, false, not, Option, None, option_map, option_and_then, if◌then◌else◌}
use Rattle.std.specs.List.{list_any}
use Rattle.serde_json.specs.Data.{Data, boolean, string, array, object, no_members, member}
use Rattle.serde_json.specs.View.{items_of}
use Rattle.serde_json.specs.Written.{compact_text}
use Rattle.frame_range.specs.declared.fault.RangeFault.{RangeFault}
use Rattle.frame_range.specs.declared.fault.RangeFault.TheVariants as range_fault
use Rattle.farm_types.specs.declared.attempt.Attempt.{Attempt}
use Rattle.farm_types.specs.declared.attempt.DoneItem.{DoneItem}
use Rattle.farm_types.specs.declared.attempt.ProcRow.{ProcRow}
use Rattle.farm_types.specs.declared.answer.Answer.{Answer}
use Rattle.farm_types.specs.declared.answer.Answer.TheVariants as answer
use Rattle.farm_types.specs.declared.entry.Act.{Act}
use Rattle.farm_types.specs.declared.entry.Act.TheVariants as act
use Rattle.state_names.specs.Words.{counted_word, cut_word, state_word}
use Rattle.farm_lines.specs.declared.launch.Launch.{Launch}
use Rattle.farm_types.specs.declared.refusal.Refusal.{Refusal}
use Rattle.farm_types.specs.declared.refusal.Refusal.TheVariants.{Unknown, Finished, Exists, WrongBoot, Stale, FarmFull, Satisfied, WrongState, VersionSpent, SelfDepend, Started, Full}
use Rattle.farm_types.specs.declared.dispatch.Cut.{Cut}
use Rattle.farm_lines.specs.declared.reply.Reply.{Reply}
use Rattle.farm_lines.specs.declared.reply.Reply.TheVariants as reply
use Rattle.farm_lines.specs.declared.report.Report.{Report}
use Rattle.farm_types.specs.declared.rows.JobRow.{JobRow}
use Rattle.farm_types.specs.declared.rows.LayerRow.{LayerRow}
use Rattle.farm_types.specs.declared.slot_row.Frame.{Frame}
use Rattle.farm_types.specs.declared.slot_row.SlotRow.{SlotRow}
use Rattle.farm_types.specs.Farm.{Farm, job_at, layer_at}
use Rattle.farm_types.specs.Names.{frame_name, expanded}
use Rattle.farm_lines.specs.Request.{RequestError, BadLine, BadRange, BadAmount}
use Rattle.farm_types.specs.Run.{is_same}
use Rattle.farm_types.specs.Step.{is_live}
use Rattle.farm_lines.specs.ListReplies.{list_data}
use Rattle.farm_lines.specs.Words.{whole}
use Rattle.farm_lines.specs.declared.limits.TheConstants.{LAUNCHES_EACH}

-- ---- refusals

-- the first row of the store at fault, by its kind and id
unfoldable pub bad_store : ℕ → ℕ → Data
bad_store kind id =
    object (member (codes "id") (whole id) (member (codes "kind") (whole kind) (member (codes "ok") (boolean false) (member (codes "why") (string (codes "bad_store")) no_members))))

abbrev pub bad_store_line : ℕ → ℕ → List ℕ
bad_store_line kind id = compact_text (bad_store kind id) ++ 10 ∷ []

-- a refusal without keys of its own
unfoldable pub store_fault : Data
store_fault = object (member (codes "code") (whole 15) (member (codes "ok") (boolean false) (member (codes "why") (string (codes "store")) no_members)))

unfoldable pub no_memory : Data
no_memory = object (member (codes "code") (whole 16) (member (codes "ok") (boolean false) (member (codes "why") (string (codes "memory")) no_members)))

unfoldable pub bad_line : List ℕ → Data
bad_line field =
    object (member (codes "code") (whole 1) (member (codes "field") (string field) (member (codes "ok") (boolean false) (member (codes "why") (string (codes "bad_line")) no_members))))

unfoldable pub too_long : Data
too_long = object (member (codes "code") (whole 2) (member (codes "ok") (boolean false) (member (codes "why") (string (codes "too_long")) no_members)))

-- the word for a range's fault, and the place of its section; out of memory is no fault of a range
abbrev pub fault_word : RangeFault → List ℕ
fault_word (range_fault.Syntax section) = codes "syntax"
fault_word (range_fault.OutOfRange section) = codes "out_of_range"
fault_word (range_fault.ZeroStep section) = codes "zero_step"
fault_word (range_fault.WrongWay section) = codes "wrong_way"
fault_word (range_fault.Empty section) = codes "empty"
fault_word (range_fault.TooMany section) = codes "too_many"
fault_word range_fault.NoMemory = []

abbrev pub section_of : RangeFault → ℕ
section_of (range_fault.Syntax section) = section
section_of (range_fault.OutOfRange section) = section
section_of (range_fault.ZeroStep section) = section
section_of (range_fault.WrongWay section) = section
section_of (range_fault.Empty section) = section
section_of (range_fault.TooMany section) = section
section_of range_fault.NoMemory = 0

unfoldable pub bad_range : List ℕ → RangeFault → Data
bad_range layer fault =
    object (member (codes "code") (whole 7) (member (codes "fault") (string (fault_word fault)) (member (codes "layer") (string layer)
    (member (codes "ok") (boolean false) (member (codes "section") (whole (section_of fault)) (member (codes "why") (string (codes "bad_range")) no_members))))))

unfoldable pub bad_amount : List ℕ → Data
bad_amount field =
    object (member (codes "code") (whole 8) (member (codes "field") (string field) (member (codes "ok") (boolean false) (member (codes "why") (string (codes "bad_amount")) no_members))))

-- a malformed line
abbrev pub error_reply : RequestError → Reply
error_reply (BadLine field) = reply.BadLine field
error_reply (BadRange layer fault) = reply.BadRange layer fault
error_reply (BadAmount field) = reply.BadAmount field

unfoldable pub refusal_data : Refusal → Data
refusal_data (Unknown name) =
    object (member (codes "code") (whole 3) (member (codes "name") (string name) (member (codes "ok") (boolean false) (member (codes "why") (string (codes "unknown")) no_members))))
refusal_data (Exists name) =
    object (member (codes "code") (whole 4) (member (codes "name") (string name) (member (codes "ok") (boolean false) (member (codes "why") (string (codes "exists")) no_members))))
refusal_data (Finished name) =
    object (member (codes "code") (whole 10) (member (codes "name") (string name) (member (codes "ok") (boolean false) (member (codes "why") (string (codes "finished")) no_members))))
refusal_data (WrongBoot boot) =
    object (member (codes "boot") (whole boot) (member (codes "code") (whole 5) (member (codes "ok") (boolean false) (member (codes "why") (string (codes "wrong_boot")) no_members))))
refusal_data (Stale last) =
    object (member (codes "code") (whole 6) (member (codes "last") (whole last) (member (codes "ok") (boolean false) (member (codes "why") (string (codes "stale")) no_members))))
refusal_data (FarmFull free) =
    object (member (codes "code") (whole 9) (member (codes "free") (whole free) (member (codes "ok") (boolean false) (member (codes "why") (string (codes "farm_full")) no_members))))
refusal_data Satisfied =
    object (member (codes "code") (whole 11) (member (codes "ok") (boolean false) (member (codes "state") (string (codes "SATISFIED")) (member (codes "why") (string (codes "wrong_state")) no_members))))
refusal_data (WrongState state) =
    object (member (codes "code") (whole 11) (member (codes "ok") (boolean false) (member (codes "state") (string (state_word state)) (member (codes "why") (string (codes "wrong_state")) no_members))))
refusal_data (VersionSpent frame) =
    object (member (codes "code") (whole 14) (member (codes "frame") (string frame) (member (codes "ok") (boolean false) (member (codes "why") (string (codes "version_spent")) no_members))))
refusal_data (SelfDepend frame) =
    object (member (codes "code") (whole 12) (member (codes "frame") (string frame) (member (codes "ok") (boolean false) (member (codes "why") (string (codes "self_depend")) no_members))))
refusal_data (Started frame) =
    object (member (codes "code") (whole 17) (member (codes "frame") (string frame) (member (codes "ok") (boolean false) (member (codes "why") (string (codes "started")) no_members))))
refusal_data (Full limit what) =
    object (member (codes "code") (whole 18) (member (codes "limit") (whole limit) (member (codes "ok") (boolean false) (member (codes "what") (string (counted_word what))
    (member (codes "why") (string (codes "full")) no_members)))))

-- a boot with other cores or memory, while some of the old amounts is held: what is free of them
unfoldable pub still_held : ℕ → ℕ → Data
still_held cores memory =
    object (member (codes "code") (whole 13) (member (codes "cores") (whole cores) (member (codes "memory") (whole memory) (member (codes "ok") (boolean false)
    (member (codes "why") (string (codes "still_held")) no_members)))))

-- how many entries can be numbered
abbrev pub most_entries : ℕ
most_entries = 18446744073709551615

unfoldable pub entries_full : Data
entries_full =
    object (member (codes "code") (whole 18) (member (codes "limit") (whole most_entries) (member (codes "ok") (boolean false) (member (codes "what") (string (codes "entries"))
    (member (codes "why") (string (codes "full")) no_members)))))

-- ---- the reply to a submit

unfoldable pub submit_data : ℕ → List ℕ → Data
submit_data frames job = object (member (codes "frames") (whole frames) (member (codes "job") (string job) (member (codes "ok") (boolean true) no_members)))

-- ---- the replies to other requests that are taken

unfoldable pub done_data : Data
done_data = object (member (codes "ok") (boolean true) no_members)

unfoldable pub sub_data : ℕ → ℕ → ℕ → Data
sub_data booked burst size =
    object (member (codes "booked") (whole booked) (member (codes "burst") (whole burst) (member (codes "ok") (boolean true) (member (codes "size") (whole size) no_members))))

unfoldable pub limit_data : ℕ → ℕ → Data
limit_data most running = object (member (codes "most") (whole most) (member (codes "ok") (boolean true) (member (codes "running") (whole running) no_members)))

unfoldable pub boot_data : ℕ → ℕ → Data
boot_data boot nonce = object (member (codes "boot") (whole boot) (member (codes "nonce") (whole nonce) (member (codes "ok") (boolean true) no_members)))

unfoldable pub depend_data : ℕ → ℕ → Data
depend_data depend unmet = object (member (codes "depend") (whole depend) (member (codes "ok") (boolean true) (member (codes "unmet") (whole unmet) no_members)))

unfoldable pub dropped_data : ℕ → Data
dropped_data opened = object (member (codes "ok") (boolean true) (member (codes "opened") (whole opened) no_members))

unfoldable pub ended_data : ℕ → Data
ended_data ended = object (member (codes "ended") (whole ended) (member (codes "ok") (boolean true) no_members))

unfoldable pub tick_data : ℕ → ℕ → Data
tick_data down lost = object (member (codes "down") (whole down) (member (codes "lost") (whole lost) (member (codes "ok") (boolean true) no_members)))

-- the name of the job that is submitted
abbrev pub job_named : Act → List ℕ
job_named (act.Submit spec) = spec.name
job_named other = []

-- the reply to a request but a report, by what the farm answers to its entry
abbrev pub ok_reply : Act → Answer → Reply
ok_reply entry (answer.Sub booked burst size) = reply.Sub booked burst size
ok_reply entry (answer.Limit most running) = reply.Limit most running
ok_reply entry (answer.Boot boot nonce) = reply.Boot boot nonce
ok_reply entry (answer.Submitted frames) = reply.Submitted frames (job_named entry)
ok_reply entry (answer.DependAdded depend unmet) = reply.Depend depend unmet
ok_reply entry (answer.DependDropped opened) = reply.Dropped opened
ok_reply entry (answer.Ended ended) = reply.Ended ended
ok_reply entry (answer.Tick down lost) = reply.Tick down lost
ok_reply entry other = reply.Done

-- ---- a report's reply

-- the attempts that are done
abbrev pub acks_of : List DoneItem → List Attempt
acks_of done = map (λ (d : DoneItem). d.attempt) done

-- the attempts of these that run, and that aren't live on this host and boot
abbrev pub kills_of : Farm → ℕ → ℕ → List Attempt → List Attempt
kills_of f host boot running = filter (λ a. not (is_live f host boot a.slot a.version)) running

-- whether the report lists the attempt as running or as done
abbrev pub is_listed : Report → Attempt → Bool
is_listed report a = list_any (is_same a) report.running || list_any (λ (d : DoneItem). is_same a d.attempt) report.heard.done

-- whether the live attempt is on this host and boot and the report doesn't list it
abbrev pub is_due : ℕ → Report → ProcRow → Bool
is_due host report p = p.host == host && p.boot == report.heard.boot && not (is_listed report (record { slot = p.slot; version = p.version }))

abbrev pub launch_for : ProcRow → Frame → JobRow → LayerRow → Launch
launch_for p frame job layer =
    record {
      attempt = record { slot = p.slot; version = p.version };
      command = expanded layer.command job.name layer.name frame.number;
      cores = p.cores;
      frame = frame_name frame.number layer.name;
      job = job.name;
      layer = layer.name;
      memory = p.memory;
    }

-- the launch of a slot's live attempt
abbrev pub launch_of : Farm → SlotRow → ProcRow → Option Launch
launch_of f s p =
    option_and_then (λ frame. option_and_then (λ job. option_map (λ layer. launch_for p frame job layer) (layer_at f frame.job frame.layer)) (job_at f frame.job)) s.frame

-- that launch, where it is due
abbrev pub due_in : Farm → ℕ → Report → SlotRow → Option Launch
due_in f host report s = option_and_then (λ p. if is_due host report p then launch_of f s p else None) s.proc

-- by slot, the live attempts on this host and boot that the report doesn't list
abbrev pub launches_of : Farm → ℕ → Report → List Launch
launches_of f host report = take LAUNCHES_EACH (filter_map (due_in f host report) f.slots)

unfoldable pub attempt_data : Attempt → Data
attempt_data a = object (member (codes "slot") (whole a.slot) (member (codes "version") (whole a.version) no_members))

unfoldable pub launch_data : Launch → Data
launch_data l =
    object (member (codes "command") (string l.command) (member (codes "cores") (whole l.cores) (member (codes "frame") (string l.frame) (member (codes "job") (string l.job)
    (member (codes "layer") (string l.layer) (member (codes "memory") (whole l.memory) (member (codes "slot") (whole l.attempt.slot) (member (codes "version") (whole l.attempt.version) no_members))))))))

abbrev pub attempts_data : List Attempt → Data
attempts_data attempts = array (items_of (map attempt_data attempts))

abbrev pub launches_data : List Launch → Data
launches_data launches = array (items_of (map launch_data launches))

unfoldable pub report_data : ℕ → ℕ → List ℕ → List Attempt → List Attempt → List Launch → Data
report_data boot seq cut acks kills launches =
    object (member (codes "acks") (attempts_data acks) (member (codes "boot") (whole boot) (member (codes "cut") (string cut) (member (codes "kills") (attempts_data kills)
    (member (codes "launches") (launches_data launches) (member (codes "ok") (boolean true) (member (codes "seq") (whole seq) no_members)))))))

-- The reply to a report, over the live attempts of this farm. `ended` says what ended the round.
abbrev pub report_reply : Farm → ℕ → Report → Cut → Reply
report_reply f host report ended =
    reply.Report (record {
      acks = acks_of report.heard.done;
      boot = report.heard.boot;
      cut = ended;
      kills = kills_of f host report.heard.boot report.running;
      launches = launches_of f host report;
      seq = report.heard.seq;
    })

-- ---- every reply

abbrev pub reply_data : Reply → Data
reply_data reply.Done = done_data
reply_data (reply.Sub booked burst size) = sub_data booked burst size
reply_data (reply.Limit most running) = limit_data most running
reply_data (reply.Boot boot nonce) = boot_data boot nonce
reply_data (reply.Tick down lost) = tick_data down lost
reply_data (reply.Submitted frames job) = submit_data frames job
reply_data (reply.Depend depend unmet) = depend_data depend unmet
reply_data (reply.Dropped opened) = dropped_data opened
reply_data (reply.Ended ended) = ended_data ended
reply_data (reply.Report r) = report_data r.boot r.seq (cut_word r.cut) r.acks r.kills r.launches
reply_data (reply.List r) = list_data r.rows r.total
reply_data (reply.BadLine field) = bad_line field
reply_data reply.TooLong = too_long
reply_data (reply.BadRange layer fault) = bad_range layer fault
reply_data (reply.BadAmount field) = bad_amount field
reply_data (reply.Refused why) = refusal_data why
reply_data (reply.StillHeld cores memory) = still_held cores memory
reply_data reply.EntriesFull = entries_full
reply_data reply.Store = store_fault
reply_data reply.NoMemory = no_memory

-- the text of a reply
abbrev pub reply_text : Reply → List ℕ
reply_text r = compact_text (reply_data r)
