-- Which reply a line is: its keys, kinds and limits are exactly those of one kind of reply. White space, the order of keys and the spelling of texts
-- are free.
use Rattle.std.specs.Prelude.{ℕ, List, [], ◌∷◌, codes, bytes_eq, length, nat_le, Bool, true, false, Option, None, Some, option_and_then, Result, Ok, Err, if◌then◌else◌}
use Rattle.serde_json.specs.Data.{Members}
use Rattle.cue_json.specs.Fields.{Fault, WrongKind, ◌>>=◌, of_kind, flag_at, has_key, others_at, text_at, whole_at}
use Rattle.cue_json.specs.Items.{list_of}
use Rattle.cue_json.specs.Lines.{object_in}
use Rattle.frame_range.specs.declared.fault.RangeFault.{RangeFault}
use Rattle.frame_range.specs.declared.fault.RangeFault.TheVariants as range_fault
use Rattle.farm_types.specs.declared.refusal.Counted.{Counted}
use Rattle.farm_types.specs.declared.refusal.Counted.TheVariants as counted
use Rattle.farm_types.specs.declared.refusal.Refusal.TheVariants.{Unknown, Finished, Exists, WrongBoot, Stale, FarmFull, Satisfied, WrongState, VersionSpent, SelfDepend, Started, Full}
use Rattle.farm_types.specs.declared.limits.TheConstants.{LAST_BOOT, LAST_DEPEND, LAST_JOB, LAST_SLOT, LAST_VERSION, LEAST_CORES, LEAST_MEMORY, MOST_ALLOCS, MOST_BURST, MOST_CORES, MOST_DEPENDS, MOST_FRAMES, MOST_GROUPS, MOST_HOSTS, MOST_LIMITS, MOST_MEMORY, MOST_RANGE, MOST_RUNNING, MOST_SHOWS, SLOT_LIMIT}
use Rattle.state_names.specs.Words.{counted_of, cut_of, state_of, word_at}
use Rattle.farm_lines.specs.declared.launch.Launch.{Launch}
use Rattle.farm_lines.specs.declared.limits.TheConstants.{LAUNCHES_EACH, MOST_BOOKED, ROWS_EACH}
use Rattle.farm_lines.specs.declared.reply.Reply.{Reply}
use Rattle.farm_lines.specs.declared.reply.Reply.TheVariants as reply
use Rattle.farm_lines.specs.Fields.{name_at}
use Rattle.farm_lines.specs.Reply.{most_entries}
use Rattle.farm_lines.specs.ReplyRows.{rows_at}
use Rattle.farm_lines.specs.Request.{attempt_at}

-- a list that isn't longer than so many items, else it is of another kind
abbrev pub at_most : {X : Type 0} → ℕ → List ℕ → List X → Result (List X) Fault
at_most most field xs = if nat_le (length xs) most then Ok xs else Err (WrongKind field)

-- ---- ok replies

abbrev pub done_keys : List (List ℕ)
done_keys = codes "ok" ∷ []

unfoldable pub done_reply : Members → Result Reply Fault
done_reply ms = others_at done_keys ms >>= λ none. Ok reply.Done

abbrev pub sub_keys : List (List ℕ)
sub_keys = codes "booked" ∷ codes "burst" ∷ codes "ok" ∷ codes "size" ∷ []

unfoldable pub sub_reply : Members → Result Reply Fault
sub_reply ms =
    whole_at (codes "booked") 0 MOST_BOOKED ms >>= λ booked. whole_at (codes "burst") 0 MOST_BURST ms >>= λ burst. whole_at (codes "size") 0 MOST_BURST ms >>= λ size.
    others_at sub_keys ms >>= λ none. Ok (reply.Sub booked burst size)

abbrev pub limit_keys : List (List ℕ)
limit_keys = codes "most" ∷ codes "ok" ∷ codes "running" ∷ []

unfoldable pub limit_reply : Members → Result Reply Fault
limit_reply ms =
    whole_at (codes "most") 0 MOST_RUNNING ms >>= λ most. whole_at (codes "running") 0 SLOT_LIMIT ms >>= λ running. others_at limit_keys ms >>= λ none.
    Ok (reply.Limit most running)

abbrev pub boot_keys : List (List ℕ)
boot_keys = codes "boot" ∷ codes "nonce" ∷ codes "ok" ∷ []

unfoldable pub boot_reply : Members → Result Reply Fault
boot_reply ms =
    whole_at (codes "boot") 1 LAST_BOOT ms >>= λ boot. whole_at (codes "nonce") 0 18446744073709551615 ms >>= λ nonce. others_at boot_keys ms >>= λ none.
    Ok (reply.Boot boot nonce)

abbrev pub tick_keys : List (List ℕ)
tick_keys = codes "down" ∷ codes "lost" ∷ codes "ok" ∷ []

unfoldable pub tick_reply : Members → Result Reply Fault
tick_reply ms =
    whole_at (codes "down") 0 MOST_HOSTS ms >>= λ down. whole_at (codes "lost") 0 SLOT_LIMIT ms >>= λ lost. others_at tick_keys ms >>= λ none. Ok (reply.Tick down lost)

abbrev pub submit_keys : List (List ℕ)
submit_keys = codes "frames" ∷ codes "job" ∷ codes "ok" ∷ []

unfoldable pub submit_reply : Members → Result Reply Fault
submit_reply ms =
    whole_at (codes "frames") 1 MOST_FRAMES ms >>= λ frames. name_at (codes "job") ms >>= λ job. others_at submit_keys ms >>= λ none. Ok (reply.Submitted frames job)

abbrev pub depend_keys : List (List ℕ)
depend_keys = codes "depend" ∷ codes "ok" ∷ codes "unmet" ∷ []

unfoldable pub depend_reply : Members → Result Reply Fault
depend_reply ms =
    whole_at (codes "depend") 1 LAST_DEPEND ms >>= λ depend. whole_at (codes "unmet") 0 SLOT_LIMIT ms >>= λ unmet. others_at depend_keys ms >>= λ none.
    Ok (reply.Depend depend unmet)

abbrev pub drop_keys : List (List ℕ)
drop_keys = codes "ok" ∷ codes "opened" ∷ []

unfoldable pub drop_reply : Members → Result Reply Fault
drop_reply ms = whole_at (codes "opened") 0 SLOT_LIMIT ms >>= λ opened. others_at drop_keys ms >>= λ none. Ok (reply.Dropped opened)

abbrev pub ended_keys : List (List ℕ)
ended_keys = codes "ended" ∷ codes "ok" ∷ []

unfoldable pub ended_reply : Members → Result Reply Fault
ended_reply ms = whole_at (codes "ended") 0 SLOT_LIMIT ms >>= λ ended. others_at ended_keys ms >>= λ none. Ok (reply.Ended ended)

abbrev pub launch_keys : List (List ℕ)
launch_keys =
    codes "command" ∷ codes "cores" ∷ codes "frame" ∷ codes "job" ∷ codes "layer" ∷ codes "memory" ∷ codes "slot" ∷ codes "version" ∷ []

unfoldable pub launch_at : Members → Result Launch Fault
launch_at ms =
    text_at (codes "command") ms >>= λ command. whole_at (codes "cores") LEAST_CORES MOST_CORES ms >>= λ cores. text_at (codes "frame") ms >>= λ frame.
    name_at (codes "job") ms >>= λ job. name_at (codes "layer") ms >>= λ layer. whole_at (codes "memory") LEAST_MEMORY MOST_MEMORY ms >>= λ memory.
    whole_at (codes "slot") 0 LAST_SLOT ms >>= λ slot. whole_at (codes "version") 0 LAST_VERSION ms >>= λ version. others_at launch_keys ms >>= λ none.
    Ok (record { attempt = record { slot = slot; version = version }; command = command; cores = cores; frame = frame; job = job; layer = layer; memory = memory })

abbrev pub report_keys : List (List ℕ)
report_keys = codes "acks" ∷ codes "boot" ∷ codes "cut" ∷ codes "kills" ∷ codes "launches" ∷ codes "ok" ∷ codes "seq" ∷ []

unfoldable pub report_reply_at : Members → Result Reply Fault
report_reply_at ms =
    list_of (codes "acks") attempt_at ms >>= λ acks. whole_at (codes "boot") 1 LAST_BOOT ms >>= λ boot. word_at cut_of (codes "cut") ms >>= λ ended.
    list_of (codes "kills") attempt_at ms >>= λ kills. list_of (codes "launches") launch_at ms >>= at_most LAUNCHES_EACH (codes "launches") >>= λ launches.
    whole_at (codes "seq") 1 18446744073709551615 ms >>= λ seq. others_at report_keys ms >>= λ none.
    Ok (reply.Report (record { acks = acks; boot = boot; cut = ended; kills = kills; launches = launches; seq = seq }))

abbrev pub list_keys : List (List ℕ)
list_keys = codes "ok" ∷ codes "rows" ∷ codes "total" ∷ []

-- a list: at most 1,000 rows, all with the keys of the first
unfoldable pub list_reply_at : Members → Result Reply Fault
list_reply_at ms =
    rows_at ms >>= at_most ROWS_EACH (codes "rows") >>= λ rows. whole_at (codes "total") 0 18446744073709551615 ms >>= λ total. others_at list_keys ms >>= λ none.
    Ok (reply.List (record { rows = rows; total = total }))

-- by a key that no other ok reply has
abbrev pub ok_at : Members → Result Reply Fault
ok_at ms =
    if has_key (codes "acks") ms then report_reply_at ms
    else (if has_key (codes "rows") ms then list_reply_at ms
    else (if has_key (codes "booked") ms then sub_reply ms
    else (if has_key (codes "most") ms then limit_reply ms
    else (if has_key (codes "nonce") ms then boot_reply ms
    else (if has_key (codes "down") ms then tick_reply ms
    else (if has_key (codes "frames") ms then submit_reply ms
    else (if has_key (codes "unmet") ms then depend_reply ms
    else (if has_key (codes "opened") ms then drop_reply ms
    else (if has_key (codes "ended") ms then ended_reply ms
    else done_reply ms)))))))))

-- ---- refusals

-- the code of a refusal is this one
abbrev pub code_at : ℕ → Members → Result ℕ Fault
code_at code ms = whole_at (codes "code") code code ms

-- a refusal without keys of its own
abbrev pub plain_keys : List (List ℕ)
plain_keys = codes "code" ∷ codes "ok" ∷ codes "why" ∷ []

abbrev pub plain_refusal : ℕ → Reply → Members → Result Reply Fault
plain_refusal code why ms = code_at code ms >>= λ is. others_at plain_keys ms >>= λ none. Ok why

-- a refusal with one key of its own
abbrev pub keyed_refusal : {X : Type 0} → ℕ → List (List ℕ) → (Members → Result X Fault) → (X → Reply) → Members → Result Reply Fault
keyed_refusal code keys read told ms = code_at code ms >>= λ is. read ms >>= λ x. others_at keys ms >>= λ none. Ok (told x)

abbrev pub field_keys : List (List ℕ)
field_keys = codes "code" ∷ codes "field" ∷ codes "ok" ∷ codes "why" ∷ []

abbrev pub name_keys : List (List ℕ)
name_keys = codes "code" ∷ codes "name" ∷ codes "ok" ∷ codes "why" ∷ []

abbrev pub boot_refusal_keys : List (List ℕ)
boot_refusal_keys = codes "boot" ∷ codes "code" ∷ codes "ok" ∷ codes "why" ∷ []

abbrev pub last_keys : List (List ℕ)
last_keys = codes "code" ∷ codes "last" ∷ codes "ok" ∷ codes "why" ∷ []

abbrev pub free_keys : List (List ℕ)
free_keys = codes "code" ∷ codes "free" ∷ codes "ok" ∷ codes "why" ∷ []

abbrev pub state_keys : List (List ℕ)
state_keys = codes "code" ∷ codes "ok" ∷ codes "state" ∷ codes "why" ∷ []

abbrev pub frame_keys : List (List ℕ)
frame_keys = codes "code" ∷ codes "frame" ∷ codes "ok" ∷ codes "why" ∷ []

-- the fault of a range that a word and a section say
abbrev pub range_fault_of : ℕ → List ℕ → Option RangeFault
range_fault_of section word =
    if bytes_eq word (codes "syntax") then Some (range_fault.Syntax section)
    else (if bytes_eq word (codes "out_of_range") then Some (range_fault.OutOfRange section)
    else (if bytes_eq word (codes "zero_step") then Some (range_fault.ZeroStep section)
    else (if bytes_eq word (codes "wrong_way") then Some (range_fault.WrongWay section)
    else (if bytes_eq word (codes "empty") then Some (range_fault.Empty section)
    else (if bytes_eq word (codes "too_many") then Some (range_fault.TooMany section)
    else None)))))

abbrev pub range_refusal_keys : List (List ℕ)
range_refusal_keys = codes "code" ∷ codes "fault" ∷ codes "layer" ∷ codes "ok" ∷ codes "section" ∷ codes "why" ∷ []

unfoldable pub bad_range_at : Members → Result Reply Fault
bad_range_at ms =
    code_at 7 ms >>= λ is. name_at (codes "layer") ms >>= λ layer. whole_at (codes "section") 1 MOST_RANGE ms >>= λ section.
    word_at (range_fault_of section) (codes "fault") ms >>= λ fault. others_at range_refusal_keys ms >>= λ none. Ok (reply.BadRange layer fault)

-- the state of a frame, or that a depend is satisfied
abbrev pub wrong_state_of : List ℕ → Option Reply
wrong_state_of word =
    if bytes_eq word (codes "SATISFIED") then Some (reply.Refused Satisfied)
    else option_and_then (λ state. Some (reply.Refused (WrongState state))) (state_of word)

abbrev pub held_keys : List (List ℕ)
held_keys = codes "code" ∷ codes "cores" ∷ codes "memory" ∷ codes "ok" ∷ codes "why" ∷ []

unfoldable pub still_held_at : Members → Result Reply Fault
still_held_at ms =
    code_at 13 ms >>= λ is. whole_at (codes "cores") 0 MOST_CORES ms >>= λ cores. whole_at (codes "memory") 0 MOST_MEMORY ms >>= λ memory. others_at held_keys ms >>= λ none.
    Ok (reply.StillHeld cores memory)

-- what is counted, and its limit
abbrev pub limit_of : Counted → ℕ
limit_of counted.Shows = MOST_SHOWS
limit_of counted.Allocs = MOST_ALLOCS
limit_of counted.Limits = MOST_LIMITS
limit_of counted.Hosts = MOST_HOSTS
limit_of counted.Boots = LAST_BOOT
limit_of counted.Jobs = LAST_JOB
limit_of counted.Depends = MOST_DEPENDS
limit_of counted.Groups = MOST_GROUPS
limit_of counted.DependNumbers = LAST_DEPEND

abbrev pub full_keys : List (List ℕ)
full_keys = codes "code" ∷ codes "limit" ∷ codes "ok" ∷ codes "what" ∷ codes "why" ∷ []

-- a full count, with its limit
unfoldable pub full_at : Members → Counted → Result Reply Fault
full_at ms what = whole_at (codes "limit") (limit_of what) (limit_of what) ms >>= λ limit. others_at full_keys ms >>= λ none. Ok (reply.Refused (Full limit what))

unfoldable pub entries_full_at : Members → Result Reply Fault
entries_full_at ms = whole_at (codes "limit") most_entries most_entries ms >>= λ limit. others_at full_keys ms >>= λ none. Ok reply.EntriesFull

abbrev pub full_of : Members → List ℕ → Result Reply Fault
full_of ms word = if bytes_eq word (codes "entries") then entries_full_at ms else of_kind (codes "what") (counted_of word) >>= full_at ms

unfoldable pub full_reply : Members → Result Reply Fault
full_reply ms = code_at 18 ms >>= λ is. text_at (codes "what") ms >>= full_of ms

abbrev pub seq_at : Members → Result ℕ Fault
seq_at ms = whole_at (codes "last") 1 18446744073709551615 ms

-- the refusal that `why` names
abbrev pub by_why : Members → List ℕ → Result Reply Fault
by_why ms why =
    if bytes_eq why (codes "bad_line") then keyed_refusal 1 field_keys (text_at (codes "field")) reply.BadLine ms
    else (if bytes_eq why (codes "too_long") then plain_refusal 2 reply.TooLong ms
    else (if bytes_eq why (codes "unknown") then keyed_refusal 3 name_keys (text_at (codes "name")) (λ name. reply.Refused (Unknown name)) ms
    else (if bytes_eq why (codes "exists") then keyed_refusal 4 name_keys (name_at (codes "name")) (λ name. reply.Refused (Exists name)) ms
    else (if bytes_eq why (codes "wrong_boot") then keyed_refusal 5 boot_refusal_keys (whole_at (codes "boot") 1 LAST_BOOT) (λ boot. reply.Refused (WrongBoot boot)) ms
    else (if bytes_eq why (codes "stale") then keyed_refusal 6 last_keys seq_at (λ last. reply.Refused (Stale last)) ms
    else (if bytes_eq why (codes "bad_range") then bad_range_at ms
    else (if bytes_eq why (codes "bad_amount") then keyed_refusal 8 field_keys (text_at (codes "field")) reply.BadAmount ms
    else (if bytes_eq why (codes "farm_full") then keyed_refusal 9 free_keys (whole_at (codes "free") 0 SLOT_LIMIT) (λ free. reply.Refused (FarmFull free)) ms
    else (if bytes_eq why (codes "finished") then keyed_refusal 10 name_keys (name_at (codes "name")) (λ name. reply.Refused (Finished name)) ms
    else (if bytes_eq why (codes "wrong_state") then keyed_refusal 11 state_keys (word_at wrong_state_of (codes "state")) (λ refused. refused) ms
    else (if bytes_eq why (codes "self_depend") then keyed_refusal 12 frame_keys (text_at (codes "frame")) (λ frame. reply.Refused (SelfDepend frame)) ms
    else (if bytes_eq why (codes "still_held") then still_held_at ms
    else (if bytes_eq why (codes "version_spent") then keyed_refusal 14 frame_keys (text_at (codes "frame")) (λ frame. reply.Refused (VersionSpent frame)) ms
    else (if bytes_eq why (codes "store") then plain_refusal 15 reply.Store ms
    else (if bytes_eq why (codes "memory") then plain_refusal 16 reply.NoMemory ms
    else (if bytes_eq why (codes "started") then keyed_refusal 17 frame_keys (text_at (codes "frame")) (λ frame. reply.Refused (Started frame)) ms
    else (if bytes_eq why (codes "full") then full_reply ms
    else Err (WrongKind (codes "why")))))))))))))))))))

abbrev pub refusal_at : Members → Result Reply Fault
refusal_at ms = text_at (codes "why") ms >>= by_why ms

-- ---- a line

abbrev pub by_ok : Members → Bool → Result Reply Fault
by_ok ms true = ok_at ms
by_ok ms false = refusal_at ms

abbrev pub reply_at : Members → Result Reply Fault
reply_at ms = flag_at (codes "ok") ms >>= by_ok ms

-- what was read, or nothing where there was a fault
abbrev pub read_or_none : {X : Type 0} → Result X Fault → Option X
read_or_none (Ok x) = Some x
read_or_none (Err fault) = None

-- the reply that the line is; none where it isn't one
unfoldable pub reply_of : List ℕ → Option Reply
reply_of line = option_and_then (λ ms. read_or_none (reply_at ms)) (object_in line)
