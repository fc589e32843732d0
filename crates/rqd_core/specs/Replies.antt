-- What RQD does with a reply: the orders that it gives, or why it gives none, and the life from then on.
use Rattle.std.specs.Prelude.{ℕ, ◌-◌, ◌==◌, ◌&&◌, ◌||◌, Bool, false, not, List, [], ◌∷◌, ◌++◌, filter, max, nat_le, Option, None, Some, Result, Ok, Err, if◌then◌else◌}
use Rattle.std.specs.List.{list_any}
use Rattle.farm_types.specs.declared.attempt.Attempt.{Attempt}
use Rattle.farm_types.specs.declared.attempt.DoneItem.{DoneItem}
use Rattle.farm_types.specs.declared.refusal.Refusal.{Refusal}
use Rattle.farm_types.specs.declared.refusal.Refusal.TheVariants as refusal
use Rattle.farm_types.specs.Run.{is_same}
use Rattle.farm_lines.specs.declared.launch.Launch.{Launch}
use Rattle.farm_lines.specs.declared.reply.Reply.{Reply}
use Rattle.farm_lines.specs.declared.reply.Reply.TheVariants as reply
use Rattle.farm_lines.specs.declared.reply.ReportReply.{ReportReply}
use Rattle.farm_lines.specs.ReplyLines.{reply_of}
use Rattle.rqd_core.specs.declared.limits.TheConstants.{UNFIT_STATUS}
use Rattle.rqd_core.specs.declared.orders.Orders.{Orders}
use Rattle.rqd_core.specs.declared.orders.RqdFault.{RqdFault}
use Rattle.rqd_core.specs.declared.orders.RqdFault.TheVariants as fault
use Rattle.rqd_core.specs.declared.running.Running.{Running}
use Rattle.rqd_core.specs.declared.sent_line.SentLine.{SentLine}
use Rattle.rqd_core.specs.declared.sent_line.SentLine.TheVariants as sent
use Rattle.rqd_core.specs.declared.taking.Taking.{Taking}
use Rattle.rqd_core.specs.Life.{Life, cores_of, is_run}

-- what a reply comes to
pub record Taken : Type 0 where
  pub life : Life
  pub told : Result Orders RqdFault

abbrev pub no_orders : Orders
no_orders = record { starts = []; stops = []; refused = [] }

-- it is no first reply to the latest line, and shows this sequence number
abbrev pub not_latest : Life → ℕ → Taken
not_latest l seq = record { life = l; told = Err (fault.NotLatest seq) }

-- the latest line has had its reply
abbrev pub answered : Life → Life
answered l = record l { awaited = None }

-- ---- the reply to a report

abbrev pub is_done : Attempt → List DoneItem → Bool
is_done a finished = list_any (λ (d : DoneItem). is_same d.attempt a) finished

-- its cores are free: it joins the running list
abbrev pub started : Taking → Launch → Taking
started t l = record t { running = t.running ++ record { attempt = l.attempt; cores = l.cores } ∷ []; free = t.free - l.cores; starts = t.starts ++ l ∷ [] }

-- they aren't: it joins the finished list, with what is free
abbrev pub unfit : Taking → Attempt → Taking
unfit t a = record t {
  finished = t.finished ++ record { attempt = a; exit = record { status = UNFIT_STATUS; signal = 0 }; free = Some t.free } ∷ [];
  refused = t.refused ++ record { attempt = a; free = t.free } ∷ [];
}

abbrev pub placed : Taking → Launch → Taking
placed t l = if nat_le l.cores t.free then started t l else unfit t l.attempt

-- an attempt that it runs or has finished isn't started again
abbrev pub launched : Taking → Launch → Taking
launched t l = if is_run l.attempt t.running || is_done l.attempt t.finished then t else placed t l

abbrev pub all_launched : Taking → List Launch → Taking
all_launched t [] = t
all_launched t (l ∷ ls) = all_launched (launched t l) ls

-- an acknowledged completion leaves the finished list
abbrev pub not_acked : List Attempt → List DoneItem → List DoneItem
not_acked acks finished = filter (λ (d : DoneItem). not (list_any (is_same d.attempt) acks)) finished

-- what of these attempts it runs
abbrev pub running_among : List Running → List Attempt → List Attempt
running_among running attempts = filter (λ a. is_run a running) attempts

-- the lists before the launches, once the acknowledgements are taken
abbrev pub first_taking : Life → List Attempt → Taking
first_taking l acks =
    record { running = l.running; finished = not_acked acks l.finished; free = l.config.cores - cores_of l.running; starts = []; refused = [] }

abbrev pub ordered : Life → List Attempt → Taking → Taken
ordered l kills t = record {
  life = record l { running = t.running; finished = t.finished };
  told = Ok (record { starts = t.starts; stops = running_among l.running kills; refused = t.refused });
}

-- acknowledgements first, then kills, then launches
abbrev pub after_report : Life → ReportReply → Taken
after_report l r = ordered l r.kills (all_launched (first_taking l r.acks) r.launches)

-- it is known by the boot and the sequence number
abbrev pub is_of_report : ReportReply → Option SentLine → Bool
is_of_report r (Some (sent.Report boot seq)) = r.boot == boot && r.seq == seq
is_of_report r other = false

abbrev pub take_report : Life → ReportReply → Taken
take_report l r = if is_of_report r l.awaited then after_report (answered l) r else not_latest l r.seq

-- ---- the reply to a boot

-- it is known by the nonce
abbrev pub is_of_boot : ℕ → ℕ → Option SentLine → Bool
is_of_boot nonce told (Some sent.Boot) = told == nonce
is_of_boot nonce told other = false

abbrev pub take_boot : Life → ℕ → ℕ → Taken
take_boot l boot nonce =
    if is_of_boot l.config.nonce nonce l.awaited then record { life = record (answered l) { boot = Some boot }; told = Ok no_orders }
    else not_latest l 0

-- ---- refusals

abbrev pub code_of_refusal : Refusal → ℕ
code_of_refusal (refusal.Unknown name) = 3
code_of_refusal (refusal.Exists name) = 4
code_of_refusal (refusal.WrongBoot boot) = 5
code_of_refusal (refusal.Stale last) = 6
code_of_refusal (refusal.FarmFull free) = 9
code_of_refusal (refusal.Finished name) = 10
code_of_refusal refusal.Satisfied = 11
code_of_refusal (refusal.WrongState state) = 11
code_of_refusal (refusal.SelfDepend frame) = 12
code_of_refusal (refusal.VersionSpent frame) = 14
code_of_refusal (refusal.Started frame) = 17
code_of_refusal (refusal.Full limit what) = 18

-- the code of a refusal; other replies have none
abbrev pub code_of : Reply → Option ℕ
code_of (reply.BadLine field) = Some 1
code_of reply.TooLong = Some 2
code_of (reply.BadRange layer fault) = Some 7
code_of (reply.BadAmount field) = Some 8
code_of (reply.Refused why) = Some (code_of_refusal why)
code_of (reply.StillHeld cores memory) = Some 13
code_of reply.EntriesFull = Some 18
code_of reply.Store = Some 15
code_of reply.NoMemory = Some 16
code_of other = None

-- After a host that is unknown or a wrong boot the next line is a boot line. After a stale report the next number is above the one that is told.
abbrev pub after_why : Life → Refusal → Life
after_why l (refusal.Unknown name) = record l { boot = None }
after_why l (refusal.WrongBoot boot) = record l { boot = None }
after_why l (refusal.Stale last) = record l { seq = max l.seq last }
after_why l other = l

abbrev pub after_refusal : Life → Reply → Life
after_refusal l (reply.Refused why) = after_why l why
after_refusal l other = l

-- a refusal shows no line that it replies to: it is the latest line's, where that has had no reply
abbrev pub refused_with : Life → Reply → Option SentLine → ℕ → Taken
refused_with l r None code = not_latest l 0
refused_with l r (Some line) code = record { life = after_refusal (answered l) r; told = Err (fault.Refused code) }

-- a reply that is neither a boot's nor a report's
abbrev pub take_other : Life → Reply → Option ℕ → Taken
take_other l r None = not_latest l 0
take_other l r (Some code) = refused_with l r l.awaited code

-- ---- every reply

abbrev pub take_short : Life → Reply → Taken
take_short l (reply.Boot boot nonce) = take_boot l boot nonce
take_short l other = take_other l other (code_of other)

abbrev pub take_reply : Life → Reply → Taken
take_reply l (reply.Report r) = take_report l r
take_reply l other = take_short l other

abbrev pub take_read : Life → Option Reply → Taken
take_read l None = record { life = l; told = Err fault.NotAReply }
take_read l (Some r) = take_reply l r

-- what a line comes to
abbrev pub take_line : Life → List ℕ → Taken
take_line l line = take_read l (reply_of line)
