-- A line starts no more than its reply launches.
use Rattle.std.proofs.Common.{◌≡◌, ◌≤◌, ℕ, ◌+◌, ◌||◌, Bool, true, false, List, [], ◌∷◌, length, Option, None, Some, Result, Ok, IfOk, sym, subst, arith, length-append}
use Rattle.std.specs.Prelude.{nat_le, if◌then◌else◌}
use Rattle.farm_lines.specs.declared.launch.Launch.{Launch}
use Rattle.farm_lines.specs.declared.reply.Reply.{Reply}
use Rattle.farm_lines.specs.declared.reply.Reply.TheVariants as reply
use Rattle.farm_lines.specs.declared.reply.ReportReply.{ReportReply}
use Rattle.farm_lines.specs.ReplyLines.{reply_of}
use Rattle.rqd_core.specs.declared.orders.Orders.{Orders}
use Rattle.rqd_core.specs.declared.orders.RqdFault.{RqdFault}
use Rattle.rqd_core.specs.declared.sent_line.SentLine.{SentLine}
use Rattle.rqd_core.specs.declared.taking.Taking.{Taking}
use Rattle.rqd_core.specs.Life.{Life, is_run}
use Rattle.rqd_core.specs.Replies.{Taken, after_report, all_launched, answered, code_of, first_taking, is_done, is_of_boot, is_of_report, launched, no_orders, not_latest, placed, refused_with, started, take_boot, take_line, take_other, take_read, take_reply, take_report, unfit}
use Rattle.world_host.specs.Starts.{launches_in, launches_of}

-- ---- launches

placed_few : (t : Taking) (l : Launch) → length (placed t l).starts ≤ length t.starts + 1
placed_few t l = by (nat_le l.cores t.free)
  where
    by : (b : Bool) → length (if b then started t l else unfit t l.attempt).starts ≤ length t.starts + 1
    by true = omega (arith, length-append t.starts (l ∷ []))
    by false = omega arith

launched_few : (t : Taking) (l : Launch) → length (launched t l).starts ≤ length t.starts + 1
launched_few t l = by (is_run l.attempt t.running || is_done l.attempt t.finished)
  where
    by : (b : Bool) → length (if b then t else placed t l).starts ≤ length t.starts + 1
    by true = omega arith
    by false = placed_few t l

all_few : (t : Taking) (ls : List Launch) → length (all_launched t ls).starts ≤ length t.starts + length ls
all_few t [] = omega arith
all_few t (l ∷ ls) = omega (arith, launched_few t l, all_few (launched t l) ls)

-- ---- replies

-- the reply starts so few, if it orders anything
abbrev StartsFew : ℕ → Taken → Type 0
StartsFew most t = IfOk t.told (λ (o : Orders). length o.starts ≤ most)

report_few : (l : Life) (r : ReportReply) → StartsFew (length r.launches) (take_report l r)
report_few l r = by (is_of_report r l.awaited)
  where
    by : (b : Bool) → StartsFew (length r.launches) (if b then after_report (answered l) r else not_latest l r.seq)
    by true = omega (arith, all_few (first_taking (answered l) r.acks) r.launches)
    by false = tt

boot_few : (l : Life) (boot nonce : ℕ) → StartsFew 0 (take_boot l boot nonce)
boot_few l boot nonce = by (is_of_boot l.config.nonce nonce l.awaited)
  where
    by : (b : Bool) → StartsFew 0 (if b then record { life = record (answered l) { boot = Some boot }; told = Ok no_orders } else not_latest l 0)
    by true = omega arith
    by false = tt

refused_few : (l : Life) (r : Reply) (awaited : Option SentLine) (code : ℕ) → StartsFew 0 (refused_with l r awaited code)
refused_few l r None code = tt
refused_few l r (Some line) code = tt

other_few : (l : Life) (r : Reply) (code : Option ℕ) → StartsFew 0 (take_other l r code)
other_few l r None = tt
other_few l r (Some code) = refused_few l r l.awaited code

reply_few : (l : Life) (r : Reply) → StartsFew (launches_of r) (take_reply l r)
reply_few l (reply.Report r) = report_few l r
reply_few l (reply.Boot boot nonce) = boot_few l boot nonce
reply_few l other = other_few l other (code_of other)

read_few : (l : Life) (read : Option Reply) → StartsFew (launches_in read) (take_read l read)
read_few l None = tt
read_few l (Some r) = reply_few l r

-- what a line starts
pub line_few : (l : Life) (line : List ℕ) (o : Orders) → Ok o ≡ (take_line l line).told → length o.starts ≤ launches_in (reply_of line)
line_few l line o told =
    subst (λ (told : Result Orders RqdFault). IfOk told (λ (o : Orders). length o.starts ≤ launches_in (reply_of line))) (sym told) (read_few l (reply_of line))
