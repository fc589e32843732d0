-- What is replied to an act that the farm takes is within its limits.
use Rattle.std.proofs.Common.{◌≡◌, ℕ, ◌+◌, ◌≤◌, ◌<◌, Bool, true, false, cond, ◌&&◌, suc, List, [], ◌∷◌, length, Option, Some, None, refl, sym, arith}
use Rattle.std.specs.Prelude.{option_and_then}
use Rattle.std.specs.List.{slice_get}
use Rattle.std.proofs.lemmas.Option.{none-some}
use Rattle.farm_types.specs.declared.boot.BootLine.{BootLine}
use Rattle.farm_types.specs.declared.depend.DependSpec.{DependSpec}
use Rattle.farm_types.specs.declared.entry.Act.{Act}
use Rattle.farm_types.specs.declared.entry.Act.TheVariants as act
use Rattle.farm_types.specs.declared.limits.TheConstants.{LAST_BOOT, LAST_DEPEND, SLOT_LIMIT}
use Rattle.farm_types.specs.declared.rows.HostRow.{HostRow}
use Rattle.farm_types.specs.declared.rows.JobRow.{JobRow}
use Rattle.farm_types.specs.declared.slot_row.SlotRow.{SlotRow}
use Rattle.farm_types.specs.DependActs.{depend_refusal, dropped}
use Rattle.farm_types.specs.EntryAnswers.{answer_at, boot_number, booked_of, row_named, running_of}
use Rattle.farm_types.specs.Farm.{Farm, alloc_named, host_named, limit_named}
use Rattle.farm_types.specs.Formed.{IsFormedAct}
use Rattle.farm_types.specs.Hosts.{is_same_life, is_unheard}
use Rattle.farm_types.specs.Kept.{IsKeptFarm, KeepsRows, is_formed_host}
use Rattle.farm_types.specs.Limits.{IsBetween}
use Rattle.farm_types.specs.Lost.{runs_on}
use Rattle.farm_types.specs.Operators.{count_at, count_of, has_attempt, is_left_of}
use Rattle.farm_types.specs.Rising.{IsRising, depend_key}
use Rattle.farm_types.specs.Settle.{count_opened, opened_by, opens, with_met}
use Rattle.farm_types.specs.Step.{act_refusal, boot_refusal, follow_refusal, is_silent, sub_named}
use Rattle.farm_types.proofs.Lists.{list_all-at}
use Rattle.farm_law.proofs.KeptBoots.{HasRoom, boot_room}
use Rattle.depend_law.proofs.Accepted.{accepted}
use Rattle.farm_lines.specs.declared.limits.TheConstants.{MOST_BOOKED}
use Rattle.farm_lines.specs.FormedLines.{IsFormedReply}
use Rattle.farm_lines.specs.Reply.{ok_reply}
use Rattle.farm_law.proofs.BookedOnHosts.{booked_within}
use Rattle.farm_law.proofs.FormedParts.{host_formed}
use Rattle.reply_law.proofs.Limits.{filtered_few, running_within}
use Rattle.reply_law.proofs.Unmet.{unmet_within}

-- ---- subscriptions

sub_booked : (f : Farm) → KeepsRows f → (o : Option ℕ) → booked_of f o ≤ MOST_BOOKED
sub_booked f kept None = omega arith
sub_booked f kept (Some sub) = booked_within f kept sub

-- ---- limits

limit_running : (f : Farm) → KeepsRows f → (o : Option ℕ) → running_of f o ≤ SLOT_LIMIT
limit_running f kept None = omega arith
limit_running f kept (Some limit) = running_within f kept limit

-- ---- boots

module _ (f : Farm) (kept : KeepsRows f) (line : BootLine) where
  number_by : (o : Option HostRow) → ((row : HostRow) → o ≡ Some row → (is_formed_host row ≡ true) × (is_same_life line row ≡ false → row.boot < LAST_BOOT)) → IsBetween 1 LAST_BOOT (boot_number line o)
  number_by None each = (omega arith, omega arith)
  number_by (Some row) each = by (is_same_life line row) refl
    where
      by : (b : Bool) → is_same_life line row ≡ b → IsBetween 1 LAST_BOOT (cond b row.boot (row.boot + 1))
      by true same = (host_formed row (each row refl).0).boot
      by false new = (omega arith, omega (arith, (each row refl).1 new))

  number_named : (o : Option ℕ) → HasRoom line f.hosts o → IsBetween 1 LAST_BOOT (boot_number line (option_and_then (λ host. slice_get f.hosts host) o))
  number_named None room = (omega arith, omega arith)
  number_named (Some host) room = number_by (slice_get f.hosts host) (λ row at. (list_all-at is_formed_host f.hosts host row kept.hosts.formed at, room row at))

  number_within : (o : Option ℕ) → boot_refusal f line o ≡ None → IsBetween 1 LAST_BOOT (boot_number line (row_named f line))
  number_within None none = absurd (none-some _ (sym none))
  number_within (Some alloc) none = number_named (host_named f line.host) (boot_room f line alloc (host_named f line.host) none)

-- ---- counts

opened_few : (g : Farm) (slot : ℕ) (ss : List SlotRow) → count_opened g slot ss ≤ length ss
opened_few g slot [] = omega arith
opened_few g slot (s ∷ ss) = by (opens g slot s) (opened_few g (slot + 1) ss)
  where
    by : (b : Bool) → count_opened g (slot + 1) ss ≤ length ss → cond b 1 0 + count_opened g (slot + 1) ss ≤ suc (length ss)
    by true rest = omega (arith, rest)
    by false rest = omega (arith, rest)

opened_within : (f : Farm) → KeepsRows f → (depend : ℕ) → opened_by (dropped f depend) ≤ SLOT_LIMIT
unfolding opened_by
opened_within f kept depend = omega (arith, opened_few (with_met (dropped f depend)) 0 f.slots, kept.jobs.slot_count)

one_within : (o : Option SlotRow) → count_at o ≤ SLOT_LIMIT
one_within None = omega arith
one_within (Some s) = by (has_attempt s)
  where
    by : (b : Bool) → cond b 1 0 ≤ SLOT_LIMIT
    by true = omega arith
    by false = omega arith

killed_within : (f : Farm) → KeepsRows f → (o : Option JobRow) → count_of f o ≤ SLOT_LIMIT
killed_within f kept None = omega arith
killed_within f kept (Some j) = omega (arith, filtered_few (λ (s : SlotRow). is_left_of j.job s && has_attempt s) f.slots, kept.jobs.slot_count)

-- ---- depends

depend_within : (f : Farm) → IsKeptFarm f → (spec : DependSpec) → depend_refusal f spec ≡ None → IsBetween 1 LAST_DEPEND f.next_depend
depend_within f kept spec none = (rising_from_low depend_key 1 f.depends f.next_depend kept.depends.rise, (accepted f spec kept.rows.jobs.jobs_rise none).room.number)
  where
    rising_from_low : {X : Type 0} (key : X → ℕ) (low : ℕ) (xs : List X) (high : ℕ) → IsRising key low xs high → low ≤ high
    rising_from_low key low [] high rise = rise
    rising_from_low key low (x ∷ xs) high rise = omega (arith, rise.0, rising_from_low key (key x + 1) xs high rise.1)

-- ---- acts

pub ok_formed : (f : Farm) (moment : ℕ) (does : Act) → IsKeptFarm f → IsFormedAct does → act_refusal f does ≡ None → follow_refusal f does ≡ None → IsFormedReply (ok_reply does (answer_at f moment does))
ok_formed f moment act.Opened kept formed none follows = tt
ok_formed f moment (act.Show name) kept formed none follows = tt
ok_formed f moment (act.Alloc facility tag) kept formed none follows = tt
ok_formed f moment (act.Sub line) kept formed none follows = (sub_booked f kept.rows (sub_named f line), formed.limits.burst_within, formed.limits.size_within)
ok_formed f moment (act.Limit name most) kept formed none follows = (formed.1, limit_running f kept.rows (limit_named f name))
ok_formed f moment (act.Boot line) kept formed none follows = (number_within f kept.rows line (alloc_named f line.alloc) none, formed.nonce_within)
ok_formed f moment (act.Heard heard) kept formed none follows = tt
ok_formed f moment (act.Submit spec) kept formed none follows = (formed.limits.frames_within, formed.name)
ok_formed f moment (act.AddDepend spec) kept formed none follows =
    (depend_within f kept spec follows, omega (arith, unmet_within f kept.rows spec f.next_depend))
ok_formed f moment (act.DropDepend depend) kept formed none follows = opened_within f kept.rows depend
ok_formed f moment (act.Pause job paused) kept formed none follows = tt
ok_formed f moment (act.KillJob job) kept formed none follows = killed_within f kept.rows _
ok_formed f moment (act.KillFrame p) kept formed none follows = one_within _
ok_formed f moment (act.EatFrame p) kept formed none follows = one_within _
ok_formed f moment (act.RetryFrame p) kept formed none follows = one_within _
ok_formed f moment (act.Lock host lock) kept formed none follows = tt
ok_formed f moment act.Tick kept formed none follows =
    (omega (arith, filtered_few (is_unheard moment) f.hosts, kept.rows.hosts.count), omega (arith, filtered_few (runs_on (is_silent f moment)) f.slots, kept.rows.jobs.slot_count))
ok_formed f moment (act.Book slot host) kept formed none follows = tt
