-- A life of a host with one core.
use Rattle.std.specs.Prelude.{ℕ, List, [], ◌∷◌, codes, Result, Ok}
use Rattle.farm_types.specs.declared.attempt.Attempt.{Attempt}
use Rattle.farm_types.specs.declared.attempt.Exit.{Exit}
use Rattle.farm_types.specs.declared.dispatch.Cut.TheVariants as cut
use Rattle.farm_types.specs.declared.refusal.Refusal.{Refusal}
use Rattle.farm_lines.specs.declared.launch.Launch.{Launch}
use Rattle.farm_lines.specs.declared.reply.Reply.{Reply}
use Rattle.farm_lines.specs.declared.reply.Reply.TheVariants as reply
use Rattle.rqd_core.specs.declared.config.RqdConfig.{RqdConfig}
use Rattle.rqd_core.specs.declared.orders.NoFit.{NoFit}
use Rattle.rqd_core.specs.declared.orders.Orders.{Orders}
use Rattle.rqd_core.specs.declared.orders.RqdFault.{RqdFault}
use Rattle.rqd_core.specs.Life.{Life, after_end, after_line, new_life}
use Rattle.rqd_core.specs.Replies.{take_reply}

abbrev pub host : RqdConfig
host = record { name = codes "h1"; alloc = codes "farm.general"; cores = 100; memory = 4194304; nonce = 7 }

abbrev pub attempt : ℕ → Attempt
attempt slot = record { slot = slot; version = 1 }

abbrev pub exit : ℕ → ℕ → Exit
exit status signal = record { status = status; signal = signal }

abbrev pub launch : ℕ → ℕ → Launch
launch slot cores = record {
  attempt = attempt slot;
  command = codes "true";
  cores = cores;
  frame = codes "0001-render";
  job = codes "j";
  layer = codes "render";
  memory = 262144;
}

-- the reply to a report of boot 1
abbrev pub orders : ℕ → List Attempt → List Attempt → List Launch → Reply
orders seq acks kills launches = reply.Report (record { acks = acks; boot = 1; cut = cut.Whole; kills = kills; launches = launches; seq = seq })

-- the life that such a reply leaves, and what it tells
abbrev pub after : Life → Reply → Life
after l r = (take_reply l r).life

abbrev pub told : Life → Reply → Result Orders RqdFault
told l r = (take_reply l r).told

abbrev pub starting : List Launch → List Attempt → List NoFit → Result Orders RqdFault
starting starts stops refused = Ok (record { starts = starts; stops = stops; refused = refused })

-- the boot line is sent, it is answered, and the first report is sent
abbrev pub booting : Life
booting = after_line (new_life host)

abbrev pub booted : Life
booted = after booting (reply.Boot 1 7)

abbrev pub reporting : Life
reporting = after_line booted

-- an attempt of all cores is launched, and the second report is sent while it runs; or it ends before
abbrev pub first_orders : Reply
first_orders = orders 1 [] [] (launch 0 100 ∷ [])

abbrev pub busy : Life
busy = after reporting first_orders

abbrev pub busy_again : Life
busy_again = after_line busy

abbrev pub ended : Life
ended = after_line (after_end busy (attempt 0) (exit 0 0))

-- the farm refuses it
abbrev pub refused : Refusal → Reply
refused why = reply.Refused why
