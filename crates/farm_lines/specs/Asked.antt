-- What a request comes to: its act, or the list that it asks for.
use Rattle.std.specs.Prelude.{ℕ}
use Rattle.farm_types.specs.declared.entry.Act.{Act}
use Rattle.farm_types.specs.declared.entry.Act.TheVariants as act
use Rattle.farm_types.specs.declared.entry.Entry.{Entry}
use Rattle.farm_lines.specs.declared.asked.Asked.{Asked}
use Rattle.farm_lines.specs.declared.asked.Asked.TheVariants as asked
use Rattle.farm_lines.specs.declared.report.Report.{Report}
use Rattle.farm_lines.specs.declared.request.Request.{Request}
use Rattle.farm_lines.specs.declared.request.Request.TheVariants as request
use Rattle.farm_types.specs.Formed.{IsFormed, IsFormedAct, IsFormedHeard}

abbrev pub entry_at : ℕ → Act → Entry
entry_at moment does = record { moment = moment; act = does }

-- a report's entry: all of it but what runs
abbrev pub heard_entry : Report → ℕ → Entry
heard_entry report moment = entry_at moment (act.Heard report.heard)

-- a report, which its round follows; another act; or a list, which makes no entry
abbrev pub asked_of : Request → Asked
asked_of (request.Show name) = asked.Act (act.Show name)
asked_of (request.Alloc facility tag) = asked.Act (act.Alloc facility tag)
asked_of (request.Sub line) = asked.Act (act.Sub line)
asked_of (request.Limit name most) = asked.Act (act.Limit name most)
asked_of (request.Boot line) = asked.Act (act.Boot line)
asked_of (request.Report report) = asked.Report report
asked_of (request.Lock host lock) = asked.Act (act.Lock host lock)
asked_of (request.Submit spec) = asked.Act (act.Submit spec)
asked_of (request.Depend spec) = asked.Act (act.AddDepend spec)
asked_of (request.Drop depend) = asked.Act (act.DropDepend depend)
asked_of (request.Pause job paused) = asked.Act (act.Pause job paused)
asked_of (request.KillJob job) = asked.Act (act.KillJob job)
asked_of (request.KillFrame p) = asked.Act (act.KillFrame p)
asked_of (request.EatFrame p) = asked.Act (act.EatFrame p)
asked_of (request.RetryFrame p) = asked.Act (act.RetryFrame p)
asked_of request.Tick = asked.Act act.Tick
asked_of (request.List query) = asked.List query

-- what is asked is within the forms and limits of its act
abbrev pub IsFormedAsked : Asked → Type 0
IsFormedAsked (asked.Report report) = IsFormedHeard report.heard
IsFormedAsked (asked.Act does) = IsFormedAct does
IsFormedAsked (asked.List query) = Unit {0}

-- the entry of what is asked at a moment, if it makes one, is within its forms and limits
abbrev pub IsFormedAt : ℕ → Asked → Type 0
IsFormedAt moment (asked.Report report) = IsFormed (heard_entry report moment)
IsFormedAt moment (asked.Act does) = IsFormed (entry_at moment does)
IsFormedAt moment (asked.List query) = Unit {0}
