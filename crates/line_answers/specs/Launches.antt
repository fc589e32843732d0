-- The launches of a host's own attempts, by what a report tells and what it says is running, and how they are written.
use Rattle.std.specs.Prelude.{◌≡◌, ℕ, List, ◌++◌, Option, map, option_and_then, slice_get}
use Rattle.json.specs.Token.{Token}
use Rattle.json.specs.Tree.{items_tokens}
use Rattle.serde_json.specs.View.{items_of}
use Rattle.serde_json.specs.Written.{items_outline}
use Rattle.farm_types.specs.declared.attempt.Attempt.{Attempt}
use Rattle.farm_types.specs.declared.attempt.ProcRow.{ProcRow}
use Rattle.farm_types.specs.declared.entry.HeardAct.{HeardAct}
use Rattle.farm_types.specs.Farm.{Farm}
use Rattle.farm_lines.specs.declared.launch.Launch.{Launch}
use Rattle.farm_lines.specs.declared.report.Report.{Report}
use Rattle.farm_lines.specs.Reply.{due_in, launch_data, launches_of}
use Rattle.line_answers.specs.declared.launches.DueLaunches.{DueLaunches}
use Rattle.object_writer.specs.Tokens.{added}
use Rattle.report_codec.specs.Launches.{attempts_in}

-- the report of which the entry tells this, and of which these attempts run
abbrev pub told : HeardAct → List Attempt → Report
told heard running = record { heard = heard; running = running }

-- the launch of the live attempt in the slot of that number, where it is due
abbrev pub due_at : Farm → ℕ → Report → ℕ → Option Launch
due_at f host report slot = option_and_then (due_in f host report) (slice_get f.slots slot)

-- the launch of a live attempt, with these texts
abbrev pub launch_by : ProcRow → List ℕ → List ℕ → List ℕ → List ℕ → Launch
launch_by p command frame job layer =
    record {
      attempt = record { slot = p.slot; version = p.version };
      command = command;
      cores = p.cores;
      frame = frame;
      job = job;
      layer = layer;
      memory = p.memory;
    }

abbrev pub launches_due : DueLaunches → List Launch
launches_due due = launches_of due.farm.now due.host (told due.heard.now due.running.now)

-- what is written of launches in a list, up to its end
abbrev pub launch_tokens : List Launch → List Token
launch_tokens launches = items_tokens (items_outline (items_of (map launch_data launches)))

-- these launches were written in a list, whatever comes behind them
abbrev pub WritesLaunches : List Token → List Launch → List Token → Type 0
WritesLaunches old launches new = (rest : List Launch) → added new (launch_tokens rest) ≡ added old (launch_tokens (launches ++ rest))

-- and their attempts are the ones that were launched
pub record HasWritten (old : List Token) (launches : List Launch) (new : List Token) (launched : List Attempt) : Type 0 where
  pub text : WritesLaunches old launches new
  pub attempts : launched ≡ attempts_in launches

-- and their attempts come behind those that were launched before
pub record Writes (old : List Token) (before : List Attempt) (launches : List Launch) (new : List Token) (launched : List Attempt) : Type 0 where
  pub text : WritesLaunches old launches new
  pub attempts : launched ≡ before ++ attempts_in launches
