-- Acts that are reports, and the hosts that they are of.
use Rattle.std.specs.Prelude.{◌≡◌, ℕ, List, Option, Some}
use Rattle.farm_types.specs.declared.attempt.Attempt.{Attempt}
use Rattle.farm_types.specs.declared.entry.Act.{Act}
use Rattle.farm_types.specs.declared.entry.Act.TheVariants as act
use Rattle.farm_lines.specs.declared.report.Report.{Report}

-- the act is that the report was heard, and these attempts run
abbrev pub IsReport : Act → List Attempt → Report → Type 0
IsReport does running report = (does ≡ act.Heard report.heard) × (running ≡ report.running)

-- the act is that a host was heard, and it is told which
abbrev pub TellsHost : Act → Option ℕ → Type 0
TellsHost (act.Heard heard) (Some host) = Unit {0}
TellsHost other told = ⊥
