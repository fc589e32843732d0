-- A launch by what is written of it, and the attempts of launches.
use Rattle.std.specs.Prelude.{List, map}
use Rattle.farm_types.specs.declared.attempt.Attempt.{Attempt}
use Rattle.farm_lines.specs.declared.launch.Launch.{Launch}
use Rattle.report_codec.specs.declared.report_line.LaunchText.{LaunchText}

abbrev pub launch_told : LaunchText → Launch
launch_told l =
    record {
      attempt = l.attempt;
      command = l.command.now;
      cores = l.cores;
      frame = l.frame.now;
      job = l.job.now;
      layer = l.layer.now;
      memory = l.memory;
    }

abbrev pub attempts_in : List Launch → List Attempt
attempts_in launches = map (λ (l : Launch). l.attempt) launches
