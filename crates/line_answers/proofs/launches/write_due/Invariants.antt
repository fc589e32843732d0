-- The host's own attempts are walked, and what was found was written.
use Rattle.std.proofs.Common.{List, length}
use Rattle.farm_lines.specs.declared.launch.Launch.{Launch}
use Rattle.line_answers.specs.Launches.{HasWritten, told}
use Rattle.line_answers.proofs.WalkLemmas.{IsWalked, rows_from}
use Rattle.line_answers.proofs.launches.write_due.Given as goal

abbrev pub invariant-loop-next : goal.invariant-loop-next
invariant-loop-next l = record {
  found : List Launch;
  walked : IsWalked l.farm l.host (told l.heard l.running) l.next found;
  written : HasWritten l.fn.out found l.out l.launched;
}

abbrev pub decreases-loop-next : goal.decreases-loop-next
decreases-loop-next l = length (rows_from l.farm.slots l.next)
