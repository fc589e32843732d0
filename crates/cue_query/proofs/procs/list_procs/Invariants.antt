use Rattle.std.proofs.Common.{drop}
use Rattle.std.specs.Prelude.{filter_map}
use Rattle.farm_lines.specs.Lists.{proc_in, proc_rows}
use Rattle.cue_query.proofs.InTurn.{IsListedPart}
use Rattle.cue_query.proofs.procs.list_procs.Given as goal

-- at most one was listed for each that was passed
abbrev pub invariant-loop-slot : goal.invariant-loop-slot
invariant-loop-slot l = IsListedPart l.fn.page l.page l.slot-index (filter_map (proc_in l.farm) (drop l.slot-index l.slot-items)) (proc_rows l.farm)
