use Rattle.std.proofs.Common.{◌≡◌, ◌≤◌, ◌+◌, ◌-◌, ◌++◌, length, take}
use Rattle.std.specs.Vec.{vec_capacity}
use Rattle.world_law.specs.Hosts.{attempts_in}
use Rattle.world_host.proofs.starts.push_attempts.Given as goal

-- those of the launches so far stand behind the others, and there is room for the rest
abbrev pub invariant-loop-launch : goal.invariant-loop-launch
invariant-loop-launch l = record {
  items : l.started.items ≡ l.fn.started.items ++ attempts_in (take l.launch-index l.launches);
  room : length l.started.items + (length l.launches - l.launch-index) ≤ vec_capacity l.started;
}
