use Rattle.std.proofs.Common.{◌≡◌, ◌<◌, ◌^◌, ◌++◌, map, length, drop}
use Rattle.depend_edges.specs.Aims.{aim_at}
use Rattle.depend_edges.specs.Listed.{aim_of}
use Rattle.depend_edges.proofs.edges.push_edges.Given as goal

abbrev pub invariant-loop-target : goal.invariant-loop-target
invariant-loop-target l = record {
  aims : map aim_of l.edges.items ++ map (aim_at l.group) (drop l.target-index l.targets) ≡ map aim_of l.fn.edges.items ++ map (aim_at l.group) l.targets;
  within : length l.edges.items < 2 ^ 32;
}
