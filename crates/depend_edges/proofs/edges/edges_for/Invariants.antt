use Rattle.std.proofs.Common.{◌≡◌, ◌<◌, ◌^◌, ◌++◌, map, length, drop}
use Rattle.depend_edges.specs.Aims.{aims_from}
use Rattle.depend_edges.specs.Listed.{aim_of}
use Rattle.depend_edges.proofs.edges.edges_for.Given as goal

abbrev pub invariant-loop-place : goal.invariant-loop-place
invariant-loop-place l = record {
  aims : map aim_of l.edges.items ++ aims_from l.place (drop l.place l.groups) ≡ aims_from 0 l.groups;
  within : length l.edges.items < 2 ^ 32;
}
