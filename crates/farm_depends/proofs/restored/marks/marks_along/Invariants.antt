use Rattle.std.proofs.Common.{◌≡◌, ◌++◌, drop}
use Rattle.farm_depends.specs.Restored.{marks_along, rest_along}
use Rattle.farm_depends.proofs.restored.marks.marks_along.Given as goal

abbrev pub invariant-loop-group : goal.invariant-loop-group
invariant-loop-group l = record {
  marks : l.marks.items ++ marks_along l.depend (drop l.group-index l.groups) (drop l.at l.met) ≡ marks_along l.depend l.groups (drop l.fn.at l.met);
  rest : rest_along l.depend (drop l.group-index l.groups) (drop l.at l.met) ≡ rest_along l.depend l.groups (drop l.fn.at l.met);
}
