use Rattle.std.proofs.Common.{◌≡◌, ◌||◌, ◌<◌, ℕ, take, length}
use Rattle.depend_graph.specs.Graph.{is_flagged}
use Rattle.farm_depends.specs.Coming.{unmet_by}
use Rattle.farm_depends.specs.Follow.{is_listed}
use Rattle.farm_depends.proofs.new_depends.blocked_own.mark_unmet.Given as goal

abbrev pub invariant-loop-group : goal.invariant-loop-group
invariant-loop-group l = record {
  marks : (slot : ℕ) → slot < length l.fn.marks.items → is_flagged l.marks.items slot ≡ (is_flagged l.fn.marks.items slot || is_listed (unmet_by l.depends.graph.done (take l.group-index l.groups)) slot);
  count : length l.marks.items ≡ length l.fn.marks.items;
}
