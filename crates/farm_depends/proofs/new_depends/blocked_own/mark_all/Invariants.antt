use Rattle.std.proofs.Common.{◌≡◌, ◌||◌, ◌<◌, ℕ, take, length}
use Rattle.depend_graph.specs.Graph.{is_flagged}
use Rattle.farm_depends.specs.Coming.{all_unmet_by}
use Rattle.farm_depends.specs.Follow.{is_listed}
use Rattle.farm_depends.proofs.new_depends.blocked_own.mark_all.Given as goal

abbrev pub invariant-loop-new : goal.invariant-loop-new
invariant-loop-new l = record {
  marks : (slot : ℕ) → slot < length l.fn.marks.items → is_flagged l.marks.items slot ≡ (is_flagged l.fn.marks.items slot || is_listed (all_unmet_by l.depends.graph.done (take l.new-index l.all)) slot);
  count : length l.marks.items ≡ length l.fn.marks.items;
}
