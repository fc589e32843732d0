use Rattle.std.proofs.Common.{◌≡◌, ℕ, ◌<◌, ◌||◌, length, take}
use Rattle.depend_graph.specs.Graph.{is_flagged}
use Rattle.farm_depends.specs.Follow.{is_listed}
use Rattle.farm_depends.proofs.marks.mark.Given as goal

abbrev pub invariant-loop-slot : goal.invariant-loop-slot
invariant-loop-slot l = record {
  marks : (slot : ℕ) → slot < length l.fn.marks.items → is_flagged l.marks.items slot ≡ (is_flagged l.fn.marks.items slot || is_listed (take l.slot-index l.slots) slot);
  count : length l.marks.items ≡ length l.fn.marks.items;
}
