-- The depends and the counts over them, once groups were met.
use Rattle.std.proofs.Common.{◌≡◌, ◌≤◌, ◌*◌, ℕ, sym, subst}
use Rattle.std.specs.Vec.{vec_capacity}
use Rattle.farm_types.specs.declared.limits.TheConstants.{MOST_DEPENDS}
use Rattle.depend_graph.specs.Flow.{flow_in}
use Rattle.depend_graph.specs.Graph.{OpenedLists}
use Rattle.depend_graph.specs.Inside.{KeepsTally}
use Rattle.depend_graph.specs.Kept.{KeepsFlow}
use Rattle.depend_graph.specs.declared.tally.Tally.{Tally}
use Rattle.depend_graph.proofs.ProgressLemmas.Finished.{depends_kept}

pub tally_kept : (old new : Tally) (opened : OpenedLists) → KeepsTally old → KeepsFlow old.depends.items (flow_in new opened) → vec_capacity new.depends ≡ vec_capacity old.depends → KeepsTally new
tally_kept old new opened before kept room =
    record {
      depends = depends_kept old.depends.items (flow_in new opened) kept before.depends;
      sums = kept.sums;
      room = subst (λ (n : ℕ). 2 * MOST_DEPENDS ≤ n) (sym room) before.room;
    }
