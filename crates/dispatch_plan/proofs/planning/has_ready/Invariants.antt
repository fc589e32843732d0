use Rattle.std.proofs.Common.{◌≡◌, ◌<◌, ℕ, []}
use Rattle.farm_types.specs.Step.{lists_of}
use Rattle.job_book.specs.Index.{ready_of}
use Rattle.dispatch_plan.proofs.planning.has_ready.Given as goal

-- none of the shows so far has a ready job
abbrev pub invariant-loop-show : goal.invariant-loop-show
invariant-loop-show l = (k : ℕ) → k < l.show → ready_of (lists_of l.farm) k ≡ []
