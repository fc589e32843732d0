use Rattle.std.proofs.Common.{ℕ, ◌≡◌, ◌≤◌, length}
use Rattle.frame_range.specs.Away.{halves_from}
use Rattle.frame_range.specs.Places.{with_all}
use Rattle.frame_range.specs.declared.limits.TheConstants.{MOST_NUMBERS}
use Rattle.frame_range.proofs.steps.list_halves.Given as goal

abbrev pub invariant-loop-step : goal.invariant-loop-step
invariant-loop-step l = record {
  few : length l.listing ≤ MOST_NUMBERS;
  so_far : (turns : ℕ) × (l.step ≤ turns)
      × (with_all l.listing (halves_from l.first l.up l.span turns l.step)
      ≡ with_all l.fn.listing (halves_from l.first l.up l.span l.size l.size));
}

abbrev pub decreases-loop-step : goal.decreases-loop-step
decreases-loop-step l = l.step
