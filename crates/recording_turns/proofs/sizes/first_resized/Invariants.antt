use Rattle.std.proofs.Common.{◌≡◌, drop}
use Rattle.recording_turns.specs.Sizes.{first_resized}
use Rattle.recording_turns.proofs.sizes.first_resized.Given as goal

-- the first of the changes that are left is the first of all
abbrev pub invariant-loop-change : goal.invariant-loop-change
invariant-loop-change l = first_resized l.farm (drop l.change-index l.changes) ≡ first_resized l.farm l.changes
