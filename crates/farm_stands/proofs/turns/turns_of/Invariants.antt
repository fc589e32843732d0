use Rattle.std.proofs.Common.{◌≡◌, ◌++◌, drop}
use Rattle.farm_stands.specs.Turns.{turns_of}
use Rattle.farm_stands.proofs.turns.turns_of.Given as goal

-- the turns so far and those of the changes that are left are all
abbrev pub invariant-loop-change : goal.invariant-loop-change
invariant-loop-change l = l.turns.items ++ turns_of l.farm (drop l.change-index l.changes) ≡ turns_of l.farm l.changes
