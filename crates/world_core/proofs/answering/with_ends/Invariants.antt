use Rattle.std.proofs.Common.{◌≡◌, ◌++◌, map, take}
use Rattle.world_law.specs.Counting.{count_of}
use Rattle.world_core.proofs.answering.with_ends.Given as goal

-- the completions so far stand behind the others
abbrev pub invariant-loop-end : goal.invariant-loop-end
invariant-loop-end l = l.all ≡ l.fn.counted ++ map (count_of l.line l.host) (take l.end-index l.ends)
