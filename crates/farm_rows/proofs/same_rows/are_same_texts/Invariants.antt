use Rattle.std.proofs.Common.{◌≡◌, take}
use Rattle.farm_rows.proofs.same_rows.are_same_texts.Given as goal

abbrev pub invariant-loop-place : goal.invariant-loop-place
invariant-loop-place l = take l.place l.one ≡ take l.place l.other
