use Rattle.std.proofs.Common.{sym, ◌∙◌}
use Rattle.place_set.proofs.Counts.{first_from_leap}
use Rattle.place_set.proofs.blocks.first_marked.Goals as goal

pub loop-place-preserved-then-counts-place-eq0 : goal.loop-place-preserved-then-counts-place-eq0
loop-place-preserved-then-counts-place-eq0 c =
    sym (first_from_leap c.args.marks.now c.args.counts.now c.loop-place.place c.requires c.if-place-eq0.true c.if-counts-place-eq0.true) ∙ c.loop-place.invariant
