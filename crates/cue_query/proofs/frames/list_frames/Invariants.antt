use Rattle.std.proofs.Common.{drop}
use Rattle.farm_types.specs.Farm.{layers_of}
use Rattle.cue_query.proofs.LayersListed.{AreListed}
use Rattle.cue_query.proofs.frames.list_frames.Given as goal

-- the layers so far were listed
abbrev pub invariant-loop-layer : goal.invariant-loop-layer
invariant-loop-layer l = AreListed l.farm l.fn.page l.page (drop l.layer-index l.layer-items) (layers_of l.farm.layers l.fn.job)
