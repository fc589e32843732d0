use Rattle.job_entries.proofs.RestoredLayers.{layer_within}
use Rattle.job_entries.proofs.restored_index.note_slot.Goals as goal

pub layer_place-place-requires-clause-within : goal.layer_place-place-requires-clause-within
layer_place-place-requires-clause-within c = layer_within c.args.layers.now c.args.row.now c.in-Some.frame c.requires.formed c.requires.kept c.in-Some.is
