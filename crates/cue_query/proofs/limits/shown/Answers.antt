use Rattle.std.proofs.lemmas.Option.{slice_get_within}
use Rattle.cue_query.proofs.limits.shown.Goals as goal

pub running_in-running-requires : goal.running_in-running-requires
running_in-running-requires c = slice_get_within c.args.farm.now.limits c.args.number c.args.limit.now c.requires
