use Rattle.recording_turns.proofs.PlacingSteps.{cores_hold, memory_holds}
use Rattle.recording_turns.proofs.free.free_word.Goals as goal

pub cores_left-requires : goal.cores_left-requires
cores_left-requires c =
    cores_hold c.args.farm.now c.kept.ensures.rows (c.used_is_running.ensures c.args.farm.now c.kept.ensures) c.args.host c.host_size-size.result c.used-taken.result
    c.host_size-size.ensures.size c.used-taken.ensures

pub memory_left-requires : goal.memory_left-requires
memory_left-requires c =
    memory_holds c.args.farm.now c.kept.ensures.rows (c.used_is_running.ensures c.args.farm.now c.kept.ensures) c.args.host c.host_size-size.result c.used-taken.result
    c.host_size-size.ensures.size c.used-taken.ensures
