use Rattle.booking_table.specs.Seats.{view}
use Rattle.recording_turns.proofs.PlacingAsks.{size_may}
use Rattle.recording_turns.proofs.PlacingSteps.{size_left}
use Rattle.std.proofs.Common.{[]}
use Rattle.recording_turns.proofs.placing.place_host.Goals as goal

pub place_size-requires-clause-may : goal.place_size-requires-clause-may
place_size-requires-clause-may c =
    size_may c.args.farm.now c.kept.ensures.rows (c.used_is_running.ensures c.args.farm.now c.kept.ensures) (view c.args.seat.now) c.args.host
    c.free_word.result.cores c.free_word.result.memory c.requires.placing c.requires.within c.free_word.ensures.cores c.free_word.ensures.memory

pub returns-clause-placing : goal.returns-clause-placing
returns-clause-placing c =
    (size_left c.args.farm.now c.args.host 0 0 [] (view c.args.seat.now) (view c.place_size.new.seat) c.requires.placing
    c.free_word.result.cores c.free_word.result.memory c.place_size.ensures.placed).0
