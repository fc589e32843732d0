-- The seat of a new table is one on which a farm may be placed, and the recorder has nothing that a pass is to take.
use Rattle.std.proofs.Common.{◌∙◌}
use Rattle.booking_table.specs.Seats.{view}
use Rattle.recorder_start.proofs.Begins.{begins}
use Rattle.serving_tests.proofs.NewBots.{no_receipts}
use Rattle.serving_tests.proofs.passes.new_bot.Goals as goal

pub make-recorder-requires-clause-unplaced : goal.make-recorder-requires-clause-unplaced
make-recorder-requires-clause-unplaced g c = begins (view c.args.seat) c.requires.first

pub make-requires-clause-taken : goal.make-requires-clause-taken
make-requires-clause-taken g c = record {
  receipts = no_receipts (view c.args.seat) c.make-recorder.result.view c.args.farm c.requires.first c.make-recorder.ensures.placed;
  faults = c.make-recorder.ensures.faults;
}

pub make-requires-clause-opening : goal.make-requires-clause-opening
make-requires-clause-opening g c = c.make-recorder.ensures.placed.opening ∙ c.requires.opening
