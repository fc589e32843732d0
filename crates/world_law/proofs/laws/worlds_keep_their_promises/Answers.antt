-- Event by event.
use Rattle.world_law.specs.World.{made_world}
use Rattle.world_law.proofs.OneOutcome.{all_noted}
use Rattle.world_law.proofs.Promised.{all_kept}
use Rattle.world_law.proofs.laws.worlds_keep_their_promises.Goals as goal

pub returns : goal.returns
returns c =
    record {
      promises = λ f configs asked es new can types happen.
          c.worlds_are_as_promised.ensures new
          (all_kept c.events_keep_worlds.ensures (made_world f configs asked) es new (c.made_worlds_are_kept.ensures f configs asked can) types happen);
      events = λ w es new happen. all_noted w es new happen;
    }
