-- By the laws below.
use Rattle.world_law.proofs.Events.{event_keeps}
use Rattle.world_law.proofs.LowerLaws.{laws_by}
use Rattle.world_law.proofs.laws.events_keep_worlds.Goals as goal

pub returns : goal.returns
returns c = λ w e new kept types happens.
    event_keeps (laws_by c.rows_say_their_farm.ensures c.answers_are_formed.ensures c.answers_are_read_back.ensures) w kept e new types happens
