-- The keeper is new, so that a farm may be opened in it.
use Rattle.serving.specs.session.proofs.NewKeepers.{may_open}
use Rattle.cuebot.proofs.answer_in_memory.Goals as goal

pub answer-status-requires : goal.answer-status-requires
answer-status-requires c = λ form formed tells. may_open c.in-Ok.keeper _ c.in-Ok.ensures form
