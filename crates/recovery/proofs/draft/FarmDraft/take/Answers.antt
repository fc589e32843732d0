use Rattle.recovery.proofs.Reached.{either_reached}
use Rattle.recovery.proofs.draft.FarmDraft.take.Goals as goal

pub invariant_of-self-2 : goal.invariant_of-self-2
invariant_of-self-2 c = λ h. either_reached c.in_ok-taken.taken c.self.inside.farm c.add.new.self c.args.row c.in_ok-taken.ensures (c.self.invariant h)
