use Rattle.std.proofs.Common.{subst}
use Rattle.rqd_core.specs.Keeping.{IsWithin}
use Rattle.rqd_core.specs.Life.{Life}
use Rattle.rqd_core.proofs.Kept.{starts_told}
use Rattle.rqd_core.proofs.rqd.Rqd.take_reply.Goals as goal

pub returns-clause-started : goal.returns-clause-started
returns-clause-started c =
    starts_told c.args.self.now c.args.line.now c.take_line.result c.take_line.new.self (subst (λ (l : Life). IsWithin l.running l.config.cores) c.self.view_is c.self.invariant.within) c.take_line.ensures
