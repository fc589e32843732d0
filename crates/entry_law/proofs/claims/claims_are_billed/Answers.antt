use Rattle.entry_law.proofs.Billing.{bills}
use Rattle.entry_law.proofs.claims.claims_are_billed.Goals as goal

pub returns : goal.returns
returns c = bills
