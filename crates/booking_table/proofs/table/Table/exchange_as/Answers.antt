use Rattle.std.proofs.Common.{ℕ, arith, sym, ◌∙◌, ◌==◌}
use prog.Atomic.{either}
use Rattle.booking_table.proofs.Allowed.{allows}
use Rattle.booking_table.proofs.table.Table.exchange_as.Goals as goal

pub compare_exchange-requires : goal.compare_exchange-requires
compare_exchange-requires g c = (
  c.requires.table.0 ∙ sym c.self.view_is,
  omega (arith, c.self.invariant, c.requires.may.0),
  allows g.E.Telling.tells _ _ _ c.args.word c.args.old c.args.new (λ (n : ℕ). either (n == c.args.old) c.args.new n) c.requires.may.1,
)
