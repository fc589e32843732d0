use Rattle.std.proofs.Common.{ℕ, arith, sym, ◌∙◌}
use Rattle.booking_table.proofs.Allowed.{allows}
use Rattle.booking_table.proofs.table.Table.load_as.Goals as goal

pub load-requires : goal.load-requires
load-requires g c = (
  c.requires.table.0 ∙ sym c.self.view_is,
  omega (arith, c.self.invariant, c.requires.may.0),
  allows g.E.Telling.tells _ _ _ c.args.word 0 0 (λ (n : ℕ). n) c.requires.may.1,
)
