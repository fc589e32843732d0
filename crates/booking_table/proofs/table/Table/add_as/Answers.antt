use Rattle.std.proofs.Common.{ℕ, arith, sym, ◌∙◌, ◌+◌, ◌%◌, ◌^◌}
use Rattle.booking_table.proofs.Allowed.{allows}
use Rattle.booking_table.proofs.table.Table.add_as.Goals as goal

pub fetch_add-requires : goal.fetch_add-requires
fetch_add-requires g c = (
  c.requires.table.0 ∙ sym c.self.view_is,
  omega (arith, c.self.invariant, c.requires.may.0),
  allows g.E.Telling.tells _ _ _ c.args.word c.args.amount 0 (λ (n : ℕ). (n + c.args.amount) % 2 ^ 64) c.requires.may.1,
)
