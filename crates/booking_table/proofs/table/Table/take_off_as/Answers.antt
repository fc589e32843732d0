use Rattle.std.proofs.Common.{ℕ, arith, sym, ◌∙◌, ◌+◌, ◌-◌, ◌%◌, ◌^◌}
use Rattle.booking_table.proofs.Allowed.{allows}
use Rattle.booking_table.proofs.table.Table.take_off_as.Goals as goal

pub fetch_sub-requires : goal.fetch_sub-requires
fetch_sub-requires g c = (
  c.requires.table.0 ∙ sym c.self.view_is,
  omega (arith, c.self.invariant, c.requires.may.0),
  allows g.E.Telling.tells _ _ _ c.args.word c.args.amount 0 (λ (n : ℕ). (n + (2 ^ 64 - c.args.amount)) % 2 ^ 64) c.requires.may.1,
)
