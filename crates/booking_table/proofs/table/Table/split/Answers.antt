use Rattle.std.proofs.Common.{arith, sym, ◌∙◌}
use Rattle.booking_rule.proofs.Splitting.{allows_split}
use Rattle.booking_table.proofs.table.Table.split.Goals as goal

pub split_seat-requires : goal.split_seat-requires
split_seat-requires c = (c.requires.table.0 ∙ sym c.self.view_is, omega (arith, c.self.invariant), allows_split _ _ c.requires.first)
