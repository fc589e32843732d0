use Rattle.std.proofs.Common.{arith, sym, ◌∙◌}
use Rattle.booking_rule.proofs.Notes.{allows_note}
use Rattle.booking_table.proofs.table.Table.note.Goals as goal

pub split_seat-requires : goal.split_seat-requires
split_seat-requires c = (c.requires.table.0 ∙ sym c.self.view_is, omega (arith, c.self.invariant), allows_note _ _)
