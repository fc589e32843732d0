use Rattle.std.proofs.Common.{arith, sym, ◌∙◌}
use Rattle.booking_rule.proofs.Notes.{allows_join}
use Rattle.booking_rule.proofs.Settling.{allows_see}
use Rattle.booking_table.proofs.table.Table.learn.Goals as goal

pub join_seat-requires : goal.join_seat-requires
join_seat-requires c = (
  c.requires.table.0 ∙ sym c.self.view_is,
  c.requires.note.0.0 ∙ sym c.self.view_is,
  c.requires.note.0.1,
  omega (arith, c.self.invariant),
  allows_join _ _ _ _ c.requires.note.1,
)

pub load-requires : goal.load-requires
load-requires c = (c.join_seat.ensures.0 ∙ c.requires.table.0 ∙ sym c.self.view_is, omega (arith, c.self.invariant), allows_see _ _ _)
