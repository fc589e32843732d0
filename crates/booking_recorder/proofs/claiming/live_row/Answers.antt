use Rattle.std.proofs.Common.{sym, ap, ◌∙◌}
use Rattle.farm_types.specs.Farm.{Farm}
use Rattle.farm_types.specs.Run.{live_at}
use Rattle.booking_recorder.proofs.Booked.{runs_alive}
use Rattle.booking_recorder.proofs.claiming.live_row.Goals as goal

pub unreachable-requires : goal.unreachable-requires
unreachable-requires c =
    runs_alive c.args.farm.now c.args.slot c.kept.ensures c.requires
    (ap (λ (f : Farm). live_at f c.args.slot) (sym c.books.ensures.farm) ∙ sym c.live.ensures ∙ c.in-None.is)
