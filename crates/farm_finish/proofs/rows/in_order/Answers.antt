use Rattle.std.proofs.Common.{◌∙◌, sym, arith}
use Rattle.job_book.proofs.PlacementLemmas.PlacedLayers.{slice_get-front}
use Rattle.farm_finish.proofs.TurnLemmas.LeavingAt.{slice_get-behind}
use Rattle.farm_finish.proofs.rows.in_order.Goals as goal

pub returns-then-place-before : goal.returns-then-place-before
returns-then-place-before c = c.job_at.ensures ∙ sym (slice_get-front c.args.finished.now c.args.jobs.now c.args.place (omega arith))

pub returns : goal.returns
returns c = c.job_at-2.ensures ∙ sym (slice_get-behind c.args.finished.now c.args.jobs.now c.args.place (omega arith))
