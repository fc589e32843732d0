use Rattle.std.proofs.Common.{sym, arith}
use Rattle.std.specs.Bool.{⊤}
use Rattle.job_book.proofs.PlacementLemmas.Names.{repeated_here, repeated_later, existing_refuses}
use Rattle.job_book.proofs.placement.check.check_layers.Goals as goal

pub returns-then-has_name : goal.returns-then-has_name
returns-then-has_name c =
    let layers = c.args.layers.now in
    let layer = c.index-layers-place.result in
    let named = repeated_here layers c.loop-place.place layer (omega arith) c.index-layers-place.is c.loop-place.invariant (sym c.if-has_name.ensures) in
    existing_refuses ⊤ _ layer.name c.existing.result named c.existing.ensures

pub loop-place-preserved : goal.loop-place-preserved
loop-place-preserved c =
    repeated_later c.args.layers.now c.loop-place.place c.index-layers-place.result (omega arith) c.index-layers-place.is c.loop-place.invariant (sym c.if-has_name.ensures)
