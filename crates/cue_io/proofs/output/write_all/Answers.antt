use Rattle.std.proofs.Common.{◌-◌, length, take, drop, arith, length-take, length-drop}
use Rattle.std.proofs.lemmas.List.{take_rest}
use Rattle.std.proofs.Math.Seq.{take-add}
use Rattle.cue_io.specs.Output.{Adds-append}
use Rattle.cue_io.proofs.output.write_all.Goals as goal

pub pieces-preserved : goal.pieces-preserved
pieces-preserved g c =
    let piece = c.args.piece.now in
    let at = c.pieces.at in
    let count = c.in_ok-count.count in
    let took = rw (take_rest piece at) at c.in_ok-count.ensures.adds in
    record {
      within = omega (arith, c.in_ok-count.ensures.count, length-take (length piece - at) (drop at piece), length-drop at piece);
      adds = rw (take-add at count piece) (Adds-append
          (g.W.Sink.written c.args.sink.now) (g.W.Sink.written c.pieces.sink) (g.W.Sink.written c.write.new.self)
          (take at piece) (take count (drop at piece)) c.pieces.invariant.adds took);
      rises = omega (arith, c.in_ok-count.ensures.rises, c.pieces.invariant.rises);
    }
