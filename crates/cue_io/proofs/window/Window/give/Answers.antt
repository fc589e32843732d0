use Rattle.std.proofs.Common.{◌+◌, ◌-◌, ◌<◌, ◌≤◌, length, drop, arith, sym, ◌∙◌, ap, subst, length-take, slice_range, add_assoc}
use Rattle.cue_io.specs.Window.{Framed}
use Rattle.cue_io.proofs.RangeLemmas.{range_front, range_rest}
use Rattle.cue_io.proofs.window.Window.give.Goals as goal

pub returns : goal.returns
returns c =
    let bytes = c.self.inside.buffer.items in
    let start = c.self.inside.start in
    let end = c.self.inside.end in
    let inside : c.args.at < length (slice_range bytes start end) =
    subst (λ (window : Framed). c.args.at < length window.held) (sym c.self.view_is) c.requires in
    let below : c.args.at + 1 ≤ end - start = omega (arith, length-take (end - start) (drop start bytes)) in
    let line = range_front bytes start end c.args.at (omega arith) in
    let held = ap (λ from. slice_range bytes from end) (add_assoc start c.args.at 1) ∙ range_rest bytes start end (c.args.at + 1) below in
    rw (← c.self.view_is) (cc (line, held))
