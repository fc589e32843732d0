use Rattle.std.proofs.Common.{◌+◌, ◌-◌, List, ℕ, ◌++◌, take, drop, arith, ◌∙◌, ap}
use Rattle.cue_io.proofs.RangeLemmas.{range_more, range_same, on_any}
use Rattle.cue_io.proofs.window.Window.fill.Goals as goal

pub returns-in_err-count-clause-err : goal.returns-in_err-count-clause-err
returns-in_err-count-clause-err g c =
    let at = c.with_capacity-start.result in
    let to : ℕ = at + (c.self.inside.end - c.self.inside.start) in
    let len = c.read_into.ensures.len ∙ c.with_capacity-start.ensures.len in
    let held =
    range_same c.read_into.new.buffer.items c.with_capacity-start.new.buffer.items at to (omega arith) c.read_into.ensures.before
    ∙ c.with_capacity-start.ensures.held in
    on_any c.from_residual.result (rw (← c.self.view_is) (cc (len, held)))

pub returns-clause-ok : goal.returns-clause-ok
returns-clause-ok g c =
    let new = c.read_into.new.buffer.items in
    let at = c.with_capacity-start.result in
    let to : ℕ = at + (c.self.inside.end - c.self.inside.start) in
    let count = c.in_ok-count.count in
    let fresh : List ℕ = take count (drop to new) in
    let fills = c.in_ok-count.ensures.ok in
    let len = c.read_into.ensures.len ∙ c.with_capacity-start.ensures.len in
    let held =
    range_more new at to count (omega arith)
    ∙ ap (λ held. held ++ fresh) (range_same new c.with_capacity-start.new.buffer.items at to (omega arith) c.read_into.ensures.before
    ∙ c.with_capacity-start.ensures.held) in (
      fresh,
      record { count_is = fills.count_is; within = omega (arith, fills.within, c.min.ensures); takes = fills.takes; end = fills.end },
      rw (← c.self.view_is) (cc (len, held)),
    )
