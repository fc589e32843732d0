use Rattle.std.proofs.Common.{◌≡◌, ◌+◌, ℕ, suc, length, refl, subst, ◌∙◌, arith}
use Rattle.std.proofs.lemmas.Option.{slice_get_read}
use Rattle.booking_table.specs.Seats.{view}
use Rattle.recording_turns.specs.Carrying.{Goes}
use Rattle.recording_turns.proofs.CarryingTurns.{next_other, open_other, slots_done}
use Rattle.recording_turns.proofs.carrying.carry_others.Goals as goal

pub carry_other-requires-clause-slots : goal.carry_other-requires-clause-slots
carry_other-requires-clause-slots c =
    slots_done (view c.args.seat.now) c.args.farm.now c.args.turns.now c.args.resized.now c.loop-turn.turn-index (view c.loop-turn.seat)
    c.loop-turn.invariant.goes

pub carry_other-requires-clause-opens : goal.carry_other-requires-clause-opens
carry_other-requires-clause-opens c =
    let ts = c.args.turns.now in
    let i = c.loop-turn.turn-index in
    let t = c.turn-item.result in
    let at = slice_get_read ts (length ts) i t refl c.loop-turn-test.true c.turn-item.is in
    open_other (view c.args.seat.now) c.args.farm.now ts c.args.resized.now (length ts) i (view c.loop-turn.seat) t c.loop-turn.invariant.goes at

pub loop-turn-preserved : goal.loop-turn-preserved
loop-turn-preserved c =
    let old = c.args.seat.now in
    let g = c.args.farm.now in
    let ts = c.args.turns.now in
    let resized = c.args.resized.now in
    let i = c.loop-turn.turn-index in
    let t = c.turn-item.result in
    let was = view c.loop-turn.seat in
    let now = view c.carry_other.new.seat in
    let at = slice_get_read ts (length ts) i t refl c.loop-turn-test.true c.turn-item.is in
    let next = next_other (view old) g ts resized (length ts) i was now t c.loop-turn.invariant.goes at
    c.carry_other.ensures.going c.carry_other.ensures.carried in
    let one : suc i ≡ i + 1 = omega arith in
    let same = c.carry_other.ensures.same in
    let before = c.loop-turn.invariant.same in
    record {
      same = (same.0 ∙ before.0, same.1 ∙ before.1, same.2);
      goes = subst (λ (n : ℕ). Goes (view old) g ts resized (length ts) n now) one next;
    }
