use Rattle.std.proofs.Common.{◌≡◌, ◌+◌, ℕ, suc, length, refl, subst, ◌∙◌, arith}
use Rattle.std.proofs.lemmas.Option.{slice_get_read}
use Rattle.booking_table.specs.Seats.{view}
use Rattle.recording_turns.specs.Carrying.{Goes}
use Rattle.recording_turns.proofs.CarryingTurns.{hosts_stay, next_slot}
use Rattle.recording_turns.proofs.carrying.carry_slots.Goals as goal

pub loop-turn-preserved : goal.loop-turn-preserved
loop-turn-preserved c =
    let old = c.args.seat.now in
    let g = c.args.farm.now in
    let ts = c.args.turns.now in
    let resized = c.args.resized.now in
    let i = c.loop-turn.turn-index in
    let t = c.turn-item.result in
    let was = view c.loop-turn.seat in
    let now = view c.carry_turn.new.seat in
    let at = slice_get_read ts (length ts) i t refl c.loop-turn-test.true c.turn-item.is in
    let next = next_slot (view old) g ts resized i was now t c.loop-turn.invariant.goes at c.carry_turn.ensures.going c.carry_turn.ensures.carried in
    let one : suc i ≡ i + 1 = omega arith in
    let same = c.carry_turn.ensures.same in
    let before = c.loop-turn.invariant.same in
    record {
      same = (same.0 ∙ before.0, same.1 ∙ before.1, same.2);
      goes = subst (λ (n : ℕ). Goes (view old) g ts resized n 0 now) one next;
      hosts = hosts_stay was now g t c.loop-turn.invariant.hosts c.carry_turn.ensures.carried;
    }
