use Rattle.std.proofs.Common.{◌≡◌, ℕ, ◌+◌, ◌==◌, arith, rules, refl, ap}
use prog.Atomic.{either}
use Rattle.booking_rule.specs.Words.{frame_place}
use Rattle.booking_table.specs.declared.doing.Doing.{Doing}
use Rattle.booking_table.specs.declared.doing.Doing.TheVariants as doing
use Rattle.booking_table.specs.declared.holds.Hold.{Hold}
use Rattle.booking_table.specs.Seats.{view}
use Rattle.booking_table.specs.Steps.{tells_of}
use Rattle.booking_table.proofs.Allowed.{moved}
use Rattle.booking_table.proofs.Claims.{may_drop}
use Rattle.booking_table.proofs.table.Table.leave_slot.Goals as goal

pub exchange-requires-clause-may : goal.exchange-requires-clause-may
exchange-requires-clause-may c =
    let v = view c.args.seat.now in
    let id = c.args.seat.now.id in
    let law = c.steps_keep_the_rule.ensures in
    let r = c.requires in
    let h : Hold = c.args.hold.now in
    let d : Doing = doing.Drops c.args.slot c.args.version h.host h.burst.sub h.burst.cores h.burst.limit h.memory in
    let at : c.slot.inside.0 ≡ c.args.slot = search rules in
    let place : c.slot.inside.0 + 1 ≡ frame_place c.args.slot = ap (λ (x : ℕ). x + 1) at in
    let amount : ◌≡◌ {A = ℕ} 0 0 = refl in (
      omega (arith, place, r.formed.0),
      moved (tells_of d) v id (λ (x n : ℕ). either (n == c.args.old) c.args.new n) (c.slot.inside.0 + 1) (frame_place c.args.slot) 0 0 place amount
          (may_drop law v id c.args.slot c.args.version h.host h.burst.sub h.burst.cores h.burst.limit h.memory c.args.old c.args.new r.old_word r.new_word
          (λ s. (r.seated, r.formed, r.held))),
    )
