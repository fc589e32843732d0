use Rattle.std.proofs.Common.{◌≡◌, ℕ, ◌+◌, ◌==◌, arith, rules, refl, ap}
use prog.Atomic.{either}
use Rattle.booking_rule.specs.Words.{host_place}
use Rattle.booking_table.specs.declared.doing.Doing.{Doing}
use Rattle.booking_table.specs.declared.doing.Doing.TheVariants as doing
use Rattle.booking_table.specs.Seats.{view}
use Rattle.booking_table.specs.Steps.{tells_of}
use Rattle.booking_table.proofs.Allowed.{moved}
use Rattle.booking_table.proofs.Stepping.{may_take_room}
use Rattle.booking_core.specs.Kinds.{host_less}
use Rattle.booking_table.proofs.table.Table.take_free.Goals as goal

pub exchange-requires-clause-may : goal.exchange-requires-clause-may
exchange-requires-clause-may c =
    let v = view c.args.seat.now in
    let id = c.args.seat.now.id in
    let law = c.steps_keep_the_rule.ensures in
    let r = c.requires in
    let d : Doing = doing.TakeRoom c.args.host c.args.cores c.args.memory c.args.free in
    let at : c.from.result ≡ c.args.host = search rules in
    let place : c.from.result + 131073 ≡ host_place c.args.host = ap (λ (x : ℕ). x + 131073) at in
    let wanted : c.pack.result ≡ host_less c.args.free c.args.cores c.args.memory = search rules in
    let amount : c.pack.result ≡ c.pack.result = refl in (
      omega (arith, place, r.within),
      moved (tells_of d) v id (λ (x n : ℕ). either (n == c.args.free) x n) (c.from.result + 131073) (host_place c.args.host) c.pack.result c.pack.result place amount
          (may_take_room law v id c.args.host c.args.cores c.args.memory c.args.free c.pack.result wanted (λ s. (r.seated, r.within, r.fits.0, r.fits.1))),
    )
