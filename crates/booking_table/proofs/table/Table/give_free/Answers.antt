use Rattle.std.proofs.Common.{◌≡◌, ℕ, ◌+◌, ◌%◌, ◌^◌, arith, rules, refl, ap}
use Rattle.booking_rule.specs.Words.{host_place}
use Rattle.booking_table.specs.declared.doing.Doing.{Doing}
use Rattle.booking_table.specs.declared.doing.Doing.TheVariants as doing
use Rattle.booking_table.specs.Seats.{view}
use Rattle.booking_table.specs.Steps.{tells_of}
use Rattle.booking_table.proofs.Allowed.{moved}
use Rattle.booking_table.proofs.Stepping.{may_give_room}
use Rattle.booking_core.specs.Kinds.{host_amounts}
use Rattle.booking_table.proofs.table.Table.give_free.Goals as goal

pub add-requires-clause-may : goal.add-requires-clause-may
add-requires-clause-may c =
    let v = view c.args.seat.now in
    let id = c.args.seat.now.id in
    let law = c.steps_keep_the_rule.ensures in
    let r = c.requires in
    let d : Doing = doing.GiveRoom c.args.host c.args.cores c.args.memory in
    let at : c.from.result ≡ c.args.host = search rules in
    let place : c.from.result + 131073 ≡ host_place c.args.host = ap (λ (x : ℕ). x + 131073) at in
    let amounts : c.pack.result ≡ host_amounts c.args.cores c.args.memory = search rules in
    let amount : c.pack.result ≡ c.pack.result = refl in (
      omega (arith, place, r.within.0),
      moved (tells_of d) v id (λ (x n : ℕ). (n + x) % 2 ^ 64) (c.from.result + 131073) (host_place c.args.host) c.pack.result c.pack.result place amount
          (may_give_room law v id c.args.host c.args.cores c.args.memory c.pack.result amounts (λ s. (r.may, r.within.0, r.held, r.room))),
    )
