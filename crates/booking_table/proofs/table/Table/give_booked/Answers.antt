use Rattle.std.proofs.Common.{◌≡◌, ℕ, ◌+◌, ◌-◌, ◌%◌, ◌^◌, arith, rules, ap}
use Rattle.booking_rule.specs.Words.{sub_place}
use Rattle.booking_table.specs.declared.doing.Doing.{Doing}
use Rattle.booking_table.specs.declared.doing.Doing.TheVariants as doing
use Rattle.booking_table.specs.Seats.{view}
use Rattle.booking_table.specs.Steps.{tells_of}
use Rattle.booking_table.proofs.Allowed.{moved}
use Rattle.booking_table.proofs.Stepping.{may_give_burst}
use Rattle.booking_table.proofs.table.Table.give_booked.Goals as goal

pub take_off-requires-clause-may : goal.take_off-requires-clause-may
take_off-requires-clause-may c =
    let v = view c.args.seat.now in
    let id = c.args.seat.now.id in
    let law = c.steps_keep_the_rule.ensures in
    let r = c.requires in
    let d : Doing = doing.GiveBurst c.args.sub c.args.cores in
    let at : c.from.result ≡ c.args.sub = search rules in
    let place : c.from.result + 135169 ≡ sub_place c.args.sub = ap (λ (x : ℕ). x + 135169) at in
    let amount : c.from-2.result ≡ c.args.cores = search rules in (
      omega (arith, place, r.within),
      moved (tells_of d) v id (λ (x n : ℕ). (n + (2 ^ 64 - x)) % 2 ^ 64) (c.from.result + 135169) (sub_place c.args.sub) c.from-2.result c.args.cores place amount
          (may_give_burst law v id c.args.sub c.args.cores (λ s. (r.may, r.within, r.held))),
    )
