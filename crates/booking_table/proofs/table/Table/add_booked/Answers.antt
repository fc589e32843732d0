use Rattle.std.proofs.Common.{◌≡◌, ℕ, ◌+◌, ◌%◌, ◌^◌, arith, rules, ap}
use Rattle.booking_rule.specs.Words.{sub_place}
use Rattle.booking_table.specs.declared.doing.Doing.{Doing}
use Rattle.booking_table.specs.declared.doing.Doing.TheVariants as doing
use Rattle.booking_table.specs.Seats.{view}
use Rattle.booking_table.specs.Steps.{tells_of}
use Rattle.booking_table.proofs.Allowed.{moved}
use Rattle.booking_table.proofs.Stepping.{may_take_burst}
use Rattle.booking_table.proofs.table.Table.add_booked.Goals as goal

pub add-requires-clause-may : goal.add-requires-clause-may
add-requires-clause-may c =
    let v = view c.args.seat.now in
    let id = c.args.seat.now.id in
    let law = c.steps_keep_the_rule.ensures in
    let r = c.requires in
    let d : Doing = doing.TakeBurst c.args.sub c.args.cores in
    let at : c.from.result ≡ c.args.sub = search rules in
    let place : c.from.result + 135169 ≡ sub_place c.args.sub = ap (λ (x : ℕ). x + 135169) at in
    let amount : c.from-2.result ≡ c.args.cores = search rules in (
      omega (arith, place, r.amounts.0),
      moved (tells_of d) v id (λ (x n : ℕ). (n + x) % 2 ^ 64) (c.from.result + 135169) (sub_place c.args.sub) c.from-2.result c.args.cores place amount
          (may_take_burst law v id c.args.sub c.args.cores (λ s. (r.free, r.amounts.0, r.amounts.1))),
    )
