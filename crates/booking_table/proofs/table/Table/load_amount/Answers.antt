use Rattle.std.proofs.Common.{◌≡◌, ℕ, ◌+◌, arith, rules, refl, ap}
use Rattle.booking_rule.specs.Words.{amount_place}
use Rattle.booking_table.specs.declared.doing.Doing.{Doing}
use Rattle.booking_table.specs.declared.doing.Doing.TheVariants as doing
use Rattle.booking_table.specs.Seats.{view}
use Rattle.booking_table.specs.Steps.{tells_of}
use Rattle.booking_table.proofs.Allowed.{moved}
use Rattle.booking_table.proofs.Claims.{may_load_amount}
use Rattle.booking_table.proofs.table.Table.load_amount.Goals as goal

pub load-requires-clause-may : goal.load-requires-clause-may
load-requires-clause-may c =
    let v = view c.args.seat.now in
    let id = c.args.seat.now.id in
    let law = c.steps_keep_the_rule.ensures in
    let r = c.requires in
    let d : Doing = doing.LoadAmount c.args.slot in
    let at : c.slot.inside.0 ≡ c.args.slot = search rules in
    let place : c.slot.inside.0 + 65537 ≡ amount_place c.args.slot = ap (λ (x : ℕ). x + 65537) at in
    let amount : ◌≡◌ {A = ℕ} 0 0 = refl in (
      omega (arith, place, r.within),
      moved (tells_of d) v id (λ (x n : ℕ). n) (c.slot.inside.0 + 65537) (amount_place c.args.slot) 0 0 place amount
          (may_load_amount law v id c.args.slot r.within (λ s. (r.seated, omega (arith, r.within)))),
    )
