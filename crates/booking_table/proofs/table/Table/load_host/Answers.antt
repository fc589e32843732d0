use Rattle.std.proofs.Common.{◌≡◌, ℕ, ◌+◌, arith, rules, refl, ap}
use Rattle.booking_rule.specs.Words.{host_place}
use Rattle.booking_table.specs.declared.doing.Doing.{Doing}
use Rattle.booking_table.specs.declared.doing.Doing.TheVariants as doing
use Rattle.booking_table.specs.Seats.{view}
use Rattle.booking_table.specs.Steps.{tells_of}
use Rattle.booking_table.proofs.Allowed.{moved}
use Rattle.booking_table.proofs.Stepping.{may_load_host}
use Rattle.booking_table.proofs.table.Table.load_host.Goals as goal

pub load-requires-clause-may : goal.load-requires-clause-may
load-requires-clause-may c =
    let v = view c.args.seat.now in
    let id = c.args.seat.now.id in
    let law = c.steps_keep_the_rule.ensures in
    let r = c.requires in
    let d : Doing = doing.LoadHost c.args.host in
    let at : c.from.result ≡ c.args.host = search rules in
    let place : c.from.result + 131073 ≡ host_place c.args.host = ap (λ (x : ℕ). x + 131073) at in
    let amount : ◌≡◌ {A = ℕ} 0 0 = refl in (
      omega (arith, place, r.within),
      moved (tells_of d) v id (λ (x n : ℕ). n) (c.from.result + 131073) (host_place c.args.host) 0 0 place amount
          (may_load_host law v id c.args.host r.within (λ s. (r.seated, omega (arith, r.within)))),
    )
