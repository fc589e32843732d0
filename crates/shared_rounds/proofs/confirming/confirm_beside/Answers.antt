use Rattle.shared_rounds.proofs.Booked.{booked_gains}
use Rattle.shared_rounds.proofs.Tried.{left_confirms, left_free, left_gains, left_grows}
use Rattle.std.proofs.Common.{subst}
use Rattle.booking_table.specs.declared.holds.Claim.{Claim}
use Rattle.booking_table.specs.Calls.{IsDropped}
use Rattle.shared_rounds.proofs.confirming.confirm_beside.Goals as goal

pub returns-in-Ok-clause-gains : goal.returns-in-Ok-clause-gains
returns-in-Ok-clause-gains g c = booked_gains c.args.claim c.args.moment c.in-Ok.row c.args.pass.now c.confirm_locked.new.pass c.in-Ok.ensures.answer

-- it is let go
pub returns-in-Err-clause-free : goal.returns-in-Err-clause-free
returns-in-Err-clause-free g c =
    let u = c.confirm_locked.new.pass in
    let w = c.drop_claim.new.self in
    let drops = subst (λ (x : Claim). IsDropped u.view x c.drop_claim.result w.view) c.in-Err.ensures.answer.0 c.drop_claim.ensures.answer in
    left_free g.N.Opened.opening c.args.claim c.in-Err.why c.args.pass.now u w c.drop_claim.result c.confirm_locked.ensures.free c.in-Err.ensures.answer.1 drops

pub returns-in-Err-clause-grows : goal.returns-in-Err-clause-grows
returns-in-Err-clause-grows g c =
    let u = c.confirm_locked.new.pass in
    let w = c.drop_claim.new.self in
    let drops = subst (λ (x : Claim). IsDropped u.view x c.drop_claim.result w.view) c.in-Err.ensures.answer.0 c.drop_claim.ensures.answer in
    left_grows g.N.Opened.opening c.args.claim c.in-Err.why c.args.pass.now u w c.drop_claim.result c.confirm_locked.ensures.free c.in-Err.ensures.answer.1 drops
    c.confirm_locked.ensures.grows

pub returns-in-Err-clause-confirms : goal.returns-in-Err-clause-confirms
returns-in-Err-clause-confirms g c =
    let u = c.confirm_locked.new.pass in
    let w = c.drop_claim.new.self in
    let drops = subst (λ (x : Claim). IsDropped u.view x c.drop_claim.result w.view) c.in-Err.ensures.answer.0 c.drop_claim.ensures.answer in
    left_confirms g.N.Opened.opening c.args.claim c.in-Err.why c.args.pass.now u w c.drop_claim.result c.confirm_locked.ensures.free c.in-Err.ensures.answer.1 drops
    c.args.moment c.drop_claim.ensures.faults

pub returns-in-Err-clause-gains : goal.returns-in-Err-clause-gains
returns-in-Err-clause-gains g c =
    let u = c.confirm_locked.new.pass in
    let w = c.drop_claim.new.self in
    let drops = subst (λ (x : Claim). IsDropped u.view x c.drop_claim.result w.view) c.in-Err.ensures.answer.0 c.drop_claim.ensures.answer in
    left_gains g.N.Opened.opening c.args.claim c.in-Err.why c.args.pass.now u w c.drop_claim.result c.confirm_locked.ensures.free c.in-Err.ensures.answer.1 drops
