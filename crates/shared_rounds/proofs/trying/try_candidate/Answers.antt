use Rattle.std.proofs.Common.{subst}
use Rattle.farm_types.specs.Dispatch.{book_entry}
use Rattle.booking_table.specs.declared.holds.Claim.{Claim}
use Rattle.shared_bot.specs.booking_recorder.specs.Claims.{entry_for}
use Rattle.shared_rounds.specs.Rounds.{Gains}
use Rattle.shared_rounds.specs.Tries.{Confirms}
use Rattle.shared_rounds.proofs.Sought.{free_on, grows_on, holds_none}
use Rattle.shared_rounds.proofs.Tried.{claim_tries, gains_before, lost_gains, lost_tries}
use Rattle.shared_rounds.proofs.Walked.{grows_then}
use Rattle.shared_rounds.proofs.trying.try_candidate.Goals as goal

pub claim_candidate-requires-clause-holds : goal.claim_candidate-requires-clause-holds
claim_candidate-requires-clause-holds g c = holds_none g.N.Opened.opening c.args.pass.now.view c.requires.free

pub confirm_beside-requires-clause-free : goal.confirm_beside-requires-clause-free
confirm_beside-requires-clause-free g c =
    free_on g.N.Opened.opening c.args.pass.now.view c.claim_candidate.new.pass.view c.requires.free c.claim_candidate.ensures.goes

pub returns-in-Ok-clause-grows : goal.returns-in-Ok-clause-grows
returns-in-Ok-clause-grows g c =
    let v = c.args.pass.now.view in
    let u = c.claim_candidate.new.pass.view in
    grows_then v u c.confirm_beside.new.pass.view (grows_on v u c.claim_candidate.ensures.goes.steps) c.confirm_beside.ensures.grows

pub returns-in-Ok-clause-tries : goal.returns-in-Ok-clause-tries
returns-in-Ok-clause-tries g c =
    let u = c.claim_candidate.new.pass in
    let w = c.confirm_beside.new.pass in
    let r = c.confirm_beside.result in
    let has = c.in-Ok.ensures.answer in
    claim_tries c.args.candidate.now c.args.moment c.args.pass.now u w has.0 r (record { frame = has.2; faults = c.claim_candidate.ensures.faults })
    (subst (λ (x : Claim). Confirms x c.args.moment u r w) has.1 c.confirm_beside.ensures.confirms)

pub returns-in-Ok-clause-gains : goal.returns-in-Ok-clause-gains
returns-in-Ok-clause-gains g c =
    let u = c.claim_candidate.new.pass.view in
    let w = c.confirm_beside.new.pass.view in
    let r = c.confirm_beside.result in
    let has = c.in-Ok.ensures.answer in
    gains_before (book_entry c.args.candidate.now c.args.moment) c.args.pass.now.view u w r c.claim_candidate.ensures.goes.steps
    (subst (λ (x : Claim). Gains (entry_for x c.args.moment) u r w) has.1 c.confirm_beside.ensures.gains)

pub returns-in-Err-clause-free : goal.returns-in-Err-clause-free
returns-in-Err-clause-free g c =
    free_on g.N.Opened.opening c.args.pass.now.view c.claim_candidate.new.pass.view c.requires.free c.claim_candidate.ensures.goes

pub returns-in-Err-clause-grows : goal.returns-in-Err-clause-grows
returns-in-Err-clause-grows g c = grows_on c.args.pass.now.view c.claim_candidate.new.pass.view c.claim_candidate.ensures.goes.steps

pub returns-in-Err-clause-tries : goal.returns-in-Err-clause-tries
returns-in-Err-clause-tries g c =
    lost_tries c.args.candidate.now c.args.moment c.args.pass.now c.claim_candidate.new.pass c.in-Err.lost c.in-Err.ensures.answer c.claim_candidate.ensures.faults

pub returns-in-Err-clause-gains : goal.returns-in-Err-clause-gains
returns-in-Err-clause-gains g c =
    lost_gains c.args.candidate.now (book_entry c.args.candidate.now c.args.moment) c.args.pass.now.view c.claim_candidate.new.pass.view c.in-Err.lost
    c.in-Err.ensures.answer c.claim_candidate.ensures.goes.steps
