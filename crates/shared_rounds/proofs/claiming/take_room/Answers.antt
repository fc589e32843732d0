use Rattle.std.proofs.Common.{[], ◌∷◌, ◌∙◌, ap, sym, subst}
use Rattle.booking_rule.specs.Views.{take_of}
use Rattle.booking_core.specs.Kinds.{gave_burst}
use Rattle.booking_table.specs.declared.holds.BurstHold.{BurstHold}
use Rattle.booking_table.specs.Calls.{IsRoomTaken, IsShort, place_given}
use Rattle.booking_table.specs.Holds.{IsBurst, hold_of}
use Rattle.shared_bot.specs.booking_recorder.specs.Alone.{places_in}
use Rattle.shared_rounds.specs.Steps.{GivesBurst}
use Rattle.shared_rounds.proofs.Held.{burst_back, goes_then, room_lost, room_taken}
use Rattle.shared_rounds.proofs.Sought.{has_burst, is_burst, wanted_on}
use Rattle.shared_rounds.proofs.claiming.take_room.Goals as goal

pub take_host-requires-clause-burst : goal.take_host-requires-clause-burst
take_host-requires-clause-burst g c =
    subst IsBurst (sym c.requires.burst) (is_burst c.args.pass.now.view c.args.candidate.now c.args.seen c.requires.wanted)

pub take_host-requires-clause-within : goal.take_host-requires-clause-within
take_host-requires-clause-within g c = (c.requires.wanted.due.host, c.requires.wanted.memory)

pub take_frame-requires-clause-wanted : goal.take_frame-requires-clause-wanted
take_frame-requires-clause-wanted g c =
    let v = c.args.pass.now.view in
    let u = c.take_host.new.self.view in
    let seen = c.args.seen in
    let took = subst (λ (b : BurstHold). IsRoomTaken v c.args.candidate.now.host b.cores seen.memory u) c.requires.burst c.in-Ok.ensures.answer.1 in
    let goes = room_taken (take_of c.args.candidate.now.sub seen.cores ∷ []) (places_in seen.limit) v u c.args.candidate.now.host seen.cores seen.memory c.requires.holds took in
    wanted_on v u c.args.candidate.now seen goes.steps c.requires.wanted

pub take_frame-requires-clause-holds : goal.take_frame-requires-clause-holds
take_frame-requires-clause-holds g c =
    let v = c.args.pass.now.view in
    let u = c.take_host.new.self.view in
    let seen = c.args.seen in
    let took = subst (λ (b : BurstHold). IsRoomTaken v c.args.candidate.now.host b.cores seen.memory u) c.requires.burst c.in-Ok.ensures.answer.1 in
    (room_taken (take_of c.args.candidate.now.sub seen.cores ∷ []) (places_in seen.limit) v u c.args.candidate.now.host seen.cores seen.memory c.requires.holds took).holds

pub take_frame-requires-clause-hold : goal.take_frame-requires-clause-hold
take_frame-requires-clause-hold g c =
    c.in-Ok.ensures.answer.0 ∙ ap (λ (b : BurstHold). hold_of b c.args.candidate.now.host c.args.seen.memory) c.requires.burst

pub returns-in-Ok-clause-goes : goal.returns-in-Ok-clause-goes
returns-in-Ok-clause-goes g c =
    let v = c.args.pass.now.view in
    let u = c.take_host.new.self.view in
    let seen = c.args.seen in
    let took = subst (λ (b : BurstHold). IsRoomTaken v c.args.candidate.now.host b.cores seen.memory u) c.requires.burst c.in-Ok.ensures.answer.1 in
    let goes = room_taken (take_of c.args.candidate.now.sub seen.cores ∷ []) (places_in seen.limit) v u c.args.candidate.now.host seen.cores seen.memory c.requires.holds took in
    goes_then [] [] [] v u c.take_frame.new.pass.view goes.steps c.take_frame.ensures.goes

pub returns-in-Ok-clause-answer : goal.returns-in-Ok-clause-answer
returns-in-Ok-clause-answer g c v had =
    let u = c.args.pass.now.view in
    let took = subst (λ (b : BurstHold). IsRoomTaken u c.args.candidate.now.host b.cores c.args.seen.memory c.take_host.new.self.view) c.requires.burst c.in-Ok.ensures.answer.1 in
    c.take_frame.ensures.answer v (u, had, took)

pub give_burst-requires-clause-held : goal.give_burst-requires-clause-held
give_burst-requires-clause-held g c =
    let v = c.args.pass.now.view in
    let u = c.take_host.new.self.view in
    let seen = c.args.seen in
    let ts = take_of c.args.candidate.now.sub seen.cores ∷ [] in
    let ls = places_in seen.limit in
    let short = subst (λ (b : BurstHold). IsShort v c.args.candidate.now.host b.cores seen.memory c.in-Err.why u) c.requires.burst c.in-Err.ensures.answer.2 in
    has_burst v c.args.candidate.now seen c.requires.wanted c.in-Err.burst u (c.in-Err.ensures.answer.0 ∙ c.requires.burst)
    (room_lost ts ls v u c.args.candidate.now.host seen.cores seen.memory c.requires.holds c.in-Err.why short).holds

pub returns-in-Err-clause-goes : goal.returns-in-Err-clause-goes
returns-in-Err-clause-goes g c =
    let v = c.args.pass.now.view in
    let u = c.take_host.new.self.view in
    let w = c.give_burst.new.self.view in
    let seen = c.args.seen in
    let sub = c.args.candidate.now.sub in
    let short = subst (λ (b : BurstHold). IsShort v c.args.candidate.now.host b.cores seen.memory c.in-Err.why u) c.requires.burst c.in-Err.ensures.answer.2 in
    let goes = room_lost (take_of sub seen.cores ∷ []) (places_in seen.limit) v u c.args.candidate.now.host seen.cores seen.memory c.requires.holds c.in-Err.why short in
    let given = c.give_burst.ensures.given in
    let is = c.in-Err.ensures.answer.0 ∙ c.requires.burst in
    goes_then [] [] [] v u w goes.steps
    (burst_back u w seen.limit sub seen.cores given.0 given.1 goes.holds
    (given.2 ∙ ap (λ (b : BurstHold). gave_burst (place_given u b.limit given.0) b.sub b.cores given.1) is))

pub returns-in-Err-clause-answer : goal.returns-in-Err-clause-answer
returns-in-Err-clause-answer g c v had =
    let u = c.args.pass.now.view in
    let back = c.take_host.new.self.view in
    let w = c.give_burst.new.self.view in
    let short = subst (λ (b : BurstHold). IsShort u c.args.candidate.now.host b.cores c.args.seen.memory c.in-Err.why back) c.requires.burst c.in-Err.ensures.answer.2 in
    let is = c.in-Err.ensures.answer.0 ∙ c.requires.burst in
    (c.args.seen, u, back, had, short, subst (λ (b : BurstHold). GivesBurst back b w) is c.give_burst.ensures.given)
