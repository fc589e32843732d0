use Rattle.std.proofs.Common.{ℕ, [], ◌∷◌, ◌∙◌, ap, sym, subst}
use Rattle.std.specs.Prelude.{Option, None}
use Rattle.booking_rule.specs.Views.{take_of}
use Rattle.booking_core.specs.Kinds.{gave_burst}
use Rattle.booking_table.specs.declared.holds.BurstHold.{BurstHold}
use Rattle.booking_table.specs.Calls.{place_given}
use Rattle.booking_table.specs.Holds.{IsLimit, with_place}
use Rattle.shared_bot.specs.booking_recorder.specs.Alone.{places_in}
use Rattle.shared_rounds.specs.Holding.{HoldsJust}
use Rattle.shared_rounds.specs.Steps.{GivesBurst, TakesPlace}
use Rattle.shared_rounds.proofs.Held.{burst_back, goes_then, place_lost, place_taken}
use Rattle.shared_rounds.proofs.Sought.{has_cores, wanted_on}
use Rattle.shared_rounds.proofs.claiming.take_place_in.Goals as goal

pub take_limit-requires-clause-within : goal.take_limit-requires-clause-within
take_limit-requires-clause-within g c = subst (λ (o : Option ℕ). IsLimit o) c.requires.limit c.requires.wanted.limit

pub take_limit-requires-clause-none : goal.take_limit-requires-clause-none
take_limit-requires-clause-none g c = ap (λ (b : BurstHold). b.limit) c.requires.burst

pub take_room-requires-clause-wanted : goal.take_room-requires-clause-wanted
take_room-requires-clause-wanted g c =
    let v = c.args.pass.now.view in
    let u = c.take_limit.new.self.view in
    let goes = place_taken (take_of c.args.candidate.now.sub c.args.seen.cores ∷ []) v u c.args.limit c.requires.holds c.in-Ok.ensures.answer.1 in
    wanted_on v u c.args.candidate.now c.args.seen goes.steps c.requires.wanted

pub take_room-requires-clause-holds : goal.take_room-requires-clause-holds
take_room-requires-clause-holds g c =
    let v = c.args.pass.now.view in
    let u = c.take_limit.new.self.view in
    let ts = take_of c.args.candidate.now.sub c.args.seen.cores ∷ [] in
    let goes = place_taken ts v u c.args.limit c.requires.holds c.in-Ok.ensures.answer.1 in
    subst (λ (o : Option ℕ). HoldsJust ts (places_in o) [] u) (sym c.requires.limit) goes.holds

pub take_room-requires-clause-burst : goal.take_room-requires-clause-burst
take_room-requires-clause-burst g c =
    c.in-Ok.ensures.answer.0
    ∙ (ap (λ (b : BurstHold). with_place b c.args.limit) c.requires.burst
    ∙ λ i. record { sub = c.args.candidate.now.sub; cores = c.args.seen.cores; limit = sym c.requires.limit i })

pub returns-in-Ok-clause-goes : goal.returns-in-Ok-clause-goes
returns-in-Ok-clause-goes g c =
    let v = c.args.pass.now.view in
    let u = c.take_limit.new.self.view in
    let goes = place_taken (take_of c.args.candidate.now.sub c.args.seen.cores ∷ []) v u c.args.limit c.requires.holds c.in-Ok.ensures.answer.1 in
    goes_then [] [] [] v u c.take_room.new.pass.view goes.steps c.take_room.ensures.goes

pub returns-in-Ok-clause-answer : goal.returns-in-Ok-clause-answer
returns-in-Ok-clause-answer g c v had =
    let u = c.args.pass.now.view in
    c.take_room.ensures.answer v
    (u, had, subst (λ (o : Option ℕ). TakesPlace u o c.take_limit.new.self.view) (sym c.requires.limit) c.in-Ok.ensures.answer.1)

pub give_burst-requires-clause-held : goal.give_burst-requires-clause-held
give_burst-requires-clause-held g c =
    let v = c.args.pass.now.view in
    let u = c.take_limit.new.self.view in
    let ts = take_of c.args.candidate.now.sub c.args.seen.cores ∷ [] in
    has_cores v c.args.candidate.now c.args.seen c.requires.wanted c.in-Err.burst u (c.in-Err.ensures.answer.0 ∙ c.requires.burst)
    (place_lost ts v u c.args.limit c.requires.holds c.in-Err.why c.in-Err.ensures.answer.1).holds

pub returns-in-Err-clause-goes : goal.returns-in-Err-clause-goes
returns-in-Err-clause-goes g c =
    let v = c.args.pass.now.view in
    let u = c.take_limit.new.self.view in
    let w = c.give_burst.new.self.view in
    let sub = c.args.candidate.now.sub in
    let cores = c.args.seen.cores in
    let goes = place_lost (take_of sub cores ∷ []) v u c.args.limit c.requires.holds c.in-Err.why c.in-Err.ensures.answer.1 in
    let given = c.give_burst.ensures.given in
    let is = c.in-Err.ensures.answer.0 ∙ c.requires.burst in
    goes_then [] [] [] v u w goes.steps
    (burst_back u w None sub cores given.0 given.1 goes.holds
    (given.2 ∙ ap (λ (b : BurstHold). gave_burst (place_given u b.limit given.0) b.sub b.cores given.1) is))

pub returns-in-Err-clause-answer : goal.returns-in-Err-clause-answer
returns-in-Err-clause-answer g c v had =
    let u = c.take_limit.new.self.view in
    let w = c.give_burst.new.self.view in
    let is = c.in-Err.ensures.answer.0 ∙ c.requires.burst in (
      c.args.seen,
      c.args.limit,
      c.args.pass.now.view,
      u,
      had,
      c.requires.limit,
      c.in-Err.ensures.answer.1,
      subst (λ (b : BurstHold). GivesBurst u b w) is c.give_burst.ensures.given,
    )
