use Rattle.std.proofs.Common.{ℕ, [], ◌∷◌, ◌∙◌, ap, subst}
use Rattle.std.specs.Prelude.{Option, None}
use Rattle.booking_rule.specs.Views.{take_of}
use Rattle.booking_table.specs.declared.holds.BurstHold.{BurstHold}
use Rattle.booking_table.specs.Holds.{IsLimit}
use Rattle.booking_table.specs.Seats.{view}
use Rattle.booking_recorder.proofs.AloneClaims.{has_cores, some_placed}
use Rattle.booking_recorder.proofs.AloneFarms.{place_lost as place_never}
use Rattle.booking_recorder.proofs.AloneViews.{alone_of, goes_then, may_return, may_take, place_lost, returned}
use Rattle.booking_recorder.proofs.alone_claim.place_for.Goals as goal

pub take_limit-requires-clause-free : goal.take_limit-requires-clause-free
take_limit-requires-clause-free c = may_take (take_of c.args.sub c.args.seen.now.cores ∷ []) [] [] [] (view c.args.seat.now) c.requires.held

pub take_limit-requires-clause-within : goal.take_limit-requires-clause-within
take_limit-requires-clause-within c = subst (λ (o : Option ℕ). IsLimit o) c.requires.limit c.requires.wanted.limit

pub take_limit-requires-clause-none : goal.take_limit-requires-clause-none
take_limit-requires-clause-none c = ap (λ (b : BurstHold). b.limit) c.requires.burst

pub returns-in-Ok-clause-answer : goal.returns-in-Ok-clause-answer
returns-in-Ok-clause-answer c =
    some_placed c.args.farm.now c.args.sub c.args.host c.args.seen.now c.requires.wanted c.args.burst c.in-Ok.burst c.args.limit (view c.args.seat.now)
    (view c.take_limit.new.seat) c.requires.limit c.requires.burst c.in-Ok.ensures.answer.0 c.requires.held c.in-Ok.ensures.answer.1

pub give_burst-requires-clause-may : goal.give_burst-requires-clause-may
give_burst-requires-clause-may c =
    let u = view c.take_limit.new.seat in
    let ts = take_of c.args.sub c.args.seen.now.cores ∷ [] in
    may_return ts [] [] [] u (place_lost ts (view c.args.seat.now) u c.args.limit c.requires.held c.in-Err.why c.in-Err.ensures.answer.1).alone

pub give_burst-requires-clause-held : goal.give_burst-requires-clause-held
give_burst-requires-clause-held c =
    let u = view c.take_limit.new.seat in
    let ts = take_of c.args.sub c.args.seen.now.cores ∷ [] in
    has_cores c.args.farm.now c.args.sub c.args.host c.args.seen.now c.requires.wanted c.in-Err.burst u (c.in-Err.ensures.answer.0 ∙ c.requires.burst)
    (place_lost ts (view c.args.seat.now) u c.args.limit c.requires.held c.in-Err.why c.in-Err.ensures.answer.1).alone

pub returns-in-Err-clause-answer : goal.returns-in-Err-clause-answer
returns-in-Err-clause-answer c =
    let v = view c.args.seat.now in
    let u = view c.take_limit.new.seat in
    let w = view c.give_burst.new.seat in
    let ts = take_of c.args.sub c.args.seen.now.cores ∷ [] in
    let goes = place_lost ts v u c.args.limit c.requires.held c.in-Err.why c.in-Err.ensures.answer.1 in
    let given = c.give_burst.ensures.given in
    record {
      lost = tt;
      may = place_never c.args.farm.now c.args.seen.now.slot c.args.host c.args.sub c.args.seen.now c.requires.wanted v c.requires.leads ts c.args.limit
          c.in-Err.why c.requires.held c.requires.limit (c.in-Err.ensures.alone (alone_of ts [] [] [] v c.requires.held)) c.in-Err.ensures.answer.1.4;
      goes = goes_then [] [] [] [] v u w goes.went
          (returned u w c.in-Err.burst None c.args.sub c.args.seen.now.cores given.0 given.1 (c.in-Err.ensures.answer.0 ∙ c.requires.burst) goes.alone given.2);
    }
