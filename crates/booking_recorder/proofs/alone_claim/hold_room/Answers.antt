use Rattle.std.proofs.Common.{[], ◌∷◌, ◌∙◌, subst, sym}
use Rattle.booking_rule.specs.Views.{take_of}
use Rattle.booking_table.specs.declared.holds.BurstHold.{BurstHold}
use Rattle.booking_table.specs.Calls.{IsShort}
use Rattle.booking_table.specs.Holds.{IsBurst}
use Rattle.booking_table.specs.Seats.{view}
use Rattle.booking_recorder.specs.Alone.{places_in}
use Rattle.booking_recorder.proofs.AloneClaims.{has_burst, is_burst, room_held}
use Rattle.booking_recorder.proofs.AloneFarms.{room_lost as room_never}
use Rattle.booking_recorder.proofs.AloneViews.{alone_of, goes_then, may_return, returned, room_lost}
use Rattle.booking_recorder.proofs.alone_claim.hold_room.Goals as goal

pub take_host-requires-clause-seated : goal.take_host-requires-clause-seated
take_host-requires-clause-seated c =
    (may_return (take_of c.args.sub c.args.seen.now.cores ∷ []) (places_in c.args.seen.now.limit) [] [] (view c.args.seat.now) c.requires.held).0

pub take_host-requires-clause-burst : goal.take_host-requires-clause-burst
take_host-requires-clause-burst c =
    subst IsBurst (sym c.requires.burst) (is_burst c.args.farm.now c.args.sub c.args.host c.args.seen.now c.requires.wanted)

pub take_host-requires-clause-within : goal.take_host-requires-clause-within
take_host-requires-clause-within c = (c.requires.wanted.on_host, c.requires.wanted.memory)

pub returns-in-Ok-clause-answer : goal.returns-in-Ok-clause-answer
returns-in-Ok-clause-answer c =
    room_held c.args.farm.now c.args.sub c.args.host c.args.seen.now c.requires.wanted c.args.burst c.in-Ok.hold (view c.args.seat.now)
    (view c.take_host.new.seat) c.requires.burst c.in-Ok.ensures.answer.0 c.requires.held c.in-Ok.ensures.answer.1

pub give_burst-requires-clause-may : goal.give_burst-requires-clause-may
give_burst-requires-clause-may c =
    let v = view c.args.seat.now in
    let u = view c.take_host.new.seat in
    let ts = take_of c.args.sub c.args.seen.now.cores ∷ [] in
    let ls = places_in c.args.seen.now.limit in
    let short = subst (λ (b : BurstHold). IsShort v c.args.host b.cores c.args.seen.now.memory c.in-Err.why u) c.requires.burst c.in-Err.ensures.answer.2 in
    may_return ts ls [] [] u (room_lost ts ls v u c.args.host c.args.seen.now.cores c.args.seen.now.memory c.requires.held c.in-Err.why short).alone

pub give_burst-requires-clause-held : goal.give_burst-requires-clause-held
give_burst-requires-clause-held c =
    let v = view c.args.seat.now in
    let u = view c.take_host.new.seat in
    let ts = take_of c.args.sub c.args.seen.now.cores ∷ [] in
    let ls = places_in c.args.seen.now.limit in
    let short = subst (λ (b : BurstHold). IsShort v c.args.host b.cores c.args.seen.now.memory c.in-Err.why u) c.requires.burst c.in-Err.ensures.answer.2 in
    has_burst c.args.farm.now c.args.sub c.args.host c.args.seen.now c.requires.wanted c.in-Err.burst u (c.in-Err.ensures.answer.0 ∙ c.requires.burst)
    (room_lost ts ls v u c.args.host c.args.seen.now.cores c.args.seen.now.memory c.requires.held c.in-Err.why short).alone

pub returns-in-Err-clause-answer : goal.returns-in-Err-clause-answer
returns-in-Err-clause-answer c =
    let v = view c.args.seat.now in
    let u = view c.take_host.new.seat in
    let w = view c.give_burst.new.seat in
    let ts = take_of c.args.sub c.args.seen.now.cores ∷ [] in
    let ls = places_in c.args.seen.now.limit in
    let short = subst (λ (b : BurstHold). IsShort v c.args.host b.cores c.args.seen.now.memory c.in-Err.why u) c.requires.burst c.in-Err.ensures.answer.2 in
    let goes = room_lost ts ls v u c.args.host c.args.seen.now.cores c.args.seen.now.memory c.requires.held c.in-Err.why short in
    let given = c.give_burst.ensures.given in
    record {
      lost = tt;
      may = room_never c.args.farm.now c.args.seen.now.slot c.args.host c.args.sub c.args.seen.now c.requires.wanted v c.requires.leads ts ls u c.in-Err.why
          c.requires.held (c.in-Err.ensures.alone (alone_of ts ls [] [] v c.requires.held)) short;
      goes = goes_then [] [] [] [] v u w goes.went
          (returned u w c.in-Err.burst c.args.seen.now.limit c.args.sub c.args.seen.now.cores given.0 given.1 (c.in-Err.ensures.answer.0 ∙ c.requires.burst)
          goes.alone given.2);
    }
