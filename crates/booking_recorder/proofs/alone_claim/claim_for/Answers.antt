use Rattle.std.proofs.Common.{[], ◌∷◌}
use Rattle.std.proofs.lemmas.Bool.{false≢true}
use Rattle.booking_rule.specs.Views.{room_of, take_of}
use Rattle.booking_table.specs.Seats.{view}
use Rattle.booking_recorder.specs.Alone.{places_in}
use Rattle.booking_recorder.proofs.AloneClaims.{claimed_alone, has_hold, seen_for_it, shows_seen, suits_it}
use Rattle.booking_recorder.proofs.AloneViews.{alone_of, is_idle, one_seat}
use Rattle.booking_recorder.proofs.alone_claim.claim_for.Goals as goal

pub claim-requires-clause-may : goal.claim-requires-clause-may
claim-requires-clause-may c =
    let v = view c.args.seat.now in
    let ts = take_of c.args.sub c.args.seen.cores ∷ [] in
    let ls = places_in c.args.seen.limit in
    let rs = room_of c.args.host c.args.seen.cores c.args.seen.memory ∷ [] in
    (one_seat ts ls rs [] v c.requires.held, is_idle ts ls rs [] v c.requires.held)

pub claim-requires-clause-held : goal.claim-requires-clause-held
claim-requires-clause-held c =
    has_hold c.args.farm.now c.args.sub c.args.host c.args.seen c.requires.wanted c.args.hold c.requires.hold (view c.args.seat.now) c.requires.held

pub claim-requires-clause-seen : goal.claim-requires-clause-seen
claim-requires-clause-seen c =
    seen_for_it c.args.farm.now c.args.sub c.args.host c.args.seen c.requires.wanted c.args.hold c.requires.hold

pub claim-requires-clause-suits : goal.claim-requires-clause-suits
claim-requires-clause-suits c =
    suits_it c.args.farm.now c.args.sub c.args.host c.args.seen c.requires.wanted c.args.hold c.requires.hold (view c.args.seat.now) c.requires.leads

pub returns-in-Ok-clause-answer : goal.returns-in-Ok-clause-answer
returns-in-Ok-clause-answer c =
    claimed_alone c.args.farm.now c.args.sub c.args.host c.args.seen c.requires.wanted c.args.hold c.requires.hold (view c.args.seat.now)
    (view c.claim.new.seat) c.in-Ok.claim c.requires.leads c.requires.held c.in-Ok.ensures.answer.0 c.in-Ok.ensures.answer.1

-- no other word is found
pub give_back-requires-clause-may : goal.give_back-requires-clause-may
give_back-requires-clause-may c =
    absurd (false≢true (c.in-Err.ensures.alone
    (alone_of (take_of c.args.sub c.args.seen.cores ∷ []) (places_in c.args.seen.limit) (room_of c.args.host c.args.seen.cores c.args.seen.memory ∷ []) []
    (view c.args.seat.now) c.requires.held)
    (shows_seen c.args.farm.now (view c.args.seat.now) c.args.sub c.args.host c.args.seen c.requires.wanted c.requires.leads)))

pub give_back-requires-clause-held : goal.give_back-requires-clause-held
give_back-requires-clause-held c =
    absurd (false≢true (c.in-Err.ensures.alone
    (alone_of (take_of c.args.sub c.args.seen.cores ∷ []) (places_in c.args.seen.limit) (room_of c.args.host c.args.seen.cores c.args.seen.memory ∷ []) []
    (view c.args.seat.now) c.requires.held)
    (shows_seen c.args.farm.now (view c.args.seat.now) c.args.sub c.args.host c.args.seen c.requires.wanted c.requires.leads)))

pub give_back-requires-clause-room : goal.give_back-requires-clause-room
give_back-requires-clause-room c =
    absurd (false≢true (c.in-Err.ensures.alone
    (alone_of (take_of c.args.sub c.args.seen.cores ∷ []) (places_in c.args.seen.limit) (room_of c.args.host c.args.seen.cores c.args.seen.memory ∷ []) []
    (view c.args.seat.now) c.requires.held)
    (shows_seen c.args.farm.now (view c.args.seat.now) c.args.sub c.args.host c.args.seen c.requires.wanted c.requires.leads)))

pub returns-in-Err-clause-answer : goal.returns-in-Err-clause-answer
returns-in-Err-clause-answer c =
    absurd (false≢true (c.in-Err.ensures.alone
    (alone_of (take_of c.args.sub c.args.seen.cores ∷ []) (places_in c.args.seen.limit) (room_of c.args.host c.args.seen.cores c.args.seen.memory ∷ []) []
    (view c.args.seat.now) c.requires.held)
    (shows_seen c.args.farm.now (view c.args.seat.now) c.args.sub c.args.host c.args.seen c.requires.wanted c.requires.leads)))
