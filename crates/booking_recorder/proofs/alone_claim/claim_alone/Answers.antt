use Rattle.booking_table.specs.Seats.{view}
use Rattle.booking_recorder.proofs.AloneClaims.{ended, leads_then, lost_then, want_seen}
use Rattle.booking_recorder.proofs.AloneViews.{look_went}
use Rattle.recording_turns.proofs.CarryingViews.{went_then}
use Rattle.booking_recorder.proofs.alone_claim.claim_alone.Goals as goal

-- ---- the cores

pub hold_cores-requires-clause-free : goal.hold_cores-requires-clause-free
hold_cores-requires-clause-free c = c.in-Ok.ensures.answer.goes.alone

pub hold_cores-requires-clause-leads : goal.hold_cores-requires-clause-leads
hold_cores-requires-clause-leads c =
    leads_then c.args.farm.now (view c.args.seat.now) (view c.look_for.new.seat) c.requires.leads c.in-Ok.ensures.answer.goes.went

pub hold_cores-requires-clause-wanted : goal.hold_cores-requires-clause-wanted
hold_cores-requires-clause-wanted c = want_seen c.args.farm.now c.args.slot c.args.sub c.args.host c.in-Ok.seen c.in-Ok.ensures.answer.wanted

pub returns-in-Err-hold_cores-clause-answer : goal.returns-in-Err-hold_cores-clause-answer
returns-in-Err-hold_cores-clause-answer c =
    lost_then c.args.farm.now c.args.slot c.args.sub c.args.host c.in-Ok.seen (view c.args.seat.now) (view c.look_for.new.seat) (view c.hold_cores.new.seat)
    c.in-Err-hold_cores.lost c.in-Ok.ensures.answer.wanted c.in-Ok.ensures.answer.goes.went c.in-Err-hold_cores.ensures.answer

-- ---- their place

pub hold_place-requires-clause-held : goal.hold_place-requires-clause-held
hold_place-requires-clause-held c = c.in-Ok-hold_cores.ensures.answer.1.alone

pub hold_place-requires-clause-burst : goal.hold_place-requires-clause-burst
hold_place-requires-clause-burst c = c.in-Ok-hold_cores.ensures.answer.0

pub hold_place-requires-clause-leads : goal.hold_place-requires-clause-leads
hold_place-requires-clause-leads c =
    let v = view c.args.seat.now in
    let a = view c.look_for.new.seat in
    let b = view c.hold_cores.new.seat in
    leads_then c.args.farm.now v b c.requires.leads (went_then v a b c.in-Ok.ensures.answer.goes.went c.in-Ok-hold_cores.ensures.answer.1.went)

pub hold_place-requires-clause-wanted : goal.hold_place-requires-clause-wanted
hold_place-requires-clause-wanted c = want_seen c.args.farm.now c.args.slot c.args.sub c.args.host c.in-Ok.seen c.in-Ok.ensures.answer.wanted

pub returns-in-Err-hold_place-clause-answer : goal.returns-in-Err-hold_place-clause-answer
returns-in-Err-hold_place-clause-answer c =
    let v = view c.args.seat.now in
    let a = view c.look_for.new.seat in
    let b = view c.hold_cores.new.seat in
    let went = went_then v a b c.in-Ok.ensures.answer.goes.went c.in-Ok-hold_cores.ensures.answer.1.went in
    lost_then c.args.farm.now c.args.slot c.args.sub c.args.host c.in-Ok.seen v b (view c.hold_place.new.seat) c.in-Err-hold_place.lost
    c.in-Ok.ensures.answer.wanted went c.in-Err-hold_place.ensures.answer

-- ---- their room

pub hold_room-requires-clause-held : goal.hold_room-requires-clause-held
hold_room-requires-clause-held c = c.in-Ok-hold_place.ensures.answer.1.alone

pub hold_room-requires-clause-burst : goal.hold_room-requires-clause-burst
hold_room-requires-clause-burst c = c.in-Ok-hold_place.ensures.answer.0

pub hold_room-requires-clause-leads : goal.hold_room-requires-clause-leads
hold_room-requires-clause-leads c =
    let v = view c.args.seat.now in
    let a = view c.look_for.new.seat in
    let b = view c.hold_cores.new.seat in
    let d = view c.hold_place.new.seat in
    let went = went_then v a b c.in-Ok.ensures.answer.goes.went c.in-Ok-hold_cores.ensures.answer.1.went in
    leads_then c.args.farm.now v d c.requires.leads (went_then v b d went c.in-Ok-hold_place.ensures.answer.1.went)

pub hold_room-requires-clause-wanted : goal.hold_room-requires-clause-wanted
hold_room-requires-clause-wanted c = want_seen c.args.farm.now c.args.slot c.args.sub c.args.host c.in-Ok.seen c.in-Ok.ensures.answer.wanted

pub returns-in-Err-hold_room-clause-answer : goal.returns-in-Err-hold_room-clause-answer
returns-in-Err-hold_room-clause-answer c =
    let v = view c.args.seat.now in
    let a = view c.look_for.new.seat in
    let b = view c.hold_cores.new.seat in
    let d = view c.hold_place.new.seat in
    let went = went_then v a b c.in-Ok.ensures.answer.goes.went c.in-Ok-hold_cores.ensures.answer.1.went in
    lost_then c.args.farm.now c.args.slot c.args.sub c.args.host c.in-Ok.seen v d (view c.hold_room.new.seat) c.in-Err-hold_room.lost
    c.in-Ok.ensures.answer.wanted (went_then v b d went c.in-Ok-hold_place.ensures.answer.1.went) c.in-Err-hold_room.ensures.answer

-- ---- the claim

pub claim_for-requires-clause-held : goal.claim_for-requires-clause-held
claim_for-requires-clause-held c = c.in-Ok-hold_room.ensures.answer.1.alone

pub claim_for-requires-clause-hold : goal.claim_for-requires-clause-hold
claim_for-requires-clause-hold c = c.in-Ok-hold_room.ensures.answer.0

pub claim_for-requires-clause-leads : goal.claim_for-requires-clause-leads
claim_for-requires-clause-leads c =
    let v = view c.args.seat.now in
    let a = view c.look_for.new.seat in
    let b = view c.hold_cores.new.seat in
    let d = view c.hold_place.new.seat in
    let e = view c.hold_room.new.seat in
    let went = went_then v a b c.in-Ok.ensures.answer.goes.went c.in-Ok-hold_cores.ensures.answer.1.went in
    let held = went_then v b d went c.in-Ok-hold_place.ensures.answer.1.went in
    leads_then c.args.farm.now v e c.requires.leads (went_then v d e held c.in-Ok-hold_room.ensures.answer.1.went)

pub claim_for-requires-clause-wanted : goal.claim_for-requires-clause-wanted
claim_for-requires-clause-wanted c = want_seen c.args.farm.now c.args.slot c.args.sub c.args.host c.in-Ok.seen c.in-Ok.ensures.answer.wanted

pub claim_for-requires-clause-looked : goal.claim_for-requires-clause-looked
claim_for-requires-clause-looked c =
    let a = view c.look_for.new.seat in
    let b = view c.hold_cores.new.seat in
    let d = view c.hold_place.new.seat in
    let e = view c.hold_room.new.seat in
    let held = went_then a b d c.in-Ok-hold_cores.ensures.answer.1.went c.in-Ok-hold_place.ensures.answer.1.went in
    look_went a e c.in-Ok.seen (went_then a d e held c.in-Ok-hold_room.ensures.answer.1.went) c.in-Ok.ensures.answer.look

pub returns-clause-answer : goal.returns-clause-answer
returns-clause-answer c =
    let v = view c.args.seat.now in
    let a = view c.look_for.new.seat in
    let b = view c.hold_cores.new.seat in
    let d = view c.hold_place.new.seat in
    let e = view c.hold_room.new.seat in
    let w = view c.claim_for.new.seat in
    let went = went_then v a b c.in-Ok.ensures.answer.goes.went c.in-Ok-hold_cores.ensures.answer.1.went in
    let held = went_then v b d went c.in-Ok-hold_place.ensures.answer.1.went in
    ended c.args.farm.now c.args.slot c.args.sub c.args.host c.in-Ok.seen v e w c.claim_for.result c.in-Ok.ensures.answer.wanted
    (went_then v d e held c.in-Ok-hold_room.ensures.answer.1.went) c.claim_for.ensures.answer
