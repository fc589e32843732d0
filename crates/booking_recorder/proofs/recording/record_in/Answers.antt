use Rattle.std.proofs.Common.{subst, sym}
use Rattle.farm_types.specs.Farm.{Farm}
use Rattle.farm_types.specs.Kept.{IsKeptFarm}
use Rattle.farm_types.specs.Step.{after}
use Rattle.farm_core.specs.Change.{after_change}
use Rattle.booking_table.specs.Seats.{view}
use Rattle.farm_stands.specs.Turns.{Covers}
use Rattle.recording_turns.specs.Owing.{Resizes}
use Rattle.booking_recorder.specs.Entries.{Records}
use Rattle.booking_recorder.proofs.Held.{enters_held}
use Rattle.booking_recorder.proofs.Ready.{ready_if}
use Rattle.booking_recorder.proofs.Stopped.{leads_on}
use Rattle.booking_recorder.proofs.recording.record_in.Goals as goal

pub carry_on-requires-clause-ready : goal.carry_on-requires-clause-ready
carry_on-requires-clause-ready g c =
    let f : Farm = c.args.plain.now.farm in
    let changed : Farm = after_change f c.args.change in
    ready_if (view c.args.seat.now) (view c.take_room.new.seat) f changed c.read-in-Ok-take_room.result.now c.args.entry.now c.as_slice.result.now
    c.resized_by-resized.result c.in-Ok-take_room.room c.record_plain-recorded.result c.requires.rests c.requires.leads
    (subst IsKeptFarm c.read.ensures c.turns_for.ensures.kept) c.requires.of_entry.legal c.requires.unbooked c.requires.counted
    (subst (λ (x : Farm). Covers x (after x c.args.entry.now) c.as_slice.result.now) c.read.ensures
    (subst (Covers c.read.result.now (after c.read.result.now c.args.entry.now)) (sym c.as_slice.ensures) c.in-Ok.ensures.covers))
    (subst (λ (x : Farm). Resizes x (after x c.args.entry.now) c.resized_by-resized.result) c.read-2.ensures c.resized_by-resized.ensures)
    c.requires.of_entry.makes.planned.farm c.in-Ok-take_room.ensures.answer
    (subst (λ (x : Farm). Records f changed c.record_plain-recorded.result x) (sym c.read-in-Ok-take_room.ensures) c.record_plain-recorded.ensures.farm)

pub returns-in-Ok-take_room-clause-leads : goal.returns-in-Ok-take_room-clause-leads
returns-in-Ok-take_room-clause-leads g c =
    leads_on c.args.plain.now.farm (after_change c.args.plain.now.farm c.args.change) c.record_plain-recorded.new.plain.farm (view c.args.seat.now)
    (view c.carry_on.new.seat) c.args.entry.now c.record_plain-recorded.result c.requires.leads c.requires.of_entry.makes.planned.farm
    c.record_plain-recorded.ensures.farm (c.carry_on.ensures.entered (view c.args.seat.now) c.requires.rests c.in-Ok-take_room.ensures.answer)

pub returns-in-Ok-take_room-clause-held : goal.returns-in-Ok-take_room-clause-held
returns-in-Ok-take_room-clause-held g c = c.record_plain-recorded.ensures.unheld (view c.args.seat.now) (view c.carry_on.new.seat)

pub returns-clause-entered : goal.returns-clause-entered
returns-clause-entered g c =
    enters_held (view c.args.seat.now) c.read-3.result.now c.args.entry.now c.resized_by-resized.result c.in-Err.found (view c.take_room.new.seat) _
    c.unrecorded-in-Err.result c.unrecorded-in-Err.ensures c.in-Err.ensures.answer
