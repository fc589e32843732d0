-- A connection was had, or none was.
use Rattle.std.proofs.Common.{◌≡◌, Ok, Err, Result, Option, List, refl, ap, ◌∙◌, subst}
use Rattle.cue_io.specs.Growth.{Grows}
use Rattle.command_line.specs.declared.status.Status.TheVariants as exit
use Rattle.dialer.specs.declared.dial.DialFault.{DialFault}
use Rattle.dialer.specs.declared.dial.DialFault.TheVariants as dial_faults
use Rattle.dialer.specs.Dials.{Connection, Dial, Place, came_by, connected, dial_told, place_at}
use Rattle.rqd_session.specs.Programs.{spawning}
use Rattle.rqd_session.proofs.EndLemmas.{no_call}
use Rattle.rqd_session.proofs.ProgramLemmas.{ended}
use Rattle.rqd_session.proofs.program.run_connected.Goals as goal

pub returns-in-Ok : goal.returns-in-Ok
returns-in-Ok g c =
    let place : Place = place_at c.args.address.now c.args.port in
    let came : Result Connection DialFault = came_by g.D.In.Source.left g.D.In.Source.faults g.D.Out.Sink.written g.D.Out.Sink.faults c.dial.result in
    let opened : Connection = connected g.D.In.Source.left g.D.In.Source.faults g.D.Out.Sink.written g.D.Out.Sink.faults (c.in-Ok.source, c.in-Ok.sink) in
    let is : came ≡ Ok opened = ap (came_by g.D.In.Source.left g.D.In.Source.faults g.D.Out.Sink.written g.D.Out.Sink.faults) c.in-Ok.is in
    let old : Option (List Dial) = g.D.Dialer.dialled c.args.dialer.now in
    let new : Option (List Dial) = g.D.Dialer.dialled c.dial.new.self in
    let call = c.run_rqd-status.ensures.call in (
      record { dialled = dial_told place (Ok opened); call = call.0 },
      (Ok opened, refl, call.1),
      subst (λ (given : Result Connection DialFault). Grows old new (dial_told place given)) is c.dial.ensures,
    )

pub returns-in-Err-Failed : goal.returns-in-Err-Failed
returns-in-Err-Failed g c =
    let place : Place = place_at c.args.address.now c.args.port in
    let came : Result Connection DialFault = came_by g.D.In.Source.left g.D.In.Source.faults g.D.Out.Sink.written g.D.Out.Sink.faults c.dial.result in
    let is : came ≡ Err dial_faults.Failed
    = ap (came_by g.D.In.Source.left g.D.In.Source.faults g.D.Out.Sink.written g.D.Out.Sink.faults) (c.in-Err-Failed.is ∙ ap Err c.in-Err-Failed.field-0-is) in
    let old : Option (List Dial) = g.D.Dialer.dialled c.args.dialer.now in
    let new : Option (List Dial) = g.D.Dialer.dialled c.dial.new.self in (
      record { dialled = dial_told place (Err dial_faults.Failed); call = no_call },
      (
        Err dial_faults.Failed,
        refl,
        ended exit.NoConnection (spawning (g.P.Spawner.calls c.args.spawner.now) (g.P.Spawner.faults c.args.spawner.now)),
      ),
      subst (λ (given : Result Connection DialFault). Grows old new (dial_told place given)) is c.dial.ensures,
    )

pub returns-in-Err-NoMemory : goal.returns-in-Err-NoMemory
returns-in-Err-NoMemory g c =
    let place : Place = place_at c.args.address.now c.args.port in
    let came : Result Connection DialFault = came_by g.D.In.Source.left g.D.In.Source.faults g.D.Out.Sink.written g.D.Out.Sink.faults c.dial.result in
    let is : came ≡ Err dial_faults.NoMemory
    = ap (came_by g.D.In.Source.left g.D.In.Source.faults g.D.Out.Sink.written g.D.Out.Sink.faults) (c.in-Err-NoMemory.is ∙ ap Err c.in-Err-NoMemory.field-0-is) in
    let old : Option (List Dial) = g.D.Dialer.dialled c.args.dialer.now in
    let new : Option (List Dial) = g.D.Dialer.dialled c.dial.new.self in (
      record { dialled = dial_told place (Err dial_faults.NoMemory); call = no_call },
      (
        Err dial_faults.NoMemory,
        refl,
        ended exit.NoMemory (spawning (g.P.Spawner.calls c.args.spawner.now) (g.P.Spawner.faults c.args.spawner.now)),
      ),
      subst (λ (given : Result Connection DialFault). Grows old new (dial_told place given)) is c.dial.ensures,
    )
