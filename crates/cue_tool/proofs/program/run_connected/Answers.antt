-- A connection was had, or none was.
use Rattle.std.proofs.Common.{◌≡◌, ℕ, List, Ok, Err, None, Some, Option, Result, refl, ap, sym, ◌∙◌, subst, option_map}
use Rattle.command_line.specs.declared.status.Status.TheVariants as exit
use Rattle.cue_io.specs.Output.{Adds-none}
use Rattle.dialer.specs.declared.dial.DialFault.{DialFault}
use Rattle.dialer.specs.declared.dial.DialFault.TheVariants as dial_faults
use Rattle.dialer.specs.Dials.{Connection, came_by, connected, dial_told, place_at}
use Rattle.cue_tool.specs.Programs.{Connects, Outcome, Output, outcome, output}
use Rattle.cue_tool.proofs.EndLemmas.{no_call}
use Rattle.cue_tool.proofs.ProgramLemmas.{ended}
use Rattle.cue_tool.proofs.program.run_connected.Goals as goal

pub returns-in-Ok : goal.returns-in-Ok
returns-in-Ok g c =
    let spec : Option (List ℕ) = option_map (λ text. text.now) c.args.spec in
    let joined : Result Connection DialFault = came_by g.D.In.Source.left g.D.In.Source.faults g.D.Out.Sink.written g.D.Out.Sink.faults c.dial.result in
    let began : Connection = connected g.D.In.Source.left g.D.In.Source.faults g.D.Out.Sink.written g.D.Out.Sink.faults c.in-Ok.ends in
    let is : joined ≡ Ok began = ap (came_by g.D.In.Source.left g.D.In.Source.faults g.D.Out.Sink.written g.D.Out.Sink.faults) c.in-Ok.is in
    let came : Outcome = outcome c.run_over-status.result.0
    (Some (connected g.D.In.Source.left g.D.In.Source.faults g.D.Out.Sink.written g.D.Out.Sink.faults c.run_over-status.result.1))
    (output (g.O.Sink.written c.args.out.now) (g.O.Sink.faults c.args.out.now))
    (output (g.O.Sink.written c.run_over-status.new.out) (g.O.Sink.faults c.run_over-status.new.out)) in
    let ran = c.run_over-status.ensures in (
      dial_told (place_at c.args.address.now c.args.port) joined,
      ran.0,
      record {
        joined = joined;
        once = refl;
        connects = subst (λ (given : Result Connection DialFault). Connects given c.args.words.now spec came ran.0) (sym is) ran.1;
      },
      c.dial.ensures,
      ran.2,
    )

pub returns-in-Err-Failed : goal.returns-in-Err-Failed
returns-in-Err-Failed g c =
    let spec : Option (List ℕ) = option_map (λ text. text.now) c.args.spec in
    let out : Output = output (g.O.Sink.written c.args.out.now) (g.O.Sink.faults c.args.out.now) in
    let joined : Result Connection DialFault = came_by g.D.In.Source.left g.D.In.Source.faults g.D.Out.Sink.written g.D.Out.Sink.faults c.dial.result in
    let is : joined ≡ Err dial_faults.Failed =
    ap (came_by g.D.In.Source.left g.D.In.Source.faults g.D.Out.Sink.written g.D.Out.Sink.faults) (c.in-Err-Failed.is ∙ ap Err c.in-Err-Failed.field-0-is) in
    let came : Outcome = outcome exit.NoConnection None out out in (
      dial_told (place_at c.args.address.now c.args.port) joined,
      no_call,
      record {
        joined = joined;
        once = refl;
        connects = subst (λ (given : Result Connection DialFault). Connects given c.args.words.now spec came no_call) (sym is) (ended exit.NoConnection out);
      },
      c.dial.ensures,
      Adds-none (g.O.Sink.written c.args.out.now),
    )

pub returns-in-Err-NoMemory : goal.returns-in-Err-NoMemory
returns-in-Err-NoMemory g c =
    let spec : Option (List ℕ) = option_map (λ text. text.now) c.args.spec in
    let out : Output = output (g.O.Sink.written c.args.out.now) (g.O.Sink.faults c.args.out.now) in
    let joined : Result Connection DialFault = came_by g.D.In.Source.left g.D.In.Source.faults g.D.Out.Sink.written g.D.Out.Sink.faults c.dial.result in
    let is : joined ≡ Err dial_faults.NoMemory =
    ap (came_by g.D.In.Source.left g.D.In.Source.faults g.D.Out.Sink.written g.D.Out.Sink.faults) (c.in-Err-NoMemory.is ∙ ap Err c.in-Err-NoMemory.field-0-is) in
    let came : Outcome = outcome exit.NoMemory None out out in (
      dial_told (place_at c.args.address.now c.args.port) joined,
      no_call,
      record {
        joined = joined;
        once = refl;
        connects = subst (λ (given : Result Connection DialFault). Connects given c.args.words.now spec came no_call) (sym is) (ended exit.NoMemory out);
      },
      c.dial.ensures,
      Adds-none (g.O.Sink.written c.args.out.now),
    )
