-- The words don't say where to connect.
use Rattle.std.proofs.Common.{rules, ◌≡◌, [], None}
use Rattle.cue_io.specs.Output.{Adds-none}
use Rattle.cue_io.specs.Growth.{Grows-none}
use Rattle.dialer.specs.Dials.{target_of}
use Rattle.cue_tool.specs.Programs.{output}
use Rattle.cue_tool.proofs.EndLemmas.{no_call}
use Rattle.cue_tool.proofs.ProgramLemmas.{unplaced}
use Rattle.cue_tool.proofs.program.run_program.Goals as goal

pub returns-in_default : goal.returns-in_default
returns-in_default g c =
    let none : target_of c.args.words.now ≡ None = search rules in (
      record { dialled = []; opened = []; call = no_call },
      unplaced c.args.words.now (output (g.O.Sink.written c.args.out.now) (g.O.Sink.faults c.args.out.now)) none,
      Grows-none (g.D.Dialer.dialled c.args.dialer.now),
      Grows-none (g.F.SpecFiles.opened c.args.files.now),
      Adds-none (g.O.Sink.written c.args.out.now),
    )
