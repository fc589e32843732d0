-- The words don't say where to connect.
use Rattle.std.proofs.Common.{rules, ◌≡◌, [], None}
use Rattle.cue_io.specs.Growth.{Grows-none}
use Rattle.dialer.specs.Dials.{target_of}
use Rattle.rqd_session.specs.Programs.{spawning}
use Rattle.rqd_session.proofs.EndLemmas.{no_call}
use Rattle.rqd_session.proofs.ProgramLemmas.{unplaced}
use Rattle.rqd_session.proofs.program.run_program.Goals as goal

pub returns-in_default : goal.returns-in_default
returns-in_default g c =
    let none : target_of c.args.words.now ≡ None = search rules in (
      record { dialled = []; call = no_call },
      unplaced c.args.words.now (spawning (g.P.Spawner.calls c.args.spawner.now) (g.P.Spawner.faults c.args.spawner.now)) none,
      Grows-none (g.D.Dialer.dialled c.args.dialer.now),
    )
