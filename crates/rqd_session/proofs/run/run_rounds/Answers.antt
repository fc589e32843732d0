-- Before the first round, after one more, after all, and at the one that was cut off.
use Rattle.std.proofs.Common.{◌≡◌, ◌<◌, [], ◌∷◌, ◌++◌, List, length, refl, sym, ap, ◌∙◌, Err, arith, rules, None, Some, length-append}
use Rattle.fault_counts.proofs.CountLaws.{HasRisen-earlier}
use Rattle.cue_io.specs.Input.{Takes-none}
use Rattle.cue_io.specs.Output.{Adds-none}
use Rattle.cue_io.specs.Growth.{Grows-none}
use Rattle.rqd_session.specs.Rounds.{Round}
use Rattle.rqd_session.specs.Runs.{Call, Surroundings, surroundings}
use Rattle.rqd_session.proofs.CallLemmas.{call_with, cut_more, made_more, made_none, moved_more}
use Rattle.rqd_session.proofs.EndLemmas.{all_made, cut_off, no_call, read_of, write_of}
use Rattle.rqd_launcher.proofs.Carrying.{HaveCauses-none}
use Rattle.rqd_session.proofs.run.run_rounds.Goals as goal

pub loop-round-init : goal.loop-round-init
loop-round-init g c = (
  no_call,
  record {
    moved = record {
      takes = Takes-none (g.S.Source.left c.args.source.now);
      sends = Adds-none (g.W.Sink.written c.args.sink.now);
      tells = Grows-none (g.P.Spawner.calls c.args.spawner.now);
      causes = HaveCauses-none (g.P.Spawner.faults c.args.spawner.now);
    };
    made = made_none c.args.rqd.now c.args.reader.now (g.S.Source.left c.args.source.now) c.requires;
    count = refl;
    source = omega arith;
    sink = omega arith;
  },
)

pub loop-round-preserved : goal.loop-round-preserved
loop-round-preserved g c =
    let call : Call = c.loop-round.invariant.0 in
    let now = c.loop-round.invariant.1 in
    let step = c.in-Ok.ensures.made in
    let before : Surroundings = surroundings (g.S.Source.left c.args.source.now) (g.S.Source.faults c.args.source.now) (g.W.Sink.written c.args.sink.now) (g.W.Sink.faults c.args.sink.now)
    (g.P.Spawner.calls c.args.spawner.now) (g.P.Spawner.faults c.args.spawner.now) in
    let mid : Surroundings = surroundings (g.S.Source.left c.loop-round.source) (g.S.Source.faults c.loop-round.source) (g.W.Sink.written c.loop-round.sink) (g.W.Sink.faults c.loop-round.sink)
    (g.P.Spawner.calls c.loop-round.spawner) (g.P.Spawner.faults c.loop-round.spawner) in
    let after : Surroundings = surroundings (g.S.Source.left c.run_round.new.source) (g.S.Source.faults c.run_round.new.source) (g.W.Sink.written c.run_round.new.sink)
    (g.W.Sink.faults c.run_round.new.sink) (g.P.Spawner.calls c.run_round.new.spawner) (g.P.Spawner.faults c.run_round.new.spawner) in
    let more = made_more c.args.rqd.now c.loop-round.rqd c.run_round.new.rqd call c.loop-round.reader c.run_round.new.reader mid.left after.left step.1 now.made tt step.0 step.2 step.3 in
    let rounds : List Round = call.rounds ++ more.1 ∷ [] in (
      call_with call more.0 step.1 rounds None,
      record {
        moved = moved_more before mid after call more.0 step.1.sent (step.1.polls ++ step.1.acts) rounds None now.moved more.2 step.4 step.5 step.6;
        made = more.3;
        count = omega (arith, length-append call.rounds (more.1 ∷ []), now.count);
        source = omega (arith, now.source, c.run_round.ensures.read_rises);
        sink = omega (arith, now.sink, c.run_round.ensures.write_rises);
      },
    )

pub returns-in-Err : goal.returns-in-Err
returns-in-Err g c =
    let call : Call = c.loop-round.invariant.0 in
    let now = c.loop-round.invariant.1 in
    let step = c.in-Err.ensures.made in
    let before : Surroundings = surroundings (g.S.Source.left c.args.source.now) (g.S.Source.faults c.args.source.now) (g.W.Sink.written c.args.sink.now) (g.W.Sink.faults c.args.sink.now)
    (g.P.Spawner.calls c.args.spawner.now) (g.P.Spawner.faults c.args.spawner.now) in
    let mid : Surroundings = surroundings (g.S.Source.left c.loop-round.source) (g.S.Source.faults c.loop-round.source) (g.W.Sink.written c.loop-round.sink) (g.W.Sink.faults c.loop-round.sink)
    (g.P.Spawner.calls c.loop-round.spawner) (g.P.Spawner.faults c.loop-round.spawner) in
    let after : Surroundings = surroundings (g.S.Source.left c.run_round.new.source) (g.S.Source.faults c.run_round.new.source) (g.W.Sink.written c.run_round.new.sink)
    (g.W.Sink.faults c.run_round.new.sink) (g.P.Spawner.calls c.run_round.new.spawner) (g.P.Spawner.faults c.run_round.new.spawner) in
    let early : c.loop-round._round < c.args.rounds = search (rules, arith) in
    let fewer : length call.rounds < c.args.rounds = omega (arith, early, now.count) in
    let ended = cut_more c.args.rqd.now c.loop-round.rqd c.run_round.new.rqd call c.loop-round.reader c.run_round.new.reader mid.left after.left step.1 now.made
    c.args.rounds fewer c.in-Err.cut step.0 step.2 step.3 in
    let whole : Call = call_with call ended.0 step.1 call.rounds (Some ended.1) in
    record {
      call = (
        whole,
        cut_off c.args.rqd.now c.args.rounds c.in-Err.cut c.status_of.result before after whole ended.1 c.status_of.ensures refl
            (moved_more before mid after call ended.0 step.1.sent (step.1.polls ++ step.1.acts) call.rounds (Some ended.1) now.moved ended.2 step.4 step.5 step.6)
            now.made.are_rounds ended.3,
      );
      read = λ is. HasRisen-earlier before.read_faults mid.read_faults after.read_faults now.source (c.in-Err.ensures.read (ap Err (read_of c.in-Err.cut (sym c.status_of.ensures ∙ is))));
      write = λ is. HasRisen-earlier before.write_faults mid.write_faults after.write_faults now.sink (c.in-Err.ensures.write (ap Err (write_of c.in-Err.cut (sym c.status_of.ensures ∙ is))));
    }

pub returns-clause-call : goal.returns-clause-call
returns-clause-call g c =
    let call : Call = c.loop-round.invariant.0 in
    let now = c.loop-round.invariant.1 in
    let before : Surroundings = surroundings (g.S.Source.left c.args.source.now) (g.S.Source.faults c.args.source.now) (g.W.Sink.written c.args.sink.now) (g.W.Sink.faults c.args.sink.now)
    (g.P.Spawner.calls c.args.spawner.now) (g.P.Spawner.faults c.args.spawner.now) in
    let after : Surroundings = surroundings (g.S.Source.left c.loop-round.source) (g.S.Source.faults c.loop-round.source) (g.W.Sink.written c.loop-round.sink) (g.W.Sink.faults c.loop-round.sink)
    (g.P.Spawner.calls c.loop-round.spawner) (g.P.Spawner.faults c.loop-round.spawner) in
    let all : c.loop-round._round ≡ c.args.rounds = search (rules, arith) in
    (call, all_made c.args.rqd.now c.loop-round.rqd c.args.rounds before after call c.loop-round.reader now.moved now.made (now.count ∙ all))
