-- Where a round was cut off, and a whole one.
use Rattle.std.proofs.Common.{[], refl, None, Some}
use Rattle.cue_io.specs.Output.{Adds-none}
use Rattle.cue_io.specs.Growth.{Grows-append, Grows-none}
use Rattle.rqd_session.specs.Rounds.{line_after}
use Rattle.rqd_session.proofs.MadeLemmas.{cut_acting, cut_reading, cut_polling, cut_sending, done_by, is_awaiting, line_sent, made_whole}
use Rattle.rqd_launcher.proofs.Carrying.{HaveCauses-append, HaveCauses-none}
use Rattle.rqd_session.proofs.round.run_round.Goals as goal

pub returns-in_err-poll_all-clause-made : goal.returns-in_err-poll_all-clause-made
returns-in_err-poll_all-clause-made g c =
    let told = c.in_err-poll_all.ensures in
    let calls = g.P.Spawner.calls c.poll_all.new.spawner in
    let faults = g.P.Spawner.faults c.poll_all.new.spawner in (
      None,
      done_by told.0 [] [],
      cut_polling c.args.rqd.now c.poll_all.new.rqd told.0 c.from_residual.result c.from_residual.ensures.1 told.1.done,
      (refl, refl),
      Adds-none (g.W.Sink.written c.args.sink.now),
      Grows-append (g.P.Spawner.calls c.args.spawner.now) calls calls told.0 [] told.2 (Grows-none calls),
      HaveCauses-append told.0 [] (g.P.Spawner.faults c.args.spawner.now) faults faults told.1.causes (HaveCauses-none faults),
    )

pub returns-in_err-send_line-clause-made : goal.returns-in_err-send_line-clause-made
returns-in_err-send_line-clause-made g c =
    let told = c.in_ok-poll_all.ensures in
    let calls = g.P.Spawner.calls c.poll_all.new.spawner in
    let faults = g.P.Spawner.faults c.poll_all.new.spawner in
    let sent = cut_sending _ c.args.rqd.now c.poll_all.new.rqd c.send_line.new.rqd c.send_line.new.rqd told.0 (g.W.Sink.written c.args.sink.now) (g.W.Sink.written c.send_line.new.sink)
    c.from_residual-in_err-send_line.result c.from_residual-in_err-send_line.ensures.1 told.1.done told.1.life_is c.in_err-send_line.ensures.sent in (
      None,
      done_by told.0 sent.0 [],
      sent.2,
      (refl, refl),
      sent.1,
      Grows-append (g.P.Spawner.calls c.args.spawner.now) calls calls told.0 [] told.2 (Grows-none calls),
      HaveCauses-append told.0 [] (g.P.Spawner.faults c.args.spawner.now) faults faults told.1.causes (HaveCauses-none faults),
    )

pub returns-in_err-orders-clause-made : goal.returns-in_err-orders-clause-made
returns-in_err-orders-clause-made g c =
    let told = c.in_ok-poll_all.ensures in
    let sent = c.in_ok-send_line.ensures.sent in
    let reply = c.in_err-orders.ensures.ordered in
    let calls = g.P.Spawner.calls c.poll_all.new.spawner in
    let faults = g.P.Spawner.faults c.poll_all.new.spawner in
    let asked = is_awaiting c.args.rqd.now c.poll_all.new.rqd c.send_line.new.rqd told.0 told.1.done told.1.life_is sent.0 in (
      Some reply.0,
      done_by told.0 (line_after c.args.rqd.now told.0) [],
      cut_reading _ reply.0 c.args.rqd.now c.send_line.new.rqd c.await_reply.new.rqd c.await_reply.new.rqd told.0 c.from_residual-in_err-orders.result
          c.from_residual-in_err-orders.ensures.1 asked reply.2,
      reply.1,
      line_sent c.args.rqd.now c.poll_all.new.rqd told.0 (g.W.Sink.written c.args.sink.now) (g.W.Sink.written c.send_line.new.sink) told.1.life_is sent.1,
      Grows-append (g.P.Spawner.calls c.args.spawner.now) calls calls told.0 [] told.2 (Grows-none calls),
      HaveCauses-append told.0 [] (g.P.Spawner.faults c.args.spawner.now) faults faults told.1.causes (HaveCauses-none faults),
    )

pub returns-in_err-act-clause-made : goal.returns-in_err-act-clause-made
returns-in_err-act-clause-made g c =
    let told = c.in_ok-poll_all.ensures in
    let sent = c.in_ok-send_line.ensures.sent in
    let reply = c.in_ok-orders.ensures.ordered in
    let acts = c.in_err-act.ensures in
    let asked = is_awaiting c.args.rqd.now c.poll_all.new.rqd c.send_line.new.rqd told.0 told.1.done told.1.life_is sent.0 in (
      Some reply.0,
      done_by told.0 (line_after c.args.rqd.now told.0) acts.0,
      cut_acting reply.0 c.args.rqd.now c.send_line.new.rqd c.await_reply.new.rqd c.act.new.rqd told.0 acts.0 c.in_ok-orders.orders c.from_residual-in_err-act.result
          c.from_residual-in_err-act.ensures.1 asked reply.2 acts.1.done,
      reply.1,
      line_sent c.args.rqd.now c.poll_all.new.rqd told.0 (g.W.Sink.written c.args.sink.now) (g.W.Sink.written c.send_line.new.sink) told.1.life_is sent.1,
      Grows-append (g.P.Spawner.calls c.args.spawner.now) (g.P.Spawner.calls c.poll_all.new.spawner) (g.P.Spawner.calls c.act.new.spawner) told.0 acts.0 told.2 acts.2,
      HaveCauses-append told.0 acts.0 (g.P.Spawner.faults c.args.spawner.now) (g.P.Spawner.faults c.poll_all.new.spawner) (g.P.Spawner.faults c.act.new.spawner) told.1.causes
          acts.1.causes,
    )

pub returns-clause-made : goal.returns-clause-made
returns-clause-made g c =
    let told = c.in_ok-poll_all.ensures in
    let sent = c.in_ok-send_line.ensures.sent in
    let reply = c.in_ok-orders.ensures.ordered in
    let acts = c.in_ok-act.ensures in
    let asked = is_awaiting c.args.rqd.now c.poll_all.new.rqd c.send_line.new.rqd told.0 told.1.done told.1.life_is sent.0 in (
      Some reply.0,
      done_by told.0 (line_after c.args.rqd.now told.0) acts.0,
      made_whole tt reply.0 c.args.rqd.now c.send_line.new.rqd c.await_reply.new.rqd c.act.new.rqd told.0 acts.0 c.in_ok-orders.orders asked reply.2 acts.1.done acts.1.life_is,
      reply.1,
      line_sent c.args.rqd.now c.poll_all.new.rqd told.0 (g.W.Sink.written c.args.sink.now) (g.W.Sink.written c.send_line.new.sink) told.1.life_is sent.1,
      Grows-append (g.P.Spawner.calls c.args.spawner.now) (g.P.Spawner.calls c.poll_all.new.spawner) (g.P.Spawner.calls c.act.new.spawner) told.0 acts.0 told.2 acts.2,
      HaveCauses-append told.0 acts.0 (g.P.Spawner.faults c.args.spawner.now) (g.P.Spawner.faults c.poll_all.new.spawner) (g.P.Spawner.faults c.act.new.spawner) told.1.causes
          acts.1.causes,
    )
