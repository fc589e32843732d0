-- A line that is within the limit or too long is answered.
use Rattle.std.proofs.Common.{◌≡◌, ◌≤◌, ℕ, List, [], ◌∷◌, ◌++◌, length, Ok, ap, ◌∙◌, refl, subst, arith}
use Rattle.cue_io.specs.Reader.{Whole, Long, given_by}
use Rattle.farm_lines.specs.declared.reply.Reply.TheVariants as reply
use Rattle.farm_lines.specs.Reply.{reply_text}
use Rattle.farm_keeper.proofs.KeepingLaws.{Continues-same}
use Rattle.farm_load.specs.recorder.specs.Recording.{HasRecorded}
use Rattle.farm_load.specs.booking_recorder.specs.Going.{GoesOn}
use Rattle.farm_load.specs.booking_recorder.proofs.Journaled.{journals_none}
use Rattle.farm_load.specs.recorder.proofs.Told.{tells_still}
use Rattle.farm_types.specs.Farm.{Farm}
use Rattle.farm_load.specs.line_answers.specs.LineAnswers.{Going}
use Rattle.farm_load.specs.line_answers.specs.Lines.{shown}
use Rattle.line_exchanges.specs.Exchanges.{Sends}
use Rattle.session.specs.Sessions.{WentOn}
use Rattle.session.proofs.ExchangeLemmas.{step_answered, line_fits, answers_long, answers_whole}
use Rattle.session.proofs.exchange.exchange.Goals as goal

pub answer_line-reply-requires-clause-limit : goal.answer_line-reply-requires-clause-limit
answer_line-reply-requires-clause-limit g c =
    let is : given_by c.next.result ≡ Ok (Whole c.in-Ok-Bytes.line.now) = ap given_by (c.in-Ok-Bytes.is ∙ ap Ok c.in-Ok-Bytes.field-0-is) in
    let moves = c.next.follows.holds-at-none in
    subst (λ (limit : ℕ). length c.in-Ok-Bytes.line.now ≤ limit) c.requires.limit
    (line_fits c.next.result c.in-Ok-Bytes.line.now c.args.reader.now c.next.follows.lender-at-none moves.took c.requires.pending.0 is moves.goes c.requires.pending.1)

pub returns-in-Ok-Bytes-clause-step : goal.returns-in-Ok-Bytes-clause-step
returns-in-Ok-Bytes-clause-step g c =
    let is : given_by c.next.result ≡ Ok (Whole c.in-Ok-Bytes.line.now) = ap given_by (c.in-Ok-Bytes.is ∙ ap Ok c.in-Ok-Bytes.field-0-is) in
    let moves = c.next.follows.holds-at-none in
    let sent = c.send.ensures.sends in (
      moves.took,
      sent.0,
      c.now-moment.result ∷ [],
      moves.takes,
      sent.1,
      c.now-moment.ensures,
      step_answered c.send.result c.next.result (Whole c.in-Ok-Bytes.line.now) c.args.reader.now c.next.follows.lender-at-none (g.S.Source.left c.next.new.source)
          c.args.recorder.now.farm c.answer_line-reply.new.recorder.farm moves.took c.now-moment.result (shown c.answer_line-reply.result) sent.0
          (WentOn g.K.Keeper.commits g.K.Keeper.tells g.K.Keeper.holds g.K.Keeper.left g.K.Keeper.faults c.args.recorder.now c.answer_line-reply.new.recorder)
          (c.answer_line-reply.new.recorder.keeper ≡ c.args.recorder.now.keeper) (c.answer_line-reply.new.recorder ≡ c.args.recorder.now) (omega arith) is moves.goes moves.end
          (answers_whole c.in-Ok-Bytes.line.now c.args.recorder.now.farm c.answer_line-reply.new.recorder.farm c.now-moment.result (shown c.answer_line-reply.result)
          (GoesOn g.K.Keeper.commits g.K.Keeper.tells g.K.Keeper.faults c.args.recorder.now c.answer_line-reply.new.recorder)
          (WentOn g.K.Keeper.commits g.K.Keeper.tells g.K.Keeper.holds g.K.Keeper.left g.K.Keeper.faults c.args.recorder.now c.answer_line-reply.new.recorder)
          (c.answer_line-reply.new.recorder.keeper ≡ c.args.recorder.now.keeper)
          (λ all done failed is goes. record {
            on = goes;
            recorded = λ told.
                subst (λ (f : Farm). HasRecorded (g.K.Keeper.holds c.answer_line-reply.new.recorder.keeper) (g.K.Keeper.left c.answer_line-reply.new.recorder.keeper) f) is
                (c.recorded.ensures told);
          })
          c.answer_line-reply.ensures.answer c.answer_line-reply.ensures.same)
          (subst (λ (text : List ℕ). Sends c.send.result text sent.0) c.bytes.ensures sent.2),
    )

pub returns-in-Ok-TooLong-clause-step : goal.returns-in-Ok-TooLong-clause-step
returns-in-Ok-TooLong-clause-step g c =
    let is : given_by c.next.result ≡ Ok Long = ap given_by (c.in-Ok-TooLong.is ∙ ap Ok c.in-Ok-TooLong.field-0-is) in
    let moves = c.next.follows.holds-at-none in
    let sent = c.send-in-Ok-TooLong.ensures.sends in
    let f : Farm = c.args.recorder.now.farm in
    let k = c.args.recorder.now.keeper in
    let r = c.args.recorder.now in
    let goes : Going = WentOn g.K.Keeper.commits g.K.Keeper.tells g.K.Keeper.holds g.K.Keeper.left g.K.Keeper.faults r r in
    let text : List ℕ = reply_text reply.TooLong ++ 10 ∷ [] in (
      moves.took,
      sent.0,
      c.now-moment-in-Ok-TooLong.result ∷ [],
      moves.takes,
      sent.1,
      c.now-moment-in-Ok-TooLong.ensures,
      step_answered c.send-in-Ok-TooLong.result c.next.result Long c.args.reader.now c.next.follows.lender-at-none (g.S.Source.left c.next.new.source)
          f f moves.took c.now-moment-in-Ok-TooLong.result text sent.0 goes (k ≡ k) (r ≡ r) (omega arith) is moves.goes moves.end
          (answers_long f c.now-moment-in-Ok-TooLong.result text goes (k ≡ k) (λ line. c.lines_are_answered_by_what_they_ask.ensures f line c.now-moment-in-Ok-TooLong.result) refl
          (record {
            on = record { keeper = Continues-same g.K.Keeper.tells g.K.Keeper.faults k; told = tells_still g.K.Keeper.commits f [] k; journals = journals_none r.view };
            recorded = c.recorded-in-Ok-TooLong.ensures;
          }) refl)
          (subst (λ (bytes : List ℕ). Sends c.send-in-Ok-TooLong.result bytes sent.0) c.bytes-in-Ok-TooLong.ensures sent.2),
    )
