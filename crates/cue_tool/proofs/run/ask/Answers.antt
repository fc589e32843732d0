-- The request was sent, or a part of it.
use Rattle.std.proofs.Common.{◌≡◌, [], ◌∷◌, ◌++◌, Ok, subst}
use Rattle.cue_io.specs.Input.{Takes-none}
use Rattle.cue_io.specs.Output.{Adds, AddsPart, Adds-none}
use Rattle.cue_words.specs.declared.asked.ToolWords.TheVariants.{Ask}
use Rattle.cue_tool.specs.Calls.{Streams, streams}
use Rattle.cue_tool.proofs.EndLemmas.{asked, no_call, ran_out, unsent}
use Rattle.cue_tool.proofs.run.ask.Goals as goal

pub returns-in_default-clause-call : goal.returns-in_default-clause-call
returns-in_default-clause-call g c = (no_call, ran_out (Ok (Ask c.args.request)) c.args.words.now _)

pub returns-in_default-with_newline-clause-call : goal.returns-in_default-with_newline-clause-call
returns-in_default-with_newline-clause-call g c = (no_call, ran_out (Ok (Ask c.args.request)) c.args.words.now _)

pub returns-in-Ok-write_all-clause-call : goal.returns-in-Ok-write_all-clause-call
returns-in-Ok-write_all-clause-call g c =
    let before : Streams = streams (g.S.Source.left c.args.source.now) (g.S.Source.faults c.args.source.now) (g.W.Sink.written c.args.sink.now) (g.W.Sink.faults c.args.sink.now)
    (g.O.Sink.written c.args.out.now) (g.O.Sink.faults c.args.out.now) in
    let after : Streams = streams (g.S.Source.left c.print_reply.new.source) (g.S.Source.faults c.print_reply.new.source) (g.W.Sink.written c.write_all.new.sink)
    (g.W.Sink.faults c.write_all.new.sink) (g.O.Sink.written c.print_reply.new.out) (g.O.Sink.faults c.print_reply.new.out) in
    let text : c.as_bytes.result.now ≡ c.args.request ++ 10 ∷ [] = cc (c.as_bytes.ensures.value, c.as_str.ensures, c.in-Ok-with_newline.ensures) in
    let came = c.print_reply.ensures.came in (
      record { taken = came.0; sent = c.args.request ++ 10 ∷ []; printed = came.1 },
      asked c.args.request c.args.words.now c.print_reply.result before after came.0 came.1 (subst (Adds before.written after.written) text c.in-Ok-write_all.ensures.ok)
          came.2 came.3 came.4 c.print_reply.ensures.read c.print_reply.ensures.write,
    )

pub returns-clause-call : goal.returns-clause-call
returns-clause-call g c =
    let before : Streams = streams (g.S.Source.left c.args.source.now) (g.S.Source.faults c.args.source.now) (g.W.Sink.written c.args.sink.now) (g.W.Sink.faults c.args.sink.now)
    (g.O.Sink.written c.args.out.now) (g.O.Sink.faults c.args.out.now) in
    let after : Streams = streams (g.S.Source.left c.args.source.now) (g.S.Source.faults c.args.source.now) (g.W.Sink.written c.write_all.new.sink)
    (g.W.Sink.faults c.write_all.new.sink) (g.O.Sink.written c.args.out.now) (g.O.Sink.faults c.args.out.now) in
    let text : c.as_bytes.result.now ≡ c.args.request ++ 10 ∷ [] = cc (c.as_bytes.ensures.value, c.as_str.ensures, c.in-Ok-with_newline.ensures) in
    unsent c.args.request c.args.words.now before after (Takes-none before.left) (subst (AddsPart before.written after.written) text c.in-Err.ensures.err) (Adds-none before.printed)
    c.in-Err.ensures.cause
