-- What the words ask is done.
use Rattle.std.proofs.Common.{◌≡◌, ℕ, List, [], Ok, Option, Result, ap, sym, ◌∙◌, subst, option_map}
use Rattle.cue_io.specs.Input.{Takes-none}
use Rattle.cue_io.specs.Output.{Adds-none}
use Rattle.cue_words.specs.Commands.{words_of}
use Rattle.cue_words.specs.Parts.{WordsError}
use Rattle.cue_words.specs.declared.asked.ToolWords.{ToolWords}
use Rattle.cue_words.specs.declared.asked.ToolWords.TheVariants.{Ask, Help}
use Rattle.cue_tool.specs.Calls.{DoesAsked, Streams, streams}
use Rattle.cue_tool.proofs.EndLemmas.{bad_spec, helped, no_call, ran_out, wrong_word}
use Rattle.cue_tool.proofs.run.run_cue.Goals as goal

pub returns-in-Ok-Ask-clause-call : goal.returns-in-Ok-Ask-clause-call
returns-in-Ok-Ask-clause-call g c =
    let spec : Option (List ℕ) = option_map (λ text. text.now) c.args.spec in
    let is : words_of c.args.words.now spec ≡ Ok (Ask c.in-Ok-Ask.line) = c.in-Ok-Ask.ensures ∙ ap Ok c.in-Ok-Ask.field-0-is in
    let before : Streams = streams (g.S.Source.left c.args.source.now) (g.S.Source.faults c.args.source.now) (g.W.Sink.written c.args.sink.now) (g.W.Sink.faults c.args.sink.now)
    (g.O.Sink.written c.args.out.now) (g.O.Sink.faults c.args.out.now) in
    let after : Streams = streams (g.S.Source.left c.ask.new.source) (g.S.Source.faults c.ask.new.source) (g.W.Sink.written c.ask.new.sink) (g.W.Sink.faults c.ask.new.sink)
    (g.O.Sink.written c.ask.new.out) (g.O.Sink.faults c.ask.new.out) in
    let call = c.ask.ensures.call in
    (call.0, subst (λ (asked : Result ToolWords WordsError). DoesAsked asked c.args.words.now c.ask.result before after call.0) (sym is) call.1)

pub returns-in-Ok-Help-clause-call : goal.returns-in-Ok-Help-clause-call
returns-in-Ok-Help-clause-call g c =
    let spec : Option (List ℕ) = option_map (λ text. text.now) c.args.spec in
    let is : words_of c.args.words.now spec ≡ Ok Help = c.in-Ok-Help.ensures ∙ ap Ok c.in-Ok-Help.field-0-is in
    let before : Streams = streams (g.S.Source.left c.args.source.now) (g.S.Source.faults c.args.source.now) (g.W.Sink.written c.args.sink.now) (g.W.Sink.faults c.args.sink.now)
    (g.O.Sink.written c.args.out.now) (g.O.Sink.faults c.args.out.now) in
    let after : Streams = streams (g.S.Source.left c.args.source.now) (g.S.Source.faults c.args.source.now) (g.W.Sink.written c.args.sink.now) (g.W.Sink.faults c.args.sink.now)
    (g.O.Sink.written c.print_help.new.out) (g.O.Sink.faults c.print_help.new.out) in
    let printed = c.print_help.ensures.answers in (
      record { taken = []; sent = []; printed = printed.0 },
      subst (λ (asked : Result ToolWords WordsError). DoesAsked asked c.args.words.now c.print_help.result before after (record { taken = []; sent = []; printed = printed.0 })) (sym is)
          (helped c.args.words.now c.print_help.result before after printed.0 (Takes-none before.left) (Adds-none before.written) printed.1 printed.2 c.print_help.ensures.write),
    )

pub returns-in-Err-Usage-clause-call : goal.returns-in-Err-Usage-clause-call
returns-in-Err-Usage-clause-call g c = (no_call, wrong_word _ c.in-Err-Usage.field-0 _ c.args.words.now _ c.in-Err-Usage.field-0-is c.in-Err-Usage.ensures)

pub returns-in-Err-BadSpec-clause-call : goal.returns-in-Err-BadSpec-clause-call
returns-in-Err-BadSpec-clause-call g c = (no_call, bad_spec c.in-Err-BadSpec.field-0 _ c.args.words.now _ c.in-Err-BadSpec.field-0-is c.in-Err-BadSpec.ensures)

pub returns-in-Err-NoMemory-clause-call : goal.returns-in-Err-NoMemory-clause-call
returns-in-Err-NoMemory-clause-call g c = (no_call, ran_out _ c.args.words.now _)
