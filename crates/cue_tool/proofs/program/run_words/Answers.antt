-- The words ask for the help text, or for nothing, or memory ran out.
use Rattle.std.proofs.Common.{◌≡◌, ℕ, List, [], inr, refl, None, Ok, Err, Option, option_map}
use Rattle.command_line.specs.declared.status.Status.TheVariants as exit
use Rattle.cue_io.specs.Growth.{Grows-none}
use Rattle.cue_io.specs.Output.{Adds-none}
use Rattle.cue_words.specs.Commands.{words_of}
use Rattle.cue_words.specs.Parts.{Usage, BadSpec}
use Rattle.cue_words.specs.declared.asked.ToolWords.TheVariants.{Help}
use Rattle.dialer.specs.Dials.{Target, target_at}
use Rattle.cue_tool.specs.Programs.{Outcome, Output, outcome, output}
use Rattle.cue_tool.proofs.EndLemmas.{no_call}
use Rattle.cue_tool.proofs.ProgramLemmas.{ended, reads_by, stayed, wants_bad, wants_help, wants_none}
use Rattle.cue_tool.proofs.program.run_words.Goals as goal

pub returns-in-Ok-HelpText : goal.returns-in-Ok-HelpText
returns-in-Ok-HelpText g c =
    let target : Target = target_at c.args.address.now c.args.words.now c.args.port in
    let spec : Option (List ℕ) = option_map (λ text. text.now) c.args.spec in
    let is : words_of c.args.words.now spec ≡ Ok Help = wants_help c.in-Ok-HelpText.field-0 _ c.in-Ok-HelpText.field-0-is c.in-Ok-HelpText.ensures in
    let came : Outcome = outcome c.print_help.result None (output (g.O.Sink.written c.args.out.now) (g.O.Sink.faults c.args.out.now))
    (output (g.O.Sink.written c.print_help.new.out) (g.O.Sink.faults c.print_help.new.out)) in
    let printed = c.print_help.ensures.answers in (
      [],
      record { taken = []; sent = []; printed = printed.0 },
      reads_by target spec came [] (record { taken = []; sent = []; printed = printed.0 }) (Ok Help) is
          (record { none_dialled = refl; no_connection = refl; went = ((refl, refl), printed.2); write = c.print_help.ensures.write }),
      Grows-none (g.D.Dialer.dialled c.args.dialer.now),
      printed.1,
    )

pub returns-in-Err-Usage : goal.returns-in-Err-Usage
returns-in-Err-Usage g c =
    let target : Target = target_at c.args.address.now c.args.words.now c.args.port in
    let spec : Option (List ℕ) = option_map (λ text. text.now) c.args.spec in
    let out : Output = output (g.O.Sink.written c.args.out.now) (g.O.Sink.faults c.args.out.now) in (
      [],
      no_call,
      reads_by target spec (outcome exit.WrongWords None out out) [] no_call (Err (Usage _))
          (wants_none _ c.in-Err-Usage.field-0 _ c.in-Err-Usage.field-0-is c.in-Err-Usage.ensures) (stayed (Usage _) out),
      Grows-none (g.D.Dialer.dialled c.args.dialer.now),
      Adds-none (g.O.Sink.written c.args.out.now),
    )

pub returns-in-Err-BadSpec : goal.returns-in-Err-BadSpec
returns-in-Err-BadSpec g c =
    let target : Target = target_at c.args.address.now c.args.words.now c.args.port in
    let spec : Option (List ℕ) = option_map (λ text. text.now) c.args.spec in
    let out : Output = output (g.O.Sink.written c.args.out.now) (g.O.Sink.faults c.args.out.now) in (
      [],
      no_call,
      reads_by target spec (outcome exit.WrongWords None out out) [] no_call (Err BadSpec)
          (wants_bad c.in-Err-BadSpec.field-0 _ c.in-Err-BadSpec.field-0-is c.in-Err-BadSpec.ensures) (stayed BadSpec out),
      Grows-none (g.D.Dialer.dialled c.args.dialer.now),
      Adds-none (g.O.Sink.written c.args.out.now),
    )

pub returns-in-Err-NoMemory : goal.returns-in-Err-NoMemory
returns-in-Err-NoMemory g c =
    let out : Output = output (g.O.Sink.written c.args.out.now) (g.O.Sink.faults c.args.out.now) in
    ([], no_call, inr (refl, ended exit.NoMemory out), Grows-none (g.D.Dialer.dialled c.args.dialer.now), Adds-none (g.O.Sink.written c.args.out.now))
