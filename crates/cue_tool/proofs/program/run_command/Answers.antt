-- The file of the job spec was read, or there is none.
use Rattle.std.proofs.Common.{rules, ◌≡◌, ℕ, List, [], ◌∷◌, refl, sym, ap, ◌∙◌, subst, None, Some, Ok, Err, Result}
use Rattle.command_line.specs.declared.status.Status.TheVariants as exit
use Rattle.cue_io.specs.Output.{Adds-none}
use Rattle.cue_tool.specs.declared.program.SpecFault.{SpecFault}
use Rattle.cue_tool.specs.declared.program.SpecFault.TheVariants as spec_faults
use Rattle.cue_io.specs.Growth.{Grows-none}
use Rattle.dialer.specs.Dials.{Target, given_back, target_at}
use Rattle.cue_tool.specs.Programs.{Opens, Outcome, Output, file_of, outcome, output}
use Rattle.cue_tool.proofs.EndLemmas.{no_call}
use Rattle.cue_tool.proofs.ProgramLemmas.{ended, ran_alone, ran_with}
use Rattle.cue_tool.proofs.program.run_command.Goals as goal

pub returns-in_default : goal.returns-in_default
returns-in_default g c =
    let target : Target = target_at c.args.address.now c.args.words.now c.args.port in
    let is : file_of c.args.words.now ≡ None = search rules in
    let came : Outcome = outcome c.run_words.result.0 (given_back g.D.In.Source.left g.D.In.Source.faults g.D.Out.Sink.written g.D.Out.Sink.faults c.run_words.result.1)
    (output (g.O.Sink.written c.args.out.now) (g.O.Sink.faults c.args.out.now)) (output (g.O.Sink.written c.run_words.new.out) (g.O.Sink.faults c.run_words.new.out)) in
    let went = c.run_words.ensures in
    (record { dialled = went.0; opened = []; call = went.1 }, ran_alone target came went.0 went.1 is went.2, went.3, Grows-none (g.F.SpecFiles.opened c.args.files.now), went.4)

pub returns-in-Ok : goal.returns-in-Ok
returns-in-Ok g c =
    let target : Target = target_at c.args.address.now c.args.words.now c.args.port in
    let is : file_of c.args.words.now ≡ Some c.in-Some.file.now = search rules in
    let text : c.read.result ≡ Ok c.as_str.result.now = cc (c.in-Ok.is, c.as_str.ensures) in
    let came : Outcome = outcome c.run_words-in-Ok.result.0 (given_back g.D.In.Source.left g.D.In.Source.faults g.D.Out.Sink.written g.D.Out.Sink.faults c.run_words-in-Ok.result.1)
    (output (g.O.Sink.written c.args.out.now) (g.O.Sink.faults c.args.out.now)) (output (g.O.Sink.written c.run_words-in-Ok.new.out) (g.O.Sink.faults c.run_words-in-Ok.new.out)) in
    let went = c.run_words-in-Ok.ensures in (
      record { dialled = went.0; opened = record { file = c.in-Some.file.now; text = c.read.result } ∷ []; call = went.1 },
      ran_with target c.in-Some.file.now c.read.result came went.0 went.1 is
          (subst (λ (given : Result (List ℕ) SpecFault). Opens given target came went.0 went.1) (sym text) went.2),
      went.3,
      c.read.ensures,
      went.4,
    )

pub returns-in-Err-Unreadable : goal.returns-in-Err-Unreadable
returns-in-Err-Unreadable g c =
    let target : Target = target_at c.args.address.now c.args.words.now c.args.port in
    let is : file_of c.args.words.now ≡ Some c.in-Some.file.now = search rules in
    let out : Output = output (g.O.Sink.written c.args.out.now) (g.O.Sink.faults c.args.out.now) in
    let none : c.read.result ≡ Err spec_faults.Unreadable = c.in-Err-Unreadable.is ∙ ap Err c.in-Err-Unreadable.field-0-is in (
      record { dialled = []; opened = record { file = c.in-Some.file.now; text = c.read.result } ∷ []; call = no_call },
      ran_with target c.in-Some.file.now c.read.result (outcome exit.UnreadableSpec None out out) [] no_call is
          (subst (λ (given : Result (List ℕ) SpecFault). Opens given target (outcome exit.UnreadableSpec None out out) [] no_call) (sym none) (refl, ended exit.UnreadableSpec out)),
      Grows-none (g.D.Dialer.dialled c.args.dialer.now),
      c.read.ensures,
      Adds-none (g.O.Sink.written c.args.out.now),
    )

pub returns-in-Err-NoMemory : goal.returns-in-Err-NoMemory
returns-in-Err-NoMemory g c =
    let target : Target = target_at c.args.address.now c.args.words.now c.args.port in
    let is : file_of c.args.words.now ≡ Some c.in-Some.file.now = search rules in
    let out : Output = output (g.O.Sink.written c.args.out.now) (g.O.Sink.faults c.args.out.now) in
    let none : c.read.result ≡ Err spec_faults.NoMemory = c.in-Err-NoMemory.is ∙ ap Err c.in-Err-NoMemory.field-0-is in (
      record { dialled = []; opened = record { file = c.in-Some.file.now; text = c.read.result } ∷ []; call = no_call },
      ran_with target c.in-Some.file.now c.read.result (outcome exit.NoMemory None out out) [] no_call is
          (subst (λ (given : Result (List ℕ) SpecFault). Opens given target (outcome exit.NoMemory None out out) [] no_call) (sym none) (refl, ended exit.NoMemory out)),
      Grows-none (g.D.Dialer.dialled c.args.dialer.now),
      c.read.ensures,
      Adds-none (g.O.Sink.written c.args.out.now),
    )
