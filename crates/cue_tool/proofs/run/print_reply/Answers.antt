-- What came of one line that was awaited.
use Rattle.std.proofs.Common.{◌≡◌, [], ap, ◌∙◌, Ok, Err}
use Rattle.cue_io.specs.declared.line.LineFault.TheVariants as line_fault
use Rattle.cue_io.specs.Output.{Adds-none}
use Rattle.cue_io.specs.Reader.{Whole, Long, AtEnd, given_by}
use Rattle.cue_tool.proofs.CallLemmas.{bytes_spent, line_came, long_came, none_came, read_failed}
use Rattle.cue_tool.proofs.run.print_reply.Goals as goal

pub returns-in-Ok-Bytes-clause-came : goal.returns-in-Ok-Bytes-clause-came
returns-in-Ok-Bytes-clause-came g c =
    let is : given_by c.next.result ≡ Ok (Whole c.in-Ok-Bytes.line.now) = ap given_by (c.in-Ok-Bytes.is ∙ ap Ok c.in-Ok-Bytes.field-0-is) in
    let moves = c.next.follows.holds-at-none in
    let printed = c.print_line.ensures.answers in (
      moves.took,
      printed.0,
      moves.takes,
      printed.1,
      line_came c.args.words.now c.print_line.result c.in-Ok-Bytes.line.now moves.took printed.0 c.next.result c.args.reader.now c.next.follows.lender-at-none
          (g.S.Source.left c.next.new.source) c.requires is moves.goes moves.end printed.2,
    )

pub returns-in-Ok-TooLong-clause-came : goal.returns-in-Ok-TooLong-clause-came
returns-in-Ok-TooLong-clause-came g c =
    let is : given_by c.next.result ≡ Ok Long = ap given_by (c.in-Ok-TooLong.is ∙ ap Ok c.in-Ok-TooLong.field-0-is) in
    let moves = c.next.follows.holds-at-none in (
      moves.took,
      [],
      moves.takes,
      Adds-none (g.O.Sink.written c.args.out.now),
      long_came c.args.words.now moves.took c.next.result c.args.reader.now c.next.follows.lender-at-none (g.S.Source.left c.next.new.source) c.requires is moves.goes moves.end,
    )

pub returns-in-Ok-End-clause-came : goal.returns-in-Ok-End-clause-came
returns-in-Ok-End-clause-came g c =
    let is : given_by c.next.result ≡ Ok AtEnd = ap given_by (c.in-Ok-End.is ∙ ap Ok c.in-Ok-End.field-0-is) in
    let moves = c.next.follows.holds-at-none in (
      moves.took,
      [],
      moves.takes,
      Adds-none (g.O.Sink.written c.args.out.now),
      none_came c.args.words.now moves.took c.next.result c.args.reader.now c.next.follows.lender-at-none (g.S.Source.left c.next.new.source) c.requires is moves.goes moves.end,
    )

pub returns-in-Err-Read-clause-came : goal.returns-in-Err-Read-clause-came
returns-in-Err-Read-clause-came g c =
    let is : given_by c.next.result ≡ Err line_fault.Read = ap given_by (c.in-Err-Read.is ∙ ap Err c.in-Err-Read.field-0-is) in
    let moves = c.next.follows.holds-at-none in (
      moves.took,
      [],
      moves.takes,
      Adds-none (g.O.Sink.written c.args.out.now),
      read_failed c.args.words.now moves.took c.next.result c.args.reader.now c.next.follows.lender-at-none (g.S.Source.left c.next.new.source) c.requires is moves.goes,
    )

pub returns-in-Err-Spent-clause-came : goal.returns-in-Err-Spent-clause-came
returns-in-Err-Spent-clause-came g c =
    let is : given_by c.next.result ≡ Err line_fault.Spent = ap given_by (c.in-Err-Spent.is ∙ ap Err c.in-Err-Spent.field-0-is) in
    let moves = c.next.follows.holds-at-none in (
      moves.took,
      [],
      moves.takes,
      Adds-none (g.O.Sink.written c.args.out.now),
      bytes_spent c.args.words.now moves.took c.next.result c.args.reader.now c.next.follows.lender-at-none (g.S.Source.left c.next.new.source) c.requires is moves.goes,
    )

pub returns-in-Ok-Bytes-clause-read : goal.returns-in-Ok-Bytes-clause-read
returns-in-Ok-Bytes-clause-read g c failed = absurd (c.print_line.ensures.reads_nothing failed)
