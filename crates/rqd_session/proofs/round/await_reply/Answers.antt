-- A reply line came.
use Rattle.std.proofs.Common.{◌≡◌, ap, sym, ◌∙◌, subst, Ok, Result}
use Rattle.cue_io.specs.declared.line.LineFault.{LineFault}
use Rattle.cue_io.specs.Reader.{Given, Whole, given_by}
use Rattle.rqd_session.specs.Steps.{Awaits}
use Rattle.rqd_session.proofs.round.await_reply.Goals as goal

pub returns-in-Ok-Bytes-clause-ordered : goal.returns-in-Ok-Bytes-clause-ordered
returns-in-Ok-Bytes-clause-ordered g c =
    let is : given_by c.next.result ≡ Ok (Whole c.in-Ok-Bytes.line.now) = ap given_by (c.in-Ok-Bytes.is ∙ ap Ok c.in-Ok-Bytes.field-0-is) in (
      given_by c.next.result,
      c.next.follows.holds-at-none,
      subst (λ (answer : Result Given LineFault). Awaits c.args.rqd.now c.take_line.result c.take_line.new.rqd answer) (sym is) c.take_line.ensures.ordered,
    )
