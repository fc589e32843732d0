use Rattle.std.proofs.Common.{arith}
use Rattle.command_text.proofs.Pieces.{token_step, mark_step}
use Rattle.command_text.proofs.expansion.Names.replace_mark.Goals as goal

pub returns-in_ok-write_meaning-in-Some : goal.returns-in_ok-write_meaning-in-Some
returns-in_ok-write_meaning-in-Some c =
    let names = c.args.self.now in
    token_step names c.in-Some.token _ _ _ c.in-Some.rest.now (c.in-Some.ensures.0 names.job.now names.layer.now names.number) c.in-Some.ensures.1
    c.in_ok-write_meaning-in-Some.ensures (omega arith)

pub returns-in_ok-push-in-None : goal.returns-in_ok-push-in-None
returns-in_ok-push-in-None c =
    let names = c.args.self.now in
    mark_step names _ c.args.after.now _ (c.in-None.ensures names.job.now names.layer.now names.number) c.in_ok-push-in-None.ensures.bytes
