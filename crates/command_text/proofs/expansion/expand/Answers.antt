use Rattle.std.proofs.Common.{ℤ, ap, ◌∙◌, arith, rules}
use Rattle.std.proofs.lemmas.Int.{to_z-of_z}
use Rattle.std.proofs.lemmas.Str.Pattern.{split_parts}
use mir.Syntax.{w32}
use Rattle.farm_types.specs.Names.{expanded}
use Rattle.command_text.specs.Tokens.{mark}
use Rattle.command_text.proofs.Pieces.{plain_step, plain_end}
use Rattle.command_text.proofs.expansion.expand.Goals as goal

pub loop-plain-preserved : goal.loop-plain-preserved
loop-plain-preserved c =
    let l = c.loop-plain in
    let cut = rw c.in-Some.is at (split_parts mark l.rest.now c.split_once.result c.split_once.ensures.cases (omega arith)) in (
      search rules,
      c.in_ok-rest.ensures.same
          ∙ plain_step c.args.job.now c.args.layer.now _ _ l.rest.now c.in-Some.plain.now c.in-Some.after.now _ cut.0 cut.1 c.in_ok-push_str.ensures.bytes
          ∙ l.invariant.1,
    )

pub returns : goal.returns
returns c =
    let l = c.loop-plain in
    let free = rw c.in_default.is at (split_parts mark l.rest.now c.split_once.result c.split_once.ensures.cases (omega arith)) in
    c.from_string.ensures
    ∙ plain_end c.args.job.now c.args.layer.now _ _ l.rest.now _ free c.in_ok-push_str-2.ensures.bytes
    ∙ l.invariant.1
    ∙ ap (λ (n : ℤ). expanded c.args.command.now c.args.job.now c.args.layer.now n) (to_z-of_z w32 c.args.number c.ranges.number)
