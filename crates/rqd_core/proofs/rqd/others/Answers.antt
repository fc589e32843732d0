use Rattle.std.proofs.Common.{not, rules, ap, ◌∙◌}
use Rattle.std.specs.List.{filter}
use Rattle.std.proofs.lemmas.Fn.{filter_same}
use Rattle.farm_types.specs.declared.attempt.Attempt.{Attempt}
use Rattle.farm_types.specs.Run.{is_same}
use Rattle.rqd_core.proofs.rqd.others.Goals as goal

pub returns : goal.returns
returns c =
    let stays = λ (a : Attempt). not (is_same a c.args.attempt.now) in
    c.from_vec.ensures ∙ (filter_same _ stays _ (λ x b f h. (search rules, search rules)) _ _ c.retain.ensures.filtered ∙ ap (filter stays) c.into_vec-attempts.ensures)
