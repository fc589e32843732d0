use Rattle.std.proofs.Common.{[], ◌∷◌}
use Rattle.farm_types.specs.Step.{after}
use Rattle.farm_stands.proofs.Covering.{covered}
use Rattle.farm_stands.proofs.law.turns_cover.Goals as goal

pub returns : goal.returns
returns c f e cs kept legal named =
    let keeps = c.legal_runs_keep_farms.ensures.runs f (e ∷ []) kept (legal, tt) in
    covered f (after f e) cs kept keeps named (λ n same. c.stands_stay.ensures f e n kept legal same) (λ n same. c.hosts_stay.ensures f (after f e) n same)
    (λ n same. c.bursts_stay.ensures.burst f (after f e) n same) (λ n same. c.bursts_stay.ensures.most f (after f e) n same)
