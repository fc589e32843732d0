use Rattle.std.proofs.Common.{◌∙◌, ap, arith, take, drop, ℕ}
use Rattle.row_index.proofs.Layers.{job_layers}
use Rattle.row_index.proofs.lookups.layer_bounds.Goals as goal

pub returns-clause-layers : goal.returns-clause-layers
returns-clause-layers c =
    let layers = c.args.layers.now in
    let first = c.count_below-first in
    let end = c.count_below-end in
    ap (λ (n : ℕ). take n (drop first.result layers)) c.saturating_sub.ensures
    ∙ job_layers layers c.args.job first.result end.result c.requires.places
    (λ i d less. let h = first.ensures.below i d less in omega (arith, h, c.layer_key-key.ensures))
    (λ i d past within. let h = first.ensures.above i d past within in omega (arith, h, c.layer_key-key.ensures))
    (λ i d less. let h = end.ensures.below i d less in omega (arith, h, c.layer_key-key.ensures))
    (λ i d past within. let h = end.ensures.above i d past within in omega (arith, h, c.layer_key-key.ensures))
