use Rattle.std.proofs.Common.{ltb, arith, rules}
use Rattle.std.proofs.lemmas.Bool.{ltb-false, ltb-true}
use Rattle.std.proofs.lemmas.List.Sorted.{IsPartitionPoint-from_clause, IsPartitionedBy-ltb}
use Rattle.farm_types.specs.declared.rows.LayerRow.{LayerRow}
use Rattle.farm_types.specs.Rising.{layer_key}
use Rattle.farm_types.proofs.Searched.{rising_keys}
use Rattle.row_index.proofs.lookups.count_below.Goals as goal

pub returns-clause-below : goal.returns-clause-below
returns-clause-below c =
    let layers = c.args.layers.now in
    let parted = IsPartitionedBy-ltb layer_key layers c.args.key (rising_keys layer_key layers 0 c.requires.rise.0 c.requires.rise.1) in
    let point = IsPartitionPoint-from_clause (λ (l : LayerRow). ltb (layer_key l) c.args.key) layers _ c.partition_point.ensures.partitioned parted (λ a r q k. search rules) in
    λ i d less. ltb-true _ _ (point.0 i d (omega arith) less)

pub returns-clause-above : goal.returns-clause-above
returns-clause-above c =
    let layers = c.args.layers.now in
    let parted = IsPartitionedBy-ltb layer_key layers c.args.key (rising_keys layer_key layers 0 c.requires.rise.0 c.requires.rise.1) in
    let point = IsPartitionPoint-from_clause (λ (l : LayerRow). ltb (layer_key l) c.args.key) layers _ c.partition_point.ensures.partitioned parted (λ a r q k. search rules) in
    λ i d past within. ltb-false _ _ (point.1 i d past within)
