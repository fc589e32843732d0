use Rattle.std.proofs.Common.{ℕ, leb, rules}
use Rattle.std.proofs.lemmas.List.Sorted.{IsPartitionPoint-from_clause, IsPartitionedBy-leb}
use Rattle.job_index.specs.Keys.{itself}
use Rattle.farm_types.proofs.Searched.{rising_keys, parted_at}
use Rattle.job_index.proofs.ready_jobs.place_behind.Goals as goal

pub returns-clause-value : goal.returns-clause-value
returns-clause-value c =
    let keys = c.args.keys.now in
    let facts = c.partition_point.ensures in
    let parted = IsPartitionedBy-leb itself keys c.args.key (rising_keys itself keys 0 _ c.requires) in
    let point = IsPartitionPoint-from_clause (λ (k : ℕ). leb (itself k) c.args.key) keys _ facts.partitioned parted (λ a r q k. search rules) in
    parted_at itself keys c.args.key c.partition_point.result facts.bound point
