use Rattle.std.proofs.Common.{leb, get_or, arith, rules}
use Rattle.std.proofs.lemmas.Bool.{leb-true}
use Rattle.std.proofs.lemmas.List.Sorted.{IsPartitionPoint-from_clause, IsPartitionedBy-leb}
use Rattle.farm_types.proofs.Searched.{rising_keys}
use Rattle.job_entries.specs.declared.entries.Place.{Place}
use Rattle.job_entries.specs.Entries.{place_key}
use Rattle.job_entries.proofs.Held.{skip_held}
use Rattle.job_entries.proofs.places.place_above.Goals as goal

pub returns-clause-found : goal.returns-clause-found
returns-clause-found c =
    let places = c.args.places.now in
    let facts = c.partition_point.ensures in
    let parted = IsPartitionedBy-leb place_key places c.args.after (rising_keys place_key places 0 c.requires.next c.requires.rise) in
    let point = IsPartitionPoint-from_clause (λ (p : Place). leb (place_key p) c.args.after) places _ facts.partitioned parted (λ a r q k. search rules) in
    skip_held c.args.after c.partition_point.result places c.requires.each (λ i d less within. leb-true (get_or places i d).job c.args.after (point.0 i d (omega arith) less))
