use Rattle.std.proofs.Common.{leb, rules}
use Rattle.std.proofs.lemmas.List.Sorted.{IsPartitionPoint-from_clause, IsPartitionedBy-leb}
use Rattle.depend_book.specs.declared.row_list.RowPlace.{RowPlace}
use Rattle.depend_book.specs.Rows.{place_key}
use Rattle.farm_types.proofs.Searched.{rising_keys, parted_at}
use Rattle.depend_book.proofs.places.place_above.Goals as goal

pub returns : goal.returns
returns c =
    let rows = c.args.places.now in
    let facts = c.partition_point.ensures in
    let parted = IsPartitionedBy-leb place_key rows c.args.after (rising_keys place_key rows 1 c.requires.0 c.requires.1) in
    let point = IsPartitionPoint-from_clause (λ (d : RowPlace). leb (place_key d) c.args.after) rows _ facts.partitioned parted (λ a r q k. search rules) in
    parted_at place_key rows c.args.after c.partition_point.result facts.bound point
