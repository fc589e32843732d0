-- What the preparing of depends that come asks of the farm after they came.
pub use Rattle.farm_depends.proofs.ComingLemmas.DependComes.{added_count, added_farm, place_there}
pub use Rattle.farm_depends.proofs.ComingLemmas.JobComes.{placed, placed_farm, placed_groups, placed_rows}
pub use Rattle.depend_book.proofs.OpenUnmet.{left_is}
