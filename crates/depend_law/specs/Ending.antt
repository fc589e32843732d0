-- What a farm keeps before jobs finish, and which jobs may.
use Rattle.std.specs.Prelude.{ℕ, List}
use Rattle.std.specs.List.{AllByRecursion}
use Rattle.farm_types.specs.Farm.{Farm}
use Rattle.farm_types.specs.Kept.{KeepsDepends, KeepsRows}
use Rattle.farm_types.specs.Rising.{IsRising}
pub use Rattle.farm_law.specs.Ending.{Ends}

-- all that a farm keeps but for work: a pending job may have no frame left
pub record IsSettled (f : Farm) : Type 0 where
  pub rows : KeepsRows f
  pub depends : KeepsDepends f

-- the jobs may finish one after the other: they end, and their numbers rise
pub record CanEnd (f : Farm) (jobs : List ℕ) : Type 0 where
  pub settled : IsSettled f
  pub rise : IsRising (λ (n : ℕ). n) 1 jobs f.next_job
  pub ends : AllByRecursion (Ends f) jobs
