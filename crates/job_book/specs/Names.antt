-- The names of the jobs, by which a job is found without a walk.
use Rattle.std.specs.Prelude.{ℕ, ◌≡◌, ◌≤◌, Bool, List, [], ◌∷◌, map, filter, length, bytes_eq, Option, None, Some}
use Rattle.farm_types.specs.declared.rows.JobRow.{JobRow}
use Rattle.job_index.specs.Names.{number_of}
use Rattle.farm_types.specs.Rising.{job_key}

abbrev pub as_list : Option ℕ → List ℕ
as_list None = []
as_list (Some n) = n ∷ []

abbrev pub is_named : List ℕ → JobRow → Bool
is_named name j = bytes_eq j.name name

-- each name is that of one job at most, and leads to its number; no other names are there
pub record KeepsNames (names : List (List ℕ × ℕ)) (jobs : List JobRow) : Type 0 where
  pub named : (name : List ℕ) → map job_key (filter (is_named name) jobs) ≡ as_list (number_of name names)
  pub as_many : length names ≤ length jobs
