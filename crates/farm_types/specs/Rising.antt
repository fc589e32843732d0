-- Lists whose keys rise.
use Rattle.std.specs.Prelude.{ℕ, ◌≤◌, ◌<◌, ◌==◌, ◌+◌, ◌*◌, List, [], ◌∷◌, All, find, IsSome}
use Rattle.farm_types.specs.declared.depend.DependRow.{DependRow}
use Rattle.farm_types.specs.declared.rows.JobRow.{JobRow}
use Rattle.farm_types.specs.declared.rows.LayerRow.{LayerRow}
use Rattle.farm_types.specs.declared.rows.SubRow.{SubRow}
use Rattle.farm_types.specs.declared.limits.TheConstants.{MOST_LAYERS}

-- the keys rise strictly, from `low` and below `high`
abbrev pub IsRising : {X : Type 0} → (X → ℕ) → ℕ → List X → ℕ → Type 0
IsRising key low [] high = low ≤ high
IsRising key low (x ∷ xs) high = (low ≤ key x) × IsRising key (key x + 1) xs high

abbrev pub sub_key : SubRow → ℕ
sub_key s = s.sub

abbrev pub job_key : JobRow → ℕ
job_key j = j.job

-- layers are in the order of their jobs, those of a job by their places, which are below the most that a job has
abbrev pub layer_key : LayerRow → ℕ
layer_key l = MOST_LAYERS * l.job + l.place

abbrev pub depend_key : DependRow → ℕ
depend_key d = d.depend

-- an item has the key, it is above the other one, and no item's key lies between
pub record IsNextKey {X : Type 0} (key : X → ℕ) (xs : List X) (after next : ℕ) : Type 0 where
  pub there : IsSome (find (λ x. key x == next) xs)
  pub above : after < next
  pub least : All (λ x. after < key x → next ≤ key x) xs
