-- The limits that a job spec keeps.
use Rattle.std.specs.Prelude.{◌≤◌, ◌<◌, length}
use Rattle.std.specs.List.{All, IsDistinct}
use Rattle.std.specs.Ordering.{int_eq}
use Rattle.farm_types.specs.declared.job.JobSpec.{JobSpec}
use Rattle.farm_types.specs.declared.job.LayerSpec.{LayerSpec}
use Rattle.farm_types.specs.Limits.{IsBetween}
use Rattle.farm_types.specs.Jobs.{frames_in}
use Rattle.farm_types.specs.declared.limits.TheConstants.{LEAST_CORES, LEAST_MEMORY, MOST_COMMAND, MOST_CORES, MOST_FRAMES, MOST_LAYERS, MOST_MEMORY, MOST_PRIORITY, MOST_RETRIES, MOST_TAGS}

-- a layer: at least one number, none twice, and each amount within its limits
pub record LayerKeepsLimits (layer : LayerSpec) : Type 0 where
  pub some : 0 < length layer.numbers
  pub distinct : IsDistinct int_eq layer.numbers
  pub command_within : IsBetween 1 MOST_COMMAND (length layer.command)
  pub cores_within : IsBetween LEAST_CORES MOST_CORES layer.cores
  pub memory_within : IsBetween LEAST_MEMORY MOST_MEMORY layer.memory
  pub tags_within : IsBetween 1 MOST_TAGS (length layer.tags)

-- a job: each amount within its limits, and each layer so
pub record JobKeepsLimits (job : JobSpec) : Type 0 where
  pub priority_within : IsBetween 1 MOST_PRIORITY job.priority
  pub retries_within : job.max_retries ≤ MOST_RETRIES
  pub layers_within : IsBetween 1 MOST_LAYERS (length job.layers)
  pub frames_within : IsBetween 1 MOST_FRAMES (frames_in job.layers)
  pub each_layer : All LayerKeepsLimits job.layers
