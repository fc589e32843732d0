-- What is read of the farm.
use Rattle.std.specs.Prelude.{ℕ, ◌&&◌, Bool, not, Option, option_map, find, nat_lt, slice_get}
use Rattle.farm_types.specs.declared.rows.HostRow.{HostRow}
use Rattle.farm_types.specs.declared.rows.JobRow.{JobRow}
use Rattle.farm_types.specs.declared.rows.LayerRow.{LayerRow}
use Rattle.farm_types.specs.Booking.{has_capacity, in_facility, share_tag, tags_of, takes_frames, within_burst, within_limit}
use Rattle.farm_types.specs.Farm.{Farm, for_some, job_at}

-- the tags of a layer and those of a host share a word
abbrev pub rows_share_tag : Farm → LayerRow → HostRow → Bool
rows_share_tag f layer row = for_some (slice_get f.allocs row.alloc) (λ allocation. share_tag layer.tags (tags_of row allocation))

-- frames of the job may be booked on the host, as far as host and job decide it
abbrev pub takes_job : Farm → ℕ → ℕ → Bool
takes_job f host job =
    for_some (slice_get f.hosts host) (λ row. for_some (job_at f job) (λ j. takes_frames row && not j.paused && in_facility f row.alloc j.facility))

-- frames of the layer may be booked on the host of that subscription, as far as the layer decides it
abbrev pub takes_layer : Farm → ℕ → ℕ → LayerRow → Bool
takes_layer f host sub layer =
    for_some (slice_get f.hosts host) (λ row. has_capacity f host row layer && within_burst f sub layer && within_limit f layer && rows_share_tag f layer row)

-- the job with the least number above this one
abbrev pub job_after : Farm → ℕ → Option ℕ
job_after f after = option_map (λ (j : JobRow). j.job) (find (λ j. nat_lt after j.job) f.jobs)
