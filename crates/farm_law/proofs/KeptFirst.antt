-- The farm that no entry has made, and the farm of the demonstration, keep what every farm keeps.
use Rattle.std.proofs.Common.{◌<◌, ◌^◌, ℕ, refl, subst, arith}
use Rattle.std.proofs.lemmas.Option.{none-some}
use Rattle.farm_types.specs.Demo.{demo_farm}
use Rattle.farm_types.specs.Farm.{empty_farm}
use Rattle.farm_types.specs.Kept.{KeepsRows, KeepsJobs}
use Rattle.farm_types.specs.Run.{IsSound}
use Rattle.farm_types.specs.Step.{lists_of}
use Rattle.farm_law.proofs.DemoLegal.{demo_legal, demo_run}
use Rattle.farm_law.proofs.KeptJobsLists.{names_none, nothing_differs}
use Rattle.farm_law.proofs.KeptRuns.{kept_run}
use Rattle.farm_law.specs.DemoRun.{demo_entries}

-- ---- the farm of no rows

-- no host is used, and there is no attempt
empty_sound : IsSound empty_farm
empty_sound = record { cores = λ n row at. omega arith; memory = λ n row at. omega arith; attempts = λ i s at. absurd (none-some s at) }

-- no job, so that there is nothing to keep
jobs_none : KeepsJobs (lists_of empty_farm) 0
jobs_none =
    record {
      next_within = omega arith;
      finish_from = omega arith;
      finish_within = omega arith;
      finished_count = omega arith;
      finishes_within = refl;
      finishes_differ = nothing_differs;
      jobs_counted = refl;
      jobs_rise = omega arith;
      jobs_formed = refl;
      jobs_differ = names_none;
      jobs_layered = λ n j at pending. absurd (none-some j at);
      layers_rise = omega arith;
      layers_formed = refl;
      layers_owned = refl;
      slot_count = omega arith;
      slots_kept = refl;
      frames_once = λ i k s t x y at_i is_x at_k is_y same. absurd (none-some s at_i);
      frames_there = λ n l at position within. absurd (none-some l at);
      ends_used = tt;
    }

-- the farm that no entry has made
pub kept_empty : KeepsRows empty_farm
kept_empty =
    record {
      moment_within = omega arith;
      shows = record { count = omega arith; differ = names_none; formed = refl };
      allocs = record { count = omega arith; differ = names_none; formed = refl };
      subs = record { rise = omega arith; each = refl };
      limits = record { count = omega arith; differ = names_none; formed = refl; there = refl };
      hosts = record { count = omega arith; differ = names_none; formed = refl; allocated = refl; heard = refl };
      jobs = jobs_none;
      attempts = record { hosted = refl; measured = refl; billed = refl; subscribed = refl; since = refl; versioned = refl };
      sound = empty_sound;
    }

-- ---- the demonstration

-- its farm is that of a legal run from there
pub kept_demo : (moment : ℕ) → moment < 2 ^ 64 → KeepsRows (demo_farm moment)
kept_demo moment within = subst KeepsRows (demo_run moment) (kept_run empty_farm (demo_entries moment) kept_empty (demo_legal moment within))
