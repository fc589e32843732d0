-- What words say while the recorder's seat is the only one, by what live attempts use.
use Rattle.std.proofs.Common.{◌≡◌, ℕ, ◌+◌, ◌<◌, List, [], refl, sym, ap, ◌∙◌, subst, arith}
use mathlib.Core.Option.{some}
use lib.ListN.{get_elem?}
use Rattle.farm_types.specs.Farm.{Farm}
use Rattle.farm_types.specs.Kept.{IsKeptFarm, KeepsRows}
use Rattle.farm_types.specs.Sums.{booked_in, running_in, used_cores, used_memory}
use Rattle.depend_law.proofs.KeptRuns.{kept_run}
use Rattle.entry_law.proofs.Running.{cores_booked, cores_used, frames_counted, memory_used}
use Rattle.booking_rule.specs.declared.view.View.{View}
use Rattle.booking_rule.specs.Alone.{IsAlone, ShowsBurst, ShowsLimit, ShowsRoom}
use Rattle.booking_rule.specs.Kept.{Kept, farm_in}
use Rattle.booking_rule.specs.Link.{farm_of}
use Rattle.booking_rule.specs.Words.{Words}
use Rattle.booking_rule.proofs.Alone.{booked_shown, burst_shown, cores_shown, memory_shown, most_shown, running_shown}
use Rattle.booking_rule.proofs.Own.{of_first}

module _ (n : ℕ) (W : Words) (views : List View) (id : ℕ) (v : View) (K : Kept n W views) (at : get_elem? views id ≡ some v) (alone : IsAlone [] v) where
  -- the journal's farm is one that entries keep
  kept : KeepsRows (farm_in v)
  kept =
      let own = of_first n W views id v alone.desk K at alone.first in
      (kept_run (farm_of v.opening) v.journal own.begins own.legal).rows

  pub shows_room : (host : ℕ) → host < 4096 → ShowsRoom v host (W.host host)
  shows_room host lt =
      let cores = cores_shown n W views id v [] K at alone refl host lt in
      let memory = memory_shown n W views id v [] K at alone refl host lt in
      let used = cores_used (farm_in v) kept host in
      let filled = memory_used (farm_in v) kept host in
      record { cores = omega (arith, cores, used); memory = omega (arith, memory, filled) }

  pub shows_burst : (sub : ℕ) → sub < 1024 → ShowsBurst v sub (W.sub sub)
  shows_burst sub lt =
      let booked = booked_shown n W views id v [] K at alone refl sub lt in
      let sum = cores_booked (farm_in v) kept sub in
      record { burst = burst_shown n W views id v [] K at alone sub lt; booked = omega (arith, booked, sum) }

  pub shows_limit : (limit : ℕ) → limit < 255 → ShowsLimit v limit (W.limit limit)
  shows_limit limit lt =
      let running = running_shown n W views id v [] K at alone refl limit lt in
      let count = frames_counted (farm_in v) kept limit in
      record { most = most_shown n W views id v [] K at alone limit lt; running = omega (arith, running, count) }
