-- Farms without depends keep what every farm keeps of them: the farm that no entry has made, and that of the demonstration.
use Rattle.std.proofs.Common.{◌≡◌, ℕ, ◌^◌, ◌<◌, Bool, true, not, [], refl, arith}
use Rattle.std.specs.List.{list_all}
use Rattle.std.proofs.lemmas.Bool.{and_left, and_right, not-true, true≢false}
use Rattle.farm_types.specs.declared.slot_row.SlotRow.{SlotRow}
use Rattle.farm_types.specs.Demo.{demo_farm}
use Rattle.farm_types.specs.Farm.{Farm, empty_farm, for_some}
use Rattle.farm_types.specs.Kept.{IsKeptFarm, KeepsDepends}
use Rattle.farm_types.specs.Settle.{is_blocked}
use Rattle.farm_types.proofs.Lists.{list_all-at}
use Rattle.farm_law.proofs.KeptFirst.{kept_demo, kept_empty}

-- the slot's frame isn't blocked
abbrev is_unblocked : SlotRow → Bool
is_unblocked s = not (for_some s.frame (λ x. is_blocked x.state))

-- a farm without depends, in which no frame is blocked
none_kept : (f : Farm) → list_all is_unblocked f.slots ≡ true → KeepsDepends (record f { depends = []; met = []; next_depend = 1 })
none_kept f unblocked =
    record {
      next_within = omega arith;
      rise = omega arith;
      count = omega arith;
      groups_within = omega arith;
      formed = refl;
      ends_there = refl;
      no_self_depends = refl;
      met = refl;
      blocked = λ slot s at. and_left _ _ (not-true (for_some s.frame (λ x. is_blocked x.state)) (list_all-at is_unblocked f.slots slot s unblocked at));
      free_to_run = λ slot s at. and_right _ _ refl;
    }

pub first_empty : IsKeptFarm empty_farm
first_empty = record { rows = kept_empty; depends = none_kept empty_farm refl; work = refl; record_kept = λ h. refl }

pub first_demo : (moment : ℕ) → moment < 2 ^ 64 → IsKeptFarm (demo_farm moment)
first_demo moment within = record { rows = kept_demo moment within; depends = none_kept (demo_farm moment) refl; work = refl; record_kept = λ h. absurd (true≢false h) }
