-- The groups of a depend, as they may be.
use Rattle.std.specs.Prelude.{ℕ, ◌≡◌, Bool, true, nat_lt, nat_eq}
use Rattle.std.specs.List.{IsDistinct, list_all}
use Rattle.farm_types.specs.declared.depend.Group.{Group}
use Rattle.farm_types.specs.declared.limits.TheConstants.{SLOT_LIMIT}

abbrev pub is_below : ℕ → Bool
is_below slot = nat_lt slot SLOT_LIMIT

-- no slot stands twice among those that wait, nor among the targets, and each is one of the farm's
pub record IsGroup (g : Group) : Type 0 where
  pub waiters_differ : IsDistinct nat_eq g.waiters
  pub targets_differ : IsDistinct nat_eq g.targets
  pub waiters_within : list_all is_below g.waiters ≡ true
  pub targets_within : list_all is_below g.targets ≡ true
