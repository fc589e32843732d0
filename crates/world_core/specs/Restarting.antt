-- A scheduler that starts again.
use Rattle.std.specs.Prelude.{ℕ, ◌≡◌, [], ◌∷◌}
use Rattle.farm_types.specs.Step.{after}
use Rattle.world_core.specs.declared.restarting.Start.{Start}
use Rattle.world_law.specs.Happens.{opened_entry}
use Rattle.world_law.specs.World.{History, World}

-- the scheduler starts with the farm of the history, and Opened follows
pub record IsStart (h : History) (moment : ℕ) (s : Start) : Type 0 where
  pub opened : s.opened ≡ h.farm
  pub now : s.now ≡ record h { farm = after h.farm (opened_entry moment) }
  pub entries : s.entries ≡ opened_entry moment ∷ []

-- the world once it has started
abbrev pub begun : World → Start → World
begun w s = record w { now = s.now; further = []; opened = s.opened; entries = s.entries }
