-- A store that refuses one commit.
use Rattle.std.specs.Prelude.{ℕ, ◌≡◌, ◌+◌, Option, None, Some, Result, Ok, Err}
use Rattle.farm_keeper.specs.declared.fault.KeeperFault.{KeeperFault}
use Rattle.farm_keeper.specs.declared.fault.KeeperFault.TheVariants as fault
use Rattle.world_answers.specs.declared.refusing.Refusing.{Refusing}

abbrev pub new_refusing : Option ℕ → Refusing
new_refusing due = record { due = due; faults = 0 }

-- one commit fewer comes before the one that is refused; or none is refused
abbrev pub IsOneFewer : Option ℕ → Option ℕ → Type 0
IsOneFewer None now = now ≡ None
IsOneFewer (Some due) now = (left : ℕ) × (due ≡ left + 1) × (now ≡ Some left)

-- a commit was taken, or it was the one that is refused
abbrev pub Commits : Result (Unit {0}) KeeperFault → Refusing → Refusing → Type 0
Commits (Ok done) before now = IsOneFewer before.due now.due
Commits (Err fault.Failed) before now = before.due ≡ Some 0
Commits (Err fault.NoMemory) before now = ⊥
