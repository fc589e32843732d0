-- What a boot leaves and sets of a host that is there.
use Rattle.std.proofs.Common.{◌≡◌, ℕ, Bool, true, false, cond, refl}
use Rattle.farm_types.specs.declared.boot.BootLine.{BootLine}
use Rattle.farm_types.specs.declared.rows.HostRow.{HostRow}
use Rattle.farm_types.specs.Hosts.{again_row, booted_row, is_same_life, reborn_row}
use Rattle.host_book.specs.Inside.{name_of, watched_of}

module _ (line : BootLine) (moment : ℕ) (row : HostRow) where
  pub name-booted : name_of (booted_row line moment row) ≡ name_of row
  name-booted = name_by (is_same_life line row)
    where
      name_by : (b : Bool) → name_of (cond b (again_row moment row) (reborn_row line moment row)) ≡ name_of row
      name_by true = refl
      name_by false = refl

  pub watched-booted : watched_of (booted_row line moment row) ≡ moment
  watched-booted = watched_by (is_same_life line row)
    where
      watched_by : (b : Bool) → watched_of (cond b (again_row moment row) (reborn_row line moment row)) ≡ moment
      watched_by true = refl
      watched_by false = refl
