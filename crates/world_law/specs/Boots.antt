-- Boot numbers, which tell the lives of a host apart.
use Rattle.std.specs.Prelude.{ℕ, ◌≡◌, ◌≤◌, List, Some, slice_get}
use Rattle.farm_types.specs.declared.rows.HostRow.{HostRow}
use Rattle.farm_types.specs.Farm.{Farm, host_named}

-- the host of that name came to this boot number, by a boot with this nonce
pub record CameToBoot (f : Farm) (name : List ℕ) (boot nonce : ℕ) : Type 0 where
  pub place : ℕ
  pub row : HostRow
  pub named : host_named f name ≡ Some place
  pub there : slice_get f.hosts place ≡ Some row
  pub reached : boot ≤ row.boot
  pub with_nonce : boot ≡ row.boot → nonce ≡ row.nonce
