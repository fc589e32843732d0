-- How a world is made.
use Rattle.std.specs.Prelude.{◌≡◌, Bool, true, false, List, Result, Ok, Err}
use Rattle.std.specs.List.{list_any}
use Rattle.farm_types.specs.Farm.{Farm}
use Rattle.farm_lines.specs.declared.request.Request.{Request}
use Rattle.farm_lines.specs.declared.request.Request.TheVariants as request
use Rattle.rqd_core.specs.declared.config.RqdConfig.{RqdConfig}
use Rattle.world_law.specs.declared.fault.WorldFault.{WorldFault}
use Rattle.world_law.specs.declared.fault.WorldFault.TheVariants as fault
use Rattle.world_law.specs.World.{World, made_world}

-- hosts alone send it
abbrev pub is_hosts_own : Request → Bool
is_hosts_own (request.Boot line) = true
is_hosts_own (request.Report r) = true
is_hosts_own other = false

-- a world was made of requests that operators send; or one of them is a host's; or none is, and memory ran out
abbrev pub Makes : Farm → List RqdConfig → List Request → Result World WorldFault → Type 0
Makes farm configs asked (Ok w) = (list_any is_hosts_own asked ≡ false) × (w ≡ made_world farm configs asked)
Makes farm configs asked (Err fault.NoSuch) = list_any is_hosts_own asked ≡ true
Makes farm configs asked (Err (fault.UsedNonce nonce)) = ⊥
Makes farm configs asked (Err fault.NoMemory) = list_any is_hosts_own asked ≡ false
