-- What a host is, inside, and what it keeps.
use Rattle.std.specs.Prelude.{◌≡◌}
use Rattle.world_host.specs.declared.host.Host.TheInside.{Inside}
use Rattle.world_law.specs.World.{Host}

abbrev pub host_of : Inside → Host
host_of a = record { life = a.rqd; nonces = a.nonces; started = a.started }

-- the configuration is that of the daemon's present life
abbrev pub KeepsHost : Inside → Type 0
KeepsHost a = a.rqd.config ≡ a.config
