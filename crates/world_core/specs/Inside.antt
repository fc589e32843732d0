-- What the parts of a world are, inside.
use Rattle.world_core.specs.declared.parts.Parts.TheInside.{Inside}
use Rattle.world_law.specs.World.{World}

abbrev pub world_of : Inside → World
world_of a =
    record {
      now = a.now;
      further = a.further.items;
      opened = a.opened;
      entries = a.entries;
      hosts = a.hosts.items;
      sent = a.sent;
      told = a.told;
      events = a.events;
    }
