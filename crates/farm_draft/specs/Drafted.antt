-- What a draft is: a farm, and the farm that it comes to at a moment.
use Rattle.std.specs.Prelude.{ℕ, List, slice_set}
use Rattle.farm_types.specs.declared.rows.HostRow.{HostRow}
use Rattle.farm_types.specs.declared.slot_row.SlotRow.{SlotRow}
use Rattle.farm_types.specs.Farm.{Farm, changed_at}
use Rattle.host_book.specs.Life.{with_life}
use Rattle.host_book.specs.declared.life.HostLife.{HostLife}

pub record Drafted : Type 0 where
  pub base : Farm
  pub moment : ℕ
  pub farm : Farm

-- the draft that comes to another farm, to other hosts, and to other slots
abbrev pub with_farm : Drafted → Farm → Drafted
with_farm d f = record d { farm = f }

abbrev pub with_hosts : Drafted → List HostRow → Drafted
with_hosts d hosts = with_farm d (record d.farm { hosts = hosts })

abbrev pub with_slots : Drafted → List SlotRow → Drafted
with_slots d slots = with_farm d (record d.farm { slots = slots })

-- with another life of one host, and with another row in one slot
abbrev pub with_host : Drafted → ℕ → HostLife → Drafted
with_host d host life = with_hosts d (changed_at d.farm.hosts host (with_life life))

abbrev pub with_slot : Drafted → ℕ → SlotRow → Drafted
with_slot d slot row = with_slots d (slice_set d.farm.slots slot row)
