-- What the rows so far keep true of the fields.
use Rattle.std.specs.Prelude.{◌≡◌, ◌≤◌, map}
use Rattle.std.specs.Vec.{vec_capacity}
use Rattle.farm_types.specs.declared.limits.TheConstants.{SLOT_LIMIT}
use Rattle.farm_types.specs.Kept.{limit_label}
use Rattle.farm_rows.specs.Recovery.{IsFormat}
use Rattle.stored_rows.specs.declared.stored_rows.StoredRows.TheInside.{Inside}
use Rattle.stored_rows.specs.Known.{KnowsTold}
use Rattle.stored_rows.specs.Told.{Told, farm_of}

abbrev pub told_of : Inside → Told
told_of a = record { last = a.last; farm = farm_of a.lists a.next_depend; format = a.format }

pub record KnowsStored (a : Inside) : Type 0 where
  pub told : KnowsTold (told_of a) a.hosts a.jobs a.layers.items
  pub limits : a.limits ≡ map limit_label a.lists.limits.items
  pub format : IsFormat a.format
  pub room : SLOT_LIMIT ≤ vec_capacity a.lists.slots
