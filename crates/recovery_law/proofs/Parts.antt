-- The farm that a part of its rows says.
use Rattle.std.proofs.Common.{true, List, []}
use Rattle.farm_types.specs.declared.depend.DependRow.{DependRow}
use Rattle.farm_types.specs.declared.depend.MetRow.{MetRow}
use Rattle.farm_types.specs.declared.rows.AllocRow.{AllocRow}
use Rattle.farm_types.specs.declared.rows.HostRow.{HostRow}
use Rattle.farm_types.specs.declared.rows.JobRow.{JobRow}
use Rattle.farm_types.specs.declared.rows.LayerRow.{LayerRow}
use Rattle.farm_types.specs.declared.rows.LimitRow.{LimitRow}
use Rattle.farm_types.specs.declared.rows.ShowRow.{ShowRow}
use Rattle.farm_types.specs.declared.rows.SubRow.{SubRow}
use Rattle.farm_types.specs.declared.slot_row.SlotRow.{SlotRow}
use Rattle.farm_types.specs.Farm.{Farm}

-- nothing but the first row's numbers
abbrev pub with_head : Farm → Farm
with_head f =
    record {
      shows = [];
      allocs = [];
      subs = [];
      limits = [];
      hosts = [];
      jobs = [];
      layers = [];
      slots = [];
      depends = [];
      met = [];
      next_job = f.next_job;
      next_depend = f.next_depend;
      next_finish = f.next_finish;
      moment = f.moment;
      recorded = true;
    }

-- the rows up to these
abbrev pub upto_shows : Farm → List ShowRow → Farm
upto_shows f xs = record (with_head f) { shows = xs }

abbrev pub upto_allocs : Farm → List AllocRow → Farm
upto_allocs f xs = record (upto_shows f f.shows) { allocs = xs }

abbrev pub upto_subs : Farm → List SubRow → Farm
upto_subs f xs = record (upto_allocs f f.allocs) { subs = xs }

abbrev pub upto_hosts : Farm → List HostRow → Farm
upto_hosts f xs = record (upto_subs f f.subs) { hosts = xs }

abbrev pub upto_jobs : Farm → List JobRow → Farm
upto_jobs f xs = record (upto_hosts f f.hosts) { jobs = xs }

abbrev pub upto_layers : Farm → List LayerRow → Farm
upto_layers f xs = record (upto_jobs f f.jobs) { layers = xs }

abbrev pub upto_slots : Farm → List SlotRow → Farm
upto_slots f xs = record (upto_layers f f.layers) { slots = xs }

abbrev pub upto_depends : Farm → List DependRow → Farm
upto_depends f xs = record (upto_slots f f.slots) { depends = xs }

abbrev pub upto_met : Farm → List MetRow → Farm
upto_met f xs = record (upto_depends f f.depends) { met = xs }

abbrev pub upto_limits : Farm → List LimitRow → Farm
upto_limits f xs = record (upto_met f f.met) { limits = xs }
