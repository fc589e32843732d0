-- The demonstration's farm as a run: the entries that make it of the farm of no rows.
use Rattle.std.specs.Prelude.{ℕ, ℤ, pos, List, [], ◌∷◌, codes, false}
use Rattle.farm_types.specs.declared.boot.BootLine.{BootLine}
use Rattle.farm_types.specs.declared.entry.Act.TheVariants as act
use Rattle.farm_types.specs.declared.entry.Entry.{Entry}
use Rattle.farm_types.specs.declared.job.JobSpec.{JobSpec}
use Rattle.farm_types.specs.declared.job.LayerSpec.{LayerSpec}
use Rattle.farm_types.specs.declared.sub_line.SubLine.{SubLine}

abbrev pub demo_line : BootLine
demo_line = record { host = codes "h1"; nonce = 1; alloc = codes "farm.general"; tags = []; cores = 800; memory = 33554432 }

abbrev pub demo_sub_line : SubLine
demo_sub_line = record { show = codes "demo"; alloc = codes "farm.general"; size = 400; burst = 400 }

abbrev pub demo_numbers : List ℤ
demo_numbers = pos 1 ∷ pos 2 ∷ pos 3 ∷ pos 4 ∷ pos 5 ∷ pos 6 ∷ pos 7 ∷ pos 8 ∷ pos 9 ∷ pos 10 ∷ []

abbrev pub demo_layer_spec : LayerSpec
demo_layer_spec =
    record {
      name = codes "render";
      range = codes "1-10";
      numbers = demo_numbers;
      command = codes "echo #IFRAME#";
      cores = 100;
      memory = 3355443;
      tags = codes "general" ∷ [];
      limit = [];
    }

abbrev pub demo_spec : JobSpec
demo_spec =
    record {
      name = codes "demo-job";
      show = codes "demo";
      facility = codes "farm";
      shot = [];
      user = [];
      priority = 100;
      max_retries = 3;
      auto_eat = false;
      paused = false;
      layers = demo_layer_spec ∷ [];
      depends = [];
    }

abbrev pub demo_show : ℕ → Entry
demo_show moment = record { moment = moment; act = act.Show (codes "demo") }

abbrev pub demo_alloc : ℕ → Entry
demo_alloc moment = record { moment = moment; act = act.Alloc (codes "farm") (codes "general") }

abbrev pub demo_sub : ℕ → Entry
demo_sub moment = record { moment = moment; act = act.Sub demo_sub_line }

abbrev pub demo_boot : ℕ → Entry
demo_boot moment = record { moment = moment; act = act.Boot demo_line }

abbrev pub demo_submit : ℕ → Entry
demo_submit moment = record { moment = moment; act = act.Submit demo_spec }

-- the entries, all at one moment
abbrev pub demo_entries : ℕ → List Entry
demo_entries moment = demo_show moment ∷ demo_alloc moment ∷ demo_sub moment ∷ demo_boot moment ∷ demo_submit moment ∷ []
