-- The farm of a load of n frames a layer: the entries that make it of the farm of no rows, all at moment 0, and how its attempts exit.
use Rattle.std.specs.Prelude.{ℕ, zero, suc, ℤ, pos, ◌+◌, ◌*◌, ◌%◌, ◌==◌, ◌≤◌, List, [], ◌∷◌, ◌++◌, codes, decimal, false, None, Some, if◌then◌else◌}
use Rattle.farm_types.specs.declared.attempt.Attempt.{Attempt}
use Rattle.farm_types.specs.declared.attempt.Exit.{Exit}
use Rattle.farm_types.specs.declared.boot.BootLine.{BootLine}
use Rattle.farm_types.specs.declared.depend.DependKind.TheVariants.{FrameByFrame}
use Rattle.farm_types.specs.declared.depend.DependSpec.{DependSpec}
use Rattle.farm_types.specs.declared.depend.Place.{Place}
use Rattle.farm_types.specs.declared.entry.Act.TheVariants as act
use Rattle.farm_types.specs.declared.entry.Entry.{Entry}
use Rattle.farm_types.specs.declared.job.JobSpec.{JobSpec}
use Rattle.farm_types.specs.declared.job.LayerSpec.{LayerSpec}
use Rattle.farm_types.specs.declared.sub_line.SubLine.{SubLine}
use Rattle.farm_gen.specs.declared.limits.TheConstants.{MOST_LOAD}

-- a load has 1 to 5,000 frames a layer
pub record IsLoad (n : ℕ) : Type 0 where
  pub some : 1 ≤ n
  pub within : n ≤ MOST_LOAD

-- ---- the job

-- its name has the number in it, printed plainly
abbrev pub load_name : ℕ → List ℕ
load_name n = codes "load-" ++ decimal n

-- the range of each of its layers, and the numbers of the range: so many, from one on
abbrev pub load_range : ℕ → List ℕ
load_range n = codes "1-" ++ decimal n

abbrev pub numbers_from : ℕ → ℕ → List ℤ
numbers_from first zero = []
numbers_from first (suc count) = pos first ∷ numbers_from (first + 1) count

abbrev pub load_layer : ℕ → List ℕ → LayerSpec
load_layer n name =
    record {
      name = name;
      range = load_range n;
      numbers = numbers_from 1 n;
      command = codes "true";
      cores = 100;
      memory = 3355443;
      tags = codes "general" ∷ [];
      limit = [];
    }

-- all frames of a layer of the job
abbrev pub layer_place : ℕ → List ℕ → Place
layer_place n layer = record { job = load_name n; layer = Some layer; frame = None }

-- each frame of the second layer waits for the first layer's frame of its number
abbrev pub load_depend : ℕ → DependSpec
load_depend n = record { kind = FrameByFrame; any = false; waiter = layer_place n (codes "b"); target = layer_place n (codes "a") }

abbrev pub load_spec : ℕ → JobSpec
load_spec n =
    record {
      name = load_name n;
      show = codes "load";
      facility = codes "farm";
      shot = [];
      user = [];
      priority = 100;
      max_retries = 3;
      auto_eat = false;
      paused = false;
      layers = load_layer n (codes "a") ∷ load_layer n (codes "b") ∷ [];
      depends = load_depend n ∷ [];
    }

-- ---- the entries

abbrev pub load_show : Entry
load_show = record { moment = 0; act = act.Show (codes "load") }

abbrev pub load_alloc : Entry
load_alloc = record { moment = 0; act = act.Alloc (codes "farm") (codes "general") }

abbrev pub load_sub_line : SubLine
load_sub_line = record { show = codes "load"; alloc = codes "farm.general"; size = 100000; burst = 100000 }

abbrev pub load_sub : Entry
load_sub = record { moment = 0; act = act.Sub load_sub_line }

-- a host boots, of sixteen cores
abbrev pub load_line : List ℕ → ℕ → BootLine
load_line host nonce = record { host = host; nonce = nonce; alloc = codes "farm.general"; tags = []; cores = 1600; memory = 67108864 }

abbrev pub load_boot : List ℕ → ℕ → Entry
load_boot host nonce = record { moment = 0; act = act.Boot (load_line host nonce) }

abbrev pub load_submit : ℕ → Entry
load_submit n = record { moment = 0; act = act.Submit (load_spec n) }

abbrev pub load_entries : ℕ → List Entry
load_entries n =
    load_show ∷ load_alloc ∷ load_sub ∷ load_boot (codes "h1") 1 ∷ load_boot (codes "h2") 2 ∷ load_boot (codes "h3") 3 ∷ load_boot (codes "h4") 4
    ∷ load_submit n ∷ []

-- ---- exits

-- an attempt fails where 7 times its slot, 3 times its version and n are together divisible by 11
abbrev pub load_status : ℕ → Attempt → ℕ
load_status n a = if (7 * a.slot + 3 * a.version + n) % 11 == 0 then 1 else 0

abbrev pub load_exit : ℕ → Attempt → Exit
load_exit n a = record { status = load_status n a; signal = 0 }
