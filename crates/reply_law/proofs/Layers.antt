-- A layer within its forms and limits, its texts as texts.
use Rattle.std.proofs.Common.{◌≡◌, true}
use Rattle.std.specs.List.{list_all}
use Rattle.std.specs.Str.{is_utf8}
use Rattle.farm_types.specs.declared.limits.TheConstants.{LEAST_CORES, LEAST_MEMORY, MOST_CORES, MOST_MEMORY}
use Rattle.farm_types.specs.declared.rows.LayerRow.{LayerRow}
use Rattle.farm_types.specs.Forms.{is_command_byte}
use Rattle.farm_types.specs.Kept.{is_formed_layer}
use Rattle.farm_types.specs.Limits.{IsBetween}
use Rattle.farm_types.proofs.Lists.{and_both}
use Rattle.farm_types.proofs.Ranges.{range_utf8}
use Rattle.farm_law.proofs.FormedParts.{layer_formed}
use Rattle.farm_lines.specs.FormedLines.{IsName, IsText}

pub record LayerWithin (l : LayerRow) : Type 0 where
  pub name : IsName l.name
  pub range : IsText l.range
  pub command : IsText l.command
  pub cores : IsBetween LEAST_CORES MOST_CORES l.cores
  pub memory : IsBetween LEAST_MEMORY MOST_MEMORY l.memory

pub layer_within : (l : LayerRow) → is_formed_layer l ≡ true → LayerWithin l
layer_within l formed =
    let parts = layer_formed l formed in
    record {
      name = parts.name;
      range = range_utf8 l.range parts.range;
      command = (and_both (is_utf8 l.command) (list_all is_command_byte l.command) parts.command).0;
      cores = parts.cores;
      memory = parts.memory;
    }
