use Rattle.std.proofs.Common.{◌≡◌, ◌+◌, drop}
use Rattle.std.specs.List.{position_or_len}
use Rattle.std.specs.Str.{bytes_eq}
use Rattle.farm_types.specs.declared.rows.LayerRow.{LayerRow}
use Rattle.stored_rows.proofs.readers.place_named.Given as goal

abbrev pub invariant-loop-place : goal.invariant-loop-place
invariant-loop-place l = l.place + position_or_len (λ (m : LayerRow). bytes_eq m.name l.name) (drop l.place l.layers) ≡ position_or_len (λ (m : LayerRow). bytes_eq m.name l.name) l.layers
