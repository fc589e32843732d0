use Rattle.std.proofs.Common.{◌≡◌, drop}
use Rattle.std.specs.List.{list_any}
use Rattle.std.specs.Str.{bytes_eq}
use Rattle.farm_types.specs.declared.rows.AllocRow.{AllocRow}
use Rattle.farm_types.specs.Kept.{alloc_label}
use Rattle.stored_rows.proofs.alloc_row.has_label.Given as goal

abbrev pub invariant-loop-row : goal.invariant-loop-row
invariant-loop-row l = list_any (λ (r : AllocRow). bytes_eq (alloc_label r) l.name) (drop l.row-index l.rows) ≡ list_any (λ (r : AllocRow). bytes_eq (alloc_label r) l.name) l.rows
