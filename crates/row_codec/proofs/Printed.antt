-- A row's tokens are printed as its text.
use Rattle.std.proofs.Common.{◌≡◌, ℕ, []}
use Rattle.json.specs.Print.{print}
use Rattle.serde_json.specs.Data.{object}
use Rattle.farm_rows.specs.declared.farm_row.FarmRow.{FarmRow}
use Rattle.object_writer.specs.Tokens.{added, object_tokens}
use Rattle.object_writer.proofs.Printed.{data_printed}
use Rattle.row_codec.specs.RowFields.{row_fields, text_in}

pub row_printed : (format : ℕ) (r : FarmRow) → print (added [] (object_tokens (row_fields format r))) ≡ text_in format r
row_printed format r = data_printed (object (row_fields format r))
