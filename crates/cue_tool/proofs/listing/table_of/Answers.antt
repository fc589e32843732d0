-- The rows have the keys of the list.
use Rattle.std.proofs.Common.{rules, ◌≡◌, true, sym, ◌∙◌, subst}
use Rattle.cue_tables.specs.Tables.{FitsHead}
use Rattle.farm_lines.specs.RowKinds.{row_keys}
use Rattle.cue_tool.proofs.ListingLemmas.{rows_fit}
use Rattle.cue_tool.proofs.listing.table_of.Goals as goal

pub table_under-requires : goal.table_under-requires
table_under-requires c =
    let have : c.have_keys.result ≡ true = search rules in
    subst (FitsHead (row_keys c.args.keys)) (sym c.in_ok-cells.ensures) (rows_fit c.args.keys c.args.rows.now (sym c.have_keys.ensures ∙ have))
