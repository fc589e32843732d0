use Rattle.std.proofs.Common.{rules, ◌≡◌, [], length, get_or, ap, ◌∙◌}
use Rattle.keeper_sqlite.specs.Table.{rows_table}
use Rattle.keeper_sqlite.proofs.TableLemmas.{is_ours, our_index}
use Rattle.keeper_sqlite.proofs.schema_test.is_rows_schema.Goals as goal

pub returns-then-is_rows_table : goal.returns-then-is_rows_table
returns-then-is_rows_table c =
    let table : c.table-item.result ≡ rows_table = search rules in
    let views : c.args.schema.now.views ≡ [] = search rules in
    let one_table : length c.as_slice.result.now ≡ 1 = search rules in
    let one_index : length c.as_slice-2.result.now ≡ 1 = search rules in (
      (λ h. is_ours c.args.schema.now c.table-item.result c.index-item.result c.as_slice.result.now c.as_slice-2.result.now c.as_slice.ensures c.as_slice-2.ensures one_table one_index
          c.table-item.is c.index-item.is table (c.is_rows_index.ensures.0 h) views),
      (λ is. c.is_rows_index.ensures.1
          (c.index-item.is ∙ ap (λ xs. get_or xs 0 c.index-item.result) (c.as_slice-2.ensures ∙ our_index c.args.schema.now is))),
    )
