-- The reply to a list is read back from its text.
use Rattle.std.proofs.Common.{◌≡◌, List, [], ◌∷◌, length, map, Some, Ok, refl, ap, ◌∙◌, subst, arith, le-leb}
use Rattle.std.specs.Prelude.{codes}
use Rattle.std.specs.List.{All}
use Rattle.std.proofs.lemmas.List.Elements.{All-head}
use Rattle.serde_json.specs.View.{items_of}
use Rattle.cue_json.specs.Items.{item_at, items_at}
use Rattle.farm_lines.specs.declared.limits.TheConstants.{ROWS_EACH}
use Rattle.farm_lines.specs.declared.list_row.ListRow.{ListRow}
use Rattle.farm_lines.specs.declared.list_row.RowKind.{RowKind}
use Rattle.farm_lines.specs.declared.reply.ListReply.{ListReply}
use Rattle.farm_lines.specs.declared.reply.Reply.TheVariants as reply
use Rattle.farm_lines.specs.FormedLines.{IsFormedList, IsFormedRow}
use Rattle.farm_lines.specs.ListReplies.{list_data, list_row_data}
use Rattle.farm_lines.specs.Reply.{reply_text}
use Rattle.farm_lines.specs.ReplyLines.{list_reply_at, reply_of}
use Rattle.farm_lines.specs.ReplyRows.{row_at, rows_in}
use Rattle.farm_lines.specs.RowKinds.{AreOfKind, kind_of_row}
use Rattle.client_codec.proofs.FieldsBack.{fields_in, whole_back}
use Rattle.client_codec.proofs.ItemsBack.{items_back, items_fit}
use Rattle.client_codec.proofs.ReadBack.{back}
use Rattle.client_codec.proofs.RepliedLemmas.RowsBack.{kind_read, row_fits, row_read}

module _ (keys : RowKind) where
  abbrev IsRow : ListRow → Type 0
  IsRow r = IsFormedRow r × (kind_of_row r ≡ keys)

  one_read : (r : ListRow) → IsRow r → item_at (codes "rows") (row_at keys) (list_row_data r) ≡ Ok r
  one_read r h = subst (λ (k : RowKind). item_at (codes "rows") (row_at k) (list_row_data r) ≡ Ok r) h.1 (row_read (codes "rows") r h.0)

  -- all with the keys of the first
  rows_read : (rows : List ListRow) → AreOfKind keys rows → All IsFormedRow rows → rows_in (items_of (map list_row_data rows)) ≡ Ok rows
  rows_read [] alike all = refl
  rows_read (r ∷ rs) alike all =
      let both : All IsRow (r ∷ rs) = λ i d below. (all i d below, alike i d below) in
      ap (λ (k : RowKind). items_at (codes "rows") (row_at k) (items_of (map list_row_data (r ∷ rs)))) (kind_read r ∙ All-head (λ x. kind_of_row x ≡ keys) r rs alike)
      ∙ items_back list_row_data IsRow (codes "rows") (row_at keys) one_read (r ∷ rs) both

pub list_back : (r : ListReply) → IsFormedList r → reply_of (reply_text (reply.List r)) ≡ Some (reply.List r)
unfolding list_data list_reply_at
list_back r h =
    let ms = fields_in (list_data r.rows r.total) in
    back ms (reply.List r) (refl, tt, (refl, items_fit list_row_data IsFormedRow 1 row_fits r.rows h.each_row, (refl, h.total_within, tt))) (
    rw (
      rows_read h.keys r.rows h.alike h.each_row,
      le-leb (length r.rows) ROWS_EACH h.few,
      whole_back (codes "total") ms 0 18446744073709551615 r.total refl (omega arith, omega (arith, h.total_within)),
    ) refl
    )
