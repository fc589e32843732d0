-- Rows with the keys of a list have a cell for each.
use Rattle.std.proofs.Common.{◌≡◌, ℕ, Bool, true, false, true≢false, List, [], ◌∷◌, length, map, refl, sym, ap, ◌∙◌, ◌&&◌}
use Rattle.std.proofs.lemmas.List.Elements.{All-nil, All-cons}
use Rattle.farm_lines.specs.declared.list_row.ListRow.{ListRow}
use Rattle.farm_lines.specs.declared.list_row.ListRow.TheVariants as row
use Rattle.farm_lines.specs.declared.list_row.RowKind.{RowKind}
use Rattle.farm_lines.specs.declared.list_row.RowKind.TheVariants as kind
use Rattle.farm_lines.specs.RowKinds.{kind_of_row, row_keys}
use Rattle.cue_tables.specs.Tables.{FitsHead}
use Rattle.cue_tool.specs.Listings.{cells_of, have_keys, is_kind}

pub same_kind : (keys other : RowKind) → is_kind keys other ≡ true → other ≡ keys
same_kind kind.Name kind.Name is = refl
same_kind kind.Sub kind.Sub is = refl
same_kind kind.Limit kind.Limit is = refl
same_kind kind.Host kind.Host is = refl
same_kind kind.Job kind.Job is = refl
same_kind kind.Layer kind.Layer is = refl
same_kind kind.Frame kind.Frame is = refl
same_kind kind.Depend kind.Depend is = refl
same_kind kind.Proc kind.Proc is = refl
same_kind keys other is = absurd (true≢false (sym is))

-- a cell for each key
cells_fit : (r : ListRow) → length (cells_of r) ≡ length (row_keys (kind_of_row r))
cells_fit (row.Name name) = refl
cells_fit (row.Sub s) = refl
cells_fit (row.Limit l) = refl
cells_fit (row.Host h) = refl
cells_fit (row.Job j) = refl
cells_fit (row.Layer l) = refl
cells_fit (row.Frame x) = refl
cells_fit (row.Depend d) = refl
cells_fit (row.Proc p) = refl

and_left : (a b : Bool) → (a && b) ≡ true → a ≡ true
and_left true b is = refl
and_left false b is = absurd (true≢false (sym is))

and_right : (a b : Bool) → (a && b) ≡ true → b ≡ true
and_right true b is = is
and_right false b is = absurd (true≢false (sym is))

-- rows with these keys fit under them
pub rows_fit : (keys : RowKind) (rows : List ListRow) → have_keys keys rows ≡ true → FitsHead (row_keys keys) (map cells_of rows)
rows_fit keys [] are = All-nil (λ (cells : List (List ℕ)). length cells ≡ length (row_keys keys))
rows_fit keys (r ∷ rows) are =
    let same = same_kind keys (kind_of_row r) (and_left (is_kind keys (kind_of_row r)) (have_keys keys rows) are) in
    All-cons (λ (cells : List (List ℕ)). length cells ≡ length (row_keys keys)) (cells_of r) (map cells_of rows)
    (cells_fit r ∙ ap (λ (other : RowKind). length (row_keys other)) same)
    (rows_fit keys rows (and_right (is_kind keys (kind_of_row r)) (have_keys keys rows) are))
