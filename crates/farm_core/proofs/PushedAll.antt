-- All rows of a farm: its own, those of the books, and those of depends and their marks.
use Rattle.std.proofs.Common.{◌≡◌, ◌∙◌, ℕ, Bool, true, List, [], ◌∷◌, ◌++◌, map, sym, ap}
use Rattle.std.specs.Prelude.{if◌then◌else◌}
use Rattle.farm_types.specs.Farm.{Farm}
use Rattle.farm_types.specs.Rising.{depend_key}
use Rattle.farm_rows.specs.declared.farm_row.FarmRow.{FarmRow}
use Rattle.farm_rows.specs.declared.farm_row.FarmRow.TheVariants as row
use Rattle.farm_rows.specs.declared.head_row.HeadRow.{HeadRow}
use Rattle.farm_rows.specs.Rows.{head_row, numbered, recorded_rows, rows_of}
use Rattle.farm_books.specs.Rows.{book_rows}
use Rattle.farm_books.proofs.PushedRows.{recorded_are, then_more}
use Rattle.depend_book.specs.Book.{DependLists, IsBook, joined}
use Rattle.depend_book.specs.Fits.{Fits}
use Rattle.farm_core.specs.AllRows.{depend_rows, marks_told, rows_told}
use Rattle.farm_core.proofs.MarksTold.{marks_all}
use Rattle.farm_core.proofs.RowsTold.{all_told}

module _ (f : Farm) (b : DependLists) (book : IsBook b) (fits : Fits f b) where
  -- those of depends, told by all their numbers
  pub depends_pushed : (old one both : List FarmRow) (ns ms : List ℕ) → ns ≡ map depend_key b.rows → ms ≡ map depend_key b.rows
      → one ≡ old ++ rows_told b ns → both ≡ one ++ marks_told b.graph.depends ms
      → both ≡ old ++ depend_rows b
  depends_pushed old one both ns ms all_rows all_marks rows marks =
      then_more old one both (rows_told b ns) (marks_told b.graph.depends ms) marks rows
      ∙ λ i. old ++ ((ap (rows_told b) all_rows ∙ all_told b b.next book.rise) i ++ (ap (marks_told b.graph.depends) all_marks ∙ marks_all f b book fits) i)

-- the farm's own row, then those of the books, then those of depends, then those of limits
pub all_pushed : (f : Farm) (b : DependLists) (head : HeadRow) (one two three four : List FarmRow) → head ≡ head_row (joined f b) → f.recorded ≡ true
    → one ≡ row.Head head ∷ [] → two ≡ one ++ book_rows f → three ≡ two ++ depend_rows b → four ≡ three ++ numbered row.Limit 0 f.limits
    → four ≡ rows_of (joined f b)
all_pushed f b head one two three four own recorded first books depends limits =
    let rows = numbered row.Limit 0 f.limits in
    let farm = then_more (row.Head head ∷ []) two three (book_rows f) (depend_rows b) depends (books ∙ ap (λ (rows : List FarmRow). rows ++ book_rows f) first) in
    limits ∙ (ap (λ (rs : List FarmRow). rs ++ rows) farm
    ∙ (ap (λ (h : HeadRow). row.Head h ∷ ((book_rows f ++ depend_rows b) ++ rows)) own
    ∙ (recorded_are (joined f b) ∙ sym (ap (λ (c : Bool). if c then recorded_rows (joined f b) else []) recorded))))
