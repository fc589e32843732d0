-- The depends and the marks among the rows of a book of depends are the book's; and a farm without depends beside them is the farm.
use Rattle.std.proofs.Common.{◌≡◌, ◌∙◌, ℕ, List, [], ◌∷◌, ◌++◌, map, refl, sym, ap}
use Rattle.farm_types.specs.declared.depend.DependRow.{DependRow}
use Rattle.farm_types.specs.declared.depend.MetRow.{MetRow}
use Rattle.farm_types.specs.Farm.{Farm}
use Rattle.farm_rows.specs.declared.farm_row.FarmRow.{FarmRow}
use Rattle.farm_rows.specs.declared.farm_row.FarmRow.TheVariants as row
use Rattle.farm_rows.specs.Changes.{beside}
use Rattle.depend_book.specs.Book.{joined, marks_of, no_depends}
use Rattle.farm_books.specs.Books.{FarmBooks, IsWhole, depends_of}
use Rattle.farm_core.specs.AllRows.{depend_rows, depends_listed, marks_listed}

-- ---- one kind of rows

no_depends_listed : (ms : List MetRow) → depends_listed (map row.Met ms) ≡ []
no_depends_listed [] = refl
no_depends_listed (m ∷ ms) = no_depends_listed ms

all_marks_listed : (ms : List MetRow) → marks_listed (map row.Met ms) ≡ ms
all_marks_listed [] = refl
all_marks_listed (m ∷ ms) = ap (λ (rest : List MetRow). m ∷ rest) (all_marks_listed ms)

depends_back : (ds : List DependRow) (ms : List MetRow) → depends_listed (map row.Depend ds ++ map row.Met ms) ≡ ds
depends_back [] ms = no_depends_listed ms
depends_back (d ∷ ds) ms = ap (λ (rest : List DependRow). d ∷ rest) (depends_back ds ms)

marks_back : (ds : List DependRow) (ms : List MetRow) → marks_listed (map row.Depend ds ++ map row.Met ms) ≡ ms
marks_back [] ms = all_marks_listed ms
marks_back (d ∷ ds) ms = marks_back ds ms

-- ---- the farm

module _ (v : FarmBooks) (whole : IsWhole v) where
  pub beside_listed : (g : Farm) (rows : List FarmRow) (ds : List DependRow) (ms : List MetRow) (next : ℕ) → g ≡ joined v.farm no_depends → rows ≡ depend_rows (depends_of v)
      → ds ≡ depends_listed rows → ms ≡ marks_listed rows → next ≡ v.farm.next_depend → beside g ds ms next ≡ v.farm
  beside_listed g rows ds ms next rest listed depends marks last =
      let all_depends : ds ≡ v.farm.depends = depends ∙ (ap depends_listed listed ∙ depends_back v.farm.depends (marks_of v.graph.depends)) in
      let all_marks : ms ≡ v.farm.met = marks ∙ (ap marks_listed listed ∙ (marks_back v.farm.depends (marks_of v.graph.depends) ∙ sym whole.met)) in
      λ i. beside (rest i) (all_depends i) (all_marks i) (last i)
