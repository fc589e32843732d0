-- Whole books: the farm is the one with the book of its depends.
use Rattle.std.proofs.Common.{◌≡◌, ◌∙◌, refl, sym, ap, subst}
use Rattle.farm_types.specs.Farm.{Farm}
use Rattle.farm_types.specs.Kept.{IsKeptFarm}
use Rattle.farm_rows.specs.Changes.{beside}
use Rattle.depend_book.specs.Book.{DependLists, joined, marks_of}
use Rattle.depend_book.specs.Fits.{Fits, IsBeside}
use Rattle.depend_book.proofs.Pairs.{groups_joined}
use Rattle.farm_books.specs.Books.{FarmBooks, IsWhole, depends_of, with_depends, with_farm}

-- where the farm's marks are those of the graph, nothing changes by joining its own depends
pub own_depends : (v : FarmBooks) → v.farm.met ≡ marks_of v.graph.depends → joined v.farm (depends_of v) ≡ v.farm
own_depends v met = λ i. record v.farm { met = sym met i }

pub own_books : (v : FarmBooks) → v.farm.met ≡ marks_of v.graph.depends → v ≡ with_depends v (depends_of v)
own_books v met = λ i. with_farm v (sym (own_depends v met) i)

-- the farm with a book of depends that fits it has that book too
fits_joined : (f : Farm) (b : DependLists) → Fits f b → Fits (joined f b) b
fits_joined f b fits = record { done = fits.done; groups = λ i d w row watch unmet. fits.groups i d w row watch unmet ∙ sym (groups_joined f b d) }

-- the books of a farm with a book of depends beside it
pub beside_whole : (f : Farm) (b : DependLists) → IsBeside f b → IsWhole (record { farm = joined f b; graph = b.graph })
beside_whole f b beside = record { kept = beside.kept; met = refl; fits = fits_joined f b beside.fits }

module _ (v : FarmBooks) (whole : IsWhole v) where
  pub whole_farm : joined v.farm (depends_of v) ≡ v.farm
  whole_farm = own_depends v whole.met

  pub whole_beside : IsBeside v.farm (depends_of v)
  whole_beside = record { kept = subst IsKeptFarm (sym whole_farm) whole.kept; fits = whole.fits }

  -- what holds of the farm with its depends holds of the farm
  pub of_whole : (P : Farm → Type 0) → P (joined v.farm (depends_of v)) → P v.farm
  of_whole P holds = subst P whole_farm holds

  pub to_whole : (P : Farm → Type 0) → P v.farm → P (joined v.farm (depends_of v))
  to_whole P holds = subst P (sym whole_farm) holds

  -- the book of the depends of a farm with the same ones
  pub own_lists : (g : Farm) → beside g v.farm.depends v.farm.met v.farm.next_depend ≡ g → depends_of v ≡ depends_of (with_farm v g)
  own_lists g own i = record { rows = (own i).depends; graph = v.graph; next = (own i).next_depend }

  -- with another farm that has the same depends and fits them the books are whole
  pub whole_then : (g : Farm) → beside g v.farm.depends v.farm.met v.farm.next_depend ≡ g → IsKeptFarm g → Fits g (depends_of v) → IsWhole (with_farm v g)
  whole_then g own kept fits = record { kept = kept; met = sym (ap (λ (h : Farm). h.met) own) ∙ whole.met; fits = subst (Fits g) (own_lists g own) fits }
