-- Depends that go, and frames that aren't done any more, in books of which the depends were others.
use Rattle.std.proofs.Common.{◌≡◌, ℕ, Option, None, Some, refl}
use Rattle.depend_book.specs.Book.{DependLists}
use Rattle.farm_books.specs.Books.{FarmBooks, with_depends}
use Rattle.farm_depends.specs.Follow.{drop_from, drop_in, reopened_from, reopened_in}

pub drop_is : (v : FarmBooks) (b : DependLists) (o : Option ℕ) → drop_from (with_depends v b) o ≡ with_depends v (drop_in b o)
drop_is v b None = refl
drop_is v b (Some depend) = refl

pub reopened_is : (v : FarmBooks) (b : DependLists) (o : Option ℕ) → reopened_from (with_depends v b) o ≡ with_depends v (reopened_in b o)
reopened_is v b None = refl
reopened_is v b (Some slot) = refl
