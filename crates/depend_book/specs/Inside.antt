-- What the book of depends keeps true of its fields.
use Rattle.depend_book.specs.Book.{DependLists, IsBook}
use Rattle.depend_book.specs.declared.depends.Depends.TheInside.{Inside}

abbrev pub lists_of : Inside → DependLists
lists_of a = record { rows = a.rows.rows; graph = a.graph; next = a.rows.next }

pub record KeepsBook (a : Inside) : Type 0 where
  pub book : IsBook (lists_of a)
