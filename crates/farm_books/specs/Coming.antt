-- Depends that come together.
use Rattle.std.specs.Prelude.{List, [], ◌∷◌}
use Rattle.depend_graph.specs.Spare.{SpareLists, spare_of}
use Rattle.depend_book.specs.Book.{CanAdd, DependLists, with_new}
use Rattle.depend_book.specs.declared.new_depend.NewDepend.{NewDepend}

-- the memory that a depend needs
abbrev pub spare_for : NewDepend → SpareLists
spare_for n = spare_of n.groups

-- in turn
abbrev pub with_new_all : DependLists → List NewDepend → DependLists
with_new_all b [] = b
with_new_all b (n ∷ ns) = with_new_all (with_new b n) ns

-- each depend that comes fits the book in turn
abbrev pub CanAddAll : DependLists → List NewDepend → Type 0
CanAddAll b [] = Unit {0}
CanAddAll b (n ∷ ns) = CanAdd b n × CanAddAll (with_new b n) ns
