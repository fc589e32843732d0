-- The book of depends of rows and marks that a farm has.
use Rattle.std.specs.Prelude.{ℕ, ◌≡◌, ◌==◌, ◌&&◌, Bool, true, false, List, [], ◌∷◌, drop, length, map, slice_get, take, if◌then◌else◌}
use Rattle.farm_types.specs.declared.depend.DependRow.{DependRow}
use Rattle.farm_types.specs.declared.depend.Group.{Group}
use Rattle.farm_types.specs.declared.depend.MetRow.{MetRow}
use Rattle.farm_types.specs.declared.limits.TheConstants.{SLOT_LIMIT}
use Rattle.farm_types.specs.declared.slot_row.SlotRow.{SlotRow}
use Rattle.farm_types.specs.Depends.{groups_of, is_done}
use Rattle.farm_types.specs.Farm.{Farm, for_some}
use Rattle.farm_types.specs.Rising.{IsRising, depend_key}
use Rattle.farm_types.specs.Settle.{is_met_now, met_rows}
use Rattle.farm_rows.specs.Changes.{beside}
use Rattle.depend_graph.specs.Graph.{Watch, Watched, is_flagged}
use Rattle.depend_book.specs.Book.{DependLists, joined}
use Rattle.depend_book.specs.Restored.{CanRestore, skipped, with_restored}
use Rattle.farm_books.specs.Books.{FarmBooks, depends_of, with_depends}
use Rattle.depend_book.specs.Fits.{Fits}

-- the book is that of the depends beside the farm
pub record IsRestored (f : Farm) (depends : List DependRow) (met : List MetRow) (next : ℕ) (b : DependLists) : Type 0 where
  pub joined_is : joined f b ≡ beside f depends met next
  pub fits : Fits f b

-- ---- groups

-- the groups of a depend, and none of one that is satisfied
abbrev pub groups_for : Farm → DependRow → List Group
groups_for f d = if d.met_all then [] else groups_of f d

abbrev pub watched_in : Farm → DependRow → Group → Watched
watched_in f d g = record { group = g; met = is_met_now f d g }

abbrev pub watch_in : Farm → DependRow → Watch
watch_in f d = record { depend = d.depend; groups = map (watched_in f d) (groups_for f d) }

-- ---- marks in order

abbrev pub is_mark_of : ℕ → Group → MetRow → Bool
is_mark_of depend g m = m.depend == depend && m.position == g.position

-- the first of the marks is the group's
abbrev pub is_next : ℕ → Group → List MetRow → Bool
is_next depend g met = for_some (slice_get met 0) (is_mark_of depend g)

abbrev pub after_mark : Bool → List MetRow → List MetRow
after_mark true met = drop 1 met
after_mark false met = met

-- whether each of the groups is marked, where the marks are those of the depend and of later ones
abbrev pub marks_along : ℕ → List Group → List MetRow → List Bool
marks_along depend [] met = []
marks_along depend (g ∷ gs) met = is_next depend g met ∷ marks_along depend gs (after_mark (is_next depend g met) met)

-- the marks behind those of the groups
abbrev pub rest_along : ℕ → List Group → List MetRow → List MetRow
rest_along depend [] met = met
rest_along depend (g ∷ gs) met = rest_along depend gs (after_mark (is_next depend g met) met)

-- the book with the row and its groups, where the marks are those of the depend and of later ones
abbrev pub restored_in : DependLists → DependRow → List Group → List MetRow → DependLists
restored_in b d groups met = with_restored (skipped b d.depend) d groups (marks_along d.depend groups met)

-- the same of books
abbrev pub row_restored : FarmBooks → DependRow → List MetRow → FarmBooks
row_restored v d met = with_depends v (restored_in (depends_of v) d (groups_for v.farm d) met)

-- which fits them
abbrev pub CanRestoreRow : FarmBooks → DependRow → List MetRow → Type 0
CanRestoreRow v d met = CanRestore (skipped (depends_of v) d.depend) d (groups_for v.farm d) (marks_along d.depend (groups_for v.farm d) met)

-- ---- on the way

-- no depends, and the flags of the frames in the first slots
pub record IsFlagging (slots : List SlotRow) (count : ℕ) (b : DependLists) : Type 0 where
  pub rows : b.rows ≡ []
  pub depends : b.graph.depends ≡ []
  pub next : b.next ≡ 1
  pub flags_long : length b.graph.done ≡ SLOT_LIMIT
  pub flags : (slot : ℕ) → is_flagged b.graph.done slot ≡ is_done (take count slots) slot

-- no depends, and the flags of all frames
pub record IsFlagged (slots : List SlotRow) (b : DependLists) : Type 0 where
  pub rows : b.rows ≡ []
  pub depends : b.graph.depends ≡ []
  pub next : b.next ≡ 1
  pub flags : (slot : ℕ) → is_flagged b.graph.done slot ≡ is_done slots slot

-- the first of the farm's depends are put back, and these marks are left
pub record IsRestoring (f : Farm) (count : ℕ) (b : DependLists) (left : List MetRow) : Type 0 where
  pub rows : b.rows ≡ take count f.depends
  pub depends : b.graph.depends ≡ map (watch_in f) (take count f.depends)
  pub flags : (slot : ℕ) → is_flagged b.graph.done slot ≡ is_done f.slots slot
  pub rise : IsRising depend_key b.next (drop count f.depends) f.next_depend
  pub left_is : left ≡ met_rows f (drop count f.depends)
