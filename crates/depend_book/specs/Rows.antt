-- The rows of depends at places, some of which are gone, and of each job the row that came last.
use Rattle.std.specs.Prelude.{ℕ, ◌≡◌, ◌==◌, ◌&&◌, ◌+◌, ◌<◌, ◌≤◌, ◌*◌, Bool, true, false, not, List, [], ◌∷◌, ◌++◌, map, filter, length, Option, None}
use Rattle.std.specs.Prelude.{Some, nat_eq, if◌then◌else◌}
use Rattle.indexmap.specs.IndexMap.{IndexMap, get, index_map_len, spare}
use Rattle.farm_types.specs.declared.depend.DependRow.{DependRow}
use Rattle.farm_types.specs.declared.limits.TheConstants.{MOST_DEPENDS}
use Rattle.farm_types.specs.Finish.{waits_by, without_waiter}
use Rattle.depend_book.specs.declared.row_list.RowPlace.{RowPlace}
use Rattle.depend_book.specs.Book.{waits_in_one}

-- the rows in the order of their numbers, and the next number
pub record RowLists : Type 0 where
  pub rows : List DependRow
  pub next : ℕ

abbrev pub no_rows : RowLists
no_rows = record { rows = []; next = 1 }

abbrev pub with_row : RowLists → DependRow → RowLists
with_row r d = record { rows = r.rows ++ d ∷ []; next = r.next + 1 }

abbrev pub rows_skipped : RowLists → ℕ → RowLists
rows_skipped r next = record r { next = next }

-- a row of that number goes, in which the job waits
pub record IsTaken (job depend : ℕ) (olds news : List DependRow) : Type 0 where
  pub waits : waits_in_one job olds depend ≡ true
  pub left : news ≡ filter (λ (d : DependRow). not (d.depend == depend)) olds
  pub fewer : length news < length olds

-- the job waits in none of the rows
pub record WaitsInNone (job : ℕ) (rows : List DependRow) : Type 0 where
  pub kept : without_waiter job rows ≡ rows
  pub none : (n : ℕ) → waits_in_one job rows n ≡ false

-- ---- places

abbrev pub is_there : RowPlace → Bool
is_there x = not x.gone

abbrev pub place_key : RowPlace → ℕ
place_key x = x.row.depend

abbrev pub row_here : RowPlace → DependRow
row_here x = x.row

-- the rows that aren't gone
abbrev pub rows_there : List RowPlace → List DependRow
rows_there xs = map row_here (filter is_there xs)

abbrev pub emptied : RowPlace → RowPlace
emptied x = record x { gone = true }

abbrev pub emptied_by : ℕ → RowPlace → RowPlace
emptied_by n x = if x.row.depend == n then emptied x else x

abbrev pub met_place : RowPlace → RowPlace
met_place x = record x { row = record x.row { met_all = true } }

abbrev pub satisfied_place : ℕ → RowPlace → RowPlace
satisfied_place n x = if x.row.depend == n then met_place x else x

-- what stands as older at the place of that number
abbrev pub older_of : ℕ → List RowPlace → Option ℕ
older_of n [] = None
older_of n (x ∷ xs) = if x.row.depend == n then x.older else older_of n xs

abbrev pub satisfied_places : List ℕ → List RowPlace → List RowPlace
satisfied_places [] xs = xs
satisfied_places (n ∷ ns) xs = satisfied_places ns (map (satisfied_place n) xs)

-- the row at a place, unless it is gone
abbrev pub there_at : Option RowPlace → Option DependRow
there_at None = None
there_at (Some x) = if is_there x then Some x.row else None

-- ---- the last row of each job

abbrev pub is_of : ℕ → RowPlace → Bool
is_of job x = is_there x && waits_by job x.row

abbrev pub with_last : RowPlace → (ℕ → Option ℕ) → ℕ → Option ℕ
with_last x seen job = if is_of job x then Some x.row.depend else seen job

abbrev pub none_seen : ℕ → Option ℕ
none_seen job = None

-- the number of the job's last row among the places, or what was seen before them
abbrev pub last_from : (ℕ → Option ℕ) → List RowPlace → ℕ → Option ℕ
last_from seen [] job = seen job
last_from seen (x ∷ xs) job = last_from (with_last x seen) xs job

-- each place that isn't gone has the number of the job's row before it
abbrev pub AreChained : (ℕ → Option ℕ) → List RowPlace → Type 0
AreChained seen [] = Unit {0}
AreChained seen (x ∷ xs) = (is_there x ≡ true → x.older ≡ seen x.row.waiter.job) × AreChained (with_last x seen) xs

abbrev pub flat : Option (Option ℕ) → Option ℕ
flat None = None
flat (Some o) = o

abbrev pub last_in : {S : Type 0} → IndexMap ℕ (Option ℕ) S → ℕ → Option ℕ
last_in newest job = flat (get nat_eq newest job)

-- the chains and the last rows are those of the places, and the last rows of all places have room
pub record KeepsPlaces {S : Type 0} (places : List RowPlace) (newest : IndexMap ℕ (Option ℕ) S) : Type 0 where
  pub chained : AreChained none_seen places
  pub last : (job : ℕ) → last_in newest job ≡ last_from none_seen places job
  pub fewer : index_map_len newest ≤ length places
  pub room : 2 * MOST_DEPENDS ≤ index_map_len newest + spare newest
