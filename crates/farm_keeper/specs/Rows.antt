-- Rows as a map from kind and id to bytes, and what a batch makes of them.
use Rattle.std.specs.Prelude.{◌≡◌, ℕ, Bool, List, [], ◌∷◌, ◌++◌, map}
use Rattle.std.specs.declared.cmp.Ordering.{Ordering}
use Rattle.std.specs.Ordering.{eq_by_cmp, nat_cmp, ordering_then}
use Rattle.std.specs.List.{IsDistinct, list_any}
use Rattle.std.specs.FinMap.{FinMap, entries, from_entries, insert, remove}
use Rattle.farm_keeper.specs.declared.row.Row.{Row}
use Rattle.farm_keeper.specs.declared.row.Batch.{Batch}

-- a kind and an id
abbrev pub Key : Type 0
Key = ℕ × ℕ

-- by kind, and then by id
abbrev pub key_cmp : Key → Key → Ordering
key_cmp a b = ordering_then (nat_cmp a.0 b.0) (nat_cmp a.1 b.1)

-- the bytes at each kind and id that has a row
abbrev pub Rows : Type 0
Rows = FinMap key_cmp (List ℕ)

abbrev pub key_of : Row → Key
key_of row = (row.kind, row.id)

-- a row as an entry of the map
abbrev pub entry_of : Row → Key × List ℕ
entry_of row = (key_of row, row.bytes)

-- the list has each row once, by kind and then by id
abbrev pub Lists : List Row → Rows → Type 0
Lists list rows = map entry_of list ≡ entries rows

-- the map of a list of rows; the first counts where two have one kind and id
abbrev pub rows_from : List Row → Rows
rows_from list = from_entries (map entry_of list)

-- with rows put in turn, each in place of the one at its kind and id
abbrev pub put_all : List Row → Rows → Rows
put_all [] rows = rows
put_all (row ∷ more) rows = put_all more (insert rows (key_of row) row.bytes)

-- without the rows at these kinds and ids
abbrev pub delete_all : List Key → Rows → Rows
delete_all [] rows = rows
delete_all (key ∷ more) rows = delete_all more (remove rows key)

-- with all puts and all deletes of a batch
abbrev pub after : Batch → Rows → Rows
after batch rows = delete_all batch.deletes (put_all batch.puts rows)

-- the kinds and ids that a batch names
abbrev pub keys_of : Batch → List Key
keys_of batch = map key_of batch.puts ++ batch.deletes

-- whether the kind and id is one of these
abbrev pub is_among : List Key → Key → Bool
is_among keys key = list_any (eq_by_cmp key_cmp key) keys

-- no kind and id stands twice in the batch
abbrev pub NamesEachOnce : Batch → Type 0
NamesEachOnce batch = IsDistinct (eq_by_cmp key_cmp) (keys_of batch)
