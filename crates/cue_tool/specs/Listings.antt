-- A list as a table: the keys of its rows as the head, and a cell for each.
use Rattle.std.specs.Prelude.{ℕ, Bool, true, false, List, [], ◌∷◌, map, fold, ◌++◌, codes, decimal, Option, None, Some, if◌then◌else◌}
use Rattle.std.specs.List.{list_all}
use Rattle.cue_tables.specs.Tables.{table_text}
use Rattle.state_names.specs.Words.{host_word, job_word, kind_word, lock_word, state_word}
use Rattle.farm_lines.specs.declared.list_row.ListRow.{ListRow}
use Rattle.farm_lines.specs.declared.list_row.ListRow.TheVariants as row
use Rattle.farm_lines.specs.declared.list_row.RowKind.{RowKind}
use Rattle.farm_lines.specs.declared.list_row.RowKind.TheVariants as kind
use Rattle.farm_lines.specs.declared.reply.ListReply.{ListReply}
use Rattle.farm_lines.specs.declared.what.What.{What}
use Rattle.farm_lines.specs.RowKinds.{kind_of_row, kind_of_what, row_keys}
use Rattle.farm_lines.specs.Words.{what_of}

abbrev pub flag_text : Bool → List ℕ
flag_text true = codes "true"
flag_text false = codes "false"

-- the cells of a row, in the order of its keys
abbrev pub cells_of : ListRow → List (List ℕ)
cells_of (row.Name name) = name ∷ []
cells_of (row.Sub s) = s.alloc ∷ decimal s.booked ∷ decimal s.burst ∷ s.show ∷ decimal s.size ∷ []
cells_of (row.Limit l) = decimal l.most ∷ l.name ∷ decimal l.running ∷ []
cells_of (row.Host h) =
    h.alloc ∷ decimal h.boot ∷ decimal h.cores ∷ decimal h.heard ∷ lock_word h.lock ∷ decimal h.memory ∷ h.name ∷ host_word h.state ∷ decimal h.used_cores ∷ decimal h.used_memory ∷ []
cells_of (row.Job j) =
    decimal j.dead ∷ decimal j.depend ∷ decimal j.eaten ∷ j.name ∷ flag_text j.paused ∷ decimal j.priority ∷ decimal j.running ∷ j.show ∷ job_word j.state ∷ decimal j.succeeded
    ∷ decimal j.waiting ∷ []
cells_of (row.Layer l) =
    decimal l.cores ∷ decimal l.dead ∷ decimal l.depend ∷ decimal l.eaten ∷ l.limit ∷ decimal l.memory ∷ l.name ∷ l.range ∷ decimal l.running ∷ decimal l.succeeded
    ∷ decimal l.waiting ∷ []
cells_of (row.Frame x) = x.frame ∷ decimal x.retries ∷ state_word x.state ∷ decimal x.version ∷ []
cells_of (row.Depend d) = decimal d.depend ∷ kind_word d.kind ∷ flag_text d.satisfied ∷ []
cells_of (row.Proc p) = decimal p.cores ∷ p.frame ∷ p.host ∷ p.job ∷ decimal p.memory ∷ decimal p.slot ∷ decimal p.version ∷ []

-- more cells at the end, added one by one
abbrev pub added : List (List ℕ) → List (List ℕ) → List (List ℕ)
added before more = fold (λ cells cell. cells ++ cell ∷ []) before more

-- whether a row has these keys
abbrev pub is_kind : RowKind → RowKind → Bool
is_kind kind.Name kind.Name = true
is_kind kind.Sub kind.Sub = true
is_kind kind.Limit kind.Limit = true
is_kind kind.Host kind.Host = true
is_kind kind.Job kind.Job = true
is_kind kind.Layer kind.Layer = true
is_kind kind.Frame kind.Frame = true
is_kind kind.Depend kind.Depend = true
is_kind kind.Proc kind.Proc = true
is_kind keys other = false

abbrev pub have_keys : RowKind → List ListRow → Bool
have_keys keys rows = list_all (λ r. is_kind keys (kind_of_row r)) rows

-- the rows as a table, where each has these keys
abbrev pub table_of : RowKind → List ListRow → Option (List ℕ)
table_of keys rows = if have_keys keys rows then Some (table_text (row_keys keys) (map cells_of rows)) else None

abbrev pub listed_as : Option What → ListReply → Option (List ℕ)
listed_as None list = None
listed_as (Some what) list = table_of (kind_of_what what) list.rows

-- the table of the list that a word names; none where it names no list, or a row hasn't the keys of that list
abbrev pub listing_of : List ℕ → ListReply → Option (List ℕ)
listing_of word list = listed_as (what_of word) list
