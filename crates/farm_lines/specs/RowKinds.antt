-- Which keys the rows of each list have.
use Rattle.std.specs.Prelude.{ℕ, ◌≡◌, List, [], ◌∷◌, codes}
use Rattle.std.specs.List.{All}
use Rattle.farm_lines.specs.declared.list_row.ListRow.{ListRow}
use Rattle.farm_lines.specs.declared.list_row.ListRow.TheVariants as row
use Rattle.farm_lines.specs.declared.list_row.RowKind.{RowKind}
use Rattle.farm_lines.specs.declared.list_row.RowKind.TheVariants as kind
use Rattle.farm_lines.specs.declared.what.What.{What}
use Rattle.farm_lines.specs.declared.what.What.TheVariants as what

-- the keys of a row
abbrev pub kind_of_row : ListRow → RowKind
kind_of_row (row.Name name) = kind.Name
kind_of_row (row.Sub s) = kind.Sub
kind_of_row (row.Limit l) = kind.Limit
kind_of_row (row.Host h) = kind.Host
kind_of_row (row.Job j) = kind.Job
kind_of_row (row.Layer l) = kind.Layer
kind_of_row (row.Frame x) = kind.Frame
kind_of_row (row.Depend d) = kind.Depend
kind_of_row (row.Proc p) = kind.Proc

-- the keys of the rows of a list
abbrev pub kind_of_what : What → RowKind
kind_of_what what.Shows = kind.Name
kind_of_what what.Allocs = kind.Name
kind_of_what what.Subs = kind.Sub
kind_of_what what.Limits = kind.Limit
kind_of_what what.Hosts = kind.Host
kind_of_what what.Jobs = kind.Job
kind_of_what what.Layers = kind.Layer
kind_of_what what.Frames = kind.Frame
kind_of_what what.Depends = kind.Depend
kind_of_what what.Procs = kind.Proc

-- they are, in byte order
abbrev pub row_keys : RowKind → List (List ℕ)
row_keys kind.Name = codes "name" ∷ []
row_keys kind.Sub = codes "alloc" ∷ codes "booked" ∷ codes "burst" ∷ codes "show" ∷ codes "size" ∷ []
row_keys kind.Limit = codes "most" ∷ codes "name" ∷ codes "running" ∷ []
row_keys kind.Host =
    codes "alloc" ∷ codes "boot" ∷ codes "cores" ∷ codes "heard" ∷ codes "lock" ∷ codes "memory" ∷ codes "name" ∷ codes "state" ∷ codes "used_cores" ∷ codes "used_memory" ∷ []
row_keys kind.Job =
    codes "dead" ∷ codes "depend" ∷ codes "eaten" ∷ codes "name" ∷ codes "paused" ∷ codes "priority" ∷ codes "running" ∷ codes "show" ∷ codes "state" ∷ codes "succeeded"
    ∷ codes "waiting" ∷ []
row_keys kind.Layer =
    codes "cores" ∷ codes "dead" ∷ codes "depend" ∷ codes "eaten" ∷ codes "limit" ∷ codes "memory" ∷ codes "name" ∷ codes "range" ∷ codes "running" ∷ codes "succeeded"
    ∷ codes "waiting" ∷ []
row_keys kind.Frame = codes "frame" ∷ codes "retries" ∷ codes "state" ∷ codes "version" ∷ []
row_keys kind.Depend = codes "depend" ∷ codes "kind" ∷ codes "satisfied" ∷ []
row_keys kind.Proc = codes "cores" ∷ codes "frame" ∷ codes "host" ∷ codes "job" ∷ codes "memory" ∷ codes "slot" ∷ codes "version" ∷ []

-- each row has these keys
abbrev pub AreOfKind : RowKind → List ListRow → Type 0
AreOfKind keys rows = All (λ row. kind_of_row row ≡ keys) rows
