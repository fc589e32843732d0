-- A page of a list, as its rows are listed one by one.
use Rattle.std.specs.Prelude.{ℕ, ◌&&◌, ◌+◌, ◌-◌, ◌++◌, ◌∷◌, [], Bool, List, fold, length, min, nat_le, nat_lt, if◌then◌else◌}
use Rattle.farm_lines.specs.declared.list_row.ListRow.{ListRow}
use Rattle.farm_lines.specs.declared.reply.ListReply.{ListReply}
use Rattle.cue_query.specs.declared.page.Page.{Page}
use Rattle.farm_lines.specs.declared.limits.TheConstants.{ROWS_EACH}

-- the page from that place on, before any row is listed
abbrev pub new_page : ℕ → Page
new_page from = record { from = from; seen = 0; rows = [] }

-- the next row stands on the page
abbrev pub takes_next : Page → Bool
takes_next page = nat_le page.from page.seen && nat_lt (length page.rows) ROWS_EACH

-- how many of the next rows, of which so many are left, come before one that stands on the page: those before its place, or all where it is full
abbrev pub passed_by : Page → ℕ → ℕ
passed_by page left = if nat_lt (length page.rows) ROWS_EACH then min (page.from - page.seen) left else left

-- the page after one row more
abbrev pub offered : Page → ListRow → Page
offered page row = record { from = page.from; seen = page.seen + 1; rows = if takes_next page then page.rows ++ row ∷ [] else page.rows }

-- the page after these rows
abbrev pub offered_all : Page → List ListRow → Page
offered_all page rows = fold offered page rows

-- the rows on the page, and how many were listed
abbrev pub reply_of : Page → ListReply
reply_of page = record { rows = page.rows; total = page.seen }
