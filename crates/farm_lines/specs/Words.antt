-- The words of lists; and numbers as JSON values.
use Rattle.std.specs.Prelude.{ℕ, ℤ, pos, negsuc, List, codes, bytes_eq, Option, None, Some, if◌then◌else◌}
use Rattle.serde_json.specs.Data.{Data, number, unsigned, negative}
use Rattle.farm_lines.specs.declared.query.Listed.{Listed}
use Rattle.farm_lines.specs.declared.query.Listed.TheVariants as listed
use Rattle.farm_lines.specs.declared.what.What.{What}
use Rattle.farm_lines.specs.declared.what.What.TheVariants as what

abbrev pub whole : ℕ → Data
whole n = number (unsigned n)

-- a number with a sign
abbrev pub signed : ℤ → Data
signed (pos n) = number (unsigned n)
signed (negsuc n) = number (negative (negsuc n))

abbrev pub what_word : What → List ℕ
what_word what.Shows = codes "shows"
what_word what.Allocs = codes "allocs"
what_word what.Subs = codes "subs"
what_word what.Limits = codes "limits"
what_word what.Hosts = codes "hosts"
what_word what.Jobs = codes "jobs"
what_word what.Layers = codes "layers"
what_word what.Frames = codes "frames"
what_word what.Depends = codes "depends"
what_word what.Procs = codes "procs"

-- the list that a word names
abbrev pub what_of : List ℕ → Option What
what_of word =
    if bytes_eq word (codes "shows") then Some what.Shows
    else (if bytes_eq word (codes "allocs") then Some what.Allocs
    else (if bytes_eq word (codes "subs") then Some what.Subs
    else (if bytes_eq word (codes "limits") then Some what.Limits
    else (if bytes_eq word (codes "hosts") then Some what.Hosts
    else (if bytes_eq word (codes "jobs") then Some what.Jobs
    else (if bytes_eq word (codes "layers") then Some what.Layers
    else (if bytes_eq word (codes "frames") then Some what.Frames
    else (if bytes_eq word (codes "depends") then Some what.Depends
    else (if bytes_eq word (codes "procs") then Some what.Procs
    else None)))))))))

-- what is listed
abbrev pub what_listed : Listed → What
what_listed listed.Shows = what.Shows
what_listed listed.Allocs = what.Allocs
what_listed listed.Subs = what.Subs
what_listed listed.Limits = what.Limits
what_listed listed.Hosts = what.Hosts
what_listed listed.Jobs = what.Jobs
what_listed (listed.Layers job) = what.Layers
what_listed (listed.Frames job) = what.Frames
what_listed (listed.Depends job) = what.Depends
what_listed listed.Procs = what.Procs
