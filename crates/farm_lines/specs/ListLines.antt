-- What list a line asks for, or its first fault: the list's word, then the job where the list is one of a job's, then the place from which it is shown.
use Rattle.std.specs.Prelude.{ℕ, List, [], ◌∷◌, codes, Result, Ok, Err, bytes_eq, if◌then◌else◌}
use Rattle.serde_json.specs.Data.{Members}
use Rattle.cue_json.specs.Fields.{Fault, WrongKind, ◌>>=◌, text_at, others_at}
use Rattle.farm_lines.specs.declared.query.Listed.{Listed}
use Rattle.farm_lines.specs.declared.query.Listed.TheVariants as listed
use Rattle.farm_lines.specs.declared.query.Query.{Query}
use Rattle.farm_lines.specs.Fields.{name_at, or_default}
use Rattle.farm_lines.specs.Spec.{number_at}

-- a list of the job that is named
abbrev pub of_job_at : (List ℕ → Listed) → Members → Result Listed Fault
of_job_at lists ms = name_at (codes "job") ms >>= λ job. Ok (lists job)

-- the list that the word names
abbrev pub by_word : Members → List ℕ → Result Listed Fault
by_word ms word =
    if bytes_eq word (codes "shows") then Ok listed.Shows
    else (if bytes_eq word (codes "allocs") then Ok listed.Allocs
    else (if bytes_eq word (codes "subs") then Ok listed.Subs
    else (if bytes_eq word (codes "limits") then Ok listed.Limits
    else (if bytes_eq word (codes "hosts") then Ok listed.Hosts
    else (if bytes_eq word (codes "jobs") then Ok listed.Jobs
    else (if bytes_eq word (codes "layers") then of_job_at listed.Layers ms
    else (if bytes_eq word (codes "frames") then of_job_at listed.Frames ms
    else (if bytes_eq word (codes "depends") then of_job_at listed.Depends ms
    else (if bytes_eq word (codes "procs") then Ok listed.Procs
    else Err (WrongKind (codes "what")))))))))))

abbrev pub listed_at : Members → Result Listed Fault
listed_at ms = text_at (codes "what") ms >>= by_word ms

abbrev pub farm_keys : List (List ℕ)
farm_keys = codes "from" ∷ codes "op" ∷ codes "what" ∷ []

abbrev pub of_job_keys : List (List ℕ)
of_job_keys = codes "from" ∷ codes "job" ∷ codes "op" ∷ codes "what" ∷ []

-- the keys of a list, the job's among them where the list is one of a job's
abbrev pub query_keys : Listed → List (List ℕ)
query_keys (listed.Layers job) = of_job_keys
query_keys (listed.Frames job) = of_job_keys
query_keys (listed.Depends job) = of_job_keys
query_keys other = farm_keys

unfoldable pub query_at : Members → Result Query Fault
query_at ms =
    listed_at ms >>= λ what. or_default 0 number_at (codes "from") ms >>= λ from. others_at (query_keys what) ms >>= λ none.
    Ok (record { what = what; from = from })
