-- What the book of allocations answers.
use Rattle.std.specs.Prelude.{ℕ, List, length, is_some, nat_lt, Result, Ok, Err, if◌then◌else◌}
use Rattle.farm_types.specs.declared.rows.AllocRow.{AllocRow}
use Rattle.farm_types.specs.Farm.{alloc_from}
use Rattle.alloc_tags.specs.declared.allocs.AllocRefusal.{AllocRefusal}
use Rattle.alloc_tags.specs.declared.allocs.AllocRefusal.TheVariants.{Exists, Full}
use Rattle.farm_types.specs.declared.limits.TheConstants.{MOST_ALLOCS}

-- the number that an allocation of that name would get, or why there can be none
abbrev pub check_of : List AllocRow → List ℕ → Result ℕ AllocRefusal
check_of allocs name =
    if is_some (alloc_from 0 name allocs) then Err Exists
    else (if nat_lt (length allocs) MOST_ALLOCS then Ok (length allocs)
    else Err Full)
