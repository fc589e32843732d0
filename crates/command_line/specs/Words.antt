-- The words of a command line that can't be read.
use Rattle.std.specs.Prelude.{◌≡◌, ◌↔◌, ℕ, List, [], Result, Ok, Err}
use Rattle.std.specs.declared.alloc.AllocError.{AllocError}
use Rattle.std.specs.declared.io.ErrorKind.{ErrorKind}
use Rattle.std.specs.declared.io.ErrorKind.TheVariants.{OutOfMemory}

-- there are none, or memory ran out, as the kind of the error says
abbrev pub IsUnread : ErrorKind → Result (List (List ℕ)) AllocError → Type 0
IsUnread kind (Ok words) = (kind ≡ OutOfMemory → ⊥) × (words ≡ [])
IsUnread kind (Err none) = kind ≡ OutOfMemory
