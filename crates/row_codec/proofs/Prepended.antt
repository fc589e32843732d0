-- What was read of a list's rest, behind what was read of its front.
use Rattle.std.specs.Prelude.{◌++◌, List, Result, Ok}
use Rattle.cue_json.specs.Fields.{◌>>=◌}

abbrev pub prepend : {X E : Type 0} → List X → Result (List X) E → Result (List X) E
prepend front rest = rest >>= λ xs. Ok (front ++ xs)
